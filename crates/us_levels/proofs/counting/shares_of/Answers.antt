use Rattle.std.specs.Result.{IfOk}
use Rattle.std.proofs.Common.{◌≡◌, ◌≤◌, List, length, map, All, sym, ap, subst, ◌∙◌}
use Rattle.std.proofs.lemmas.Result.{IfOk-weaker}
use Rattle.us_expr.specs.declared.queries.Cond.{Cond}
use Rattle.us_expr.specs.declared.queries.Query.{Query as QueryCode}
use Rattle.us_format.specs.Buffers.{buffers, size}
use Rattle.us_format.specs.Declaration.{Query, query_of}
use Rattle.us_format.specs.Program.{entries_in, shape_in}
use Rattle.us_format.specs.Reading.{limit}
use Rattle.us_matrix.specs.Map.{Map}
use Rattle.us_judge.specs.Views.{declaration_of}
use Rattle.us_judge.proofs.LawfulDeclarations.{accepted-declaration}
use Rattle.us_layout.specs.Splitting.{AreShares}
use Rattle.us_layout.proofs.Arranged.{All-of_map}
use Rattle.us_variables.specs.Counted.{IsCountable}
use Rattle.us_levels.specs.Shared.{lists_of, sizes_of}
use Rattle.us_levels.proofs.Acceptable.{head-countable}
use Rattle.us_levels.proofs.Joined.{lists-are}
use Rattle.us_levels.proofs.Sizes.{as-many, few-each, sizes-are}
use Rattle.us_levels.proofs.counting.shares_of.Goals as goal

pub split-requires-clause-countable : goal.split-requires-clause-countable
split-requires-clause-countable c =
    subst (λ (l : List QueryCode). All (λ q. IsCountable (shape_in c.args.matrix.now) (query_of q)) l) (sym c.as_slice-queries.ensures)
    (λ k d h. All-of_map (λ q. IsCountable (shape_in c.args.matrix.now) q) query_of c.args.head.now.queries
    (subst (λ (qs : List Query). All (λ q. IsCountable (shape_in c.args.matrix.now) q) qs) c.requires.queries (head-countable (shape_in c.args.matrix.now) c.args.format.now c.requires.valid c.requires.accepted)) k d h)

pub returns-clause-shares : goal.returns-clause-shares
returns-clause-shares c =
    subst (λ (qs : List Query). IfOk c.split.result (AreShares c.args.matrix.now qs (declaration_of c.args.format.now).conds)) (ap (λ (l : List QueryCode). map query_of l) c.as_slice-queries.ensures ∙ sym c.requires.queries)
    (subst (λ (cs : List Cond). IfOk c.split.result (AreShares c.args.matrix.now (map query_of c.as_slice-queries.result.now) cs)) (c.as_slice.ensures ∙ sym c.requires.conds) c.split.ensures)

pub returns-clause-count : goal.returns-clause-count
returns-clause-count c =
    IfOk-weaker c.split.result (AreShares c.args.matrix.now (declaration_of c.args.format.now).head (declaration_of c.args.format.now).conds) (λ (ms : List Map). length ms ≡ length (declaration_of c.args.format.now).parts)
    (λ ms s. as-many (declaration_of c.args.format.now) c.args.matrix.now ms (accepted-declaration c.args.format.now c.requires.valid c.requires.accepted) s)
    (subst (λ (qs : List Query). IfOk c.split.result (AreShares c.args.matrix.now qs (declaration_of c.args.format.now).conds)) (ap (λ (l : List QueryCode). map query_of l) c.as_slice-queries.ensures ∙ sym c.requires.queries)
    (subst (λ (cs : List Cond). IfOk c.split.result (AreShares c.args.matrix.now (map query_of c.as_slice-queries.result.now) cs)) (c.as_slice.ensures ∙ sym c.requires.conds) c.split.ensures))

pub returns-clause-few : goal.returns-clause-few
returns-clause-few c =
    IfOk-weaker c.split.result (AreShares c.args.matrix.now (declaration_of c.args.format.now).head (declaration_of c.args.format.now).conds) (λ (ms : List Map). All (λ m. length m.entries ≤ limit) ms)
    (λ ms s. few-each (declaration_of c.args.format.now) c.args.matrix.now ms (accepted-declaration c.args.format.now c.requires.valid c.requires.accepted) s c.requires.few)
    (subst (λ (qs : List Query). IfOk c.split.result (AreShares c.args.matrix.now qs (declaration_of c.args.format.now).conds)) (ap (λ (l : List QueryCode). map query_of l) c.as_slice-queries.ensures ∙ sym c.requires.queries)
    (subst (λ (cs : List Cond). IfOk c.split.result (AreShares c.args.matrix.now (map query_of c.as_slice-queries.result.now) cs)) (c.as_slice.ensures ∙ sym c.requires.conds) c.split.ensures))

pub returns-clause-sizes : goal.returns-clause-sizes
returns-clause-sizes c =
    IfOk-weaker c.split.result (AreShares c.args.matrix.now (declaration_of c.args.format.now).head (declaration_of c.args.format.now).conds)
    (λ (ms : List Map). sizes_of (declaration_of c.args.format.now).parts ms ≡ size (shape_in c.args.matrix.now) (declaration_of c.args.format.now) (entries_in c.args.matrix.now))
    (λ ms s. sizes-are (declaration_of c.args.format.now) c.args.matrix.now ms (accepted-declaration c.args.format.now c.requires.valid c.requires.accepted) s)
    (subst (λ (qs : List Query). IfOk c.split.result (AreShares c.args.matrix.now qs (declaration_of c.args.format.now).conds)) (ap (λ (l : List QueryCode). map query_of l) c.as_slice-queries.ensures ∙ sym c.requires.queries)
    (subst (λ (cs : List Cond). IfOk c.split.result (AreShares c.args.matrix.now (map query_of c.as_slice-queries.result.now) cs)) (c.as_slice.ensures ∙ sym c.requires.conds) c.split.ensures))

pub returns-clause-lists : goal.returns-clause-lists
returns-clause-lists c =
    IfOk-weaker c.split.result (AreShares c.args.matrix.now (declaration_of c.args.format.now).head (declaration_of c.args.format.now).conds)
    (λ (ms : List Map). lists_of (declaration_of c.args.format.now).parts ms ≡ buffers (shape_in c.args.matrix.now) (declaration_of c.args.format.now) (entries_in c.args.matrix.now))
    (λ ms s. lists-are (declaration_of c.args.format.now) c.args.matrix.now ms (accepted-declaration c.args.format.now c.requires.valid c.requires.accepted) s)
    (subst (λ (qs : List Query). IfOk c.split.result (AreShares c.args.matrix.now qs (declaration_of c.args.format.now).conds)) (ap (λ (l : List QueryCode). map query_of l) c.as_slice-queries.ensures ∙ sym c.requires.queries)
    (subst (λ (cs : List Cond). IfOk c.split.result (AreShares c.args.matrix.now (map query_of c.as_slice-queries.result.now) cs)) (c.as_slice.ensures ∙ sym c.requires.conds) c.split.ensures))
