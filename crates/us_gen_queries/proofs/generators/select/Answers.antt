use Rattle.std.specs.Prelude.{All}
use Rattle.std.proofs.Common.{◌≡◌, ◌-◌, ◌≤◌, List, length, map, sym, ap, subst, ◌∙◌, arith, rules}
use Rattle.us_expr.specs.declared.queries.Cond.{Cond}
use Rattle.us_code.specs.Plain.{phase_tree}
use Rattle.us_decl.specs.declared.decl.Body.{Body}
use Rattle.us_decl.specs.declared.decl.Body.TheVariants as body
use Rattle.us_decl.specs.Declares.{Declared}
use Rattle.us_decl.specs.Views.{body_view}
use Rattle.us_format.specs.Declaration.{Query, Declaration, query_of}
use Rattle.us_format.specs.Program.{plain_shape}
use Rattle.us_judge.specs.Views.{declaration_of, plain_body}
use Rattle.us_judge.proofs.Valid.{IsShaped, plain-is, shaped-valid, short-valid}
use Rattle.us_gen_counting.specs.Rooms.{IsCountable}
use Rattle.us_gen_queries.proofs.Countable.{heads_select}
use Rattle.us_gen_queries.proofs.Meanings.{codes_few, selects_split, selects_whole}
use Rattle.us_gen_queries.proofs.generators.select.Goals as goal

pub select_split-requires-clause-countable : goal.select_split-requires-clause-countable
select_split-requires-clause-countable c =
    let x = c.args.format.now in
    let is : declaration_of x ≡ plain_body (body.Split c.in-Split.head c.in-Split.parts) = ap declaration_of (sym c.decl-decl.ensures.is) ∙ plain-is c.decl-decl.result.now ∙ ap plain_body c.in-Split.is in
    subst (λ (qs : List Query). All IsCountable qs) (ap (λ (d : Declaration). d.head) is) (heads_select x c.decl-decl.ensures.valid c.decl-decl.ensures.accepted).countable

pub select_split-requires-clause-queries : goal.select_split-requires-clause-queries
select_split-requires-clause-queries c =
    let x = c.args.format.now in
    let is : declaration_of x ≡ plain_body (body.Split c.in-Split.head c.in-Split.parts) = ap declaration_of (sym c.decl-decl.ensures.is) ∙ plain-is c.decl-decl.result.now ∙ ap plain_body c.in-Split.is in
    codes_few c.in-Split.head.queries (declaration_of x).head 16 (sym (ap (λ (d : Declaration). d.head) is)) (short-valid x c.decl-decl.ensures.valid).head

pub select_split-requires-clause-conds : goal.select_split-requires-clause-conds
select_split-requires-clause-conds c =
    let x = c.args.format.now in
    let is : declaration_of x ≡ plain_body (body.Split c.in-Split.head c.in-Split.parts) = ap declaration_of (sym c.decl-decl.ensures.is) ∙ plain-is c.decl-decl.result.now ∙ ap plain_body c.in-Split.is in
    subst (λ (cs : List Cond). length cs ≤ 3) (ap (λ (d : Declaration). d.conds) is) (short-valid x c.decl-decl.ensures.valid).conds

pub returns-in_ok-piece-in-Split-clause-selects : goal.returns-in_ok-piece-in-Split-clause-selects
returns-in_ok-piece-in-Split-clause-selects c =
    let x = c.args.format.now in
    let is : declaration_of x ≡ plain_body (body.Split c.in-Split.head c.in-Split.parts) = ap declaration_of (sym c.decl-decl.ensures.is) ∙ plain-is c.decl-decl.result.now ∙ ap plain_body c.in-Split.is in
    selects_split (plain_shape c.args.shape) x (c.args.part - 1) c.args.entries.now c.args.fresh.now (map phase_tree c.in_ok-piece-in-Split.piece.phases) c.in_ok-piece-in-Split.piece.columns c.decl-decl.ensures.valid c.decl-decl.ensures.accepted
    c.bare-plain.result (map query_of c.in-Split.head.queries) c.in-Split.head.conds c.next.result c.bare-plain.ensures (ap (λ (d : Declaration). d.head) is) (ap (λ (d : Declaration). d.conds) is) c.next.ensures
    c.in_ok-piece-in-Split.ensures.phases c.in_ok-piece-in-Split.ensures.columns
    (record { rows = search rules; cols = search rules; count = search rules; variables = omega arith })
    (subst (λ (qs : List Query). length qs ≤ 16) (ap (λ (d : Declaration). d.head) is) (short-valid x c.decl-decl.ensures.valid).head) c.requires.room
    (subst (λ (b : Body). IsShaped (body_view b)) c.in-Split.is (subst (λ (y : Declared). IsShaped y.body) (sym c.decl-decl.ensures.is) (shaped-valid x c.decl-decl.ensures.valid))).0

pub returns-in-One-clause-selects : goal.returns-in-One-clause-selects
returns-in-One-clause-selects c =
    let x = c.args.format.now in
    let is : declaration_of x ≡ plain_body (body.One c.in-One.field-0) = ap declaration_of (sym c.decl-decl.ensures.is) ∙ plain-is c.decl-decl.result.now ∙ ap plain_body c.in-One.is in
    selects_whole (plain_shape c.args.shape) x (c.args.part - 1) c.args.entries.now c.args.fresh.now _ c.bare-plain.result c.decl-decl.ensures.valid c.decl-decl.ensures.accepted (ap (λ (d : Declaration). d.conds) is) (ap (map phase_tree) c.new.ensures) c.bare-plain.ensures

pub overflow_add-len : goal.overflow_add-len
overflow_add-len c =
    let x = c.args.format.now in
    let is : declaration_of x ≡ plain_body (body.Split c.in-Split.head c.in-Split.parts) = ap declaration_of (sym c.decl-decl.ensures.is) ∙ plain-is c.decl-decl.result.now ∙ ap plain_body c.in-Split.is in
    let few : length c.in-Split.head.queries ≤ 16 = codes_few c.in-Split.head.queries (declaration_of x).head 16 (sym (ap (λ (d : Declaration). d.head) is)) (short-valid x c.decl-decl.ensures.valid).head in
    record { fits = omega (arith, few, c.len.ensures) }

pub take-requires-in-Split : goal.take-requires-in-Split
take-requires-in-Split c =
    let x = c.args.format.now in
    let is : declaration_of x ≡ plain_body (body.Split c.in-Split.head c.in-Split.parts) = ap declaration_of (sym c.decl-decl.ensures.is) ∙ plain-is c.decl-decl.result.now ∙ ap plain_body c.in-Split.is in
    let few : length c.in-Split.head.queries ≤ 16 = codes_few c.in-Split.head.queries (declaration_of x).head 16 (sym (ap (λ (d : Declaration). d.head) is)) (short-valid x c.decl-decl.ensures.valid).head in
    omega (arith, few, c.len.ensures, c.requires.room)
