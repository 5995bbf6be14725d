use Rattle.std.proofs.Common.{◌≡◌, ℕ, List, length, map, ap, sym, ◌∙◌, add-one}
use Rattle.std.specs.List.{position_or_len}
use Rattle.std.proofs.lemmas.List.{length-map}
use Rattle.std.proofs.lemmas.List.FromFn.{length-map-range_with_len}
use Rattle.us_expr.specs.declared.queries.Cond.{Cond}
use Rattle.us_matrix.specs.declared.matrix.Triple.{Triple}
use Rattle.us_format.specs.Buffers.{meets}
use Rattle.us_format.specs.Declaration.{query_of}
use Rattle.us_format.specs.Program.{entries_in, plain_entry, shape_in}
use Rattle.us_variables.specs.Counted.{value_in}
use Rattle.us_layout.proofs.Dividing.{parts-are, shares-are}
use Rattle.us_layout.proofs.splitting.split.Goals as goal

pub matrices_of-requires : goal.matrices_of-requires
matrices_of-requires c =
    ap (λ (xs : List ℕ). length xs) (c.deref.ensures.value ∙ c.in_ok-parts.ensures)
    ∙ length-map-range_with_len (λ (k : ℕ). position_or_len (λ (x : Cond). meets x (value_in c.in_ok-variables.variables x.var k)) c.args.conds.now) 0 (length c.entries.result.now)
    ∙ ap (λ (ts : List Triple). length ts) c.entries.ensures.value

pub returns : goal.returns
returns c =
    let m = c.args.matrix.now in
    let long : length c.entries.result.now ≡ length (entries_in m) = ap (λ (ts : List Triple). length ts) c.entries.ensures.value ∙ sym (length-map m.entries plain_entry) in
    shares-are m (map query_of c.args.queries.now) c.args.conds.now c.deref.result.now _ c.in_ok-matrices.matrices.items
    (c.deref.ensures.value ∙ c.in_ok-parts.ensures
    ∙ parts-are (entries_in m) (shape_in m) (map query_of c.args.queries.now) 0 c.in_ok-variables.variables c.args.conds.now (length c.entries.result.now) c.in_ok-variables.ensures long)
    (add-one (length c.args.conds.now)) c.in_ok-matrices.ensures
