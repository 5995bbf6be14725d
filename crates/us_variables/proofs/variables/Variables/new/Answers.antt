use Rattle.std.proofs.Common.{◌≡◌, ◌<◌, ℕ, ℤ, List, pos, length, map, get_or, refl, sym, subst, arith}
use Rattle.std.proofs.lemmas.List.{length-map}
use Rattle.us_expr.specs.Value.{IsIndex}
use Rattle.us_format.specs.Declaration.{Query, query_of}
use Rattle.us_format.specs.Matrix.{Entry}
use Rattle.us_format.specs.Program.{entries_in, plain_entry, shape_in}
use Rattle.us_format.specs.Queries.{variable_at}
use Rattle.us_variables.specs.Columns.{value_or}
use Rattle.us_variables.proofs.Indices.{is-index}
use Rattle.us_variables.proofs.Steps.{counted-extents, counted-tables, counted-values}
use Rattle.us_variables.proofs.variables.Variables.new.Goals as goal

pub returns : goal.returns
returns c =
    let m = entries_in c.args.matrix.now in
    let s = shape_in c.args.matrix.now in
    let l = c.loop-query in
    let none : Entry = record { i = 0; j = 0; v = pos 0 } in
    let qs : List Query = map query_of c.args.queries.now in
    let values : (v k : ℕ) (d : Entry) → k < length m → value_or l.columns.items v k (pos 0) ≡ variable_at m s qs v (get_or m k d) =
    counted-values m s c.args.queries.now l.query-index l.columns.items l.extents.items l.tables.items c.loop-query-test.false l.invariant in
    record {
      names = refl;
      extents = counted-extents m s c.args.queries.now l.query-index l.columns.items l.extents.items l.tables.items c.loop-query-test.false l.invariant;
      tables = counted-tables m s c.args.queries.now l.query-index l.columns.items l.extents.items l.tables.items c.loop-query-test.false l.invariant;
      indices = λ v k h.
          subst (λ (z : ℤ). IsIndex z) (sym (values v k none h))
          (is-index m s (omega (arith, c.requires.few, length-map c.args.matrix.now.entries plain_entry)) v (get_or m k none) c.args.queries.now c.requires.countable);
      values = values;
    }
