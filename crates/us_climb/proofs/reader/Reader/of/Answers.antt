use Rattle.std.proofs.Common.{ℕ, ◌+◌, ◌-◌, ◌≤◌, ◌<◌, ◌^◌, List, length, sym, ap, subst, arith, ◌∙◌}
use Rattle.std.specs.List.{All}
use Rattle.us_expr.specs.declared.ranges.Range.{Range}
use Rattle.us_expr.specs.Range.{IsRangeable}
use Rattle.us_format.specs.Program.{plain_shape}
use Rattle.us_format.specs.Coordinates.{variable_ranges}
use Rattle.us_format.specs.Declaration.{Part}
use Rattle.us_format.specs.Known.{Steps}
use Rattle.us_format.specs.Reading.{extent_count, extent_tests, extents_in, tables_in as query_tables}
use Rattle.us_judge.specs.Format.{part_at}
use Rattle.us_judge.specs.Short.{IsShort}
use Rattle.us_judge.specs.Views.{declaration_of}
use Rattle.us_judge.proofs.Accepted.{accepted-keeps}
use Rattle.us_judge.proofs.SomePart.{short-part}
use Rattle.us_climb.specs.Layout.{first_failing}
use Rattle.us_climb.specs.Readers.{extents_from}
use Rattle.us_climb.proofs.BuffersFit.{buffers-few, extents-fit}
use Rattle.us_climb.proofs.PartTests.{extents-few}
use Rattle.us_climb.proofs.PartThere.{kept-few}
use Rattle.us_climb.proofs.PlanRanges.{plan-ranged}
use Rattle.us_climb.proofs.OneEntry.{reader-placed}
use Rattle.us_climb.proofs.reader.Reader.of.Goals as goal

pub extents_of-extents-requires-clause-short : goal.extents_of-extents-requires-clause-short
extents_of-extents-requires-clause-short c =
    let below : c.args.number - 1 < length (declaration_of c.args.format.now).parts = omega (arith, c.requires.placed.from_one, c.requires.placed.there) in
    subst IsShort (sym c.part-part.ensures.is) (short-part c.args.format.now (c.args.number - 1) c.part-part.ensures.valid below)

pub tables_at-requires-clause-short : goal.tables_at-requires-clause-short
tables_at-requires-clause-short c =
    let below : c.args.number - 1 < length (declaration_of c.args.format.now).parts = omega (arith, c.requires.placed.from_one, c.requires.placed.there) in
    subst IsShort (sym c.part-part.ensures.is) (short-part c.args.format.now (c.args.number - 1) c.part-part.ensures.valid below)

pub variable_ranges-ranges-requires-clause-extents : goal.variable_ranges-ranges-requires-clause-extents
variable_ranges-ranges-requires-clause-extents c =
    let s = plain_shape c.args.shape in
    let d = declaration_of c.args.format.now in
    let k = c.args.number - 1 in
    let below : c.args.number - 1 < length (declaration_of c.args.format.now).parts = omega (arith, c.requires.placed.from_one, c.requires.placed.there) in
    let fit = ap (λ (j : ℕ). first_failing (extent_tests j c.args.buffers.now (part_at d k).queries)) c.requires.placed.first_is ∙ extents-fit s d c.args.buffers.now k c.requires.fitting below in
    subst (λ (ns : List ℕ). All (λ n. n ≤ 2 ^ 31) ns)
    (sym (c.as_slice.ensures.value ∙ c.extents_of-extents.ensures ∙ ap (λ (q : Part). extents_in c.args.first c.args.buffers.now q.queries) c.part-part.ensures.is))
    (extents-few c.args.first c.args.buffers.now (part_at d k).queries fit)

pub returns-clause-ready : goal.returns-clause-ready
returns-clause-ready c =
    let s = plain_shape c.args.shape in
    let d = declaration_of c.args.format.now in
    let k = c.args.number - 1 in
    let p = part_at (declaration_of c.args.format.now) (c.args.number - 1) in
    let ns : List ℕ = extents_from c.args.first c.args.buffers.now (part_at (declaration_of c.args.format.now) (c.args.number - 1)) in
    let below : c.args.number - 1 < length (declaration_of c.args.format.now).parts = omega (arith, c.requires.placed.from_one, c.requires.placed.there) in
    let fit = ap (λ (j : ℕ). first_failing (extent_tests j c.args.buffers.now p.queries)) c.requires.placed.first_is ∙ extents-fit s d c.args.buffers.now k c.requires.fitting below in
    let extents_are = c.extents_of-extents.ensures ∙ ap (λ (q : Part). extents_in c.args.first c.args.buffers.now q.queries) c.part-part.ensures.is in
    let vars_are = c.variable_ranges-ranges.ensures.vars ∙ ap (λ (es : List ℕ). variable_ranges s es p) (c.as_slice.ensures.value ∙ extents_are) in
    reader-placed s d c.args.number c.args.buffers.now c.args.layout c.requires.placed.first_is (record {
      from_one = c.requires.placed.from_one;
      there = c.requires.placed.there;
      few = kept-few p (accepted-keeps d c.part-part.ensures.accepted k _ below);
      laid = c.requires.laid;
      parents_are = c.requires.parents;
      plan_is = c.plan.ensures;
      ranges = record {
        rows_are = sym c.variable_ranges-ranges.ensures.rows;
        cols_are = sym c.variable_ranges-ranges.ensures.cols;
        rows_small = subst (λ n. n < 2 ^ 31) (sym c.variable_ranges-ranges.ensures.rows) c.requires.rows.high;
        cols_small = subst (λ n. n < 2 ^ 31) (sym c.variable_ranges-ranges.ensures.cols) c.requires.cols.high;
        vars_are = vars_are;
        rangeable =
            subst (λ (rs : List Range). All (λ x. IsRangeable rs x.0) c.plan.result.now) (sym vars_are)
            (subst (λ (steps : Steps). All (λ x. IsRangeable (variable_ranges s ns p) x.0) steps) (sym c.plan.ensures)
            (plan-ranged c.args.format.now k (record { valid = c.part-part.ensures.valid; kept = c.part-part.ensures.accepted }) below s ns c.requires.rows.high c.requires.cols.high
            (extents-few c.args.first c.args.buffers.now p.queries fit)));
      };
      tables_are =
          c.tables_at.ensures c.args.buffers.now (buffers-few s c.args.format.now c.args.buffers.now c.part-part.ensures.valid c.requires.fitting)
          ∙ ap (λ (q : Part). query_tables (c.args.first + extent_count q) c.args.buffers.now q.queries) c.part-part.ensures.is;
      extents_are = extents_are;
    })
