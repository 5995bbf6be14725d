use Rattle.std.proofs.Common.{◌≡◌, ℕ, List, get_or, sym, ap, ap₂, ◌∙◌}
use Rattle.us_expr.specs.declared.ranges.Range.{Range}
use Rattle.us_expr.specs.Range.{range}
use Rattle.std.specs.Prelude.{Option, None}
use Rattle.us_format.specs.Lists.{then_do}
use Rattle.us_format.specs.Program.{plain_shape}
use Rattle.us_format.specs.Coordinates.{variable_ranges}
use Rattle.us_format.specs.Recover.{recovered}
use Rattle.us_invert.specs.Recovery.{cell_of}
use Rattle.us_climb.specs.declared.layout.LevelLayout.{LevelLayout}
use Rattle.us_climb.specs.Layout.{climb_by}
use Rattle.us_climb.specs.Readers.{extents_from, first_of, part_of, tables_from}
use Rattle.us_climb.proofs.OneEntry.{IsTop, climbed_none, climbed_some, climb_below, coordinates-fit, found-back}
use Rattle.us_climb.proofs.coordinates.recovered_at.Goals as goal

pub returns-in_err-climb_from : goal.returns-in_err-climb_from
returns-in_err-climb_from c =
    let r = c.args.reader.now in
    let s = plain_shape r.shape in
    let p = part_of c.args.reader.now in
    let ns : List ℕ = extents_from (first_of c.args.reader.now) c.args.reader.now.tables.buffers.now (part_of c.args.reader.now) in
    let ts = tables_from (first_of c.args.reader.now) c.args.reader.now.tables.buffers.now (part_of c.args.reader.now) in
    let none : climb_by c.as_slice-levels.result.now c.args.reader.now.tables.buffers.now c.args.x ≡ None =
    climbed_none c.climb_from.result c.climb_from.new.coordinates.items _ c.climb_from.ensures.climbed c.in_err-climb_from.was in
    ap cell_of c.from_residual.ensures
    ∙ sym (ap (λ (o : Option (ℕ × List ℕ)). then_do o (λ up. recovered s p (record { coords = up.1; extents = ns; tables = ts })))
    (ap (λ (ls : List LevelLayout). climb_by ls c.args.reader.now.tables.buffers.now c.args.x) (sym c.as_slice-levels.ensures.value) ∙ none))

pub recover_with-requires-clause-coordinates : goal.recover_with-requires-clause-coordinates
recover_with-requires-clause-coordinates c =
    let r = c.args.reader.now in
    let s = plain_shape r.shape in
    let p = part_of c.args.reader.now in
    let ns : List ℕ = extents_from (first_of c.args.reader.now) c.args.reader.now.tables.buffers.now (part_of c.args.reader.now) in
    let top : IsTop c.climb_from.new.coordinates.items (climb_by c.as_slice-levels.result.now c.args.reader.now.tables.buffers.now c.args.x) =
    climbed_some c.climb_from.result c.in_ok-climb_from.field-0 c.climb_from.new.coordinates.items _ c.climb_from.ensures.climbed c.in_ok-climb_from.was in
    coordinates-fit (first_of r) s ns p r.tables.buffers.now r.plan.now r.ranges.shape_rows r.ranges.shape_cols r.ranges.vars.items c.climb_from.new.coordinates.items top.coords
    c.requires.plan_is c.requires.ranges.rows_are c.requires.ranges.cols_are c.requires.ranges.vars_are top.values_are
    (climb_below (first_of r) s ns p r.tables.buffers.now 0 p.levels c.args.x top.above top.coords
    (ap (λ (ls : List LevelLayout). climb_by ls r.tables.buffers.now c.args.x) (sym (c.as_slice-levels.ensures.value ∙ c.requires.laid.levels)) ∙ top.climb_is))

pub returns : goal.returns
returns c =
    let r = c.args.reader.now in
    let s = plain_shape r.shape in
    let p = part_of c.args.reader.now in
    let ns : List ℕ = extents_from (first_of c.args.reader.now) c.args.reader.now.tables.buffers.now (part_of c.args.reader.now) in
    let ts = tables_from (first_of c.args.reader.now) c.args.reader.now.tables.buffers.now (part_of c.args.reader.now) in
    let top : IsTop c.climb_from.new.coordinates.items (climb_by c.as_slice-levels.result.now c.args.reader.now.tables.buffers.now c.args.x) =
    climbed_some c.climb_from.result c.in_ok-climb_from.field-0 c.climb_from.new.coordinates.items _ c.climb_from.ensures.climbed c.in_ok-climb_from.was in
    c.recover_with.ensures s p (record {
      ranges_are = λ k d l.
          let t = (get_or r.plan.now k d).0 in
          ap₂ (λ (m : ℕ) (n : ℕ). range m n (variable_ranges s r.tables.extents.items p) t) c.requires.ranges.rows_are c.requires.ranges.cols_are
          ∙ ap (λ (rs : List Range). range r.ranges.shape_rows r.ranges.shape_cols rs t) (sym (c.requires.ranges.vars_are ∙ ap (λ (es : List ℕ). variable_ranges s es p) (sym c.requires.extents_are)));
      plan_is = c.requires.plan_is;
    })
    ∙ found-back s p r.tables.buffers.now c.climb_from.new.coordinates.items r.tables.at.items r.tables.extents.items top.coords ns ts top.values_are c.requires.tables_are c.requires.extents_are
    ∙ sym (ap (λ (o : Option (ℕ × List ℕ)). then_do o (λ up. recovered s p (record { coords = up.1; extents = ns; tables = ts })))
    (ap (λ (ls : List LevelLayout). climb_by ls c.args.reader.now.tables.buffers.now c.args.x) (sym c.as_slice-levels.ensures.value) ∙ top.climb_is))
