use Rattle.std.proofs.Common.{ℕ, ◌-◌, ◌<◌, List, ℤ, length, sym, ap, ap₂, arith, ◌∙◌}
use Rattle.us_format.specs.Lists.{cell}
use Rattle.us_format.specs.Program.{plain_shape}
use Rattle.us_format.specs.Reading.{extent_tests}
use Rattle.us_judge.specs.Format.{part_at}
use Rattle.us_judge.specs.Views.{declaration_of}
use Rattle.us_climb.specs.declared.layout.Layout.{Layout}
use Rattle.us_climb.specs.Layout.{cells_at, first_failing}
use Rattle.us_climb.specs.Entries.{entry_of}
use Rattle.us_climb.proofs.BuffersFit.{extents-fit}
use Rattle.us_climb.proofs.OneEntry.{entry-moved}
use Rattle.us_climb.proofs.PartContents.{part-value}
use Rattle.us_climb.proofs.coordinates.climb.Goals as goal

pub read-layout-requires-clause-extents : goal.read-layout-requires-clause-extents
read-layout-requires-clause-extents c =
    let s = plain_shape c.args.shape in
    let d = declaration_of c.args.format.now in
    let k = c.args.part - 1 in
    let below : c.args.part - 1 < length (declaration_of c.args.format.now).parts = omega (arith, c.requires.from_one, c.requires.part) in
    ap (λ (j : ℕ). first_failing (extent_tests j c.args.buffers.now (part_at d k).queries)) c.first_buffer-first.ensures.is ∙ extents-fit s d c.args.buffers.now k c.requires.fitting below

pub of-reader-requires-clause-placed : goal.of-reader-requires-clause-placed
of-reader-requires-clause-placed c = record { from_one = c.requires.from_one; there = c.requires.part; first_is = c.first_buffer-first.ensures.is }

pub returns : goal.returns
returns c =
    let s = plain_shape c.args.shape in
    let d = declaration_of c.args.format.now in
    let k = c.args.part - 1 in
    let r = c.of-reader.result in
    let below : c.args.part - 1 < length (declaration_of c.args.format.now).parts = omega (arith, c.requires.from_one, c.requires.part) in
    entry-moved r.shape c.args.shape r.format.now c.args.format.now r.tables.buffers.now c.args.buffers.now (r.number - 1) (c.args.part - 1) c.args.x _ c.of-reader.ensures.shape c.of-reader.ensures.format c.of-reader.ensures.buffers
    (ap (λ (n : ℕ). n - 1) c.of-reader.ensures.number) c.cell_at.ensures
    ∙ ap (entry_of c.cell_at.result)
    (ap₂ (λ (l : Layout) (bufs : List (List ℤ)). cell (cells_at l.values bufs) c.args.x) c.of-reader.ensures.layout c.of-reader.ensures.buffers
    ∙ sym (part-value s d c.args.buffers.now k c.first_buffer-first.result below c.first_buffer-first.ensures.is c.read-layout.result c.read-layout.ensures c.args.x))
