use Rattle.std.proofs.Common.{ℤ, List, map, sym, ap, subst, ◌∙◌, arith}
use Rattle.us_decl.specs.declared.column.Column as columns
use Rattle.us_format.specs.Lists.{nth}
use Rattle.us_format.specs.Packs.{CellsOf}
use Rattle.us_judge.specs.Views.{column_of}
use Rattle.us_layout.specs.Arranging.{list_of, plain_piece}
use Rattle.us_layout.specs.Interleaving.{HaveOneLength, interleaved_cells}
use Rattle.us_levels.specs.Lists.{list_difference}
use Rattle.us_levels.proofs.Unlike.{passed-found, passed-more}
use Rattle.us_levels.proofs.comparing.packs_difference.Goals as goal

pub pack_cells-requires : goal.pack_cells-requires
pack_cells-requires c =
    subst (λ (pack : List columns.Column). HaveOneLength (map (λ x. list_of (map plain_piece c.args.names.now) c.args.lists.now (CellsOf x)) (map column_of pack))) (sym c.pack-item.is)
    (c.requires.packs c.loop-pack.pack-index c.pack-item.result c.loop-pack-test.true)

pub returns-then-is_some : goal.returns-then-is_some
returns-then-is_some c =
    let f : List columns.Column → List ℤ = λ (pack : List columns.Column). interleaved_cells (map (λ x. list_of (map plain_piece c.args.names.now) c.args.lists.now (CellsOf x)) (map column_of pack)) in
    passed-found c.args.first f c.args.packs.now c.args.buffers.now c.loop-pack.pack-index c.loop-pack.place c.pack-item.result c.loop-pack-test.true
    c.loop-pack.invariant c.buffer_difference-found.result
    (c.buffer_difference-found.ensures ∙ ap (λ (l : List ℤ). list_difference c.loop-pack.place l (nth c.args.buffers.now c.loop-pack.place)) (c.deref.ensures.value ∙ c.in_ok-cells.ensures ∙ ap f c.pack-item.is))
    (sym c.is_some.ensures ∙ c.if-is_some.true)

pub overflow_add-place : goal.overflow_add-place
overflow_add-place c = record { fits = omega (arith, c.loop-pack.invariant.counted, c.requires.room, c.loop-pack-test.true) }

pub loop-pack-preserved : goal.loop-pack-preserved
loop-pack-preserved c =
    let f : List columns.Column → List ℤ = λ (pack : List columns.Column). interleaved_cells (map (λ x. list_of (map plain_piece c.args.names.now) c.args.lists.now (CellsOf x)) (map column_of pack)) in
    passed-more c.args.first f c.args.packs.now c.args.buffers.now c.loop-pack.pack-index c.loop-pack.place c.pack-item.result c.loop-pack-test.true
    c.loop-pack.invariant c.buffer_difference-found.result
    (c.buffer_difference-found.ensures ∙ ap (λ (l : List ℤ). list_difference c.loop-pack.place l (nth c.args.buffers.now c.loop-pack.place)) (c.deref.ensures.value ∙ c.in_ok-cells.ensures ∙ ap f c.pack-item.is))
    (sym c.is_some.ensures ∙ c.if-is_some.false)
