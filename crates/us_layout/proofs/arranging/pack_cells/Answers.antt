use Rattle.std.proofs.Common.{◌≡◌, List, ap, map, subst, sym, ◌∙◌, ℤ}
use Rattle.std.specs.Prelude.{IfOk}
use Rattle.us_format.specs.Packs.{CellsOf}
use Rattle.us_judge.specs.Views.{column_of}
use Rattle.us_layout.specs.Arranging.{list_of, plain_piece}
use Rattle.us_layout.specs.Interleaving.{HaveOneLength, interleaved_cells}
use Rattle.us_layout.proofs.Arranged.{slices-more, slices-end}
use Rattle.us_layout.proofs.arranging.pack_cells.Goals as goal

pub loop-column-preserved : goal.loop-column-preserved
loop-column-preserved c =
    slices-more (λ c'. list_of (map plain_piece c.args.pieces.now) c.args.lists.now (CellsOf c')) column_of c.as_slice-column-items.result.now c.loop-column.column-index _ _ _ c.list_of.result c.loop-column-test.true
    c.loop-column.invariant c.in_ok-push.ensures.items (c.list_of.ensures ∙ ap (list_of (map plain_piece c.args.pieces.now) c.args.lists.now) c.piece_of.ensures)

pub interleave_slices-requires : goal.interleave_slices-requires
interleave_slices-requires c =
    subst HaveOneLength
    (sym (slices-end (λ c'. list_of (map plain_piece c.args.pieces.now) c.args.lists.now (CellsOf c')) column_of c.as_slice-column-items.result.now c.args.pack.now c.loop-column.column-index c.loop-column.columns.items c.deref.result.now
    c.loop-column-test.false c.loop-column.invariant c.as_slice-column-items.ensures c.deref.ensures.value))
    c.requires

pub returns : goal.returns
returns c =
    subst (λ (l : List (List ℤ)). IfOk c.interleave_slices.result (λ v. v.items ≡ interleaved_cells l))
    (slices-end (λ c'. list_of (map plain_piece c.args.pieces.now) c.args.lists.now (CellsOf c')) column_of c.as_slice-column-items.result.now c.args.pack.now c.loop-column.column-index c.loop-column.columns.items c.deref.result.now
    c.loop-column-test.false c.loop-column.invariant c.as_slice-column-items.ensures c.deref.ensures.value)
    c.interleave_slices.ensures
