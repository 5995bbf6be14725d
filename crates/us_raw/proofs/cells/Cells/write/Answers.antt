use Rattle.std.proofs.Common.{take, w64, ℤ, ap, ◌∙◌}
use Rattle.std.specs.Int.{to_le_bytes, cast_unsigned}
use Rattle.std.proofs.lemmas.Int.{to_z-of_z}
use Rattle.us_raw.specs.Layout.{cell_bytes}
use Rattle.us_raw.proofs.cells.Cells.write.Goals as goal

pub returns : goal.returns
unfolding cell_bytes
returns g c =
    c.copy_from_slice.ensures.after ∙ ap (take g.row.W) c.to_le_bytes-word.ensures
    ∙ ap (λ (v : ℤ). take g.row.W (to_le_bytes w64 (cast_unsigned w64 v))) (to_z-of_z w64 c.args.value c.ranges.value)
