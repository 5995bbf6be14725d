-- Reading the positions of a reader's part.
use Rattle.std.proofs.Common.{◌≡◌, ℕ, ◌-◌, ◌<◌, List, length, Bool, ℤ, sym, ap, ◌∙◌, arith}
use Rattle.us_format.specs.Matrix.{Shape, is_zero}
use Rattle.us_format.specs.Declaration.{Declaration}
use Rattle.us_format.specs.Program.{plain_shape}
use Rattle.us_judge.specs.Views.{declaration_of}
use Rattle.us_climb.specs.declared.reader.Reader.{Reader}
use Rattle.us_climb.specs.Layout.{cells_at}
use Rattle.us_climb.specs.Readers.{IsReady, value_of}
use Rattle.us_climb.specs.Entries.{is_empty, read_part}
use Rattle.us_climb.proofs.ReadSteps.{empty-laid, part-laid, rest}

module _ (r : Reader) where
  abbrev pub shape_of : Shape
  shape_of = plain_shape r.shape

  abbrev pub format_of : Declaration
  format_of = declaration_of r.format.now

  abbrev pub buffers_of : List (List ℤ)
  buffers_of = r.tables.buffers.now

  -- how many positions there are
  abbrev pub count_of : ℕ
  count_of = length (cells_at r.layout.values r.tables.buffers.now)

  pub below : IsReady r → r.number - 1 < length format_of.parts
  below ready = omega (arith, ready.from_one, ready.there)

  pub reader-empty : IsReady r → (x : ℕ) (v : ℤ) (b : Bool) → v ≡ value_of r x → is_zero v ≡ b → is_empty shape_of format_of buffers_of (r.number - 1, x) ≡ b
  reader-empty ready x v b e is =
      empty-laid shape_of format_of buffers_of (r.number - 1) (below ready) r.layout ready.laid x ∙ ap is_zero (sym e) ∙ is

  pub reader-laid : IsReady r → read_part shape_of format_of buffers_of (r.number - 1) ≡ rest shape_of format_of buffers_of (r.number - 1) count_of 0
  reader-laid ready = part-laid shape_of format_of buffers_of (r.number - 1) (below ready) r.layout ready.laid
