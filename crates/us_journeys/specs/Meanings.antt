-- What a written container means.
use Rattle.std.specs.Prelude.{◌≡◌, ℕ, List, [], ◌∷◌, Bool, true, false, Some, Ok}
use Rattle.us_matrix.specs.Map.{Map}
use Rattle.us_format.specs.Program.{shape_in, entries_in}
use Rattle.us_format.specs.Meaning.{meaning}
use Rattle.us_decl.specs.Declares.{Declared}
use Rattle.us_judge.specs.Views.{declaration_of}
use Rattle.us_container.specs.Contained.{contained_in}
use Rattle.us_inputs.specs.Sources.{buffers_on, kept_in}

-- the bytes hold exactly the format's buffers of the matrix, by the definition of containers; and the meaning of the buffers, by the format's own definition, is the matrix
pub record IsMeant (m : Map) (d : Declared) (bytes : List ℕ) : Type 0 where
  pub reads_back : contained_in bytes ≡ Ok (kept_in m d)
  pub means : meaning (shape_in m) (declaration_of d) (buffers_on m d) ≡ Some (entries_in m)

-- so in the last format, where no canonical text is written
abbrev pub LastIsMeant : Bool → Map → List Declared → List ℕ → Type 0
LastIsMeant true m ds bytes = Unit {0}
LastIsMeant false m [] bytes = Unit {0}
LastIsMeant false m (d ∷ []) bytes = IsMeant m d bytes
LastIsMeant false m (d ∷ e ∷ ds) bytes = LastIsMeant false m (e ∷ ds) bytes
