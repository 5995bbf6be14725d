-- What `compile` stores.
use Rattle.std.specs.Prelude.{◌≡◌, ℕ, List, [], ◌∷◌, Result, Ok}
use Rattle.us_code.specs.Plain.{ProgramTree}
use Rattle.us_format.specs.Matrix.{Shape}
use Rattle.us_decl.specs.Declares.{Declared}
use Rattle.us_judge.specs.Views.{declaration_of}
use Rattle.us_limits.specs.Orders.{HaveNoOrder}
use Rattle.us_right.specs.Right.{AreAlike, IsRight}
use Rattle.us_unit.specs.Units.{unit_in, unit_text}
use Rattle.us_status.specs.declared.status.Status.{Status}
use Rattle.us_inputs.specs.Steps.{named_in}

-- the two formats, by the library in a file: both are found, then both are judged
abbrev pub pair_in : List ℕ → List ℕ → List ℕ → Result (List Declared) Status
pair_in bytes source target = named_in bytes (source ∷ target ∷ [])

-- the bytes are the canonical text of one unit, and are read as it: the declaration of the target, and a program that is right from the source to the
-- target, for the shape, and puts nothing in order between formats that are alike
pub record IsUnitOf (from to : Declared) (s : Shape) (bytes : List ℕ) : Type 0 where
  pub program : ProgramTree
  pub text : bytes ≡ unit_text to program
  pub reads : unit_in bytes ≡ Ok (record { target = to; program = program })
  pub right : IsRight program (declaration_of from) (declaration_of to) s
  pub unsorted : AreAlike (declaration_of from) (declaration_of to) → HaveNoOrder program.phases

-- so for a source and a target
abbrev pub IsUnitOfPair : List Declared → Shape → List ℕ → Type 0
IsUnitOfPair (from ∷ to ∷ []) s bytes = IsUnitOf from to s bytes
IsUnitOfPair _ s bytes = ⊥
