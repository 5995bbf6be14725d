-- What checking says of well-formed buffers.
use Rattle.std.specs.Prelude.{◌≡◌, ◌≤◌, ◌↔◌, ℤ, List, Some, None, Ok}
use Rattle.us_format.specs.Matrix.{Shape, Entry, IsMatrixOf}
use Rattle.us_format.specs.Declaration.{Declaration}
use Rattle.us_format.specs.Buffers.{buffers, size}
use Rattle.us_format.specs.Reading.{limit, size_in}
use Rattle.us_format.specs.Meaning.{meaning}
use Rattle.us_format.specs.Rules.{IsLawfulDeclaration}
use Rattle.us_decl.specs.Declares.{Declared, IsValid}
use Rattle.us_judge.specs.Acceptance.{first_refusal}
use Rattle.us_judge.specs.Views.{declaration_of}
use Rattle.us_check.specs.Checks.{checked}

-- the buffers mean the matrix, are exactly its buffers, and are within the limit
pub record AreBuffersOf (s : Shape) (d : Declaration) (bufs : List (List ℤ)) (m : List Entry) : Type 0 where
  pub means : meaning s d bufs ≡ Some m
  pub built : bufs ≡ buffers s d m
  pub small : size_in s d bufs ≤ limit

-- of a lawful declaration a check gives exactly the matrix whose buffers these are within the limit
abbrev pub ChecksWellFormed : Type 0
ChecksWellFormed = (s : Shape) (d : Declaration) (bufs : List (List ℤ)) (m : List Entry) → IsLawfulDeclaration d → (checked s d bufs ≡ Ok m) ↔ AreBuffersOf s d bufs m

-- the buffers of a matrix check, within the limit
abbrev pub ChecksOwn : Type 0
ChecksOwn = (s : Shape) (d : Declaration) (m : List Entry) → IsLawfulDeclaration d → IsMatrixOf s m → size s d m ≤ limit → checked s d (buffers s d m) ≡ Ok m

-- so they do in each accepted format
abbrev pub ChecksAccepted : Type 0
ChecksAccepted = (s : Shape) (x : Declared) (m : List Entry) → IsValid x → first_refusal (declaration_of x) ≡ None → IsMatrixOf s m → size s (declaration_of x) m ≤ limit
    → checked s (declaration_of x) (buffers s (declaration_of x) m) ≡ Ok m
