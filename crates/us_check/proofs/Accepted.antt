-- The buffers of a matrix in a format, within the limit, mean the matrix: the format is lawful, and its extents are small.
use Rattle.std.proofs.Common.{◌≡◌, ◌≤◌, Some, None}
use Rattle.us_matrix.specs.Map.{Map, IsMatrix}
use Rattle.us_format.specs.Matrix.{IsMatrixOf}
use Rattle.us_format.specs.Program.{shape_in, entries_in}
use Rattle.us_format.specs.Buffers.{buffers, size}
use Rattle.us_format.specs.Meaning.{meaning}
use Rattle.us_format.specs.Reading.{limit}
use Rattle.us_format.specs.Rules.{IsLawfulDeclaration}
use Rattle.us_format.proofs.Whole.{buffers-mean-matrix}
use Rattle.us_format.proofs.FromProgram.{program-matrix}
use Rattle.us_decl.specs.Declares.{Declared, IsValid}
use Rattle.us_judge.specs.Acceptance.{first_refusal}
use Rattle.us_judge.specs.Views.{declaration_of}
use Rattle.us_judge.proofs.LawfulDeclarations.{accepted-declaration}
use Rattle.us_levels.proofs.SmallExtents.{small-within}

-- the buffers of a matrix in a format mean the matrix, within the limit
pub accepted-means : (x : Declared) (m : Map) → IsValid x → first_refusal (declaration_of x) ≡ None → IsMatrix m → size (shape_in m) (declaration_of x) (entries_in m) ≤ limit
    → meaning (shape_in m) (declaration_of x) (buffers (shape_in m) (declaration_of x) (entries_in m)) ≡ Some (entries_in m)
accepted-means x m v e im le =
    let law : IsLawfulDeclaration (declaration_of x) = accepted-declaration x v e in
    let is : IsMatrixOf (shape_in m) (entries_in m) = program-matrix m im in
    (buffers-mean-matrix (shape_in m) (declaration_of x) (entries_in m) law is).meant (small-within (shape_in m) (declaration_of x) (entries_in m) law is le)
