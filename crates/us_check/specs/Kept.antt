-- What contracts see of a matrix that is held in a format, and its code, by which proofs tell two values apart.
use Rattle.std.specs.Prelude.{List, ℤ, refl}
use Rattle.std.specs.Coded.{Coded, code_by, coded×}
use Rattle.us_matrix.specs.Map.{Map}
use Rattle.us_matrix.specs.contracts.matrix.Matrix as matrix
use Rattle.us_matrix.specs.contracts.buffers.Buffers as buffers
use Rattle.us_decl.specs.Declares.{Declared}
use Rattle.us_judge.specs.Code.{declared_code}

-- what is declared, the matrix, and the buffers
pub record Kept : Type 0 where
  pub declared : Declared
  pub matrix : Map
  pub buffers : List (List ℤ)

abbrev pub kept_code : Coded Kept
kept_code =
    code_by (Declared × (Map × List (List ℤ))) (coded× declared_code (coded× matrix.the_row.coded buffers.the_row.coded)) (λ k. (k.declared, (k.matrix, k.buffers)))
    (λ t. record { declared = t.0; matrix = t.1.0; buffers = t.1.1 })
    (λ _. refl)
