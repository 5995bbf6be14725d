-- The laws.
use Rattle.std.specs.Prelude.{◌≡◌, ℕ, ◌*◌, ◌^◌, ◌<◌, ◌≤◌, List, None}
use Rattle.us_format.specs.Buffers.{size}
use Rattle.us_format.specs.Matrix.{Shape, Entry, IsMatrixOf}
use Rattle.us_format.specs.Reading.{limit}
use Rattle.us_decl.specs.Declares.{Declared, IsValid}
use Rattle.us_judge.specs.Acceptance.{first_refusal}
use Rattle.us_judge.specs.Views.{declaration_of}
use Rattle.us_right.specs.Right as right
use Rattle.us_kernel.specs.Right as kernel

-- the most steps of a right program are fewer than 2 ^ 64
abbrev pub ProgramsTakeFewSteps : Type 0
ProgramsTakeFewSteps =
    (f g : Declared) (s : Shape) (m : List Entry) → IsValid f → first_refusal (declaration_of f) ≡ None → IsValid g → first_refusal (declaration_of g) ≡ None
    → IsMatrixOf s m → s.rows < 2 ^ 31 → s.cols < 2 ^ 31 → size s (declaration_of f) m ≤ limit → size s (declaration_of g) m ≤ limit
    → right.most_steps (declaration_of f) (declaration_of g) s m < 2 ^ 64

-- so are those of a right kernel
abbrev pub KernelsTakeFewSteps : Type 0
KernelsTakeFewSteps =
    (f : Declared) (s : Shape) (columns : ℕ) (m : List Entry) → IsValid f → first_refusal (declaration_of f) ≡ None → IsMatrixOf s m
    → size s (declaration_of f) m ≤ limit → s.cols * columns ≤ 33554432 → s.rows * columns ≤ 33554432 → kernel.most_steps (declaration_of f) s m columns < 2 ^ 64
