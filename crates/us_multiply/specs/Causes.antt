-- Why there is no product.
use Rattle.std.specs.Prelude.{◌≡◌, ◌≢◌, ◌*◌, ◌<◌, ◌≤◌, Result, Ok, Err}
use Rattle.us_format.specs.Matrix.{Shape}
use Rattle.us_matrix.specs.Grid.{Grid}
use Rattle.us_multiply.specs.declared.fault.KernelFault.{KernelFault}
use Rattle.us_multiply.specs.declared.fault.KernelFault.TheVariants.{Operand, TooLarge, Memory}

-- there is a product where the operand has as many rows as the matrix has columns, and the product is within the limit; a fault says which isn't so, the
-- rows first; memory may run out at any time
abbrev pub Explains : {A : Type 0} → Result A KernelFault → Shape → Grid → Type 0
Explains (Ok r) s x = (x.rows ≡ s.cols) × (s.rows * x.cols ≤ 33554432)
Explains (Err (Operand have want)) s x = (have ≡ x.rows) × (want ≡ s.cols) × (have ≢ want)
Explains (Err TooLarge) s x = (x.rows ≡ s.cols) × (33554432 < s.rows * x.cols)
Explains (Err Memory) s x = Unit {0}
