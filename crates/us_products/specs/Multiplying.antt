-- How far a product has come.
use Rattle.std.specs.Prelude.{◌≡◌, ℕ, ◌*◌, ◌≤◌, ◌++◌, ◌∷◌, [], Bool, true, List, Result, Ok, Err, length}
use Rattle.us_matrix.specs.Map.{Map, IsSide}
use Rattle.us_matrix.specs.Grid.{Grid}
use Rattle.us_mm.specs.Text.{array_text}
use Rattle.us_mm.specs.Laws.{IsGrid}
use Rattle.us_format.specs.Program.{shape_in, entries_in}
use Rattle.us_decl.specs.Declares.{Declared}
use Rattle.us_judge.specs.Views.{declaration_of}
use Rattle.us_code.specs.Plain.{program_tree}
use Rattle.us_check.specs.declared.held.Held.{Held}
use Rattle.us_container.specs.Contained.{Contained}
use Rattle.us_dense_unit.specs.Dense.{DenseUnit}
use Rattle.us_dense_unit.specs.Listing.{IsDenseListing}
use Rattle.us_gen_product.specs.Dense.{IsDense}
use Rattle.us_kernel.specs.Right.{IsRightKernel}
use Rattle.us_multiply.specs.Running.{IsRunOf}
use Rattle.us_multiply.specs.declared.multiplying.KernelRun.{KernelRun}
use Rattle.us_unit.specs.Listing.{IsListing}
use Rattle.us_unit.specs.Units.{PlainUnit}
use Rattle.us_status.specs.declared.status.Status.{Status}
use Rattle.us_status.specs.Answers.{IsStep}
use Rattle.us_inputs.specs.Sources.{held_as, held_step}
use Rattle.us_inputs.specs.Steps.{Input}
use Rattle.us_products.specs.declared.multiplying.Multiplied.{Multiplied}
use Rattle.us_products.specs.Factors.{Factors, fit_step}
use Rattle.us_products.specs.Products.{IsKernelOn, Kernel, grid_of, product_line, unit_of}

-- the sides don't fit, a limit isn't kept, or memory doesn't suffice
abbrev pub EndsAt : Bool → List Declared → Input → Grid → Status → Type 0
EndsAt vector ds i x s = held_step i ≡ Ok (held_as i) → IsStep {A = Factors} (fit_step vector ds i x) (Err s)

-- what the run of a kernel on a held matrix and an operand gives
pub record IsKernelRun (h : Held) (x : Grid) (r : KernelRun) : Type 0 where
  pub right : IsRightKernel (program_tree r.code) (declaration_of h.declared) (shape_in h.matrix) x.cols
  pub run : IsRunOf (program_tree r.code) (h.buffers ++ x.cells ∷ []) (r.dense.cells ∷ []) r.steps
  pub rows : r.dense.rows ≡ h.matrix.rows
  pub cols : r.dense.cols ≡ x.cols
  pub dense : IsDense (shape_in h.matrix) (entries_in h.matrix) x.cols x.cells r.dense.cells
  pub few : h.matrix.rows * x.cols ≤ 33554432

-- the unit of a run
abbrev pub unit_of_run : KernelRun → DenseUnit
unit_of_run r = record { rows = r.dense.rows; cols = r.dense.cols; program = program_tree r.code }

-- the listing of some units becomes longer by the unit of a kernel, where it is to be listed
abbrev pub ListsKernel : Bool → DenseUnit → List ℕ → List ℕ → Type 0
ListsKernel listed u old new = listed ≡ true → (us : List PlainUnit) → IsListing us old → IsDenseListing us u new

-- a held matrix was multiplied: what is stored, and what is printed and listed behind its hops
pub record IsMultipliedBy (vector listed : Bool) (m : Map) (from : Contained) (x : Grid) (lines listing : List ℕ) (made : Multiplied) : Type 0 where
  pub kernel : Kernel
  pub multiplies : IsKernelOn m from x kernel
  pub bytes : made.bytes.items ≡ array_text (grid_of m x kernel.cells)
  pub grid : IsGrid (grid_of m x kernel.cells)
  pub told : made.lines.items ≡ lines ++ product_line vector m x kernel.steps
  pub lists : ListsKernel listed (unit_of m x kernel) listing made.listing.items
