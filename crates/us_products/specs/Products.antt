-- What a product is, and what of it is stored, printed and listed.
use Rattle.std.specs.Prelude.{◌≡◌, ◌≢◌, ℕ, ℤ, ◌*◌, Bool, true, false, List, [], ◌∷◌, ◌++◌, codes, Option, Some, None, Ok}
use Rattle.us_matrix.specs.Map.{Map}
use Rattle.us_matrix.specs.Grid.{Grid}
use Rattle.us_mm.specs.Arrays.{array_in}
use Rattle.us_mm.specs.Text.{array_text}
use Rattle.us_mm.specs.Laws.{IsGrid}
use Rattle.us_format.specs.Program.{shape_in}
use Rattle.us_decl.specs.Declares.{Declared}
use Rattle.us_judge.specs.Views.{declaration_of}
use Rattle.us_code.specs.Plain.{ProgramTree}
use Rattle.us_container.specs.Contained.{Contained}
use Rattle.us_kernel.specs.Right.{IsRightKernel}
use Rattle.us_multiply.specs.Running.{IsRunOf}
use Rattle.us_dense_unit.specs.Dense.{DenseUnit}
use Rattle.us_dense_unit.specs.Listing.{IsDenseListing, UnitsThenDense}
use Rattle.us_outside.specs.Files.{Files, content_of}
use Rattle.us_status.specs.declared.status.Slot.TheVariants as slots
use Rattle.us_status.specs.Stands.{Outcome, Store, listing_store, output_of}
use Rattle.us_inputs.specs.Steps.{Input, chain_in, input_at, map_of}
use Rattle.us_inputs.specs.Sources.{held_as}
use Rattle.us_journeys.specs.Hops.{Hop, LeadThrough, held_after, hop_lines, line_of, units_of}
use Rattle.us_products.specs.Factors.{Factors, operand_at}
use Rattle.us_products.specs.Sums.{AreProducts}

-- a program, the cells that it gives, and the number of steps that its run shows
pub record Kernel : Type 0 where
  pub program : ProgramTree
  pub cells : List ℤ
  pub steps : ℕ

-- the program is a right kernel for the format, every matrix of the shape and as many columns as the operand has; its run on what is held and on the
-- operand gives the cells of the product modulo 2^64, each the sum over the columns of the matrix
pub record IsKernelOn (m : Map) (from : Contained) (x : Grid) (k : Kernel) : Type 0 where
  pub right : IsRightKernel k.program (declaration_of from.declared) (shape_in m) x.cols
  pub run : IsRunOf k.program (from.buffers ++ x.cells ∷ []) (k.cells ∷ []) k.steps
  pub products : AreProducts m x k.cells

-- ---- what is stored, printed and listed

-- the product
abbrev pub grid_of : Map → Grid → List ℤ → Grid
grid_of m x cells = record { rows = m.rows; cols = x.cols; cells = cells }

abbrev pub product_word : Bool → List ℕ
product_word true = codes "spmv"
product_word false = codes "spmm"

-- the number of cells, and the steps
abbrev pub product_line : Bool → Map → Grid → ℕ → List ℕ
product_line vector m x steps = line_of (product_word vector) (m.rows * x.cols) steps

-- the unit of a kernel
abbrev pub unit_of : Map → Grid → Kernel → DenseUnit
unit_of m x k = record { rows = m.rows; cols = x.cols; program = k.program }

-- the bytes are the canonical listing of the hops' units and of the kernel's behind them, and are read as these
pub record IsListingOf (m : Map) (x : Grid) (hs : List Hop) (k : Kernel) (bytes : List ℕ) : Type 0 where
  pub listing : IsDenseListing (units_of hs) (unit_of m x k) bytes
  pub reads : UnitsThenDense (units_of hs) (unit_of m x k) bytes

-- the store of a listing, where one is wanted
abbrev pub IsListed : Option (List ℕ) → Map → Grid → List Hop → Kernel → List Store → Type 0
IsListed None m x hs k stores = stores ≡ []
IsListed (Some name) m x hs k stores = (bytes : List ℕ) × IsListingOf m x hs k bytes × (stores ≡ listing_store name bytes ∷ [])

-- hops lead the input through the formats of the chain, and a kernel multiplies it in the last one; stored is the product, and behind it the listing;
-- printed is a line for each hop, and one for the product
pub record IsProduct (vector : Bool) (output : List ℕ) (listing : Option (List ℕ)) (c : Factors) (o : Outcome) : Type 0 where
  pub hops : List Hop
  pub leads : LeadThrough c.formats c.input hops
  pub kernel : Kernel
  pub multiplies : IsKernelOn (map_of c.input) (held_after (map_of c.input) (held_as c.input) hops) c.operand kernel
  pub grid : IsGrid (grid_of (map_of c.input) c.operand kernel.cells)  -- so the output can be an operand again
  pub more : List Store
  pub listed : IsListed listing (map_of c.input) c.operand hops kernel more
  pub is :
      o
      ≡ record {
        stores = output_of output (array_text (grid_of (map_of c.input) c.operand kernel.cells)) ∷ more;
        prints = Some (hop_lines (map_of c.input) hops ++ product_line vector (map_of c.input) c.operand kernel.steps);
      }

-- ---- what the files mean

-- the bytes are read as the product of a matrix and an operand, modulo 2^64
pub record IsProductIn (m : Map) (x : Grid) (bytes : List ℕ) : Type 0 where
  pub cells : List ℤ
  pub products : AreProducts m x cells
  pub reads : array_in bytes ≡ Ok (grid_of m x cells)

-- the bytes list hops that lead the input through the formats, and a right kernel behind them
pub record ListsProduct (ds : List Declared) (i : Input) (x : Grid) (bytes : List ℕ) : Type 0 where
  pub hops : List Hop
  pub leads : LeadThrough ds i hops
  pub kernel : Kernel
  pub multiplies : IsKernelOn (map_of i) (held_after (map_of i) (held_as i) hops) x kernel
  pub lists : IsListingOf (map_of i) x hops kernel bytes

abbrev pub ListingMeans : Option (List ℕ) → List Declared → Input → Grid → Files → Type 0
ListingMeans None ds i x after = Unit {0}
ListingMeans (Some name) ds i x after = ListsProduct ds i x (content_of after name)

-- the output is the product of the input and the operand, and the listing lists how it was made; where the listing has the output's name, that file
-- holds the listing
abbrev pub ProductMeans : List ℕ → List ℕ → List ℕ → List ℕ → List ℕ → Option (List ℕ) → Files → Files → Type 0
ProductMeans formats input chain operand output listing fs after =
    (ds : List Declared) (i : Input) (x : Grid) → chain_in (content_of fs formats) chain ≡ Ok ds → input_at slots.Input (content_of fs input) ≡ Ok i
    → operand_at (content_of fs operand) ≡ Ok x
    → (listing ≢ Some output → IsProductIn (map_of i) x (content_of after output)) × ListingMeans listing ds i x after
