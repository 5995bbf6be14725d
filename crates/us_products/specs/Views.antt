-- What was made, in plain words.
use Rattle.std.specs.Prelude.{◌≡◌, ℕ, ◌++◌, Bool, true, List, Option, IfSome, map}
use Rattle.us_matrix.specs.Map.{Map}
use Rattle.us_matrix.specs.Grid.{Grid}
use Rattle.us_mm.specs.Text.{array_text}
use Rattle.us_mm.specs.Laws.{IsGrid}
use Rattle.us_decl.specs.Declares.{Declared}
use Rattle.us_container.specs.Contained.{Contained}
use Rattle.us_outside.specs.Files.{Files}
use Rattle.us_dense_unit.specs.Listing.{IsDenseListing}
use Rattle.us_inputs.specs.Steps.{map_of}
use Rattle.us_inputs.specs.Sources.{held_as}
use Rattle.us_journeys.specs.Hops.{AreHops, Hop, LeadThrough, held_after, hop_lines, units_of}
use Rattle.us_products.specs.declared.multiplying.Multiplied.{Multiplied}
use Rattle.us_products.specs.Factors.{AreOfFiles, Factors}
use Rattle.us_products.specs.Products.{IsKernelOn, Kernel, grid_of, product_line, unit_of}

-- what a product of a held matrix stores, prints and lists
pub record IsMultiplied (vector : Bool) (m : Map) (from : Contained) (listed : Bool) (ds : List Declared) (x : Grid) (made : Multiplied) : Type 0 where
  pub hops : List Hop
  pub targets : map (λ h. h.unit.target) hops ≡ ds
  pub are : AreHops m from hops
  pub kernel : Kernel
  pub multiplies : IsKernelOn m (held_after m from hops) x kernel
  pub bytes : made.bytes.items ≡ array_text (grid_of m x kernel.cells)
  pub grid : IsGrid (grid_of m x kernel.cells)
  pub lines : made.lines.items ≡ hop_lines m hops ++ product_line vector m x kernel.steps
  pub lists : listed ≡ true → IsDenseListing (units_of hops) (unit_of m x kernel) made.listing.items

-- so of an input
pub record IsMadeOf (vector listed : Bool) (c : Factors) (made : Multiplied) : Type 0 where
  pub hops : List Hop
  pub leads : LeadThrough c.formats c.input hops
  pub kernel : Kernel
  pub multiplies : IsKernelOn (map_of c.input) (held_after (map_of c.input) (held_as c.input) hops) c.operand kernel
  pub bytes : made.bytes.items ≡ array_text (grid_of (map_of c.input) c.operand kernel.cells)
  pub grid : IsGrid (grid_of (map_of c.input) c.operand kernel.cells)
  pub lines : made.lines.items ≡ hop_lines (map_of c.input) hops ++ product_line vector (map_of c.input) c.operand kernel.steps
  pub lists : listed ≡ true → IsDenseListing (units_of hops) (unit_of (map_of c.input) c.operand kernel) made.listing.items

-- a product of the files, where files are told
abbrev pub IsProductOf : Bool → List ℕ → List ℕ → List ℕ → List ℕ → Bool → Option Files → Multiplied → Type 0
IsProductOf vector formats input chain operand listed files made =
    (c : Factors) × IsMadeOf vector listed c made × IfSome files (AreOfFiles vector formats input chain operand c)
