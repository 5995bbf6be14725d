-- Hops: a matrix that is held in one format goes to another by the run of a program.
use Rattle.std.specs.Prelude.{◌≡◌, ℕ, List, [], ◌∷◌, ◌++◌, codes, map}
use Rattle.std.specs.List.{flat_map}
use Rattle.std.specs.Fmt.{decimal}
use Rattle.us_matrix.specs.Map.{Map}
use Rattle.us_format.specs.Program.{shape_in}
use Rattle.us_decl.specs.Declares.{Declared}
use Rattle.us_judge.specs.Views.{declaration_of}
use Rattle.us_container.specs.Contained.{Contained}
use Rattle.us_limits.specs.Orders.{HaveNoOrder}
use Rattle.us_right.specs.Right.{AreAlike, IsRight}
use Rattle.us_hop.specs.Hops.{IsRunOf}
use Rattle.us_unit.specs.Units.{PlainUnit}
use Rattle.us_unit.specs.Listing.{IsListing, ReadAs}
use Rattle.us_inputs.specs.Steps.{Input, map_of, size_on}
use Rattle.us_inputs.specs.Sources.{buffers_on, kept_in, held_as}

-- a hop: the target's declaration with the program that leads there, and the number of steps that its run shows
pub record Hop : Type 0 where
  pub unit : PlainUnit
  pub steps : ℕ

-- the program is right for both formats and each matrix of the shape, and puts nothing in order between formats that are alike; its run on what is
-- held gives the target's buffers of the matrix in these steps
pub record IsHop (m : Map) (from : Contained) (h : Hop) : Type 0 where
  pub right : IsRight h.unit.program (declaration_of from.declared) (declaration_of h.unit.target) (shape_in m)
  pub unsorted : AreAlike (declaration_of from.declared) (declaration_of h.unit.target) → HaveNoOrder h.unit.program.phases
  pub run : IsRunOf h.unit.program from.buffers (buffers_on m h.unit.target) h.steps

-- hops, each from where the one before it leads
abbrev pub AreHops : Map → Contained → List Hop → Type 0
AreHops m from [] = Unit {0}
AreHops m from (h ∷ hs) = IsHop m from h × AreHops m (kept_in m h.unit.target) hs

-- what is held behind the last hop
abbrev pub held_after : Map → Contained → List Hop → Contained
held_after m from [] = from
held_after m from (h ∷ hs) = held_after m (kept_in m h.unit.target) hs

-- the hops lead the input through these formats
pub record LeadThrough (ds : List Declared) (i : Input) (hs : List Hop) : Type 0 where
  pub targets : map (λ h. h.unit.target) hs ≡ ds
  pub hops : AreHops (map_of i) (held_as i) hs

-- a name and two numbers, with a blank between
abbrev pub line_of : List ℕ → ℕ → ℕ → List ℕ
line_of name size steps = name ++ (codes " " ++ (decimal size ++ (codes " " ++ (decimal steps ++ (10 ∷ [])))))

-- the name of the format, its size on the matrix, and the steps
abbrev pub hop_line : Map → Hop → List ℕ
hop_line m h = line_of h.unit.target.name (size_on m h.unit.target) h.steps

-- a line for each hop
abbrev pub hop_lines : Map → List Hop → List ℕ
hop_lines m hs = flat_map (hop_line m) hs

abbrev pub units_of : List Hop → List PlainUnit
units_of hs = map (λ h. h.unit) hs

-- the bytes are the canonical listing of the hops' units, and are read as these units
pub record IsListingOf (hs : List Hop) (bytes : List ℕ) : Type 0 where
  pub listing : IsListing (units_of hs) bytes
  pub reads : ReadAs (units_of hs) bytes
