-- How far a conversion has come.
use Rattle.std.specs.Prelude.{◌≡◌, ℕ, ◌≤◌, List, [], ◌∷◌, ◌++◌, map, Bool, true, Option, IfSome}
use Rattle.us_matrix.specs.Map.{Map}
use Rattle.us_format.specs.Reading.{limit}
use Rattle.us_decl.specs.Declares.{Declared}
use Rattle.us_check.specs.declared.held.Held.{Held}
use Rattle.us_container.specs.Contained.{Contained}
use Rattle.us_format.specs.Program.{shape_in}
use Rattle.us_judge.specs.Views.{declaration_of}
use Rattle.us_code.specs.Plain.{program_tree}
use Rattle.us_limits.specs.Orders.{HaveNoOrder}
use Rattle.us_right.specs.Right.{AreAlike, IsRight}
use Rattle.us_hop.specs.Hops.{IsRunOf}
use Rattle.us_hop.specs.declared.hopping.Hopped.{Hopped}
use Rattle.us_unit.specs.Units.{PlainUnit}
use Rattle.us_unit.specs.Listing.{IsListing}
use Rattle.us_outside.specs.Files.{Files}
use Rattle.us_journeys.specs.declared.journey.Converted.{Converted}
use Rattle.us_inputs.specs.Chains.{ends_in_text}
use Rattle.us_inputs.specs.Steps.{map_of, size_on}
use Rattle.us_inputs.specs.Chained.{Chained, IsOfFiles}
use Rattle.us_inputs.specs.Sources.{kept_in}
use Rattle.us_journeys.specs.Converting.{written}
use Rattle.us_journeys.specs.Hops.{AreHops, Hop, IsHop, LeadThrough, held_after, hop_line, hop_lines, units_of}
use Rattle.us_journeys.specs.Meanings.{LastIsMeant}
use Rattle.us_inputs.specs.Views.{contained_of}

-- bytes become longer by the unit's canonical text, where they are to list units
abbrev pub ListsMore : Bool → PlainUnit → List ℕ → List ℕ → Type 0
ListsMore listed u old new = listed ≡ true → (us : List PlainUnit) → IsListing us old → IsListing (us ++ (u ∷ [])) new

-- what a hop from a held matrix to a format gives
pub record IsHopped (old : Held) (d : Declared) (h : Hopped) : Type 0 where
  pub right : IsRight (program_tree h.code) (declaration_of old.declared) (declaration_of d) (shape_in old.matrix)
  pub unsorted : AreAlike (declaration_of old.declared) (declaration_of d) → HaveNoOrder (program_tree h.code).phases
  pub run : IsRunOf (program_tree h.code) old.buffers h.held.buffers h.steps
  pub format : h.held.declared ≡ d
  pub matrix : h.held.matrix ≡ old.matrix
  pub size : h.size ≡ size_on old.matrix d
  pub small : size_on old.matrix d ≤ limit

-- one hop more: where a matrix is held, what is printed and what is listed, before and after it
pub record GoesOn (listed : Bool) (d : Declared) (old new : Held) (lines lines' listing listing' : List ℕ) : Type 0 where
  pub hop : Hop
  pub target : hop.unit.target ≡ d
  pub is : IsHop old.matrix (contained_of old) hop
  pub here : contained_of new ≡ kept_in old.matrix d
  pub matrix : new.matrix ≡ old.matrix
  pub small : size_on old.matrix d ≤ limit
  pub told : lines' ≡ lines ++ hop_line old.matrix hop
  pub lists : ListsMore listed hop.unit listing listing'

-- hops from a held matrix through formats, with what is printed and listed of them
pub record IsAlong (m : Map) (from : Contained) (listed : Bool) (ds : List Declared) (now : Held) (lines listing : List ℕ) : Type 0 where
  pub hops : List Hop
  pub targets : map (λ h. h.unit.target) hops ≡ ds
  pub are : AreHops m from hops
  pub here : contained_of now ≡ held_after m from hops
  pub matrix : now.matrix ≡ m
  pub told : lines ≡ hop_lines m hops
  pub lists : listed ≡ true → IsListing (units_of hops) listing

-- a matrix is held in the last of these formats, where there are any
abbrev pub IsInLast : Map → List Declared → Held → Type 0
IsInLast m [] now = now.matrix ≡ m
IsInLast m (d ∷ []) now = (now.matrix ≡ m) × (contained_of now ≡ kept_in m d)
IsInLast m (d ∷ e ∷ ds) now = IsInLast m (e ∷ ds) now

-- what a conversion from a held matrix stores, prints and lists
pub record IsConverted (chain : List ℕ) (m : Map) (from : Contained) (listed : Bool) (ds : List Declared) (made : Converted) : Type 0 where
  pub hops : List Hop
  pub targets : map (λ h. h.unit.target) hops ≡ ds
  pub are : AreHops m from hops
  pub bytes : made.bytes.items ≡ written chain ds m
  pub lines : made.lines.items ≡ hop_lines m hops
  pub lists : listed ≡ true → IsListing (units_of hops) made.listing.items
  pub means : LastIsMeant (ends_in_text chain) m ds made.bytes.items

-- so of an input
pub record IsMadeOf (chain : List ℕ) (listed : Bool) (c : Chained) (made : Converted) : Type 0 where
  pub hops : List Hop
  pub leads : LeadThrough c.formats c.input hops
  pub bytes : made.bytes.items ≡ written chain c.formats (map_of c.input)
  pub lines : made.lines.items ≡ hop_lines (map_of c.input) hops
  pub lists : listed ≡ true → IsListing (units_of hops) made.listing.items
  pub means : LastIsMeant (ends_in_text chain) (map_of c.input) c.formats made.bytes.items

-- a conversion of the files, where files are told
abbrev pub IsConversionOf : List ℕ → List ℕ → List ℕ → Bool → Option Files → Converted → Type 0
IsConversionOf formats input chain listed files made = (c : Chained) × IsMadeOf chain listed c made × IfSome files (IsOfFiles formats input chain c)
