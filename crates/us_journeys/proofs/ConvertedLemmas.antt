-- What a conversion has made behind its last hop.
use Rattle.std.proofs.Common.{◌≡◌, ℕ, Bool, List, Option, IfSome, Result, Ok, Err, IfOk, OnOk, sym, ap, ◌∙◌, subst}
use Rattle.us_matrix.specs.Map.{Map}
use Rattle.us_decl.specs.Declares.{Declared}
use Rattle.us_container.specs.Contained.{Contained}
use Rattle.us_outside.specs.Files.{Files, content_of}
use Rattle.us_unit.specs.Listing.{IsListing}
use Rattle.us_check.specs.declared.held.Held.{Held}
use Rattle.us_status.specs.declared.status.Slot.TheVariants as slots
use Rattle.us_journeys.specs.declared.journey.Converted.{Converted}
use Rattle.us_inputs.specs.Chains.{ends_in_text}
use Rattle.us_inputs.specs.Steps.{Input, chain_in, input_at, map_of, within_limit}
use Rattle.us_inputs.specs.Sources.{held_as}
use Rattle.us_journeys.specs.Converting.{written}
use Rattle.us_journeys.specs.Hops.{units_of}
use Rattle.us_journeys.specs.Journeys.{IsAlong, IsConversionOf, IsConverted, IsMadeOf}
use Rattle.us_journeys.specs.Meanings.{LastIsMeant}
use Rattle.us_status.proofs.AnswerLemmas.{both}
use Rattle.us_inputs.proofs.ChainedLemmas.{of_files}

pub all_made : (formats input chain : List ℕ) (listed : Bool) (o : Option Files) (ds : List Declared) (i : Input) {E : Type 0} (r : Result Converted E)
    → IfSome o (λ fs. chain_in (content_of fs formats) chain ≡ Ok ds) → IfSome o (λ fs. input_at slots.Input (content_of fs input) ≡ Ok i)
    → OnOk r (within_limit (map_of i) 1 ds ≡ Ok tt) → IfOk r (IsMadeOf chain listed (record { formats = ds; input = i })) → IfOk r (IsConversionOf formats input chain listed o)
all_made formats input chain listed o ds i (Ok made) c e w h =
    (record { formats = ds; input = i }, h, both o c e (λ fs c e. of_files formats input chain fs ds i c e w))
all_made formats input chain listed o ds i (Err x) c e w h = tt

-- what stands behind the last hop is what the conversion makes
pub converted : (chain : List ℕ) (m : Map) (from : Contained) (listed : Bool) (ds : List Declared) (now : Held) (lines listing : List ℕ) {E : Type 0} (r : Result Converted E)
    → IsAlong m from listed ds now lines listing → IfOk r (λ made. made.bytes.items ≡ written chain ds now.matrix) → IfOk r (λ made. LastIsMeant (ends_in_text chain) now.matrix ds made.bytes.items)
    → IfOk r (λ made. made.lines.items ≡ lines) → IfOk r (λ made. made.listing.items ≡ listing) → IfOk r (IsConverted chain m from listed ds)
converted chain m from listed ds now lines listing (Ok made) a bytes means told listed_is = record {
  hops = a.hops;
  targets = a.targets;
  are = a.are;
  bytes = bytes ∙ ap (written chain ds) a.matrix;
  lines = told ∙ a.told;
  lists = λ t. subst (IsListing (units_of a.hops)) (sym listed_is) (a.lists t);
  means = subst (λ m. LastIsMeant (ends_in_text chain) m ds made.bytes.items) a.matrix means;
}
converted chain m from listed ds now lines listing (Err x) a bytes means told listed_is = tt

-- what is made of what is held is made of the input
pub made_of_held : (chain : List ℕ) (listed : Bool) (ds : List Declared) (i : Input) (m : Map) (from : Contained) (made : Converted) → m ≡ map_of i → from ≡ held_as i
    → IsConverted chain m from listed ds made → IsMadeOf chain listed (record { formats = ds; input = i }) made
made_of_held chain listed ds i m from made e f h =
    let k = subst (λ m. IsConverted chain m (held_as i) listed ds made) e (subst (λ c. IsConverted chain m c listed ds made) f h) in
    record { hops = k.hops; leads = record { targets = k.targets; hops = k.are }; bytes = k.bytes; lines = k.lines; lists = k.lists; means = k.means }
