-- The steps of a conversion, one after the other.
use Rattle.std.proofs.Common.{◌≡◌, ℕ, Bool, true, List, [], ◌∷◌, ◌++◌, map, Option, Some, None, IfSome, Ok, refl, sym, ap, ◌∙◌, subst}
use Rattle.us_decl.specs.Declares.{Declared}
use Rattle.us_outside.specs.Files.{Files, content_of}
use Rattle.us_unit.specs.Listing.{ListingsReadBack}
use Rattle.us_status.specs.declared.status.Slot.TheVariants as slots
use Rattle.us_journeys.specs.declared.journey.Converted.{Converted}
use Rattle.us_inputs.specs.Chains.{ends_in_text}
use Rattle.us_status.specs.Uses.{listing_uses, print_use, reads, stores}
use Rattle.us_status.specs.Answers.{store_use, writes}
use Rattle.us_inputs.specs.Steps.{Input, chain_in, input_at, map_of}
use Rattle.us_inputs.specs.Chained.{Chained, chained_in, IsOfFiles}
use Rattle.us_journeys.specs.Converting.{written}
use Rattle.us_journeys.specs.Hops.{Hop, units_of}
use Rattle.us_journeys.specs.Journeys.{IsMadeOf}
use Rattle.us_top.specs.Tasks.{IsConversion, IsListed, convert_task}
use Rattle.us_status.specs.Stands.{after_stores, listing_store, output_of, Outcome, Store}
use Rattle.us_journeys.specs.Meanings.{LastIsMeant}
use Rattle.us_top.specs.Headline.{ConversionMeans, MeansInput}
use Rattle.us_status.proofs.FileLemmas.{same_ok}
use Rattle.us_top.proofs.ConversionMeans.{conversion_means}

means_behind : (formats input chain : List ℕ) (fs : Files) (ds : List Declared) (i : Input) (bytes : List ℕ) → chain_in (content_of fs formats) chain ≡ Ok ds
    → input_at slots.Input (content_of fs input) ≡ Ok i → LastIsMeant (ends_in_text chain) (map_of i) ds bytes → MeansInput formats input chain fs bytes
means_behind formats input chain fs ds i bytes c e means ds' i' c' e' =
    subst (λ l. LastIsMeant (ends_in_text chain) (map_of i') l bytes) (same_ok _ ds ds' c c')
    (subst (λ x. LastIsMeant (ends_in_text chain) (map_of x) ds bytes) (same_ok _ i i' e e') means)

-- the files that a conversion leaves mean its input and its formats
pub made_means : (formats input chain output : List ℕ) (listing : Option (List ℕ)) (listed : Bool) (files : Option Files) (c : Chained) (made : Converted) (o : Outcome) → IsMadeOf chain listed c made
    → IfSome files (IsOfFiles formats input chain c) → IsConversion chain output listing c o
    → IfSome files (λ fs. ConversionMeans formats input chain output listing fs (after_stores o.stores fs))
made_means formats input chain output listing listed None c made o h k m = tt
made_means formats input chain output listing listed (Some fs) c made o h k m =
    subst (λ (o : Outcome). ConversionMeans formats input chain output listing fs (after_stores o.stores fs)) (sym m.is)
    (conversion_means formats input chain output listing c fs m.hops m.more m.leads m.listed
    (subst (MeansInput formats input chain fs) h.bytes (means_behind formats input chain fs c.formats c.input made.bytes.items k.found k.read h.means)) k.found k.read)

-- the call that stores a listing
listed_uses : (listing : Option (List ℕ)) (hops : List Hop) (more : List Store) → IsListed listing hops more → listing_uses listing ≡ map store_use more
listed_uses None hops more h = ap (map store_use) (sym h)
listed_uses (Some name) hops more h = ap (map store_use) (sym h.2)

-- the calls of a conversion
pub conversion_uses : (formats input chain output : List ℕ) (listing : Option (List ℕ)) (c : Chained) (o : Outcome) → IsConversion chain output listing c o
    → (convert_task formats input chain output listing).uses ≡ (reads slots.Formats formats ∷ reads slots.Input input ∷ []) ++ writes o
conversion_uses formats input chain output listing c o h =
    ap (λ us. reads slots.Formats formats ∷ reads slots.Input input ∷ stores slots.Output output ∷ (us ++ (print_use ∷ []))) (listed_uses listing h.hops h.more h.listed)
    ∙ ap (λ (o : Outcome). (reads slots.Formats formats ∷ reads slots.Input input ∷ []) ++ writes o) (sym h.is)

pub made_steps : (formats input chain : List ℕ) (o : Option Files) (c : Chained) → IfSome o (IsOfFiles formats input chain c) → IfSome o (λ fs. chained_in formats input chain fs ≡ Ok c)
made_steps formats input chain None c k = tt
made_steps formats input chain (Some fs) c k = k.steps

abbrev without : Store → List ℕ → Outcome
without s lines = record { stores = s ∷ []; prints = Some lines }

abbrev with : Store → Store → List ℕ → Outcome
with s t lines = record { stores = s ∷ t ∷ []; prints = Some lines }

-- with no listing
pub stored_alone : (chain output : List ℕ) (listed : Bool) (c : Chained) (made : Converted) (s : Store) (bytes lines : List ℕ) → IsMadeOf chain listed c made
    → s ≡ output_of output bytes → bytes ≡ made.bytes.items → lines ≡ made.lines.items → IsConversion chain output None c (without s lines)
stored_alone chain output listed c made s bytes lines h e f g = record {
  hops = h.hops;
  leads = h.leads;
  more = [];
  listed = refl;
  is = ap (λ s. without s lines) (e ∙ ap (output_of output) (f ∙ h.bytes)) ∙ ap (without (output_of output (written chain c.formats (map_of c.input)))) (g ∙ h.lines);
}

-- with a listing behind
pub stored_listed : (chain output name : List ℕ) (listed : Bool) (c : Chained) (made : Converted) (s t : Store) (bytes listing lines : List ℕ) → ListingsReadBack → IsMadeOf chain listed c made → listed ≡ true
    → s ≡ output_of output bytes → bytes ≡ made.bytes.items → t ≡ listing_store name listing → listing ≡ made.listing.items → lines ≡ made.lines.items
    → IsConversion chain output (Some name) c (with s t lines)
stored_listed chain output name listed c made s t bytes listing lines back h wanted e f e' f' g =
    let first = output_of output (written chain c.formats (map_of c.input)) in
    let kept = h.lists wanted in
    record {
      hops = h.hops;
      leads = h.leads;
      more = listing_store name made.listing.items ∷ [];
      listed = (made.listing.items, record { listing = kept; reads = back (units_of h.hops) made.listing.items kept }, refl);
      is =
          ap (λ s. with s t lines) (e ∙ ap (output_of output) (f ∙ h.bytes)) ∙ ap (λ t. with first t lines) (e' ∙ ap (listing_store name) f')
          ∙ ap (with first (listing_store name made.listing.items)) (g ∙ h.lines);
    }
