-- The end of a product: what it stores and lists, and what these files mean.
use Rattle.std.proofs.Common.{◌≡◌, ◌≢◌, ℕ, ◌++◌, map, Bool, true, List, [], ◌∷◌, Option, Some, None, IfSome, Ok, refl, sym, ap, ◌∙◌, subst}
use Rattle.us_matrix.specs.Grid.{Grid}
use Rattle.us_mm.specs.Arrays.{array_in}
use Rattle.us_mm.specs.Laws.{ArrayTextReads}
use Rattle.us_mm.specs.Text.{array_text}
use Rattle.us_decl.specs.Declares.{Declared}
use Rattle.us_dense_unit.specs.Listing.{DenseListingsReadBack}
use Rattle.us_outside.specs.Files.{Files, content_of, stored}
use Rattle.us_status.specs.declared.status.Slot.TheVariants as slots
use Rattle.us_status.specs.Uses.{listing_uses, print_use, reads, stores}
use Rattle.us_status.specs.Answers.{store_use, writes}
use Rattle.us_status.specs.Stands.{Outcome, Store, after_stores, listing_store, output_of}
use Rattle.us_status.proofs.FileLemmas.{other_content, same_ok, stored_content}
use Rattle.us_inputs.specs.Sources.{held_as}
use Rattle.us_inputs.specs.Steps.{Input, chain_in, input_at, map_of}
use Rattle.us_journeys.specs.Hops.{Hop, held_after, hop_lines, units_of}
use Rattle.us_products.specs.declared.multiplying.Multiplied.{Multiplied}
use Rattle.us_products.specs.Factors.{AreOfFiles, Factors, factors_in, operand_at}
use Rattle.us_products.specs.Products.{IsListed, IsListingOf, IsProduct, IsProductIn, Kernel, ListingMeans, ProductMeans, grid_of, product_line, unit_of}
use Rattle.us_products.specs.Tasks.{product_task}
use Rattle.us_products.specs.Views.{IsMadeOf}

-- ---- what is stored

abbrev without : Store → List ℕ → Outcome
without s lines = record { stores = s ∷ []; prints = Some lines }

abbrev with : Store → Store → List ℕ → Outcome
with s t lines = record { stores = s ∷ t ∷ []; prints = Some lines }

abbrev stored_output : List ℕ → Factors → Kernel → Store
stored_output output c k = output_of output (array_text (grid_of (map_of c.input) c.operand k.cells))

abbrev printed_lines : Bool → Factors → List Hop → Kernel → List ℕ
printed_lines vector c hops k = hop_lines (map_of c.input) hops ++ product_line vector (map_of c.input) c.operand k.steps

-- with no listing
pub stored_alone : (vector : Bool) (output : List ℕ) (listed : Bool) (c : Factors) (made : Multiplied) (s : Store) (bytes lines : List ℕ) → IsMadeOf vector listed c made
    → s ≡ output_of output bytes → bytes ≡ made.bytes.items → lines ≡ made.lines.items → IsProduct vector output None c (without s lines)
stored_alone vector output listed c made s bytes lines h e f g = record {
  hops = h.hops;
  leads = h.leads;
  kernel = h.kernel;
  multiplies = h.multiplies;
  grid = h.grid;
  more = [];
  listed = refl;
  is = ap (λ s. without s lines) (e ∙ ap (output_of output) (f ∙ h.bytes)) ∙ ap (without (stored_output output c h.kernel)) (g ∙ h.lines);
}

-- with a listing behind
pub stored_listed : (vector : Bool) (output name : List ℕ) (listed : Bool) (c : Factors) (made : Multiplied) (s t : Store) (bytes listing lines : List ℕ) → DenseListingsReadBack
    → IsMadeOf vector listed c made → listed ≡ true → s ≡ output_of output bytes → bytes ≡ made.bytes.items → t ≡ listing_store name listing → listing ≡ made.listing.items
    → lines ≡ made.lines.items → IsProduct vector output (Some name) c (with s t lines)
stored_listed vector output name listed c made s t bytes listing lines back h wanted e f e' f' g =
    let first = stored_output output c h.kernel in
    let kept = h.lists wanted in
    let unit = unit_of (map_of c.input) c.operand h.kernel in
    record {
      hops = h.hops;
      leads = h.leads;
      kernel = h.kernel;
      multiplies = h.multiplies;
      grid = h.grid;
      more = listing_store name made.listing.items ∷ [];
      listed = (made.listing.items, record { listing = kept; reads = back (units_of h.hops) unit made.listing.items kept }, refl);
      is =
          ap (λ s. with s t lines) (e ∙ ap (output_of output) (f ∙ h.bytes)) ∙ ap (λ t. with first t lines) (e' ∙ ap (listing_store name) f')
          ∙ ap (with first (listing_store name made.listing.items)) (g ∙ h.lines);
    }

pub made_steps : (vector : Bool) (formats input chain operand : List ℕ) (o : Option Files) (c : Factors) → IfSome o (AreOfFiles vector formats input chain operand c)
    → IfSome o (λ fs. factors_in vector formats input chain operand fs ≡ Ok c)
made_steps vector formats input chain operand None c k = tt
made_steps vector formats input chain operand (Some fs) c k = k.steps

-- the call that stores a listing
listed_uses : (listing : Option (List ℕ)) (vector : Bool) (c : Factors) (hops : List Hop) (k : Kernel) (more : List Store) → IsListed listing (map_of c.input) c.operand hops k more
    → listing_uses listing ≡ map store_use more
listed_uses None vector c hops k more h = ap (map store_use) (sym h)
listed_uses (Some name) vector c hops k more h = ap (map store_use) (sym h.2)

-- the calls of a product
pub product_uses : (vector : Bool) (formats input chain operand output : List ℕ) (listing : Option (List ℕ)) (c : Factors) (o : Outcome) → IsProduct vector output listing c o
    → (product_task vector formats input chain operand output listing).uses
    ≡ (reads slots.Formats formats ∷ reads slots.Input input ∷ reads slots.Operand operand ∷ []) ++ writes o
product_uses vector formats input chain operand output listing c o h =
    ap (λ us. reads slots.Formats formats ∷ reads slots.Input input ∷ reads slots.Operand operand ∷ stores slots.Output output ∷ (us ++ (print_use ∷ [])))
    (listed_uses listing vector c h.hops h.kernel h.more h.listed)
    ∙ ap (λ (o : Outcome). (reads slots.Formats formats ∷ reads slots.Input input ∷ reads slots.Operand operand ∷ []) ++ writes o) (sym h.is)

-- ---- what the files mean

output_apart : (listing output : List ℕ) → Some listing ≢ Some output → output ≢ listing
output_apart listing output apart e = apart (ap (λ n. Some n) (sym e))

-- what is so of the factors of the files is so of whatever the files give
for_all : (P : List Declared → Input → Grid → Type 0) (vector : Bool) (formats input chain operand : List ℕ) (fs : Files) (c : Factors) → AreOfFiles vector formats input chain operand c fs
    → P c.formats c.input c.operand → (ds : List Declared) (i : Input) (x : Grid) → chain_in (content_of fs formats) chain ≡ Ok ds → input_at slots.Input (content_of fs input) ≡ Ok i
    → operand_at (content_of fs operand) ≡ Ok x → P ds i x
for_all P vector formats input chain operand fs c k h ds i x e f g =
    subst (λ ds. P ds i x) (same_ok (chain_in (content_of fs formats) chain) c.formats ds k.found e)
    (subst (λ i. P c.formats i x) (same_ok (input_at slots.Input (content_of fs input)) c.input i k.read f)
    (subst (λ x. P c.formats c.input x) (same_ok (operand_at (content_of fs operand)) c.operand x k.operand_read g) h))

abbrev IsListingAt : Factors → List Hop → Kernel → List ℕ → Type 0
IsListingAt c hops k bytes = IsListingOf (map_of c.input) c.operand hops k bytes

abbrev MeantAfter : List ℕ → Option (List ℕ) → Files → List Declared → Input → Grid → Type 0
MeantAfter output listing after ds i x = (listing ≢ Some output → IsProductIn (map_of i) x (content_of after output)) × ListingMeans listing ds i x after

product_in : ArrayTextReads → (vector : Bool) (output : List ℕ) (listing : Option (List ℕ)) (c : Factors) (o : Outcome) (p : IsProduct vector output listing c o) (bytes : List ℕ)
    → bytes ≡ array_text (grid_of (map_of c.input) c.operand p.kernel.cells) → IsProductIn (map_of c.input) c.operand bytes
product_in law vector output listing c o p bytes e = record {
  cells = p.kernel.cells;
  products = p.multiplies.products;
  reads = ap array_in e ∙ law (grid_of (map_of c.input) c.operand p.kernel.cells) p.grid;
}

stored_means : ArrayTextReads → (vector : Bool) (output : List ℕ) (listing : Option (List ℕ)) (c : Factors) (o : Outcome) (fs : Files) (p : IsProduct vector output listing c o) (more : List Store)
    → IsListed listing (map_of c.input) c.operand p.hops p.kernel more
    → MeantAfter output listing (after_stores (stored_output output c p.kernel ∷ more) fs) c.formats c.input c.operand
stored_means law vector output None c o fs p more listed =
    subst (λ (more : List Store). MeantAfter output None (after_stores (stored_output output c p.kernel ∷ more) fs) c.formats c.input c.operand) (sym listed)
    ((λ _. product_in law vector output None c o p _ (stored_content fs output (array_text (grid_of (map_of c.input) c.operand p.kernel.cells)))), tt)
stored_means law vector output (Some name) c o fs p more listed =
    let bytes = array_text (grid_of (map_of c.input) c.operand p.kernel.cells) in
    let first = stored output bytes fs in
    subst (λ (more : List Store). MeantAfter output (Some name) (after_stores (stored_output output c p.kernel ∷ more) fs) c.formats c.input c.operand) (sym listed.2) (
      (λ apart. product_in law vector output (Some name) c o p _ (other_content first name listed.0 output (output_apart name output apart) ∙ stored_content fs output bytes)),
      record { hops = p.hops; leads = p.leads; kernel = p.kernel; multiplies = p.multiplies; lists = subst (λ bytes. IsListingAt c p.hops p.kernel bytes) (sym (stored_content first name listed.0)) listed.1 },
    )

pub product_means : ArrayTextReads → (vector : Bool) (formats input chain operand output : List ℕ) (listing : Option (List ℕ)) (files : Option Files) (c : Factors) (o : Outcome)
    → IsProduct vector output listing c o → IfSome files (AreOfFiles vector formats input chain operand c)
    → IfSome files (λ fs. ProductMeans formats input chain operand output listing fs (after_stores o.stores fs))
product_means law vector formats input chain operand output listing None c o p k = tt
product_means law vector formats input chain operand output listing (Some fs) c o p k =
    for_all (MeantAfter output listing (after_stores o.stores fs)) vector formats input chain operand fs c k
    (subst (λ (o : Outcome). MeantAfter output listing (after_stores o.stores fs) c.formats c.input c.operand) (sym p.is) (stored_means law vector output listing c o fs p p.more p.listed))
