-- What stands in the files of a conversion means its input and its formats.
use Rattle.std.proofs.Common.{◌≡◌, ◌≢◌, ℕ, List, ◌∷◌, Option, Some, None, Ok, sym, ap, ◌∙◌, subst}
use Rattle.us_decl.specs.Declares.{Declared}
use Rattle.us_outside.specs.Files.{Files, content_of, stored}
use Rattle.us_status.specs.declared.status.Slot.TheVariants as slots
use Rattle.us_inputs.specs.Steps.{Input, chain_in, input_at, map_of}
use Rattle.us_inputs.specs.Chained.{Chained}
use Rattle.us_journeys.specs.Converting.{written}
use Rattle.us_journeys.specs.Hops.{Hop, LeadThrough}
use Rattle.us_top.specs.Tasks.{IsListed}
use Rattle.us_status.specs.Stands.{output_of, Store, after_stores}
use Rattle.us_top.specs.Headline.{ConversionMeans, ListsHops, MeansInput}
use Rattle.us_status.proofs.FileLemmas.{same_ok, stored_content, other_content}

output_apart : (listing output : List ℕ) → Some listing ≢ Some output → output ≢ listing
output_apart listing output apart e = apart (ap (λ n. Some n) (sym e))

same_leads : (ds ds' : List Declared) (i i' : Input) (hops : List Hop) → ds ≡ ds' → i ≡ i' → LeadThrough ds i hops → LeadThrough ds' i' hops
same_leads ds ds' i i' hops e f h = subst (λ (i : Input). LeadThrough ds' i hops) f (subst (λ (ds : List Declared). LeadThrough ds i hops) e h)

pub conversion_means : (formats input chain output : List ℕ) (listing : Option (List ℕ)) (c : Chained) (fs : Files) (hops : List Hop) (more : List Store)
    → LeadThrough c.formats c.input hops → IsListed listing hops more → MeansInput formats input chain fs (written chain c.formats (map_of c.input))
    → chain_in (content_of fs formats) chain ≡ Ok c.formats → input_at slots.Input (content_of fs input) ≡ Ok c.input
    → ConversionMeans formats input chain output listing fs (after_stores (output_of output (written chain c.formats (map_of c.input)) ∷ more) fs)
conversion_means formats input chain output None c fs hops more leads listed means e f =
    let bytes = written chain c.formats (map_of c.input) in
    subst (λ (more : List Store). ConversionMeans formats input chain output None fs (after_stores (output_of output bytes ∷ more) fs)) (sym listed)
    ((λ _. subst (MeansInput formats input chain fs) (sym (stored_content fs output bytes)) means), tt)
conversion_means formats input chain output (Some listing) c fs hops more leads listed means e f =
    let bytes = written chain c.formats (map_of c.input) in
    let first = stored output bytes fs in
    subst (λ (more : List Store). ConversionMeans formats input chain output (Some listing) fs (after_stores (output_of output bytes ∷ more) fs)) (sym listed.2) (
      (λ apart.
          subst (MeansInput formats input chain fs)
          (sym (other_content first listing listed.0 output (output_apart listing output apart) ∙ stored_content fs output bytes)) means),
      subst (ListsHops formats input chain fs) (sym (stored_content first listing listed.0))
          (λ ds i e' f'. (
            hops,
            same_leads c.formats ds c.input i hops (same_ok (chain_in (content_of fs formats) chain) c.formats ds e e') (same_ok (input_at slots.Input (content_of fs input)) c.input i f f') leads,
            listed.1,
          )),
    )
