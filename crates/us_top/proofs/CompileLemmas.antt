-- The unit of a pair of formats.
use Rattle.std.proofs.Common.{◌≡◌, ℕ, List, [], ◌∷◌, Option, Some, None, IfSome, Ok, sym, subst}
use Rattle.us_format.specs.Matrix.{Shape}
use Rattle.us_decl.specs.Declares.{Declared}
use Rattle.us_outside.specs.Files.{Files, content_of}
use Rattle.us_status.specs.Stands.{after_stores, output_of}
use Rattle.us_status.proofs.FileLemmas.{same_ok, stored_content}
use Rattle.us_top.specs.Compiling.{IsUnitOfPair, pair_in}
use Rattle.us_top.specs.Headline.{IsCompiled}

-- a unit that was stored is that of the pair in the library
pub unit_means : (formats : List ℕ) (shape : Shape) (source target output : List ℕ) (files : Option Files) (ds : List Declared) (bytes : List ℕ)
    → IfSome files (λ fs. pair_in (content_of fs formats) source target ≡ Ok ds) → IsUnitOfPair ds shape bytes
    → IfSome files (λ fs. IsCompiled formats shape source target fs (content_of (after_stores (output_of output bytes ∷ []) fs) output))
unit_means formats shape source target output None ds bytes h unit = tt
unit_means formats shape source target output (Some fs) ds bytes h unit =
    subst (IsCompiled formats shape source target fs) (sym (stored_content fs output bytes))
    (λ more e. subst (λ (ds : List Declared). IsUnitOfPair ds shape bytes) (same_ok (pair_in (content_of fs formats) source target) ds more h e) unit)
