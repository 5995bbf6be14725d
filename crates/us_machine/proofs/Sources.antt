-- The sources by their numbers.
use Rattle.std.proofs.Common.{◌≡◌, ℕ, zero, suc, List, [], ◌∷◌, ℤ, refl}
use Rattle.std.specs.Prelude.{slice_index_or}
use Rattle.us_code.specs.Runs.{at_source}

pub source_is : (xs : List (List ℤ)) (k : ℕ) → at_source xs k ≡ slice_index_or xs k []
source_is [] k = refl
source_is (x ∷ xs) zero = refl
source_is (x ∷ xs) (suc k) = source_is xs k
