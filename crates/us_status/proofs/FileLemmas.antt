-- What files hold after a store.
use Rattle.std.proofs.Common.{◌≡◌, ◌≢◌, ℕ, cond, unwrap_or, Bool, true, false, List, [], Some, Result, Ok, refl, ap, ◌∙◌}
use Rattle.std.specs.FinMap.{get, get-insert}
use Rattle.std.specs.Cmp.Lexicographic.{nat_list_cmp_total, slice_cmp}
use Rattle.std.specs.Ordering.{eq_by_cmp, nat_cmp}
use Rattle.std.proofs.lemmas.Cmp.{eq_by_cmp_equiv}
use Rattle.std.proofs.lemmas.Map.Lookups.{exact_bytes}
use Rattle.std.proofs.lemmas.Map.Views.{tells_apart}
use Rattle.us_outside.specs.Files.{Files, content_of, stored}
use Rattle.us_status.specs.declared.status.Status.{Status}

pub same_ok : {A : Type 0} (r : Result A Status) (x y : A) → r ≡ Ok x → r ≡ Ok y → x ≡ y
same_ok r x y h k = cc

-- a file that was stored holds these bytes
pub stored_content : (fs : Files) (name bytes : List ℕ) → content_of (stored name bytes fs) name ≡ bytes
stored_content fs name bytes =
    ap (λ o. unwrap_or o []) (get-insert nat_list_cmp_total fs name bytes name ∙ ap (λ b. cond b (Some bytes) (get fs name)) ((eq_by_cmp_equiv nat_list_cmp_total).refl name))

names_apart : (a b : List ℕ) → a ≢ b → (t : Bool) → eq_by_cmp (slice_cmp nat_cmp) a b ≡ t → eq_by_cmp (slice_cmp nat_cmp) a b ≡ false
names_apart a b apart false e = e
names_apart a b apart true e = absurd (apart (tells_apart exact_bytes a b e))

-- a file of another name stays
pub other_content : (fs : Files) (name bytes other : List ℕ) → other ≢ name → content_of (stored name bytes fs) other ≡ content_of fs other
other_content fs name bytes other apart =
    ap (λ o. unwrap_or o []) (get-insert nat_list_cmp_total fs name bytes other ∙ ap (λ b. cond b (Some bytes) (get fs other)) (names_apart other name apart _ refl))
