-- The first place at which two lists differ, from any place on up to which they agree.
use Rattle.std.proofs.Common.{◌≡◌, ◌≢◌, ℕ, suc, ◌+◌, ◌≤◌, ◌<◌, List, length, drop, get_or, Option, Some, None, refl, ap, ap₂, ◌∙◌, arith, add-one, drop-cons}
use Rattle.std.specs.Prelude.{nat_eq, if◌then◌else◌}
use Rattle.std.specs.Option.{option_map}
use Rattle.std.proofs.lemmas.Bool.{cond-true, cond-false, eq-eqb, ne_eqb}
use Rattle.std.proofs.lemmas.List.{drop_all}
use Rattle.us_container.specs.Text.{first_difference}

-- a place that is counted from k on
abbrev pub from_place : ℕ → Option ℕ → Option ℕ
from_place k None = None
from_place k (Some n) = Some (n + k)

-- the first difference stands behind the first k items, if there is one
pub record Agree (xs ys : List ℕ) (k : ℕ) : Type 0 where
  pub is : first_difference xs ys ≡ from_place k (first_difference (drop k xs) (drop k ys))
  pub left : k ≤ length xs
  pub right : k ≤ length ys

from_none : (o : Option ℕ) → o ≡ from_place 0 o
from_none None = refl
from_none (Some n) = ap Some (omega arith)

from_next : (k : ℕ) (o : Option ℕ) → from_place k (option_map suc o) ≡ from_place (suc k) o
from_next k None = refl
from_next k (Some n) = ap Some (omega arith)

same_first : (x y : ℕ) (o : Option ℕ) → x ≡ y → (if nat_eq x y then o else Some 0) ≡ o
same_first x y o h = cond-true (nat_eq x y) o (Some 0) (eq-eqb x y h)

other_first : (x y : ℕ) (o : Option ℕ) → x ≢ y → (if nat_eq x y then o else Some 0) ≡ Some 0
other_first x y o h = cond-false (nat_eq x y) o (Some 0) (ne_eqb x y h)

pub agree_none : (xs ys : List ℕ) → Agree xs ys 0
agree_none xs ys = record { is = from_none (first_difference xs ys); left = omega arith; right = omega arith }

-- what the items at k, and those behind them, give
here : (xs ys : List ℕ) (k : ℕ) → k < length xs → k < length ys
    → first_difference (drop k xs) (drop k ys) ≡ (if nat_eq (get_or xs k 0) (get_or ys k 0) then option_map suc (first_difference (drop (suc k) xs) (drop (suc k) ys)) else Some 0)
here xs ys k h g = ap₂ first_difference (drop-cons xs k 0 h) (drop-cons ys k 0 g)

-- one item more is alike
pub agree_more : (xs ys : List ℕ) (k : ℕ) → Agree xs ys k → k < length xs → k < length ys → get_or xs k 0 ≡ get_or ys k 0 → Agree xs ys (k + 1)
agree_more xs ys k a h g e = record {
  is =
      let rest : Option ℕ = first_difference (drop (suc k) xs) (drop (suc k) ys) in
      let step : first_difference (drop k xs) (drop k ys) ≡ option_map suc rest = here xs ys k h g ∙ same_first (get_or xs k 0) (get_or ys k 0) (option_map suc rest) e in
      let whole : first_difference xs ys ≡ from_place (suc k) rest = a.is ∙ ap (from_place k) step ∙ from_next k rest in
      rw (add-one k) whole;
  left = omega arith;
  right = omega arith;
}

-- the items there differ
pub differ_here : (xs ys : List ℕ) (k : ℕ) → Agree xs ys k → k < length xs → k < length ys → get_or xs k 0 ≢ get_or ys k 0 → first_difference xs ys ≡ Some k
differ_here xs ys k a h g e =
    let step : first_difference (drop k xs) (drop k ys) ≡ Some 0 = here xs ys k h g ∙ other_first (get_or xs k 0) (get_or ys k 0) (option_map suc (first_difference (drop (suc k) xs) (drop (suc k) ys))) e in
    a.is ∙ ap (from_place k) step ∙ ap Some (omega arith)

-- the second list ends there
pub right_ends : (xs ys : List ℕ) (k : ℕ) → Agree xs ys k → k < length xs → length ys ≤ k → first_difference xs ys ≡ Some k
right_ends xs ys k a h g =
    let step : first_difference (drop k xs) (drop k ys) ≡ Some 0 = ap₂ first_difference (drop-cons xs k 0 h) (drop_all k ys g) in
    a.is ∙ ap (from_place k) step ∙ ap Some (omega arith)

-- the first list ends there, and the second goes on
pub left_ends : (xs ys : List ℕ) (k : ℕ) → Agree xs ys k → length xs ≤ k → length xs ≢ length ys → first_difference xs ys ≡ Some (length xs)
left_ends xs ys k a h g =
    let ends : k ≡ length xs = omega (arith, a.left) in
    let goes_on : k < length ys = omega (arith, a.right) in
    let step : first_difference (drop k xs) (drop k ys) ≡ Some 0 = ap₂ first_difference (drop_all k xs h) (drop-cons ys k 0 goes_on) in
    a.is ∙ ap (from_place k) step ∙ ap Some (omega arith)

pub both_end : (xs ys : List ℕ) (k : ℕ) → Agree xs ys k → length xs ≤ k → length xs ≡ length ys → first_difference xs ys ≡ None
both_end xs ys k a h g = a.is ∙ ap (from_place k) (ap₂ first_difference (drop_all k xs h) (drop_all k ys (omega arith)))
