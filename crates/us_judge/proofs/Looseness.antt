-- A walk over the levels that looks for the first level behind a loose one which isn't loose.
use Rattle.std.proofs.Common.{◌≡◌, ℕ, zero, suc, ◌+◌, ◌<◌, ◌≤◌, [], ◌∷◌, ◌++◌, length, map, take, Bool, true, false, not, ◌||◌, ◌⊎◌, inl, inr, refl, sym, ap, subst, ◌∙◌, add-one, zero-add, arith}
use Rattle.std.specs.Prelude.{Some, None, slice_get}
use Rattle.std.specs.List.{list_any, range_with_len}
use Rattle.std.proofs.lemmas.List.FromFn.{get_or-range_with_len, length-range_with_len}
use Rattle.std.proofs.lemmas.List.Folds.{list_any-append}
use Rattle.std.proofs.lemmas.List.{map-append}
use Rattle.std.proofs.lemmas.Option.{slice_get-get_or}
use Rattle.us_format.specs.Declaration.{Part}
use Rattle.us_format.specs.Kinds.{is_loose}
use Rattle.us_judge.specs.Acceptance.{stays_loose, first_level, bad_order}
use Rattle.us_judge.proofs.Reaching.{Reaches, longer, reaches-next, fails, passes}

-- the first k numbers from a on
pub take-range : (a n k : ℕ) → k ≤ n → take k (range_with_len a n) ≡ range_with_len a k
take-range a n zero h = refl
take-range a zero (suc k) h = absurd (omega arith)
take-range a (suc n) (suc k) h = ap (λ xs. a ∷ xs) (take-range (a + 1) n k (omega arith))

pub at-range : (n k : ℕ) → k < n → slice_get (range_with_len 0 n) k ≡ Some k
at-range n k h =
    let below : k < length (range_with_len 0 n) = subst (λ m. k < m) (sym (length-range_with_len 0 n)) h in
    slice_get-get_or (range_with_len 0 n) k 0 below ∙ ap (λ x. Some x) (get_or-range_with_len 0 n k 0 h ∙ zero-add k)

-- the numbers below k, and k
pub range-suc : (k : ℕ) → range_with_len 0 (suc k) ≡ range_with_len 0 k ++ (k ∷ [])
range-suc k =
    let h : k < suc k = omega arith in
    let le : k ≤ suc k = omega arith in
    sym (take-range 0 (suc k) (suc k) (omega arith)) ∙ longer (range_with_len 0 (suc k)) k k (at-range (suc k) k h) ∙ ap (λ xs. xs ++ (k ∷ [])) (take-range 0 (suc k) k le)

-- the levels below k are in order, and `seen` says whether one of them is loose
pub record IsOrderedTo (p : Part) (k : ℕ) (seen : Bool) : Type 0 where
  pub walked : Reaches (stays_loose p) (first_level p) (range_with_len 0 (length p.levels)) k
  pub seen_is : seen ≡ list_any (is_loose p) (range_with_len 0 k)

-- the test of the level k
stays : (p : Part) (k : ℕ) (seen : Bool) → k < length p.levels → seen ≡ list_any (is_loose p) (range_with_len 0 k) → stays_loose p (take k (range_with_len 0 (length p.levels))) k ≡ (not seen || is_loose p k)
stays p k seen h e = ap (λ xs. stays_loose p xs k) (take-range 0 (length p.levels) k (omega arith)) ∙ ap (λ b. not b || is_loose p k) (sym e)

or_false : (a : Bool) → (a || false) ≡ a
or_false true = refl
or_false false = refl

or_true : (a : Bool) → (a || true) ≡ true
or_true true = refl
or_true false = refl

pub order-next : (p : Part) (k : ℕ) (seen loose more : Bool) → k < length p.levels → loose ≡ is_loose p k → (not seen || loose) ≡ true → more ≡ (seen || loose) → IsOrderedTo p k seen → IsOrderedTo p (k + 1) more
order-next p k seen loose more h is passes_it more_is o = record {
  walked = reaches-next (stays_loose p) (first_level p) (range_with_len 0 (length p.levels)) k k (at-range (length p.levels) k h)
      (stays p k seen h o.seen_is ∙ ap (λ b. not seen || b) (sym is) ∙ passes_it) o.walked;
  seen_is =
      more_is ∙ ap (λ b. b || loose) o.seen_is ∙ ap (λ b. list_any (is_loose p) (range_with_len 0 k) || b) (is ∙ sym (or_false (is_loose p k)))
      ∙ sym (list_any-append (is_loose p) (range_with_len 0 k) (k ∷ [])) ∙ ap (λ xs. list_any (is_loose p) xs) (sym (range-suc k)) ∙ ap (λ n. list_any (is_loose p) (range_with_len 0 n)) (sym (add-one k));
}

pub order-stop : (p : Part) (k : ℕ) (seen loose : Bool) → k < length p.levels → loose ≡ is_loose p k → seen ≡ true → loose ≡ false → IsOrderedTo p k seen → Some (first_level p + k) ≡ bad_order p
order-stop p k seen loose h is s l o =
    fails (stays_loose p) (first_level p) (range_with_len 0 (length p.levels)) k k (at-range (length p.levels) k h)
    (stays p k seen h o.seen_is ∙ ap (λ b. not seen || b) (sym is ∙ l) ∙ ap (λ b. not b || false) s) o.walked

pub order-end : (p : Part) (k : ℕ) (seen : Bool) → length p.levels ≤ k → IsOrderedTo p k seen → None ≡ bad_order p
order-end p k seen h o =
    let past : length (range_with_len 0 (length p.levels)) ≤ k = subst (λ m. m ≤ k) (sym (length-range_with_len 0 (length p.levels))) h in
    passes (stays_loose p) (first_level p) (range_with_len 0 (length p.levels)) k past o.walked

-- how the loop goes on past a level
pub goes_on : (seen loose : Bool) → ((seen ≡ true) × (loose ≡ true)) ⊎ (seen ≡ false) → (not seen || loose) ≡ true
goes_on seen loose (inl h) = ap (λ b. not seen || b) h.1 ∙ or_true (not seen)
goes_on seen loose (inr h) = ap (λ b. not b || loose) h

pub map-range-suc : {A : Type 0} (f : ℕ → A) (k : ℕ) → map f (range_with_len 0 (k + 1)) ≡ map f (range_with_len 0 k) ++ (f k ∷ [])
map-range-suc f k = ap (λ n. map f (range_with_len 0 n)) (add-one k) ∙ ap (λ xs. map f xs) (range-suc k) ∙ map-append f (range_with_len 0 k) (k ∷ [])
