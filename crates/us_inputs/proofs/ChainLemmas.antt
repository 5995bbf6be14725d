-- The test of a chain, name by name.
use Rattle.std.proofs.Common.{◌≡◌, ℕ, suc, ◌-◌, ◌<◌, ◌≤◌, ◌&&◌, not, nat_le, Bool, true, false, List, [], ◌∷◌, length, take, refl, sym, ap, ◌∙◌, arith, ◌==◌}
use Rattle.std.specs.List.{list_all, list_any}
use Rattle.std.proofs.lemmas.Bool.Decides.{nat_tests}
use Rattle.us_inputs.specs.Chains.{names_of, is_text, front, is_chain}

front_take : (xs : List (List ℕ)) → front xs ≡ take (length xs - 1) xs
front_take [] = refl
front_take (x ∷ []) = refl
front_take (x ∷ y ∷ xs) =
    let more : suc (length (y ∷ xs) - 1) ≡ length (x ∷ y ∷ xs) - 1 = omega arith in
    ap (λ l. x ∷ l) (front_take (y ∷ xs)) ∙ ap (λ n. take n (x ∷ y ∷ xs)) more

by_tests : (chain : List ℕ) (x y z : Bool) → nat_le (length (names_of chain)) 64 ≡ x → list_all (λ w. not (length w == 0)) (names_of chain) ≡ y → list_any is_text (front (names_of chain)) ≡ z
    → is_chain chain ≡ (x && (y && not z))
unfolding is_chain
by_tests chain x y z p q r =
    ap (λ b. b && (list_all (λ w. not (length w == 0)) (names_of chain) && not (list_any is_text (front (names_of chain))))) p
    ∙ ap (λ b. x && (b && not (list_any is_text (front (names_of chain))))) q ∙ ap (λ b. x && (y && not b)) r

pub many : (chain : List ℕ) (n : ℕ) → n ≡ length (names_of chain) → 64 < n → is_chain chain ≡ false
many chain n e h =
    let test : nat_le (length (names_of chain)) 64 ≡ false = grind (arith, nat_tests) in
    by_tests chain false _ _ test refl refl

pub unnamed : (chain : List ℕ) (n : ℕ) (named : Bool) → n ≡ length (names_of chain) → n ≤ 64 → named ≡ list_all (λ w. not (length w == 0)) (names_of chain) → named ≡ false → is_chain chain ≡ false
unnamed chain n named e h a f =
    let test : nat_le (length (names_of chain)) 64 ≡ true = grind (arith, nat_tests) in
    by_tests chain true false _ test (sym a ∙ f) refl

pub named_all : (chain : List ℕ) (n k : ℕ) (named before : Bool) → n ≡ length (names_of chain) → n ≤ 64 → named ≡ list_all (λ w. not (length w == 0)) (names_of chain) → named ≡ true → k ≡ n - 1
    → before ≡ list_any is_text (take k (names_of chain)) → is_chain chain ≡ not before
named_all chain n k named before e h a t ek b =
    let test : nat_le (length (names_of chain)) 64 ≡ true = grind (arith, nat_tests) in
    let last : length (names_of chain) - 1 ≡ k = omega (arith, e, ek) in
    by_tests chain true true before test (sym a ∙ t) (ap (list_any is_text) (front_take (names_of chain) ∙ ap (λ m. take m (names_of chain)) last) ∙ sym b)

pub is_above : (n : ℕ) → 64 < n → nat_le n 64 ≡ false
is_above n h = grind (arith, nat_tests)
