-- The size line and a value line of an operand file by their words, and by their numbers where these stop at the largest u64.
use Rattle.std.proofs.Common.{◌≡◌, ◌≢◌, ℕ, ◌-◌, ◌<◌, ◌^◌, ◌&&◌, min, Bool, true, false, cond, List, [], ◌∷◌, length, Err, ℤ, pos, negsuc, nat_lt, FitsSigned, refl, sym, ap, ◌∙◌, inl, inr, arith}
use Rattle.std.proofs.lemmas.Bool.{cases_Bool}
use Rattle.std.proofs.lemmas.Bool.Decides.{nat_tests}
use Rattle.std.specs.Str.Parse.{digits_value, starts_with_minus, without_leading_sign}
use Rattle.std.specs.Int.{w64}
use Rattle.us_mm.specs.declared.fault.MmFault.TheVariants.{Header, SizeLine, EntryLine, ValueRange}
use Rattle.us_mm.specs.declared.fault.MmFault.TheVariants as fault
use Rattle.us_mm_lines.specs.Words.{words, is_size_word, size_of, is_value_word, value_of, signed_value, is_value}
use Rattle.us_mm.specs.Reads.{is_side}
use Rattle.us_mm.specs.Arrays.{array_words, array_header_of, sides_of, side_words, side_numbers, value_in, value_words, value_number}
use Rattle.us_mm.proofs.EntryLemmas.{saturated_value}

array_words-not_five : (ws : List (List ℕ)) → length ws ≢ 5 → array_words ws ≡ Err Header
array_words-not_five [] h = refl
array_words-not_five (a ∷ []) h = refl
array_words-not_five (a ∷ b ∷ []) h = refl
array_words-not_five (a ∷ b ∷ c ∷ []) h = refl
array_words-not_five (a ∷ b ∷ c ∷ d ∷ []) h = refl
array_words-not_five (a ∷ b ∷ c ∷ d ∷ e ∷ []) h = absurd (h refl)
array_words-not_five (a ∷ b ∷ c ∷ d ∷ e ∷ f ∷ ws) h = refl

pub array_not_five : (line : List ℕ) → length (words line) ≢ 5 → array_header_of line ≡ Err Header
unfolding array_header_of
array_not_five line h = array_words-not_five (words line) h

pub array_five : (line a b c d e : List ℕ) → words line ≡ a ∷ b ∷ c ∷ d ∷ e ∷ [] → array_header_of line ≡ array_words (a ∷ b ∷ c ∷ d ∷ e ∷ [])
unfolding array_header_of
array_five line a b c d e h = ap array_words h

side_words-not_two : (n : ℕ) (ws : List (List ℕ)) → length ws ≢ 2 → side_words n ws ≡ Err (SizeLine n)
side_words-not_two n [] h = refl
side_words-not_two n (a ∷ []) h = refl
side_words-not_two n (a ∷ b ∷ []) h = absurd (h refl)
side_words-not_two n (a ∷ b ∷ c ∷ ws) h = refl

pub sides_not_two : (n : ℕ) (line : List ℕ) → length (words line) ≢ 2 → sides_of (n, line) ≡ Err (SizeLine n)
unfolding sides_of
sides_not_two n line h = side_words-not_two n (words line) h

pub sides_two : (n : ℕ) (line a b : List ℕ) → words line ≡ a ∷ b ∷ [] → sides_of (n, line) ≡ side_words n (a ∷ b ∷ [])
unfolding sides_of
sides_two n line a b h = ap (side_words n) h

-- numbers that stop at the largest u64 tell the same
sides_fail : (n a b : ℕ) → (is_side a && is_side b) ≡ false → side_numbers n a b ≡ Err (fault.Shape n)
sides_fail n a b h = rw h refl

same_sides : (a b x y : ℕ) → x ≡ min a (2 ^ 64 - 1) → y ≡ min b (2 ^ 64 - 1) → (is_side a && is_side b) ≡ (is_side x && is_side y)
same_sides a b x y e f = grind (arith, nat_tests)

same_side : (a b x y : ℕ) → x ≡ min a (2 ^ 64 - 1) → y ≡ min b (2 ^ 64 - 1) → (is_side x && is_side y) ≡ true → (a ≡ x) × (b ≡ y)
same_side a b x y e f h = (grind (arith, nat_tests), grind (arith, nat_tests))

saturated_sides : (n a b x y : ℕ) → x ≡ min a (2 ^ 64 - 1) → y ≡ min b (2 ^ 64 - 1) → side_numbers n a b ≡ side_numbers n x y
saturated_sides n a b x y e f =
    elim (cases_Bool (is_side x && is_side y)) [
      | inl sides ↦ let p = same_side a b x y e f sides in ap (λ m. side_numbers n m b) p.0 ∙ ap (side_numbers n x) p.1
      | inr none ↦ sides_fail n a b (same_sides a b x y e f ∙ none) ∙ sym (sides_fail n x y none)
    ]

both : (a b : Bool) → a ≡ true → b ≡ true → (a && b) ≡ true
both a b p q = rw (p, q) refl

pub sides_known : (n : ℕ) (a b : List ℕ) (x y : ℕ) → is_size_word a ≡ true → is_size_word b ≡ true
    → x ≡ min (size_of a) (2 ^ 64 - 1) → y ≡ min (size_of b) (2 ^ 64 - 1) → side_words n (a ∷ b ∷ []) ≡ side_numbers n x y
sides_known n a b x y p q e f = ap (λ t. cond t (side_numbers n (size_of a) (size_of b)) (Err (SizeLine n))) (both _ _ p q) ∙ saturated_sides n _ _ x y e f

pub sides_unknown : (n : ℕ) (a b : List ℕ) → (is_size_word a && is_size_word b) ≡ false → side_words n (a ∷ b ∷ []) ≡ Err (SizeLine n)
sides_unknown n a b h = rw h refl

value_words-not_one : (n : ℕ) (ws : List (List ℕ)) → length ws ≢ 1 → value_words n ws ≡ Err (EntryLine n)
value_words-not_one n [] h = refl
value_words-not_one n (a ∷ []) h = absurd (h refl)
value_words-not_one n (a ∷ b ∷ ws) h = refl

pub value_not_one : (n : ℕ) (line : List ℕ) → length (words line) ≢ 1 → value_in (n, line) ≡ Err (EntryLine n)
unfolding value_in
value_not_one n line h = value_words-not_one n (words line) h

pub value_unknown : (n : ℕ) (line w : List ℕ) → words line ≡ w ∷ [] → is_value_word w ≡ false → value_in (n, line) ≡ Err (EntryLine n)
unfolding value_in
value_unknown n line w h e = ap (value_words n) h ∙ ap (λ b. cond b (value_number n (value_of w)) (Err (EntryLine n))) e

same_value : (n : ℕ) (v w : ℤ) → (is_value v ≡ is_value w) × (is_value w ≡ true → v ≡ w) → value_number n v ≡ value_number n w
same_value n v w h =
    elim (cases_Bool (is_value w)) [
      | inl fits ↦ ap (value_number n) (h.1 fits)
      | inr too_large ↦ rw (h.0 ∙ too_large, too_large) refl
    ]

pub value_known : (n : ℕ) (line w : List ℕ) (minus : Bool) (z : ℕ) → words line ≡ w ∷ [] → is_value_word w ≡ true
    → minus ≡ starts_with_minus w → z ≡ min (digits_value 10 (without_leading_sign w)) (2 ^ 64 - 1) → value_in (n, line) ≡ value_number n (signed_value minus z)
unfolding value_in value_of
value_known n line w minus z h e s g =
    ap (value_words n) h ∙ ap (λ b. cond b (value_number n (value_of w)) (Err (EntryLine n))) e
    ∙ ap (λ t. value_number n (signed_value t (digits_value 10 (without_leading_sign w)))) (sym s)
    ∙ same_value n _ _ (saturated_value minus _ z g)

test_below : (n m : ℕ) → nat_lt n m ≡ true → n < m
test_below n m h = grind (arith, nat_tests)

pub value_fits : (v : ℤ) → is_value v ≡ true → FitsSigned w64 v
value_fits (pos n) h = record { sfits = test_below n (2 ^ 63) h }
value_fits (negsuc n) h = record { sfits = test_below n (2 ^ 63) h }
