-- Printed numbers as words.
use Rattle.std.proofs.Common.{◌≡◌, ◌≢◌, ℕ, zero, suc, ◌^◌, ◌<◌, ◌≤◌, ◌==◌, ◌&&◌, not, Bool, true, false, cond, List, [], ◌∷◌, ◌++◌, length, drop, get_or, ℤ, pos, negsuc, neg_ℤ, FitsSigned, refl, ap, ◌∙◌, arith}
use Rattle.std.specs.Int.{w64}
use Rattle.std.specs.Fmt.{decimal, signed_decimal}
use Rattle.std.specs.Str.{all_ascii_digits}
use Rattle.std.specs.Str.Parse.{AllDigits, digits_value, without_leading_plus, without_leading_sign, starts_with_minus}
use Rattle.std.specs.List.{list_all}
use Rattle.std.proofs.lemmas.Fmt.{decimal_is_IsNumeral}
use Rattle.std.proofs.lemmas.Str.Parse.{IsNumeralModel, numerals_by_value, tells_all_ascii_digits, without_leading_plus_none, digit_from_value}
use Rattle.std.proofs.lemmas.Bool.Decides.{nat_tests}
use Rattle.std.proofs.lemmas.Bool.{false≢true}
use Rattle.us_mm_lines.specs.Words.{is_numeral, is_size_word, size_of, is_value_word, value_of, signed_value}

-- no byte passes the test
abbrev pub Clear : (ℕ → Bool) → List ℕ → Type 0
Clear p [] = Unit {0}
Clear p (b ∷ bs) = (p b ≡ false) × Clear p bs

pub clear_append : (p : ℕ → Bool) (a b : List ℕ) → Clear p a → Clear p b → Clear p (a ++ b)
clear_append p [] b h k = k
clear_append p (x ∷ a) b h k = (h.0, clear_append p a b h.1 k)

pub clear_at : (p : ℕ → Bool) (a : List ℕ) (k : ℕ) → Clear p a → k < length a → p (get_or a k 0) ≡ false
clear_at p [] k h lt = absurd (omega arith)
clear_at p (x ∷ a) zero h lt = h.0
clear_at p (x ∷ a) (suc k) h lt = clear_at p a k h.1 (omega arith)

and_parts : (b c : Bool) → (not b && c) ≡ true → (b ≡ false) × (c ≡ true)
and_parts true c h = absurd (false≢true h)
and_parts false c h = (refl, h)

pub clear_by_test : (p : ℕ → Bool) (a : List ℕ) → list_all (λ b. not (p b)) a ≡ true → Clear p a
clear_by_test p [] h = tt
clear_by_test p (x ∷ a) h = let parts = and_parts (p x) _ h in (parts.0, clear_by_test p a parts.1)

-- digits pass no test that only other bytes pass
pub clear_digits : (p : ℕ → Bool) → ((c : ℕ) → 48 ≤ c → c ≤ 57 → p c ≡ false) → (ds : List ℕ) → AllDigits 10 ds → Clear p ds
clear_digits p none [] h = tt
clear_digits p none (c ∷ ds) h = let r = digit_from_value c h.0 in (none c (omega (arith, r)) (omega (arith, r)), clear_digits p none ds h.1)

own : IsNumeralModel (λ ds. all_ascii_digits ds ≡ true) (digits_value 10)
own = numerals_by_value _ tells_all_ascii_digits

pub decimal_some : (n : ℕ) → n < 2 ^ 64 → 0 < length (decimal n)
decimal_some n h = (decimal_is_IsNumeral n h).0.0

pub decimal_clear : (p : ℕ → Bool) → ((c : ℕ) → 48 ≤ c → c ≤ 57 → p c ≡ false) → (n : ℕ) → n < 2 ^ 64 → Clear p (decimal n)
decimal_clear p none n h = clear_digits p none (decimal n) (decimal_is_IsNumeral n h).0.1

some_bytes : (ds : List ℕ) → 0 < length ds → (length ds == 0) ≡ false
some_bytes ds h = grind (arith, nat_tests)

decimal_numeral : (n : ℕ) → n < 2 ^ 64 → is_numeral (decimal n) ≡ true
decimal_numeral n h =
    let l : 0 < length (decimal n) = decimal_some n h in
    ap (λ b. not b && all_ascii_digits (decimal n)) (some_bytes (decimal n) l) ∙ own.from (decimal n) (decimal_is_IsNumeral n h).0.1

first_is_digit : (ds : List ℕ) (p : ℕ → Bool) → 0 < length ds → Clear p ds → p (get_or ds 0 0) ≡ false
first_is_digit ds p some h = clear_at p ds 0 h some

not_byte : (c d : ℕ) → (c == d) ≡ false → c ≢ d
not_byte c d h = grind (arith, nat_tests)

not_plus : (c : ℕ) → 48 ≤ c → c ≤ 57 → (c == 43) ≡ false
not_plus c lo hi = grind (arith, nat_tests)

not_minus : (c : ℕ) → 48 ≤ c → c ≤ 57 → (c == 45) ≡ false
not_minus c lo hi = grind (arith, nat_tests)

no_plus : (n : ℕ) → n < 2 ^ 64 → without_leading_plus (decimal n) ≡ decimal n
no_plus n h = without_leading_plus_none (decimal n) (not_byte (get_or (decimal n) 0 0) 43 (first_is_digit (decimal n) (λ b. b == 43) (decimal_some n h) (decimal_clear (λ b. b == 43) (λ c lo hi. not_plus c lo hi) n h)))

pub size_word_decimal : (n : ℕ) → n < 2 ^ 64 → (is_size_word (decimal n) ≡ true) × (size_of (decimal n) ≡ n)
unfolding is_size_word size_of
size_word_decimal n h = (ap is_numeral (no_plus n h) ∙ decimal_numeral n h, ap (digits_value 10) (no_plus n h) ∙ (decimal_is_IsNumeral n h).1)

pub value_word_decimal : (v : ℤ) → FitsSigned w64 v → (is_value_word (signed_decimal v) ≡ true) × (value_of (signed_decimal v) ≡ v)
unfolding is_value_word value_of
value_word_decimal (pos n) f =
    let small : n < 2 ^ 64 = omega (arith, f.sfits) in
    let minus : starts_with_minus (decimal n) ≡ false = first_is_digit (decimal n) (λ b. b == 45) (decimal_some n small) (decimal_clear (λ b. b == 45) not_minus n small) in
    let plain : without_leading_sign (decimal n) ≡ decimal n = ap (λ b. cond b (drop 1 (decimal n)) (without_leading_plus (decimal n))) minus ∙ no_plus n small in (
      ap is_numeral plain ∙ decimal_numeral n small,
      ap (λ b. signed_value b (digits_value 10 (without_leading_sign (decimal n)))) minus ∙ ap (λ ds. pos (digits_value 10 ds)) plain ∙ ap pos (decimal_is_IsNumeral n small).1,
    )
value_word_decimal (negsuc n) f =
    let small : suc n < 2 ^ 64 = omega (arith, f.sfits) in
    (decimal_numeral (suc n) small, ap (λ k. neg_ℤ (pos k)) (decimal_is_IsNumeral (suc n) small).1)

-- the bytes of a printed signed number
pub signed_clear : (p : ℕ → Bool) → ((c : ℕ) → 48 ≤ c → c ≤ 57 → p c ≡ false) → p 45 ≡ false → (v : ℤ) → FitsSigned w64 v → Clear p (signed_decimal v)
signed_clear p none minus (pos n) f = decimal_clear p none n (omega (arith, f.sfits))
signed_clear p none minus (negsuc n) f = (minus, decimal_clear p none (suc n) (omega (arith, f.sfits)))

pub signed_some : (v : ℤ) → FitsSigned w64 v → 0 < length (signed_decimal v)
signed_some (pos n) f = decimal_some n (omega (arith, f.sfits))
signed_some (negsuc n) f = omega arith
