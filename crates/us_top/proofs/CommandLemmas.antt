-- Rows and columns, as words of a command line.
use Rattle.std.proofs.Common.{◌≡◌, ◌≢◌, ◌==◌, not, ℕ, ◌-◌, ◌<◌, ◌≤◌, ◌^◌, ◌&&◌, ◌⊎◌, nat_le, nat_lt, min, Bool, true, false, cond, List, length, Option, Some, None, Ok, Err, refl, sym, ap, ◌∙◌, inl, inr, arith}
use Rattle.std.proofs.lemmas.Bool.{cases_lt}
use Rattle.std.proofs.lemmas.Bool.Decides.{nat_tests}
use Rattle.std.specs.Str.Parse.{ParsesUnsigned, digits_value}
use Rattle.std.specs.Str.{all_ascii_digits}
use Rattle.std.proofs.lemmas.Str.Parse.{IsNumeralModel, numerals_by_value, parse_digits, tells_all_ascii_digits}
use Rattle.us_mm.specs.Words.{is_numeral}
use Rattle.us_mm.specs.Reads.{is_side}
use Rattle.us_top.specs.Commands.{between, budget_of, count_of, seed_of, side_of}

pub no_digits : (w : List ℕ) → is_numeral w ≡ false → side_of w ≡ None
unfolding side_of
no_digits w h = ap (λ b. cond (b && (nat_le (length w) 20 && is_side (digits_value 10 w))) (Some (digits_value 10 w)) None) h

side_by : (w : List ℕ) (b : Bool) → is_numeral w ≡ true → (nat_le (length w) 20 && is_side (digits_value 10 w)) ≡ b → side_of w ≡ cond b (Some (digits_value 10 w)) None
unfolding side_of
side_by w b h k =
    ap (λ t. cond (t && (nat_le (length w) 20 && is_side (digits_value 10 w))) (Some (digits_value 10 w)) None) h ∙ ap (λ t. cond t (Some (digits_value 10 w)) None) k

is_in : (len v n : ℕ) → n ≡ min v (2 ^ 64 - 1) → len ≤ 20 → n ≢ 0 → n ≤ 2147483647 → (nat_le len 20 && (nat_le 1 v && nat_le v 2147483647)) ≡ true
is_in len v n e short some small = grind (arith, nat_tests)

is_out : (len v n : ℕ) → n ≡ min v (2 ^ 64 - 1) → (20 < len) ⊎ ((n ≡ 0) ⊎ (2147483647 < n)) → (nat_le len 20 && (nat_le 1 v && nat_le v 2147483647)) ≡ false
is_out len v n e (inl long) = grind (arith, nat_tests)
is_out len v n e (inr (inl none)) = grind (arith, nat_tests)
is_out len v n e (inr (inr large)) = grind (arith, nat_tests)

same_value : (v n : ℕ) → n ≡ min v (2 ^ 64 - 1) → n ≤ 2147483647 → v ≡ n
same_value v n e small = omega arith

pub side_is : (w : List ℕ) (n : ℕ) → is_numeral w ≡ true → n ≡ min (digits_value 10 w) (2 ^ 64 - 1) → length w ≤ 20 → n ≢ 0 → n ≤ 2147483647 → side_of w ≡ Some n
side_is w n h e short some small = side_by w true h (is_in (length w) (digits_value 10 w) n e short some small) ∙ ap Some (same_value (digits_value 10 w) n e small)

pub no_side : (w : List ℕ) (n : ℕ) → is_numeral w ≡ true → n ≡ min (digits_value 10 w) (2 ^ 64 - 1) → (20 < length w) ⊎ ((n ≡ 0) ⊎ (2147483647 < n)) → side_of w ≡ None
no_side w n h e out = side_by w false h (is_out (length w) (digits_value 10 w) n e out)

budget_by : (w : List ℕ) (a b : Bool) → is_numeral w ≡ a → (nat_le (length w) 20 && nat_lt (digits_value 10 w) 18446744073709551616) ≡ b → budget_of w ≡ cond (a && b) (Some (digits_value 10 w)) None
unfolding budget_of
budget_by w a b h k =
    ap (λ t. cond (t && (nat_le (length w) 20 && nat_lt (digits_value 10 w) 18446744073709551616)) (Some (digits_value 10 w)) None) h
    ∙ ap (λ t. cond (a && t) (Some (digits_value 10 w)) None) k

pub no_steps : (w : List ℕ) → is_numeral w ≡ false → budget_of w ≡ None
no_steps w h = budget_by w false _ h refl

none_by : (w : List ℕ) (a : Bool) → is_numeral w ≡ a → (nat_le (length w) 20 && nat_lt (digits_value 10 w) 18446744073709551616) ≡ false → budget_of w ≡ None
none_by w true h k = budget_by w true false h k
none_by w false h k = budget_by w false false h k

too_long : (len v : ℕ) → 20 < len → (nat_le len 20 && nat_lt v 18446744073709551616) ≡ false
too_long len v h = grind (arith, nat_tests)

too_many : (len v : ℕ) → 2 ^ 64 ≤ v → (nat_le len 20 && nat_lt v 18446744073709551616) ≡ false
too_many len v h = grind (arith, nat_tests)

few : (len v : ℕ) → len ≤ 20 → v < 2 ^ 64 → (nat_le len 20 && nat_lt v 18446744073709551616) ≡ true
few len v h k = grind (arith, nat_tests)

pub long_steps : (w : List ℕ) → 20 < length w → budget_of w ≡ None
long_steps w h = none_by w _ refl (too_long (length w) (digits_value 10 w) h)

parts : (a b : Bool) → (a && b) ≡ true → (a ≡ true) × (b ≡ true)
parts true b h = (refl, h)
parts false b h = cc

not_empty : (n : ℕ) → not (n == 0) ≡ true → 0 < n
not_empty n h = grind (arith, nat_tests)

all_digits : (w : List ℕ) → is_numeral w ≡ true → (0 < length w) × (all_ascii_digits w ≡ true)
all_digits w h =
    let both = parts (not (length w == 0)) (all_ascii_digits w) h in
    (not_empty (length w) both.0, both.1)

own : IsNumeralModel (λ ds. all_ascii_digits ds ≡ true) (digits_value 10)
own = numerals_by_value _ tells_all_ascii_digits

pub steps_parsed : (w : List ℕ) (n : ℕ) → is_numeral w ≡ true → length w ≤ 20 → ParsesUnsigned {E = Unit {0}} 64 10 w (Ok n) → budget_of w ≡ Some n
steps_parsed w n h short p =
    let digits = all_digits w h in
    let is = parse_digits own {E = Unit {0}} 64 w (Ok n) p digits.1 in
    budget_by w true true h (few (length w) (digits_value 10 w) short is.0.1) ∙ ap Some (sym is.1)

pub steps_unparsed : (w : List ℕ) → is_numeral w ≡ true → ParsesUnsigned {E = Unit {0}} 64 10 w (Err tt) → budget_of w ≡ None
steps_unparsed w h p =
    let digits = all_digits w h in
    let many : 2 ^ 64 ≤ digits_value 10 w = elim (cases_lt (digits_value 10 w) (2 ^ 64)) [
      | inl lt ↦ absurd (parse_digits own {E = Unit {0}} 64 w (Err tt) p digits.1 (digits.0, lt))
      | inr ge ↦ ge
    ] in
    none_by w true h (too_many (length w) (digits_value 10 w) many)

-- ---- numbers between two others

abbrev told : Bool → ℕ → Option ℕ
told b n = cond b (Some n) None

inside : (low high n : ℕ) → low ≤ n → n ≤ high → (nat_le low n && nat_le n high) ≡ true
inside low high n h k = grind (arith, nat_tests)

below : (low high n : ℕ) → n < low → (nat_le low n && nat_le n high) ≡ false
below low high n h = grind (arith, nat_tests)

above : (low high n : ℕ) → high < n → (nat_le low n && nat_le n high) ≡ false
above low high n h = grind (arith, nat_tests)

none_between : (low high : ℕ) (w : List ℕ) → budget_of w ≡ None → between low high (budget_of w) ≡ None
none_between low high w h = ap (between low high) h

some_between : (low high : ℕ) (w : List ℕ) (n : ℕ) (b : Bool) → budget_of w ≡ Some n → (nat_le low n && nat_le n high) ≡ b → between low high (budget_of w) ≡ told b n
some_between low high w n b h k = ap (between low high) h ∙ ap (λ b. told b n) k

pub no_seed : (w : List ℕ) → budget_of w ≡ None → seed_of w ≡ None
no_seed w h = none_between 1 2147483646 w h

pub seed_out : (w : List ℕ) (n : ℕ) → budget_of w ≡ Some n → (n < 1) ⊎ (2147483646 < n) → seed_of w ≡ None
seed_out w n h (inl k) = some_between 1 2147483646 w n false h (below 1 2147483646 n k)
seed_out w n h (inr k) = some_between 1 2147483646 w n false h (above 1 2147483646 n k)

pub seed_is : (w : List ℕ) (n : ℕ) → budget_of w ≡ Some n → 1 ≤ n → n ≤ 2147483646 → seed_of w ≡ Some n
seed_is w n h low high = some_between 1 2147483646 w n true h (inside 1 2147483646 n low high)

pub no_count : (w : List ℕ) → budget_of w ≡ None → count_of w ≡ None
no_count w h = none_between 0 8388608 w h

pub count_out : (w : List ℕ) (n : ℕ) → budget_of w ≡ Some n → 8388608 < n → count_of w ≡ None
count_out w n h k = some_between 0 8388608 w n false h (above 0 8388608 n k)

pub count_is : (w : List ℕ) (n : ℕ) → budget_of w ≡ Some n → n ≤ 8388608 → count_of w ≡ Some n
count_is w n h high = some_between 0 8388608 w n true h (inside 0 8388608 n (omega arith) high)
