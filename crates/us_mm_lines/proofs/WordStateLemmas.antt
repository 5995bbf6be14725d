-- The state of a word with one more byte, and what it tells of the word.
use Rattle.std.proofs.Common.{◌≡◌, ℕ, ◌+◌, ◌-◌, ◌*◌, ◌<◌, ◌^◌, ◌==◌, ◌&&◌, ◌||◌, not, min, nat_lt, Bool, true, false, cond, List, [], ◌∷◌, ◌++◌, length, take, drop, set, get_or, Option, Some, None, MatchOption, refl, sym, ap, ◌∙◌, inl, inr, arith, length-append}
use Rattle.std.specs.Str.{all_ascii_digits}
use Rattle.std.specs.Str.Parse.{digits_value, without_leading_sign, without_leading_plus, starts_with_minus}
use Rattle.std.specs.Char.{is_ascii_digit, digit_value}
use Rattle.std.proofs.lemmas.Bool.{cases_lt, false≢true}
use Rattle.std.proofs.lemmas.Bool.Decides.{nat_tests}
use Rattle.std.proofs.lemmas.Int.Digits.{digits_value_more}
use Rattle.std.proofs.lemmas.List.{take_all, take_at, get_or_at, get_or-take, take_more_set, take-append-le, length-set}
use Rattle.us_mm_lines.specs.Words.{is_numeral, is_size_word, size_of, is_value_word}
use Rattle.us_mm_lines.specs.declared.word_state.WordState.{WordState}
use Rattle.us_mm_lines.specs.States.{number_in, numeral_in, IsWordState, IsSizeOf}

-- ---- tests of numbers

pub test_true : (a b : ℕ) → a ≡ b → (a == b) ≡ true
test_true a b h = grind (arith, nat_tests)

pub test_false : (a b : ℕ) → (a ≡ b → ⊥) → (a == b) ≡ false
test_false a b h = grind (arith, nat_tests)

-- ---- the number of digits with one more byte

all_digits_more : (ds : List ℕ) (b : ℕ) → all_ascii_digits (ds ++ b ∷ []) ≡ (all_ascii_digits ds && is_ascii_digit b)
all_digits_more [] b = and_true (is_ascii_digit b)
  where
    and_true : (v : Bool) → (v && true) ≡ (true && v)
    and_true true = refl
    and_true false = refl
all_digits_more (d ∷ ds) b = ap (λ v. is_ascii_digit d && v) (all_digits_more ds b) ∙ and_assoc (is_ascii_digit d) (all_ascii_digits ds) (is_ascii_digit b)
  where
    and_assoc : (u v w : Bool) → (u && (v && w)) ≡ ((u && v) && w)
    and_assoc true v w = refl
    and_assoc false v w = refl

digits_value-more : (ds : List ℕ) (b : ℕ) → digits_value 10 (ds ++ b ∷ []) ≡ digits_value 10 ds * 10 + digit_value b
digits_value-more ds b =
    let len : length (ds ++ b ∷ []) ≡ length ds + 1 = length-append ds (b ∷ []) in
    ap (digits_value 10) (sym (take_all (length ds + 1) (ds ++ b ∷ []) (omega (arith, len))))
    ∙ digits_value_more 10 (ds ++ b ∷ []) (length ds) (omega (arith, len))
    ∙ ap (λ l. digits_value 10 l * 10 + digit_value (get_or (ds ++ b ∷ []) (length ds) 0)) (take_at ds (b ∷ []) (length ds) refl)
    ∙ ap (λ d. digits_value 10 ds * 10 + digit_value d) (get_or_at ds b [] 0 (length ds) refl)

digit_is : (c : ℕ) → is_ascii_digit c ≡ true → digit_value c ≡ c - 48
digit_is c h = grind (arith, nat_tests)

some_number : (v : Bool) (m n : ℕ) → Some n ≡ cond v (Some m) None → (v ≡ true) × (n ≡ m)
some_number true m n h = (refl, cc)
some_number false m n h = absurd (cc)

no_number : (v : Bool) (m : ℕ) → None ≡ cond v (Some m) None → v ≡ false
no_number true m h = absurd (cc)
no_number false m h = refl

and_left : (u v : Bool) → u ≡ false → (u && v) ≡ false
and_left u v h = ap (λ w. w && v) h

and_right : (u v : Bool) → v ≡ false → (u && v) ≡ false
and_right true v h = h
and_right false v h = refl

not_all : (ds : List ℕ) → all_ascii_digits ds ≡ false → None ≡ number_in ds
not_all ds h = ap (λ v. cond v (Some (min (digits_value 10 ds) (2 ^ 64 - 1))) None) (sym h)

pub more_none : (ds : List ℕ) (b : ℕ) → None ≡ number_in ds → None ≡ number_in (ds ++ b ∷ [])
more_none ds b h = not_all (ds ++ b ∷ []) (all_digits_more ds b ∙ and_left _ (is_ascii_digit b) (no_number (all_ascii_digits ds) _ h))

pub more_other : (ds : List ℕ) (b : ℕ) → is_ascii_digit b ≡ false → None ≡ number_in (ds ++ b ∷ [])
more_other ds b h = not_all (ds ++ b ∷ []) (all_digits_more ds b ∙ and_right (all_ascii_digits ds) _ h)

stopped : (m n d : ℕ) → n ≡ min m (2 ^ 64 - 1) → min (n * 10 + d) (2 ^ 64 - 1) ≡ min (m * 10 + d) (2 ^ 64 - 1)
stopped m n d h = omega arith

pub more_digit : (ds : List ℕ) (b n r : ℕ) → Some n ≡ number_in ds → is_ascii_digit b ≡ true → r ≡ min (n * 10 + (b - 48)) (2 ^ 64 - 1) → Some r ≡ number_in (ds ++ b ∷ [])
more_digit ds b n r h digit e =
    let known = some_number (all_ascii_digits ds) _ n h in
    let all : all_ascii_digits (ds ++ b ∷ []) ≡ true = all_digits_more ds b ∙ ap (λ v. v && is_ascii_digit b) known.0 ∙ digit in
    let value : digits_value 10 (ds ++ b ∷ []) ≡ digits_value 10 ds * 10 + (b - 48) = digits_value-more ds b ∙ ap (λ d. digits_value 10 ds * 10 + d) (digit_is b digit) in
    ap Some (e ∙ stopped (digits_value 10 ds) n (b - 48) known.1 ∙ ap (λ v. min v (2 ^ 64 - 1)) (sym value))
    ∙ ap (λ v. cond v (Some (min (digits_value 10 (ds ++ b ∷ [])) (2 ^ 64 - 1))) None) (sym all)

-- ---- what stands behind the sign

sign_first : (b : ℕ) → (b == 43 || b == 45) ≡ true → without_leading_sign (b ∷ []) ≡ []
sign_first b h = of (b == 45) (b == 43) (turn (b == 43) (b == 45) h)
  where
    turn : (u v : Bool) → (u || v) ≡ true → (v || u) ≡ true
    turn true true h = refl
    turn true false h = refl
    turn false true h = refl
    turn false false h = h

    of : (p q : Bool) → (p || q) ≡ true → cond p (drop 1 (b ∷ [])) (drop (cond q 1 0) (b ∷ [])) ≡ []
    of true q h = refl
    of false true h = refl
    of false false h = absurd (false≢true h)

no_sign_first : (b : ℕ) → (b == 43 || b == 45) ≡ false → without_leading_sign (b ∷ []) ≡ b ∷ []
no_sign_first b h = of (b == 45) (b == 43) h
  where
    of : (p q : Bool) → (q || p) ≡ false → cond p (drop 1 (b ∷ [])) (drop (cond q 1 0) (b ∷ [])) ≡ b ∷ []
    of true true h = absurd (false≢true (sym h))
    of true false h = absurd (false≢true (sym h))
    of false true h = absurd (false≢true (sym h))
    of false false h = refl

sign_more : (x : ℕ) (w : List ℕ) (b : ℕ) → without_leading_sign ((x ∷ w) ++ b ∷ []) ≡ without_leading_sign (x ∷ w) ++ b ∷ []
sign_more x w b = of (x == 45) (x == 43)
  where
    of : (p q : Bool) → cond p (drop 1 (x ∷ (w ++ b ∷ []))) (drop (cond q 1 0) (x ∷ (w ++ b ∷ []))) ≡ cond p (drop 1 (x ∷ w)) (drop (cond q 1 0) (x ∷ w)) ++ b ∷ []
    of true q = refl
    of false true = refl
    of false false = refl

zero_bytes : (n : ℕ) → n ≡ min 0 (2 ^ 64 - 1) → (n == 0) ≡ true
zero_bytes n h = grind (arith, nat_tests)

some_bytes : (n m : ℕ) → n ≡ min (m + 1) (2 ^ 64 - 1) → (n == 0) ≡ false
some_bytes n m h = grind (arith, nat_tests)

pub number_sign : (w : List ℕ) (n b : ℕ) (o : Option ℕ) → n ≡ min (length w) (2 ^ 64 - 1) → o ≡ number_in (without_leading_sign w) → (n == 0 && (b == 43 || b == 45)) ≡ true
    → o ≡ number_in (without_leading_sign (w ++ b ∷ []))
number_sign [] n b o e h sign = h ∙ ap number_in (sym (sign_first b (ap (λ v. v && (b == 43 || b == 45)) (sym (zero_bytes n e)) ∙ sign)))
number_sign (x ∷ w) n b o e h sign = absurd (false≢true (sym (and_left (n == 0) (b == 43 || b == 45) (some_bytes n (length w) (e ∙ ap (λ m. min m (2 ^ 64 - 1)) (omega arith)))) ∙ sign))

pub number_plain : (w : List ℕ) (n b : ℕ) → n ≡ min (length w) (2 ^ 64 - 1) → (n == 0 && (b == 43 || b == 45)) ≡ false → without_leading_sign w ++ b ∷ [] ≡ without_leading_sign (w ++ b ∷ [])
number_plain [] n b e h = sym (no_sign_first b (ap (λ v. v && (b == 43 || b == 45)) (sym (zero_bytes n e)) ∙ h))
number_plain (x ∷ w) n b e h = sym (sign_more x w b)

-- ---- the first bytes

pub front_more : (w f g : List ℕ) (n b : ℕ) → length f ≡ 15 → take (length w) f ≡ take 15 w → n ≡ min (length w) (2 ^ 64 - 1) → g ≡ cond (nat_lt n 15) (set f n b) f
    → take (length (w ++ b ∷ [])) g ≡ take 15 (w ++ b ∷ [])
front_more w f g n b room same e is =
    let len : length (w ++ b ∷ []) ≡ length w + 1 = length-append w (b ∷ []) in
    elim (cases_lt (length w) 15) [
      | inl lt ↦
          let at : n ≡ length w = omega arith in
          let test : nat_lt n 15 ≡ true = grind (arith, nat_tests) in
          let here : g ≡ set f (length w) b = is ∙ ap (λ v. cond v (set f n b) f) test ∙ ap (λ k. set f k b) at in
          ap (λ k. take k g) len ∙ ap (take (length w + 1)) here ∙ take_more_set f (length w) b (omega arith)
          ∙ ap (λ l. l ++ b ∷ []) (same ∙ take_all 15 w (omega arith))
          ∙ sym (take_all 15 (w ++ b ∷ []) (omega (arith, len)))
      | inr ge ↦
          let test : nat_lt n 15 ≡ false = grind (arith, nat_tests) in
          let here : g ≡ f = is ∙ ap (λ v. cond v (set f n b) f) test in
          ap (take (length (w ++ b ∷ []))) here ∙ take_all (length (w ++ b ∷ [])) f (omega (arith, len))
          ∙ sym (take_all (length w) f (omega arith)) ∙ same ∙ sym (take-append-le 15 w (b ∷ []) (omega arith))
    ]

pub front_room : (f g : List ℕ) (n b : ℕ) → length f ≡ 15 → g ≡ cond (nat_lt n 15) (set f n b) f → length g ≡ 15
front_room f g n b room is = ap length is ∙ of (nat_lt n 15)
  where
    of : (v : Bool) → length (cond v (set f n b) f) ≡ 15
    of true = length-set f n b ∙ room
    of false = room

pub bytes_more : (w : List ℕ) (n m b : ℕ) → n ≡ min (length w) (2 ^ 64 - 1) → m ≡ min (n + 1) (2 ^ 64 - 1) → m ≡ min (length (w ++ b ∷ [])) (2 ^ 64 - 1)
bytes_more w n m b e is = omega (arith, length-append w (b ∷ []))

-- ---- what the state tells

first_byte : (s : WordState) (w : List ℕ) → IsWordState s w → 0 < length w → get_or s.front 0 0 ≡ get_or w 0 0
first_byte s w h some =
    sym (get_or-take (length w) s.front 0 0 some) ∙ ap (λ l. get_or l 0 0) h.front ∙ get_or-take 15 w 0 0 (omega arith)

pub minus_is : (s : WordState) (w : List ℕ) → IsWordState s w → 0 < length w → (get_or s.front 0 0 == 45) ≡ starts_with_minus w
minus_is s w h some = ap (λ b. b == 45) (first_byte s w h some)

-- a number, or none
numeral_is : (a b : Bool) (n : ℕ) → MatchOption (cond a None (cond b (Some n) None)) ((not a && b) ≡ false) (λ m. ((not a && b) ≡ true) × (m ≡ n))
numeral_is true b n = refl
numeral_is false true n = (refl, refl)
numeral_is false false n = refl

pub size_minus : (s : WordState) (w : List ℕ) → IsWordState s w → (get_or s.front 0 0 == 45) ≡ true → is_size_word w ≡ false
unfolding is_size_word
size_minus s [] h minus = refl
size_minus s (x ∷ w) h minus = of x (sym (minus_is s (x ∷ w) h (omega arith)) ∙ minus)
  where
    is_minus : (y : ℕ) → (y == 45) ≡ true → (y == 43) ≡ false
    is_minus y e = grind (arith, nat_tests)

    no_digit : (y : ℕ) → (y == 45) ≡ true → is_ascii_digit y ≡ false
    no_digit y e = grind (arith, nat_tests)

    of : (y : ℕ) → (y == 45) ≡ true → is_numeral (without_leading_plus (y ∷ w)) ≡ false
    of y e =
        ap (λ v. is_numeral (drop (cond v 1 0) (y ∷ w))) (is_minus y e)
        ∙ and_right (not (length (y ∷ w) == 0)) _ (ap (λ v. v && all_ascii_digits w) (no_digit y e))

no_minus : (s : WordState) (w : List ℕ) → IsWordState s w → (get_or s.front 0 0 == 45) ≡ false → starts_with_minus w ≡ false
no_minus s [] h minus = refl
no_minus s (x ∷ w) h minus = sym (minus_is s (x ∷ w) h (omega arith)) ∙ minus

pub size_plain : (s : WordState) (w : List ℕ) (o : Option ℕ) → IsWordState s w → (get_or s.front 0 0 == 45) ≡ false → o ≡ numeral_in (without_leading_sign w) → IsSizeOf w o
unfolding is_size_word size_of
size_plain s w o h minus e =
    let plus : without_leading_sign w ≡ without_leading_plus w = ap (λ v. cond v (drop 1 w) (without_leading_plus w)) (no_minus s w h minus) in
    rw (e ∙ ap numeral_in plus) (numeral_is (length (without_leading_plus w) == 0) (all_ascii_digits (without_leading_plus w)) (min (digits_value 10 (without_leading_plus w)) (2 ^ 64 - 1)))

pub value_none : (w : List ℕ) → None ≡ numeral_in (without_leading_sign w) → is_value_word w ≡ false
unfolding is_value_word
value_none w e = rw (sym e) at (numeral_is (length (without_leading_sign w) == 0) (all_ascii_digits (without_leading_sign w)) (min (digits_value 10 (without_leading_sign w)) (2 ^ 64 - 1)))

pub value_some : (s : WordState) (w : List ℕ) (n : ℕ) → IsWordState s w → Some n ≡ numeral_in (without_leading_sign w)
    → (is_value_word w ≡ true) × ((get_or s.front 0 0 == 45) ≡ starts_with_minus w) × (n ≡ min (digits_value 10 (without_leading_sign w)) (2 ^ 64 - 1))
unfolding is_value_word
value_some s [] n h e = absurd (cc)
value_some s (x ∷ w) n h e =
    let r = rw (sym e) at (numeral_is (length (without_leading_sign (x ∷ w)) == 0) (all_ascii_digits (without_leading_sign (x ∷ w))) (min (digits_value 10 (without_leading_sign (x ∷ w))) (2 ^ 64 - 1))) in
    (r.0, minus_is s (x ∷ w) h (omega arith), r.1)
