-- A number in front of a line, and the three words of an entry line.
use Rattle.std.proofs.Common.{◌≡◌, ◌≢◌, ℕ, zero, suc, ◌+◌, ◌-◌, ◌^◌, ◌<◌, ◌≤◌, ◌==◌, ◌&&◌, not, min, Bool, true, false, cond, if◌then◌else◌, List, [], ◌∷◌, length, take, drop, get_or, refl, sym, ap, ◌∙◌, inl, inr, arith}
use Rattle.std.specs.Char.{is_ascii_digit}
use Rattle.std.specs.Str.{all_ascii_digits}
use Rattle.std.specs.Str.Parse.{digits_value, without_leading_plus, without_leading_sign, starts_with_minus}
use Rattle.std.proofs.lemmas.Bool.{cases_lt, false≢true}
use Rattle.std.proofs.lemmas.Bool.Decides.{nat_tests}
use Rattle.std.proofs.lemmas.List.{drop_more, get_or-take, length-take}
use Rattle.std.proofs.lemmas.Str.Parse.{without_leading_plus_none}
use Rattle.us_mm_lines.specs.Lines.{is_blank}
use Rattle.us_mm_lines.specs.Words.{words, is_numeral, is_size_word, size_of, is_value_word}
use Rattle.us_mm_lines.specs.Usual.{IsNumberBefore, IsNumeralIn, IsEntryLine}
use Rattle.us_mm_lines.proofs.WordLemmas.{words_blank, words_first, no_words}

pub digits_more : (bs : List ℕ) (n : ℕ) → ((k : ℕ) → k < n → is_ascii_digit (get_or bs k 0) ≡ true) → is_ascii_digit (get_or bs n 0) ≡ true
    → (k : ℕ) → k < n + 1 → is_ascii_digit (get_or bs k 0) ≡ true
digits_more bs n before here k lt = elim (cases_lt k n) [
  | inl below ↦ before k below
  | inr above ↦ let same : k ≡ n = omega arith in ap (λ j. is_ascii_digit (get_or bs j 0)) same ∙ here
]

all_digits : (bs : List ℕ) (n : ℕ) → n ≤ length bs → ((k : ℕ) → k < n → is_ascii_digit (get_or bs k 0) ≡ true) → all_ascii_digits (take n bs) ≡ true
all_digits [] zero le h = refl
all_digits [] (suc n) le h = absurd (omega arith)
all_digits (b ∷ bs) zero le h = refl
all_digits (b ∷ bs) (suc n) le h =
    ap (λ v. v && all_ascii_digits (take n bs)) (h 0 (omega arith)) ∙ all_digits bs n (omega arith) (λ k lt. h (suc k) (omega arith))

not_blank : (c : ℕ) → is_ascii_digit c ≡ true → is_blank c ≡ false
not_blank c h = grind (arith, nat_tests)

not_plus : (c : ℕ) → is_ascii_digit c ≡ true → c ≢ 43
not_plus c h = λ e. false≢true (sym (ap is_ascii_digit e) ∙ h)

not_minus : (c : ℕ) → is_ascii_digit c ≡ true → (c == 45) ≡ false
not_minus c h = grind (arith, nat_tests)

some_digits : (w : List ℕ) → 0 < length w → (length w == 0) ≡ false
some_digits w h = grind (arith, nat_tests)

-- what is behind the blank at a place
pub behind_blank : (line : List ℕ) (n place : ℕ) → IsNumberBefore line n place → place < length line → words (drop (place + 1) line) ≡ words (drop place line)
behind_blank line n place h lt = sym (words_blank (get_or line place 0) (drop (place + 1) line) (h.ends lt)) ∙ ap words (sym (drop_more line place 0 lt))

module _ (line : List ℕ) (n place : ℕ) (h : IsNumberBefore line n place) (some : 0 < place) where
  abbrev pub word : List ℕ
  word = take place line

  long : length word ≡ place
  long = let within : place ≤ length line = h.within in omega (arith, length-take place line)

  begins : is_ascii_digit (get_or word 0 0) ≡ true
  begins = ap is_ascii_digit (get_or-take place line 0 0 some) ∙ h.digits 0 some

  pub numeral : is_numeral word ≡ true
  numeral = ap (λ v. not v && all_ascii_digits word) (some_digits word (omega (arith, long))) ∙ all_digits line place h.within h.digits

  no_plus : without_leading_plus word ≡ word
  no_plus = without_leading_plus_none word (not_plus (get_or word 0 0) begins)

  no_minus : starts_with_minus word ≡ false
  no_minus = not_minus (get_or word 0 0) begins

  no_sign : without_leading_sign word ≡ word
  no_sign = ap (λ b. cond b (drop 1 word) (without_leading_plus word)) no_minus ∙ no_plus

  pub in_front : words line ≡ word ∷ words (drop place line)
  in_front = words_first line place some h.within (λ k lt. not_blank (get_or line k 0) (h.digits k lt)) h.ends

  pub behind_minus : words (45 ∷ line) ≡ (45 ∷ word) ∷ words (drop place line)
  behind_minus = words_first (45 ∷ line) (suc place) (omega arith) (omega (arith, h.within)) clear (λ lt. h.ends (omega arith))
    where
      clear : (k : ℕ) → k < suc place → is_blank (get_or (45 ∷ line) k 0) ≡ false
      clear zero lt = refl
      clear (suc k) lt = not_blank (get_or line k 0) (h.digits k (omega arith))

  pub size_word : is_size_word word ≡ true
  unfolding is_size_word
  size_word = ap is_numeral no_plus ∙ numeral

  pub size_is : n ≡ min (size_of word) (2 ^ 64 - 1)
  unfolding size_of
  size_is = h.value ∙ ap (λ ds. min (digits_value 10 ds) (2 ^ 64 - 1)) (sym no_plus)

  pub value_word : is_value_word word ≡ true
  unfolding is_value_word
  value_word = ap is_numeral no_sign ∙ numeral

  pub value_minus : false ≡ starts_with_minus word
  value_minus = sym no_minus

  pub value_is : n ≡ min (digits_value 10 (without_leading_sign word)) (2 ^ 64 - 1)
  value_is = h.value ∙ ap (λ ds. min (digits_value 10 ds) (2 ^ 64 - 1)) (sym no_sign)

  pub negative_word : is_value_word (45 ∷ word) ≡ true
  unfolding is_value_word
  negative_word = numeral

-- the words of a line that begins with two numbers
two_in_front : (line row_rest col_rest : List ℕ) (row col : ℕ) (r : IsNumeralIn line row row_rest) (c : IsNumeralIn row_rest col col_rest)
    → words line ≡ take r.place line ∷ take c.place row_rest ∷ words col_rest
two_in_front line row_rest col_rest row col r c =
    in_front line row r.place r.before r.some
    ∙ ap (λ ws. take r.place line ∷ ws) (sym r.behind ∙ in_front row_rest col c.place c.before c.some ∙ ap (λ ws. take c.place row_rest ∷ ws) (sym c.behind))

entry_with : (line row_rest col_rest third : List ℕ) (row col size : ℕ) (minus : Bool) → IsNumeralIn line row row_rest → IsNumeralIn row_rest col col_rest
    → words col_rest ≡ third ∷ [] → is_value_word third ≡ true → minus ≡ starts_with_minus third
    → size ≡ min (digits_value 10 (without_leading_sign third)) (2 ^ 64 - 1) → IsEntryLine line row col minus size
entry_with line row_rest col_rest third row col size minus r c one valued sign is = record {
  first = take r.place line;
  second = take c.place row_rest;
  third = third;
  three = two_in_front line row_rest col_rest row col r c ∙ ap (λ ws. take r.place line ∷ take c.place row_rest ∷ ws) one;
  row_word = size_word line row r.place r.before r.some;
  col_word = size_word row_rest col c.place c.before c.some;
  value_word = valued;
  row_is = size_is line row r.place r.before r.some;
  col_is = size_is row_rest col c.place c.before c.some;
  minus_is = sign;
  size_is = is;
}

pub entry_line : (line row_rest col_rest digits rest : List ℕ) (row col size : ℕ) (minus : Bool) → IsNumeralIn line row row_rest → IsNumeralIn row_rest col col_rest
    → col_rest ≡ (if minus then 45 ∷ digits else digits) → IsNumeralIn digits size rest → (length rest == 0) ≡ true → IsEntryLine line row col minus size
entry_line line row_rest col_rest digits rest row col size true r c is d none =
    entry_with line row_rest col_rest (45 ∷ take d.place digits) row col size true r c
    (ap words is ∙ behind_minus digits size d.place d.before d.some ∙ ap (λ ws. (45 ∷ take d.place digits) ∷ ws) (sym d.behind ∙ no_words rest none))
    (negative_word digits size d.place d.before d.some) refl d.before.value
entry_line line row_rest col_rest digits rest row col size false r c is d none =
    entry_with line row_rest col_rest (take d.place digits) row col size false r c
    (ap words is ∙ in_front digits size d.place d.before d.some ∙ ap (λ ws. take d.place digits ∷ ws) (sym d.behind ∙ no_words rest none))
    (value_word digits size d.place d.before d.some) (value_minus digits size d.place d.before d.some) (value_is digits size d.place d.before d.some)
