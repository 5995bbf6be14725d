-- Written words and lines are read again.
use Rattle.std.proofs.Common.{◌≡◌, ℕ, ◌+◌, ◌-◌, ◌^◌, ◌<◌, ◌≤◌, ◌==◌, ◌&&◌, ◌||◌, Bool, false, cond, List, [], ◌∷◌, ◌++◌, length, take, drop, ℤ, FitsSigned, refl, ap, ◌∙◌, arith, length-append}
use Rattle.std.specs.Fmt.{decimal, signed_decimal}
use Rattle.std.specs.Str.Lines.{strip_carriage_return}
use Rattle.std.specs.List.{list_all}
use Rattle.std.proofs.lemmas.Bool.Decides.{nat_tests}
use Rattle.std.proofs.lemmas.List.{take_all, take_at, drop_at, drop_all, get_or_append_left, get_or_at}
use Rattle.std.proofs.Math.Seq.{drop-append-add}
use Rattle.std.specs.Int.{w64}
use Rattle.us_mm_lines.specs.Lines.{lines, is_blank, is_skipped}
use Rattle.us_mm_lines.specs.Words.{words}
use Rattle.us_mm_lines.proofs.LineLemmas.{lines_first}
use Rattle.us_mm_lines.proofs.WordLemmas.{words_first, words_blank, words-nil}
use Rattle.us_mm_lines.proofs.DecimalLemmas.{Clear, clear_append, clear_at, decimal_clear, decimal_some, signed_clear, signed_some}

-- a word, a space and what follows
pub word_then : (w rest : List ℕ) → 0 < length w → Clear is_blank w → words (w ++ 32 ∷ rest) ≡ w ∷ words rest
word_then w rest some clear =
    words_first (w ++ 32 ∷ rest) (length w) some (omega (arith, length-append w (32 ∷ rest)))
    (λ k lt. ap is_blank (get_or_append_left w (32 ∷ rest) 0 k lt) ∙ clear_at is_blank w k clear lt) (λ lt. ap is_blank (get_or_at w 32 rest 0 (length w) refl))
    ∙ ap (λ l. l ∷ words (drop (length w) (w ++ 32 ∷ rest))) (take_at w (32 ∷ rest) (length w) refl)
    ∙ ap (λ l. w ∷ words l) (drop_at w (32 ∷ rest) (length w) refl)
    ∙ ap (λ ws. w ∷ ws) (words_blank 32 rest refl)

pub word_last : (w : List ℕ) → 0 < length w → Clear is_blank w → words w ≡ w ∷ []
word_last w some clear =
    words_first w (length w) some (omega arith) (λ k lt. clear_at is_blank w k clear lt) (λ lt. absurd (omega arith))
    ∙ ap (λ l. l ∷ words (drop (length w) w)) (take_all (length w) w (omega arith))
    ∙ ap (λ l. w ∷ words l) (drop_all (length w) w (omega arith)) ∙ ap (λ ws. w ∷ ws) words-nil

-- a line of three words, without its line feed
abbrev pub bare : List ℕ → List ℕ → List ℕ → List ℕ
bare a b c = a ++ 32 ∷ (b ++ 32 ∷ c)

-- a word that stands in a line
pub record IsWord (w : List ℕ) : Type 0 where
  pub some : 0 < length w
  pub blanks : Clear is_blank w
  pub feeds : Clear (λ b. b == 10) w
  pub returns : Clear (λ b. b == 13) w
  pub percents : Clear (λ b. b == 37) w

pub words_bare : (a b c : List ℕ) → IsWord a → IsWord b → IsWord c → words (bare a b c) ≡ a ∷ b ∷ c ∷ []
words_bare a b c ia ib ic =
    word_then a (b ++ 32 ∷ c) ia.some ia.blanks ∙ ap (λ ws. a ∷ ws) (word_then b c ib.some ib.blanks ∙ ap (λ ws. b ∷ ws) (word_last c ic.some ic.blanks))

pub clear_bare : (p : ℕ → Bool) (a b c : List ℕ) → p 32 ≡ false → Clear p a → Clear p b → Clear p c → Clear p (bare a b c)
clear_bare p a b c space ha hb hc = clear_append p a (32 ∷ (b ++ 32 ∷ c)) ha (space, clear_append p b (32 ∷ c) hb (space, hc))

pub no_return : (l : List ℕ) → Clear (λ b. b == 13) l → strip_carriage_return l ≡ l
no_return [] h = refl
no_return (x ∷ l) h = ap (λ b. cond b (take (length (x ∷ l) - 1) (x ∷ l)) (x ∷ l)) (clear_at (λ b. b == 13) (x ∷ l) (length (x ∷ l) - 1) h (omega arith))

pub lines_clear : (l rest : List ℕ) → Clear (λ b. b == 10) l → Clear (λ b. b == 13) l → lines (l ++ 10 ∷ rest) ≡ l ∷ lines rest
lines_clear l rest feeds returns =
    lines_first (l ++ 10 ∷ rest) (length l) (omega (arith, length-append l (10 ∷ rest)))
    (λ k lt. ap (λ b. b == 10) (get_or_append_left l (10 ∷ rest) 0 k lt) ∙ clear_at (λ b. b == 10) l k feeds lt) (ap (λ b. b == 10) (get_or_at l 10 rest 0 (length l) refl))
    ∙ ap (λ x. strip_carriage_return x ∷ lines (drop (length l + 1) (l ++ 10 ∷ rest))) (take_at l (10 ∷ rest) (length l) refl)
    ∙ ap (λ x. x ∷ lines (drop (length l + 1) (l ++ 10 ∷ rest))) (no_return l returns)
    ∙ ap (λ x. l ∷ lines x) (drop-append-add l (10 ∷ rest) 1)

pub not_skipped : (a rest : List ℕ) → IsWord a → is_skipped (a ++ rest) ≡ false
not_skipped [] rest w = absurd (omega (arith, w.some))
not_skipped (x ∷ a) rest w = ap (λ b. b || (is_blank x && list_all is_blank (a ++ rest))) w.percents.0 ∙ ap (λ b. b && list_all is_blank (a ++ rest)) w.blanks.0

digit_blank : (c : ℕ) → 48 ≤ c → c ≤ 57 → is_blank c ≡ false
digit_blank c lo hi = grind (arith, nat_tests)

digit_feed : (c : ℕ) → 48 ≤ c → c ≤ 57 → (c == 10) ≡ false
digit_feed c lo hi = grind (arith, nat_tests)

digit_return : (c : ℕ) → 48 ≤ c → c ≤ 57 → (c == 13) ≡ false
digit_return c lo hi = grind (arith, nat_tests)

digit_percent : (c : ℕ) → 48 ≤ c → c ≤ 57 → (c == 37) ≡ false
digit_percent c lo hi = grind (arith, nat_tests)

pub decimal_word : (n : ℕ) → n < 2 ^ 64 → IsWord (decimal n)
decimal_word n h = record {
  some = decimal_some n h;
  blanks = decimal_clear is_blank digit_blank n h;
  feeds = decimal_clear (λ b. b == 10) digit_feed n h;
  returns = decimal_clear (λ b. b == 13) digit_return n h;
  percents = decimal_clear (λ b. b == 37) digit_percent n h;
}

pub signed_word : (v : ℤ) → FitsSigned w64 v → IsWord (signed_decimal v)
signed_word v f = record {
  some = signed_some v f;
  blanks = signed_clear is_blank digit_blank refl v f;
  feeds = signed_clear (λ b. b == 10) digit_feed refl v f;
  returns = signed_clear (λ b. b == 13) digit_return refl v f;
  percents = signed_clear (λ b. b == 37) digit_percent refl v f;
}
