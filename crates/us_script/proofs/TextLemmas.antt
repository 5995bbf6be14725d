-- The text of sets is read as these sets.
use Rattle.std.proofs.Common.{◌≡◌, ℕ, ◌+◌, ◌-◌, ◌^◌, ◌<◌, ◌≤◌, ◌==◌, ◌&&◌, ◌||◌, not, nat_lt, nat_le, Bool, true, false, cond, List, [], ◌∷◌, ◌++◌, length, flat_map, Ok, Err, ℤ, pos, negsuc, FitsSigned, refl, sym, ap, ◌∙◌, arith, append_assoc, append-nil, length-append}
use Rattle.std.specs.Prelude.{codes}
use Rattle.std.specs.Fmt.{decimal, signed_decimal}
use Rattle.std.specs.Int.{w64}
use Rattle.std.proofs.lemmas.Bool.Decides.{nat_tests}
use Rattle.us_mm_lines.specs.Lines.{lines, kept}
use Rattle.us_mm_lines.specs.Words.{words, size_of, value_of, is_value}
use Rattle.us_mm_lines.proofs.LineLemmas.{lines-nil, kept_line, kept-nil}
use Rattle.us_mm_lines.proofs.DecimalLemmas.{Clear, size_word_decimal, value_word_decimal}
use Rattle.us_mm_lines.proofs.WrittenLemmas.{bare, word_then, words_bare, clear_bare, lines_clear, decimal_word, signed_word}
use Rattle.us_script.specs.declared.step.Step.{Step}
use Rattle.us_script.specs.declared.step.Step.TheVariants.{Set, Undo, Size}
use Rattle.us_script.specs.declared.fault.ScriptFault.TheVariants.{Line, OutOfShape, ValueRange}
use Rattle.us_script.specs.Steps.{AreSets}
use Rattle.us_script.specs.Reads.{◌>>=◌, set_numbers, step_words, step_of, read_steps, reads_script}
use Rattle.us_script.specs.Text.{set_line, step_line, script_text}
use Rattle.us_script.proofs.ReadLemmas.{step_taken}

-- the line of a set without its line feed
abbrev set_bare : ℕ → ℕ → ℤ → List ℕ
set_bare i j v = codes "set" ++ 32 ∷ bare (decimal (i + 1)) (decimal (j + 1)) (signed_decimal v)

regroup : (s a b c rest : List ℕ) → (s ++ 32 ∷ a ++ 32 ∷ b ++ 32 ∷ c ++ 10 ∷ []) ++ rest ≡ (s ++ 32 ∷ bare a b c) ++ 10 ∷ rest
regroup s a b c rest =
    append_assoc (s ++ 32 ∷ a ++ 32 ∷ b ++ 32 ∷ c) (10 ∷ []) rest
    ∙ ap (λ l. l ++ 10 ∷ rest) (append_assoc (s ++ 32 ∷ a) (32 ∷ b) (32 ∷ c) ∙ append_assoc s (32 ∷ a) (32 ∷ b ++ 32 ∷ c))

set_clear : (p : ℕ → Bool) (i j : ℕ) (v : ℤ) → p 115 ≡ false → p 101 ≡ false → p 116 ≡ false → p 32 ≡ false
    → Clear p (decimal (i + 1)) → Clear p (decimal (j + 1)) → Clear p (signed_decimal v) → Clear p (set_bare i j v)
set_clear p i j v s e t space ha hb hc = (s, (e, (t, (space, clear_bare p (decimal (i + 1)) (decimal (j + 1)) (signed_decimal v) space ha hb hc))))

lines_set : (i j : ℕ) (v : ℤ) (rest : List ℕ) → i < 2 ^ 32 → j < 2 ^ 32 → FitsSigned w64 v → lines (set_line i j v ++ rest) ≡ set_bare i j v ∷ lines rest
lines_set i j v rest row col fits =
    let a = decimal_word (i + 1) (omega arith) in
    let b = decimal_word (j + 1) (omega arith) in
    let c = signed_word v fits in
    ap lines (regroup (codes "set") (decimal (i + 1)) (decimal (j + 1)) (signed_decimal v) rest)
    ∙ lines_clear (set_bare i j v) rest (set_clear (λ b. b == 10) i j v refl refl refl refl a.feeds b.feeds c.feeds) (set_clear (λ b. b == 13) i j v refl refl refl refl a.returns b.returns c.returns)

words_set : (i j : ℕ) (v : ℤ) → i < 2 ^ 32 → j < 2 ^ 32 → FitsSigned w64 v → words (set_bare i j v) ≡ codes "set" ∷ decimal (i + 1) ∷ decimal (j + 1) ∷ signed_decimal v ∷ []
words_set i j v row col fits =
    word_then (codes "set") (bare (decimal (i + 1)) (decimal (j + 1)) (signed_decimal v)) (omega arith) (refl, (refl, (refl, tt)))
    ∙ ap (λ ws. codes "set" ∷ ws) (words_bare _ _ _ (decimal_word (i + 1) (omega arith)) (decimal_word (j + 1) (omega arith)) (signed_word v fits))

inside_true : (i j rows cols : ℕ) → i < rows → j < cols → (nat_le 1 (i + 1) && nat_le (i + 1) rows && (nat_le 1 (j + 1) && nat_le (j + 1) cols)) ≡ true
inside_true i j rows cols row col = grind (arith, nat_tests)

test_true : (a b : ℕ) → a < b → nat_lt a b ≡ true
test_true a b h = grind (arith, nat_tests)

value_fits : (v : ℤ) → FitsSigned w64 v → is_value v ≡ true
value_fits (pos n) f = let lt : n < 2 ^ 63 = omega (arith, f.sfits) in test_true n (2 ^ 63) lt
value_fits (negsuc n) f = let lt : n < 2 ^ 63 = omega (arith, f.sfits) in test_true n (2 ^ 63) lt

numbers_read : (n rows cols i j : ℕ) (v : ℤ) → i < rows → j < cols → is_value v ≡ true → set_numbers n rows cols (i + 1) (j + 1) v ≡ Ok (Set i j v)
numbers_read n rows cols i j v row col fits =
    let first : i + 1 - 1 ≡ i = omega arith in
    let second : j + 1 - 1 ≡ j = omega arith in
    ap (λ b. cond (not b) (Err (OutOfShape n)) (cond (not (is_value v)) (Err (ValueRange n)) (Ok (Set (i + 1 - 1) (j + 1 - 1) v)))) (inside_true i j rows cols row col)
    ∙ ap (λ b. cond (not b) (Err (ValueRange n)) (Ok (Set (i + 1 - 1) (j + 1 - 1) v))) fits
    ∙ ap (λ x. Ok (Set x (j + 1 - 1) v)) first ∙ ap (λ x. Ok (Set i x v)) second

three_true : (a b c : Bool) → a ≡ true → b ≡ true → c ≡ true → ((a && b) && c) ≡ true
three_true a b c p q r = rw (p, q, r) refl

set_read : (n rows cols i j : ℕ) (v : ℤ) → rows < 2 ^ 32 → cols < 2 ^ 32 → i < rows → j < cols → FitsSigned w64 v → step_of rows cols (n, set_bare i j v) ≡ Ok (Set i j v)
unfolding step_of
set_read n rows cols i j v rs cs row col fits =
    let si : i + 1 < 2 ^ 64 = omega arith in
    let sj : j + 1 < 2 ^ 64 = omega arith in
    let wi = size_word_decimal (i + 1) si in
    let wj = size_word_decimal (j + 1) sj in
    let wv = value_word_decimal v fits in
    ap (step_words n rows cols) (words_set i j v (omega arith) (omega arith) fits)
    ∙ ap (λ b. cond b (set_numbers n rows cols (size_of (decimal (i + 1))) (size_of (decimal (j + 1))) (value_of (signed_decimal v))) (Err (Line n))) (three_true _ _ _ wi.0 wj.0 wv.0)
    ∙ ap (λ x. set_numbers n rows cols x (size_of (decimal (j + 1))) (value_of (signed_decimal v))) wi.1
    ∙ ap (λ x. set_numbers n rows cols (i + 1) x (value_of (signed_decimal v))) wj.1
    ∙ ap (set_numbers n rows cols (i + 1) (j + 1)) wv.1
    ∙ numbers_read n rows cols i j v row col (value_fits v fits)

few : (n : ℕ) → n < 1048576 → (nat_le 1048576 n || false) ≡ false
few n h = of (nat_le 1048576 n) (grind (arith, nat_tests))
  where
    of : (b : Bool) → b ≡ false → (b || false) ≡ false
    of true e = e
    of false e = e

read_on : (n rows cols : ℕ) (steps before : List Step) → rows < 2 ^ 32 → cols < 2 ^ 32 → AreSets rows cols steps → length before + length steps ≤ 1048576
    → read_steps rows cols before (kept n (lines (flat_map step_line steps))) ≡ Ok (before ++ steps)
unfolding read_steps
read_on n rows cols [] before rs cs h le = ap (λ ls. read_steps rows cols before (kept n ls)) lines-nil ∙ ap (read_steps rows cols before) (kept-nil n) ∙ ap Ok (sym (append-nil before))
read_on n rows cols (Set i j v ∷ steps) before rs cs h le =
    let row : i < rows = h.0.0 in
    let col : j < cols = h.0.1 in
    let short : length before < 1048576 = omega arith in
    let more = kept (n + 1) (lines (flat_map step_line steps)) in
    ap (λ ls. read_steps rows cols before (kept n ls)) (lines_set i j v (flat_map step_line steps) (omega arith) (omega arith) h.0.2)
    ∙ ap (read_steps rows cols before) (kept_line n (set_bare i j v) (lines (flat_map step_line steps)) refl)
    ∙ ap (λ r. r >>= λ s. read_steps rows cols (before ++ s ∷ []) more) (step_taken rows cols before (n, set_bare i j v) (Set i j v) (set_read n rows cols i j v rs cs row col h.0.2) refl (few (length before) short))
    ∙ read_on (n + 1) rows cols steps (before ++ Set i j v ∷ []) rs cs h.1 (omega (arith, length-append before (Set i j v ∷ [])))
    ∙ ap Ok (append_assoc before (Set i j v ∷ []) steps)
read_on n rows cols (Undo ∷ steps) before rs cs h le = absurd h
read_on n rows cols (Size line ∷ steps) before rs cs h le = absurd h

pub text_reads : (rows cols : ℕ) (steps : List Step) → rows < 2 ^ 32 → cols < 2 ^ 32 → AreSets rows cols steps → length steps ≤ 1048576 → reads_script rows cols (script_text steps) ≡ Ok steps
unfolding reads_script script_text
text_reads rows cols steps rs cs h le = read_on 1 rows cols steps [] rs cs h (omega arith)
