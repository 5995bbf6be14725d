-- Some bytes have at most as many lines as bytes.
use Rattle.std.proofs.Common.{◌≡◌, ℕ, suc, ◌+◌, ◌<◌, ◌≤◌, ◌^◌, ◌==◌, ◌⊎◌, Bool, true, false, cond, List, [], ◌∷◌, length, sym, ap, ◌∙◌, inl, inr, arith}
use Rattle.std.specs.List.{slice_split, onto_first}
use Rattle.std.specs.Str.Lines.{strip_carriage_return}
use Rattle.std.proofs.lemmas.Bool.{cases_Bool}
use Rattle.std.proofs.lemmas.List.Splits.{slice_split-cons_yes, slice_split-cons_no}
use Rattle.us_mm_lines.specs.Lines.{lines, lines_of_parts}
use Rattle.us_mm_lines.proofs.LineLemmas.{parts_more}
use Rattle.us_mm_lines.proofs.LineStateLemmas.{some_parts}

first_longer : (x : ℕ) (w : List ℕ) (more : List (List ℕ)) → length (lines_of_parts ((x ∷ w) ∷ more)) ≤ suc (length (lines_of_parts (w ∷ more)))
first_longer x w [] = of (length (x ∷ w) == 0) (length (lines_of_parts (w ∷ [])))
  where
    of : (v : Bool) (n : ℕ) → length (cond v [] (strip_carriage_return (x ∷ w) ∷ [])) ≤ suc n
    of true n = omega arith
    of false n = omega arith
first_longer x w (v ∷ more) = omega arith

pub length_lines : (bytes : List ℕ) → length (lines bytes) ≤ length bytes
unfolding lines
length_lines [] = omega arith
length_lines (x ∷ bytes) =
    elim (cases_Bool (x == 10)) [
      | inl ends ↦
          let parts = slice_split-cons_yes (λ b. b == 10) x bytes ends in
          let count : length (lines_of_parts (slice_split (λ b. b == 10) (x ∷ bytes))) ≡ suc (length (lines_of_parts (slice_split (λ b. b == 10) bytes))) =
          ap (λ ps. length (lines_of_parts ps)) parts ∙ ap length (parts_more (λ b. b == 10) [] bytes) in
          omega (arith, count, length_lines bytes)
      | inr goes ↦
          let before = some_parts (λ b. b == 10) bytes in
          let parts = slice_split-cons_no (λ b. b == 10) x bytes goes ∙ ap (onto_first x) before.1.1 in
          let here : length (lines_of_parts (slice_split (λ b. b == 10) (x ∷ bytes))) ≡ length (lines_of_parts ((x ∷ before.0) ∷ before.1.0)) = ap (λ ps. length (lines_of_parts ps)) parts in
          let there : length (lines_of_parts (slice_split (λ b. b == 10) bytes)) ≡ length (lines_of_parts (before.0 ∷ before.1.0)) = ap (λ ps. length (lines_of_parts ps)) before.1.1 in
          omega (arith, here, there, first_longer x before.0 before.1.0, length_lines bytes)
    ]

-- bytes that begin with no line feed have one line, or fewer lines than bytes
fewer : (x : ℕ) (bytes : List ℕ) → (x == 10) ≡ false → (length (lines (x ∷ bytes)) ≤ 1) ⊎ (length (lines (x ∷ bytes)) + 1 ≤ length (x ∷ bytes))
unfolding lines
fewer x bytes goes =
    let before = some_parts (λ b. b == 10) bytes in
    let parts = slice_split-cons_no (λ b. b == 10) x bytes goes ∙ ap (onto_first x) before.1.1 in
    let here : length (lines_of_parts (slice_split (λ b. b == 10) (x ∷ bytes))) ≡ length (lines_of_parts ((x ∷ before.0) ∷ before.1.0)) = ap (λ ps. length (lines_of_parts ps)) parts in
    let there : length (lines_of_parts (slice_split (λ b. b == 10) bytes)) ≡ length (lines_of_parts (before.0 ∷ before.1.0)) = ap (λ ps. length (lines_of_parts ps)) before.1.1 in
    let few : length (lines_of_parts (slice_split (λ b. b == 10) bytes)) ≤ length bytes = length_lines bytes in
    of before.0 before.1.0 (length (lines_of_parts (slice_split (λ b. b == 10) (x ∷ bytes)))) (length (lines_of_parts (slice_split (λ b. b == 10) bytes))) here there few
  where
    one : (v : Bool) (l : List ℕ) → length (cond v [] (l ∷ [])) ≤ 1
    one true l = omega arith
    one false l = omega arith

    of : (w : List ℕ) (more : List (List ℕ)) (n m : ℕ) → n ≡ length (lines_of_parts ((x ∷ w) ∷ more)) → m ≡ length (lines_of_parts (w ∷ more)) → m ≤ length bytes → (n ≤ 1) ⊎ (n + 1 ≤ length (x ∷ bytes))
    of w [] n m e f le = inl (omega (arith, e, one (length (x ∷ w) == 0) (strip_carriage_return (x ∷ w))))
    of w (v ∷ more) n m e f le = inr (omega (arith, e, f, le))

begins_empty : (x : ℕ) (bytes : List ℕ) → (x == 10) ≡ true → lines (x ∷ bytes) ≡ [] ∷ lines bytes
unfolding lines
begins_empty x bytes ends = ap lines_of_parts (slice_split-cons_yes (λ b. b == 10) x bytes ends) ∙ parts_more (λ b. b == 10) [] bytes

-- where the first line isn't empty, the number of lines and 1 more is no larger than the number of bytes, or 2
pub few_lines : (bytes first : List ℕ) (body : List (List ℕ)) → lines bytes ≡ first ∷ body → 0 < length first → length bytes < 2 ^ 64 → length (lines bytes) + 1 < 2 ^ 64
few_lines [] first body e some lt = omega (arith, length_lines [])
few_lines (x ∷ bytes) first body e some lt =
    elim (cases_Bool (x == 10)) [
      | inl ends ↦ absurd (of first body (sym (begins_empty x bytes ends) ∙ e) some)
      | inr goes ↦
          elim (fewer x bytes goes) [
            | inl one ↦ omega (arith, one)
            | inr less ↦ omega (arith, less, lt)
          ]
    ]
  where
    of : (l : List ℕ) (ls : List (List ℕ)) → [] ∷ lines bytes ≡ l ∷ ls → 0 < length l → ⊥
    of l ls h p = let same : [] ≡ l = cc in omega (arith, ap length same)
