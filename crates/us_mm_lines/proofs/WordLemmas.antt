-- The first word of a line.
use Rattle.std.proofs.Common.{◌≡◌, ℕ, ◌+◌, ◌<◌, ◌≤◌, ◌==◌, not, zero, suc, true, false, cond, List, [], ◌∷◌, length, take, drop, get_or, filter, refl, sym, ap, ◌∙◌, inl, inr, arith}
use Rattle.std.specs.List.{slice_split}
use Rattle.std.proofs.lemmas.Bool.{cases_lt, false≢true}
use Rattle.std.proofs.lemmas.Bool.Decides.{nat_tests}
use Rattle.std.proofs.lemmas.List.{drop_more, length-take, take_all, drop_all, get_or_default}
use Rattle.std.proofs.lemmas.List.Splits.{slice_split_at, slice_split_none, slice_split-cons_yes}
use Rattle.us_mm_lines.specs.Lines.{is_blank}
use Rattle.us_mm_lines.specs.Words.{words}
use Rattle.us_mm_lines.proofs.LineLemmas.{split_at_place, all_before}

pub words-nil : words [] ≡ []
unfolding words
words-nil = refl

pub words_blank : (b : ℕ) (bs : List ℕ) → is_blank b ≡ true → words (b ∷ bs) ≡ words bs
unfolding words
words_blank b bs h = rw (slice_split-cons_yes is_blank b bs h) refl

kept_word : (w : List ℕ) (ws : List (List ℕ)) → 0 < length w → filter (λ w. not (length w == 0)) (w ∷ ws) ≡ w ∷ filter (λ w. not (length w == 0)) ws
kept_word w ws h =
    let some : (length w == 0) ≡ false = grind (arith, nat_tests) in
    ap (λ v. cond (not v) (w ∷ filter (λ w. not (length w == 0)) ws) (filter (λ w. not (length w == 0)) ws)) some

pub words_first : (bs : List ℕ) (n : ℕ) → 0 < n → n ≤ length bs → ((k : ℕ) → k < n → is_blank (get_or bs k 0) ≡ false) → (n < length bs → is_blank (get_or bs n 0) ≡ true)
    → words bs ≡ take n bs ∷ words (drop n bs)
unfolding words
words_first bs n some le before found =
    elim (cases_lt n (length bs)) [
      | inl lt ↦
          ap words (sym (split_at_place bs n lt))
          ∙ ap (filter (λ w. not (length w == 0))) (slice_split_at is_blank (take n bs) (get_or bs n 0) (drop (n + 1) bs) (all_before (λ b. is_blank b ≡ false) bs n le before) (found lt))
          ∙ kept_word (take n bs) (slice_split is_blank (drop (n + 1) bs)) (omega (arith, length-take n bs))
          ∙ ap (λ ws. take n bs ∷ ws) (sym (words_blank (get_or bs n 0) (drop (n + 1) bs) (found lt)) ∙ ap words (sym (drop_more bs n 0 lt)))
      | inr ge ↦
          ap (filter (λ w. not (length w == 0))) (slice_split_none is_blank bs (λ k d lt. rw (get_or_default bs k d 0 lt) (before k (omega arith))))
          ∙ kept_word bs [] (omega arith)
          ∙ ap (λ w. w ∷ []) (sym (take_all n bs ge))
          ∙ ap (λ l. take n bs ∷ words l) (sym (drop_all n bs ge))
    ]

pub no_words : (bs : List ℕ) → (length bs == 0) ≡ true → words bs ≡ []
no_words [] h = words-nil
no_words (b ∷ bs) h = absurd (grind (arith, nat_tests))

-- a line that begins with no blank begins with a word
pub word_begins : (bs : List ℕ) (n : ℕ) → (length bs == 0) ≡ false → (0 < length bs → is_blank (get_or bs 0 0) ≡ false) → (n < length bs → is_blank (get_or bs n 0) ≡ true) → 0 < n
word_begins bs zero some starts found =
    let p : 0 < length bs = grind (arith, nat_tests) in
    absurd (false≢true (sym (starts p) ∙ found p))
word_begins bs (suc n) some starts found = omega arith
