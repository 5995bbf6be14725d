-- The first line of some bytes, and the lines that aren't skipped.
use Rattle.std.proofs.Common.{◌≡◌, ℕ, ◌+◌, ◌<◌, ◌≤◌, ◌==◌, Bool, true, false, cond, List, [], ◌∷◌, ◌++◌, length, take, drop, get_or, refl, sym, ap, ◌∙◌, arith}
use Rattle.std.specs.List.{slice_split, onto_first, All}
use Rattle.std.specs.Str.Lines.{strip_carriage_return}
use Rattle.std.proofs.lemmas.Bool.Decides.{nat_tests}
use Rattle.std.proofs.lemmas.List.{take-append-drop, drop_more, get_or_default, get_or-take, length-take}
use Rattle.std.proofs.lemmas.List.Splits.{slice_split_at, slice_split_none}
use Rattle.us_mm_lines.specs.Lines.{lines, lines_of_parts, kept, is_skipped}

-- a test that isn't passed answers false
pub no_pass : (b : Bool) → (b ≡ true → ⊥) → b ≡ false
no_pass true h = absurd (h refl)
no_pass false h = refl

-- the bytes round a place
pub split_at_place : (bs : List ℕ) (n : ℕ) → n < length bs → take n bs ++ get_or bs n 0 ∷ drop (n + 1) bs ≡ bs
split_at_place bs n h = ap (λ l. take n bs ++ l) (sym (drop_more bs n 0 h)) ∙ take-append-drop n bs

-- what holds of each byte below a place holds of all of the front
pub all_before : (P : ℕ → Type 0) (bs : List ℕ) (n : ℕ) → n ≤ length bs → ((k : ℕ) → k < n → P (get_or bs k 0)) → All P (take n bs)
all_before P bs n le h k d lt =
    let below : k < n = omega (arith, length-take n bs) in
    let is : get_or (take n bs) k d ≡ get_or bs k 0 = get_or-take n bs k d below ∙ get_or_default bs k d 0 (omega arith) in
    rw is (h k below)

onto_more : (b : ℕ) (w : List ℕ) (ps : List (List ℕ)) → lines_of_parts (w ∷ onto_first b ps) ≡ strip_carriage_return w ∷ lines_of_parts (onto_first b ps)
onto_more b w [] = refl
onto_more b w (p ∷ ps) = refl

-- a part before another isn't the last
pub parts_more : (p : ℕ → Bool) (w bs : List ℕ) → lines_of_parts (w ∷ slice_split p bs) ≡ strip_carriage_return w ∷ lines_of_parts (slice_split p bs)
parts_more p w [] = refl
parts_more p w (b ∷ bs) =
    elim (p b) as (λ v. lines_of_parts (w ∷ cond v ([] ∷ slice_split p bs) (onto_first b (slice_split p bs))) ≡ strip_carriage_return w ∷ lines_of_parts (cond v ([] ∷ slice_split p bs) (onto_first b (slice_split p bs)))) [
      | true ↦ refl
      | false ↦ onto_more b w (slice_split p bs)
    ]

pub lines-nil : lines [] ≡ []
unfolding lines
lines-nil = refl

pub lines_first : (bs : List ℕ) (n : ℕ) → n < length bs → ((k : ℕ) → k < n → (get_or bs k 0 == 10) ≡ false) → (get_or bs n 0 == 10) ≡ true
    → lines bs ≡ strip_carriage_return (take n bs) ∷ lines (drop (n + 1) bs)
unfolding lines
lines_first bs n lt before here =
    let p : ℕ → Bool = λ b. b == 10 in
    ap (λ l. lines_of_parts (slice_split p l)) (sym (split_at_place bs n lt))
    ∙ ap lines_of_parts (slice_split_at p (take n bs) (get_or bs n 0) (drop (n + 1) bs) (all_before (λ b. p b ≡ false) bs n (omega arith) before) here)
    ∙ parts_more p (take n bs) (drop (n + 1) bs)

pub lines_last : (bs : List ℕ) → 0 < length bs → ((k : ℕ) → k < length bs → (get_or bs k 0 == 10) ≡ false) → lines bs ≡ strip_carriage_return bs ∷ []
unfolding lines
lines_last bs some before =
    let some_bytes : (length bs == 0) ≡ false = grind (arith, nat_tests) in
    ap lines_of_parts (slice_split_none (λ b. b == 10) bs (λ k d lt. rw (get_or_default bs k d 0 lt) (before k lt)))
    ∙ ap (λ v. cond v [] (strip_carriage_return bs ∷ [])) some_bytes

pub kept-nil : (n : ℕ) → kept n [] ≡ []
unfolding kept
kept-nil n = refl

pub kept_skipped : (n : ℕ) (line : List ℕ) (ls : List (List ℕ)) → is_skipped line ≡ true → kept n (line ∷ ls) ≡ kept (n + 1) ls
unfolding kept
kept_skipped n line ls h = rw h refl

pub kept_line : (n : ℕ) (line : List ℕ) (ls : List (List ℕ)) → is_skipped line ≡ false → kept n (line ∷ ls) ≡ (n, line) ∷ kept (n + 1) ls
unfolding kept
kept_line n line ls h = rw h refl

pub no_bytes : (bs : List ℕ) → (length bs == 0) ≡ true → lines bs ≡ []
no_bytes [] h = lines-nil
no_bytes (b ∷ bs) h = absurd (grind (arith, nat_tests))
