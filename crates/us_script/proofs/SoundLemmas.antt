-- What holds of each script that is read.
use Rattle.std.proofs.Common.{◌≡◌, ℕ, ◌+◌, ◌-◌, ◌<◌, ◌≤◌, ◌&&◌, ◌||◌, not, Bool, true, false, cond, List, [], ◌∷◌, ◌++◌, length, ◌^◌, nat_lt, nat_le, count_by, ℤ, pos, negsuc, FitsSigned, Result, Ok, Err, refl, sym, ap, subst, ◌∙◌, arith, length-append}
use Rattle.std.specs.Prelude.{codes}
use Rattle.std.specs.Int.{w64}
use Rattle.std.specs.Str.{bytes_eq}
use Rattle.std.proofs.lemmas.Bool.Decides.{nat_tests}
use Rattle.std.proofs.lemmas.List.Elements.{All-push, All-nil}
use Rattle.std.proofs.lemmas.List.Sums.{count_by-le-length, sum_by_push}
use Rattle.us_mm_lines.specs.Lines.{lines, kept}
use Rattle.us_mm_lines.specs.Words.{words, is_size_word, size_of, is_value_word, value_of, is_value}
use Rattle.us_script.specs.declared.step.Step.{Step}
use Rattle.us_script.specs.declared.step.Step.TheVariants.{Set, Undo, Size}
use Rattle.us_script.specs.declared.fault.ScriptFault.{ScriptFault}
use Rattle.us_script.specs.declared.fault.ScriptFault.TheVariants.{Line, OutOfShape, ValueRange, Nothing, TooMany}
use Rattle.us_script.specs.Steps.{is_size, sets_after, sets_left, lacks_set, sizes_after, IsInside, HasValue, AreUndoable, IsSound, IsCounted}
use Rattle.us_script.specs.Reads.{◌>>=◌, set_numbers, set_words, alone, step_words, step_of, is_too_many, allowed, step_at, read_steps, reads_script}

-- ---- one step more

abbrev one_of : Step → ℕ
one_of s = cond (is_size s) 1 0

pub sizes_push : (steps : List Step) (s : Step) → count_by is_size (steps ++ s ∷ []) ≡ sizes_after (count_by is_size steps) s
sizes_push steps (Set i j v) = omega (arith, sum_by_push one_of steps (Set i j v))
sizes_push steps Undo = omega (arith, sum_by_push one_of steps Undo)
sizes_push steps (Size line) = omega (arith, sum_by_push one_of steps (Size line))

pub sets_push : (n : ℕ) (steps : List Step) (s : Step) → sets_left n (steps ++ s ∷ []) ≡ sets_after (sets_left n steps) s
sets_push n [] s = refl
sets_push n (t ∷ steps) s = sets_push (sets_after n t) steps s

undoable_push : (n : ℕ) (steps : List Step) (s : Step) → AreUndoable n steps → lacks_set (sets_left n steps) s ≡ false → AreUndoable n (steps ++ s ∷ [])
undoable_push n [] s h e = (e, tt)
undoable_push n (t ∷ steps) s h e = (h.0, undoable_push (sets_after n t) steps s h.1 e)

one_more : (n : ℕ) (s : Step) → sets_after n s ≤ n + 1
one_more n (Set i j v) = omega arith
one_more n Undo = omega arith
one_more n (Size line) = omega arith

sets_few : (n : ℕ) (steps : List Step) → sets_left n steps ≤ n + length steps
sets_few n [] = omega arith
sets_few n (t ∷ steps) = omega (arith, one_more n t, sets_few (sets_after n t) steps)

pub counted_few : (steps : List Step) (sizes sets : ℕ) → IsCounted steps sizes sets → (sizes ≤ length steps) × (sets ≤ length steps)
counted_few steps sizes sets h = (omega (arith, h.sizes_are, count_by-le-length is_size steps), omega (arith, h.sets_are, sets_few 0 steps))

pub counted_none : IsCounted [] 0 0
counted_none = record { sizes_are = refl; sets_are = refl }

pub counted_push : (steps : List Step) (s : Step) (sizes sets : ℕ) → IsCounted steps sizes sets → IsCounted (steps ++ s ∷ []) (sizes_after sizes s) (sets_after sets s)
counted_push steps s sizes sets h = record {
  sizes_are = ap (λ n. sizes_after n s) h.sizes_are ∙ sym (sizes_push steps s);
  sets_are = ap (λ n. sets_after n s) h.sets_are ∙ sym (sets_push 0 steps s);
}

-- ---- where a step is taken

pub allowed_parts : (before : List Step) (n : ℕ) (s t : Step) → allowed before n s ≡ Ok t → (lacks_set (sets_left 0 before) s ≡ false) × (is_too_many before s ≡ false) × (s ≡ t)
allowed_parts before n s t h = of (lacks_set (sets_left 0 before) s) (is_too_many before s) refl refl h
  where
    of : (a b : Bool) → lacks_set (sets_left 0 before) s ≡ a → is_too_many before s ≡ b → cond a (Err (Nothing n)) (cond b (Err (TooMany n)) (Ok s)) ≡ Ok t
        → (lacks_set (sets_left 0 before) s ≡ false) × (is_too_many before s ≡ false) × (s ≡ t)
    of true b e f h = absurd (cc)
    of false true e f h = absurd (cc)
    of false false e f h = (e, f, cc)

few_left : (n : ℕ) (b : Bool) → (nat_le 1048576 n || b) ≡ false → n + 1 ≤ 1048576
few_left n b h = of (nat_le 1048576 n) refl h
  where
    of : (t : Bool) → nat_le 1048576 n ≡ t → (t || b) ≡ false → n + 1 ≤ 1048576
    of true e h = absurd (cc)
    of false e h = grind (arith, nat_tests)

few_sizes_left : (m : ℕ) (a : Bool) (s : Step) → m ≤ 256 → (a || (is_size s && nat_le 256 m)) ≡ false → sizes_after m s ≤ 256
few_sizes_left m a (Set i j v) le h = le
few_sizes_left m a Undo le h = le
few_sizes_left m true (Size line) le h = absurd (cc)
few_sizes_left m false (Size line) le h = grind (arith, nat_tests)

-- a step lies in the shape, and its value fits
abbrev IsGood : ℕ → ℕ → Step → Type 0
IsGood rows cols s = IsInside rows cols s × HasValue s

test_below : (n m : ℕ) → nat_lt n m ≡ true → n < m
test_below n m h = grind (arith, nat_tests)

fits_value : (v : ℤ) → is_value v ≡ true → FitsSigned w64 v
fits_value (pos n) h = record { sfits = test_below n (2 ^ 63) h }
fits_value (negsuc n) h = record { sfits = test_below n (2 ^ 63) h }

numbers_inside : (n rows cols i j : ℕ) (v : ℤ) (s : Step) → set_numbers n rows cols i j v ≡ Ok s → IsGood rows cols s
numbers_inside n rows cols i j v s h = of (nat_le 1 i && nat_le i rows && (nat_le 1 j && nat_le j cols)) (is_value v) refl refl h
  where
    inside : (nat_le 1 i && nat_le i rows && (nat_le 1 j && nat_le j cols)) ≡ true → (i - 1 < rows) × (j - 1 < cols)
    inside e = (grind (arith, nat_tests), grind (arith, nat_tests))

    of : (a b : Bool) → (nat_le 1 i && nat_le i rows && (nat_le 1 j && nat_le j cols)) ≡ a → is_value v ≡ b
        → cond (not a) (Err (OutOfShape n)) (cond (not b) (Err (ValueRange n)) (Ok (Set (i - 1) (j - 1) v))) ≡ Ok s → IsGood rows cols s
    of false b e f h = absurd (cc)
    of true false e f h = absurd (cc)
    of true true e f h = let is : Set (i - 1) (j - 1) v ≡ s = cc in subst (IsGood rows cols) is (inside e, fits_value v f)

set_inside : (n rows cols : ℕ) (ws : List (List ℕ)) (s : Step) → set_words n rows cols ws ≡ Ok s → IsGood rows cols s
set_inside n rows cols [] s h = absurd (cc)
set_inside n rows cols (a ∷ []) s h = absurd (cc)
set_inside n rows cols (a ∷ b ∷ []) s h = absurd (cc)
set_inside n rows cols (a ∷ b ∷ c ∷ []) s h = of (is_size_word a && is_size_word b && is_value_word c) h
  where
    of : (t : Bool) → cond t (set_numbers n rows cols (size_of a) (size_of b) (value_of c)) (Err (Line n)) ≡ Ok s → IsGood rows cols s
    of false h = absurd (cc)
    of true h = numbers_inside n rows cols (size_of a) (size_of b) (value_of c) s h
set_inside n rows cols (a ∷ b ∷ c ∷ d ∷ ws) s h = absurd (cc)

alone_is : (n : ℕ) (ws : List (List ℕ)) (s t : Step) → alone n ws s ≡ Ok t → s ≡ t
alone_is n [] s t h = cc
alone_is n (w ∷ ws) s t h = absurd (cc)

words_inside : (n rows cols : ℕ) (ws : List (List ℕ)) (s : Step) → step_words n rows cols ws ≡ Ok s → IsGood rows cols s
words_inside n rows cols [] s h = absurd (cc)
words_inside n rows cols (name ∷ more) s h = of (bytes_eq name (codes "set")) (bytes_eq name (codes "undo")) (bytes_eq name (codes "size")) h
  where
    of : (a b c : Bool) → cond a (set_words n rows cols more) (cond b (alone n more Undo) (cond c (alone n more (Size n)) (Err (Line n)))) ≡ Ok s → IsGood rows cols s
    of true b c h = set_inside n rows cols more s h
    of false true c h = subst (IsGood rows cols) (alone_is n more Undo s h) (tt, tt)
    of false false true h = subst (IsGood rows cols) (alone_is n more (Size n) s h) (tt, tt)
    of false false false h = absurd (cc)

step_inside : (rows cols : ℕ) (line : ℕ × List ℕ) (s : Step) → step_of rows cols line ≡ Ok s → IsGood rows cols s
unfolding step_of
step_inside rows cols line s h = words_inside line.0 rows cols (words line.1) s h

sound_push : (rows cols n : ℕ) (before : List Step) (s t : Step) → IsSound rows cols before → IsGood rows cols s → allowed before n s ≡ Ok t → IsSound rows cols (before ++ t ∷ [])
sound_push rows cols n before s t h inside e =
    let p = allowed_parts before n s t e in
    subst (λ x. IsSound rows cols (before ++ x ∷ [])) p.2 (record {
      inside = All-push (IsInside rows cols) before s h.inside inside.0;
      values = All-push HasValue before s h.values inside.1;
      undoable = undoable_push 0 before s h.undoable p.0;
      few = omega (arith, few_left (length before) _ p.1, length-append before (s ∷ []));
      few_sizes = subst (λ m. m ≤ 256) (sym (sizes_push before s)) (few_sizes_left (count_by is_size before) _ s h.few_sizes p.1);
    })

sound_step : (rows cols : ℕ) (line : ℕ × List ℕ) (before : List Step) (t : Step) → IsSound rows cols before → step_at rows cols before line ≡ Ok t → IsSound rows cols (before ++ t ∷ [])
unfolding step_at
sound_step rows cols line before t h e = of (step_of rows cols line) refl e
  where
    of : (r : Result Step ScriptFault) → step_of rows cols line ≡ r → (r >>= allowed before line.0) ≡ Ok t → IsSound rows cols (before ++ t ∷ [])
    of (Err f) is e = absurd (cc)
    of (Ok s) is e = sound_push rows cols line.0 before s t h (step_inside rows cols line s is) e

sound_on : (rows cols : ℕ) (ls : List (ℕ × List ℕ)) (before after : List Step) → IsSound rows cols before → read_steps rows cols before ls ≡ Ok after → IsSound rows cols after
unfolding read_steps
sound_on rows cols [] before after h e = let is : before ≡ after = cc in subst (IsSound rows cols) is h
sound_on rows cols (line ∷ ls) before after h e = of (step_at rows cols before line) refl e (λ b s. sound_on rows cols ls b after s)
  where
    of : (r : Result Step ScriptFault) → step_at rows cols before line ≡ r → (r >>= λ s. read_steps rows cols (before ++ s ∷ []) ls) ≡ Ok after
        → ((b : List Step) → IsSound rows cols b → read_steps rows cols b ls ≡ Ok after → IsSound rows cols after) → IsSound rows cols after
    of (Err f) is e on = absurd (cc)
    of (Ok s) is e on = on (before ++ s ∷ []) (sound_step rows cols line before s h is) e

pub sound_script : (rows cols : ℕ) (bytes : List ℕ) (steps : List Step) → reads_script rows cols bytes ≡ Ok steps → IsSound rows cols steps
unfolding reads_script
sound_script rows cols bytes steps e = sound_on rows cols (kept 1 (lines bytes)) [] steps (record { inside = All-nil (IsInside rows cols); values = All-nil HasValue; undoable = tt; few = omega arith; few_sizes = omega arith }) e
