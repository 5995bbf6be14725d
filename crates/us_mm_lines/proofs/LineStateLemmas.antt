-- The state of a line with one more byte.
use Rattle.std.proofs.Common.{◌≡◌, ◌≢◌, ℕ, suc, ◌+◌, ◌-◌, ◌<◌, ◌≤◌, ◌^◌, ◌==◌, ◌&&◌, ◌||◌, not, min, Bool, true, false, cond, List, [], ◌∷◌, ◌++◌, length, take, set, get_or, filter, refl, sym, ap, ◌∙◌, inl, inr, arith, length-append, append-nil}
use Rattle.std.specs.List.{slice_split, onto_first, list_all}
use Rattle.std.specs.Str.Lines.{strip_carriage_return}
use Rattle.std.proofs.lemmas.Bool.{cases_Bool, cases_eq, false≢true}
use Rattle.std.proofs.lemmas.Bool.Decides.{nat_tests}
use Rattle.std.proofs.lemmas.List.{take_all, take_at, get_or_at, get_or_append_left, get_or-set_same, get_or-set_other, length-set, take_more}
use Rattle.std.proofs.lemmas.List.Splits.{slice_split-cons_yes, slice_split-cons_no}
use Rattle.us_mm_lines.specs.Lines.{is_blank, is_skipped}
use Rattle.us_mm_lines.specs.Words.{words}
use Rattle.us_mm_lines.proofs.WordLemmas.{words-nil, words_blank}
use Rattle.us_mm_lines.specs.declared.word_state.WordState.{WordState}
use Rattle.us_mm_lines.specs.declared.line_state.LineState.{LineState}
use Rattle.us_mm_lines.specs.States.{IsWordState, AreStatesOf, AreWordStates, IsPlainState, IsLineState}

-- ---- the parts of a list with one more element

pub some_parts : (p : ℕ → Bool) (l : List ℕ) → (w : List ℕ) × ((more : List (List ℕ)) × (slice_split p l ≡ w ∷ more))
some_parts p [] = ([], ([], refl))
some_parts p (x ∷ l) =
    elim (cases_Bool (p x)) [
      | inl passes ↦ ([], (slice_split p l, slice_split-cons_yes p x l passes))
      | inr fails ↦
          let before = some_parts p l in
          (x ∷ before.0, (before.1.0, slice_split-cons_no p x l fails ∙ ap (onto_first x) before.1.1))
    ]

pub parts_ended : (p : ℕ → Bool) (l : List ℕ) (b : ℕ) → p b ≡ true → slice_split p (l ++ b ∷ []) ≡ slice_split p l ++ [] ∷ []
parts_ended p [] b h = slice_split-cons_yes p b [] h
parts_ended p (x ∷ l) b h =
    elim (cases_Bool (p x)) [
      | inl passes ↦
          slice_split-cons_yes p x (l ++ b ∷ []) passes ∙ ap (λ ps. [] ∷ ps) (parts_ended p l b h)
          ∙ ap (λ ps. ps ++ [] ∷ []) (sym (slice_split-cons_yes p x l passes))
      | inr fails ↦
          let before = some_parts p l in
          slice_split-cons_no p x (l ++ b ∷ []) fails ∙ ap (onto_first x) (parts_ended p l b h)
          ∙ ap (λ ps. onto_first x (ps ++ [] ∷ [])) before.1.1
          ∙ ap (λ ps. onto_first x ps ++ [] ∷ []) (sym before.1.1)
          ∙ ap (λ ps. ps ++ [] ∷ []) (sym (slice_split-cons_no p x l fails))
    ]

-- the last part with one more element
abbrev onto_last : ℕ → List (List ℕ) → List (List ℕ)
onto_last b [] = []
onto_last b (w ∷ []) = (w ++ b ∷ []) ∷ []
onto_last b (w ∷ v ∷ more) = w ∷ onto_last b (v ∷ more)

onto_last-append : (b : ℕ) (ps : List (List ℕ)) (w : List ℕ) → onto_last b (ps ++ w ∷ []) ≡ ps ++ (w ++ b ∷ []) ∷ []
onto_last-append b [] w = refl
onto_last-append b (q ∷ []) w = refl
onto_last-append b (q ∷ r ∷ ps) w = ap (λ l. q ∷ l) (onto_last-append b (r ∷ ps) w)

first_and_last : (x b : ℕ) (w : List ℕ) (more : List (List ℕ)) → onto_first x (onto_last b (w ∷ more)) ≡ onto_last b (onto_first x (w ∷ more))
first_and_last x b w [] = refl
first_and_last x b w (v ∷ more) = refl

behind_one : (b : ℕ) (w : List ℕ) (more : List (List ℕ)) → [] ∷ onto_last b (w ∷ more) ≡ onto_last b ([] ∷ w ∷ more)
behind_one b w more = refl

parts_longer : (p : ℕ → Bool) (l : List ℕ) (b : ℕ) → p b ≡ false → slice_split p (l ++ b ∷ []) ≡ onto_last b (slice_split p l)
parts_longer p [] b h = slice_split-cons_no p b [] h
parts_longer p (x ∷ l) b h =
    let before = some_parts p l in
    elim (cases_Bool (p x)) [
      | inl passes ↦
          slice_split-cons_yes p x (l ++ b ∷ []) passes ∙ ap (λ ps. [] ∷ ps) (parts_longer p l b h ∙ ap (onto_last b) before.1.1)
          ∙ behind_one b before.0 before.1.0
          ∙ ap (λ ps. onto_last b ([] ∷ ps)) (sym before.1.1)
          ∙ ap (onto_last b) (sym (slice_split-cons_yes p x l passes))
      | inr fails ↦
          slice_split-cons_no p x (l ++ b ∷ []) fails ∙ ap (onto_first x) (parts_longer p l b h ∙ ap (onto_last b) before.1.1)
          ∙ first_and_last x b before.0 before.1.0
          ∙ ap (λ ps. onto_last b (onto_first x ps)) (sym before.1.1)
          ∙ ap (onto_last b) (sym (slice_split-cons_no p x l fails))
    ]

pub last_longer : (p : ℕ → Bool) (l : List ℕ) (b : ℕ) (ended : List (List ℕ)) (w : List ℕ) → p b ≡ false → slice_split p l ≡ ended ++ w ∷ [] → slice_split p (l ++ b ∷ []) ≡ ended ++ (w ++ b ∷ []) ∷ []
last_longer p l b ended w h e = parts_longer p l b h ∙ ap (onto_last b) e ∙ onto_last-append b ended w

-- ---- the words of a line by its parts

abbrev some_word : List ℕ → Bool
some_word w = not (length w == 0)

filter-append : (xs ys : List (List ℕ)) → filter some_word (xs ++ ys) ≡ filter some_word xs ++ filter some_word ys
filter-append [] ys = refl
filter-append (x ∷ xs) ys = of (some_word x) (filter-append xs ys)
  where
    of : (v : Bool) → filter some_word (xs ++ ys) ≡ filter some_word xs ++ filter some_word ys
        → cond v (x ∷ filter some_word (xs ++ ys)) (filter some_word (xs ++ ys)) ≡ cond v (x ∷ filter some_word xs) (filter some_word xs) ++ filter some_word ys
    of true h = ap (λ l. x ∷ l) h
    of false h = h

one_more : (w : List ℕ) (b : ℕ) → some_word (w ++ b ∷ []) ≡ true
one_more w b = ap (λ n. not (n == 0)) (length-append w (b ∷ [])) ∙ of (length w + 1) (omega arith)
  where
    of : (n : ℕ) → 0 < n → not (n == 0) ≡ true
    of n h = grind (arith, nat_tests)

-- words of a line whose last part is no word, and of one whose last part is one
words_ended : (line : List ℕ) (ended : List (List ℕ)) (w : List ℕ) → slice_split is_blank line ≡ ended ++ w ∷ [] → some_word w ≡ false → words line ≡ filter some_word ended
unfolding words
words_ended line ended w e h =
    ap (filter some_word) e ∙ filter-append ended (w ∷ []) ∙ ap (λ v. filter some_word ended ++ cond v (w ∷ []) []) h ∙ append-nil (filter some_word ended)

words_in : (line : List ℕ) (ended : List (List ℕ)) (w : List ℕ) → slice_split is_blank line ≡ ended ++ w ∷ [] → some_word w ≡ true → words line ≡ filter some_word ended ++ w ∷ []
unfolding words
words_in line ended w e h = ap (filter some_word) e ∙ filter-append ended (w ∷ []) ∙ ap (λ v. filter some_word ended ++ cond v (w ∷ []) []) h

no_bytes : (w : List ℕ) → some_word w ≡ false → w ≡ []
no_bytes [] h = refl
no_bytes (x ∷ w) h = absurd (false≢true (sym h ∙ of (length w)))
  where
    of : (n : ℕ) → not (suc n == 0) ≡ true
    of n = grind (arith, nat_tests)

words_whole : (line : List ℕ) (ps : List (List ℕ)) → slice_split is_blank line ≡ ps → filter some_word ps ≡ words line
unfolding words
words_whole line ps e = ap (filter some_word) (sym e)

pub words_blank_end : (line : List ℕ) (b : ℕ) (ended : List (List ℕ)) (w : List ℕ) → slice_split is_blank line ≡ ended ++ w ∷ [] → is_blank b ≡ true → words (line ++ b ∷ []) ≡ words line
words_blank_end line b ended w e h =
    words_ended (line ++ b ∷ []) (ended ++ w ∷ []) [] (parts_ended is_blank line b h ∙ ap (λ ps. ps ++ [] ∷ []) e) refl
    ∙ words_whole line (ended ++ w ∷ []) e

pub words_begun : (line : List ℕ) (b : ℕ) (ended : List (List ℕ)) (w : List ℕ) → slice_split is_blank line ≡ ended ++ w ∷ [] → some_word w ≡ false → is_blank b ≡ false → words (line ++ b ∷ []) ≡ words line ++ (b ∷ []) ∷ []
words_begun line b ended w e none h =
    words_in (line ++ b ∷ []) ended (w ++ b ∷ []) (last_longer is_blank line b ended w h e) (one_more w b)
    ∙ ap (λ v. filter some_word ended ++ (v ++ b ∷ []) ∷ []) (no_bytes w none)
    ∙ ap (λ ws. ws ++ (b ∷ []) ∷ []) (sym (words_ended line ended w e none))

pub words_longer : (line : List ℕ) (b : ℕ) (ended : List (List ℕ)) (w : List ℕ) → slice_split is_blank line ≡ ended ++ w ∷ [] → is_blank b ≡ false → words (line ++ b ∷ []) ≡ filter some_word ended ++ (w ++ b ∷ []) ∷ []
words_longer line b ended w e h = words_in (line ++ b ∷ []) ended (w ++ b ∷ []) (last_longer is_blank line b ended w h e) (one_more w b)

-- ---- the fields of a state

begun_more : (line : List ℕ) (b : ℕ) → true ≡ not (length (line ++ b ∷ []) == 0)
begun_more line b = sym (one_more line b)

comment_more : (line : List ℕ) (b : ℕ) (begun comment c : Bool) → begun ≡ not (length line == 0) → comment ≡ (get_or line 0 0 == 37) → c ≡ cond begun comment (b == 37) → c ≡ (get_or (line ++ b ∷ []) 0 0 == 37)
comment_more [] b begun comment c h e is = is ∙ ap (λ v. cond v comment (b == 37)) h
comment_more (x ∷ line) b begun comment c h e is = is ∙ ap (λ v. cond v comment (b == 37)) (h ∙ of (length line)) ∙ e
  where
    of : (n : ℕ) → not (suc n == 0) ≡ true
    of n = grind (arith, nat_tests)

count_more : (ws : List (List ℕ)) (w : List ℕ) (n m : ℕ) → n ≡ min (length ws) (2 ^ 64 - 1) → m ≡ min (n + 1) (2 ^ 64 - 1) → m ≡ min (length (ws ++ w ∷ [])) (2 ^ 64 - 1)
count_more ws w n m e is = omega (arith, length-append ws (w ∷ []))

same_length : (ws : List (List ℕ)) (v w : List ℕ) → length (ws ++ v ∷ []) ≡ length (ws ++ w ∷ [])
same_length ws v w = length-append ws (v ∷ []) ∙ sym (length-append ws (w ∷ []))

-- ---- a byte behind a line

pub plain_blank : (s : LineState) (line : List ℕ) (b : ℕ) (c : Bool) → IsPlainState s line → is_blank b ≡ true → c ≡ cond s.begun s.comment (b == 37)
    → IsPlainState (record { begun = true; comment = c; returned = s.returned; in_word = false; count = s.count; words = s.words }) (line ++ b ∷ [])
plain_blank s line b c h blank is =
    let same = words_blank_end line b h.ended h.unended h.parts blank in
    record {
      begun = begun_more line b;
      comment = comment_more line b s.begun s.comment c h.begun h.comment is;
      ended = h.ended ++ h.unended ∷ [];
      unended = [];
      parts = parts_ended is_blank line b blank ∙ ap (λ ps. ps ++ [] ∷ []) h.parts;
      in_word = refl;
      count = h.count ∙ ap (λ ws. min (length ws) (2 ^ 64 - 1)) (sym same);
      states = rw same h.states;
    }

pub plain_longer : (s : LineState) (line : List ℕ) (b : ℕ) (c : Bool) (states : List WordState) → IsPlainState s line → is_blank b ≡ false → c ≡ cond s.begun s.comment (b == 37) → s.in_word ≡ true
    → ((ws : List (List ℕ)) (w : List ℕ) → AreWordStates s.words (ws ++ w ∷ []) → s.count ≡ min (length (ws ++ w ∷ [])) (2 ^ 64 - 1) → AreWordStates states (ws ++ (w ++ b ∷ []) ∷ []))
    → IsPlainState (record { begun = true; comment = c; returned = s.returned; in_word = s.in_word; count = s.count; words = states }) (line ++ b ∷ [])
plain_longer s line b c states h letter is within more =
    let before : words line ≡ filter some_word h.ended ++ h.unended ∷ [] = words_in line h.ended h.unended h.parts (sym h.in_word ∙ within) in
    let after : words (line ++ b ∷ []) ≡ filter some_word h.ended ++ (h.unended ++ b ∷ []) ∷ [] = words_longer line b h.ended h.unended h.parts letter in
    let count : s.count ≡ min (length (filter some_word h.ended ++ h.unended ∷ [])) (2 ^ 64 - 1) = h.count ∙ ap (λ ws. min (length ws) (2 ^ 64 - 1)) before in
    record {
      begun = begun_more line b;
      comment = comment_more line b s.begun s.comment c h.begun h.comment is;
      ended = h.ended;
      unended = h.unended ++ b ∷ [];
      parts = last_longer is_blank line b h.ended h.unended letter h.parts;
      in_word = within ∙ sym (one_more h.unended b);
      count = count ∙ ap (λ n. min n (2 ^ 64 - 1)) (same_length (filter some_word h.ended) h.unended (h.unended ++ b ∷ [])) ∙ ap (λ ws. min (length ws) (2 ^ 64 - 1)) (sym after);
      states = rw after (more (filter some_word h.ended) h.unended (rw before at h.states) count);
    }

pub plain_begun : (s : LineState) (line : List ℕ) (b : ℕ) (c : Bool) (n : ℕ) (states : List WordState) → IsPlainState s line → is_blank b ≡ false → c ≡ cond s.begun s.comment (b == 37) → s.in_word ≡ false
    → n ≡ min (s.count + 1) (2 ^ 64 - 1)
    → ((ws : List (List ℕ)) → AreWordStates s.words ws → s.count ≡ min (length ws) (2 ^ 64 - 1) → AreWordStates states (ws ++ (b ∷ []) ∷ []))
    → IsPlainState (record { begun = true; comment = c; returned = s.returned; in_word = true; count = n; words = states }) (line ++ b ∷ [])
plain_begun s line b c n states h letter is outside counted more =
    let none : some_word h.unended ≡ false = sym h.in_word ∙ outside in
    let after : words (line ++ b ∷ []) ≡ words line ++ (b ∷ []) ∷ [] = words_begun line b h.ended h.unended h.parts none letter in
    record {
      begun = begun_more line b;
      comment = comment_more line b s.begun s.comment c h.begun h.comment is;
      ended = h.ended;
      unended = h.unended ++ b ∷ [];
      parts = last_longer is_blank line b h.ended h.unended letter h.parts;
      in_word = sym (one_more h.unended b);
      count = count_more (words line) (b ∷ []) s.count n h.count counted ∙ ap (λ ws. min (length ws) (2 ^ 64 - 1)) (sym after);
      states = rw after (more (words line) h.states h.count);
    }

-- ---- the states of words

-- what a list has at its end, and before
at_end : (ws : List (List ℕ)) (w : List ℕ) (k : ℕ) → k ≡ length ws → get_or (ws ++ w ∷ []) k [] ≡ w
at_end ws w k e = get_or_at ws w [] [] k (sym e)

before_end : (ws : List (List ℕ)) (v w : List ℕ) (k : ℕ) → k < length ws → get_or (ws ++ v ∷ []) k [] ≡ get_or (ws ++ w ∷ []) k []
before_end ws v w k lt = get_or_append_left ws (v ∷ []) [] k lt ∙ sym (get_or_append_left ws (w ∷ []) [] k lt)

inside : (ws : List (List ℕ)) (w : List ℕ) (k : ℕ) → k < length (ws ++ w ∷ []) → k ≢ length ws → k < length ws
inside ws w k lt other = omega (arith, length-append ws (w ∷ []))

-- one state is set at the place of the last word
set_last : (ws : List (List ℕ)) (v w : List ℕ) (old : List WordState) (n : ℕ) (s : WordState) → n ≡ length ws → n < 5 → length old ≡ 5
    → ((k : ℕ) (d : WordState) → k < 5 → k < length ws → IsWordState (get_or old k d) (get_or (ws ++ v ∷ []) k [])) → IsWordState s w → AreWordStates (set old n s) (ws ++ w ∷ [])
set_last ws v w old n s e lt room each is = record {
  room = length-set old n s ∙ room;
  each = λ k d five within.
      elim (cases_eq k n) [
        | inl same ↦ rw (ap (λ i. get_or (set old n s) i d) same ∙ get_or-set_same old n s d (omega arith), at_end ws w k (same ∙ e)) is
        | inr other ↦
            let lower : k < length ws = inside ws w k within (λ q. other (q ∙ sym e)) in
            rw (get_or-set_other old n k s d other, sym (before_end ws v w k lower)) (each k d five lower)
      ];
}

pub extended : (ws : List (List ℕ)) (w : List ℕ) (old : List WordState) (count b : ℕ) (d s : WordState) → AreWordStates old (ws ++ w ∷ []) → count ≡ min (length (ws ++ w ∷ [])) (2 ^ 64 - 1) → count ≤ 5
    → ((v : List ℕ) → IsWordState (get_or old (count - 1) d) v → IsWordState s (v ++ b ∷ [])) → AreWordStates (set old (count - 1) s) (ws ++ (w ++ b ∷ []) ∷ [])
extended ws w old count b d s h e few more =
    let len : length (ws ++ w ∷ []) ≡ length ws + 1 = length-append ws (w ∷ []) in
    let at : count - 1 ≡ length ws = omega arith in
    let here : IsWordState (get_or old (count - 1) d) w = rw (sym (at_end ws w (count - 1) at)) (h.each (count - 1) d (omega arith) (omega arith)) in
    set_last ws w (w ++ b ∷ []) old (count - 1) s at (omega arith) h.room (λ k d five lt. h.each k d five (omega arith)) (more w here)

pub begun : (ws : List (List ℕ)) (old : List WordState) (count b : ℕ) (s : WordState) → AreWordStates old ws → count ≡ min (length ws) (2 ^ 64 - 1) → count < 5 → IsWordState s (b ∷ []) → AreWordStates (set old count s) (ws ++ (b ∷ []) ∷ [])
begun ws old count b s h e few is =
    set_last ws [] (b ∷ []) old count s (omega arith) few h.room (λ k d five lt. rw (get_or_append_left ws ([] ∷ []) [] k lt) (h.each k d five lt)) is

-- more than five words: the first five stay
pub stays_longer : (ws : List (List ℕ)) (v w : List ℕ) (old : List WordState) (count : ℕ) → AreWordStates old (ws ++ v ∷ []) → count ≡ min (length (ws ++ v ∷ [])) (2 ^ 64 - 1) → 5 < count → AreWordStates old (ws ++ w ∷ [])
stays_longer ws v w old count h e many =
    let len : length (ws ++ v ∷ []) ≡ length ws + 1 = length-append ws (v ∷ []) in record {
      room = h.room;
      each = λ k d five within. rw (before_end ws w v k (omega arith)) (h.each k d five (omega arith));
    }

pub stays_begun : (ws : List (List ℕ)) (w : List ℕ) (old : List WordState) (count : ℕ) → AreWordStates old ws → count ≡ min (length ws) (2 ^ 64 - 1) → 5 ≤ count → AreWordStates old (ws ++ w ∷ [])
stays_begun ws w old count h e many = record {
  room = h.room;
  each = λ k d five within. rw (get_or_append_left ws (w ∷ []) [] k (omega arith)) (h.each k d five (omega arith));
}

-- no word is begun without a byte
pub some_count : (ws : List (List ℕ)) (w : List ℕ) → min (length (ws ++ w ∷ [])) (2 ^ 64 - 1) ≡ 0 → ⊥
some_count ws w h = omega (arith, length-append ws (w ∷ []))

-- ---- the carriage return at the end

last_of : (rest : List ℕ) (b : ℕ) → get_or (rest ++ b ∷ []) (length (rest ++ b ∷ []) - 1) 0 ≡ b
last_of rest b = get_or_at rest b [] 0 (length (rest ++ b ∷ []) - 1) (omega (arith, length-append rest (b ∷ [])))

strip_returned : (rest : List ℕ) (b : ℕ) → (b == 13) ≡ true → strip_carriage_return (rest ++ b ∷ []) ≡ rest
strip_returned rest b h =
    ap (λ v. cond (v == 13) (take (length (rest ++ b ∷ []) - 1) (rest ++ b ∷ [])) (rest ++ b ∷ [])) (last_of rest b)
    ∙ ap (λ v. cond v (take (length (rest ++ b ∷ []) - 1) (rest ++ b ∷ [])) (rest ++ b ∷ [])) h
    ∙ take_at rest (b ∷ []) (length (rest ++ b ∷ []) - 1) (omega (arith, length-append rest (b ∷ [])))

strip_other : (rest : List ℕ) (b : ℕ) → (b == 13) ≡ false → strip_carriage_return (rest ++ b ∷ []) ≡ rest ++ b ∷ []
strip_other rest b h =
    ap (λ v. cond (v == 13) (take (length (rest ++ b ∷ []) - 1) (rest ++ b ∷ [])) (rest ++ b ∷ [])) (last_of rest b)
    ∙ ap (λ v. cond v (take (length (rest ++ b ∷ []) - 1) (rest ++ b ∷ [])) (rest ++ b ∷ [])) h

pub settled_none : (rest : List ℕ) → (get_or rest (length rest - 1) 0 == 13) ≡ false → strip_carriage_return rest ≡ rest
settled_none rest h = ap (λ v. cond v (take (length rest - 1) rest) rest) h

is_return : (b : ℕ) → (b == 13) ≡ true → b ≡ 13
is_return b h = grind (arith, nat_tests)

pub settled_return : (rest : List ℕ) → (get_or rest (length rest - 1) 0 == 13) ≡ true → strip_carriage_return rest ++ 13 ∷ [] ≡ rest
settled_return [] h = absurd (false≢true h)
settled_return (x ∷ l) h =
    let rest : List ℕ = x ∷ l in
    let n : ℕ = length rest - 1 in
    let whole : take (n + 1) rest ≡ take n rest ++ get_or rest n 0 ∷ [] = take_more rest n 0 (omega arith) in
    ap (λ v. cond v (take n rest) rest ++ 13 ∷ []) h
    ∙ ap (λ b. take n rest ++ b ∷ []) (sym (is_return (get_or rest n 0) h))
    ∙ sym whole ∙ take_all (n + 1) rest (omega arith)

pub behind_return : (s : LineState) (rest : List ℕ) (b : ℕ) → IsPlainState s rest → (b == 13) ≡ true
    → IsLineState (record { begun = s.begun; comment = s.comment; returned = true; in_word = s.in_word; count = s.count; words = s.words }) (rest ++ b ∷ [])
behind_return s rest b h e = record {
  returned = sym (ap (λ v. v == 13) (last_of rest b) ∙ e);
  plain = rw (strip_returned rest b e) (record { begun = h.begun; comment = h.comment; ended = h.ended; unended = h.unended; parts = h.parts; in_word = h.in_word; count = h.count; states = h.states });
}

pub behind_other : (s : LineState) (rest : List ℕ) (b : ℕ) → IsPlainState s (rest ++ b ∷ []) → (b == 13) ≡ false → s.returned ≡ false → IsLineState s (rest ++ b ∷ [])
behind_other s rest b h e ended = record { returned = ended ∙ sym (ap (λ v. v == 13) (last_of rest b) ∙ e); plain = rw (strip_other rest b e) h }

-- ---- no byte yet

pub no_words_yet : (s : WordState)
    → IsPlainState (record { begun = false; comment = false; returned = false; in_word = false; count = 0; words = s ∷ s ∷ s ∷ s ∷ s ∷ [] }) []
no_words_yet s = record {
  begun = refl;
  comment = refl;
  ended = [];
  unended = [];
  parts = refl;
  in_word = refl;
  count = sym (ap (λ ws. min (length ws) (2 ^ 64 - 1)) words-nil);
  states = record { room = refl; each = λ k d five lt. absurd (omega (arith, lt, ap length words-nil)) };
}

-- ---- what the state tells of the line

first_kept : (x : ℕ) (w : List ℕ) (more : List (List ℕ)) → (length (filter some_word ((x ∷ w) ∷ more)) == 0) ≡ false
first_kept x w more = ap (λ v. length (cond v ((x ∷ w) ∷ filter some_word more) (filter some_word more)) == 0) (kept (length w)) ∙ some (length (filter some_word more))
  where
    kept : (n : ℕ) → not (suc n == 0) ≡ true
    kept n = grind (arith, nat_tests)

    some : (n : ℕ) → (suc n == 0) ≡ false
    some n = grind (arith, nat_tests)

pub blank_line : (line : List ℕ) → list_all is_blank line ≡ (length (words line) == 0)
blank_line [] = sym (ap (λ ws. length ws == 0) words-nil)
blank_line (x ∷ line) =
    elim (cases_Bool (is_blank x)) [
      | inl blank ↦ ap (λ v. v && list_all is_blank line) blank ∙ blank_line line ∙ ap (λ ws. length ws == 0) (sym (words_blank x line blank))
      | inr letter ↦
          let before = some_parts is_blank line in
          let parts : slice_split is_blank (x ∷ line) ≡ (x ∷ before.0) ∷ before.1.0 = slice_split-cons_no is_blank x line letter ∙ ap (onto_first x) before.1.1 in
          ap (λ v. v && list_all is_blank line) letter
          ∙ sym (ap (λ ws. length ws == 0) (sym (words_whole (x ∷ line) ((x ∷ before.0) ∷ before.1.0) parts)) ∙ first_kept x before.0 before.1.0)
    ]

pub skipped_by_state : (s : LineState) (line : List ℕ) → IsPlainState s line → (s.comment || s.count == 0) ≡ is_skipped line
skipped_by_state s line h =
    ap (λ v. v || s.count == 0) h.comment ∙ ap (λ v. (get_or line 0 0 == 37) || v) (same s.count (length (words line)) h.count ∙ sym (blank_line line))
  where
    same : (n m : ℕ) → n ≡ min m (2 ^ 64 - 1) → (n == 0) ≡ (m == 0)
    same n m e = grind (arith, nat_tests)

pub not_so_many : (n m k : ℕ) → n ≡ min m (2 ^ 64 - 1) → k ≤ 5 → n ≢ k → m ≢ k
not_so_many n m k e few other = λ h. other (omega arith)

so_many : (n m k : ℕ) → n ≡ min m (2 ^ 64 - 1) → k ≤ 5 → n ≡ k → m ≡ k
so_many n m k e few h = omega arith

pub taken_one : (states : List WordState) (ws : List (List ℕ)) (n : ℕ) (d : WordState) → AreWordStates states ws → n ≡ min (length ws) (2 ^ 64 - 1) → n ≡ 1 → AreStatesOf (get_or states 0 d ∷ []) ws
taken_one states [] n d h e is = absurd (omega arith)
taken_one states (a ∷ []) n d h e is = (h.each 0 d (omega arith) (omega arith), tt)
taken_one states (a ∷ b ∷ ws) n d h e is = absurd (omega arith)

pub taken_two : (states : List WordState) (ws : List (List ℕ)) (n : ℕ) (d : WordState) → AreWordStates states ws → n ≡ min (length ws) (2 ^ 64 - 1) → n ≡ 2 → AreStatesOf (get_or states 0 d ∷ get_or states 1 d ∷ []) ws
taken_two states [] n d h e is = absurd (omega arith)
taken_two states (a ∷ []) n d h e is = absurd (omega arith)
taken_two states (a ∷ b ∷ []) n d h e is = (h.each 0 d (omega arith) (omega arith), (h.each 1 d (omega arith) (omega arith), tt))
taken_two states (a ∷ b ∷ c ∷ ws) n d h e is = absurd (omega arith)

pub taken_three : (states : List WordState) (ws : List (List ℕ)) (n : ℕ) (d : WordState) → AreWordStates states ws → n ≡ min (length ws) (2 ^ 64 - 1) → n ≡ 3
    → AreStatesOf (get_or states 0 d ∷ get_or states 1 d ∷ get_or states 2 d ∷ []) ws
taken_three states [] n d h e is = absurd (omega arith)
taken_three states (a ∷ []) n d h e is = absurd (omega arith)
taken_three states (a ∷ b ∷ []) n d h e is = absurd (omega arith)
taken_three states (a ∷ b ∷ c ∷ []) n d h e is = (h.each 0 d (omega arith) (omega arith), (h.each 1 d (omega arith) (omega arith), (h.each 2 d (omega arith) (omega arith), tt)))
taken_three states (a ∷ b ∷ c ∷ x ∷ ws) n d h e is = absurd (omega arith)

pub all_states : (states : List WordState) (ws : List (List ℕ)) → length states ≡ length ws → ((k : ℕ) (d : WordState) → k < length ws → IsWordState (get_or states k d) (get_or ws k [])) → AreStatesOf states ws
all_states [] [] e h = tt
all_states [] (w ∷ ws) e h = absurd (omega arith)
all_states (s ∷ ss) [] e h = absurd (omega arith)
all_states (s ∷ ss) (w ∷ ws) e h = (h 0 s (omega arith), all_states ss ws (omega arith) (λ k d lt. h (suc k) d (omega arith)))

pub taken_five : (states : List WordState) (ws : List (List ℕ)) (n : ℕ) → AreWordStates states ws → n ≡ min (length ws) (2 ^ 64 - 1) → n ≡ 5 → AreStatesOf states ws
taken_five states ws n h e is = all_states states ws (h.room ∙ omega arith) (λ k d lt. h.each k d (omega arith) lt)
