-- What is known of a line that isn't ended yet, and of its words.
use Rattle.std.specs.Prelude.{◌≡◌, ℕ, ◌-◌, ◌^◌, ◌<◌, ◌==◌, not, min, Bool, true, false, List, [], ◌∷◌, ◌++◌, length, take, slice_index, slice_index_or, Option, Some, None, MatchOption, if◌then◌else◌}
use Rattle.std.specs.List.{slice_split}
use Rattle.std.specs.Str.{all_ascii_digits}
use Rattle.std.specs.Str.Parse.{digits_value, without_leading_sign, starts_with_minus}
use Rattle.std.specs.Str.Lines.{strip_carriage_return}
use Rattle.us_mm_lines.specs.declared.word_state.WordState.{WordState}
use Rattle.us_mm_lines.specs.declared.line_state.LineState.{LineState}
use Rattle.us_mm_lines.specs.Lines.{is_blank}
use Rattle.us_mm_lines.specs.Words.{words, is_size_word, size_of, is_value_word}

-- the number that digits write, or the largest u64 where it is larger; none where another byte is among them
abbrev pub number_in : List ℕ → Option ℕ
number_in ds = if all_ascii_digits ds then Some (min (digits_value 10 ds) (2 ^ 64 - 1)) else None

-- the same, and none where there is no byte
abbrev pub numeral_in : List ℕ → Option ℕ
numeral_in ds = if length ds == 0 then None else number_in ds

-- the first bytes of a word, how many it has, and the number of what stands behind its sign
pub record IsWordState (s : WordState) (w : List ℕ) : Type 0 where
  pub room : length s.front ≡ 15
  pub front : take (length w) s.front ≡ take 15 w
  pub bytes : s.bytes ≡ min (length w) (2 ^ 64 - 1)
  pub number : s.number ≡ number_in (without_leading_sign w)

-- the number of a size word, or the largest u64 where it is larger; none where the word is another
abbrev pub IsSizeOf : List ℕ → Option ℕ → Type 0
IsSizeOf w o = MatchOption o (is_size_word w ≡ false) (λ n. (is_size_word w ≡ true) × (n ≡ min (size_of w) (2 ^ 64 - 1)))

-- the sign of a value word and its number without it, or the largest u64; none where the word is another
abbrev pub IsValueOf : List ℕ → Option (Bool × ℕ) → Type 0
IsValueOf w o =
    MatchOption o (is_value_word w ≡ false) (λ r. (is_value_word w ≡ true) × (r.0 ≡ starts_with_minus w) × (r.1 ≡ min (digits_value 10 (without_leading_sign w)) (2 ^ 64 - 1)))

-- the states of all words
abbrev pub AreStatesOf : List WordState → List (List ℕ) → Type 0
AreStatesOf [] [] = Unit {0}
AreStatesOf (s ∷ ss) (w ∷ ws) = IsWordState s w × AreStatesOf ss ws
AreStatesOf _ _ = ⊥

-- the states of the first five words
pub record AreWordStates (states : List WordState) (ws : List (List ℕ)) : Type 0 where
  pub room : length states ≡ 5
  pub each : (k : ℕ) (d : WordState) → k < 5 → k < length ws → IsWordState (slice_index_or states k d) (slice_index_or ws k [])

-- the parts of a line between blanks: those that are ended, and the one that isn't; how many words there are, and the first five
pub record IsPlainState (s : LineState) (line : List ℕ) : Type 0 where
  pub begun : s.begun ≡ not (length line == 0)
  pub comment : s.comment ≡ (slice_index line 0 == 37)
  pub ended : List (List ℕ)
  pub unended : List ℕ
  pub parts : slice_split is_blank line ≡ ended ++ unended ∷ []
  pub in_word : s.in_word ≡ not (length unended == 0)
  pub count : s.count ≡ min (length (words line)) (2 ^ 64 - 1)
  pub states : AreWordStates s.words (words line)

-- the rest of a text behind its last line feed, which may end in a carriage return
pub record IsLineState (s : LineState) (rest : List ℕ) : Type 0 where
  pub returned : s.returned ≡ (slice_index rest (length rest - 1) == 13)
  pub plain : IsPlainState s (strip_carriage_return rest)
