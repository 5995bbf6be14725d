-- A number at the front of a line, and an entry line, as digits and single blanks write them.
use Rattle.std.specs.Prelude.{ℕ, ◌<◌, ◌≤◌, ◌≡◌, ◌∷◌, [], ◌^◌, ◌-◌, min, Bool, true, List, length, take, drop, slice_index}
use Rattle.std.specs.Char.{is_ascii_digit}
use Rattle.std.specs.Str.Parse.{digits_value, starts_with_minus, without_leading_sign}
use Rattle.us_mm_lines.specs.Lines.{is_blank}
use Rattle.us_mm_lines.specs.Words.{words, is_size_word, size_of, is_value_word}

-- digits stand below the place, and behind them a blank or nothing
pub record IsNumberBefore (line : List ℕ) (number place : ℕ) : Type 0 where
  pub within : place ≤ length line
  pub digits : (k : ℕ) → k < place → is_ascii_digit (slice_index line k) ≡ true
  pub ends : place < length line → is_blank (slice_index line place) ≡ true
  pub value : number ≡ min (digits_value 10 (take place line)) (2 ^ 64 - 1)

-- three words: the row, the column and the value, whose numbers stop at the largest u64
pub record IsEntryLine (line : List ℕ) (row col : ℕ) (minus : Bool) (size : ℕ) : Type 0 where
  pub first : List ℕ
  pub second : List ℕ
  pub third : List ℕ
  pub three : words line ≡ first ∷ second ∷ third ∷ []
  pub row_word : is_size_word first ≡ true
  pub col_word : is_size_word second ≡ true
  pub value_word : is_value_word third ≡ true
  pub row_is : row ≡ min (size_of first) (2 ^ 64 - 1)
  pub col_is : col ≡ min (size_of second) (2 ^ 64 - 1)
  pub minus_is : minus ≡ starts_with_minus third
  pub size_is : size ≡ min (digits_value 10 (without_leading_sign third)) (2 ^ 64 - 1)

-- a number in front, and words behind it
pub record IsNumeralIn (line : List ℕ) (number : ℕ) (rest : List ℕ) : Type 0 where
  pub place : ℕ
  pub some : 0 < place
  pub before : IsNumberBefore line number place
  pub behind : words rest ≡ words (drop place line)
