-- What a script says, or the first fault in it.
use Rattle.std.specs.Prelude.{ℕ, ◌-◌, ◌&&◌, ◌||◌, not, Bool, List, [], ◌∷◌, ◌++◌, length, count_by, nat_le, ℤ, Result, Ok, Err, if◌then◌else◌, codes}
use Rattle.std.specs.Str.{bytes_eq}
use Rattle.us_mm_lines.specs.Lines.{lines, kept}
use Rattle.us_mm_lines.specs.Words.{words, is_size_word, size_of, is_value_word, value_of, is_value}
use Rattle.us_script.specs.declared.step.Step.{Step}
use Rattle.us_script.specs.declared.step.Step.TheVariants.{Set, Undo, Size}
use Rattle.us_script.specs.declared.fault.ScriptFault.{ScriptFault}
use Rattle.us_script.specs.declared.fault.ScriptFault.TheVariants.{Line, OutOfShape, ValueRange, Nothing, TooMany}
use Rattle.us_script.specs.Steps.{is_size, lacks_set, sets_left}

infixl 10 ◌>>=◌
abbrev pub ◌>>=◌ : {A B : Type 0} → Result A ScriptFault → (A → Result B ScriptFault) → Result B ScriptFault
(Ok x) >>= f = f x
(Err e) >>= f = Err e

-- a set by its numbers: row and column from 1
abbrev pub set_numbers : ℕ → ℕ → ℕ → ℕ → ℕ → ℤ → Result Step ScriptFault
set_numbers line rows cols i j v =
    if not (nat_le 1 i && nat_le i rows && (nat_le 1 j && nat_le j cols)) then Err (OutOfShape line)
    else (if not (is_value v) then Err (ValueRange line)
    else Ok (Set (i - 1) (j - 1) v))

-- a set by its words: row, column and value
abbrev pub set_words : ℕ → ℕ → ℕ → List (List ℕ) → Result Step ScriptFault
set_words line rows cols (i ∷ j ∷ v ∷ []) =
    if is_size_word i && is_size_word j && is_value_word v then set_numbers line rows cols (size_of i) (size_of j) (value_of v) else Err (Line line)
set_words line rows cols _ = Err (Line line)

-- a step of one word
abbrev pub alone : ℕ → List (List ℕ) → Step → Result Step ScriptFault
alone line [] step = Ok step
alone line (word ∷ more) step = Err (Line line)

abbrev pub step_words : ℕ → ℕ → ℕ → List (List ℕ) → Result Step ScriptFault
step_words line rows cols [] = Err (Line line)
step_words line rows cols (name ∷ more) =
    if bytes_eq name (codes "set") then set_words line rows cols more
    else (if bytes_eq name (codes "undo") then alone line more Undo
    else (if bytes_eq name (codes "size") then alone line more (Size line)
    else Err (Line line)))

-- the step of a line by itself, for a shape
unfoldable pub step_of : ℕ → ℕ → ℕ × List ℕ → Result Step ScriptFault
step_of rows cols line = step_words line.0 rows cols (words line.1)

-- there are 1048576 steps before it, or it is a `size` and there are 256 before it
abbrev pub is_too_many : List Step → Step → Bool
is_too_many before step = nat_le 1048576 (length before) || (is_size step && nat_le 256 (count_by is_size before))

-- the step where it may stand behind those before it
abbrev pub allowed : List Step → ℕ → Step → Result Step ScriptFault
allowed before line step =
    if lacks_set (sets_left 0 before) step then Err (Nothing line)
    else (if is_too_many before step then Err (TooMany line) else Ok step)

-- the step of a line behind the steps of the lines before it
unfoldable pub step_at : ℕ → ℕ → List Step → ℕ × List ℕ → Result Step ScriptFault
step_at rows cols before line = step_of rows cols line >>= allowed before line.0

-- the steps before some lines, and those of the lines
unfoldable pub read_steps : ℕ → ℕ → List Step → List (ℕ × List ℕ) → Result (List Step) ScriptFault
read_steps rows cols before [] = Ok before
read_steps rows cols before (line ∷ more) = step_at rows cols before line >>= λ step. read_steps rows cols (before ++ step ∷ []) more

-- the steps of a script for a matrix of so many rows and columns, or the first fault in it
unfoldable pub reads_script : ℕ → ℕ → List ℕ → Result (List Step) ScriptFault
reads_script rows cols bytes = read_steps rows cols [] (kept 1 (lines bytes))
