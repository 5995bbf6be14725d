-- The lines of a file, numbered, and those of them that are read.
use Rattle.std.specs.Prelude.{ℕ, ◌==◌, ◌||◌, not, Bool, List, [], ◌∷◌, length, filter, slice_index, if◌then◌else◌}
use Rattle.std.specs.List.{slice_split, enumerate_from, list_all}
use Rattle.std.specs.Str.Lines.{strip_carriage_return}

-- A line feed ends a line, and one carriage return at a line's end is dropped. What follows the last line feed is
-- a line unless it is empty.
abbrev pub lines_of_parts : List (List ℕ) → List (List ℕ)
lines_of_parts [] = []
lines_of_parts (x ∷ []) = if length x == 0 then [] else strip_carriage_return x ∷ []
lines_of_parts (x ∷ y ∷ more) = strip_carriage_return x ∷ lines_of_parts (y ∷ more)

unfoldable pub lines : List ℕ → List (List ℕ)
lines bytes = lines_of_parts (slice_split (λ b. b == 10) bytes)

-- a space or a tab
abbrev pub is_blank : ℕ → Bool
is_blank b = b == 32 || b == 9

-- a comment, or a line that is empty or of blanks alone
abbrev pub is_skipped : List ℕ → Bool
is_skipped line = slice_index line 0 == 37 || list_all is_blank line

-- the lines that aren't skipped, each with its number, where the first has the number n
unfoldable pub kept : ℕ → List (List ℕ) → List (ℕ × List ℕ)
kept n ls = filter (λ line. not (is_skipped line.1)) (enumerate_from n ls)
