-- What is known of a file by its first lines, at each stage of reading.
use Rattle.std.specs.Prelude.{◌≡◌, ℕ, Bool, true, false, List, []}
use Rattle.us_mm.specs.declared.stage.Stage.{Stage}
use Rattle.us_mm.specs.declared.stage.Stage.TheVariants as stage
use Rattle.us_mm.specs.declared.stage.Head.TheVariants as head
use Rattle.us_mm.specs.Known.{HasForm, HasEntries, HasArray, HasValues}

-- what is known of the lines that are ended
abbrev pub Knows : Stage → List (List ℕ) → Type 0
Knows (stage.Head head.CoordinateHeader) ls = ls ≡ []
Knows (stage.Head (head.CoordinateSize form)) ls = HasForm form ls
Knows (stage.Head head.ArrayHeader) ls = ls ≡ []
Knows (stage.Head head.ArraySize) ls = HasArray ls
Knows (stage.Entries e) ls = HasEntries e ls
Knows (stage.Values v) ls = HasValues v ls

-- whether an operand file is read
abbrev pub is_array : Stage → Bool
is_array (stage.Head head.CoordinateHeader) = false
is_array (stage.Head (head.CoordinateSize form)) = false
is_array (stage.Head head.ArrayHeader) = true
is_array (stage.Head head.ArraySize) = true
is_array (stage.Entries e) = false
is_array (stage.Values v) = true
