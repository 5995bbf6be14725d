-- Tables of sizes, and the smallest of what they list.
use Rattle.std.specs.Prelude.{ℕ, List, [], ◌∷◌, ◌++◌, map, nat_le, codes, if◌then◌else◌, Option, Some, None}
use Rattle.std.specs.Fmt.{decimal}
use Rattle.std.specs.List.{find, flat_map}
use Rattle.us_format.specs.Reading.{limit}
use Rattle.us_advise.specs.Least.{is_least}

-- a size, or `over` where it is above the limit
abbrev pub size_text : ℕ → List ℕ
size_text n = if nat_le n limit then decimal n else codes "over"

-- what stands behind the label of a line: a blank, the size, and the end of the line
abbrev pub ending : ℕ → List ℕ
ending n = codes " " ++ (size_text n ++ (10 ∷ []))

-- the first whose size is within the limit and no greater than any other
abbrev pub smallest : {A : Type 0} → (A → ℕ) → List A → Option A
smallest size xs = find (λ x. is_least (map size xs) (size x)) xs

module _ {A : Type 0} (label : A → List ℕ) (size : A → ℕ) where
  abbrev pub line : A → List ℕ
  line x = label x ++ ending (size x)

  abbrev pub best_line : Option A → List ℕ
  best_line None = codes "best none\n"
  best_line (Some x) = codes "best " ++ line x

  -- a line for each, and the smallest behind them
  abbrev pub table : List A → List ℕ
  table xs = flat_map line xs ++ best_line (smallest size xs)
