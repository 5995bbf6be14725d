-- The text of a script.
use Rattle.std.specs.Prelude.{ℕ, ◌+◌, List, [], ◌∷◌, ◌++◌, flat_map, ℤ, codes}
use Rattle.std.specs.Fmt.{decimal, signed_decimal}
use Rattle.us_script.specs.declared.step.Step.{Step}
use Rattle.us_script.specs.declared.step.Step.TheVariants.{Set, Undo, Size}

-- row and column from 1, and the value
abbrev pub set_line : ℕ → ℕ → ℤ → List ℕ
set_line i j v = codes "set" ++ 32 ∷ decimal (i + 1) ++ 32 ∷ decimal (j + 1) ++ 32 ∷ signed_decimal v ++ 10 ∷ []

abbrev pub step_line : Step → List ℕ
step_line (Set i j v) = set_line i j v
step_line Undo = codes "undo" ++ 10 ∷ []
step_line (Size line) = codes "size" ++ 10 ∷ []

unfoldable pub script_text : List Step → List ℕ
script_text steps = flat_map step_line steps
