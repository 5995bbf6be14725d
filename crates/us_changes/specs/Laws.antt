-- A script and its inverse.
use Rattle.std.specs.Prelude.{◌≡◌, List, All}
use Rattle.us_matrix.specs.Map.{Map, IsMatrix}
use Rattle.us_script.specs.declared.step.Step.{Step}
use Rattle.us_script.specs.Steps.{IsInside, HasValue}
use Rattle.us_changes.specs.Edits.{edited, inverse}

-- behind a script and its inverse a matrix is what it was
abbrev pub InverseTakesBack : Type 0
InverseTakesBack =
    (m : Map) (steps : List Step) → IsMatrix m → All (IsInside m.rows m.cols) steps → All HasValue steps → edited (edited m steps) (inverse m steps) ≡ m
