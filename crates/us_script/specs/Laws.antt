-- The text of sets is read as these sets.
use Rattle.std.specs.Prelude.{◌≡◌, ℕ, ◌^◌, ◌<◌, ◌≤◌, List, length, Ok}
use Rattle.us_script.specs.declared.step.Step.{Step}
use Rattle.us_script.specs.Steps.{AreSets}
use Rattle.us_script.specs.Reads.{reads_script}
use Rattle.us_script.specs.Text.{script_text}

-- the text of at most 1048576 sets that lie in a shape is read for this shape as these sets
abbrev pub TextReads : Type 0
TextReads =
    (rows cols : ℕ) (steps : List Step) → rows < 2 ^ 32 → cols < 2 ^ 32 → AreSets rows cols steps → length steps ≤ 1048576
    → reads_script rows cols (script_text steps) ≡ Ok steps
