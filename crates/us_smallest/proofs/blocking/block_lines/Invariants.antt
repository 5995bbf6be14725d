use Rattle.std.proofs.Common.{◌≡◌, ◌++◌, ℕ, drop, map}
use Rattle.std.specs.List.{flat_map}
use Rattle.us_advise.specs.Least.{told}
use Rattle.us_smallest.specs.declared.sides.Sides.{Sides}
use Rattle.us_smallest.specs.Blocking.{all_sides, sides_text}
use Rattle.us_smallest.specs.Tables.{line}
use Rattle.us_smallest.proofs.blocking.block_lines.Given as goal

abbrev pub invariant-loop-place : goal.invariant-loop-place
invariant-loop-place l =
    (size : Sides → ℕ) → l.sizes ≡ map (λ s. told (size s)) all_sides
    → l.out.items ++ flat_map (line sides_text size) (drop l.place all_sides) ≡ flat_map (line sides_text size) all_sides
