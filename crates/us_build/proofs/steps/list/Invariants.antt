use Rattle.std.proofs.Common.{◌≡◌, ℕ, ◌++◌, map, take, drop}
use Rattle.us_format.specs.declared.Kind.TheVariants.{Listed}
use Rattle.us_build.specs.Items.{IsAscending, rows_at, stepped}
use Rattle.us_build.proofs.steps.list.Given as goal

abbrev pub invariant-loop-i : goal.invariant-loop-i
invariant-loop-i l =
    (level : ℕ) → IsAscending (rows_at level l.initial.items) → l.items ≡ map (stepped Listed 0 level (rows_at level l.initial.items)) (take l.i l.initial.items) ++ drop l.i l.initial.items
