use Rattle.std.proofs.Common.{◌≡◌, ℤ, List, map, take}
use Rattle.us_expr.specs.Tree.{tree}
use Rattle.us_format.specs.Matrix.{Entry}
use Rattle.us_build.specs.Levels.{AreValues, items_over}
use Rattle.us_build.proofs.items.items_of.Given as goal

abbrev pub invariant-loop-k : goal.invariant-loop-k
invariant-loop-k l = (f : Entry → List ℤ) → AreValues f l.variables l.entries → l.items.items ≡ items_over (map tree l.exprs) l.levels f (take l.k l.entries)
