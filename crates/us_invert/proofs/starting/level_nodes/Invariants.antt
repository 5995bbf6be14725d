use Rattle.std.proofs.Common.{map, take}
use Rattle.us_expr.specs.Tree.{tree}
use Rattle.us_invert.specs.Start.{AreNodesOf}
use Rattle.us_invert.proofs.starting.level_nodes.Given as goal

abbrev pub invariant-loop-level : goal.invariant-loop-level
invariant-loop-level l = AreNodesOf l.nodes (map tree (take l.level-index l.levels)) l.found.items
