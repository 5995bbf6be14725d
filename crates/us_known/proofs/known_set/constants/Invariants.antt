use Rattle.std.proofs.Common.{◌≡◌, map, take}
use Rattle.us_known.specs.Flags.{is_number}
use Rattle.us_known.proofs.known_set.constants.Given as goal

abbrev pub invariant-loop-node : goal.invariant-loop-node
invariant-loop-node l = l.flags.items ≡ map is_number (take l.node-index l.nodes)
