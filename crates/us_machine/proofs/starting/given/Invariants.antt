use Rattle.std.proofs.Common.{◌≡◌, map, take}
use Rattle.us_machine.specs.Walks.{bufs_of}
use Rattle.us_machine.proofs.starting.given.Given as goal

abbrev pub invariant-loop-name : goal.invariant-loop-name
invariant-loop-name l = l.buffers ≡ map (bufs_of l.tables l.region) (take l.name-index l.give)
