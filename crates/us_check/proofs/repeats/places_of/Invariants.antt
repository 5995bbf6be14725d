use Rattle.std.proofs.Common.{◌≡◌, take}
use Rattle.us_check.specs.Repeats.{found_entries, places_from}
use Rattle.us_check.proofs.repeats.places_of.Given as goal

abbrev pub invariant-loop-index : goal.invariant-loop-index
invariant-loop-index l = l.places.items ≡ places_from 0 (found_entries (take l.index l.found))
