use Rattle.std.proofs.Common.{◌+◌, ◌≤◌, length}
use Rattle.us_script.proofs.ReadLemmas.{IsReadTo}
use Rattle.us_script.proofs.parsing.parse_script.Given as goal

abbrev pub invariant-loop-rest : goal.invariant-loop-rest
invariant-loop-rest l = IsReadTo l.shape.rows l.shape.cols l.bytes l.counted l.number l.rest × (l.number + length l.rest ≤ length l.bytes)

abbrev pub decreases-loop-rest : goal.decreases-loop-rest
decreases-loop-rest l = length l.rest
