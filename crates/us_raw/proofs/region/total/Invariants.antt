use Rattle.std.proofs.Common.{◌≡◌, ◌+◌, ◌*◌, ◌≤◌}
use Rattle.us_raw.specs.Plan.{start_of}
use Rattle.us_raw.proofs.region.total.Given as goal

abbrev pub invariant-loop-index : goal.invariant-loop-index
invariant-loop-index l = (l.total ≡ start_of l.plan l.index) × (l.total ≤ 3145728 + l.index * 536870920)
