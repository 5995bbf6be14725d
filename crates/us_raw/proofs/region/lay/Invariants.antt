use Rattle.std.proofs.Common.{◌≡◌, ◌+◌, ◌*◌, ◌≤◌}
use Rattle.us_raw.specs.Plan.{start_of, IsTable}
use Rattle.us_raw.proofs.region.lay.Given as goal

abbrev pub invariant-loop-index : goal.invariant-loop-index
invariant-loop-index l = IsTable l.plan l.block l.index × (l.start ≡ start_of l.plan l.index) × (l.start ≤ 3145728 + l.index * 536870920)
