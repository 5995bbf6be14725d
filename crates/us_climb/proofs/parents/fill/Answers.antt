use Rattle.std.proofs.Common.{◌-◌, ◌≤◌, length, arith, rules}
use Rattle.us_climb.specs.Parents.{none}
use Rattle.us_climb.proofs.Tables.{making-more, below-end}
use Rattle.us_climb.proofs.parents.fill.Goals as goal

pub loop-p-preserved : goal.loop-p-preserved
loop-p-preserved c =
    making-more c.args.starts.now (length c.args.table.now) c.loop-p.p c.loop-p.table c.loop-p.skips c.claim.new.table c.claim.new.skips c.place_of-low.result c.place_of-high.result
    c.loop-p.auto.p c.loop-p-test.true (let few : c.loop-p.p ≤ none = search rules in few) c.loop-p.invariant
    c.place_of-low.ensures
    c.place_of-high.ensures
    c.claim.ensures.skips c.claim.ensures.len c.claim.ensures.claimed

pub returns-clause-filled : goal.returns-clause-filled
returns-clause-filled c =
    below-end c.args.starts.now (c.loop-p.p - 1) c.loop-p.table (omega (arith, c.loop-p-test.false)) c.loop-p.invariant.short c.loop-p.invariant.below
