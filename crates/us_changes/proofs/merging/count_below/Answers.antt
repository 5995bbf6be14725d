use Rattle.std.proofs.Common.{pos, arith}
use Rattle.us_changes.proofs.MergeLemmas.{below_more}
use Rattle.us_changes.proofs.merging.count_below.Goals as goal

pub loop-k-init : goal.loop-k-init
loop-k-init c = λ j d lt. absurd (omega arith)

pub loop-k-preserved : goal.loop-k-preserved
loop-k-preserved c =
    below_more c.args.rest.now c.loop-k.k c.args.wanted (record { i = 0; j = 0; v = pos 0 }) c.loop-k-test.true (omega (arith, c.if-place_of-wanted.false, c.place_of.ensures)) c.loop-k.invariant

pub returns-then-place_of-wanted-clause-before : goal.returns-then-place_of-wanted-clause-before
returns-then-place_of-wanted-clause-before c = c.loop-k.invariant
