use Rattle.us_decl.specs.Declares.{Declared}
use Rattle.us_advise.specs.Least.{size_in, told}
use Rattle.us_advise.proofs.Listed.{mapped-next}
use Rattle.us_advise.proofs.advising.sizes_of.Goals as goal

pub loop-format-preserved : goal.loop-format-preserved
unfolding size_in
loop-format-preserved c =
    mapped-next (λ (d : Declared). told (size_in c.args.matrix.now d)) c.args.formats.now c.loop-format.format-index c.format-item.result c.loop-format.sizes c.push.new.self c.in_ok-size_of.field-0
    c.loop-format-test.true c.format-item.is c.loop-format.invariant c.in_ok-size_of.ensures c.in_ok-push.ensures.ok
