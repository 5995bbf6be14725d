use Rattle.us_known.proofs.Passing.{leads-trans}
use Rattle.us_known.proofs.rules.saturate.Goals as goal

pub loop-preserved : goal.loop-preserved
loop-preserved c = leads-trans c.args.rules.now c.args.known.now c.loop.known c.pass.new.known c.loop.invariant c.loop-test.ensures.leads

pub returns-clause-leads : goal.returns-clause-leads
returns-clause-leads c = leads-trans c.args.rules.now c.args.known.now c.loop.known c.pass.new.known c.loop.invariant c.loop-test.ensures.leads
