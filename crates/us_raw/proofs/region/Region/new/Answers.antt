use Rattle.us_raw.proofs.Fresh.{laid_fresh, lists_fresh, widths_fresh}
use Rattle.us_raw.proofs.region.Region.new.Goals as goal

pub invariant_of-result : goal.invariant_of-result
invariant_of-result c = laid_fresh c.args.plan.now c.lay.new.block c.lay.ensures

pub returns : goal.returns
returns c = (lists_fresh c.args.plan.now c.lay.new.block c.lay.ensures, widths_fresh c.args.plan.now c.lay.new.block c.lay.ensures)
