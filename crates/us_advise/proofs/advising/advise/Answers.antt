use Rattle.std.proofs.Common.{map, ◌∙◌}
use Rattle.us_advise.specs.Least.{size_in}
use Rattle.us_advise.proofs.LeastFound.{by-told-of, least-is}
use Rattle.us_advise.proofs.advising.advise.Goals as goal

pub returns-clause-best : goal.returns-clause-best
returns-clause-best c =
    least-is (map (size_in c.args.matrix.now) c.args.formats.now) c.least_of-best.result
    (by-told-of (size_in c.args.matrix.now) c.args.formats.now c.as_slice.result.now c.least_of-best.result (c.as_slice.ensures ∙ c.in_ok-sizes.ensures) c.least_of-best.ensures)

pub returns-clause-smallest : goal.returns-clause-smallest
returns-clause-smallest c =
    by-told-of (size_in c.args.matrix.now) c.args.formats.now c.as_slice.result.now c.least_of-best.result (c.as_slice.ensures ∙ c.in_ok-sizes.ensures) c.least_of-best.ensures
