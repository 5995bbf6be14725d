use Rattle.us_build_limits.proofs.Unordered.{sort-nothing}
use Rattle.us_build_limits.proofs.laws.phases_sort_nothing.Goals as goal

pub returns : goal.returns
returns c = sort-nothing
