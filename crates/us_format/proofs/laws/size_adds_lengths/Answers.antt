use Rattle.us_format.proofs.Sizes.{size-adds-lengths}
use Rattle.us_format.proofs.laws.size_adds_lengths.Goals as goal

pub returns : goal.returns
returns c = size-adds-lengths
