use Rattle.us_build.proofs.Sorting.{less-is_lower}
use Rattle.us_build.proofs.items.compare.Goals as goal

pub returns : goal.returns
returns c = less-is_lower c.args.a.now.coordinates c.args.b.now.coordinates c.cmp.result c.cmp.ensures
