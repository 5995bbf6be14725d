use Rattle.us_expr.specs.Tree.{tree}
use Rattle.us_known.proofs.Loops.{adds-absent}
use Rattle.us_known.proofs.known_set.add_one.Goals as goal

pub returns-in_default : goal.returns-in_default
returns-in_default c = adds-absent c.args.nodes.now (tree c.args.e.now) c.args.flags.now c.requires.table c.requires.flags c.in_default.ensures.absent
