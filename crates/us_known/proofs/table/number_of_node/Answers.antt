use Rattle.us_known.proofs.NodeTrees.{number-of-node, absent}
use Rattle.us_known.proofs.Finding.{some-weaker, none-weaker}
use Rattle.us_known.proofs.table.number_of_node.Goals as goal

pub returns-clause-found : goal.returns-clause-found
returns-clause-found c = some-weaker c.find.result _ _ (λ n h. number-of-node c.args.nodes.now c.requires.table n c.args.node h) c.find.ensures.found

pub returns-clause-absent : goal.returns-clause-absent
returns-clause-absent c = none-weaker c.find.result _ _ (absent c.args.nodes.now c.requires.table c.args.node c.requires.below) c.find.ensures.absent
