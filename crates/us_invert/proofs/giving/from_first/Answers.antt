use Rattle.std.proofs.Common.{map, sym, ◌∙◌}
use Rattle.us_format.specs.Declaration.{query_of}
use Rattle.us_known.specs.Table.{tree_at, trees}
use Rattle.us_invert.specs.Sources.{from_way}
use Rattle.us_invert.proofs.FromNodes.{same-self, firsts-found, firsts-next, firsts-end}
use Rattle.us_invert.proofs.giving.from_first.Goals as goal

pub loop-s-init : goal.loop-s-init
loop-s-init c = same-self c.args.nodes.now c.args.numbers.now _

pub loop-s-preserved : goal.loop-s-preserved
loop-s-preserved c =
    firsts-next c.args.nodes.now c.requires.table c.args.numbers.now (map query_of c.args.queries.now) c.args.e (λ known. from_way c.args.way (map query_of c.args.queries.now) known (tree_at (trees c.args.nodes.now) c.args.e))
    c.loop-s.s c.from_node-source.result c.loop-s-test.true c.loop-s.invariant c.from_node-source.ensures (sym c.is_some.ensures ∙ c.if-is_some.false)

pub returns-then-is_some : goal.returns-then-is_some
returns-then-is_some c =
    firsts-found c.args.nodes.now c.requires.table c.args.numbers.now (map query_of c.args.queries.now) c.args.e (λ known. from_way c.args.way (map query_of c.args.queries.now) known (tree_at (trees c.args.nodes.now) c.args.e))
    c.loop-s.s c.from_node-source.result c.loop-s-test.true c.loop-s.invariant c.from_node-source.ensures (sym c.is_some.ensures ∙ c.if-is_some.true)

pub returns : goal.returns
returns c =
    firsts-end c.args.nodes.now c.requires.table c.args.numbers.now (map query_of c.args.queries.now) c.args.e (λ known. from_way c.args.way (map query_of c.args.queries.now) known (tree_at (trees c.args.nodes.now) c.args.e))
    c.loop-s.s c.loop-s-test.false c.loop-s.invariant
