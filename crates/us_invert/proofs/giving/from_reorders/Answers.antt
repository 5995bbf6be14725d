use Rattle.std.proofs.Common.{map, sym, ◌∙◌}
use Rattle.us_format.specs.Declaration.{query_of}
use Rattle.us_format.specs.Known.{order_for}
use Rattle.us_known.specs.Table.{tree_at, trees}
use Rattle.us_invert.proofs.FromNodes.{same-self, orders-found, orders-next, orders-end}
use Rattle.us_invert.proofs.giving.from_reorders.Goals as goal

pub loop-number-init : goal.loop-number-init
loop-number-init c = same-self c.args.nodes.now c.args.numbers.now (λ known. order_for known (tree_at (trees c.args.nodes.now) c.args.e) c.args.v 0 (map query_of c.args.queries.now))

pub loop-number-preserved : goal.loop-number-preserved
loop-number-preserved c =
    orders-next c.args.nodes.now c.requires.table c.args.numbers.now c.args.e c.args.s c.args.v c.requires.index c.requires.variable
    (λ known. order_for known (tree_at (trees c.args.nodes.now) c.args.e) c.args.v 0 (map query_of c.args.queries.now))
    c.args.queries.now c.loop-number.number c.index-queries-number.result c.from_one_reorder-source.result c.loop-number.invariant c.loop-number-test.true c.index-queries-number.is c.from_one_reorder-source.ensures
    (sym c.is_some.ensures ∙ c.if-is_some.false)

pub returns-then-is_some : goal.returns-then-is_some
returns-then-is_some c =
    orders-found c.args.nodes.now c.requires.table c.args.numbers.now c.args.e c.args.s c.args.v c.requires.index c.requires.variable
    (λ known. order_for known (tree_at (trees c.args.nodes.now) c.args.e) c.args.v 0 (map query_of c.args.queries.now))
    c.args.queries.now c.loop-number.number c.index-queries-number.result c.from_one_reorder-source.result c.loop-number.invariant c.loop-number-test.true c.index-queries-number.is c.from_one_reorder-source.ensures
    (sym c.is_some.ensures ∙ c.if-is_some.true)

pub returns : goal.returns
returns c =
    orders-end c.args.nodes.now c.requires.table c.args.numbers.now c.args.e c.args.s c.args.v c.requires.index c.requires.variable
    (λ known. order_for known (tree_at (trees c.args.nodes.now) c.args.e) c.args.v 0 (map query_of c.args.queries.now))
    c.args.queries.now c.loop-number.number c.loop-number-test.false c.loop-number.invariant
