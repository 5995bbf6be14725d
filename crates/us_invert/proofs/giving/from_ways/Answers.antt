use Rattle.std.proofs.Common.{get_or, map, sym, ◌∙◌}
use Rattle.std.proofs.lemmas.List.{get_or_default}
use Rattle.us_format.specs.Declaration.{query_of}
use Rattle.us_invert.specs.declared.steps.Way.TheVariants.{Sum}
use Rattle.us_invert.proofs.FromNodes.{same-self, ways-found, ways-next, ways-end, operands-given}
use Rattle.us_invert.proofs.giving.from_ways.Goals as goal

pub loop-way-init : goal.loop-way-init
loop-way-init c = same-self c.args.nodes.now c.args.numbers.now _

pub loop-way-preserved : goal.loop-way-preserved
loop-way-preserved c =
    ways-next c.args.nodes.now c.requires.table c.args.numbers.now (map query_of c.args.queries.now) c.args.e c.args.ways.now c.loop-way.way-index (get_or c.args.ways.now c.loop-way.way-index Sum) c.from_first-source.result
    c.loop-way-test.true (get_or_default c.args.ways.now c.loop-way.way-index Sum (get_or c.args.ways.now c.loop-way.way-index Sum) c.loop-way-test.true) c.loop-way.invariant c.from_first-source.ensures (sym c.is_some.ensures ∙ c.if-is_some.false)

pub returns-then-is_some : goal.returns-then-is_some
returns-then-is_some c =
    ways-found c.args.nodes.now c.requires.table c.args.numbers.now (map query_of c.args.queries.now) c.args.e c.args.ways.now c.loop-way.way-index (get_or c.args.ways.now c.loop-way.way-index Sum) c.from_first-source.result
    c.loop-way-test.true (get_or_default c.args.ways.now c.loop-way.way-index Sum (get_or c.args.ways.now c.loop-way.way-index Sum) c.loop-way-test.true) c.loop-way.invariant c.from_first-source.ensures (sym c.is_some.ensures ∙ c.if-is_some.true)

pub returns : goal.returns
returns c =
    ways-end c.args.nodes.now c.requires.table c.args.numbers.now (map query_of c.args.queries.now) c.args.e c.args.ways.now c.loop-way.way-index c.from_operands.result c.loop-way-test.false c.loop-way.invariant
    (operands-given c.args.nodes.now c.requires.table c.args.numbers.now c.args.e c.requires.wanted c.from_operands.result c.from_operands.ensures)
