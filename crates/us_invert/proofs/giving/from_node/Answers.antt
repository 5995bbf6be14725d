use Rattle.std.proofs.Common.{map, sym, subst}
use Rattle.us_format.specs.Declaration.{query_of}
use Rattle.us_invert.specs.declared.steps.Way.{Way}
use Rattle.us_known.specs.Table.{tree_at, trees}
use Rattle.us_invert.specs.Sources.{from_way, IsGiven}
use Rattle.us_invert.proofs.FromNodes.{sum-given, difference-given, quotient-given}
use Rattle.us_invert.proofs.giving.from_node.Goals as goal

pub returns-in-Sum : goal.returns-in-Sum
returns-in-Sum c =
    subst (λ (w : Way). IsGiven c.args.nodes.now c.args.numbers.now (λ known. from_way w (map query_of c.args.queries.now) known (tree_at (trees c.args.nodes.now) c.args.e) (tree_at (trees c.args.nodes.now) c.args.s)) c.from_sum.result) (sym c.in-Sum.is)
    (sum-given c.args.nodes.now c.requires.table c.args.numbers.now c.args.e c.args.s c.requires.wanted c.requires.node c.from_sum.result c.from_sum.ensures)

pub returns-in-Difference : goal.returns-in-Difference
returns-in-Difference c =
    subst (λ (w : Way). IsGiven c.args.nodes.now c.args.numbers.now (λ known. from_way w (map query_of c.args.queries.now) known (tree_at (trees c.args.nodes.now) c.args.e) (tree_at (trees c.args.nodes.now) c.args.s)) c.from_difference.result) (sym c.in-Difference.is)
    (difference-given c.args.nodes.now c.requires.table c.args.numbers.now c.args.e c.args.s c.requires.wanted c.requires.node c.from_difference.result c.from_difference.ensures)

pub returns-in-Quotient : goal.returns-in-Quotient
returns-in-Quotient c =
    subst (λ (w : Way). IsGiven c.args.nodes.now c.args.numbers.now (λ known. from_way w (map query_of c.args.queries.now) known (tree_at (trees c.args.nodes.now) c.args.e) (tree_at (trees c.args.nodes.now) c.args.s)) c.from_quotient.result) (sym c.in-Quotient.is)
    (quotient-given c.args.nodes.now c.requires.table c.args.numbers.now c.args.e c.args.s c.requires.wanted c.requires.node c.from_quotient.result c.from_quotient.ensures)

pub returns-in-Reorder : goal.returns-in-Reorder
returns-in-Reorder c =
    subst (λ (w : Way). IsGiven c.args.nodes.now c.args.numbers.now (λ known. from_way w (map query_of c.args.queries.now) known (tree_at (trees c.args.nodes.now) c.args.e) (tree_at (trees c.args.nodes.now) c.args.s)) c.from_reorder.result) (sym c.in-Reorder.is)
    (c.from_reorder.ensures)

pub returns-in-Schedule : goal.returns-in-Schedule
returns-in-Schedule c =
    subst (λ (w : Way). IsGiven c.args.nodes.now c.args.numbers.now (λ known. from_way w (map query_of c.args.queries.now) known (tree_at (trees c.args.nodes.now) c.args.e) (tree_at (trees c.args.nodes.now) c.args.s)) c.from_schedule.result) (sym c.in-Schedule.is)
    (c.from_schedule.ensures)
