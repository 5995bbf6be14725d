use Rattle.std.proofs.Common.{map, sym, ◌∙◌}
use Rattle.std.proofs.lemmas.Result.{on_ok_weaker}
use Rattle.us_expr.specs.Tree.{tree}
use Rattle.us_invert.proofs.Beginning.{one-none, one-making, one-steps, one-others}
use Rattle.us_invert.proofs.starting.start_one.Goals as goal

pub returns-in-Some-clause-making : goal.returns-in-Some-clause-making
returns-in-Some-clause-making c =
    on_ok_weaker c.add_step.result (λ a. one-making c.args.nodes.now c.requires.table c.args.n c.requires.node (map tree c.args.levels.now) c.args.level_nodes.now c.requires.levels c.args.making.now c.requires.making
    c.add_step.new.making c.in-Some.source c.requires.free c.in-Some.ensures a) c.add_step.ensures

pub returns-in-Some-clause-steps : goal.returns-in-Some-clause-steps
returns-in-Some-clause-steps c =
    on_ok_weaker c.add_step.result (λ a. one-steps c.args.nodes.now c.requires.table c.args.n c.requires.node (map tree c.args.levels.now) c.args.level_nodes.now c.requires.levels c.args.making.now c.requires.making
    c.add_step.new.making c.in-Some.source c.requires.free c.in-Some.ensures a) c.add_step.ensures

pub returns-in-Some-clause-others : goal.returns-in-Some-clause-others
returns-in-Some-clause-others c =
    on_ok_weaker c.add_step.result (λ a. one-others c.args.nodes.now c.requires.table c.args.n c.requires.node (map tree c.args.levels.now) c.args.level_nodes.now c.requires.levels c.args.making.now c.requires.making
    c.add_step.new.making c.in-Some.source c.requires.free c.in-Some.ensures a) c.add_step.ensures

pub returns-in-None-clause-steps : goal.returns-in-None-clause-steps
returns-in-None-clause-steps c = one-none c.args.nodes.now c.requires.table c.args.n c.requires.node (map tree c.args.levels.now) c.args.level_nodes.now c.requires.levels c.args.making.now c.requires.making (sym c.in-None.is ∙ c.start_source.ensures)
