use Rattle.std.proofs.Common.{length, map, arith}
use Rattle.std.proofs.lemmas.List.{length-map}
use Rattle.us_expr.specs.Tree.{tree}
use Rattle.us_format.specs.Declaration.{query_of}
use Rattle.us_invert.specs.Made.{made_steps}
use Rattle.us_invert.proofs.Beginning.{all-steps}
use Rattle.us_invert.proofs.starting.make.Goals as goal

pub returns-clause-steps : goal.returns-clause-steps
returns-clause-steps c =
    all-steps c.args.nodes.now (map tree c.args.levels.now) (map query_of c.args.queries.now) (length c.args.levels.now) (made_steps c.args.nodes.now c.start.new.making) (made_steps c.args.nodes.now c.passes.new.making)
    (omega (arith, length-map c.args.levels.now tree)) c.requires.trees c.in_ok-start.ensures.steps c.in_ok-passes.ensures.steps
