use Rattle.us_format.specs.Program.{plain_shape}
use Rattle.us_inputs.specs.Views.{contained_of}
use Rattle.us_top.specs.Views.{made_of, ran_view, target_view}
use Rattle.us_top.proofs.RunCodeLemmas.{ran_ends, ran_result, same_shape}
use Rattle.us_top.proofs.result.result_of.Goals as goal

pub returns-in-Ok-clause-plain : goal.returns-in-Ok-clause-plain
returns-in-Ok-clause-plain c =
    ran_result c.args.budget (target_view c.args.target) (contained_of c.args.source.now) (ran_view c.in-Ok.ran) (plain_shape c.shape-shape.result) (made_of c.put_together.result) c.in-Ok.ensures.plain
    (same_shape c.shape-shape.result _ _ c.matrix.ensures c.shape-shape.ensures.value)
    c.put_together.ensures.plain

pub returns-in-Err-clause-plain : goal.returns-in-Err-clause-plain
returns-in-Err-clause-plain c = ran_ends c.args.budget (target_view c.args.target) (contained_of c.args.source.now) c.in-Err.status c.in-Err.ensures.plain
