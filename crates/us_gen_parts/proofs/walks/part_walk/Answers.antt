use Rattle.std.proofs.Common.{◌-◌}
use Rattle.us_format.specs.Program.{plain_shape}
use Rattle.us_judge.specs.Format.{part_at}
use Rattle.us_judge.specs.Views.{declaration_of}
use Rattle.us_gen_parts.proofs.PartsPassed.{walk-is}
use Rattle.us_gen_parts.proofs.walks.part_walk.Goals as goal

pub returns : goal.returns
returns c =
    walk-is c.args.start (plain_shape c.args.shape) (part_at (declaration_of c.args.format.now) (c.args.number - 1)) _ c.plan-plan.result.now c.steps-planned.result.now
    c.in_ok-places.ensures c.plan-plan.ensures c.in_ok-steps.ensures.items c.steps-planned.ensures.numbered c.steps-planned.ensures.recovers c.rows_at-row.ensures c.cols_at-col.ensures
