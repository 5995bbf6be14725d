use Rattle.us_code.specs.Plain.{program_tree}
use Rattle.us_decl.specs.Views.{decl_view}
use Rattle.us_unit.specs.Units.{unit_view}
use Rattle.us_top.specs.Views.{target_of}
use Rattle.us_top.proofs.RunCodeLemmas.{inner_target, target_refused_by, unit_accepted}
use Rattle.us_top.proofs.target.judge_unit.Goals as goal

pub returns-in-Ok-clause-plain : goal.returns-in-Ok-clause-plain
returns-in-Ok-clause-plain c =
    unit_accepted (decl_view c.args.unit.target) c.in-Ok.format (program_tree c.args.unit.program) (target_of c.verify_for.result) c.in-Ok.ensures.is c.in-Ok.ensures.accepted c.verify_for.ensures.plain

pub returns-in-Err-clause-plain : goal.returns-in-Err-clause-plain
returns-in-Err-clause-plain c = target_refused_by (unit_view c.args.unit) c.in-Err.fault _ c.target_refusal.ensures c.in-Err.ensures.refused

pub returns-in-Err-clause-refusal : goal.returns-in-Err-clause-refusal
returns-in-Err-clause-refusal c = inner_target c.in-Err.fault _ c.target_refusal.ensures
