use Rattle.us_top.specs.Views.{target_of}
use Rattle.us_top.proofs.RunCodeLemmas.{inner_code, unit_read, unit_refused}
use Rattle.us_top.proofs.target.target_in.Goals as goal

pub returns-in-Ok-clause-plain : goal.returns-in-Ok-clause-plain
returns-in-Ok-clause-plain c = unit_read c.args.bytes.now c.in-Ok.unit (target_of c.judge_unit.result) c.in-Ok.ensures.is c.judge_unit.ensures.plain

pub returns-in-Err-clause-plain : goal.returns-in-Err-clause-plain
returns-in-Err-clause-plain c = unit_refused c.args.bytes.now c.in-Err.fault _ c.code_refusal.ensures c.in-Err.ensures.is

pub returns-in-Err-clause-refusal : goal.returns-in-Err-clause-refusal
returns-in-Err-clause-refusal c = inner_code c.in-Err.fault _ c.code_refusal.ensures
