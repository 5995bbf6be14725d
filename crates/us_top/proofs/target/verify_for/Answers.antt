use Rattle.std.proofs.Common.{◌∙◌, ap, sym}
use Rattle.std.specs.Prelude.{Ok}
use Rattle.us_code.specs.Plain.{program_tree}
use Rattle.us_top.proofs.RunCodeLemmas.{inner_program, program_refused_by, unit_verified}
use Rattle.us_top.proofs.target.verify_for.Goals as goal

pub returns-in-Ok-clause-plain : goal.returns-in-Ok-clause-plain
returns-in-Ok-clause-plain c =
    unit_verified c.args.format (program_tree c.args.program) (c.unbound_means_untyped.ensures.unbroken (program_tree c.args.program) c.in-Ok.ensures.1)
    ∙ ap (λ p. Ok (record { target = c.args.format; program = program_tree p })) (sym c.in-Ok.ensures.0)

pub returns-in-Err-clause-plain : goal.returns-in-Err-clause-plain
returns-in-Err-clause-plain c = program_refused_by c.args.format c.args.program c.in-Err.fault _ c.verify_refusal.ensures c.in-Err.ensures

pub returns-in-Err-clause-refusal : goal.returns-in-Err-clause-refusal
returns-in-Err-clause-refusal c = inner_program c.in-Err.fault _ c.verify_refusal.ensures
