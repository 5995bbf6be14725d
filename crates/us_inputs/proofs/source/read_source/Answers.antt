use Rattle.std.proofs.Common.{sym, subst}
use Rattle.std.proofs.lemmas.Option.{IfSome_then}
use Rattle.us_status.specs.Answers.{IsStep}
use Rattle.us_inputs.specs.Sources.{held_step}
use Rattle.us_status.specs.Answers.{then_step}
use Rattle.us_inputs.specs.Views.{source_of}
use Rattle.us_inputs.proofs.source.read_source.Goals as goal

pub returns-clause-plain : goal.returns-clause-plain
returns-clause-plain g c =
    IfSome_then (g.O.Outside.files c.args.outside.now) c.in_ok-input.ensures.plain
    (λ fs h. subst (λ r. IsStep (then_step r held_step) (source_of c.hold.result)) (sym h) c.hold.ensures.plain)
