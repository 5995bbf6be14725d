use Rattle.std.proofs.Common.{map, sym, subst}
use Rattle.std.proofs.lemmas.Option.{IfSome_then}
use Rattle.us_status.specs.Answers.{IsStep}
use Rattle.us_status.specs.Answers.{then_step}
use Rattle.us_inputs.specs.Steps.{formats_in}
use Rattle.us_inputs.specs.Views.{formats_of}
use Rattle.us_inputs.proofs.finding.read_formats.Goals as goal

pub returns-clause-plain : goal.returns-clause-plain
returns-clause-plain g c =
    IfSome_then (g.O.Outside.files c.args.outside.now) c.in_ok-library.ensures.plain
    (λ fs h. subst (λ r. IsStep (then_step r (λ ds. formats_in ds (map (λ n. n.now) c.args.names.now))) (formats_of c.formats_in.result)) (sym h) c.formats_in.ensures.plain)
