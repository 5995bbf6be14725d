use Rattle.std.proofs.Common.{sym, ap, ◌∙◌}
use Rattle.us_inputs.specs.Steps.{map_of}
use Rattle.us_inputs.specs.Views.{input_view}
use Rattle.us_inputs.proofs.InputLemmas.{held_matrix}
use Rattle.us_inputs.proofs.source.hold.Goals as goal

pub returns-in-Container-clause-matrix : goal.returns-in-Container-clause-matrix
returns-in-Container-clause-matrix c = sym (held_matrix c.in-Container.held) ∙ ap (λ i. map_of (input_view i)) (sym c.in-Container.is)
