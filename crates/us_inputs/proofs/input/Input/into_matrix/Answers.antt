use Rattle.std.proofs.Common.{sym, ap, ◌∙◌}
use Rattle.us_inputs.specs.Steps.{map_of}
use Rattle.us_inputs.specs.Views.{input_view}
use Rattle.us_inputs.proofs.InputLemmas.{held_matrix}
use Rattle.us_inputs.proofs.input.Input.into_matrix.Goals as goal

pub returns-in-Container : goal.returns-in-Container
returns-in-Container c = c.into_matrix.ensures ∙ sym (held_matrix c.in-Container.held) ∙ ap (λ i. map_of (input_view i)) (sym c.in-Container.is)
