use Rattle.std.proofs.Common.{map, sym, ap, subst, ◌∙◌}
use Rattle.std.specs.List.{All}
use Rattle.us_matrix.specs.Map.{IsInShape, matrix_of}
use Rattle.us_script.specs.Steps.{AreSets}
use Rattle.us_changes.specs.Edits.{edited, inverse, as_step}
use Rattle.us_changes.proofs.EditLemmas.{edited_inside, matrix_itself, inverse_is, sets_of}
use Rattle.us_changes.proofs.changing.changes.Goals as goal

pub from_triples-requires-clause-inside : goal.from_triples-requires-clause-inside
from_triples-requires-clause-inside c =
    let m = c.args.matrix.now in
    let es = c.in_ok-entries.field-0.entries.items in
    let shape = c.shape.ensures.value in
    subst (λ r. All (IsInShape r c.shape.result.cols) es) (sym shape.0) (subst (λ k. All (IsInShape m.rows k) es) (sym shape.1) (edited_inside m c.steps.result.now es c.in_ok-entries.ensures.matrix))

pub returns-clause-matrix : goal.returns-clause-matrix
returns-clause-matrix c =
    let m = c.args.matrix.now in
    let es = c.in_ok-entries.field-0.entries.items in
    let shape = c.shape.ensures.value in
    c.from_triples.ensures.matrix ∙ (λ i. matrix_of (shape.0 i) (shape.1 i) es) ∙ matrix_itself m c.steps.result.now es c.in_ok-entries.ensures.matrix ∙ ap (edited m) c.steps.ensures

pub returns-clause-inverse : goal.returns-clause-inverse
returns-clause-inverse c =
    let m = c.args.matrix.now in
    c.in_ok-inverse.ensures ∙ ap (map as_step) c.deref.ensures.value ∙ inverse_is m c.steps.result.now c.in_ok-entries.field-0.back.items c.in_ok-entries.ensures.back ∙ ap (inverse m) c.steps.ensures

pub returns-clause-sets : goal.returns-clause-sets
returns-clause-sets c =
    let m = c.args.matrix.now in
    subst (AreSets m.rows m.cols) (sym (c.in_ok-inverse.ensures ∙ ap (map as_step) c.deref.ensures.value)) (sets_of m.rows m.cols c.in_ok-entries.field-0.back.items c.in_ok-entries.ensures.inside)
