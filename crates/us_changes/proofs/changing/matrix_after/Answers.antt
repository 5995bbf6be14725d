use Rattle.std.proofs.Common.{take, sym, ap, subst, ◌∙◌}
use Rattle.std.specs.List.{All}
use Rattle.us_matrix.specs.Map.{IsInShape, matrix_of}
use Rattle.us_changes.specs.Edits.{edited}
use Rattle.us_changes.proofs.EditLemmas.{edited_inside, matrix_itself}
use Rattle.us_changes.proofs.changing.matrix_after.Goals as goal

pub from_triples-requires-clause-inside : goal.from_triples-requires-clause-inside
from_triples-requires-clause-inside c =
    let m = c.args.matrix.now in
    let es = c.in_ok-merged.merged.entries.items in
    let shape = c.shape.ensures.value in
    subst (λ r. All (IsInShape r c.shape.result.cols) es) (sym shape.0)
    (subst (λ k. All (IsInShape m.rows k) es) (sym shape.1) (edited_inside m (take c.args.count c.steps-steps.result.now) es c.in_ok-merged.ensures.matrix))

pub returns : goal.returns
returns c =
    let m = c.args.matrix.now in
    let es = c.in_ok-merged.merged.entries.items in
    let shape = c.shape.ensures.value in
    c.from_triples.ensures.matrix ∙ (λ i. matrix_of (shape.0 i) (shape.1 i) es) ∙ matrix_itself m (take c.args.count c.steps-steps.result.now) es c.in_ok-merged.ensures.matrix
    ∙ ap (λ l. edited m (take c.args.count l)) c.steps-steps.ensures
