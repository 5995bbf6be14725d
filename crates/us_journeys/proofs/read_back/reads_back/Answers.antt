use Rattle.std.proofs.Common.{◌≡◌, ◌<◌, ◌^◌, length, subst}
use Rattle.std.specs.Prelude.{All, FitsSigned, None}
use Rattle.std.specs.Int.{w64}
use Rattle.us_matrix.specs.Map.{IsMatrix}
use Rattle.us_decl.specs.Declares.{IsValid}
use Rattle.us_judge.specs.Acceptance.{first_refusal}
use Rattle.us_judge.specs.Views.{declaration_of}
use Rattle.us_journeys.proofs.ReadBackLemmas.{held_reads_back}
use Rattle.us_journeys.proofs.read_back.reads_back.Goals as goal

pub returns : goal.returns
returns c =
    held_reads_back c.args.held.now c.buffers.ensures.held
    (subst (λ d. IsValid d) c.format.ensures c.decl.ensures.valid)
    (subst (λ d. first_refusal (declaration_of d) ≡ None) c.format.ensures c.decl.ensures.accepted)
    (subst (λ m. IsMatrix m) c.matrix.ensures c.shape.ensures.matrix)
    (subst (λ bufs. All (λ cells. length cells < 2 ^ 61) bufs) c.buffers.ensures.value c.cells_of_all_fit.ensures.lengths)
    (subst (λ bufs. All (All (FitsSigned w64)) bufs) c.buffers.ensures.value c.cells_of_all_fit.ensures.cells)
    c.written_reads_back.ensures
    c.checked_buffers_are_well_formed.ensures.accepted
