use Rattle.std.proofs.Common.{Ok, false, sym, ap, arith, ◌∙◌}
use Rattle.std.proofs.lemmas.Result.{err_from_is_err_and}
use Rattle.us_mm_lines.specs.Lines.{lines}
use Rattle.us_mm.proofs.PiecesLemmas.{fault_in, fault_at_end, reads_matrix, few}
use Rattle.us_mm.proofs.reader.CoordinateReader.finish.Goals as goal

pub returns-in_err-end-clause-value : goal.returns-in_err-end-clause-value
returns-in_err-end-clause-value c = λ bytes lt h.
    let p = err_from_is_err_and c.from_residual.result c.from_residual.ensures.1 in
    rw (p.1, p.2) (fault_in c.end.new.self bytes _ (c.in_err-end.ensures.value false bytes (omega (arith, lt)) h))

pub returns-in_err-shape-clause-value : goal.returns-in_err-shape-clause-value
returns-in_err-shape-clause-value c = λ bytes lt h.
    let p = err_from_is_err_and c.from_residual-in_err-shape.result c.from_residual-in_err-shape.ensures.1 in
    let e = c.in_ok-end.ensures.value false bytes (omega (arith, lt)) h in
    rw (p.1, p.2) (fault_at_end bytes _ (c.in_err-shape.ensures.value (lines bytes) e.0 e.1 e.2 (few bytes lt)))

pub returns-clause-value : goal.returns-clause-value
returns-clause-value c = λ bytes lt h.
    let e = c.in_ok-end.ensures.value false bytes (omega (arith, lt)) h in
    reads_matrix bytes c.in_ok-shape.shape.rows c.in_ok-shape.shape.cols c.in_ok-shape.triples.items (c.in_ok-shape.ensures.value (lines bytes) e.0 e.1 e.2 (few bytes lt)) ∙ ap Ok (sym c.from_triples.ensures.matrix)
