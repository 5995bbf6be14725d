use Rattle.std.proofs.Common.{true, arith}
use Rattle.std.proofs.lemmas.Result.{err_from_is_err_and}
use Rattle.us_mm_lines.specs.Lines.{lines}
use Rattle.us_mm.proofs.PiecesLemmas.{array_fault_in, reads_grid, few}
use Rattle.us_mm.proofs.array_reader.ArrayReader.finish.Goals as goal

pub returns-in_err-end-clause-value : goal.returns-in_err-end-clause-value
returns-in_err-end-clause-value c = λ bytes lt h.
    let p = err_from_is_err_and c.from_residual.result c.from_residual.ensures.1 in
    rw (p.1, p.2) (array_fault_in c.end.new.self bytes _ (c.in_err-end.ensures.value true bytes (omega (arith, lt)) h))

pub returns-clause-value : goal.returns-clause-value
returns-clause-value c = λ bytes lt h.
    let e = c.in_ok-end.ensures.value true bytes (omega (arith, lt)) h in
    rw (reads_grid bytes) (c.dense.ensures (lines bytes) e.0 e.1 e.2 (few bytes lt))
