use Rattle.std.proofs.Common.{sym, ◌∙◌, ap, arith, Ok}
use Rattle.std.proofs.lemmas.Result.{err_from_is_err_and}
use Rattle.us_script.proofs.ReadLemmas.{begins, read_skipped, read_more, read_fault, read_end}
use Rattle.us_script.proofs.SoundLemmas.{sound_script}
use Rattle.us_script.proofs.parsing.parse_script.Goals as goal

pub loop-rest-init : goal.loop-rest-init
loop-rest-init c = rw c.new-counted.ensures (begins c.args.shape.rows c.args.shape.cols c.args.bytes.now, omega arith)

pub loop-rest-preserved-in-Continue-1 : goal.loop-rest-preserved-in-Continue-1
loop-rest-preserved-in-Continue-1 c = (
  read_more c.args.shape.rows c.args.shape.cols c.args.bytes.now _ _ c.loop-rest.number c.loop-rest.rest.now c.first_line.result.0.now c.first_line.result.1.now c.first_line.ensures.lines (sym c.if-not-is_skipped.ensures) c.in_ok-take.ensures c.loop-rest.invariant.0,
  omega (arith, c.loop-rest.invariant.1, c.first_line.ensures.shorter),
)

pub returns-in_err-take-clause-value : goal.returns-in_err-take-clause-value
returns-in_err-take-clause-value c =
    let p = err_from_is_err_and c.from_residual.result c.from_residual.ensures.1 in
    rw (p.1, p.2)
    (read_fault c.args.shape.rows c.args.shape.cols c.args.bytes.now _ c.loop-rest.number c.loop-rest.rest.now c.first_line.result.0.now c.first_line.result.1.now _ c.first_line.ensures.lines (sym c.if-not-is_skipped.ensures) c.in_err-take.ensures c.loop-rest.invariant.0)

pub loop-rest-preserved : goal.loop-rest-preserved
loop-rest-preserved c = (
  read_skipped c.args.shape.rows c.args.shape.cols c.args.bytes.now _ c.loop-rest.number c.loop-rest.rest.now c.first_line.result.0.now c.first_line.result.1.now c.first_line.ensures.lines (sym c.if-not-is_skipped.ensures) c.loop-rest.invariant.0,
  omega (arith, c.loop-rest.invariant.1, c.first_line.ensures.shorter),
)

pub returns-clause-value : goal.returns-clause-value
returns-clause-value c =
    read_end c.args.shape.rows c.args.shape.cols c.args.bytes.now c.loop-rest.counted c.loop-rest.number c.loop-rest.rest.now (sym c.loop-rest-test.ensures) c.loop-rest.invariant.0
    ∙ ap Ok (sym c.script.ensures)

pub returns-clause-sound : goal.returns-clause-sound
returns-clause-sound c =
    sound_script c.args.shape.rows c.args.shape.cols c.args.bytes.now c.script.result
    (read_end c.args.shape.rows c.args.shape.cols c.args.bytes.now c.loop-rest.counted c.loop-rest.number c.loop-rest.rest.now (sym c.loop-rest-test.ensures) c.loop-rest.invariant.0
    ∙ ap Ok (sym c.script.ensures))
