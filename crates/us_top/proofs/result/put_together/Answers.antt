use Rattle.std.proofs.lemmas.Result.{err_from_is_err_and}
use Rattle.us_format.specs.Program.{plain_shape}
use Rattle.us_top.specs.Views.{ran_view}
use Rattle.us_top.proofs.RunCodeLemmas.{result_ends, result_is}
use Rattle.us_top.proofs.result.put_together.Goals as goal

pub returns-in_err-bytes-clause-plain : goal.returns-in_err-bytes-clause-plain
returns-in_err-bytes-clause-plain c =
    let p = err_from_is_err_and c.from_residual.result c.from_residual.ensures.1 in
    rw (p.1, p.2) (result_ends c.args.format (plain_shape c.args.shape) (ran_view c.args.ran) c.in_err-bytes.field-0.0 c.in_err-bytes.ensures.plain)

pub returns-clause-plain : goal.returns-clause-plain
returns-clause-plain c =
    result_is c.args.format (plain_shape c.args.shape) (ran_view c.args.ran) c.in_ok-bytes.bytes.items c.in_ok-lines.lines.items c.in_ok-bytes.ensures.plain c.in_ok-lines.ensures
