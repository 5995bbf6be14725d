use Rattle.std.proofs.Common.{◌≤◌, length, refl, arith}
use Rattle.us_code_reader.specs.Parses.{left_at}
use Rattle.us_code_reader.proofs.Whole.{parsed, lost}
use Rattle.us_code_reader.proofs.parsing.parse_program.Goals as goal

pub returns-in-Ok : goal.returns-in-Ok
returns-in-Ok c =
    let read = c.in-Ok.ensures in
    let within : c.in-Ok.behind ≤ length c.args.bytes.now = omega (arith, read.2, c.split_at.ensures.back_len, c.requires) in
    parsed c.args.bytes.now c.split_at.result.1.now c.args.from (length c.args.bytes.now) c.split_at.ensures.back refl c.in-Ok.program c.in-Ok.behind _ read (omega arith)

pub returns-in-Err : goal.returns-in-Err
returns-in-Err c =
    let read = c.in-Err.ensures in
    let within : left_at c.in-Err.stop ≤ length c.args.bytes.now = omega (arith, read.1, c.split_at.ensures.back_len, c.requires) in
    rw c.fault.ensures (lost c.args.bytes.now c.split_at.result.1.now c.args.from (length c.args.bytes.now) c.split_at.ensures.back refl c.in-Err.stop read within)
