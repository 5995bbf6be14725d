use Rattle.std.proofs.Common.{◌≤◌, arith, refl, length}
use Rattle.us_parse.specs.Parses.{GoesOne, left_at}
use Rattle.us_parse.proofs.Texts.{parsed_one, lost_one}
use Rattle.us_parse.proofs.parsing.parse_one.Goals as goal

pub returns-in-Ok : goal.returns-in-Ok
returns-in-Ok c =
    let g : GoesOne c.split_at.result.1.now c.in-Ok.decl c.in-Ok.behind = c.in-Ok.ensures in
    let within : c.in-Ok.behind ≤ length c.args.bytes.now = omega (arith, g.within, c.split_at.ensures.back_len, c.requires) in
    parsed_one c.args.bytes.now c.split_at.result.1.now c.args.from (length c.args.bytes.now) c.in-Ok.behind c.in-Ok.decl _ c.split_at.ensures.back refl within g refl refl

pub returns-in-Err : goal.returns-in-Err
returns-in-Err c =
    let a = c.in-Err.ensures in
    let within : left_at c.in-Err.stop ≤ length c.args.bytes.now = omega (arith, a.1, c.split_at.ensures.back_len, c.requires) in
    lost_one c.args.bytes.now c.split_at.result.1.now c.args.from (length c.args.bytes.now) c.in-Err.stop _ c.split_at.ensures.back refl within a.0 c.fault.ensures
