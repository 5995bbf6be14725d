use Rattle.std.specs.Prelude.{codes}
use Rattle.us_status.proofs.LineLemmas.{two_numbered}
use Rattle.us_status.proofs.line.push_rows.Goals as goal

pub returns : goal.returns
returns c =
    two_numbered c.args.line.now.bytes c.push_numbered.new.line.bytes c.push_numbered-2.new.line.bytes (codes "operand rows ") (codes " ") c.args.have c.args.want c.push_numbered.ensures.bytes
    c.push_numbered-2.ensures.bytes
