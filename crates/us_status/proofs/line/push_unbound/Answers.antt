use Rattle.std.specs.Prelude.{codes}
use Rattle.us_status.proofs.LineLemmas.{three_numbered}
use Rattle.us_status.proofs.line.push_unbound.Goals as goal

pub returns : goal.returns
returns c =
    three_numbered c.args.line.now.bytes c.push_numbered.new.line.bytes c.push_numbered-2.new.line.bytes c.push_numbered-3.new.line.bytes (codes "unbound phase ") (codes " stmt ") (codes " V")
    c.args.unbound.phase c.from.result c.from-2.result c.args.unbound.stmt c.args.unbound.rule c.from.ensures c.from-2.ensures c.push_numbered.ensures.bytes c.push_numbered-2.ensures.bytes
    c.push_numbered-3.ensures.bytes
