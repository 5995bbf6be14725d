use Rattle.std.proofs.Common.{map}
use Rattle.us_code.specs.Plain.{line_tree}
use Rattle.us_code_print.specs.ReadBack.{NamedLines}
use Rattle.us_unit.proofs.Named.{one_more, no_more}
use Rattle.us_unit.proofs.names.lines_are_named.Goals as goal

pub loop-line-init : goal.loop-line-init
loop-line-init c = λ h. h

pub loop-line-preserved : goal.loop-line-preserved
loop-line-preserved c =
    one_more (λ ls. NamedLines (map line_tree ls)) c.args.lines.now c.loop-line.line-index c.line-item.result c.loop-line-test.true c.line-item.is (λ h. (c.line_is_named.ensures, h)) c.loop-line.invariant

pub returns : goal.returns
returns c = no_more (λ ls. NamedLines (map line_tree ls)) c.args.lines.now c.loop-line.line-index c.loop-line-test.false tt c.loop-line.invariant
