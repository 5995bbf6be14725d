use Rattle.std.proofs.Common.{◌++◌, ◌∙◌, ap, add-one}
use Rattle.us_code_print.proofs.Printed.{joined, indent_more}
use Rattle.us_code_print.specs.Canon.{indent}
use Rattle.us_code_print.proofs.lines.push_indent.Goals as goal

pub loop-preserved : goal.loop-preserved
loop-preserved c = rw (add-one) (joined c.args.out.now.items c.loop.out.items _ (indent c.loop.counter) _ c.loop.invariant c.in_ok-extend_from_slice.ensures.items ∙ ap (λ w. c.args.out.now.items ++ w) (indent_more c.loop.counter))
