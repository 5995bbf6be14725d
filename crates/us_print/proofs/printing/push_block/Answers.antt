use Rattle.std.proofs.Common.{codes}
use Rattle.us_print.specs.Canon.{part_lines, line}
use Rattle.us_decl.specs.Views.{part_view}
use Rattle.us_print.proofs.Printed.{joined, on_ok, on_extend}
use Rattle.us_print.proofs.printing.push_block.Goals as goal

pub returns : goal.returns
returns c =
    on_ok c.extend_from_slice.result (λ e.
    joined c.args.out.now.items c.push_part.new.out.items c.extend_from_slice.new.self.items (part_lines 2 (part_view c.args.part.now)) (line 1 (codes "}")) c.in_ok-push_part.ensures e) (on_extend c.extend_from_slice.result _ _ _ c.extend_from_slice.ensures.items)
