use Rattle.std.proofs.Common.{◌++◌, ap}
use Rattle.us_code.specs.Plain.{line_tree}
use Rattle.us_code_print.specs.Canon.{dim_line}
use Rattle.us_code_print.proofs.Printed.{flat_map-map}
use Rattle.us_code_print.proofs.printing.push_dim_lines.Goals as goal

pub loop-line-init : goal.loop-line-init
loop-line-init c = ap (λ w. c.args.out.now.items ++ w) (flat_map-map dim_line line_tree c.args.lines.now)
