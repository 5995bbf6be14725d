use Rattle.std.proofs.Common.{◌≡◌, ◌++◌, drop, None}
use Rattle.std.specs.List.{flat_map}
use Rattle.us_judge.specs.Views.{declaration_of}
use Rattle.us_top.specs.Report.{barred_text, verdict_text}
use Rattle.us_top.specs.Views.{shape_view}
use Rattle.us_top.proofs.report.push_accepted.Given as goal

abbrev pub invariant-loop-part : goal.invariant-loop-part
invariant-loop-part l =
    l.out.items ++ flat_map (barred_text (shape_view l.shape)) (drop l.part (declaration_of l.format).parts) ≡ l.fn.out.items ++ verdict_text (shape_view l.shape) (declaration_of l.format) None
