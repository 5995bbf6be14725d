use Rattle.std.proofs.Common.{◌≡◌, ◌-◌, ◌++◌, drop}
use Rattle.us_judge.specs.Format.{part_at}
use Rattle.us_judge.specs.Views.{declaration_of}
use Rattle.us_top.specs.Report.{levels_text, part_text}
use Rattle.us_top.specs.Views.{shape_view}
use Rattle.us_top.proofs.report.push_part.Given as goal

abbrev pub invariant-loop-level : goal.invariant-loop-level
invariant-loop-level l =
    l.out.items ++ levels_text (shape_view l.shape) (part_at (declaration_of l.format) (l.part - 1)) l.level (drop l.level (part_at (declaration_of l.format) (l.part - 1)).levels)
    ≡ l.fn.out.items ++ part_text (shape_view l.shape) (part_at (declaration_of l.format) (l.part - 1))
