use Rattle.std.proofs.Common.{◌≡◌, ◌++◌, drop, map}
use Rattle.std.specs.List.{flat_map}
use Rattle.us_decl.specs.Views.{decl_view}
use Rattle.us_top.specs.Report.{report, declaration_line}
use Rattle.us_top.specs.Views.{shape_view}
use Rattle.us_top.proofs.report.report.Given as goal

abbrev pub invariant-loop-k : goal.invariant-loop-k
invariant-loop-k l =
    l.out.items ++ flat_map (declaration_line (shape_view l.shape)) (drop l.k (map decl_view l.library)) ≡ report (shape_view l.shape) (map decl_view l.library)
