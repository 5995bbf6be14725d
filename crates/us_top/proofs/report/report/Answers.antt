use Rattle.std.proofs.Common.{◌<◌, ◌+◌, ◌++◌, length, map, drop, ap, ◌∙◌, arith}
use Rattle.std.specs.List.{flat_map}
use Rattle.us_decl.specs.Views.{decl_view}
use Rattle.us_top.specs.Report.{declaration_line}
use Rattle.us_top.specs.Views.{shape_view}
use Rattle.us_top.proofs.ReportLemmas.{valid_there, next_line}
use Rattle.us_top.proofs.report.report.Goals as goal

pub push_line-requires-clause-valid : goal.push_line-requires-clause-valid
push_line-requires-clause-valid c =
    let below : c.loop-k.k < length c.args.library.now = omega (arith, c.loop-k-test.true, c.count-k-end.ensures) in
    valid_there c.args.library.now c.at.result.now c.loop-k.k c.requires.valid below c.at.ensures

pub loop-k-preserved : goal.loop-k-preserved
loop-k-preserved c =
    let below : c.loop-k.k < length c.args.library.now = omega (arith, c.loop-k-test.true, c.count-k-end.ensures) in
    ap (λ o. o ++ flat_map (declaration_line (shape_view c.args.shape)) (drop (c.loop-k.k + 1) (map decl_view c.args.library.now))) c.in_ok-push_line.ensures
    ∙ next_line (shape_view c.args.shape) c.args.library.now c.at.result.now c.loop-k.k c.loop-k.out.items below c.at.ensures ∙ c.loop-k.invariant
