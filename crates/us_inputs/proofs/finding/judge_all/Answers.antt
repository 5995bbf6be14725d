use Rattle.std.proofs.Common.{◌≤◌, length, map, arith}
use Rattle.std.proofs.lemmas.List.{length-map}
use Rattle.std.proofs.lemmas.Result.{err_from_is_err_and}
use Rattle.us_decl.specs.Views.{decl_view}
use Rattle.us_inputs.proofs.FindingLemmas.{judging_none, judging_more, judging_refused, judging_all, judging_count}
use Rattle.us_inputs.proofs.finding.judge_all.Goals as goal

pub loop-i-init : goal.loop-i-init
loop-i-init c = judging_none (map (λ d. decl_view d.now) c.args.found.now) _ c.new-formats.ensures.items

pub loop-i-preserved : goal.loop-i-preserved
loop-i-preserved c =
    judging_more c.args.found.now c.loop-i.i c.loop-i.formats.items _ c.index-found-i.result c.in_ok-format.format c.loop-i-test.true c.index-found-i.is c.in_ok-format.ensures.is
    c.in_ok-format.ensures.accepted c.in_ok-push.ensures.items c.loop-i.invariant

pub returns-in_err-format-clause-plain : goal.returns-in_err-format-clause-plain
returns-in_err-format-clause-plain c =
    let p = err_from_is_err_and c.from_residual.result c.from_residual.ensures.1 in
    rw (p.1, p.2)
    (judging_refused c.args.found.now c.loop-i.i c.loop-i.formats.items c.index-found-i.result _ c.loop-i-test.true c.index-found-i.is c.in_err-format.ensures.refused c.loop-i.invariant)

pub returns-clause-plain : goal.returns-clause-plain
returns-clause-plain c =
    let behind : length (map (λ d. decl_view d.now) c.args.found.now) ≤ c.loop-i.i = omega (arith, length-map c.args.found.now (λ d. decl_view d.now), c.loop-i-test.false) in
    judging_all (map (λ d. decl_view d.now) c.args.found.now) c.loop-i.formats.items c.loop-i.i behind c.loop-i.invariant

pub returns-clause-count : goal.returns-clause-count
returns-clause-count c = judging_count c.args.found.now c.loop-i.formats.items c.loop-i.i c.loop-i-test.false c.loop-i.invariant
