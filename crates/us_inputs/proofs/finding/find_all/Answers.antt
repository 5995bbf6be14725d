use Rattle.std.proofs.Common.{map, arith}
use Rattle.us_decl.specs.Views.{decl_view}
use Rattle.us_inputs.proofs.FindingLemmas.{finding_none, finding_more, finding_missing, finding_all}
use Rattle.us_inputs.proofs.finding.find_all.Goals as goal

pub loop-i-init : goal.loop-i-init
loop-i-init c = finding_none (map decl_view c.args.library.now) (map (λ n. n.now) c.args.names.now) _ c.new-found.ensures.items

pub loop-i-preserved : goal.loop-i-preserved
loop-i-preserved c =
    finding_more (map decl_view c.args.library.now) c.args.names.now c.loop-i.i _ c.loop-i.found.items _ c.in-Some.decl c.loop-i-test.true c.in-Some.ensures.found c.in-Some.ensures.valid
    c.in_ok-push.ensures.items c.loop-i.invariant

pub returns-clause-plain : goal.returns-clause-plain
returns-clause-plain c = finding_all (map decl_view c.args.library.now) c.args.names.now c.loop-i.i c.loop-i.found.items c.loop-i-test.false c.loop-i.invariant

pub returns-in_default-clause-plain : goal.returns-in_default-clause-plain
returns-in_default-clause-plain c =
    finding_missing (map decl_view c.args.library.now) c.args.names.now c.loop-i.i _ c.loop-i.found.items c.loop-i-test.true c.in_default.ensures.found c.loop-i.invariant

pub returns-clause-count : goal.returns-clause-count
returns-clause-count c = omega (arith, c.loop-i.invariant.count, c.loop-i.auto.i-end, c.loop-i-test.false)
