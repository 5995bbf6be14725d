use Rattle.std.proofs.Common.{◌∙◌}
use Rattle.std.proofs.lemmas.Result.{err_from_is_err_and}
use Rattle.us_judge.specs.Kinds.{kinds_of}
use Rattle.us_judge.proofs.EachPart.{short-at, pushed-next, mapped-all, refused-at, accepted-next, accepted-all}
use Rattle.us_judge.proofs.format.judge_parts.Goals as goal

pub judge_part-requires : goal.judge_part-requires
judge_part-requires c = short-at c.args.parts.now c.loop-k.k c.index-parts-k.result c.requires.short c.loop-k-test.true c.index-parts-k.is

pub loop-k-preserved : goal.loop-k-preserved
loop-k-preserved c =
    let part = c.index-parts-k.result in (
      pushed-next kinds_of c.args.parts.now c.loop-k.k part c.loop-k.all c.push.new.self c.in_ok-kinds.kinds c.loop-k-test.true c.index-parts-k.is c.loop-k.invariant.0 c.in_ok-kinds.ensures.kinds c.in_ok-push.ensures.ok,
      accepted-next _ c.args.parts.now c.loop-k.k part c.loop-k-test.true c.index-parts-k.is c.loop-k.invariant.1 c.in_ok-kinds.ensures.accepted,
    )

pub returns-in_err-kinds-clause-refused : goal.returns-in_err-kinds-clause-refused
returns-in_err-kinds-clause-refused c =
    let p = err_from_is_err_and c.from_residual.result c.from_residual.ensures.1 in
    rw (p.1, p.2) (refused-at c.in_err-kinds.field-0.0 _ c.args.parts.now c.loop-k.k c.index-parts-k.result c.loop-k-test.true c.index-parts-k.is c.loop-k.invariant.1 c.in_err-kinds.ensures.refused)

pub returns-clause-kinds : goal.returns-clause-kinds
returns-clause-kinds c = c.loop-k.invariant.0 ∙ mapped-all kinds_of c.args.parts.now c.loop-k.k c.loop-k-test.false

pub returns-clause-accepted : goal.returns-clause-accepted
returns-clause-accepted c = accepted-all _ c.args.parts.now c.loop-k.k c.loop-k-test.false c.loop-k.invariant.1
