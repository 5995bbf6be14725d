use Rattle.std.proofs.Common.{◌∙◌, sym, ap, zero-add}
use Rattle.std.specs.Prelude.{Some}
use Rattle.us_format.specs.Declaration.{query_of}
use Rattle.us_judge.specs.Acceptance.{has_lawful_lanes}
use Rattle.us_judge.proofs.Reaching.{next_item, failing_item}
use Rattle.us_judge.proofs.rules.bad_lanes.Goals as goal

pub returns-then-not-has_lawful_lanes : goal.returns-then-not-has_lawful_lanes
returns-then-not-has_lawful_lanes c =
    ap Some (sym (zero-add c.loop-k.k))
    ∙ failing_item query_of (λ _ q. has_lawful_lanes q) 0 c.args.queries.now c.loop-k.k c.index-queries-k.result c.loop-k-test.true c.index-queries-k.is (sym c.has_lawful_lanes.ensures ∙ c.if-not-has_lawful_lanes.true) c.loop-k.invariant

pub loop-k-preserved : goal.loop-k-preserved
loop-k-preserved c = next_item query_of (λ _ q. has_lawful_lanes q) 0 c.args.queries.now c.loop-k.k c.index-queries-k.result c.loop-k-test.true c.index-queries-k.is (sym c.has_lawful_lanes.ensures ∙ c.if-not-has_lawful_lanes.false) c.loop-k.invariant
