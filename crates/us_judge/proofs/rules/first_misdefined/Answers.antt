use Rattle.std.proofs.Common.{◌∙◌, sym, ap, zero-add}
use Rattle.std.specs.Prelude.{Some}
use Rattle.us_format.specs.Declaration.{query_of}
use Rattle.us_judge.specs.Acceptance.{is_defined_once}
use Rattle.us_judge.proofs.Reaching.{next_item, failing_item}
use Rattle.us_judge.proofs.rules.first_misdefined.Goals as goal

pub returns-then-not-is_defined_once : goal.returns-then-not-is_defined_once
returns-then-not-is_defined_once c =
    ap Some (sym (zero-add c.loop-k.k))
    ∙ failing_item query_of is_defined_once 0 c.args.queries.now c.loop-k.k c.index-queries-k.result c.loop-k-test.true c.index-queries-k.is (sym c.is_defined_once.ensures ∙ c.if-not-is_defined_once.true) c.loop-k.invariant

pub loop-k-preserved : goal.loop-k-preserved
loop-k-preserved c =
    next_item query_of is_defined_once 0 c.args.queries.now c.loop-k.k c.index-queries-k.result c.loop-k-test.true c.index-queries-k.is (sym c.is_defined_once.ensures ∙ c.if-not-is_defined_once.false) c.loop-k.invariant
