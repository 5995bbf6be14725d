use Rattle.std.proofs.Common.{◌∙◌, sym, ap, zero-add}
use Rattle.std.specs.Prelude.{Some}
use Rattle.us_format.specs.Declaration.{query_of}
use Rattle.us_judge.specs.Acceptance.{is_count}
use Rattle.us_judge.proofs.Reaching.{next_item, failing_item}
use Rattle.us_judge.proofs.rules.first_no_count.Goals as goal

pub returns-then-not-is_count : goal.returns-then-not-is_count
returns-then-not-is_count c =
    ap Some (sym (zero-add c.loop-k.k))
    ∙ failing_item query_of (λ _ q. is_count q) 0 c.args.queries.now c.loop-k.k c.index-queries-k.result c.loop-k-test.true c.index-queries-k.is (sym c.is_count.ensures ∙ c.if-not-is_count.true) c.loop-k.invariant

pub loop-k-preserved : goal.loop-k-preserved
loop-k-preserved c = next_item query_of (λ _ q. is_count q) 0 c.args.queries.now c.loop-k.k c.index-queries-k.result c.loop-k-test.true c.index-queries-k.is (sym c.is_count.ensures ∙ c.if-not-is_count.false) c.loop-k.invariant
