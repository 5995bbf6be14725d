use Rattle.std.proofs.Common.{◌∙◌, sym, ap, zero-add}
use Rattle.std.specs.Prelude.{Some}
use Rattle.us_format.specs.Declaration.{query_of}
use Rattle.us_format.specs.Rules.{has_lawful_argument}
use Rattle.us_judge.proofs.Reaching.{next_item, failing_item}
use Rattle.us_judge.proofs.rules.bad_argument.Goals as goal

pub returns-then-not-has_lawful_argument : goal.returns-then-not-has_lawful_argument
returns-then-not-has_lawful_argument c =
    ap Some (sym (zero-add c.loop-k.k))
    ∙ failing_item query_of (λ _ q. has_lawful_argument q) 0 c.args.queries.now c.loop-k.k c.index-queries-k.result c.loop-k-test.true c.index-queries-k.is (sym c.has_lawful_argument.ensures ∙ c.if-not-has_lawful_argument.true) c.loop-k.invariant

pub loop-k-preserved : goal.loop-k-preserved
loop-k-preserved c = next_item query_of (λ _ q. has_lawful_argument q) 0 c.args.queries.now c.loop-k.k c.index-queries-k.result c.loop-k-test.true c.index-queries-k.is (sym c.has_lawful_argument.ensures ∙ c.if-not-has_lawful_argument.false) c.loop-k.invariant
