use Rattle.std.proofs.Common.{◌∙◌, sym, get_or}
use Rattle.std.proofs.lemmas.Option.{slice_get-get_or}
use Rattle.us_format.specs.Lists.{among}
use Rattle.us_judge.proofs.Reaching.{reaches-next, fails}
use Rattle.us_judge.proofs.rules.first_untrimmed.Goals as goal

pub returns-then-not-contains : goal.returns-then-not-contains
returns-then-not-contains c =
    fails (λ _ k. among k c.args.trim.now) c.args.first c.args.merge.now c.loop-k.k (get_or c.args.merge.now c.loop-k.k 0) (slice_get-get_or c.args.merge.now c.loop-k.k 0 c.loop-k-test.true) (sym c.contains.ensures ∙ c.if-not-contains.true) c.loop-k.invariant

pub loop-k-preserved : goal.loop-k-preserved
loop-k-preserved c = reaches-next (λ _ k. among k c.args.trim.now) c.args.first c.args.merge.now c.loop-k.k (get_or c.args.merge.now c.loop-k.k 0) (slice_get-get_or c.args.merge.now c.loop-k.k 0 c.loop-k-test.true) (sym c.contains.ensures ∙ c.if-not-contains.false) c.loop-k.invariant
