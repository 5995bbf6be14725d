use Rattle.std.proofs.Common.{◌∙◌, sym, get_or}
use Rattle.std.proofs.lemmas.Option.{slice_get-get_or}
use Rattle.std.specs.Prelude.{not, nat_lt, ◌&&◌}
use Rattle.us_format.specs.Lists.{among}
use Rattle.us_judge.proofs.Reaching.{reaches-next, fails}
use Rattle.us_judge.proofs.rules.first_bad_number.Goals as goal

pub returns-then-not-is_new_level : goal.returns-then-not-is_new_level
returns-then-not-is_new_level c =
    fails (λ before k. nat_lt k c.args.levels && not (among k before)) c.args.first c.args.numbers.now c.loop-k.k (get_or c.args.numbers.now c.loop-k.k 0) (slice_get-get_or c.args.numbers.now c.loop-k.k 0 c.loop-k-test.true) (sym c.is_new_level.ensures ∙ c.if-not-is_new_level.true) c.loop-k.invariant

pub loop-k-preserved : goal.loop-k-preserved
loop-k-preserved c = reaches-next (λ before k. nat_lt k c.args.levels && not (among k before)) c.args.first c.args.numbers.now c.loop-k.k (get_or c.args.numbers.now c.loop-k.k 0) (slice_get-get_or c.args.numbers.now c.loop-k.k 0 c.loop-k-test.true) (sym c.is_new_level.ensures ∙ c.if-not-is_new_level.false) c.loop-k.invariant
