use Rattle.std.proofs.Common.{[], ◌+◌, ◌∙◌, sym, ap, map}
use Rattle.std.specs.Prelude.{Some}
use Rattle.us_judge.specs.Acceptance.{is_lawful_pack, first_pack, first_failing}
use Rattle.us_judge.specs.Views.{column_of, plain_part}
use Rattle.us_judge.proofs.Reaching.{next_item, failing_item}
use Rattle.us_judge.proofs.packs.bad_pack.Goals as goal

pub returns-then-not-is_lawful_pack : goal.returns-then-not-is_lawful_pack
returns-then-not-is_lawful_pack c =
    ap (λ n. Some (n + c.loop-k.k)) c.first_pack-first.ensures
    ∙ failing_item (map column_of) (is_lawful_pack (plain_part c.args.part.now)) (first_pack (plain_part c.args.part.now)) c.as_slice-packs.result.now c.loop-k.k c.index-packs-k.result c.loop-k-test.true c.index-packs-k.is
    (sym c.is_lawful_pack.ensures ∙ c.if-not-is_lawful_pack.true) c.loop-k.invariant
    ∙ ap (λ ps. first_failing (is_lawful_pack (plain_part c.args.part.now)) [] (first_pack (plain_part c.args.part.now)) (map (map column_of) ps)) c.as_slice-packs.ensures

pub loop-k-preserved : goal.loop-k-preserved
loop-k-preserved c =
    next_item (map column_of) (is_lawful_pack (plain_part c.args.part.now)) (first_pack (plain_part c.args.part.now)) c.as_slice-packs.result.now c.loop-k.k c.index-packs-k.result c.loop-k-test.true c.index-packs-k.is
    (sym c.is_lawful_pack.ensures ∙ c.if-not-is_lawful_pack.false) c.loop-k.invariant
