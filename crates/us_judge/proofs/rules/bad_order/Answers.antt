use Rattle.std.proofs.Common.{◌<◌, ◌+◌, length, ◌||◌, refl, ap, sym, ◌∙◌, arith}
use Rattle.std.specs.Prelude.{Some}
use Rattle.us_judge.specs.Views.{plain_part}
use Rattle.us_expr.specs.Tree.{tree}
use Rattle.us_format.specs.Declaration.{query_of}
use Rattle.std.proofs.lemmas.List.{length-map}
use Rattle.us_judge.proofs.Looseness.{order-next, order-stop, order-end, goes_on}
use Rattle.us_judge.proofs.rules.bad_order.Goals as goal

pub returns-then-not-loose : goal.returns-then-not-loose
returns-then-not-loose c =
    let below : c.loop-k.k < length (plain_part c.args.part.now).levels = omega (arith, length-map c.args.part.now.levels tree, c.len-k-end.ensures) in
    ap (λ n. Some (n + c.loop-k.k)) (c.len-first.ensures ∙ sym (length-map c.args.part.now.queries query_of))
    ∙ order-stop (plain_part c.args.part.now) c.loop-k.k c.loop-k.seen c.is_loose-loose.result below c.is_loose-loose.ensures c.if-seen.true c.if-not-loose.true c.loop-k.invariant

pub loop-k-preserved : goal.loop-k-preserved
loop-k-preserved c =
    let below : c.loop-k.k < length (plain_part c.args.part.now).levels = omega (arith, length-map c.args.part.now.levels tree, c.len-k-end.ensures) in
    order-next (plain_part c.args.part.now) c.loop-k.k c.loop-k.seen c.is_loose-loose.result (c.loop-k.seen || c.is_loose-loose.result) below c.is_loose-loose.ensures (goes_on c.loop-k.seen c.is_loose-loose.result c.else-seen.either) refl c.loop-k.invariant

pub returns : goal.returns
returns c = order-end (plain_part c.args.part.now) c.loop-k.k c.loop-k.seen (omega (arith, length-map c.args.part.now.levels tree, c.len-k-end.ensures)) c.loop-k.invariant
