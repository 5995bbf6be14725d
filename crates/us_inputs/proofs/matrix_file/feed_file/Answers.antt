use Rattle.std.proofs.Common.{◌≡◌, ◌∙◌, ap, arith, drop, length, take}
use Rattle.std.proofs.lemmas.List.{take_at}
use Rattle.std.proofs.lemmas.Option.{IfSome_then}
use Rattle.us_outside.specs.Files.{content_of}
use Rattle.us_status.proofs.AnswerLemmas.{both}
use Rattle.us_inputs.proofs.PiecesLemmas.{one_more, ended, too_long_behind}
use Rattle.us_inputs.proofs.matrix_file.feed_file.Goals as goal

pub loop-from-preserved : goal.loop-from-preserved
loop-from-preserved g c =
    let filled = rw c.loop-from.invariant.1 at c.in-Ok.ensures.bytes in
    let len : length c.fill.new.room ≡ c.loop-from.room.len = omega (arith, c.fill.auto.room, c.as_mut_slice.ensures.len) in
    let full : length c.fill.new.room ≡ 65536 = omega (arith, len, c.loop-from.invariant.0) in
    let piece = ap (take c.in-Ok.count) (c.deref.ensures.value ∙ take_at c.fill.new.room (drop (length c.fill.new.room) c.loop-from.room.items) c.loop-from.room.len len) in (
      c.loop-from.invariant.0,
      c.in-Ok.ensures.files ∙ c.loop-from.invariant.1,
      c.in-Ok.ensures.printed ∙ c.loop-from.invariant.2,
      λ call name. omega (arith, c.in-Ok.ensures.later call name, c.loop-from.invariant.3 call name),
      omega (arith, c.loop-from-test.true, c.in-Ok.ensures.bound, full),
      both (g.O.Outside.files c.args.outside.now) c.loop-from.invariant.5 filled
          (λ fs p q.
          one_more (content_of fs c.args.name.now) c.fill.new.room _ c.loop-from.from c.in-Ok.count c.loop-from.reader c.feed.new.self c.loop-from-test.true full piece q
          (record { stands = c.feed.ensures.stands; out = c.feed.ensures.out }) p),
    )

pub returns-then-count-eq0-clause-read : goal.returns-then-count-eq0-clause-read
returns-then-count-eq0-clause-read g c =
    let filled = rw c.loop-from.invariant.1 at c.in-Ok.ensures.bytes in
    let full : length c.fill.new.room ≡ 65536 = omega (arith, c.fill.auto.room, c.as_mut_slice.ensures.len, c.loop-from.invariant.0) in
    both (g.O.Outside.files c.args.outside.now) c.loop-from.invariant.5 filled
    (λ fs p q. ended (content_of fs c.args.name.now) c.fill.new.room c.loop-from.from c.in-Ok.count c.loop-from.reader c.loop-from-test.true full c.if-count-eq0.true q p)

pub returns-clause-plain : goal.returns-clause-plain
returns-clause-plain g c =
    IfSome_then (g.O.Outside.files c.args.outside.now) c.loop-from.invariant.5 (λ fs p. too_long_behind c.args.slot (content_of fs c.args.name.now) c.loop-from.from c.loop-from.reader c.loop-from-test.false p)
