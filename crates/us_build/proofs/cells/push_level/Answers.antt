use Rattle.std.proofs.Common.{[], sym, ◌∙◌, append-nil, arith}
use Rattle.std.proofs.lemmas.Result.{on_ok_weaker}
use Rattle.us_build.proofs.LevelCells.{all-fit, all-within, coordinates-alike, slot-list}
use Rattle.us_build.proofs.Keeping.{begins-pushed}
use Rattle.us_build.proofs.cells.push_level.Goals as goal

pub coordinates-requires-clause-within : goal.coordinates-requires-clause-within
coordinates-requires-clause-within c = all-within c.args.level.now.kind c.args.level.now.size c.args.above c.args.index c.args.items.now c.requires.below c.args.positions c.requires.count

pub coordinates-requires-clause-small : goal.coordinates-requires-clause-small
coordinates-requires-clause-small c = all-fit c.args.level.now.kind c.args.level.now.size c.args.above c.args.index c.args.items.now c.requires.below 9223372036854775808 (omega (arith, c.requires.size))

pub coordinates-requires-clause-alike : goal.coordinates-requires-clause-alike
coordinates-requires-clause-alike c = coordinates-alike c.args.level.now.kind c.args.level.now.size c.args.above c.args.index c.args.items.now c.requires.below

pub returns-in_ok-coordinates-in-Slot-clause-lists : goal.returns-in_ok-coordinates-in-Slot-clause-lists
returns-in_ok-coordinates-in-Slot-clause-lists c =
    on_ok_weaker c.push.result
    (λ q. q ∙ slot-list c.args.level.now.kind c.args.level.now.size c.args.above c.args.index c.args.items.now c.args.positions c.args.buffers.now c.in_ok-coordinates-in-Slot.field-0.items c.in-Slot.is
    c.requires.below c.requires.count c.in_ok-coordinates-in-Slot.ensures)
    c.push.ensures.ok

pub returns-in_ok-coordinates-in-Slot-clause-kept : goal.returns-in_ok-coordinates-in-Slot-clause-kept
returns-in_ok-coordinates-in-Slot-clause-kept c =
    begins-pushed c.push.result c.args.buffers.now [] c.args.buffers.now c.push.new.self c.in_ok-coordinates-in-Slot.field-0.items (sym (append-nil c.args.buffers.now)) c.push.ensures.ok c.push.ensures.err
