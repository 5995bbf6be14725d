use Rattle.std.proofs.Common.{◌++◌, ◌∷◌, [], List, ℤ, ap, ◌∙◌, arith}
use Rattle.std.proofs.lemmas.Result.{on_ok_weaker}
use Rattle.us_build.proofs.LevelCells.{all-above, all-fit, all-within, coordinates-alike, numbered-lists}
use Rattle.us_build.proofs.Keeping.{begins-pushed}
use Rattle.us_build.proofs.cells.push_numbered.Goals as goal

pub starts-requires-clause-within : goal.starts-requires-clause-within
starts-requires-clause-within c = all-above c.args.level.now.kind c.args.level.now.size c.args.above c.args.index c.args.items.now c.requires.below

pub starts-requires-clause-small : goal.starts-requires-clause-small
starts-requires-clause-small c = λ k d l.
    omega (arith, all-within c.args.level.now.kind c.args.level.now.size c.args.above c.args.index c.args.items.now c.requires.below c.args.positions c.requires.count k d l, c.requires.positions)

pub coordinates-requires-clause-within : goal.coordinates-requires-clause-within
coordinates-requires-clause-within c = all-within c.args.level.now.kind c.args.level.now.size c.args.above c.args.index c.args.items.now c.requires.below c.args.positions c.requires.count

pub coordinates-requires-clause-small : goal.coordinates-requires-clause-small
coordinates-requires-clause-small c = all-fit c.args.level.now.kind c.args.level.now.size c.args.above c.args.index c.args.items.now c.requires.below 9223372036854775808 (omega (arith, c.requires.size))

pub coordinates-requires-clause-alike : goal.coordinates-requires-clause-alike
coordinates-requires-clause-alike c = coordinates-alike c.args.level.now.kind c.args.level.now.size c.args.above c.args.index c.args.items.now c.requires.below

pub returns-clause-lists : goal.returns-clause-lists
returns-clause-lists c =
    on_ok_weaker c.push-2.result
    (λ q. q ∙ ap (λ (ls : List (List ℤ)). ls ++ c.in_ok-coordinates.field-0.items ∷ []) c.in_ok-push.ensures.ok
    ∙ numbered-lists c.args.level.now.kind c.requires.kind c.args.level.now.size c.args.above c.args.index c.args.items.now c.args.positions c.args.buffers.now c.in_ok-starts.field-0.items
    c.in_ok-coordinates.field-0.items c.requires.below c.requires.count c.in_ok-starts.ensures c.in_ok-coordinates.ensures)
    c.push-2.ensures.ok

pub returns-clause-kept : goal.returns-clause-kept
returns-clause-kept c =
    begins-pushed c.push-2.result c.args.buffers.now (c.in_ok-starts.field-0.items ∷ []) c.push.new.self c.push-2.new.self c.in_ok-coordinates.field-0.items c.in_ok-push.ensures.ok c.push-2.ensures.ok c.push-2.ensures.err
