use Rattle.std.proofs.Common.{arith, sym, ◌∙◌, ◌+◌}
use Rattle.us_levels.proofs.Unlike.{alike-all, alike-found, alike-more, alike-none, difference-of}
use Rattle.us_levels.proofs.comparing.lists_difference.Goals as goal

pub loop-k-init : goal.loop-k-init
loop-k-init c = alike-none c.args.first c.args.lists.now c.args.buffers.now

pub returns-then-is_some : goal.returns-then-is_some
returns-then-is_some c =
    alike-found c.args.first c.args.lists.now c.args.buffers.now c.loop-k.k (omega arith) c.loop-k.invariant c.buffer_difference-found.result
    (difference-of c.args.lists.now c.loop-k.k (c.args.first + c.loop-k.k) c.list.result.now c.args.buffers.now c.buffer_difference-found.result c.list.ensures c.buffer_difference-found.ensures) (sym c.is_some.ensures ∙ c.if-is_some.true)

pub loop-k-preserved : goal.loop-k-preserved
loop-k-preserved c =
    alike-more c.args.first c.args.lists.now c.args.buffers.now c.loop-k.k (omega arith) c.loop-k.invariant c.buffer_difference-found.result
    (difference-of c.args.lists.now c.loop-k.k (c.args.first + c.loop-k.k) c.list.result.now c.args.buffers.now c.buffer_difference-found.result c.list.ensures c.buffer_difference-found.ensures) (sym c.is_some.ensures ∙ c.if-is_some.false)

pub returns : goal.returns
returns c = alike-all c.args.first c.args.lists.now c.args.buffers.now c.loop-k.k (omega arith) c.loop-k.invariant
