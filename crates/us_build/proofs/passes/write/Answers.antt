use Rattle.std.proofs.Common.{pos, ◌∙◌, arith}
use Rattle.us_format.specs.declared.Kind.TheVariants.{Full}
use Rattle.us_build.proofs.Passing.{end-alike, end-within, written-below, written-count, written-end, written-next}
use Rattle.us_build.proofs.passes.write.Goals as goal

pub push_level-requires-clause-below : goal.push_level-requires-clause-below
push_level-requires-clause-below c =
    written-below c.args.lists.now c.args.levels.now c.args.items.now c.loop-k.k c.loop-k.positions c.loop-k.lists (record { kind = Full; low = pos 0; size = 0 }) c.loop-k.items c.loop-k-test.true c.loop-k.invariant
    c.go_down-below.result c.go_down-below.new.items c.go_down-below.ensures.items c.go_down-below.ensures.count

pub push_level-requires-clause-count : goal.push_level-requires-clause-count
push_level-requires-clause-count c =
    written-count c.args.lists.now c.args.levels.now c.args.items.now c.loop-k.k c.loop-k.positions c.loop-k.lists (record { kind = Full; low = pos 0; size = 0 }) c.loop-k.items c.loop-k-test.true c.loop-k.invariant
    c.go_down-below.result c.go_down-below.new.items c.go_down-below.ensures.items c.go_down-below.ensures.count

pub loop-k-preserved : goal.loop-k-preserved
loop-k-preserved c =
    written-next c.args.lists.now c.args.levels.now c.args.items.now c.loop-k.k c.loop-k.positions c.loop-k.lists (record { kind = Full; low = pos 0; size = 0 }) c.loop-k.items c.loop-k-test.true c.loop-k.invariant
    c.go_down-below.result c.go_down-below.new.items c.go_down-below.ensures.items c.go_down-below.ensures.count c.push_level.new.buffers c.go_down-below.ensures.few c.in_ok-push_level.ensures.lists

pub values-requires-clause-within : goal.values-requires-clause-within
values-requires-clause-within c =
    end-within c.args.lists.now c.args.levels.now c.args.items.now c.loop-k.k c.loop-k.positions c.loop-k.lists c.loop-k.items (omega arith) c.requires.levels c.loop-k.invariant

pub values-requires-clause-alike : goal.values-requires-clause-alike
values-requires-clause-alike c =
    end-alike c.args.lists.now c.args.levels.now c.args.items.now c.loop-k.k c.loop-k.positions c.loop-k.lists c.loop-k.items (omega arith) c.requires.levels c.loop-k.invariant

pub returns : goal.returns
returns c =
    c.in_ok-push.ensures.ok
    ∙ written-end c.args.lists.now c.args.levels.now c.args.items.now c.loop-k.k c.loop-k.positions c.loop-k.lists c.loop-k.items (omega arith) c.requires.levels c.loop-k.invariant c.in_ok-values.field-0.items c.in_ok-values.ensures
