use Rattle.std.proofs.Common.{◌≡◌, ◌+◌, ◌≤◌, ℕ, get_or, pos, subst, sym, arith}
use Rattle.us_format.specs.declared.Kind.TheVariants.{Full}
use Rattle.us_build.specs.declared.levels.Level.{Level}
use Rattle.us_build.specs.Sizes.{level_size}
use Rattle.us_build.proofs.Passing.{IsMeasured, kept-next, measured-next}
use Rattle.us_build.proofs.passes.add_up.Goals as goal

pub returns-then-total-gt-LIMIT-clause-kept : goal.returns-then-total-gt-LIMIT-clause-kept
returns-then-total-gt-LIMIT-clause-kept c =
    kept-next c.args.levels.now c.args.items.now c.loop-k.k c.loop-k.positions c.loop-k.total c.go_down-below.result (record { kind = Full; low = pos 0; size = 0 }) c.loop-k.items c.go_down-below.new.items
    c.loop-k-test.true c.loop-k.invariant c.go_down-below.ensures.items c.go_down-below.ensures.count

pub loop-k-preserved : goal.loop-k-preserved
loop-k-preserved c =
    let d : Level = record { kind = Full; low = pos 0; size = 0 } in
    let e : c.level_size-total.result ≡ level_size (get_or c.args.levels.now c.loop-k.k d).kind c.loop-k.positions c.go_down-below.result = c.level_size-total.ensures in
    let small : c.loop-k.total + level_size (get_or c.args.levels.now c.loop-k.k d).kind c.loop-k.positions c.go_down-below.result ≤ 67108864 = omega (arith, e, c.if-total-gt-LIMIT.false) in
    subst (λ (n : ℕ). IsMeasured c.args.levels.now c.args.items.now c.go_down-below.new.items (c.loop-k.k + 1) c.go_down-below.result (c.loop-k.total + n)) (sym e)
    (measured-next c.args.levels.now c.args.items.now c.loop-k.k c.loop-k.positions c.loop-k.total c.go_down-below.result d c.loop-k.items c.go_down-below.new.items c.loop-k-test.true c.loop-k.invariant
    c.go_down-below.ensures.items c.go_down-below.ensures.count c.go_down-below.ensures.few small)
