use Rattle.std.proofs.Common.{◌+◌, ◌≤◌, ℕ, List, get_or, refl, sym, subst, arith}
use Rattle.us_raw.specs.Plan.{no_segment, IsTable}
use Rattle.us_raw.proofs.Table.{start_first, start_more, table_first, table_fits, table_more}
use Rattle.us_raw.proofs.region.lay.Goals as goal

pub loop-index-init : goal.loop-index-init
loop-index-init c = (table_first c.args.plan.now c.args.block.now c.requires.1, sym (start_first c.args.plan.now), omega (arith, c.requires.0.few))

pub enter-requires : goal.enter-requires
enter-requires c =
    (table_fits c.args.plan.now c.loop-index.block c.loop-index.index c.loop-index.invariant.0 c.loop-index-test.true, omega (arith, c.requires.0.few, c.loop-index-test.true))

pub loop-index-preserved : goal.loop-index-preserved
loop-index-preserved c =
    let plan = c.args.plan.now in let i = c.loop-index.index in let s = get_or plan i no_segment in
    let more = start_more plan i no_segment c.loop-index-test.true in
    let short : s.len ≤ 67108865 = c.requires.0.short i no_segment c.loop-index-test.true in (
      subst (λ (l : List ℕ). IsTable plan l (i + 1)) (sym c.enter.ensures)
          (table_more plan c.loop-index.block i c.loop-index.start s c.loop-index.invariant.0 c.loop-index-test.true c.loop-index.invariant.1 (omega (arith, c.requires.0.few, c.loop-index.invariant.2)) refl (omega (arith, short))),
      omega (arith, more, c.size-start.ensures.0, c.loop-index.invariant.1),
      omega (arith, c.size-start.ensures.1, c.loop-index.invariant.2),
    )
