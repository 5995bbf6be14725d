use Rattle.std.proofs.Common.{◌≤◌, ◌-◌, ◌^◌, List, [], ℕ, length, pos, rules, arith, sym, subst}
use Rattle.us_query.proofs.Tallies.{IsTally, tally-bound, tally-is, tally-none, tally-step, tally-total}
use Rattle.us_query.proofs.weights.tally.Goals as goal

pub loop-t-init : goal.loop-t-init
loop-t-init c = subst (λ (l : List ℕ). IsTally c.args.axis c.args.count [] l) (sym c.in_ok-weights.ensures) (tally-none c.args.axis c.args.count)

pub overflow_add-index_mut : goal.overflow_add-index_mut
overflow_add-index_mut c =
    let short : length c.args.entries.now ≤ 2 ^ 64 - 1 = search rules in
    let inside = c.requires c.loop-t.t-index (record { i = 0; j = 0; v = pos 0 }) c.loop-t-test.true in
    record {
      fits = omega (
        arith,
        short,
        c.loop-t-test.true,
        tally-bound c.args.axis c.args.count c.args.entries.now c.loop-t.t-index c.loop-t.weights.items c.index_of-a.result c.index_mut.result.now _ c.loop-t-test.true
            (omega (arith, c.index_of-a.ensures, inside)) c.index_mut.ensures.value c.loop-t.invariant,
      );
    }

pub loop-t-preserved : goal.loop-t-preserved
loop-t-preserved c =
    let inside = c.requires c.loop-t.t-index (record { i = 0; j = 0; v = pos 0 }) c.loop-t-test.true in
    tally-step c.args.axis c.args.count c.args.entries.now c.loop-t.t-index (record { i = 0; j = 0; v = pos 0 }) c.loop-t.weights.items c.index_of-a.result c.index_mut.result.now _ c.loop-t-test.true
    c.index_of-a.ensures (omega (arith, c.index_of-a.ensures, inside)) c.index_mut.ensures.value c.loop-t.invariant

pub returns-clause-weights : goal.returns-clause-weights
returns-clause-weights c = tally-is c.args.axis c.args.count c.args.entries.now c.loop-t.t-index c.loop-t.weights.items c.loop-t-test.false c.loop-t.invariant

pub returns-clause-total : goal.returns-clause-total
returns-clause-total c = tally-total c.args.axis c.args.count c.args.entries.now c.loop-t.t-index c.loop-t.weights.items c.loop-t-test.false c.loop-t.invariant
