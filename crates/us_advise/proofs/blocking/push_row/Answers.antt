use Rattle.std.proofs.Common.{◌≡◌, ℕ, ◌≤◌, ◌++◌, ap, ◌∙◌, arith}
use Rattle.us_advise.specs.Blocks.{block, row_of_blocks}
use Rattle.us_advise.proofs.Listed.{made_to, pushed-more}
use Rattle.us_advise.proofs.blocking.push_row.Goals as goal

pub loop-cols-preserved : goal.loop-cols-preserved
loop-cols-preserved c =
    pushed-more (block c.args.rows) c.loop-cols.cols c.args.formats.now c.loop-cols.formats c.push.new.self c.in_ok-block.field-0 c.loop-cols.auto.cols c.loop-cols.invariant c.in_ok-block.ensures.is c.in_ok-push.ensures.ok

pub returns : goal.returns
unfolding row_of_blocks
returns c =
    let past : 9 ≤ c.loop-cols.cols = omega (arith, c.loop-cols-test.false) in
    let nine : c.loop-cols.cols ≡ 9 = omega (arith, past, c.loop-cols.auto.cols-end (omega arith)) in
    c.loop-cols.invariant ∙ ap (λ (k : ℕ). c.args.formats.now ++ made_to (block c.args.rows) k) nine
