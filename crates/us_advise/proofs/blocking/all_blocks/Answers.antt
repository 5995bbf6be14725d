use Rattle.std.proofs.Common.{◌≡◌, ℕ, ◌≤◌, ap, ◌∙◌, arith}
use Rattle.us_format.specs.Lists.{join}
use Rattle.us_advise.specs.Blocks.{all_blocks, row_of_blocks}
use Rattle.us_advise.proofs.Listed.{joined-more, made_to}
use Rattle.us_advise.proofs.blocking.all_blocks.Goals as goal

pub loop-rows-preserved : goal.loop-rows-preserved
loop-rows-preserved c = joined-more row_of_blocks c.loop-rows.rows c.loop-rows.formats c.push_row.new.formats c.loop-rows.auto.rows c.loop-rows.invariant c.in_ok-push_row.ensures

pub returns : goal.returns
unfolding all_blocks
returns c =
    let past : 9 ≤ c.loop-rows.rows = omega (arith, c.loop-rows-test.false) in
    let nine : c.loop-rows.rows ≡ 9 = omega (arith, past, c.loop-rows.auto.rows-end (omega arith)) in
    c.loop-rows.invariant ∙ ap (λ (k : ℕ). join (made_to row_of_blocks k)) nine
