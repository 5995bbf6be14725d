use Rattle.std.proofs.Common.{◌∙◌, arith}
use Rattle.us_multiply.proofs.Results.{copied-more}
use Rattle.us_multiply.proofs.running.copied.Goals as goal

pub loop-b-preserved : goal.loop-b-preserved
loop-b-preserved c =
    copied-more c.args.lists.now c.loop-b.copies c.push.new.self c.in_ok-cells.cells.items c.loop-b.b (omega (arith, c.loop-b-test.true, c.count-b-end.ensures, c.loop-b.auto.b-end)) c.loop-b.invariant c.in_ok-push.ensures.ok
    (c.in_ok-cells.ensures.items_if_clones_equal (λ x y h. h) ∙ c.list.ensures)
