use Rattle.std.proofs.Common.{◌<◌, length, sym, arith}
use Rattle.us_container.proofs.Differing.{differ_here, right_ends, left_ends}
use Rattle.us_container.proofs.text.first_difference.Goals as goal
use Rattle.us_container.proofs.text.first_difference.Goals.{then-k-right-via-then-k-right, then-k-right-via-else-k-right+then-byte-right}

pub returns-then-k-right-clause-is : goal.returns-then-k-right-clause-is
returns-then-k-right-clause-is c =
    elim c.then-k-right.branch [
      | then-k-right-via-then-k-right w ↦ sym (right_ends c.args.left.now c.args.right.now c.loop-k.k c.loop-k.invariant c.loop-k-test.true w.if-k-right.true)
      | then-k-right-via-else-k-right+then-byte-right w ↦
          let there : c.loop-k.k < length c.args.right.now = omega (arith, w.if-k-right.false) in
          sym (differ_here c.args.left.now c.args.right.now c.loop-k.k c.loop-k.invariant c.loop-k-test.true there w.if-byte-right.true)
    ]

pub returns-else-left-right-clause-is : goal.returns-else-left-right-clause-is
returns-else-left-right-clause-is c = sym (left_ends c.args.left.now c.args.right.now c.loop-k.k c.loop-k.invariant c.loop-k-test.false c.if-left-right.false)
