use Rattle.std.proofs.Common.{◌≤◌, length, inl, inr, arith}
use Rattle.us_top.proofs.CommandLemmas.{no_digits, side_is, no_side}
use Rattle.us_top.proofs.command.side.Goals.{then-word-gt20-via-then-word-gt20, then-word-gt20-via-else-word-gt20+then-number-eq0, then-word-gt20-via-else-word-gt20+else-number-eq0+then-number-gt2147483647}
use Rattle.us_top.proofs.command.side.Goals as goal

pub returns-in_default-clause-value : goal.returns-in_default-clause-value
returns-in_default-clause-value c = no_digits c.args.word.now (rw c.as_bytes.ensures.value at c.in_default.ensures)

pub returns-then-word-gt20-clause-value : goal.returns-then-word-gt20-clause-value
returns-then-word-gt20-clause-value c =
    let reads = rw c.as_bytes.ensures.value at c.in-Some.ensures in
    elim c.then-word-gt20.branch [
      | then-word-gt20-via-then-word-gt20 w ↦ no_side c.args.word.now c.in-Some.number reads.0 reads.1 (inl w.if-word-gt20.true)
      | then-word-gt20-via-else-word-gt20+then-number-eq0 w ↦ no_side c.args.word.now c.in-Some.number reads.0 reads.1 (inr (inl w.if-number-eq0.true))
      | then-word-gt20-via-else-word-gt20+else-number-eq0+then-number-gt2147483647 w ↦ no_side c.args.word.now c.in-Some.number reads.0 reads.1 (inr (inr w.if-number-gt2147483647.true))
    ]

pub returns-clause-value : goal.returns-clause-value
returns-clause-value c =
    let reads = rw c.as_bytes.ensures.value at c.in-Some.ensures in
    let short : length c.args.word.now ≤ 20 = omega (arith, c.if-word-gt20.false) in
    let small : c.in-Some.number ≤ 2147483647 = omega (arith, c.if-number-gt2147483647.false) in
    side_is c.args.word.now c.in-Some.number reads.0 reads.1 short c.if-number-eq0.false small

pub returns-clause-side : goal.returns-clause-side
returns-clause-side c = record { low = omega (arith, c.if-number-eq0.false); high = omega (arith, c.if-number-gt2147483647.false) }
