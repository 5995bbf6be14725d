use Rattle.std.proofs.Common.{◌≤◌, length, arith}
use Rattle.us_top.proofs.CommandLemmas.{long_steps, no_steps, steps_parsed, steps_unparsed}
use Rattle.us_top.proofs.command.budget.Goals as goal

pub returns-then-word-gt20 : goal.returns-then-word-gt20
returns-then-word-gt20 c = long_steps c.args.word.now c.if-word-gt20.true

pub returns-in_default : goal.returns-in_default
returns-in_default c = no_steps c.args.word.now (rw c.as_bytes.ensures.value at c.in_default.ensures)

pub returns-in-Ok : goal.returns-in-Ok
returns-in-Ok c =
    let reads = rw c.as_bytes.ensures.value at c.in-Some.ensures in
    let short : length c.args.word.now ≤ 20 = omega (arith, c.if-word-gt20.false) in
    steps_parsed c.args.word.now c.in-Ok.number reads.0 short c.in-Ok.ensures.value.0

pub returns-in-Err : goal.returns-in-Err
returns-in-Err c =
    let reads = rw c.as_bytes.ensures.value at c.in-Some.ensures in
    steps_unparsed c.args.word.now reads.0 c.in-Err.ensures.value.0
