use Rattle.std.proofs.Common.{◌+◌, length, arith, ◌∙◌, refl}
use Rattle.std.proofs.lemmas.List.{take_rest, drop_all}
use Rattle.us_mm_lines.proofs.LineLemmas.{no_pass, lines_first, lines_last, lines-nil}
use Rattle.us_script.proofs.lines.first_line.Goals as goal

pub returns-in-Some-clause-lines : goal.returns-in-Some-clause-lines
returns-in-Some-clause-lines c =
    let found = c.in-Some.ensures in
    lines_first c.args.bytes.now c.in-Some.end found.0.high (λ k lt. no_pass _ (found.0.before k (omega arith) lt)) found.1
    ∙ rw (c.without_return.ensures, take_rest c.args.bytes.now (c.in-Some.end + 1)) refl

pub returns-in-None-clause-lines : goal.returns-in-None-clause-lines
returns-in-None-clause-lines c =
    let none = c.in-None.ensures in
    lines_last c.args.bytes.now c.requires (λ k lt. no_pass _ (none k (omega arith) lt))
    ∙ rw (c.without_return-in-None.ensures, take_rest c.args.bytes.now (length c.args.bytes.now), drop_all (length c.args.bytes.now) c.args.bytes.now (omega arith), lines-nil) refl
