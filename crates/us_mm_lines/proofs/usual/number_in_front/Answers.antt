use Rattle.std.proofs.Common.{◌<◌, ◌+◌, length, arith, sym, ap, ◌∙◌}
use Rattle.std.proofs.lemmas.List.{take_rest, drop_all}
use Rattle.us_mm_lines.specs.Words.{words}
use Rattle.us_mm_lines.proofs.UsualLemmas.{behind_blank}
use Rattle.us_mm_lines.proofs.usual.number_in_front.Goals as goal

pub returns-then-place-line : goal.returns-then-place-line
returns-then-place-line c = record {
  place = c.in_ok-number.place;
  some = omega (arith, c.if-place-eq0.false);
  before = c.in_ok-number.ensures;
  behind = ap words (sym (drop_all c.in_ok-number.place c.args.line.now (omega (arith, c.if-place-line.true))));
}

pub returns : goal.returns
returns c =
    let line = c.args.line.now in
    let place = c.in_ok-number.place in
    let within = c.in_ok-number.ensures.within in
    let inside : place < length line = omega (arith, c.if-place-line.false) in record {
      place = place;
      some = omega (arith, c.if-place-eq0.false);
      before = c.in_ok-number.ensures;
      behind = ap words (take_rest line (place + 1)) ∙ behind_blank line c.in_ok-number.number place c.in_ok-number.ensures inside;
    }
