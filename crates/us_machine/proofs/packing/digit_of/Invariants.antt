use Rattle.std.proofs.Common.{get_or, []}
use Rattle.us_machine.proofs.Digits.{Between}
use Rattle.us_machine.proofs.packing.digit_of.Given as goal

abbrev pub invariant-loop-x : goal.invariant-loop-x
invariant-loop-x l = Between (get_or l.region.lists l.seg []) l.x l.low l.high
