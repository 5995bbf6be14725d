use Rattle.std.proofs.Common.{◌≡◌, ◌%◌, ◌^◌, take, sum_by}
use Rattle.us_sample.specs.Totals.{bits_of}
use Rattle.us_sample.proofs.totals.sum.Given as goal

abbrev pub invariant-loop-entry : goal.invariant-loop-entry
invariant-loop-entry l = l.sum ≡ sum_by bits_of (take l.entry-index l.entry-items) % 2 ^ 64
