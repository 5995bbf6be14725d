use Rattle.std.proofs.Common.{length}
use Rattle.us_gen_opening.proofs.counting.+opening_code.Given as goal

abbrev pub decreases-opening_code : goal.decreases-opening_code
decreases-opening_code l = length l.parts.now
