use Rattle.std.proofs.Common.{length}
use Rattle.us_gen_unpack.proofs.listing.+list_parts.Given as goal

abbrev pub decreases-list_parts : goal.decreases-list_parts
decreases-list_parts l = length l.parts.now
