use Rattle.us_format_loops.proofs.Filled.{tight-parts-are-filled}
use Rattle.us_format_loops.proofs.laws.tight_parts_are_filled.Goals as goal

pub returns : goal.returns
returns c = tight-parts-are-filled
