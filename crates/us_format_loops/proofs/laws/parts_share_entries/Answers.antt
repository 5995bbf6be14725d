use Rattle.us_format_loops.proofs.Parts.{parts-share-entries}
use Rattle.us_format_loops.proofs.laws.parts_share_entries.Goals as goal

pub returns : goal.returns
returns c = parts-share-entries
