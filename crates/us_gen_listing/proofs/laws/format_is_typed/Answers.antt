use Rattle.us_gen_listing.proofs.FormatTyped.{format-typed}
use Rattle.us_gen_listing.proofs.laws.format_is_typed.Goals as goal

pub returns : goal.returns
returns c = format-typed
