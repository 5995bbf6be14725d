use Rattle.us_gen_listing.proofs.FormatListed.{format-listed}
use Rattle.us_gen_listing.proofs.laws.format_is_listed.Goals as goal

pub returns : goal.returns
returns c = format-listed
