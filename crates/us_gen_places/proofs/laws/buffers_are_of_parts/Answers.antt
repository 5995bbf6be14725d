use Rattle.us_gen_places.proofs.Sharing.{buffers-are-of-parts}
use Rattle.us_gen_places.proofs.laws.buffers_are_of_parts.Goals as goal

pub returns : goal.returns
returns c = buffers-are-of-parts
