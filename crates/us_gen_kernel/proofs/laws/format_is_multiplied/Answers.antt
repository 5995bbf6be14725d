use Rattle.us_gen_kernel.proofs.FormatMultiplied.{format-multiplied}
use Rattle.us_gen_kernel.proofs.laws.format_is_multiplied.Goals as goal

pub returns : goal.returns
returns c = format-multiplied
