use Rattle.us_code_laws.proofs.Sound.{sound}
use Rattle.us_code_laws.proofs.laws.typed_is_sound.Goals as goal

pub returns : goal.returns
returns c = sound
