use Rattle.us_code_laws.proofs.Frame.{same_bufs}
use Rattle.us_code_laws.proofs.laws.keeps_buffers.Goals as goal

pub returns : goal.returns
returns c = same_bufs
