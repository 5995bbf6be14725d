use Rattle.std.proofs.Common.{length}
use Rattle.us_container.proofs.Bounds.{few_in_all}
use Rattle.us_container.proofs.TextBounds.{short_text}
use Rattle.us_container.proofs.Written.{reads_back}
use Rattle.us_container.proofs.laws.written_reads_back.Goals as goal

pub returns : goal.returns
returns c = λ d s bufs w. reads_back d s bufs w (short_text d w.valid) (few_in_all d (length bufs) w.valid w.count)
