-- What the sample and its variants do, computed.
use Rattle.std.proofs.Common.{refl}
use Rattle.us_code.specs.Run.{put}
use Rattle.us_code.specs.Laws.{SampleRuns}

pub sample_runs : SampleRuns
unfolding put
sample_runs = record {
  copies = refl;
  in_budget = refl;
  out_of_budget = refl;
  word_index = refl;
  tested = refl;
  zeros_left = refl;
  too_large = refl;
  counted_first = refl;
  sample_typed = refl;
  when_typed = refl;
}
