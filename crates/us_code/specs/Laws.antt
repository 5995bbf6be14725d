-- Laws of the definitions.
use Rattle.std.specs.Prelude.{◌≡◌, [], ◌∷◌, Some, None}
use Rattle.us_code.specs.Runs.{Gave, TooBig, OutOfSteps, run, run_within}
use Rattle.us_code.specs.Unbound.{first_unbound}
use Rattle.us_code.specs.Sample.{sample, with_word_index, with_when, without_values, large_dim, container, rows, columns, zeros}

-- what the sample and its variants do
pub record SampleRuns : Type 0 where
  pub copies : run sample container ≡ Gave container 36
  pub in_budget : run_within sample container 36 ≡ Gave container 36
  pub out_of_budget : run_within sample container 35 ≡ OutOfSteps
  pub word_index : first_unbound with_word_index ≡ Some record { phase = 0; item = 5; rule = 2 }
  pub tested : run with_when container ≡ Gave container 43
  pub zeros_left : run without_values container ≡ Gave (rows ∷ columns ∷ zeros ∷ []) 26
  pub too_large : run large_dim [] ≡ TooBig 1
  pub counted_first : run_within large_dim [] 0 ≡ OutOfSteps
  pub sample_typed : first_unbound sample ≡ None
  pub when_typed : first_unbound with_when ≡ None
