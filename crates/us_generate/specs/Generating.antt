-- What `generate` prints.
use Rattle.std.specs.Prelude.{◌≡◌, ℕ, ◌++◌, true, List, [], ◌∷◌, Some, Result, Ok}
use Rattle.us_matrix.specs.Map.{Map}
use Rattle.us_format.specs.Matrix.{Shape}
use Rattle.us_decl.specs.Declares.{Declared}
use Rattle.us_outside.specs.Files.{Files, content_of}
use Rattle.us_sample.specs.Numbers.{sample_of}
use Rattle.us_sample.specs.Totals.{line_of}
use Rattle.us_status.specs.declared.status.Slot.TheVariants as slots
use Rattle.us_status.specs.declared.status.Status.{Status}
use Rattle.us_status.specs.Answers.{then_step}
use Rattle.us_status.specs.Runs.{Task}
use Rattle.us_status.specs.Stands.{Outcome}
use Rattle.us_status.specs.Uses.{print_use, reads}
use Rattle.us_inputs.specs.Steps.{OfFile, chain_in, within_limit}
use Rattle.us_journeys.specs.Hops.{Hop, LeadThrough, hop_lines}

-- the matrix of a seed
abbrev pub generated : ℕ → Shape → ℕ → Map
generated seed s count = sample_of seed s.rows s.cols count

-- the formats of a chain, all within the limit on a matrix
abbrev pub sized : Map → List Declared → Result (List Declared) Status
sized m ds = then_step (within_limit m 1 ds) (λ _. Ok ds)

-- the steps with these files: the formats are found and judged, then all sizes are tested
unfoldable pub sized_in : Map → List ℕ → List ℕ → Files → Result (List Declared) Status
sized_in m formats chain fs = then_step (chain_in (content_of fs formats) chain) (sized m)

-- hops lead the matrix, from the built-in format, through the formats; the lines are one for each hop, and one for the matrix
pub record IsTold (m : Map) (ds : List Declared) (lines : List ℕ) : Type 0 where
  pub hops : List Hop
  pub leads : LeadThrough ds (OfFile m) hops
  pub are : lines ≡ hop_lines m hops ++ line_of m

-- such lines are printed, and nothing is stored
pub record IsGenerated (m : Map) (ds : List Declared) (o : Outcome) : Type 0 where
  pub lines : List ℕ
  pub told : IsTold m ds lines
  pub is : o ≡ record { stores = []; prints = Some lines }

-- converts the matrix of a seed through a chain of formats, and prints how it went
abbrev pub generate_task : ℕ → Shape → ℕ → List ℕ → List ℕ → Task
generate_task seed s count chain formats = record {
  Given = List Declared;
  uses = reads slots.Formats formats ∷ print_use ∷ [];
  prints = true;
  reached = λ fs. slots.Formats ∷ [];
  steps = λ fs. sized_in (generated seed s count) formats chain fs;
  Makes = λ ds o. IsGenerated (generated seed s count) ds o;
  Means = λ fs after. Unit {0};
}
