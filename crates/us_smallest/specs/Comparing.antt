-- What `advise` prints.
use Rattle.std.specs.Prelude.{◌≡◌, ℕ, true, List, [], ◌∷◌, Some, Result, Ok}
use Rattle.us_matrix.specs.Map.{Map}
use Rattle.us_decl.specs.Declares.{Declared}
use Rattle.us_advise.specs.Least.{size_in}
use Rattle.us_outside.specs.Files.{Files, content_of}
use Rattle.us_status.specs.declared.status.Slot.TheVariants as slots
use Rattle.us_status.specs.declared.status.Status.{Status}
use Rattle.us_status.specs.Answers.{behind, then_step}
use Rattle.us_status.specs.Runs.{Task}
use Rattle.us_status.specs.Uses.{print_use, reads}
use Rattle.us_inputs.specs.Chained.{Chained}
use Rattle.us_inputs.specs.Steps.{Input, chain_in, input_at, map_of}
use Rattle.us_smallest.specs.Tables.{table}

-- for each format a line with its name and its size, and behind them the smallest format: `NAME SIZE`, and `best NAME SIZE`
unfoldable pub advice_text : Map → List Declared → List ℕ
advice_text m ds = table (λ d. d.name) (size_in m) ds

abbrev pub chained : List Declared → Input → Result Chained Status
chained ds i = Ok (record { formats = ds; input = i })

-- the steps with these files: the formats are found and judged, then the input is read
unfoldable pub compared_in : List ℕ → List ℕ → List ℕ → Files → Result Chained Status
compared_in formats input chain fs =
    then_step (chain_in (content_of fs formats) chain) (λ ds. then_step (input_at slots.Input (content_of fs input)) (chained ds))

-- prints the sizes of the input's matrix in the formats, and the smallest format
abbrev pub advise_task : List ℕ → List ℕ → List ℕ → Task
advise_task formats input chain = record {
  Given = Chained;
  uses = reads slots.Formats formats ∷ reads slots.Input input ∷ print_use ∷ [];
  prints = true;
  reached = λ fs. slots.Formats ∷ behind (chain_in (content_of fs formats) chain) slots.Input;
  steps = λ fs. compared_in formats input chain fs;
  Makes = λ c o. o ≡ record { stores = []; prints = Some (advice_text (map_of c.input) c.formats) };
  Means = λ fs after. Unit {0};
}
