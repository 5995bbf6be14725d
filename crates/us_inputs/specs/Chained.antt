-- What a conversion starts from: the formats of a chain, and an input.
use Rattle.std.specs.Prelude.{ℕ, List, Result, Ok, ◌≡◌}
use Rattle.us_decl.specs.Declares.{Declared}
use Rattle.us_outside.specs.Files.{Files, content_of}
use Rattle.us_status.specs.declared.status.Status.{Status}
use Rattle.us_status.specs.declared.status.Slot.TheVariants as slots
use Rattle.us_inputs.specs.Steps.{Input, chain_in, input_at, map_of, within_limit}
use Rattle.us_status.specs.Answers.{then_step}

-- the formats of a chain, and the input
pub record Chained : Type 0 where
  pub formats : List Declared
  pub input : Input

-- all formats are within the limit
abbrev pub sized_step : List Declared → Input → Result Chained Status
sized_step ds i = then_step (within_limit (map_of i) 1 ds) (λ _. Ok (record { formats = ds; input = i }))

-- the steps before a conversion with these files: the formats are found and judged, then the input is read, then all sizes are tested
unfoldable pub chained_in : List ℕ → List ℕ → List ℕ → Files → Result Chained Status
chained_in formats input chain fs =
    then_step (chain_in (content_of fs formats) chain) (λ ds. then_step (input_at slots.Input (content_of fs input)) (sized_step ds))

-- the formats and the input are those of the files
pub record IsOfFiles (formats input chain : List ℕ) (c : Chained) (fs : Files) : Type 0 where
  pub found : chain_in (content_of fs formats) chain ≡ Ok c.formats
  pub read : input_at slots.Input (content_of fs input) ≡ Ok c.input
  pub steps : chained_in formats input chain fs ≡ Ok c
