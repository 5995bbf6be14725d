-- What `blocks` stores and prints.
use Rattle.std.specs.Prelude.{◌≡◌, ℕ, true, List, [], ◌∷◌, ◌++◌, map, codes, Option, Some, None, Result, Ok, Err}
use Rattle.std.specs.Fmt.{decimal}
use Rattle.std.specs.List.{range_with_len}
use Rattle.us_matrix.specs.Map.{Map}
use Rattle.us_format.specs.Lists.{join}
use Rattle.us_advise.specs.Blocks.{block}
use Rattle.us_advise.specs.Least.{size_in}
use Rattle.us_print.specs.Canon.{decl_text}
use Rattle.us_outside.specs.Files.{Files, content_of}
use Rattle.us_status.specs.declared.status.Slot.TheVariants as slots
use Rattle.us_status.specs.declared.status.Status.{Status}
use Rattle.us_status.specs.declared.status.Status.TheVariants.{TooLarge}
use Rattle.us_status.specs.Answers.{then_step}
use Rattle.us_status.specs.Runs.{Task}
use Rattle.us_status.specs.Stands.{output_of}
use Rattle.us_status.specs.Uses.{print_use, reads, stores}
use Rattle.us_inputs.specs.Library.{library_in}
use Rattle.us_inputs.specs.Steps.{Input, input_at, map_of}
use Rattle.us_smallest.specs.declared.sides.Sides.{Sides}
use Rattle.us_smallest.specs.Tables.{smallest, table}

-- 1 to 8 rows and 1 to 8 columns, by rows and then by columns
unfoldable pub all_sides : List Sides
all_sides = join (map (λ p. map (λ q. record { rows = p; cols = q }) (range_with_len 1 8)) (range_with_len 1 8))

-- rows, a blank, columns
abbrev pub sides_text : Sides → List ℕ
sides_text s = decimal s.rows ++ (codes " " ++ decimal s.cols)

-- the size of a matrix in the blocks of so many rows and columns
unfoldable pub block_size : Map → Sides → ℕ
block_size m s = size_in m (block s.rows s.cols)

-- for all blocks a line with rows, columns and size, and behind them the smallest: `P Q SIZE`, and `best P Q SIZE`
unfoldable pub blocks_text : Map → List ℕ
blocks_text m = table sides_text (block_size m) all_sides

unfoldable pub best_sides : Map → Option Sides
best_sides m = smallest (block_size m) all_sides

-- a matrix, and the sides of its smallest blocks
pub record Blocked : Type 0 where
  pub matrix : Map
  pub best : Sides

-- all blocks are above the limit where none is the smallest
abbrev pub blocked : Map → Option Sides → Result Blocked Status
blocked m (Some s) = Ok (record { matrix = m; best = s })
blocked m None = Err (TooLarge 1)

abbrev pub best_step : Input → Result Blocked Status
best_step i = blocked (map_of i) (best_sides (map_of i))

-- the steps with these files: the input is read, then its smallest blocks are found
unfoldable pub blocked_in : List ℕ → Files → Result Blocked Status
blocked_in input fs = then_step (input_at slots.Input (content_of fs input)) best_step

-- with these files, the bytes are read as one declaration: that of the smallest blocks
abbrev pub HoldsBest : List ℕ → Files → List ℕ → Type 0
HoldsBest input fs bytes = (b : Blocked) → blocked_in input fs ≡ Ok b → library_in bytes ≡ Ok (block b.best.rows b.best.cols ∷ [])

-- stores the declaration of the smallest blocks of the input's matrix, and prints all sizes
abbrev pub blocks_task : List ℕ → List ℕ → Task
blocks_task input output = record {
  Given = Blocked;
  uses = reads slots.Input input ∷ stores slots.Output output ∷ print_use ∷ [];
  prints = true;
  reached = λ fs. slots.Input ∷ [];
  steps = λ fs. blocked_in input fs;
  Makes = λ b o. o ≡ record { stores = output_of output (decl_text (block b.best.rows b.best.cols)) ∷ []; prints = Some (blocks_text b.matrix) };
  Means = λ fs after. HoldsBest input fs (content_of after output);
}
