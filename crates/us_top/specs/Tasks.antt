-- What each command comes to where no call of the outside fails and there is memory enough.
use Rattle.std.specs.Prelude.{◌≡◌, ℕ, List, [], ◌∷◌, ◌++◌, Option, Some, None, true, false}
use Rattle.us_mm.specs.Text.{text}
use Rattle.us_format.specs.Matrix.{Shape}
use Rattle.us_decl.specs.Declares.{Declared}
use Rattle.us_outside.specs.Files.{Files, content_of}
use Rattle.us_status.specs.declared.status.Slot.TheVariants as slots
use Rattle.us_status.specs.Uses.{reads, stores, print_use, listing_uses}
use Rattle.us_status.specs.Answers.{behind}
use Rattle.us_status.specs.Stands.{Store, Outcome, output_of, listing_store}
use Rattle.us_status.specs.Runs.{Task}
use Rattle.us_inputs.specs.Steps.{Input, library_at, input_at, map_of, chain_in}
use Rattle.us_inputs.specs.Chained.{Chained, chained_in}
use Rattle.us_journeys.specs.Converting.{written}
use Rattle.us_journeys.specs.Hops.{Hop, IsListingOf, LeadThrough, hop_lines}
use Rattle.us_generate.specs.Generating.{generate_task}
use Rattle.us_products.specs.Tasks.{product_task}
use Rattle.us_smallest.specs.Blocking.{blocks_task}
use Rattle.us_smallest.specs.Comparing.{advise_task}
use Rattle.us_top.specs.Commands.{Command, Advise, Blocks, Canon, Check, Convert, Run, Info, Compile, Generate, Product}
use Rattle.us_top.specs.Running.{Made, run_in, unit_at}
use Rattle.us_top.specs.Compiling.{IsUnitOfPair, pair_in}
use Rattle.us_top.specs.Report.{report}
use Rattle.us_top.specs.Info.{info_text}
use Rattle.us_top.specs.Headline.{ConversionMeans, IsCompiled}

-- the store of a listing, where one is wanted
abbrev pub IsListed : Option (List ℕ) → List Hop → List Store → Type 0
IsListed None hops stores = stores ≡ []
IsListed (Some name) hops stores = (bytes : List ℕ) × IsListingOf hops bytes × (stores ≡ listing_store name bytes ∷ [])

-- hops lead the input through the formats of the chain; stored are the container in the last format, or the canonical text, and behind it the
-- listing of the hops; printed is a line for each hop
pub record IsConversion (chain output : List ℕ) (listing : Option (List ℕ)) (c : Chained) (o : Outcome) : Type 0 where
  pub hops : List Hop
  pub leads : LeadThrough c.formats c.input hops
  pub more : List Store
  pub listed : IsListed listing hops more
  pub is :
      o
      ≡ record { stores = output_of output (written chain c.formats (map_of c.input)) ∷ more; prints = Some (hop_lines (map_of c.input) hops) }

-- stores the canonical text of the input's matrix
abbrev pub canon_task : List ℕ → List ℕ → Task
canon_task input output = record {
  Given = Input;
  uses = reads slots.Input input ∷ stores slots.Output output ∷ [];
  prints = false;
  reached = λ fs. slots.Input ∷ [];
  steps = λ fs. input_at slots.Input (content_of fs input);
  Makes = λ i o. o ≡ record { stores = output_of output (text (map_of i)) ∷ []; prints = None };
  Means = λ fs after. Unit {0};
}

-- prints a line for each declaration
abbrev pub check_task : List ℕ → Shape → Task
check_task formats shape = record {
  Given = List Declared;
  uses = reads slots.Formats formats ∷ print_use ∷ [];
  prints = true;
  reached = λ fs. slots.Formats ∷ [];
  steps = λ fs. library_at slots.Formats (content_of fs formats);
  Makes = λ ds o. o ≡ record { stores = []; prints = Some (report shape ds) };
  Means = λ fs after. Unit {0};
}

-- stores and lists what a conversion makes
abbrev pub convert_task : List ℕ → List ℕ → List ℕ → List ℕ → Option (List ℕ) → Task
convert_task formats input chain output listing = record {
  Given = Chained;
  uses = reads slots.Formats formats ∷ reads slots.Input input ∷ stores slots.Output output ∷ (listing_uses listing ++ (print_use ∷ []));
  prints = true;
  reached = λ fs. slots.Formats ∷ behind (chain_in (content_of fs formats) chain) slots.Input;
  steps = λ fs. chained_in formats input chain fs;
  Makes = λ c o. IsConversion chain output listing c o;
  Means = λ fs after. ConversionMeans formats input chain output listing fs after;
}

-- stores the container of what loop code gives, and prints its steps
abbrev pub run_task : List ℕ → List ℕ → List ℕ → ℕ → Task
run_task code input output budget = record {
  Given = Made;
  uses = reads slots.Code code ∷ reads slots.Input input ∷ stores slots.Output output ∷ print_use ∷ [];
  prints = true;
  reached = λ fs. slots.Code ∷ behind (unit_at (content_of fs code)) slots.Input;
  steps = λ fs. run_in code input budget fs;
  Makes = λ made o. o ≡ record { stores = output_of output made.bytes ∷ []; prints = Some made.lines };
  Means = λ fs after. Unit {0};
}

-- prints what the input is
abbrev pub info_task : List ℕ → Task
info_task input = record {
  Given = Input;
  uses = reads slots.Input input ∷ print_use ∷ [];
  prints = true;
  reached = λ fs. slots.Input ∷ [];
  steps = λ fs. input_at slots.Input (content_of fs input);
  Makes = λ i o. o ≡ record { stores = []; prints = Some (info_text i) };
  Means = λ fs after. Unit {0};
}

-- stores a unit of the two formats
abbrev pub compile_task : List ℕ → Shape → List ℕ → List ℕ → List ℕ → Task
compile_task formats shape source target output = record {
  Given = List Declared;
  uses = reads slots.Formats formats ∷ stores slots.Output output ∷ [];
  prints = false;
  reached = λ fs. slots.Formats ∷ [];
  steps = λ fs. pair_in (content_of fs formats) source target;
  Makes = λ ds o. (bytes : List ℕ) × (o ≡ record { stores = output_of output bytes ∷ []; prints = None }) × IsUnitOfPair ds shape bytes;
  Means = λ fs after. IsCompiled formats shape source target fs (content_of after output);
}

-- what a command is to do
abbrev pub task_of : Command → Task
task_of (Canon input output) = canon_task input output
task_of (Check formats shape) = check_task formats shape
task_of (Convert formats input chain output listing) = convert_task formats input chain output listing
task_of (Run code input output budget) = run_task code input output budget
task_of (Info input) = info_task input
task_of (Compile formats shape source target output) = compile_task formats shape source target output
task_of (Advise formats input chain) = advise_task formats input chain
task_of (Blocks input output) = blocks_task input output
task_of (Generate seed count shape chain formats) = generate_task seed shape count chain formats
task_of (Product vector formats input chain operand output listing) = product_task vector formats input chain operand output listing
