-- What `convert` writes means the input, and what it lists and what `compile` writes are right programs.
use Rattle.std.specs.Prelude.{◌≡◌, ◌≢◌, ℕ, List, [], Option, Some, None, Ok}
use Rattle.us_tokens.specs.Lex.{lexed, Between}
use Rattle.us_tokens.specs.Reading.{Means, scan}
use Rattle.us_grammar.specs.Reading as code
use Rattle.us_decl.specs.Declares.{Declared}
use Rattle.us_format.specs.Matrix.{Shape}
use Rattle.us_parse.specs.Machine.{library_reader, reader}
use Rattle.us_parse.specs.Piece.{AtFormat}
use Rattle.us_parse.specs.Parses.{tokens_of}
use Rattle.us_code_table.specs.Limits.{limits}
use Rattle.us_code_table.specs.Table.{Whole, grammar}
use Rattle.us_code_table.specs.Words.{language}
use Rattle.us_code_reader.specs.Parses.{answer_on}
use Rattle.us_outside.specs.Files.{Files, content_of}
use Rattle.us_status.specs.declared.status.Slot.TheVariants as slots
use Rattle.us_inputs.specs.Chains.{ends_in_text}
use Rattle.us_inputs.specs.Library.{reading_of}
use Rattle.us_inputs.specs.Steps.{Input, map_of, chain_in, input_at}
use Rattle.us_journeys.specs.Hops.{Hop, IsListingOf, LeadThrough}
use Rattle.us_top.specs.Compiling.{IsUnitOfPair, pair_in}
use Rattle.us_journeys.specs.Meanings.{LastIsMeant}

-- the bytes that a conversion of these files writes: a container of the input's matrix reads back and means it
abbrev pub MeansInput : List ℕ → List ℕ → List ℕ → Files → List ℕ → Type 0
MeansInput formats input chain fs bytes =
    (ds : List Declared) (i : Input) → chain_in (content_of fs formats) chain ≡ Ok ds → input_at slots.Input (content_of fs input) ≡ Ok i
    → LastIsMeant (ends_in_text chain) (map_of i) ds bytes

-- the bytes that a conversion of these files lists: the units of hops that lead the input through the formats of the chain, whose programs are right
abbrev pub ListsHops : List ℕ → List ℕ → List ℕ → Files → List ℕ → Type 0
ListsHops formats input chain fs bytes =
    (ds : List Declared) (i : Input) → chain_in (content_of fs formats) chain ≡ Ok ds → input_at slots.Input (content_of fs input) ≡ Ok i
    → (hops : List Hop) × LeadThrough ds i hops × IsListingOf hops bytes

-- so of the listing, where one is wanted
abbrev pub ListingMeans : Option (List ℕ) → List ℕ → List ℕ → List ℕ → Files → Files → Type 0
ListingMeans None formats input chain fs after = Unit {0}
ListingMeans (Some name) formats input chain fs after = ListsHops formats input chain fs (content_of after name)

-- what the files of a conversion mean, in the files that there are afterwards; where the listing has the output's name, that file holds the listing
abbrev pub ConversionMeans : List ℕ → List ℕ → List ℕ → List ℕ → Option (List ℕ) → Files → Files → Type 0
ConversionMeans formats input chain output listing fs after =
    (listing ≢ Some output → MeansInput formats input chain fs (content_of after output))
    × ListingMeans listing formats input chain fs after

-- the bytes that are compiled with these files are one unit: the target's declaration, and a right program
abbrev pub IsCompiled : List ℕ → Shape → List ℕ → List ℕ → Files → List ℕ → Type 0
IsCompiled formats shape source target fs bytes =
    (ds : List Declared) → pair_in (content_of fs formats) source target ≡ Ok ds → IsUnitOfPair ds shape bytes

-- what stands in front of these bytes is read as the grammars say, as a library, as one declaration and as one program of loop code: what is read is
-- spelled so and keeps the limits, and each fault is the first
pub record IsReadByGrammar (bytes : List ℕ) : Type 0 where
  pub library : Means library_reader (tokens_of bytes) (reading_of bytes)
  pub declaration : Means (reader []) (tokens_of bytes) (scan (reader []) (tokens_of bytes) AtFormat)
  pub program : code.Means grammar limits Whole (lexed language bytes Between) (answer_on bytes)

-- so of all bytes: the libraries, units and containers of all commands
abbrev pub AllAreReadByGrammar : Type 0
AllAreReadByGrammar = (bytes : List ℕ) → IsReadByGrammar bytes
