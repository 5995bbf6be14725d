-- The commands, and the words that say them.
use Rattle.std.specs.Prelude.{ℕ, List, [], ◌∷◌, length, nat_le, nat_lt, ◌&&◌, map, Option, Some, None, string_bytes, codes, if◌then◌else◌, Bool, true, false, not}
use Rattle.std.specs.declared.string.String.{String}
use Rattle.std.specs.declared.alloc.Global.{Global}
use Rattle.std.specs.Str.{bytes_eq}
use Rattle.us_format.specs.Matrix.{Shape}
use Rattle.us_mm.specs.Words.{is_numeral}
use Rattle.us_mm.specs.Reads.{is_side}
use Rattle.std.specs.Str.Parse.{digits_value}
use Rattle.us_inputs.specs.Chains.{ends_in_text, is_chain, is_name}

pub data Command : Type 0 where
  Canon : List ℕ → List ℕ → Command  -- the names of the input and of the output
  Check : List ℕ → Shape → Command  -- the name of the library, and a shape
  -- the names of the library and of the input, the chain of formats, and the names of the output and of the listing, if one is wanted
  Convert : List ℕ → List ℕ → List ℕ → List ℕ → Option (List ℕ) → Command
  Run : List ℕ → List ℕ → List ℕ → ℕ → Command  -- the names of the code, of the input and of the output, and the most steps
  Info : List ℕ → Command  -- the name of the input
  Advise : List ℕ → List ℕ → List ℕ → Command  -- the names of the library and of the input, and the chain of formats
  Blocks : List ℕ → List ℕ → Command  -- the names of the input and of the output
  Generate : ℕ → ℕ → Shape → List ℕ → List ℕ → Command  -- a seed, a number of triples, a shape, the chain of formats, and the name of the library
  -- whether the operand is a vector, the names of the library and of the input, the chain of formats, and the names of the operand, of the output and of the
  -- listing, if one is wanted
  Product : Bool → List ℕ → List ℕ → List ℕ → List ℕ → List ℕ → Option (List ℕ) → Command
  Compile : List ℕ → Shape → List ℕ → List ℕ → List ℕ → Command  -- the name of the library, a shape, the formats of the source and of the target, and the name of the output

abbrev pub texts : List (String Global) → List (List ℕ)
texts words = map (λ w. string_bytes w) words

-- 1 to 20 digits that write a number from 1 to 2147483647: as many rows, or columns
unfoldable pub side_of : List ℕ → Option ℕ
side_of w = if is_numeral w && (nat_le (length w) 20 && is_side (digits_value 10 w)) then Some (digits_value 10 w) else None

-- 1 to 20 digits that write a number of at most 2^64 - 1: as many steps
unfoldable pub budget_of : List ℕ → Option ℕ
budget_of w = if is_numeral w && (nat_le (length w) 20 && nat_lt (digits_value 10 w) 18446744073709551616) then Some (digits_value 10 w) else None

abbrev pub canon_of : List (List ℕ) → Option Command
canon_of (input ∷ output ∷ []) = Some (Canon input output)
canon_of _ = None

abbrev pub check_on : List ℕ → Option ℕ → Option ℕ → Option Command
check_on formats (Some rows) (Some cols) = Some (Check formats (record { rows = rows; cols = cols }))
check_on formats _ _ = None

abbrev pub check_of : List (List ℕ) → Option Command
check_of (formats ∷ rows ∷ cols ∷ []) = check_on formats (side_of rows) (side_of cols)
check_of _ = None

abbrev pub compile_on : List ℕ → Option ℕ → Option ℕ → List ℕ → List ℕ → List ℕ → Option Command
compile_on formats (Some rows) (Some cols) source target output = Some (Compile formats (record { rows = rows; cols = cols }) source target output)
compile_on formats _ _ source target output = None

abbrev pub compile_of : List (List ℕ) → Option Command
compile_of (formats ∷ rows ∷ cols ∷ source ∷ target ∷ output ∷ []) =
    if is_name source && is_name target then compile_on formats (side_of rows) (side_of cols) source target output else None
compile_of _ = None

-- the word `-` says that no listing is wanted
abbrev pub listing_of : List ℕ → Option (List ℕ)
listing_of word = if bytes_eq word (codes "-") then None else Some word

abbrev pub convert_of : List (List ℕ) → Option Command
convert_of (formats ∷ input ∷ chain ∷ output ∷ listing ∷ []) =
    if is_chain chain then Some (Convert formats input chain output (listing_of listing)) else None
convert_of _ = None

abbrev pub run_with : List ℕ → List ℕ → List ℕ → Option ℕ → Option Command
run_with code input output (Some budget) = Some (Run code input output budget)
run_with code input output None = None

abbrev pub run_of : List (List ℕ) → Option Command
run_of (code ∷ input ∷ output ∷ steps ∷ []) = run_with code input output (budget_of steps)
run_of _ = None

abbrev pub info_of : List (List ℕ) → Option Command
info_of (input ∷ []) = Some (Info input)
info_of _ = None

-- a chain that doesn't end in the canonical text
abbrev pub names_formats : List ℕ → Bool
names_formats chain = is_chain chain && not (ends_in_text chain)

abbrev pub advise_of : List (List ℕ) → Option Command
advise_of (formats ∷ input ∷ chain ∷ []) = if names_formats chain then Some (Advise formats input chain) else None
advise_of _ = None

abbrev pub blocks_of : List (List ℕ) → Option Command
blocks_of (input ∷ output ∷ []) = Some (Blocks input output)
blocks_of _ = None

abbrev pub product_of : Bool → List (List ℕ) → Option Command
product_of vector (formats ∷ input ∷ chain ∷ operand ∷ output ∷ listing ∷ []) =
    if names_formats chain then Some (Product vector formats input chain operand output (listing_of listing)) else None
product_of vector _ = None

-- a number between two others
abbrev pub between : ℕ → ℕ → Option ℕ → Option ℕ
between low high (Some n) = if nat_le low n && nat_le n high then Some n else None
between low high None = None

-- a seed is from 1 to 2147483646
abbrev pub seed_of : List ℕ → Option ℕ
seed_of w = between 1 2147483646 (budget_of w)

-- there are at most 8388608 triples
abbrev pub count_of : List ℕ → Option ℕ
count_of w = between 0 8388608 (budget_of w)

abbrev pub generate_on : Option ℕ → Option ℕ → Option ℕ → Option ℕ → List ℕ → List ℕ → Option Command
generate_on (Some seed) (Some rows) (Some cols) (Some count) chain formats = Some (Generate seed count (record { rows = rows; cols = cols }) chain formats)
generate_on _ _ _ _ chain formats = None

abbrev pub generate_of : List (List ℕ) → Option Command
generate_of (seed ∷ rows ∷ cols ∷ count ∷ chain ∷ formats ∷ []) =
    if names_formats chain then generate_on (seed_of seed) (side_of rows) (side_of cols) (count_of count) chain formats else None
generate_of _ = None

-- the words behind a name, by the name
abbrev pub named : List ℕ → List (List ℕ) → Option Command
named name words =
    if bytes_eq name (codes "advise") then advise_of words
    else if bytes_eq name (codes "blocks") then blocks_of words
    else if bytes_eq name (codes "canon") then canon_of words
    else if bytes_eq name (codes "check") then check_of words
    else if bytes_eq name (codes "convert") then convert_of words
    else if bytes_eq name (codes "run") then run_of words
    else if bytes_eq name (codes "info") then info_of words
    else if bytes_eq name (codes "compile") then compile_of words
    else if bytes_eq name (codes "generate") then generate_of words
    else if bytes_eq name (codes "spmv") then product_of true words
    else if bytes_eq name (codes "spmm") then product_of false words
    else None

-- the command that the words say, none where they say none
abbrev pub command_of : List (List ℕ) → Option Command
command_of [] = None
command_of (name ∷ words) = named name words
