-- Listings: units, one after the other.
use Rattle.std.specs.Prelude.{◌≡◌, ℕ, ◌-◌, List, [], ◌∷◌, length, drop, Option, Some, None}
use Rattle.std.specs.List.{flat_map}
use Rattle.us_tokens.specs.Text.{End}
use Rattle.us_tokens.specs.Reading.{Answer, Read, scan}
use Rattle.us_grammar.specs.Reading as code
use Rattle.us_decl.specs.declared.lexeme.Lexeme as words
use Rattle.us_decl.specs.Grammar.{Decl}
use Rattle.us_decl.specs.Declares.{Declared, IsValid, declared}
use Rattle.us_parse.specs.Within.{Break}
use Rattle.us_parse.specs.Piece.{AtFormat}
use Rattle.us_parse.specs.Machine.{reader}
use Rattle.us_parse.specs.Parses.{tokens_of}
use Rattle.us_code.specs.Limits.{KeepsLimits}
use Rattle.us_code.specs.Plain.{ProgramTree}
use Rattle.us_code_table.specs.declared.lexeme.Lexeme.{Lexeme}
use Rattle.us_code_table.specs.Limits as limits
use Rattle.us_code_print.specs.ReadBack.{IsNamed}
use Rattle.us_code_reader.specs.Parses.{answer_on}
use Rattle.us_unit.specs.Units.{PlainUnit, unit_text}

-- ---- the canonical text

-- a valid declaration, and a program that keeps the limits of text
pub record IsUnit (u : PlainUnit) : Type 0 where
  pub valid : IsValid u.target
  pub limits : KeepsLimits u.program
  pub named : IsNamed u.program

abbrev pub AllUnits : List PlainUnit → Type 0
AllUnits [] = Unit {0}
AllUnits (u ∷ us) = IsUnit u × AllUnits us

-- the canonical texts of units, one after the other
abbrev pub listing_text : List PlainUnit → List ℕ
listing_text us = flat_map (λ u. unit_text u.target u.program) us

-- the bytes are the listing of these units
pub record IsListing (us : List PlainUnit) (bytes : List ℕ) : Type 0 where
  pub text : bytes ≡ listing_text us
  pub units : AllUnits us

-- ---- reading

-- the program that was read in these bytes, behind this declaration, and the bytes behind its last brace
abbrev pub read_behind : List ℕ → Declared → code.Answer Lexeme ProgramTree limits.Break → Option (PlainUnit × List ℕ)
read_behind bytes d (code.Read p left more) = Some (record { target = d; program = p }, drop (length bytes - left) bytes)
read_behind bytes d _ = None

-- the declaration that was read in these bytes, and the program behind it
abbrev pub read_front : List ℕ → Answer words.Lexeme Decl Break → Option (PlainUnit × List ℕ)
read_front bytes (Read d left more) =
    let rest = drop (length bytes - left) bytes in
    read_behind rest (declared d) (answer_on rest)
read_front bytes _ = None

-- the unit that stands in front, and the bytes behind its last brace
abbrev pub first_unit : List ℕ → Option (PlainUnit × List ℕ)
first_unit bytes = read_front bytes (scan (reader []) (tokens_of bytes) AtFormat)

-- the bytes are read as these units, each from where the one before it ends; behind the last there are but blanks and comments
abbrev pub ReadAs : List PlainUnit → List ℕ → Type 0
ReadAs [] bytes = tokens_of bytes ≡ End
ReadAs (u ∷ us) bytes = (rest : List ℕ) × (first_unit bytes ≡ Some (u, rest)) × ReadAs us rest

-- ---- laws

-- a listing is read as its units
abbrev pub ListingsReadBack : Type 0
ListingsReadBack = (us : List PlainUnit) (bytes : List ℕ) → IsListing us bytes → ReadAs us bytes

-- no bytes are read as two lists of units
abbrev pub ReadOnce : Type 0
ReadOnce = (us vs : List PlainUnit) (bytes : List ℕ) → ReadAs us bytes → ReadAs vs bytes → us ≡ vs
