-- Printing and reading are inverse to each other.
use Rattle.std.specs.Prelude.{◌≡◌, ◌+◌, ℕ, List, [], ◌∷◌, ◌++◌, length, Result, Ok, Err}
use Rattle.us_tokens.specs.Lex.{lexed, Between}
use Rattle.us_tokens.specs.Reading.{scan, Read}
use Rattle.us_decl.specs.Words.{language}
use Rattle.us_decl.specs.Grammar.{Decl}
use Rattle.us_parse.specs.Piece.{AtFormat}
use Rattle.us_parse.specs.Machine.{reader}
use Rattle.us_decl.specs.Declares.{Declared, IsValid, declared}
use Rattle.us_print.specs.Canon.{decl_text}
use Rattle.us_decl.specs.declared.decl.Decl.{Decl as Value}
use Rattle.us_parse.specs.declared.parsed.OneDecl.{OneDecl}
use Rattle.us_parse.specs.declared.parsed.DeclFault.{DeclFault}
use Rattle.us_parse.specs.declared.parsed.DeclFault.TheVariants as fault
use Rattle.us_decl.specs.Views.{decl_view}
use Rattle.us_parse.specs.Parses.{ParsesOne}

-- in front of these bytes the canonical text is read as a text that declares d, up to the last brace, behind which the line ends
pub record IsReadBack (d : Declared) (rest : List ℕ) : Type 0 where
  pub text : Decl
  pub is : declared text ≡ d
  pub read : scan (reader []) (lexed language (decl_text d ++ rest) Between) AtFormat ≡ Read text (length (10 ∷ rest)) (lexed language (10 ∷ rest) Between)

abbrev pub ReadBackLaw : Type 0
ReadBackLaw = (d : Declared) → IsValid d → (rest : List ℕ) → IsReadBack d rest

-- two declarations have two canonical texts
abbrev pub CanonLaw : Type 0
CanonLaw = (a b : Declared) → IsValid a → IsValid b → decl_text a ≡ decl_text b → a ≡ b

-- what parsing answers of the canonical text of this declaration, which stands between other bytes: the declaration, and the place behind its last brace
abbrev pub GivesBack : Value → List ℕ → Result OneDecl DeclFault → Type 0
GivesBack d before (Ok one) = (one.decl ≡ d) × (one.end + 1 ≡ length before + length (decl_text (decl_view d)))
GivesBack d before (Err f) = f ≡ fault.Memory

abbrev pub ParseBackLaw : Type 0
ParseBackLaw =
    (d : Value) → IsValid (decl_view d) → (before rest : List ℕ) (result : Result OneDecl DeclFault)
    → ParsesOne (before ++ (decl_text (decl_view d) ++ rest)) (length before) result → GivesBack d before result
