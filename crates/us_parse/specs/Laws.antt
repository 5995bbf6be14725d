-- What the answers of a reading mean, in the words of the grammar.
use Rattle.std.specs.Prelude.{◌≡◌, ℕ, List, Some}
use Rattle.us_tokens.specs.Text.{Text}
use Rattle.us_tokens.specs.Reading.{Means, scan, run}
use Rattle.us_decl.specs.Token.{Token}
use Rattle.us_decl.specs.declared.lexeme.Lexeme.{Lexeme}
use Rattle.us_decl.specs.Grammar.{Run, Empty, Decl, decl_tokens}
use Rattle.us_parse.specs.Piece.{Piece, AtFormat, spelled}
use Rattle.us_parse.specs.Machine.{reader, library_reader, library_tokens, Closed}

-- what is read is spelled so, and each fault is the first, where the earlier declarations have these names
abbrev pub ReadingLaw : Type 0
ReadingLaw = (earlier : List (List ℕ)) (text : Text Lexeme) → Means (reader earlier) text (scan (reader earlier) text AtFormat)

abbrev pub LibraryLaw : Type 0
LibraryLaw = (text : Text Lexeme) → Means library_reader text (scan library_reader text (Closed Empty))

-- no two declarations have one spelling, nor two libraries
abbrev pub SpellingLaw : Type 0
SpellingLaw = (x y : Decl) → decl_tokens x ≡ decl_tokens y → x ≡ y

abbrev pub LibrarySpellingLaw : Type 0
LibrarySpellingLaw = (x y : Run Decl) → library_tokens x ≡ library_tokens y → x ≡ y

-- the piece to which tokens lead spells these tokens
abbrev pub PieceLaw : Type 0
PieceLaw = (earlier : List (List ℕ)) (ts : List Token) (s : Piece) → run (reader earlier) ts AtFormat ≡ Some s → spelled s ≡ ts
