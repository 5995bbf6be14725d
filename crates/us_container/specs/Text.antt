-- The text of a container: the canonical text of a declaration and nothing else, or the first place at which it is not.
use Rattle.std.specs.Prelude.{ℕ, suc, ◌-◌, List, [], ◌∷◌, length, drop, nat_eq, if◌then◌else◌, Option, Some, None, Result, Ok, Err}
use Rattle.std.specs.Option.{option_map}
use Rattle.us_tokens.specs.Text as text
use Rattle.us_tokens.specs.Text.{left_of}
use Rattle.us_tokens.specs.Text.{Text}
use Rattle.us_tokens.specs.Reading.{Answer, Read, Whole, NoToken, Form, Broken, scan}
use Rattle.us_decl.specs.declared.lexeme.Lexeme.{Lexeme}
use Rattle.us_decl.specs.Grammar.{Decl}
use Rattle.us_parse.specs.Within.{Break}
use Rattle.us_parse.specs.Piece.{AtFormat}
use Rattle.us_parse.specs.Machine.{reader}
use Rattle.us_parse.specs.Parses.{tokens_of}
use Rattle.us_decl.specs.Declares.{Declared, declared}
use Rattle.us_print.specs.Canon.{decl_text}

-- the first place at which two lists differ, or at which one of them ends
abbrev pub first_difference : List ℕ → List ℕ → Option ℕ
first_difference [] [] = None
first_difference [] (y ∷ ys) = Some 0
first_difference (x ∷ xs) [] = Some 0
first_difference (x ∷ xs) (y ∷ ys) = if nat_eq x y then option_map suc (first_difference xs ys) else Some 0

-- the text is the canonical text of the declaration, or the place at which it is not
abbrev pub if_canonical : List ℕ → Declared → Option ℕ → Result Declared ℕ
if_canonical bytes d None = Ok d
if_canonical bytes d (Some place) = Err place

-- what stands behind the declaration: nothing but blanks and comments, or the place of the first other byte
abbrev pub if_alone : List ℕ → Declared → Text Lexeme → Result Declared ℕ
if_alone bytes d text.End = if_canonical bytes d (first_difference bytes (decl_text d))
if_alone bytes d behind = Err (length bytes - left_of behind)

-- what the reading of one declaration says
abbrev pub by_answer : List ℕ → Answer Lexeme Decl Break → Result Declared ℕ
by_answer bytes (Read d behind more) = if_alone bytes (declared d) (tokens_of (drop (length bytes - behind) bytes))
by_answer bytes (Whole d) = if_alone bytes (declared d) text.End
by_answer bytes (NoToken left) = Err (length bytes - left)
by_answer bytes (Form left) = Err (length bytes - left)
by_answer bytes (Broken limit left) = Err (length bytes - left)

-- the declaration whose canonical text these bytes are, or the first place at which they are not: the first fault of reading a
-- declaration, the first byte behind it that belongs to no blank or comment, or the first difference from its canonical text
abbrev pub declaration_in : List ℕ → Result Declared ℕ
declaration_in bytes = by_answer bytes (scan (reader []) (tokens_of bytes) AtFormat)
