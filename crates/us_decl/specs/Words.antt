-- The words and symbols of declarations.
use Rattle.std.specs.Prelude.{ℕ, List, Bool, true, false, cond, eqb, ltb, ◌&&◌, length, Option, Some, None, codes}
use Rattle.std.specs.List.{prefix_len}
use Rattle.us_tokens.specs.Lex.{Language, first_is, is_letter, is_word}
use Rattle.us_decl.specs.declared.mark.Mark.{Mark}
use Rattle.us_decl.specs.declared.mark.Mark.TheVariants as mark
use Rattle.us_decl.specs.declared.lexeme.Lexeme.{Lexeme}
use Rattle.us_decl.specs.declared.lexeme.Lexeme.TheVariants as lexeme
use Rattle.us_decl.specs.Token.{Token, Fixed, Name, Number}
use Rattle.us_decl.specs.Names.{same_name}

-- the words that are no names: those of queries, columns and indices, and all
abbrev pub query_keyword : List ℕ → Option Mark
query_keyword w =
    cond (same_name w (codes "sum")) (Some mark.Sum) (
    cond (same_name w (codes "enumerate")) (Some mark.Enumerate) (
    cond (same_name w (codes "reorder")) (Some mark.Reorder) (
    cond (same_name w (codes "schedule")) (Some mark.Schedule) (
    cond (same_name w (codes "into")) (Some mark.Into) (
    cond (same_name w (codes "val")) (Some mark.Val) (
    cond (same_name w (codes "i")) (Some mark.I) (
    cond (same_name w (codes "j")) (Some mark.J) (
    cond (same_name w (codes "mtx")) (Some mark.Mtx)
    None))))))))

abbrev pub keyword : List ℕ → Option Mark
keyword w =
    cond (same_name w (codes "format")) (Some mark.Format) (
    cond (same_name w (codes "part")) (Some mark.Part) (
    cond (same_name w (codes "when")) (Some mark.When) (
    cond (same_name w (codes "rest")) (Some mark.Rest) (
    cond (same_name w (codes "let")) (Some mark.Let) (
    cond (same_name w (codes "map")) (Some mark.Map) (
    cond (same_name w (codes "trim")) (Some mark.Trim) (
    cond (same_name w (codes "merge")) (Some mark.Merge) (
    cond (same_name w (codes "pack")) (Some mark.Pack)
    (query_keyword w)))))))))

abbrev pub word_lexeme : Option Mark → Lexeme
word_lexeme None = lexeme.Name
word_lexeme (Some m) = lexeme.Fixed m

abbrev pub symbol : ℕ → Option Lexeme
symbol b =
    cond (eqb b 123) (Some (lexeme.Fixed mark.BraceOpen)) (
    cond (eqb b 125) (Some (lexeme.Fixed mark.BraceClose)) (
    cond (eqb b 40) (Some (lexeme.Fixed mark.Open)) (
    cond (eqb b 41) (Some (lexeme.Fixed mark.Close)) (
    cond (eqb b 44) (Some (lexeme.Fixed mark.Comma)) (
    cond (eqb b 61) (Some (lexeme.Fixed mark.Equal)) (
    cond (eqb b 43) (Some (lexeme.Fixed mark.Plus)) (
    cond (eqb b 45) (Some (lexeme.Fixed mark.Minus)) (
    cond (eqb b 47) (Some (lexeme.Fixed mark.Slash)) (
    cond (eqb b 37) (Some (lexeme.Fixed mark.Percent)) (
    cond (eqb b 60) (Some (lexeme.Fixed mark.Less))
    None))))))))))

-- >= is one symbol; > alone is none
abbrev pub pair : ℕ → ℕ → Option Lexeme
pair a b = cond (eqb a 62 && eqb b 61) (Some (lexeme.Fixed mark.AtLeast)) None

abbrev pub language : Language Lexeme
language = record {
  word = λ w. Some (word_lexeme (keyword w));
  number = lexeme.Number;
  limit = 2147483647;
  symbol = symbol;
  pair = pair;
}

-- the token that a lexeme is, with its bytes
abbrev pub token : Lexeme → List ℕ → Token
token (lexeme.Fixed m) w = Fixed m
token lexeme.Name w = Name w
token (lexeme.Number n) w = Number n

-- each byte passes
abbrev pub every : (ℕ → Bool) → List ℕ → Bool
every p w = eqb (prefix_len p w) (length w)

abbrev pub is_free : Option Mark → Bool
is_free None = true
is_free (Some m) = false

-- a letter or _, then letters, digits and _, of at most 32 bytes; no word of the grammar
abbrev pub is_name : List ℕ → Bool
is_name w = first_is is_letter w && (every is_word w && (is_free (keyword w) && ltb (length w) 33))
