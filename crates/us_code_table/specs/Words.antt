-- The words, names and symbols of loop code.
use Rattle.std.specs.Prelude.{ℕ, zero, suc, List, [], ◌∷◌, Bool, true, false, cond, not, eqb, ltb, ◌&&◌, ◌||◌, length, Option, Some, None, codes}
use Rattle.std.specs.List.{prefix_len}
use Rattle.us_tokens.specs.Lex.{Language, is_digit, capped_value}
use Rattle.us_code_table.specs.declared.mark.Mark.{Mark}
use Rattle.us_code_table.specs.declared.mark.Mark.TheVariants as m
use Rattle.us_code_table.specs.declared.lexeme.Lexeme.{Lexeme}
use Rattle.us_code_table.specs.declared.lexeme.Lexeme.TheVariants as lexeme
use Rattle.us_code_table.specs.Table.{Token, Word, ARegister, ABuffer, ASource, ADimName, ALength, AZero, AOne, AMany}

abbrev pub same_word : List ℕ → List ℕ → Bool
same_word [] [] = true
same_word [] (b ∷ bs) = false
same_word (a ∷ as') [] = false
same_word (a ∷ as') (b ∷ bs) = eqb a b && same_word as' bs

abbrev pub phase_word : List ℕ → Option Mark
phase_word w =
    cond (same_word w (codes "code")) (Some m.Code) (
    cond (same_word w (codes "phase")) (Some m.Phase) (
    cond (same_word w (codes "new")) (Some m.New) (
    cond (same_word w (codes "word")) (Some m.Word) (
    cond (same_word w (codes "below")) (Some m.Below) (
    cond (same_word w (codes "do")) (Some m.Do) (
    cond (same_word w (codes "dim")) (Some m.Dim) (
    cond (same_word w (codes "of")) (Some m.Of) (
    cond (same_word w (codes "give")) (Some m.Give)
    None))))))))

abbrev pub statement_word : List ℕ → Option Mark
statement_word w =
    cond (same_word w (codes "let")) (Some m.Let) (
    cond (same_word w (codes "var")) (Some m.Var) (
    cond (same_word w (codes "put")) (Some m.Put) (
    cond (same_word w (codes "set")) (Some m.Set) (
    cond (same_word w (codes "for")) (Some m.For) (
    cond (same_word w (codes "in")) (Some m.In) (
    cond (same_word w (codes "to")) (Some m.To) (
    cond (same_word w (codes "if")) (Some m.If) (
    cond (same_word w (codes "else")) (Some m.Else) (
    cond (same_word w (codes "when")) (Some m.When) (
    cond (same_word w (codes "as")) (Some m.As) (
    cond (same_word w (codes "order")) (Some m.Order) (
    cond (same_word w (codes "by")) (Some m.By)
    None))))))))))))

abbrev pub mark_or : Option Mark → Option Mark → Option Mark
mark_or (Some a) o = Some a
mark_or None o = o

abbrev pub keyword : List ℕ → Option Mark
keyword w =
    cond (same_word w (codes "size")) (Some m.Size) (
    cond (same_word w (codes "flat")) (Some m.Flat) (
    cond (same_word w (codes "next")) (Some m.Next) (
    cond (same_word w (codes "up")) (Some m.Up)
    (mark_or (statement_word w) (phase_word w)))))

-- each byte is a digit
abbrev pub every_digit : List ℕ → Bool
every_digit w = eqb (prefix_len is_digit w) (length w)

abbrev pub begins_with_zero : List ℕ → Bool
begins_with_zero [] = false
begins_with_zero (b ∷ w) = eqb b 48

-- the number of a name: digits, and no zero in front of others
abbrev pub is_numeral : List ℕ → Bool
is_numeral w = ltb 0 (length w) && (every_digit w && (eqb (length w) 1 || not (begins_with_zero w)))

abbrev pub lettered : ℕ → ℕ → Option Lexeme
lettered b n =
    cond (eqb b 114) (Some (lexeme.Register n)) (
    cond (eqb b 98) (Some (lexeme.Buffer n)) (
    cond (eqb b 100) (Some (lexeme.DimName n)) (
    cond (eqb b 115) (Some (lexeme.Source n))
    None)))

-- a number of 2^32 or more comes as 2^32
abbrev pub number_in : List ℕ → ℕ
number_in w = capped_value 4294967295 w

-- en and a number, behind an l
abbrev pub length_name : List ℕ → Option Lexeme
length_name [] = None
length_name (a ∷ []) = None
length_name (a ∷ b ∷ w) = cond (eqb a 101 && (eqb b 110 && is_numeral w)) (Some (lexeme.Length (number_in w))) None

-- r, b, d, s or len, followed at once by a number
abbrev pub name : List ℕ → Option Lexeme
name [] = None
name (b ∷ w) = cond (is_numeral w) (lettered b (number_in w)) (cond (eqb b 108) (length_name w) None)

abbrev pub word_or_name : Option Mark → List ℕ → Option Lexeme
word_or_name (Some mark) w = Some (lexeme.Fixed mark)
word_or_name None w = name w

abbrev pub symbol : ℕ → Option Lexeme
symbol b =
    cond (eqb b 123) (Some (lexeme.Fixed m.BraceOpen)) (
    cond (eqb b 125) (Some (lexeme.Fixed m.BraceClose)) (
    cond (eqb b 40) (Some (lexeme.Fixed m.Open)) (
    cond (eqb b 41) (Some (lexeme.Fixed m.Close)) (
    cond (eqb b 91) (Some (lexeme.Fixed m.BracketOpen)) (
    cond (eqb b 93) (Some (lexeme.Fixed m.BracketClose)) (
    cond (eqb b 44) (Some (lexeme.Fixed m.Comma)) (
    cond (eqb b 61) (Some (lexeme.Fixed m.Equal)) (
    cond (eqb b 43) (Some (lexeme.Fixed m.Plus)) (
    cond (eqb b 45) (Some (lexeme.Fixed m.Minus)) (
    cond (eqb b 42) (Some (lexeme.Fixed m.Star)) (
    cond (eqb b 47) (Some (lexeme.Fixed m.Slash)) (
    cond (eqb b 37) (Some (lexeme.Fixed m.Percent)) (
    cond (eqb b 60) (Some (lexeme.Fixed m.Less))
    None)))))))))))))

-- two equal signs are one symbol
abbrev pub pair : ℕ → ℕ → Option Lexeme
pair a b = cond (eqb a 61 && eqb b 61) (Some (lexeme.Fixed m.Same)) None

abbrev pub language : Language Lexeme
language = record {
  word = λ w. word_or_name (keyword w) w;
  number = lexeme.Number;
  limit = 9223372036854775807;
  symbol = symbol;
  pair = pair;
}

-- the token of the table that a lexeme is
abbrev pub token : Lexeme → Token
token (lexeme.Fixed k) = record { class = Word k; value = 0 }
token (lexeme.Register n) = record { class = ARegister; value = n }
token (lexeme.Buffer n) = record { class = ABuffer; value = n }
token (lexeme.DimName n) = record { class = ADimName; value = n }
token (lexeme.Source n) = record { class = ASource; value = n }
token (lexeme.Length n) = record { class = ALength; value = n }
token (lexeme.Number zero) = record { class = AZero; value = 0 }
token (lexeme.Number (suc zero)) = record { class = AOne; value = 1 }
token (lexeme.Number (suc (suc n))) = record { class = AMany; value = suc (suc n) }
