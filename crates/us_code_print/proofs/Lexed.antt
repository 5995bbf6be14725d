-- Names and numbers of a canonical text are read as their tokens.
use Rattle.std.proofs.Common.{◌≡◌, ◌<◌, ◌≤◌, ℕ, zero, suc, ◌^◌, List, [], ◌∷◌, ◌++◌, Bool, true, false, not, cond, eqb, ltb, leb, ◌&&◌, ◌||◌, length, get_or, codes, Option, Some, None, refl, sym, ap, ◌∙◌, arith, lit<}
use Rattle.std.proofs.lemmas.Bool.Decides.{nat_tests}
use Rattle.std.proofs.lemmas.Fmt.{decimal_nonempty, digits_decimal, digits_value-decimal, first_decimal, decimal_digit}
use Rattle.std.proofs.lemmas.Str.Parse.{IsDigitsTest, FoldsDigits, IsNumeralModel, numerals_by_fold}
use Rattle.std.specs.Fmt.{decimal}
use Rattle.std.specs.List.{prefix_len, list_all}
use Rattle.us_tokens.specs.Text.{Then}
use Rattle.us_tokens.specs.Lex.{Between, lexed, is_letter, is_digit, is_word, first_is, decimal_value}
use Rattle.us_tokens.proofs.Back.{IsWord, lexed-word, lexed-decimal, prefix_len-all}
use Rattle.us_code_table.specs.declared.mark.Mark.{Mark}
use Rattle.us_code_table.specs.declared.mark.Mark.TheVariants as m
use Rattle.us_code_table.specs.declared.lexeme.Lexeme.{Lexeme}
use Rattle.us_code_table.specs.declared.lexeme.Lexeme.TheVariants as lexeme
use Rattle.us_code_table.specs.Words.{language, keyword, mark_or, same_word, is_numeral, every_digit, begins_with_zero, lettered, number_in, length_name, name, word_or_name}
use Rattle.us_code_print.specs.Canon.{name_text}
use Rattle.us_code_print.proofs.Printed.{append_nil}

-- the bytes are one token in front of others
abbrev pub Lexes : Lexeme → List ℕ → List ℕ → Type 0
Lexes l w rest = lexed language (w ++ rest) Between ≡ Then l w (length rest) (lexed language rest Between)

-- no word goes on here
abbrev pub Stops : List ℕ → Type 0
Stops rest = first_is is_word rest ≡ false

and_parts : (x y : Bool) → (x && y) ≡ true → (x ≡ true) × (y ≡ true)
and_parts true y e = (refl, e)
and_parts false y e = absurd cc

or_second : (x y : Bool) → y ≡ true → (x || y) ≡ true
or_second true y e = refl
or_second false y e = e

or_first : (x y : Bool) → x ≡ true → (x || y) ≡ true
or_first true y e = refl
or_first false y e = absurd cc

no_second : (x y : Bool) → (x || y) ≡ false → y ≡ false
no_second true y e = absurd cc
no_second false y e = e

no_digit : (rest : List ℕ) → Stops rest → first_is is_digit rest ≡ false
no_digit [] stop = refl
no_digit (b ∷ bs) stop = no_second (is_letter b) (is_digit b) stop

-- Digits of a number

digit_bounds : (c : ℕ) → is_digit c ≡ true → (48 ≤ c) × (c ≤ 57)
digit_bounds c e =
    let p = and_parts (leb 48 c) (leb c 57) e in
    (grind (arith, nat_tests), grind (arith, nat_tests))

in_digits : (c : ℕ) → 48 ≤ c → c ≤ 57 → is_digit c ≡ true
in_digits c low high = grind (arith, nat_tests)

digits_test : IsDigitsTest (λ ds. list_all is_digit ds ≡ true)
digits_test = record {
  empty = refl;
  parts = λ c cs e. let p = and_parts (is_digit c) (list_all is_digit cs) e in (digit_bounds c p.0, p.1);
  more = λ c cs p e. ap (λ (t : Bool). t && list_all is_digit cs) (in_digits c p.0 p.1) ∙ e;
}

folds : FoldsDigits (λ n ds. decimal_value ds n)
folds = record { empty = λ n. refl; more = λ n c cs p. refl }

numerals : IsNumeralModel (λ ds. list_all is_digit ds ≡ true) (λ ds. decimal_value ds 0)
numerals = numerals_by_fold _ digits_test (λ n ds. decimal_value ds n) folds

all_digits : (n : ℕ) → n < 2 ^ 32 → list_all is_digit (decimal n) ≡ true
all_digits n h = digits_decimal numerals n (omega arith)

some_digit : (n : ℕ) → n < 2 ^ 32 → 0 < length (decimal n)
some_digit n h = decimal_nonempty n (omega arith)

value_is : (n : ℕ) → n < 2 ^ 32 → number_in (decimal n) ≡ n
value_is n h = let e : decimal_value (decimal n) 0 ≡ n = digits_value-decimal numerals n (omega arith) in omega (arith, e)

words_of_digits : (w : List ℕ) → list_all is_digit w ≡ true → list_all is_word w ≡ true
words_of_digits [] e = refl
words_of_digits (b ∷ bs) e =
    let p = and_parts (is_digit b) (list_all is_digit bs) e in
    ap (λ (x : Bool). x && list_all is_word bs) (or_second (is_letter b) (is_digit b) p.0) ∙ words_of_digits bs p.1

same_number : (a b : ℕ) → a ≡ b → eqb a b ≡ true
same_number a b h = grind (arith, nat_tests)

more : (n : ℕ) → 0 < n → ltb 0 n ≡ true
more n h = grind (arith, nat_tests)

all_prefix : (w : List ℕ) → list_all is_digit w ≡ true → every_digit w ≡ true
all_prefix w all = same_number (prefix_len is_digit w) (length w) (ap (prefix_len is_digit) (sym (append_nil w)) ∙ prefix_len-all is_digit w [] all refl)

no_zero : (w : List ℕ) → 48 < get_or w 0 0 → begins_with_zero w ≡ false
no_zero [] h = refl
no_zero (b ∷ bs) h = grind (arith, nat_tests)

lone_or_no_zero : (n : ℕ) → n < 2 ^ 32 → (eqb (length (decimal n)) 1 || not (begins_with_zero (decimal n))) ≡ true
lone_or_no_zero zero h = ap (λ (w : List ℕ). eqb (length w) 1 || not (begins_with_zero w)) (decimal_digit 0 (lit< tt))
lone_or_no_zero (suc n) h = or_second (eqb (length (decimal (suc n))) 1) (not (begins_with_zero (decimal (suc n)))) (ap not (no_zero (decimal (suc n)) (first_decimal (suc n) (omega arith) (omega arith))))

numeral : (n : ℕ) → n < 2 ^ 32 → is_numeral (decimal n) ≡ true
numeral n h =
    let w = decimal n in
    ap (λ (x : Bool). x && (every_digit w && (eqb (length w) 1 || not (begins_with_zero w)))) (more (length w) (some_digit n h))
    ∙ ap (λ (x : Bool). x && (eqb (length w) 1 || not (begins_with_zero w))) (all_prefix w (all_digits n h))
    ∙ lone_or_no_zero n h

-- Names

named : (b n : ℕ) (l : Lexeme) → n < 2 ^ 32 → lettered b n ≡ Some l → name (b ∷ decimal n) ≡ Some l
named b n l h e =
    ap (λ (x : Bool). cond x (lettered b (number_in (decimal n))) (cond (eqb b 108) (length_name (decimal n)) None)) (numeral n h)
    ∙ ap (lettered b) (value_is n h)
    ∙ e

name_word : (b n : ℕ) → n < 2 ^ 32 → is_letter b ≡ true → IsWord (b ∷ decimal n)
name_word b n h letter = record {
  first = letter;
  all = ap (λ (x : Bool). x && list_all is_word (decimal n)) (or_first (is_letter b) (is_digit b) letter) ∙ words_of_digits (decimal n) (all_digits n h);
}

name_lexes : (b n : ℕ) (l : Lexeme) (rest : List ℕ) → n < 2 ^ 32 → is_letter b ≡ true → keyword (b ∷ decimal n) ≡ None → lettered b n ≡ Some l → Stops rest → Lexes l (b ∷ decimal n) rest
name_lexes b n l rest h letter free is stop =
    lexed-word language (b ∷ decimal n) l rest (name_word b n h letter) (ap (λ (o : Option Mark). word_or_name o (b ∷ decimal n)) free ∙ named b n l h is) stop

-- a digit is no letter
other : (c b : ℕ) → is_digit c ≡ true → 57 < b → eqb c b ≡ false
other c b e h = let p = digit_bounds c e in grind (arith, nat_tests)

no_buffer : (w : List ℕ) → 0 < length w → list_all is_digit w ≡ true → keyword (98 ∷ w) ≡ None
no_buffer [] some all = absurd (omega arith)
no_buffer (c ∷ v) some all =
    let digit = (and_parts (is_digit c) (list_all is_digit v) all).0 in
    ap (λ (x : Bool). mark_or (cond (x && same_word v []) (Some m.By) None) (cond (eqb c 101 && same_word v (codes "low")) (Some m.Below) None)) (other c 121 digit (lit< tt))
    ∙ ap (λ (x : Bool). cond (x && same_word v (codes "low")) (Some m.Below) None) (other c 101 digit (lit< tt))

no_source : (w : List ℕ) → 0 < length w → list_all is_digit w ≡ true → keyword (115 ∷ w) ≡ None
no_source [] some all = absurd (omega arith)
no_source (c ∷ v) some all =
    let digit = (and_parts (is_digit c) (list_all is_digit v) all).0 in
    ap (λ (x : Bool). cond (x && same_word v (codes "ze")) (Some m.Size) (mark_or (cond (eqb c 101 && same_word v (codes "t")) (Some m.Set) None) None)) (other c 105 digit (lit< tt))
    ∙ ap (λ (x : Bool). mark_or (cond (x && same_word v (codes "t")) (Some m.Set) None) None) (other c 101 digit (lit< tt))

no_dim : (w : List ℕ) → 0 < length w → list_all is_digit w ≡ true → keyword (100 ∷ w) ≡ None
no_dim [] some all = absurd (omega arith)
no_dim (c ∷ v) some all =
    let digit = (and_parts (is_digit c) (list_all is_digit v) all).0 in
    ap (λ (x : Bool). cond (x && same_word v []) (Some m.Do) (cond (eqb c 105 && same_word v (codes "m")) (Some m.Dim) None)) (other c 111 digit (lit< tt))
    ∙ ap (λ (x : Bool). cond (x && same_word v (codes "m")) (Some m.Dim) None) (other c 105 digit (lit< tt))

pub register_lexes : (n : ℕ) (rest : List ℕ) → n < 2 ^ 32 → Stops rest → Lexes (lexeme.Register n) (name_text (codes "r") n) rest
register_lexes n rest h stop = name_lexes 114 n (lexeme.Register n) rest h refl refl refl stop

pub buffer_lexes : (n : ℕ) (rest : List ℕ) → n < 2 ^ 32 → Stops rest → Lexes (lexeme.Buffer n) (name_text (codes "b") n) rest
buffer_lexes n rest h stop = name_lexes 98 n (lexeme.Buffer n) rest h refl (no_buffer (decimal n) (some_digit n h) (all_digits n h)) refl stop

pub source_lexes : (n : ℕ) (rest : List ℕ) → n < 2 ^ 32 → Stops rest → Lexes (lexeme.Source n) (name_text (codes "s") n) rest
source_lexes n rest h stop = name_lexes 115 n (lexeme.Source n) rest h refl (no_source (decimal n) (some_digit n h) (all_digits n h)) refl stop

pub dim_lexes : (n : ℕ) (rest : List ℕ) → n < 2 ^ 32 → Stops rest → Lexes (lexeme.DimName n) (name_text (codes "d") n) rest
dim_lexes n rest h stop = name_lexes 100 n (lexeme.DimName n) rest h refl (no_dim (decimal n) (some_digit n h) (all_digits n h)) refl stop

-- a length begins with letters, so it is no numeral behind its first
some_length : (n : ℕ) → eqb 0 (suc n) ≡ false
some_length n = grind (arith, nat_tests)

not_numeral : (w : List ℕ) → is_numeral (101 ∷ w) ≡ false
not_numeral w = and_false (ltb 0 (length (101 ∷ w))) (every_digit (101 ∷ w)) (eqb (length (101 ∷ w)) 1 || true) (some_length (length w))
  where
    and_false : (x y z : Bool) → y ≡ false → (x && (y && z)) ≡ false
    and_false true true z e = absurd cc
    and_false true false z e = refl
    and_false false y z e = refl

length_named : (n : ℕ) → n < 2 ^ 32 → name (108 ∷ 101 ∷ 110 ∷ decimal n) ≡ Some (lexeme.Length n)
length_named n h =
    ap (λ (x : Bool). cond x (lettered 108 (number_in (101 ∷ 110 ∷ decimal n))) (length_name (101 ∷ 110 ∷ decimal n))) (not_numeral (110 ∷ decimal n))
    ∙ ap (λ (x : Bool). cond x (Some (lexeme.Length (number_in (decimal n)))) None) (numeral n h)
    ∙ ap (λ (v : ℕ). Some (lexeme.Length v)) (value_is n h)

pub length_lexes : (n : ℕ) (rest : List ℕ) → n < 2 ^ 32 → Stops rest → Lexes (lexeme.Length n) (name_text (codes "len") n) rest
length_lexes n rest h stop = lexed-word language (108 ∷ 101 ∷ 110 ∷ decimal n) (lexeme.Length n) rest record { first = refl; all = words_of_digits (decimal n) (all_digits n h) } (length_named n h) stop

pub number_lexes : (n : ℕ) (rest : List ℕ) → n < 2 ^ 63 → Stops rest → Lexes (lexeme.Number n) (decimal n) rest
number_lexes n rest h stop = let under : n ≤ 9223372036854775807 = omega arith in lexed-decimal language n rest (omega arith) under (no_digit rest stop)

-- Words and signs

pub word_lexes : (w : List ℕ) (c : Mark) (rest : List ℕ) → IsWord w → keyword w ≡ Some c → Stops rest → Lexes (lexeme.Fixed c) w rest
word_lexes w c rest word is stop = lexed-word language w (lexeme.Fixed c) rest word (ap (λ (o : Option Mark). word_or_name o w) is) stop

pub open_lexes : (rest : List ℕ) → Lexes (lexeme.Fixed m.Open) (40 ∷ []) rest
unfolding lexed
open_lexes [] = refl
open_lexes (b ∷ bs) = refl

pub close_lexes : (rest : List ℕ) → Lexes (lexeme.Fixed m.Close) (41 ∷ []) rest
unfolding lexed
close_lexes [] = refl
close_lexes (b ∷ bs) = refl

pub bracket_lexes : (rest : List ℕ) → Lexes (lexeme.Fixed m.BracketOpen) (91 ∷ []) rest
unfolding lexed
bracket_lexes [] = refl
bracket_lexes (b ∷ bs) = refl

pub bracket_end_lexes : (rest : List ℕ) → Lexes (lexeme.Fixed m.BracketClose) (93 ∷ []) rest
unfolding lexed
bracket_end_lexes [] = refl
bracket_end_lexes (b ∷ bs) = refl

pub brace_lexes : (rest : List ℕ) → Lexes (lexeme.Fixed m.BraceOpen) (123 ∷ []) rest
unfolding lexed
brace_lexes [] = refl
brace_lexes (b ∷ bs) = refl

pub brace_end_lexes : (rest : List ℕ) → Lexes (lexeme.Fixed m.BraceClose) (125 ∷ []) rest
unfolding lexed
brace_end_lexes [] = refl
brace_end_lexes (b ∷ bs) = refl

pub comma_lexes : (rest : List ℕ) → Lexes (lexeme.Fixed m.Comma) (44 ∷ []) rest
unfolding lexed
comma_lexes [] = refl
comma_lexes (b ∷ bs) = refl

-- an operator in front of a space
pub plus_lexes : (rest : List ℕ) → Lexes (lexeme.Fixed m.Plus) (43 ∷ []) (32 ∷ rest)
unfolding lexed
plus_lexes rest = refl

pub minus_lexes : (rest : List ℕ) → Lexes (lexeme.Fixed m.Minus) (45 ∷ []) (32 ∷ rest)
unfolding lexed
minus_lexes rest = refl

pub star_lexes : (rest : List ℕ) → Lexes (lexeme.Fixed m.Star) (42 ∷ []) (32 ∷ rest)
unfolding lexed
star_lexes rest = refl

pub slash_lexes : (rest : List ℕ) → Lexes (lexeme.Fixed m.Slash) (47 ∷ []) (32 ∷ rest)
unfolding lexed
slash_lexes rest = refl

pub percent_lexes : (rest : List ℕ) → Lexes (lexeme.Fixed m.Percent) (37 ∷ []) (32 ∷ rest)
unfolding lexed
percent_lexes rest = refl

pub less_lexes : (rest : List ℕ) → Lexes (lexeme.Fixed m.Less) (60 ∷ []) (32 ∷ rest)
unfolding lexed
less_lexes rest = refl

pub equal_lexes : (rest : List ℕ) → Lexes (lexeme.Fixed m.Equal) (61 ∷ []) (32 ∷ rest)
unfolding lexed
equal_lexes rest = refl

pub same_lexes : (rest : List ℕ) → Lexes (lexeme.Fixed m.Same) (61 ∷ 61 ∷ []) (32 ∷ rest)
unfolding lexed
same_lexes rest = refl

pub space : (rest : List ℕ) → lexed language (32 ∷ rest) Between ≡ lexed language rest Between
unfolding lexed
space rest = refl

pub line_end : (rest : List ℕ) → lexed language (10 ∷ rest) Between ≡ lexed language rest Between
unfolding lexed
line_end rest = refl
