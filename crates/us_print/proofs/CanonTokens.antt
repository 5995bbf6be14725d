-- The canonical text of what a text declares is read as the tokens of that text without needless parentheses.
use Rattle.std.proofs.Common.{◌≡◌, ◌<◌, ℕ, zero, suc, ◌+◌, List, [], ◌∷◌, ◌++◌, map, length, Option, Some, None, Bool, true, false, cond, eqb, ltb, ◌&&◌, ◌||◌, refl, sym, ap, ◌∙◌, append_assoc, subst, arith}
use Rattle.std.specs.Prelude.{codes}
use Rattle.std.proofs.lemmas.Bool.Decides.{nat_tests}
use Rattle.std.specs.Fmt.{decimal}
use Rattle.std.specs.List.{list_all, prefix_len, flat_map, join_by}
use Rattle.us_tokens.specs.Lex.{first_is, is_letter, is_word, is_digit, is_gap}
use Rattle.us_tokens.specs.Front.{pair_at}
use Rattle.us_tokens.proofs.Back.{Spells, spells-append, spells_nothing, spells_space, spells_line, word_spells, number_spells, symbol_spells, pair_spells, IsWord}
use Rattle.us_decl.specs.Token.{Token, Fixed, Name, Number}
use Rattle.us_decl.specs.declared.mark.Mark.{Mark}
use Rattle.us_decl.specs.declared.mark.Mark.TheVariants as mark
use Rattle.us_decl.specs.declared.lexeme.Lexeme.TheVariants as lexeme
use Rattle.us_decl.specs.declared.column.Column.{Column}
use Rattle.us_decl.specs.declared.column.Column.TheVariants.{Level, Val}
use Rattle.us_decl.specs.Grammar.{Comma, Only, And, Run, Empty, Then, Expr, One, Plus, Less, Term, Just, Over, Rest, Factor, Row, Col, Named, Num, Group, Sum, Enumerate, Reorder, Query, Single, Lanes, Part, Block, Head, Body, Whole, Split, Decl, blocks_of, expr_tokens, term_tokens, comma_tokens, run_tokens, query_tokens, queries_tokens, levels_tokens, map_tokens, number_tokens, numbers_tokens, column_tokens, pack_tokens, part_tokens, sign_token, braced, condition_tokens, block_tokens, blocks_tokens, body_tokens}
use Rattle.us_decl.specs.Words.{language, symbol, keyword, word_lexeme, is_name, is_free, every}
use Rattle.us_parse.specs.Machine.{reader}
use Rattle.us_decl.specs.Names.{number_of, names_part, names_blocks, names_head, names_queries, names_levels}
use Rattle.us_decl.specs.Limits.{all, all_run, nodes, count, count_run, count_levels, all_levels, fits_number, fits_numbers, fits_name, fits_names, fits_nodes, fits_list, fits_expr, fits_term, fits_factor, fits_whole, fits_query, fits_queries, fits_levels, fits_column, fits_pack, fits_packs, fits_part, fits_block, fits_blocks, fits_head, fits_body, fits_decl}
use Rattle.us_decl.specs.Declares.{tree_expr, tree_term, tree_factor, query_of, comma_items, run_items, maybe_items, part_of, whole_part, cond_of, parts_of, body_of, DeclaredPart, declared}
use Rattle.us_print.specs.Canon.{open_text, comma, name_text, is_sum, parenthesized, expr_text, asked_text, query_text, column_text, indent, line, numbers_line, queries_lines, pack_text, map_text, storage_lines, part_lines, sign_text, condition_text, opening_line, block_lines, blocks_lines, body_lines}
use Rattle.us_decl.proofs.Deciding.{both, left_of, right_of, is_below}
use Rattle.us_print.proofs.Plain.{as_term, plain, plain_term, plain_factor, plain_query, plain_queries, plain_comma, plain_levels, plain_part, plain_block, plain_blocks, plain_body}
use Rattle.us_print.proofs.Printed.{flat_map-map}
use Rattle.us_print.proofs.Known.{Has, Knows, KnowsTerm, KnowsFactor, KnowsQuery, KnowsQueries, KnowsComma, KnowsLevels, KnowsBlocks, knows_part, knows_head}

-- in front of these bytes
abbrev pub In : List ℕ → List Token → List ℕ → Type 0
In bytes ts rest = Spells language (reader []) bytes ts rest

-- in front of all bytes that go on no word
abbrev pub Stands : List ℕ → List Token → Type 0
Stands bytes ts = (rest : List ℕ) → first_is is_word rest ≡ false → In bytes ts rest

chain : (a b : List ℕ) (ts us : List Token) (rest : List ℕ) → In a ts (b ++ rest) → In b us rest → In (a ++ b) (ts ++ us) rest
chain = spells-append language (reader [])

space : (bytes : List ℕ) (ts : List Token) (rest : List ℕ) → In bytes ts rest → In (32 ∷ bytes) ts rest
space = spells_space language (reader [])

-- Single tokens

no_pair : (a : ℕ) (rest : List ℕ) → eqb a 62 ≡ false → pair_at language a rest ≡ None
no_pair a [] e = refl
no_pair a (b ∷ bs) e = ap (λ (x : Bool). cond (x && eqb b 61) (Some (lexeme.Fixed mark.AtLeast)) None) e

record IsSign (a : ℕ) (m : Mark) : Type 0 where
  gap : is_gap a ≡ false
  letter : is_letter a ≡ false
  digit : is_digit a ≡ false
  alone : eqb a 62 ≡ false
  is : symbol a ≡ Some (lexeme.Fixed m)

sign : (a : ℕ) (m : Mark) → IsSign a m → (rest : List ℕ) → In (a ∷ []) (Fixed m ∷ []) rest
sign a m s rest = symbol_spells language (reader []) a (lexeme.Fixed m) rest s.gap s.letter s.digit s.is (no_pair a rest s.alone)

-- a sign, and what follows it
signed : (a : ℕ) (m : Mark) → IsSign a m → (bytes : List ℕ) (ts : List Token) (rest : List ℕ) → In bytes ts rest → In (a ∷ bytes) (Fixed m ∷ ts) rest
signed a m s bytes ts rest p = chain (a ∷ []) bytes (Fixed m ∷ []) ts rest (sign a m s (bytes ++ rest)) p

plus_sign : IsSign 43 mark.Plus
plus_sign = record { gap = refl; letter = refl; digit = refl; alone = refl; is = refl }

minus_sign : IsSign 45 mark.Minus
minus_sign = record { gap = refl; letter = refl; digit = refl; alone = refl; is = refl }

slash_sign : IsSign 47 mark.Slash
slash_sign = record { gap = refl; letter = refl; digit = refl; alone = refl; is = refl }

percent_sign : IsSign 37 mark.Percent
percent_sign = record { gap = refl; letter = refl; digit = refl; alone = refl; is = refl }

open_sign : IsSign 40 mark.Open
open_sign = record { gap = refl; letter = refl; digit = refl; alone = refl; is = refl }

close_sign : IsSign 41 mark.Close
close_sign = record { gap = refl; letter = refl; digit = refl; alone = refl; is = refl }

comma_sign : IsSign 44 mark.Comma
comma_sign = record { gap = refl; letter = refl; digit = refl; alone = refl; is = refl }

equal_sign : IsSign 61 mark.Equal
equal_sign = record { gap = refl; letter = refl; digit = refl; alone = refl; is = refl }

less_sign : IsSign 60 mark.Less
less_sign = record { gap = refl; letter = refl; digit = refl; alone = refl; is = refl }

brace_sign : IsSign 123 mark.BraceOpen
brace_sign = record { gap = refl; letter = refl; digit = refl; alone = refl; is = refl }

end_sign : IsSign 125 mark.BraceClose
end_sign = record { gap = refl; letter = refl; digit = refl; alone = refl; is = refl }

-- a word of the grammar, and what follows it
worded : (w : List ℕ) (m : Mark) → IsWord w → keyword w ≡ Some m → (bytes : List ℕ) (ts : List Token) (rest : List ℕ) → first_is is_word (bytes ++ rest) ≡ false → In bytes ts rest → In (w ++ bytes) (Fixed m ∷ ts) rest
worded w m word is bytes ts rest stop p = chain w bytes (Fixed m ∷ []) ts rest (word_spells language (reader []) w (lexeme.Fixed m) (bytes ++ rest) word (ap (λ (o : Option Mark). Some (word_lexeme o)) is) stop) p

word_stands : (w : List ℕ) (m : Mark) → IsWord w → keyword w ≡ Some m → Stands w (Fixed m ∷ [])
word_stands w m word is rest stop = word_spells language (reader []) w (lexeme.Fixed m) rest word (ap (λ (o : Option Mark). Some (word_lexeme o)) is) stop

-- numbers
no_digit : (rest : List ℕ) → first_is is_word rest ≡ false → first_is is_digit rest ≡ false
no_digit [] stop = refl
no_digit (b ∷ bs) stop = second (is_letter b) (is_digit b) stop
  where
    second : (x y : Bool) → (x || y) ≡ false → y ≡ false
    second true y e = absurd cc
    second false y e = e

pub number_stands : (n : ℕ) → fits_number n ≡ true → Stands (decimal n) (Number n ∷ [])
number_stands n fits rest stop =
    let small : n < 2147483648 = is_below n 2147483648 fits in
    number_spells language (reader []) n rest (omega arith) (omega arith) (no_digit rest stop)

-- names
all_step : (x : Bool) (all : Bool) (k n : ℕ) → (k ≡ n → all ≡ true) → cond x (1 + k) 0 ≡ suc n → (x && all) ≡ true
all_step true all k n ih e = ih (omega arith)
all_step false all k n ih e = absurd (omega arith)

list_all-prefix : (p : ℕ → Bool) (w : List ℕ) → prefix_len p w ≡ length w → list_all p w ≡ true
list_all-prefix p [] e = refl
list_all-prefix p (b ∷ bs) e = all_step (p b) (list_all p bs) (prefix_len p bs) (length bs) (λ h. list_all-prefix p bs h) e

same_number : (a b : ℕ) → eqb a b ≡ true → a ≡ b
same_number a b h = grind (arith, nat_tests)

no_keyword : (o : Option Mark) → is_free o ≡ true → o ≡ None
no_keyword None e = refl
no_keyword (Some m) e = absurd cc

pub name_stands : (w : List ℕ) → is_name w ≡ true → Stands w (Name w ∷ [])
name_stands w name rest stop =
    let after_first = right_of (first_is is_letter w) (every is_word w && (is_free (keyword w) && ltb (length w) 33)) name in
    let after_all = right_of (every is_word w) (is_free (keyword w) && ltb (length w) 33) after_first in
    let word : IsWord w = record {
      first = left_of (first_is is_letter w) (every is_word w && (is_free (keyword w) && ltb (length w) 33)) name;
      all = list_all-prefix is_word w (same_number (prefix_len is_word w) (length w) (left_of (every is_word w) (is_free (keyword w) && ltb (length w) 33) after_first));
    } in
    word_spells language (reader []) w lexeme.Name rest word (ap (λ (o : Option Mark). Some (word_lexeme o)) (no_keyword (keyword w) (left_of (is_free (keyword w)) (ltb (length w) 33) after_all))) stop

-- the name with the number of a name
named : (ns : List (List ℕ)) (w : List ℕ) → Has ns w → is_name w ≡ true → Stands (name_text ns (number_of w ns)) (Name w ∷ [])
named ns w has name rest stop = let P : List ℕ → Type 0 = λ x. In x (Name w ∷ []) rest in subst P (sym has) (name_stands w name rest stop)

-- Expressions

abbrev is_plus : Expr → Bool
is_plus (One t) = false
is_plus (Plus e t) = true
is_plus (Less e t) = true

mutual
  sums_agree : (ns : List (List ℕ)) (e : Expr) → is_sum (tree_expr ns e) ≡ is_plus (plain e)
  sums_agree ns (One t) = sums_agree_term ns t
  sums_agree ns (Plus e t) = refl
  sums_agree ns (Less e t) = refl

  sums_agree_term : (ns : List (List ℕ)) (t : Term) → is_sum (tree_term ns t) ≡ is_plus (plain_term t)
  sums_agree_term ns (Just f) = sums_agree_factor ns f
  sums_agree_term ns (Over t k) = refl
  sums_agree_term ns (Rest t k) = refl

  sums_agree_factor : (ns : List (List ℕ)) (f : Factor) → is_sum (tree_factor ns f) ≡ is_plus (plain_factor f)
  sums_agree_factor ns Row = refl
  sums_agree_factor ns Col = refl
  sums_agree_factor ns (Named w) = refl
  sums_agree_factor ns (Num n) = refl
  sums_agree_factor ns (Group e) = sums_agree ns e

closing : (w : List ℕ) (ts : List Token) → Stands w ts → (rest : List ℕ) → In (w ++ (41 ∷ [])) (ts ++ (Fixed mark.Close ∷ [])) rest
closing w ts p rest = chain w (41 ∷ []) ts (Fixed mark.Close ∷ []) rest (p (41 ∷ rest) refl) (sign 41 mark.Close close_sign rest)

operand_by : (x : Expr) (w : List ℕ) (b : Bool) → b ≡ is_plus x → Stands w (expr_tokens x) → Stands (parenthesized b w) (term_tokens (as_term x))
operand_by (One t) w true e p = absurd cc
operand_by (One t) w false e p = p
operand_by (Plus x t) w true e p = λ rest stop. signed 40 mark.Open open_sign (w ++ (41 ∷ [])) (expr_tokens (Plus x t) ++ (Fixed mark.Close ∷ [])) rest (closing w (expr_tokens (Plus x t)) p rest)
operand_by (Plus x t) w false e p = absurd cc
operand_by (Less x t) w true e p = λ rest stop. signed 40 mark.Open open_sign (w ++ (41 ∷ [])) (expr_tokens (Less x t) ++ (Fixed mark.Close ∷ [])) rest (closing w (expr_tokens (Less x t)) p rest)
operand_by (Less x t) w false e p = absurd cc

as_operand : (ns : List (List ℕ)) (t : Term) → Stands (expr_text ns (tree_term ns t)) (expr_tokens (plain_term t)) → Stands (parenthesized (is_sum (tree_term ns t)) (expr_text ns (tree_term ns t))) (term_tokens (as_term (plain_term t)))
as_operand ns t p = operand_by (plain_term t) (expr_text ns (tree_term ns t)) (is_sum (tree_term ns t)) (sums_agree_term ns t) p

-- an operator between spaces
between_operands : (a : ℕ) (m : Mark) → IsSign a m → (v w : List ℕ) (ts us : List Token) → Stands v ts → Stands w us → Stands (v ++ (32 ∷ a ∷ 32 ∷ w)) (ts ++ (Fixed m ∷ us))
between_operands a m s v w ts us p q rest stop =
    chain v (32 ∷ a ∷ 32 ∷ w) ts (Fixed m ∷ us) rest (p (32 ∷ a ∷ 32 ∷ (w ++ rest)) refl) (space (a ∷ 32 ∷ w) (Fixed m ∷ us) rest (signed a m s (32 ∷ w) us rest (space w us rest (q rest stop))))

letter_word : (b : ℕ) → is_letter b ≡ true → is_word b ≡ true → IsWord (b ∷ [])
letter_word b letter word = record { first = letter; all = ap (λ (x : Bool). x && true) word }

mutual
  pub expr_stands : (ns : List (List ℕ)) (d : ℕ) (e : Expr) → fits_expr d e ≡ true → Knows ns e → Stands (expr_text ns (tree_expr ns e)) (expr_tokens (plain e))
  expr_stands ns d (One t) f k = term_stands ns d t f k
  expr_stands ns d (Plus e t) f k = between_operands 43 mark.Plus plus_sign (expr_text ns (tree_expr ns e)) _ (expr_tokens (plain e)) (term_tokens (as_term (plain_term t))) (expr_stands ns d e (left_of (fits_expr d e) (fits_term d t) f) k.0) (as_operand ns t (term_stands ns d t (right_of (fits_expr d e) (fits_term d t) f) k.1))
  expr_stands ns d (Less e t) f k = between_operands 45 mark.Minus minus_sign (expr_text ns (tree_expr ns e)) _ (expr_tokens (plain e)) (term_tokens (as_term (plain_term t))) (expr_stands ns d e (left_of (fits_expr d e) (fits_term d t) f) k.0) (as_operand ns t (term_stands ns d t (right_of (fits_expr d e) (fits_term d t) f) k.1))

  term_stands : (ns : List (List ℕ)) (d : ℕ) (t : Term) → fits_term d t ≡ true → KnowsTerm ns t → Stands (expr_text ns (tree_term ns t)) (expr_tokens (plain_term t))
  term_stands ns d (Just g) f k = factor_stands ns d g f k
  term_stands ns d (Over t n) f k = between_operands 47 mark.Slash slash_sign _ (decimal (suc n)) (term_tokens (as_term (plain_term t))) (Number (suc n) ∷ []) (as_operand ns t (term_stands ns d t (left_of (fits_term d t) (fits_number (suc n)) f) k)) (number_stands (suc n) (right_of (fits_term d t) (fits_number (suc n)) f))
  term_stands ns d (Rest t n) f k = between_operands 37 mark.Percent percent_sign _ (decimal (suc n)) (term_tokens (as_term (plain_term t))) (Number (suc n) ∷ []) (as_operand ns t (term_stands ns d t (left_of (fits_term d t) (fits_number (suc n)) f) k)) (number_stands (suc n) (right_of (fits_term d t) (fits_number (suc n)) f))

  factor_stands : (ns : List (List ℕ)) (d : ℕ) (g : Factor) → fits_factor d g ≡ true → KnowsFactor ns g → Stands (expr_text ns (tree_factor ns g)) (expr_tokens (plain_factor g))
  factor_stands ns d Row f k = word_stands (105 ∷ []) mark.I (letter_word 105 refl refl) refl
  factor_stands ns d Col f k = word_stands (106 ∷ []) mark.J (letter_word 106 refl refl) refl
  factor_stands ns d (Named w) f k = named ns w k f
  factor_stands ns d (Num n) f k = number_stands n f
  factor_stands ns d (Group e) f k = expr_stands ns (suc d) e (right_of (ltb d 32) (fits_expr (suc d) e) f) k

-- Lists

no_more : {A : Type 0} (xs : List A) → xs ++ [] ≡ xs
no_more [] = refl
no_more (x ∷ xs) = ap (λ ys. x ∷ ys) (no_more xs)

-- the texts of the items, with commas between them
abbrev comma_bytes : {A : Type 0} → (A → List ℕ) → Comma A → List ℕ
comma_bytes f (Only x) = f x
comma_bytes f (And xs x) = comma_bytes f xs ++ (44 ∷ 32 ∷ f x)

abbrev AllIn : {A : Type 0} → (A → Type 0) → Comma A → Type 0
AllIn P (Only x) = P x
AllIn P (And xs x) = AllIn P xs × P x

comma_stands : {A : Type 0} (f : A → List ℕ) (g : A → List Token) (xs : Comma A) → AllIn (λ x. Stands (f x) (g x)) xs → Stands (comma_bytes f xs) (comma_tokens g xs)
comma_stands f g (Only x) p = p
comma_stands f g (And xs x) p = λ rest stop.
    chain (comma_bytes f xs) (44 ∷ 32 ∷ f x) (comma_tokens g xs) (Fixed mark.Comma ∷ g x) rest (comma_stands f g xs p.0 (44 ∷ 32 ∷ (f x ++ rest)) refl) (signed 44 mark.Comma comma_sign (32 ∷ f x) (g x) rest (space (f x) (g x) rest (p.1 rest stop)))

join_by-snoc : {A : Type 0} (f : A → List ℕ) (sep : List ℕ) (y : A) (ys : List A) (x : A) → join_by f sep ((y ∷ ys) ++ (x ∷ [])) ≡ join_by f sep (y ∷ ys) ++ (sep ++ f x)
join_by-snoc f sep y ys x = ap (λ w. f y ++ w) (more ys) ∙ sym (append_assoc (f y) (flat_map (λ z. sep ++ f z) ys) (sep ++ f x))
  where
    more : (zs : List _) → flat_map (λ z. sep ++ f z) (zs ++ (x ∷ [])) ≡ flat_map (λ z. sep ++ f z) zs ++ (sep ++ f x)
    more [] = no_more (sep ++ f x)
    more (z ∷ zs) = ap (λ w. (sep ++ f z) ++ w) (more zs) ∙ sym (append_assoc (sep ++ f z) (flat_map (λ u. sep ++ f u) zs) (sep ++ f x))

comma_head : {A : Type 0} (xs : Comma A) → (y : A) × (ys : List A) × (comma_items xs ≡ y ∷ ys)
comma_head (Only x) = (x, [], refl)
comma_head (And xs x) = let p = comma_head xs in (p.0, p.1 ++ (x ∷ []), ap (λ zs. zs ++ (x ∷ [])) p.2)

comma_joined : {A : Type 0} (f : A → List ℕ) (xs : Comma A) → join_by f comma (comma_items xs) ≡ comma_bytes f xs
comma_joined f (Only x) = no_more (f x)
comma_joined f (And xs x) =
    let p = comma_head xs in
    ap (λ zs. join_by f comma (zs ++ (x ∷ []))) p.2 ∙ join_by-snoc f comma p.0 p.1 x ∙ ap (λ w. w ++ (44 ∷ 32 ∷ f x)) (sym (ap (join_by f comma) p.2) ∙ comma_joined f xs)

join_by-map : {X Y : Type 0} (f : Y → List ℕ) (h : X → Y) (sep : List ℕ) (xs : List X) → join_by (λ x. f (h x)) sep xs ≡ join_by f sep (map h xs)
join_by-map f h sep [] = refl
join_by-map f h sep (x ∷ xs) = ap (λ w. f (h x) ++ w) (flat_map-map (λ y. sep ++ f y) h xs)

with_bytes : (a b : List ℕ) (ts : List Token) → a ≡ b → Stands b ts → Stands a ts
with_bytes a b ts e p = let P : List ℕ → Type 0 = λ x. Stands x ts in subst P (sym e) p

with_tokens : (a : List ℕ) (ts us : List Token) (rest : List ℕ) → ts ≡ us → In a ts rest → In a us rest
with_tokens a ts us rest e p = let P : List Token → Type 0 = λ x. In a x rest in subst P e p

-- Lines: in front of all bytes
abbrev pub Lies : List ℕ → List Token → Type 0
Lies bytes ts = (rest : List ℕ) → In bytes ts rest

nothing : Lies [] []
nothing rest = spells_nothing language (reader []) rest

indented : (depth : ℕ) (bytes : List ℕ) (ts : List Token) (rest : List ℕ) → In bytes ts rest → In (indent depth ++ bytes) ts rest
indented zero bytes ts rest p = p
indented (suc depth) bytes ts rest p = space (32 ∷ (indent depth ++ bytes)) ts rest (space (indent depth ++ bytes) ts rest (indented depth bytes ts rest p))

line_lies : (depth : ℕ) (w : List ℕ) (ts : List Token) → Stands w ts → Lies (line depth w) ts
line_lies depth w ts p rest =
    indented depth (w ++ (10 ∷ [])) ts rest (with_tokens (w ++ (10 ∷ [])) (ts ++ []) ts rest (no_more ts) (chain w (10 ∷ []) ts [] rest (p (10 ∷ rest) refl) (spells_line language (reader []) [] [] rest (nothing rest))))

both_lie : (a b : List ℕ) (ts us : List Token) → Lies a ts → Lies b us → Lies (a ++ b) (ts ++ us)
both_lie a b ts us p q rest = chain a b ts us rest (p (b ++ rest)) (q rest)

abbrev AllRun : {A : Type 0} → (A → Type 0) → Run A → Type 0
AllRun P Empty = Unit {0}
AllRun P (Then xs x) = AllRun P xs × P x

flat_map-snoc : {A : Type 0} (f : A → List ℕ) (xs : List A) (x : A) → flat_map f (xs ++ (x ∷ [])) ≡ flat_map f xs ++ f x
flat_map-snoc f [] x = no_more (f x)
flat_map-snoc f (y ∷ ys) x = ap (λ w. f y ++ w) (flat_map-snoc f ys x) ∙ sym (append_assoc (f y) (flat_map f ys) (f x))

run_lies : {A : Type 0} (f : A → List ℕ) (g : A → List Token) (xs : Run A) → AllRun (λ x. Lies (f x) (g x)) xs → Lies (flat_map f (run_items xs)) (run_tokens g xs)
run_lies f g Empty p = nothing
run_lies f g (Then xs x) p =
    let P : List ℕ → Type 0 = λ w. Lies w (run_tokens g xs ++ g x) in
    subst P (sym (flat_map-snoc f (run_items xs) x)) (both_lie (flat_map f (run_items xs)) (f x) (run_tokens g xs) (g x) (run_lies f g xs p.0) p.1)

-- Levels

whole_stands : (ns : List (List ℕ)) (e : Expr) → fits_whole e ≡ true → Knows ns e → Stands (expr_text ns (tree_expr ns e)) (expr_tokens (plain e))
whole_stands ns e f k = expr_stands ns 0 e (left_of (fits_expr 0 e) (fits_nodes (nodes e)) f) k

all_levels_stand : (ns : List (List ℕ)) (es : Comma Expr) → all fits_whole es ≡ true → KnowsComma ns es → AllIn (λ e. Stands (expr_text ns (tree_expr ns e)) (expr_tokens (plain e))) es
all_levels_stand ns (Only e) f k = whole_stands ns e f k
all_levels_stand ns (And es e) f k = (all_levels_stand ns es (left_of (all fits_whole es) (fits_whole e) f) k.0, whole_stands ns e (right_of (all fits_whole es) (fits_whole e) f) k.1)

levels_tokens_plain : (es : Comma Expr) → comma_tokens (λ e. expr_tokens (plain e)) es ≡ comma_tokens expr_tokens (plain_comma es)
levels_tokens_plain (Only e) = refl
levels_tokens_plain (And es e) = ap (λ ts. ts ++ (Fixed mark.Comma ∷ expr_tokens (plain e))) (levels_tokens_plain es)

levels_stand : (ns : List (List ℕ)) (ls : Option (Comma Expr)) → all_levels ls ≡ true → KnowsLevels ns ls → Stands (join_by (expr_text ns) comma (map (tree_expr ns) (maybe_items ls))) (levels_tokens (plain_levels ls))
levels_stand ns None f k rest stop = nothing rest
levels_stand ns (Some es) f k rest stop =
    with_tokens (join_by (expr_text ns) comma (map (tree_expr ns) (comma_items es))) (comma_tokens (λ e. expr_tokens (plain e)) es) (comma_tokens expr_tokens (plain_comma es)) rest (levels_tokens_plain es)
    (with_bytes (join_by (expr_text ns) comma (map (tree_expr ns) (comma_items es))) (comma_bytes (λ e. expr_text ns (tree_expr ns e)) es) (comma_tokens (λ e. expr_tokens (plain e)) es)
    (sym (join_by-map (expr_text ns) (tree_expr ns) comma (comma_items es)) ∙ comma_joined (λ e. expr_text ns (tree_expr ns e)) es)
    (comma_stands (λ e. expr_text ns (tree_expr ns e)) (λ e. expr_tokens (plain e)) es (all_levels_stand ns es f k)) rest stop)

map_stands : (ns : List (List ℕ)) (ls : Option (Comma Expr)) → all_levels ls ≡ true → KnowsLevels ns ls → Stands (map_text ns (map (tree_expr ns) (maybe_items ls))) (map_tokens (plain_levels ls))
map_stands ns ls f k rest stop =
    let w = join_by (expr_text ns) comma (map (tree_expr ns) (maybe_items ls)) in
    let ts = levels_tokens (plain_levels ls) in
    worded (codes "map") mark.Map (record { first = refl; all = refl }) refl (32 ∷ 40 ∷ (w ++ (41 ∷ []))) (Fixed mark.Open ∷ (ts ++ (Fixed mark.Close ∷ []))) rest refl
    (space (40 ∷ (w ++ (41 ∷ []))) (Fixed mark.Open ∷ (ts ++ (Fixed mark.Close ∷ []))) rest (signed 40 mark.Open open_sign (w ++ (41 ∷ [])) (ts ++ (Fixed mark.Close ∷ [])) rest (closing w ts (levels_stand ns ls f k) rest)))

-- Numbers and packs

all_numbers : (ks : Comma ℕ) → all fits_number ks ≡ true → AllIn (λ k. Stands (decimal k) (number_tokens k)) ks
all_numbers (Only k) f = number_stands k f
all_numbers (And ks k) f = (all_numbers ks (left_of (all fits_number ks) (fits_number k) f), number_stands k (right_of (all fits_number ks) (fits_number k) f))

numbers_stand : (ks : Comma ℕ) → all fits_number ks ≡ true → Stands (join_by decimal comma (comma_items ks)) (comma_tokens number_tokens ks)
numbers_stand ks f = with_bytes (join_by decimal comma (comma_items ks)) (comma_bytes decimal ks) (comma_tokens number_tokens ks) (comma_joined decimal ks) (comma_stands decimal number_tokens ks (all_numbers ks f))

numbers_line-some : (depth : ℕ) (word xs : List ℕ) (y : ℕ) (ys : List ℕ) → xs ≡ y ∷ ys → numbers_line depth word xs ≡ line depth (word ++ join_by decimal comma xs)
numbers_line-some depth word xs y ys e = ap (numbers_line depth word) e ∙ ap (λ zs. line depth (word ++ join_by decimal comma zs)) (sym e)

numbers_lie : (depth : ℕ) (w : List ℕ) (m : Mark) → IsWord w → keyword w ≡ Some m → (ks : Option (Comma ℕ)) → fits_numbers ks ≡ true → Lies (numbers_line depth (w ++ (32 ∷ [])) (maybe_items ks)) (numbers_tokens (Fixed m) ks)
numbers_lie depth w m word is None f = nothing
numbers_lie depth w m word is (Some ks) f =
    let p = comma_head ks in
    let items = join_by decimal comma (comma_items ks) in
    let P : List ℕ → Type 0 = λ x. Lies x (Fixed m ∷ comma_tokens number_tokens ks) in
    subst P (ap (line depth) (sym (append_assoc w (32 ∷ []) items)) ∙ sym (numbers_line-some depth (w ++ (32 ∷ [])) (comma_items ks) p.0 p.1 p.2))
    (line_lies depth (w ++ (32 ∷ items)) (Fixed m ∷ comma_tokens number_tokens ks) (λ rest stop.
    worded w m word is (32 ∷ items) (comma_tokens number_tokens ks) rest refl (space items (comma_tokens number_tokens ks) rest (numbers_stand ks (left_of (all fits_number ks) (fits_list (count ks)) f) rest stop))))

column_stands : (c : Column) → fits_column c ≡ true → Stands (column_text c) (column_tokens c)
column_stands (Level k) f = number_stands k f
column_stands Val f = word_stands (codes "val") mark.Val (record { first = refl; all = refl }) refl

all_columns : (cs : Comma Column) → all fits_column cs ≡ true → AllIn (λ c. Stands (column_text c) (column_tokens c)) cs
all_columns (Only c) f = column_stands c f
all_columns (And cs c) f = (all_columns cs (left_of (all fits_column cs) (fits_column c) f), column_stands c (right_of (all fits_column cs) (fits_column c) f))

pack_stands : (cs : Comma Column) → fits_pack cs ≡ true → Stands (pack_text (comma_items cs)) (pack_tokens cs)
pack_stands cs f rest stop =
    let w = join_by column_text comma (comma_items cs) in
    let ts = comma_tokens column_tokens cs in
    let inner = with_bytes w (comma_bytes column_text cs) ts (comma_joined column_text cs) (comma_stands column_text column_tokens cs (all_columns cs (left_of (all fits_column cs) (fits_list (count cs)) f))) in
    worded (codes "pack") mark.Pack (record { first = refl; all = refl }) refl (32 ∷ 40 ∷ (w ++ (41 ∷ []))) (Fixed mark.Open ∷ (ts ++ (Fixed mark.Close ∷ []))) rest refl
    (space (40 ∷ (w ++ (41 ∷ []))) (Fixed mark.Open ∷ (ts ++ (Fixed mark.Close ∷ []))) rest (signed 40 mark.Open open_sign (w ++ (41 ∷ [])) (ts ++ (Fixed mark.Close ∷ [])) rest (closing w ts inner rest)))

all_packs : (depth : ℕ) (ps : Run (Comma Column)) → all_run fits_pack ps ≡ true → AllRun (λ cs. Lies (line depth (pack_text (comma_items cs))) (pack_tokens cs)) ps
all_packs depth Empty f = tt
all_packs depth (Then ps cs) f = (all_packs depth ps (left_of (all_run fits_pack ps) (fits_pack cs) f), line_lies depth (pack_text (comma_items cs)) (pack_tokens cs) (pack_stands cs (right_of (all_run fits_pack ps) (fits_pack cs) f)))

packs_lie : (depth : ℕ) (ps : Run (Comma Column)) → fits_packs ps ≡ true → Lies (flat_map (λ cs. line depth (pack_text cs)) (map comma_items (run_items ps))) (run_tokens pack_tokens ps)
packs_lie depth ps f =
    let P : List ℕ → Type 0 = λ w. Lies w (run_tokens pack_tokens ps) in
    subst P (flat_map-map (λ cs. line depth (pack_text cs)) comma_items (run_items ps)) (run_lies (λ cs. line depth (pack_text (comma_items cs))) pack_tokens ps (all_packs depth ps (left_of (all_run fits_pack ps) (fits_list (count_run ps)) f)))

-- Queries

-- a name, the word of its query, and the argument
asked_lies : (ns : List (List ℕ)) (v w : List ℕ) (m : Mark) → IsWord w → keyword w ≡ Some m → Has ns v → is_name v ≡ true → (e : Expr) → fits_whole e ≡ true → Knows ns e
    → Lies (name_text ns (number_of v ns) ++ (32 ∷ 61 ∷ 32 ∷ (w ++ (40 ∷ (expr_text ns (tree_expr ns e) ++ (41 ∷ [])))))) (Name v ∷ Fixed mark.Equal ∷ Fixed m ∷ Fixed mark.Open ∷ (expr_tokens (plain e) ++ (Fixed mark.Close ∷ [])))
asked_lies ns v w m word is has name e f k rest =
    let x = expr_text ns (tree_expr ns e) in
    let ts = expr_tokens (plain e) ++ (Fixed mark.Close ∷ []) in
    let inner = signed 40 mark.Open open_sign (x ++ (41 ∷ [])) ts rest (closing x (expr_tokens (plain e)) (whole_stands ns e f k) rest) in
    let words = worded w m word is (40 ∷ (x ++ (41 ∷ []))) (Fixed mark.Open ∷ ts) rest refl inner in
    let equal = space (61 ∷ 32 ∷ (w ++ (40 ∷ (x ++ (41 ∷ []))))) (Fixed mark.Equal ∷ Fixed m ∷ Fixed mark.Open ∷ ts) rest
    (signed 61 mark.Equal equal_sign (32 ∷ (w ++ (40 ∷ (x ++ (41 ∷ []))))) (Fixed m ∷ Fixed mark.Open ∷ ts) rest (space (w ++ (40 ∷ (x ++ (41 ∷ [])))) (Fixed m ∷ Fixed mark.Open ∷ ts) rest words)) in
    chain (name_text ns (number_of v ns)) (32 ∷ 61 ∷ 32 ∷ (w ++ (40 ∷ (x ++ (41 ∷ []))))) (Name v ∷ []) (Fixed mark.Equal ∷ Fixed m ∷ Fixed mark.Open ∷ ts) rest
    (named ns v has name (32 ∷ 61 ∷ 32 ∷ ((w ++ (40 ∷ (x ++ (41 ∷ [])))) ++ rest)) refl) equal

let_then : (bytes : List ℕ) (ts : List Token) (rest : List ℕ) → In bytes ts rest → In (codes "let " ++ bytes) (Fixed mark.Let ∷ ts) rest
let_then bytes ts rest p = worded (codes "let") mark.Let (record { first = refl; all = refl }) refl (32 ∷ bytes) ts rest refl (space bytes ts rest p)

lanes_stand : (k : ℕ) → fits_number k ≡ true → Stands (codes " into " ++ decimal k) (Fixed mark.Into ∷ Number k ∷ [])
lanes_stand k f rest stop =
    space (codes "into" ++ (32 ∷ decimal k)) (Fixed mark.Into ∷ Number k ∷ []) rest
    (worded (codes "into") mark.Into (record { first = refl; all = refl }) refl (32 ∷ decimal k) (Number k ∷ []) rest refl (space (decimal k) (Number k ∷ []) rest (number_stands k f rest stop)))

query_stands : (ns : List (List ℕ)) (q : Query) → fits_query q ≡ true → KnowsQuery ns q → Stands (query_text ns (query_of ns q)) (query_tokens (plain_query q))
query_stands ns (Single Sum v e) f k = λ rest stop. let_then _ _ rest (asked_lies ns v (codes "sum") mark.Sum (record { first = refl; all = refl }) refl k.0 (left_of (fits_name v) (fits_whole e) f) e (right_of (fits_name v) (fits_whole e) f) k.1 rest)
query_stands ns (Single Enumerate v e) f k = λ rest stop. let_then _ _ rest (asked_lies ns v (codes "enumerate") mark.Enumerate (record { first = refl; all = refl }) refl k.0 (left_of (fits_name v) (fits_whole e) f) e (right_of (fits_name v) (fits_whole e) f) k.1 rest)
query_stands ns (Single Reorder v e) f k = λ rest stop. let_then _ _ rest (asked_lies ns v (codes "reorder") mark.Reorder (record { first = refl; all = refl }) refl k.0 (left_of (fits_name v) (fits_whole e) f) e (right_of (fits_name v) (fits_whole e) f) k.1 rest)
query_stands ns (Lanes v w e n) f k = λ rest stop.
    let g = right_of (fits_name v) (fits_name w && (fits_whole e && fits_number n)) f in
    let h = right_of (fits_name w) (fits_whole e && fits_number n) g in
    let slot = asked_text ns (number_of w ns) (codes " = schedule(") (tree_expr ns e) in
    let into = codes " into " ++ decimal n in
    let ts = Name w ∷ Fixed mark.Equal ∷ Fixed mark.Schedule ∷ Fixed mark.Open ∷ (expr_tokens (plain e) ++ (Fixed mark.Close ∷ [])) in
    let us = Fixed mark.Into ∷ Number n ∷ [] in
    let last = chain slot into ts us rest (asked_lies ns w (codes "schedule") mark.Schedule (record { first = refl; all = refl }) refl k.1 (left_of (fits_name w) (fits_whole e && fits_number n) g) e (left_of (fits_whole e) (fits_number n) h) k.2 (into ++ rest)) (lanes_stand n (right_of (fits_whole e) (fits_number n) h) rest stop) in
    let pair = chain (name_text ns (number_of v ns)) (44 ∷ 32 ∷ (slot ++ into)) (Name v ∷ []) (Fixed mark.Comma ∷ (ts ++ us)) rest (named ns v k.0 (left_of (fits_name v) (fits_name w && (fits_whole e && fits_number n)) f) (44 ∷ 32 ∷ ((slot ++ into) ++ rest)) refl)
    (signed 44 mark.Comma comma_sign (32 ∷ (slot ++ into)) (ts ++ us) rest (space (slot ++ into) (ts ++ us) rest last)) in
    with_tokens _ (Fixed mark.Let ∷ Name v ∷ Fixed mark.Comma ∷ (ts ++ us)) (query_tokens (plain_query (Lanes v w e n))) rest
    (ap (λ x. Fixed mark.Let ∷ Name v ∷ Fixed mark.Comma ∷ Name w ∷ Fixed mark.Equal ∷ Fixed mark.Schedule ∷ Fixed mark.Open ∷ x) (append_assoc (expr_tokens (plain e)) (Fixed mark.Close ∷ []) us))
    (let_then (name_text ns (number_of v ns) ++ (44 ∷ 32 ∷ (slot ++ into))) (Name v ∷ Fixed mark.Comma ∷ (ts ++ us)) rest pair)

all_queries : (depth : ℕ) (ns : List (List ℕ)) (qs : Run Query) → all_run fits_query qs ≡ true → KnowsQueries ns qs → AllRun (λ q. Lies (line depth (query_text ns (query_of ns q))) (query_tokens (plain_query q))) qs
all_queries depth ns Empty f k = tt
all_queries depth ns (Then qs q) f k = (all_queries depth ns qs (left_of (all_run fits_query qs) (fits_query q) f) k.0, line_lies depth (query_text ns (query_of ns q)) (query_tokens (plain_query q)) (query_stands ns q (right_of (all_run fits_query qs) (fits_query q) f) k.1))

queries_tokens_plain : (qs : Run Query) → run_tokens (λ q. query_tokens (plain_query q)) qs ≡ queries_tokens (plain_queries qs)
queries_tokens_plain Empty = refl
queries_tokens_plain (Then qs q) = ap (λ ts. ts ++ query_tokens (plain_query q)) (queries_tokens_plain qs)

queries_lie : (depth : ℕ) (ns : List (List ℕ)) (qs : Run Query) → fits_queries qs ≡ true → KnowsQueries ns qs → Lies (queries_lines depth ns (map (query_of ns) (run_items qs))) (queries_tokens (plain_queries qs))
queries_lie depth ns qs f k =
    let P : List ℕ → Type 0 = λ w. Lies w (queries_tokens (plain_queries qs)) in
    let Q : List Token → Type 0 = λ ts. Lies (flat_map (λ q. line depth (query_text ns (query_of ns q))) (run_items qs)) ts in
    subst P (flat_map-map (λ q. line depth (query_text ns q)) (query_of ns) (run_items qs))
    (subst Q (queries_tokens_plain qs) (run_lies (λ q. line depth (query_text ns (query_of ns q))) (λ q. query_tokens (plain_query q)) qs (all_queries depth ns qs (left_of (all_run fits_query qs) (fits_list (count_run qs) && fits_names (names_queries qs)) f) k)))

-- Parts

storage_lies : (depth : ℕ) (p : Part) → (fits_numbers p.trim && (fits_numbers p.merge && fits_packs p.packs)) ≡ true
    → Lies (storage_lines depth (part_of (names_part p) p)) (numbers_tokens (Fixed mark.Trim) p.trim ++ (numbers_tokens (Fixed mark.Merge) p.merge ++ run_tokens pack_tokens p.packs))
storage_lies depth p f =
    let g = right_of (fits_numbers p.trim) (fits_numbers p.merge && fits_packs p.packs) f in
    both_lie _ _ _ _ (numbers_lie depth (codes "trim") mark.Trim (record { first = refl; all = refl }) refl p.trim (left_of (fits_numbers p.trim) (fits_numbers p.merge && fits_packs p.packs) f))
    (both_lie _ _ _ _ (numbers_lie depth (codes "merge") mark.Merge (record { first = refl; all = refl }) refl p.merge (left_of (fits_numbers p.merge) (fits_packs p.packs) g)) (packs_lie depth p.packs (right_of (fits_numbers p.merge) (fits_packs p.packs) g)))

part_lies : (depth : ℕ) (p : Part) → fits_part p ≡ true → Lies (part_lines depth (part_of (names_part p) p)) (part_tokens (plain_part p))
part_lies depth p f =
    let ns = names_part p in
    let k = knows_part p in
    let tail = fits_numbers p.trim && (fits_numbers p.merge && fits_packs p.packs) in
    let g = right_of (fits_queries p.queries) (fits_levels p.queries p.levels && tail) f in
    let levels = left_of (all_levels p.levels) (fits_list (count_levels p.levels) && fits_names (names_levels p.levels (names_queries p.queries))) (left_of (fits_levels p.queries p.levels) tail g) in
    both_lie _ _ _ _ (queries_lie depth ns p.queries (left_of (fits_queries p.queries) (fits_levels p.queries p.levels && tail) f) k.0)
    (both_lie _ _ _ _ (line_lies depth (map_text ns (map (tree_expr ns) (maybe_items p.levels))) (map_tokens (plain_levels p.levels)) (map_stands ns p.levels levels k.1)) (storage_lies depth p (right_of (fits_levels p.queries p.levels) tail g)))

-- The condition, and the whole

at_least : (bytes : List ℕ) (ts : List Token) (rest : List ℕ) → In bytes ts rest → In (62 ∷ 61 ∷ bytes) (Fixed mark.AtLeast ∷ ts) rest
at_least bytes ts rest p = chain (62 ∷ 61 ∷ []) bytes (Fixed mark.AtLeast ∷ []) ts rest (pair_spells language (reader []) 62 61 (lexeme.Fixed mark.AtLeast) (bytes ++ rest) refl refl refl refl) p

signed_bound : (less : Bool) (k : ℕ) → fits_number k ≡ true → (rest : List ℕ) → first_is is_word rest ≡ false → In (sign_text less ++ decimal k) (sign_token less ∷ Number k ∷ []) rest
signed_bound true k f rest stop = space (60 ∷ 32 ∷ decimal k) _ rest (signed 60 mark.Less less_sign (32 ∷ decimal k) (Number k ∷ []) rest (space (decimal k) (Number k ∷ []) rest (number_stands k f rest stop)))
signed_bound false k f rest stop = space (62 ∷ 61 ∷ 32 ∷ decimal k) _ rest (at_least (32 ∷ decimal k) (Number k ∷ []) rest (space (decimal k) (Number k ∷ []) rest (number_stands k f rest stop)))

no_word_sign : (less : Bool) (k : ℕ) (rest : List ℕ) → first_is is_word ((sign_text less ++ decimal k) ++ rest) ≡ false
no_word_sign true k rest = refl
no_word_sign false k rest = refl

condition_stands : (ns : List (List ℕ)) (b : Block) → Has ns b.name → is_name b.name ≡ true → fits_number b.bound ≡ true → Stands (condition_text ns (cond_of ns b)) (Name b.name ∷ sign_token b.less ∷ Number b.bound ∷ [])
condition_stands ns b has name f rest stop =
    chain (name_text ns (number_of b.name ns)) (sign_text b.less ++ decimal b.bound) (Name b.name ∷ []) (sign_token b.less ∷ Number b.bound ∷ []) rest (named ns b.name has name ((sign_text b.less ++ decimal b.bound) ++ rest) (no_word_sign b.less b.bound rest)) (signed_bound b.less b.bound f rest stop)

brace : (rest : List ℕ) → In (codes " {") (Fixed mark.BraceOpen ∷ []) rest
brace rest = space (123 ∷ []) (Fixed mark.BraceOpen ∷ []) rest (sign 123 mark.BraceOpen brace_sign rest)

when_stands : (c : List ℕ) (ts : List Token) → Stands c ts → Stands (codes "part when " ++ (c ++ codes " {")) (Fixed mark.Part ∷ Fixed mark.When ∷ (ts ++ (Fixed mark.BraceOpen ∷ [])))
when_stands c ts p rest stop =
    let us = ts ++ (Fixed mark.BraceOpen ∷ []) in
    let inner = chain c (codes " {") ts (Fixed mark.BraceOpen ∷ []) rest (p (codes " {" ++ rest) refl) (brace rest) in
    worded (codes "part") mark.Part (record { first = refl; all = refl }) refl (32 ∷ (codes "when" ++ (32 ∷ (c ++ codes " {")))) (Fixed mark.When ∷ us) rest refl
    (space (codes "when" ++ (32 ∷ (c ++ codes " {"))) (Fixed mark.When ∷ us) rest
    (worded (codes "when") mark.When (record { first = refl; all = refl }) refl (32 ∷ (c ++ codes " {")) us rest refl (space (c ++ codes " {") us rest inner)))

end_lies : Lies (line 1 (codes "}")) (Fixed mark.BraceClose ∷ [])
end_lies = line_lies 1 (codes "}") (Fixed mark.BraceClose ∷ []) (λ rest stop. sign 125 mark.BraceClose end_sign rest)

rest_lies : Lies (line 1 (codes "rest {")) (Fixed mark.Rest ∷ Fixed mark.BraceOpen ∷ [])
rest_lies = line_lies 1 (codes "rest {") (Fixed mark.Rest ∷ Fixed mark.BraceOpen ∷ []) (λ rest stop. worded (codes "rest") mark.Rest (record { first = refl; all = refl }) refl (codes " {") (Fixed mark.BraceOpen ∷ []) rest refl (brace rest))

block_lies : (p : Part) → fits_part p ≡ true → Lies (block_lines (whole_part p)) (part_tokens (plain_part p) ++ (Fixed mark.BraceClose ∷ []))
block_lies p f = both_lie _ _ _ _ (part_lies 2 p f) end_lies

-- the part of a condition, and the part of the rest
abbrev when_lines : List (List ℕ) → Block → List ℕ
when_lines ns b = opening_line ns (cond_of ns b ∷ []) ++ block_lines (whole_part b.part)

when_lies : (ns : List (List ℕ)) (b : Block) → fits_block b ≡ true → Has ns b.name → Lies (when_lines ns b) (block_tokens (plain_block b))
when_lies ns b f has =
    let g = right_of (fits_name b.name) (fits_number b.bound && fits_part b.part) f in
    let c = condition_text ns (cond_of ns b) in
    let ts = Name b.name ∷ sign_token b.less ∷ Number b.bound ∷ [] in
    let condition = condition_stands ns b has (left_of (fits_name b.name) (fits_number b.bound && fits_part b.part) f) (left_of (fits_number b.bound) (fits_part b.part) g) in
    both_lie (opening_line ns (cond_of ns b ∷ [])) (block_lines (whole_part b.part)) (Fixed mark.Part ∷ Fixed mark.When ∷ (ts ++ (Fixed mark.BraceOpen ∷ []))) (part_tokens (plain_part b.part) ++ (Fixed mark.BraceClose ∷ []))
    (line_lies 1 (codes "part when " ++ (c ++ codes " {")) (Fixed mark.Part ∷ Fixed mark.When ∷ (ts ++ (Fixed mark.BraceOpen ∷ []))) (when_stands c ts condition)) (block_lies b.part (right_of (fits_number b.bound) (fits_part b.part) g))

all_blocks : (ns : List (List ℕ)) (bs : Run Block) → all_run fits_block bs ≡ true → KnowsBlocks ns bs → AllRun (λ b. Lies (when_lines ns b) (block_tokens (plain_block b))) bs
all_blocks ns Empty f k = tt
all_blocks ns (Then bs b) f k = (all_blocks ns bs (left_of (all_run fits_block bs) (fits_block b) f) k.0, when_lies ns b (right_of (all_run fits_block bs) (fits_block b) f) k.1)

blocks_tokens_plain : (bs : Run Block) → run_tokens (λ b. block_tokens (plain_block b)) bs ≡ blocks_tokens (plain_blocks bs)
blocks_tokens_plain Empty = refl
blocks_tokens_plain (Then bs b) = ap (λ ts. ts ++ block_tokens (plain_block b)) (blocks_tokens_plain bs)

-- a part for each condition, and then the rest
blocks_lines-map : (ns : List (List ℕ)) (bs : List Block) (q : DeclaredPart) → blocks_lines ns (map (cond_of ns) bs) (map (λ b. whole_part b.part) bs ++ (q ∷ [])) ≡ flat_map (when_lines ns) bs ++ (opening_line ns [] ++ block_lines q)
blocks_lines-map ns [] q = no_more (opening_line ns [] ++ block_lines q)
blocks_lines-map ns (b ∷ bs) q = ap (λ w. when_lines ns b ++ w) (blocks_lines-map ns bs q) ∙ sym (append_assoc (when_lines ns b) (flat_map (when_lines ns) bs) (opening_line ns [] ++ block_lines q))

blocks_lie : (ns : List (List ℕ)) (bs : Run Block) (q : Part) → all_run fits_block bs ≡ true → KnowsBlocks ns bs → fits_part q ≡ true
    → Lies (blocks_lines ns (map (cond_of ns) (run_items bs)) (parts_of bs q)) (blocks_tokens (plain_blocks bs) ++ (Fixed mark.Rest ∷ braced (plain_part q)))
blocks_lie ns bs q f k g =
    let rest = Fixed mark.Rest ∷ braced (plain_part q) in
    let P : List ℕ → Type 0 = λ w. Lies w (blocks_tokens (plain_blocks bs) ++ rest) in
    let Q : List Token → Type 0 = λ ts. Lies (flat_map (when_lines ns) (run_items bs)) ts in
    subst P (sym (blocks_lines-map ns (run_items bs) (whole_part q)))
    (both_lie (flat_map (when_lines ns) (run_items bs)) (opening_line ns [] ++ block_lines (whole_part q)) (blocks_tokens (plain_blocks bs)) rest
    (subst Q (blocks_tokens_plain bs) (run_lies (when_lines ns) (λ b. block_tokens (plain_block b)) bs (all_blocks ns bs f k)))
    (both_lie (opening_line ns []) (block_lines (whole_part q)) (Fixed mark.Rest ∷ Fixed mark.BraceOpen ∷ []) (part_tokens (plain_part q) ++ (Fixed mark.BraceClose ∷ [])) rest_lies (block_lies q g)))

-- all blocks of a divided body are within their limits
blocks_fit : (h : Head) (p : Part) → fits_head h ≡ true → fits_part p ≡ true → all_run fits_block (blocks_of h p) ≡ true
blocks_fit h p f g =
    let last = fits_name h.name && (fits_names (names_head h) && fits_number h.bound) in
    let x = right_of (fits_queries h.queries) (fits_blocks h.queries h.blocks && last) f in
    let y = right_of (fits_blocks h.queries h.blocks) last x in
    let z = right_of (fits_name h.name) (fits_names (names_head h) && fits_number h.bound) y in
    both (all_run fits_block h.blocks) (fits_name h.name && (fits_number h.bound && fits_part p)) (left_of (all_run fits_block h.blocks) (ltb (count_run h.blocks) 3 && fits_names (names_blocks h.blocks (names_queries h.queries))) (left_of (fits_blocks h.queries h.blocks) last x))
    (both (fits_name h.name) (fits_number h.bound && fits_part p) (left_of (fits_name h.name) (fits_names (names_head h) && fits_number h.bound) y) (both (fits_number h.bound) (fits_part p) (right_of (fits_names (names_head h)) (fits_number h.bound) z) g))

-- how the tokens of a divided body regroup
regrouped : (q b c r t : List Token) → q ++ ((b ++ (c ++ r)) ++ t) ≡ (q ++ (b ++ c)) ++ (r ++ t)
regrouped q b c r t = simp append_assoc

body_lies : (b : Body) → fits_body b ≡ true → Lies (body_lines (body_of b)) (body_tokens (plain_body b))
body_lies (Whole p) f = part_lies 1 p f
body_lies (Split h p q) f =
    let g = right_of (fits_head h) (fits_part p && fits_part q) f in
    let head = left_of (fits_head h) (fits_part p && fits_part q) f in
    let k = knows_head h p in
    let bs = blocks_of h p in
    let us = queries_tokens (plain_queries h.queries) in
    let vs = blocks_tokens (plain_blocks h.blocks) in
    let c = condition_tokens h.name h.less h.bound in
    let P : List Token → Type 0 = λ x. Lies (body_lines (body_of (Split h p q))) x in
    subst P (regrouped us vs c (braced (plain_part p)) (Fixed mark.Rest ∷ braced (plain_part q)))
    (both_lie (queries_lines 1 (names_head h) (map (query_of (names_head h)) (run_items h.queries))) (blocks_lines (names_head h) (map (cond_of (names_head h)) (run_items bs)) (parts_of bs q)) us (blocks_tokens (plain_blocks bs) ++ (Fixed mark.Rest ∷ braced (plain_part q)))
    (queries_lie 1 (names_head h) h.queries (left_of (fits_queries h.queries) (fits_blocks h.queries h.blocks && (fits_name h.name && (fits_names (names_head h) && fits_number h.bound))) head) k.0)
    (blocks_lie (names_head h) bs q (blocks_fit h p head (left_of (fits_part p) (fits_part q) g)) k.1 (right_of (fits_part p) (fits_part q) g)))

named_line : (w : List ℕ) → is_name w ≡ true → Stands (codes "format " ++ (w ++ codes " {")) (Fixed mark.Format ∷ Name w ∷ Fixed mark.BraceOpen ∷ [])
named_line w name rest stop =
    worded (codes "format") mark.Format (record { first = refl; all = refl }) refl (32 ∷ (w ++ codes " {")) (Name w ∷ Fixed mark.BraceOpen ∷ []) rest refl
    (space (w ++ codes " {") (Name w ∷ Fixed mark.BraceOpen ∷ []) rest (chain w (codes " {") (Name w ∷ []) (Fixed mark.BraceOpen ∷ []) rest (name_stands w name (codes " {" ++ rest) refl) (brace rest)))

-- all but the last brace
pub open_lies : (d : Decl) → fits_decl d ≡ true → Lies (open_text (declared d)) ((Fixed mark.Format ∷ Name d.name ∷ Fixed mark.BraceOpen ∷ []) ++ body_tokens (plain_body d.body))
open_lies d f =
    both_lie _ _ _ _ (line_lies 0 (codes "format " ++ (d.name ++ codes " {")) (Fixed mark.Format ∷ Name d.name ∷ Fixed mark.BraceOpen ∷ []) (named_line d.name (left_of (fits_name d.name) (fits_body d.body) f))) (body_lies d.body (right_of (fits_name d.name) (fits_body d.body) f))
