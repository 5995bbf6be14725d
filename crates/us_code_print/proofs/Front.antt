-- One token in front of a text is read.
use Rattle.std.proofs.Common.{◌≡◌, ◌<◌, ◌≤◌, ℕ, List, [], ◌∷◌, ◌++◌, true, cond, ltb, length, Option, Some, None, refl, sym, ap, arith, subst, append_assoc}
use Rattle.std.proofs.lemmas.Bool.Decides.{nat_tests}
use Rattle.us_tokens.specs.Text.{Text}
use Rattle.us_tokens.specs.Lex.{Between, lexed}
use Rattle.us_grammar.specs.Grammar.{Symbol, Fixed, Part, Row, Pick, Values, pick, append_left, append_right}
use Rattle.us_grammar.specs.Reading.{Answer, Lacks, Takes, scan}
use Rattle.us_grammar.proofs.Bools.{both}
use Rattle.us_grammar.proofs.Steps.{chooses, passes, skips, lifted}
use Rattle.us_code.specs.Plain.{ProgramTree}
use Rattle.us_code_table.specs.declared.mark.Mark.{Mark}
use Rattle.us_code_table.specs.declared.note.Note.{Note}
use Rattle.us_code_table.specs.declared.lexeme.Lexeme.{Lexeme}
use Rattle.us_code_table.specs.declared.lexeme.Lexeme.TheVariants as lexeme
use Rattle.us_code_table.specs.Table.{Nonterminal, Class, Word, Token, Value, Sum, SumTail, Product, ProductTail, Atom, Keys, Key, MoreKeys, grammar}
use Rattle.us_code_table.specs.Words.{language, token}
use Rattle.us_code_table.specs.Limits.{Break, TooBig, Count, measure, check, counts_fit, value_fits, limits}
use Rattle.us_code_table.proofs.Sound.{table}
use Rattle.us_code_print.proofs.Lexed.{Lexes, space}

-- reading bytes on by a row, with these counts
abbrev pub reading : List ℕ → Count → (s : Row grammar) → (Values grammar s → ProgramTree) → Answer Lexeme ProgramTree Break
reading bytes c s k = scan grammar limits (lexed language bytes Between) c s k

-- counts within the limits
pub record Within (c : Count) : Type 0 where
  pub items : c.items ≤ 65536
  pub braces : c.braces ≤ 66
  pub nodes : c.nodes ≤ 256
  pub parens : c.parens ≤ 64
  pub names : c.names ≤ 4096
  pub sources : c.sources ≤ 4096

pub below : (a b : ℕ) → a < b → ltb a b ≡ true
below a b h = grind (arith, nat_tests)

counts_are_fit : (c : Count) → Within c → counts_fit c ≡ true
counts_are_fit c w =
    both _ _ (below c.items 65537 (omega (arith, w.items))) (
    both _ _ (below c.braces 67 (omega (arith, w.braces))) (
    both _ _ (below c.nodes 257 (omega (arith, w.nodes))) (
    both _ _ (below c.parens 65 (omega (arith, w.parens))) (
    both _ _ (below c.names 4097 (omega (arith, w.names)))
    (below c.sources 4097 (omega (arith, w.sources)))))))

pub fits : (c : Count) (t : Token) → Within c → value_fits t.class t.value ≡ true → check c t ≡ None
fits c t w v = ap (λ b. cond b None (Some TooBig)) (both (counts_fit c) (value_fits t.class t.value) (counts_are_fit c w) v)

pub takes : (o : Option Note) (l : Lexeme) (w rest : List ℕ) (c : Count) → Lexes l w rest → Within (measure c o (token l)) → value_fits (token l).class (token l).value ≡ true
    → Takes grammar limits o (token l) (lexed language (w ++ rest) Between) c (lexed language rest Between) (measure c o (token l))
takes o l w rest c is within value = record { kind = l; bytes = w; behind = length rest; parts = is; is = refl; meter = refl; fits = fits (measure c o (token l)) (token l) within value }

module _ (y : Symbol Nonterminal Class) (s : Row grammar) where
  -- the choice that the token in front begins
  pub choose : (n : Nonterminal) (l : Lexeme) (w rest : List ℕ) (c : Count) (k : Values grammar (Part n ∷ y ∷ s) → ProgramTree) (x : Pick grammar n) → pick grammar (grammar.choices n) (token l).class ≡ Some x
      → Lexes l w rest → Within (measure c (Some x.note) (token l)) → value_fits (token l).class (token l).value ≡ true
      → reading (w ++ rest) c (Part n ∷ y ∷ s) k ≡ reading rest (measure c (Some x.note) (token l)) (x.rest ++ (y ∷ s)) (λ vs. k (x.value (token l) (append_left Value x.rest (y ∷ s) vs), append_right Value x.rest (y ∷ s) vs))
  choose n l w rest c k x is lexes within value =
      chooses grammar limits ProgramTree n (token l) (lexed language (w ++ rest) Between) c (lexed language rest Between) (measure c (Some x.note) (token l)) y s k x is (takes (Some x.note) l w rest c lexes within value)

  -- a terminal
  pub pass : (m : Mark) (w rest : List ℕ) (c : Count) (k : Values grammar (Fixed (Word m) ∷ y ∷ s) → ProgramTree) → Lexes (lexeme.Fixed m) w rest → Within (measure c None (token (lexeme.Fixed m)))
      → reading (w ++ rest) c (Fixed (Word m) ∷ y ∷ s) k ≡ reading rest (measure c None (token (lexeme.Fixed m))) (y ∷ s) k
  pass m w rest c k lexes within =
      passes grammar limits ProgramTree (Word m) (token (lexeme.Fixed m)) (lexed language (w ++ rest) Between) c (lexed language rest Between) (measure c None (token (lexeme.Fixed m))) y s k (table.same_self (Word m)) (takes None (lexeme.Fixed m) w rest c lexes within refl)

-- spaces, and parts that are nothing
pub skip_space : (rest : List ℕ) (c : Count) (s : Row grammar) (k : Values grammar s → ProgramTree) → reading (32 ∷ rest) c s k ≡ reading rest c s k
skip_space rest c s k = ap (λ t. scan grammar limits t c s k) (space rest)

pub regroup : (a b rest : List ℕ) (c : Count) (s : Row grammar) (k : Values grammar s → ProgramTree) → reading ((a ++ b) ++ rest) c s k ≡ reading (a ++ (b ++ rest)) c s k
regroup a b rest c s k = ap (λ w. reading w c s k) (append_assoc a b rest)

-- the text goes on with no token of a choice of this part
abbrev pub Lacking : Nonterminal → List ℕ → Type 0
Lacking n rest = Lacks grammar limits n (lexed language rest Between)

pub lacking : (n : Nonterminal) (bytes : List ℕ) (t : Text Lexeme) → lexed language bytes Between ≡ t → Lacks grammar limits n t → Lacking n bytes
lacking n bytes t e h = subst (λ (z : Text Lexeme). Lacks grammar limits n z) (sym e) h

pub lacking_space : (n : Nonterminal) (rest : List ℕ) → Lacking n rest → Lacking n (32 ∷ rest)
lacking_space n rest h = lacking n (32 ∷ rest) (lexed language rest Between) (space rest) h

pub skip : (n : Nonterminal) (v : Value n) (rest : List ℕ) (c : Count) (s : Row grammar) (k : Values grammar (Part n ∷ s) → ProgramTree) → grammar.empty n ≡ Some v → Lacking n rest → reading rest c (Part n ∷ s) k ≡ reading rest c s (λ vs. k (v, vs))
skip n v rest c s k e h = skips grammar limits ProgramTree n v (lexed language rest Between) c s k e h

-- a sum begins with a product, that with an operand, and a list of keys with a key
module _ (bytes : List ℕ) (c : Count) (s : Row grammar) where
  pub as_atom : (k : Values grammar (Part Product ∷ s) → ProgramTree) → reading bytes c (Part Product ∷ s) k ≡ reading bytes c (Part Atom ∷ Part ProductTail ∷ s) (λ vs. k (vs.1.0 vs.0, vs.1.1))
  as_atom k = lifted grammar limits ProgramTree Product Atom (Part ProductTail ∷ []) s (λ e vs. vs.0 e) k (lexed language bytes Between) c refl refl refl

  pub as_product : (k : Values grammar (Part Sum ∷ s) → ProgramTree) → reading bytes c (Part Sum ∷ s) k ≡ reading bytes c (Part Product ∷ Part SumTail ∷ s) (λ vs. k (vs.1.0 vs.0, vs.1.1))
  as_product k = lifted grammar limits ProgramTree Sum Product (Part SumTail ∷ []) s (λ e vs. vs.0 e) k (lexed language bytes Between) c refl refl refl

  pub as_key : (k : Values grammar (Part Keys ∷ s) → ProgramTree) → reading bytes c (Part Keys ∷ s) k ≡ reading bytes c (Part Key ∷ Part MoreKeys ∷ s) (λ vs. k (vs.0 ∷ vs.1.0, vs.1.1))
  as_key k = lifted grammar limits ProgramTree Keys Key (Part MoreKeys ∷ []) s (λ b vs. b ∷ vs.0) k (lexed language bytes Between) c refl refl refl
