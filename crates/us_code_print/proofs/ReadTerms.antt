-- The text of a term is read as the term.
use Rattle.std.proofs.Common.{◌≡◌, ◌<◌, ◌≤◌, ℕ, zero, suc, ◌+◌, ◌-◌, ◌^◌, List, [], ◌∷◌, ◌++◌, true, max, codes, None, refl, ap, ◌∙◌, arith}
use Rattle.std.specs.Fmt.{decimal}
use Rattle.us_grammar.specs.Grammar.{Symbol, Fixed, Part, Row, Values, pick}
use Rattle.us_code.specs.declared.program.Dim.{Dim}
use Rattle.us_code.specs.declared.program.Dim.TheVariants as dim
use Rattle.us_code.specs.Plain.{ProgramTree, TermTree, Number, Reg, Size, Flat, Next, Up, Add, Sub, Mul, Div, Rem}
use Rattle.us_code.specs.Limits.{nodes, parens, FitsDim, FitsNumbers}
use Rattle.us_code_table.specs.declared.mark.Mark.{Mark}
use Rattle.us_code_table.specs.declared.mark.Mark.TheVariants as m
use Rattle.us_code_table.specs.declared.lexeme.Lexeme.TheVariants as lexeme
use Rattle.us_code_table.specs.Table.{Nonterminal, Class, Word, Sum, SumTail, Product, ProductTail, Atom, DimOrNumber, DimName, Divisor, grammar}
use Rattle.us_code_table.specs.Limits.{Count}
use Rattle.us_code_print.specs.Canon.{register_text, dim_name_text, dim_text, is_sum, is_operation, parenthesized, term_text}
use Rattle.us_code_print.specs.ReadBack.{NamedTerm}
use Rattle.us_code_print.proofs.Lexed.{Lexes, Stops, register_lexes, dim_lexes, length_lexes, number_lexes, word_lexes, open_lexes, close_lexes, comma_lexes, plus_lexes, minus_lexes, star_lexes, slash_lexes, percent_lexes, line_end}
use Rattle.us_code_print.proofs.Front.{reading, Within, below, choose, pass, skip_space, regroup, Lacking, lacking, lacking_space, skip, as_atom, as_product}

-- what stands behind a term: no more of a word, and no operator
pub record Ends (rest : List ℕ) : Type 0 where
  pub stops : Stops rest
  pub product : Lacking ProductTail rest
  pub sum : Lacking SumTail rest

pub ends_close : (rest : List ℕ) → Ends (41 ∷ rest)
ends_close rest = record { stops = refl; product = lacking ProductTail (41 ∷ rest) _ (close_lexes rest) refl; sum = lacking SumTail (41 ∷ rest) _ (close_lexes rest) refl }

pub ends_comma : (rest : List ℕ) → Ends (44 ∷ rest)
ends_comma rest = record { stops = refl; product = lacking ProductTail (44 ∷ rest) _ (comma_lexes rest) refl; sum = lacking SumTail (44 ∷ rest) _ (comma_lexes rest) refl }

-- a word or a sign behind a space
pub ends_space : (c : Mark) (w rest : List ℕ) → Lexes (lexeme.Fixed c) w rest → pick grammar {n = ProductTail} (grammar.choices ProductTail) (Word c) ≡ None → pick grammar {n = SumTail} (grammar.choices SumTail) (Word c) ≡ None → Ends (32 ∷ (w ++ rest))
ends_space c w rest is product sum = record {
  stops = refl;
  product = lacking_space ProductTail (w ++ rest) (lacking ProductTail (w ++ rest) _ is product);
  sum = lacking_space SumTail (w ++ rest) (lacking SumTail (w ++ rest) _ is sum);
}

pub ends_line : (rest : List ℕ) → Lacking ProductTail rest → Lacking SumTail rest → Ends (10 ∷ rest)
ends_line rest product sum = record { stops = refl; product = lacking ProductTail (10 ∷ rest) _ (line_end rest) product; sum = lacking SumTail (10 ∷ rest) _ (line_end rest) sum }

-- Dims and divisors

module _ (rest : List ℕ) (c : Count) (within : Within c) (stop : Stops rest) (y : Symbol Nonterminal Class) (s : Row grammar) where
  dim_number : (n : ℕ) → n < 2 ^ 63 → (k : Values grammar (Part DimOrNumber ∷ y ∷ s) → ProgramTree) → reading (decimal n ++ rest) c (Part DimOrNumber ∷ y ∷ s) k ≡ reading rest c (y ∷ s) (λ vs. k (dim.Number n, vs))
  dim_number zero h k = choose y s DimOrNumber (lexeme.Number 0) (decimal 0) rest c k _ refl (number_lexes 0 rest h stop) within refl
  dim_number (suc zero) h k = choose y s DimOrNumber (lexeme.Number 1) (decimal 1) rest c k _ refl (number_lexes 1 rest h stop) within refl
  dim_number (suc (suc n)) h k = choose y s DimOrNumber (lexeme.Number (suc (suc n))) (decimal (suc (suc n))) rest c k _ refl (number_lexes (suc (suc n)) rest h stop) within (below (suc (suc n)) 9223372036854775808 h)

  pub reads_dim : (d : Dim) → FitsDim d → (k : Values grammar (Part DimOrNumber ∷ y ∷ s) → ProgramTree) → reading (dim_text d ++ rest) c (Part DimOrNumber ∷ y ∷ s) k ≡ reading rest c (y ∷ s) (λ vs. k (d, vs))
  reads_dim (dim.Number n) h k = dim_number n h k
  reads_dim (dim.Name d) h k = choose y s DimOrNumber (lexeme.DimName d) (dim_name_text d) rest c k _ refl (dim_lexes d rest h stop) within (below d 4294967296 h)
  reads_dim (dim.Len d) h k = choose y s DimOrNumber (lexeme.Length d) (dim_text (dim.Len d)) rest c k _ refl (length_lexes d rest h stop) within (below d 4294967296 h)

  pub reads_dim_name : (d : ℕ) → d < 2 ^ 32 → (k : Values grammar (Part DimName ∷ y ∷ s) → ProgramTree) → reading (dim_name_text d ++ rest) c (Part DimName ∷ y ∷ s) k ≡ reading rest c (y ∷ s) (λ vs. k (d, vs))
  reads_dim_name d h k = choose y s DimName (lexeme.DimName d) (dim_name_text d) rest c k _ refl (dim_lexes d rest h stop) within (below d 4294967296 h)

  reads_divisor : (n : ℕ) → 0 < n → n < 2 ^ 63 → (k : Values grammar (Part Divisor ∷ y ∷ s) → ProgramTree) → reading (decimal n ++ rest) c (Part Divisor ∷ y ∷ s) k ≡ reading rest c (y ∷ s) (λ vs. k (n, vs))
  reads_divisor zero some h k = absurd (omega arith)
  reads_divisor (suc zero) some h k = choose y s Divisor (lexeme.Number 1) (decimal 1) rest c k _ refl (number_lexes 1 rest h stop) within refl
  reads_divisor (suc (suc n)) some h k = choose y s Divisor (lexeme.Number (suc (suc n))) (decimal (suc (suc n))) rest c k _ refl (number_lexes (suc (suc n)) rest h stop) within (below (suc (suc n)) 9223372036854775808 h)

-- counts with so many nodes and open parentheses
abbrev pub counts : Count → ℕ → ℕ → Count
counts c n q = record { items = c.items; braces = c.braces; nodes = n; parens = q; names = c.names; sources = c.sources }

pub inside : (c : Count) → Within c → (n q : ℕ) → n ≤ 256 → q ≤ 64 → Within (counts c n q)
inside c w n q few shallow = record { items = w.items; braces = w.braces; nodes = few; parens = shallow; names = w.names; sources = w.sources }

-- The text of a term is read where an operand, a product or a sum is due; it needs so many parentheses.

abbrev AsAtom : Count → TermTree → List ℕ → ℕ → Type 0
AsAtom c t w p = (n q : ℕ) → n + nodes t ≤ 256 → q + p ≤ 64 → (rest : List ℕ) → Stops rest → (y : Symbol Nonterminal Class) (s : Row grammar) (k : Values grammar (Part Atom ∷ y ∷ s) → ProgramTree)
    → reading (w ++ rest) (counts c n q) (Part Atom ∷ y ∷ s) k ≡ reading rest (counts c (n + nodes t) q) (y ∷ s) (λ vs. k (t, vs))

abbrev AsProduct : Count → TermTree → List ℕ → ℕ → Type 0
AsProduct c t w p = (n q : ℕ) → n + nodes t ≤ 256 → q + p ≤ 64 → (rest : List ℕ) → Stops rest → (y : Symbol Nonterminal Class) (s : Row grammar) (k : Values grammar (Part Product ∷ y ∷ s) → ProgramTree)
    → reading (w ++ rest) (counts c n q) (Part Product ∷ y ∷ s) k ≡ reading rest (counts c (n + nodes t) q) (Part ProductTail ∷ y ∷ s) (λ vs. k (vs.0 t, vs.1))

abbrev AsSum : Count → TermTree → List ℕ → ℕ → Type 0
AsSum c t w p = (n q : ℕ) → n + nodes t ≤ 256 → q + p ≤ 64 → (rest : List ℕ) → Stops rest → Lacking ProductTail rest → (y : Symbol Nonterminal Class) (s : Row grammar) (k : Values grammar (Part Sum ∷ y ∷ s) → ProgramTree)
    → reading (w ++ rest) (counts c n q) (Part Sum ∷ y ∷ s) k ≡ reading rest (counts c (n + nodes t) q) (Part SumTail ∷ y ∷ s) (λ vs. k (vs.0 t, vs.1))

pub record ReadsTerm (c : Count) (t : TermTree) : Type 0 where
  pub sum : AsSum c t (term_text t) (parens 0 t)
  pub product : AsProduct c t (parenthesized (is_sum t) (term_text t)) (parens 1 t)
  pub atom : AsAtom c t (parenthesized (is_operation t) (term_text t)) (parens 2 t)

one_less : (q : ℕ) → q + 1 - 1 ≡ q
one_less q = omega arith

regrouped : (n a b : ℕ) → n + a + 1 + b ≡ n + (1 + a + b)
regrouped n a b = omega arith

one_behind : (n a : ℕ) → n + a + 1 ≡ n + (1 + a)
one_behind n a = omega arith

first_node : (n a : ℕ) → n + 1 + a ≡ n + (1 + a)
first_node n a = omega arith

both_nodes : (n a b : ℕ) → n + 1 + a + b ≡ n + (1 + a + b)
both_nodes n a b = omega arith

left_depth : (q a b : ℕ) → q + max a b ≤ 64 → q + a ≤ 64
left_depth q a b h = omega arith

right_depth : (q a b : ℕ) → q + max a b ≤ 64 → q + b ≤ 64
right_depth q a b h = omega arith

module _ (c : Count) (w : Within c) where
  product_of_atom : (t : TermTree) (x : List ℕ) (p : ℕ) → AsAtom c t x p → AsProduct c t x p
  product_of_atom t x p h n q few shallow rest stop y s k = as_atom (x ++ rest) (counts c n q) (y ∷ s) k ∙ h n q few shallow rest stop (Part ProductTail) (y ∷ s) (λ vs. k (vs.1.0 vs.0, vs.1.1))

  sum_of_product : (t : TermTree) (x : List ℕ) (p : ℕ) → AsProduct c t x p → AsSum c t x p
  sum_of_product t x p h n q few shallow rest stop lacks y s k =
      as_product (x ++ rest) (counts c n q) (y ∷ s) k
      ∙ h n q few shallow rest stop (Part SumTail) (y ∷ s) (λ vs. k (vs.1.0 vs.0, vs.1.1))
      ∙ skip ProductTail (λ e. e) rest (counts c (n + nodes t) q) (Part SumTail ∷ y ∷ s) (λ vs. k (vs.1.0 (vs.0 t), vs.1.1)) refl lacks

  -- a sum and the end of its place
  pub whole : (t : TermTree) (x : List ℕ) (p : ℕ) → AsSum c t x p → (n q : ℕ) → n + nodes t ≤ 256 → q + p ≤ 64 → (rest : List ℕ) → Ends rest → (y : Symbol Nonterminal Class) (s : Row grammar) (k : Values grammar (Part Sum ∷ y ∷ s) → ProgramTree)
      → reading (x ++ rest) (counts c n q) (Part Sum ∷ y ∷ s) k ≡ reading rest (counts c (n + nodes t) q) (y ∷ s) (λ vs. k (t, vs))
  whole t x p h n q few shallow rest ends y s k =
      h n q few shallow rest ends.stops ends.product y s k ∙ skip SumTail (λ e. e) rest (counts c (n + nodes t) q) (y ∷ s) (λ vs. k (vs.0 t, vs.1)) refl ends.sum

  -- a sum and the parenthesis behind it
  closed : (t : TermTree) (x : List ℕ) (p : ℕ) → AsSum c t x p → (n q : ℕ) → n + nodes t ≤ 256 → q + suc p ≤ 64 → (rest : List ℕ) → (y : Symbol Nonterminal Class) (s : Row grammar) (k : Values grammar (Part Sum ∷ Fixed (Word m.Close) ∷ y ∷ s) → ProgramTree)
      → reading ((x ++ codes ")") ++ rest) (counts c n (q + 1)) (Part Sum ∷ Fixed (Word m.Close) ∷ y ∷ s) k ≡ reading rest (counts c (n + nodes t) q) (y ∷ s) (λ vs. k (t, vs))
  closed t x p h n q few shallow rest y s k =
      regroup x (41 ∷ []) rest (counts c n (q + 1)) (Part Sum ∷ Fixed (Word m.Close) ∷ y ∷ s) k
      ∙ whole t x p h n (q + 1) few (omega arith) (41 ∷ rest) (ends_close rest) (Fixed (Word m.Close)) (y ∷ s) k
      ∙ pass y s m.Close (41 ∷ []) rest (counts c (n + nodes t) (q + 1)) (λ vs. k (t, vs)) (close_lexes rest) (inside c w (n + nodes t) (q + 1 - 1) few (omega arith))
      ∙ ap (λ z. reading rest (counts c (n + nodes t) z) (y ∷ s) (λ vs. k (t, vs))) (one_less q)

  atom_of_sum : (t : TermTree) (x : List ℕ) (p : ℕ) → AsSum c t x p → AsAtom c t (parenthesized true x) (suc p)
  atom_of_sum t x p h n q few shallow rest stop y s k =
      choose y s Atom (lexeme.Fixed m.Open) (40 ∷ []) ((x ++ codes ")") ++ rest) (counts c n q) k _ refl (open_lexes ((x ++ codes ")") ++ rest)) (inside c w n (q + 1) (omega arith) (omega arith)) refl
      ∙ closed t x p h n q few shallow rest y s (λ vs. k (vs.0, vs.1))

  by_atom : (t : TermTree) (x : List ℕ) (p : ℕ) → AsAtom c t x p → AsSum c t x p
  by_atom t x p h = sum_of_product t x p (product_of_atom t x p h)

  -- Operators

  plus : (rest : List ℕ) (n q : ℕ) → n + 1 ≤ 256 → q ≤ 64 → (y : Symbol Nonterminal Class) (s : Row grammar) (k : Values grammar (Part SumTail ∷ y ∷ s) → ProgramTree)
      → reading (codes " + " ++ rest) (counts c n q) (Part SumTail ∷ y ∷ s) k ≡ reading rest (counts c (n + 1) q) (Part Product ∷ Part SumTail ∷ y ∷ s) (λ vs. k ((λ e. vs.1.0 (Add e vs.0)), vs.1.1))
  plus rest n q few shallow y s k =
      skip_space (43 ∷ 32 ∷ rest) (counts c n q) (Part SumTail ∷ y ∷ s) k
      ∙ choose y s SumTail (lexeme.Fixed m.Plus) (43 ∷ []) (32 ∷ rest) (counts c n q) k _ refl (plus_lexes rest) (inside c w (n + 1) q few shallow) refl
      ∙ skip_space rest (counts c (n + 1) q) (Part Product ∷ Part SumTail ∷ y ∷ s) _

  minus : (rest : List ℕ) (n q : ℕ) → n + 1 ≤ 256 → q ≤ 64 → (y : Symbol Nonterminal Class) (s : Row grammar) (k : Values grammar (Part SumTail ∷ y ∷ s) → ProgramTree)
      → reading (codes " - " ++ rest) (counts c n q) (Part SumTail ∷ y ∷ s) k ≡ reading rest (counts c (n + 1) q) (Part Product ∷ Part SumTail ∷ y ∷ s) (λ vs. k ((λ e. vs.1.0 (Sub e vs.0)), vs.1.1))
  minus rest n q few shallow y s k =
      skip_space (45 ∷ 32 ∷ rest) (counts c n q) (Part SumTail ∷ y ∷ s) k
      ∙ choose y s SumTail (lexeme.Fixed m.Minus) (45 ∷ []) (32 ∷ rest) (counts c n q) k _ refl (minus_lexes rest) (inside c w (n + 1) q few shallow) refl
      ∙ skip_space rest (counts c (n + 1) q) (Part Product ∷ Part SumTail ∷ y ∷ s) _

  star : (rest : List ℕ) (n q : ℕ) → n + 1 ≤ 256 → q ≤ 64 → (y : Symbol Nonterminal Class) (s : Row grammar) (k : Values grammar (Part ProductTail ∷ y ∷ s) → ProgramTree)
      → reading (codes " * " ++ rest) (counts c n q) (Part ProductTail ∷ y ∷ s) k ≡ reading rest (counts c (n + 1) q) (Part Atom ∷ Part ProductTail ∷ y ∷ s) (λ vs. k ((λ e. vs.1.0 (Mul e vs.0)), vs.1.1))
  star rest n q few shallow y s k =
      skip_space (42 ∷ 32 ∷ rest) (counts c n q) (Part ProductTail ∷ y ∷ s) k
      ∙ choose y s ProductTail (lexeme.Fixed m.Star) (42 ∷ []) (32 ∷ rest) (counts c n q) k _ refl (star_lexes rest) (inside c w (n + 1) q few shallow) refl
      ∙ skip_space rest (counts c (n + 1) q) (Part Atom ∷ Part ProductTail ∷ y ∷ s) _

  slash : (rest : List ℕ) (n q : ℕ) → n + 1 ≤ 256 → q ≤ 64 → (y : Symbol Nonterminal Class) (s : Row grammar) (k : Values grammar (Part ProductTail ∷ y ∷ s) → ProgramTree)
      → reading (codes " / " ++ rest) (counts c n q) (Part ProductTail ∷ y ∷ s) k ≡ reading rest (counts c (n + 1) q) (Part Divisor ∷ Part ProductTail ∷ y ∷ s) (λ vs. k ((λ e. vs.1.0 (Div e vs.0)), vs.1.1))
  slash rest n q few shallow y s k =
      skip_space (47 ∷ 32 ∷ rest) (counts c n q) (Part ProductTail ∷ y ∷ s) k
      ∙ choose y s ProductTail (lexeme.Fixed m.Slash) (47 ∷ []) (32 ∷ rest) (counts c n q) k _ refl (slash_lexes rest) (inside c w (n + 1) q few shallow) refl
      ∙ skip_space rest (counts c (n + 1) q) (Part Divisor ∷ Part ProductTail ∷ y ∷ s) _

  percent : (rest : List ℕ) (n q : ℕ) → n + 1 ≤ 256 → q ≤ 64 → (y : Symbol Nonterminal Class) (s : Row grammar) (k : Values grammar (Part ProductTail ∷ y ∷ s) → ProgramTree)
      → reading (codes " % " ++ rest) (counts c n q) (Part ProductTail ∷ y ∷ s) k ≡ reading rest (counts c (n + 1) q) (Part Divisor ∷ Part ProductTail ∷ y ∷ s) (λ vs. k ((λ e. vs.1.0 (Rem e vs.0)), vs.1.1))
  percent rest n q few shallow y s k =
      skip_space (37 ∷ 32 ∷ rest) (counts c n q) (Part ProductTail ∷ y ∷ s) k
      ∙ choose y s ProductTail (lexeme.Fixed m.Percent) (37 ∷ []) (32 ∷ rest) (counts c n q) k _ refl (percent_lexes rest) (inside c w (n + 1) q few shallow) refl
      ∙ skip_space rest (counts c (n + 1) q) (Part Divisor ∷ Part ProductTail ∷ y ∷ s) _

  -- no operator of a product in front of one of a sum
  no_star_plus : (rest : List ℕ) → Lacking ProductTail (codes " + " ++ rest)
  no_star_plus rest = lacking_space ProductTail (43 ∷ 32 ∷ rest) (lacking ProductTail (43 ∷ 32 ∷ rest) _ (plus_lexes rest) refl)

  no_star_minus : (rest : List ℕ) → Lacking ProductTail (codes " - " ++ rest)
  no_star_minus rest = lacking_space ProductTail (45 ∷ 32 ∷ rest) (lacking ProductTail (45 ∷ 32 ∷ rest) _ (minus_lexes rest) refl)

  -- Each form of a term

  reg : (r : ℕ) → r < 2 ^ 32 → AsAtom c (Reg r) (register_text r) 0
  reg r h n q few shallow rest stop y s k = choose y s Atom (lexeme.Register r) (register_text r) rest (counts c n q) k _ refl (register_lexes r rest h stop) (inside c w (n + 1) q few (omega arith)) (below r 4294967296 h)

  number : (v : ℕ) → v < 2 ^ 63 → AsAtom c (Number v) (decimal v) 0
  number zero h n q few shallow rest stop y s k = choose y s Atom (lexeme.Number 0) (decimal 0) rest (counts c n q) k _ refl (number_lexes 0 rest h stop) (inside c w (n + 1) q few (omega arith)) refl
  number (suc zero) h n q few shallow rest stop y s k = choose y s Atom (lexeme.Number 1) (decimal 1) rest (counts c n q) k _ refl (number_lexes 1 rest h stop) (inside c w (n + 1) q few (omega arith)) refl
  number (suc (suc v)) h n q few shallow rest stop y s k =
      choose y s Atom (lexeme.Number (suc (suc v))) (decimal (suc (suc v))) rest (counts c n q) k _ refl (number_lexes (suc (suc v)) rest h stop) (inside c w (n + 1) q few (omega arith)) (below (suc (suc v)) 9223372036854775808 h)

  size : (d : Dim) → FitsDim d → AsAtom c (Size d) (term_text (Size d)) 1
  size d h n q few shallow rest stop y s k =
      let more = (dim_text d ++ codes ")") ++ rest in
      let at = counts c (n + 1) (q + 1) in
      let within = inside c w (n + 1) (q + 1) few shallow in
      choose y s Atom (lexeme.Fixed m.Size) (codes "size") (40 ∷ more) (counts c n q) k _ refl (word_lexes (codes "size") m.Size (40 ∷ more) record { first = refl; all = refl } refl refl) (inside c w (n + 1) q few (omega arith)) refl
      ∙ pass (Part DimOrNumber) (Fixed (Word m.Close) ∷ y ∷ s) m.Open (40 ∷ []) more (counts c (n + 1) q) (λ vs. k (Size vs.0, vs.1)) (open_lexes more) within
      ∙ regroup (dim_text d) (41 ∷ []) rest at (Part DimOrNumber ∷ Fixed (Word m.Close) ∷ y ∷ s) (λ vs. k (Size vs.0, vs.1))
      ∙ reads_dim (41 ∷ rest) at within refl (Fixed (Word m.Close)) (y ∷ s) d h (λ vs. k (Size vs.0, vs.1))
      ∙ pass y s m.Close (41 ∷ []) rest at (λ vs. k (Size d, vs)) (close_lexes rest) (inside c w (n + 1) (q + 1 - 1) few (omega arith))
      ∙ ap (λ z. reading rest (counts c (n + 1) z) (y ∷ s) (λ vs. k (Size d, vs))) (one_less q)

  -- a dim, and the parenthesis behind it
  called : (d : ℕ) → d < 2 ^ 32 → (x rest : List ℕ) (n q : ℕ) → n ≤ 256 → q + 1 ≤ 64 → (y : Symbol Nonterminal Class) (s : Row grammar) (k : Values grammar (Part DimName ∷ Fixed (Word m.Open) ∷ y ∷ s) → ProgramTree)
      → reading (32 ∷ (((dim_name_text d ++ codes "(") ++ x) ++ rest)) (counts c n q) (Part DimName ∷ Fixed (Word m.Open) ∷ y ∷ s) k ≡ reading (x ++ rest) (counts c n (q + 1)) (y ∷ s) (λ vs. k (d, vs))
  called d h x rest n q few shallow y s k =
      let row = Part DimName ∷ Fixed (Word m.Open) ∷ y ∷ s in
      let at = counts c n q in
      skip_space (((dim_name_text d ++ codes "(") ++ x) ++ rest) at row k
      ∙ regroup (dim_name_text d ++ codes "(") x rest at row k
      ∙ regroup (dim_name_text d) (40 ∷ []) (x ++ rest) at row k
      ∙ reads_dim_name (40 ∷ (x ++ rest)) at (inside c w n q few (omega arith)) refl (Fixed (Word m.Open)) (y ∷ s) d h k
      ∙ pass y s m.Open (40 ∷ []) (x ++ rest) at (λ vs. k (d, vs)) (open_lexes (x ++ rest)) (inside c w n (q + 1) few shallow)

  flat : (d : ℕ) (a b : TermTree) → d < 2 ^ 32 → ReadsTerm c a → ReadsTerm c b → AsAtom c (Flat d a b) (term_text (Flat d a b)) (1 + max (parens 0 a) (parens 0 b))
  flat d a b h ra rb n q few shallow rest stop y s k =
      let last = term_text b ++ codes ")" in
      let args = term_text a ++ (codes ", " ++ last) in
      let behind = 32 ∷ (((dim_name_text d ++ codes "(") ++ args) ++ rest) in
      let row = Part Sum ∷ Fixed (Word m.Comma) ∷ Part Sum ∷ Fixed (Word m.Close) ∷ y ∷ s in
      choose y s Atom (lexeme.Fixed m.Flat) (codes "flat") behind (counts c n q) k _ refl (word_lexes (codes "flat") m.Flat behind record { first = refl; all = refl } refl refl) (inside c w (n + 1) q (omega arith) (omega arith)) refl
      ∙ called d h args rest (n + 1) q (omega arith) (omega arith) (Part Sum) (Fixed (Word m.Comma) ∷ Part Sum ∷ Fixed (Word m.Close) ∷ y ∷ s) (λ vs. k (Flat vs.0 vs.1.0 vs.1.1.0, vs.1.1.1))
      ∙ regroup (term_text a) (codes ", " ++ last) rest (counts c (n + 1) (q + 1)) row (λ vs. k (Flat d vs.0 vs.1.0, vs.1.1))
      ∙ whole a (term_text a) (parens 0 a) ra.sum (n + 1) (q + 1) (omega arith) (omega arith) (44 ∷ 32 ∷ (last ++ rest)) (ends_comma (32 ∷ (last ++ rest))) (Fixed (Word m.Comma)) (Part Sum ∷ Fixed (Word m.Close) ∷ y ∷ s) (λ vs. k (Flat d vs.0 vs.1.0, vs.1.1))
      ∙ pass (Part Sum) (Fixed (Word m.Close) ∷ y ∷ s) m.Comma (44 ∷ []) (32 ∷ (last ++ rest)) (counts c (n + 1 + nodes a) (q + 1)) (λ vs. k (Flat d a vs.0, vs.1)) (comma_lexes (32 ∷ (last ++ rest))) (inside c w (n + 1 + nodes a) (q + 1) (omega arith) (omega arith))
      ∙ skip_space (last ++ rest) (counts c (n + 1 + nodes a) (q + 1)) (Part Sum ∷ Fixed (Word m.Close) ∷ y ∷ s) (λ vs. k (Flat d a vs.0, vs.1))
      ∙ closed b (term_text b) (parens 0 b) rb.sum (n + 1 + nodes a) q (omega arith) (omega arith) rest y s (λ vs. k (Flat d a vs.0, vs.1))
      ∙ ap (λ z. reading rest (counts c z q) (y ∷ s) (λ vs. k (Flat d a b, vs))) (both_nodes n (nodes a) (nodes b))

  next : (d : ℕ) (a : TermTree) → d < 2 ^ 32 → ReadsTerm c a → AsAtom c (Next d a) (term_text (Next d a)) (1 + parens 0 a)
  next d a h ra n q few shallow rest stop y s k =
      let args = term_text a ++ codes ")" in
      let behind = 32 ∷ (((dim_name_text d ++ codes "(") ++ args) ++ rest) in
      choose y s Atom (lexeme.Fixed m.Next) (codes "next") behind (counts c n q) k _ refl (word_lexes (codes "next") m.Next behind record { first = refl; all = refl } refl refl) (inside c w (n + 1) q (omega arith) (omega arith)) refl
      ∙ called d h args rest (n + 1) q (omega arith) (omega arith) (Part Sum) (Fixed (Word m.Close) ∷ y ∷ s) (λ vs. k (Next vs.0 vs.1.0, vs.1.1))
      ∙ closed a (term_text a) (parens 0 a) ra.sum (n + 1) q (omega arith) (omega arith) rest y s (λ vs. k (Next d vs.0, vs.1))
      ∙ ap (λ z. reading rest (counts c z q) (y ∷ s) (λ vs. k (Next d a, vs))) (first_node n (nodes a))

  up : (d : ℕ) (a : TermTree) → d < 2 ^ 32 → ReadsTerm c a → AsAtom c (Up d a) (term_text (Up d a)) (1 + parens 0 a)
  up d a h ra n q few shallow rest stop y s k =
      let args = term_text a ++ codes ")" in
      let behind = 32 ∷ (((dim_name_text d ++ codes "(") ++ args) ++ rest) in
      choose y s Atom (lexeme.Fixed m.Up) (codes "up") behind (counts c n q) k _ refl (word_lexes (codes "up") m.Up behind record { first = refl; all = refl } refl refl) (inside c w (n + 1) q (omega arith) (omega arith)) refl
      ∙ called d h args rest (n + 1) q (omega arith) (omega arith) (Part Sum) (Fixed (Word m.Close) ∷ y ∷ s) (λ vs. k (Up vs.0 vs.1.0, vs.1.1))
      ∙ closed a (term_text a) (parens 0 a) ra.sum (n + 1) q (omega arith) (omega arith) rest y s (λ vs. k (Up d vs.0, vs.1))
      ∙ ap (λ z. reading rest (counts c z q) (y ∷ s) (λ vs. k (Up d a, vs))) (first_node n (nodes a))

  add : (a b : TermTree) → ReadsTerm c a → ReadsTerm c b → AsSum c (Add a b) (term_text (Add a b)) (max (parens 0 a) (parens 1 b))
  add a b ra rb n q few shallow rest stop lacks y s k =
      let right = parenthesized (is_sum b) (term_text b) in
      regroup (term_text a) (codes " + " ++ right) rest (counts c n q) (Part Sum ∷ y ∷ s) k
      ∙ ra.sum n q (omega arith) (omega arith) (codes " + " ++ (right ++ rest)) refl (no_star_plus (right ++ rest)) y s k
      ∙ plus (right ++ rest) (n + nodes a) q (omega arith) (omega arith) y s (λ vs. k (vs.0 a, vs.1))
      ∙ rb.product (n + nodes a + 1) q (omega arith) (omega arith) rest stop (Part SumTail) (y ∷ s) (λ vs. k (vs.1.0 (Add a vs.0), vs.1.1))
      ∙ skip ProductTail (λ e. e) rest (counts c (n + nodes a + 1 + nodes b) q) (Part SumTail ∷ y ∷ s) (λ vs. k (vs.1.0 (Add a (vs.0 b)), vs.1.1)) refl lacks
      ∙ ap (λ z. reading rest (counts c z q) (Part SumTail ∷ y ∷ s) (λ vs. k (vs.0 (Add a b), vs.1))) (regrouped n (nodes a) (nodes b))

  sub : (a b : TermTree) → ReadsTerm c a → ReadsTerm c b → AsSum c (Sub a b) (term_text (Sub a b)) (max (parens 0 a) (parens 1 b))
  sub a b ra rb n q few shallow rest stop lacks y s k =
      let right = parenthesized (is_sum b) (term_text b) in
      regroup (term_text a) (codes " - " ++ right) rest (counts c n q) (Part Sum ∷ y ∷ s) k
      ∙ ra.sum n q (omega arith) (omega arith) (codes " - " ++ (right ++ rest)) refl (no_star_minus (right ++ rest)) y s k
      ∙ minus (right ++ rest) (n + nodes a) q (omega arith) (omega arith) y s (λ vs. k (vs.0 a, vs.1))
      ∙ rb.product (n + nodes a + 1) q (omega arith) (omega arith) rest stop (Part SumTail) (y ∷ s) (λ vs. k (vs.1.0 (Sub a vs.0), vs.1.1))
      ∙ skip ProductTail (λ e. e) rest (counts c (n + nodes a + 1 + nodes b) q) (Part SumTail ∷ y ∷ s) (λ vs. k (vs.1.0 (Sub a (vs.0 b)), vs.1.1)) refl lacks
      ∙ ap (λ z. reading rest (counts c z q) (Part SumTail ∷ y ∷ s) (λ vs. k (vs.0 (Sub a b), vs.1))) (regrouped n (nodes a) (nodes b))

  mul : (a b : TermTree) → ReadsTerm c a → ReadsTerm c b → AsProduct c (Mul a b) (term_text (Mul a b)) (max (parens 1 a) (parens 2 b))
  mul a b ra rb n q few shallow rest stop y s k =
      let left = parenthesized (is_sum a) (term_text a) in
      let right = parenthesized (is_operation b) (term_text b) in
      regroup left (codes " * " ++ right) rest (counts c n q) (Part Product ∷ y ∷ s) k
      ∙ ra.product n q (omega arith) (omega arith) (codes " * " ++ (right ++ rest)) refl y s k
      ∙ star (right ++ rest) (n + nodes a) q (omega arith) (omega arith) y s (λ vs. k (vs.0 a, vs.1))
      ∙ rb.atom (n + nodes a + 1) q (omega arith) (omega arith) rest stop (Part ProductTail) (y ∷ s) (λ vs. k (vs.1.0 (Mul a vs.0), vs.1.1))
      ∙ ap (λ z. reading rest (counts c z q) (Part ProductTail ∷ y ∷ s) (λ vs. k (vs.0 (Mul a b), vs.1))) (regrouped n (nodes a) (nodes b))

  div : (a : TermTree) (v : ℕ) → ReadsTerm c a → 0 < v → v < 2 ^ 63 → AsProduct c (Div a v) (term_text (Div a v)) (parens 1 a)
  div a v ra some small n q few shallow rest stop y s k =
      let left = parenthesized (is_sum a) (term_text a) in
      regroup left (codes " / " ++ decimal v) rest (counts c n q) (Part Product ∷ y ∷ s) k
      ∙ ra.product n q (omega arith) shallow (codes " / " ++ (decimal v ++ rest)) refl y s k
      ∙ slash (decimal v ++ rest) (n + nodes a) q (omega arith) (omega arith) y s (λ vs. k (vs.0 a, vs.1))
      ∙ reads_divisor rest (counts c (n + nodes a + 1) q) (inside c w (n + nodes a + 1) q (omega arith) (omega arith)) stop (Part ProductTail) (y ∷ s) v some small (λ vs. k (vs.1.0 (Div a vs.0), vs.1.1))
      ∙ ap (λ z. reading rest (counts c z q) (Part ProductTail ∷ y ∷ s) (λ vs. k (vs.0 (Div a v), vs.1))) (one_behind n (nodes a))

  rem : (a : TermTree) (v : ℕ) → ReadsTerm c a → 0 < v → v < 2 ^ 63 → AsProduct c (Rem a v) (term_text (Rem a v)) (parens 1 a)
  rem a v ra some small n q few shallow rest stop y s k =
      let left = parenthesized (is_sum a) (term_text a) in
      regroup left (codes " % " ++ decimal v) rest (counts c n q) (Part Product ∷ y ∷ s) k
      ∙ ra.product n q (omega arith) shallow (codes " % " ++ (decimal v ++ rest)) refl y s k
      ∙ percent (decimal v ++ rest) (n + nodes a) q (omega arith) (omega arith) y s (λ vs. k (vs.0 a, vs.1))
      ∙ reads_divisor rest (counts c (n + nodes a + 1) q) (inside c w (n + nodes a + 1) q (omega arith) (omega arith)) stop (Part ProductTail) (y ∷ s) v some small (λ vs. k (vs.1.0 (Rem a vs.0), vs.1.1))
      ∙ ap (λ z. reading rest (counts c z q) (Part ProductTail ∷ y ∷ s) (λ vs. k (vs.0 (Rem a v), vs.1))) (one_behind n (nodes a))

  pub reads_term : (t : TermTree) → NamedTerm t → FitsNumbers t → ReadsTerm c t
  reads_term (Number v) h f = let a = number v f in record { sum = by_atom (Number v) (term_text (Number v)) (parens 0 (Number v)) a; product = product_of_atom (Number v) (term_text (Number v)) (parens 0 (Number v)) a; atom = a }
  reads_term (Reg r) h f = let a = reg r h in record { sum = by_atom (Reg r) (term_text (Reg r)) (parens 0 (Reg r)) a; product = product_of_atom (Reg r) (term_text (Reg r)) (parens 0 (Reg r)) a; atom = a }
  reads_term (Size d) h f = let a = size d f in record { sum = by_atom (Size d) (term_text (Size d)) (parens 0 (Size d)) a; product = product_of_atom (Size d) (term_text (Size d)) (parens 0 (Size d)) a; atom = a }
  reads_term (Flat d x z) h f = let a = flat d x z h.0 (reads_term x h.1 f.0) (reads_term z h.2 f.1) in record { sum = by_atom (Flat d x z) (term_text (Flat d x z)) (parens 0 (Flat d x z)) a; product = product_of_atom (Flat d x z) (term_text (Flat d x z)) (parens 0 (Flat d x z)) a; atom = a }
  reads_term (Next d x) h f = let a = next d x h.0 (reads_term x h.1 f) in record { sum = by_atom (Next d x) (term_text (Next d x)) (parens 0 (Next d x)) a; product = product_of_atom (Next d x) (term_text (Next d x)) (parens 0 (Next d x)) a; atom = a }
  reads_term (Up d x) h f = let a = up d x h.0 (reads_term x h.1 f) in record { sum = by_atom (Up d x) (term_text (Up d x)) (parens 0 (Up d x)) a; product = product_of_atom (Up d x) (term_text (Up d x)) (parens 0 (Up d x)) a; atom = a }
  reads_term (Add x z) h f = let a = add x z (reads_term x h.0 f.0) (reads_term z h.1 f.1) in let g = atom_of_sum (Add x z) (term_text (Add x z)) (parens 0 (Add x z)) a in record { sum = a; product = product_of_atom (Add x z) (parenthesized true (term_text (Add x z))) (parens 1 (Add x z)) g; atom = g }
  reads_term (Sub x z) h f = let a = sub x z (reads_term x h.0 f.0) (reads_term z h.1 f.1) in let g = atom_of_sum (Sub x z) (term_text (Sub x z)) (parens 0 (Sub x z)) a in record { sum = a; product = product_of_atom (Sub x z) (parenthesized true (term_text (Sub x z))) (parens 1 (Sub x z)) g; atom = g }
  reads_term (Mul x z) h f = let a = mul x z (reads_term x h.0 f.0) (reads_term z h.1 f.1) in let g = sum_of_product (Mul x z) (term_text (Mul x z)) (parens 1 (Mul x z)) a in record { sum = g; product = a; atom = atom_of_sum (Mul x z) (term_text (Mul x z)) (parens 0 (Mul x z)) g }
  reads_term (Div x v) h f = let a = div x v (reads_term x h f.0) f.1 f.2 in let g = sum_of_product (Div x v) (term_text (Div x v)) (parens 1 (Div x v)) a in record { sum = g; product = a; atom = atom_of_sum (Div x v) (term_text (Div x v)) (parens 0 (Div x v)) g }
  reads_term (Rem x v) h f = let a = rem x v (reads_term x h f.0) f.1 f.2 in let g = sum_of_product (Rem x v) (term_text (Rem x v)) (parens 1 (Rem x v)) a in record { sum = g; product = a; atom = atom_of_sum (Rem x v) (term_text (Rem x v)) (parens 0 (Rem x v)) g }
