-- The names of a head or a part, in the order of their first occurrences. The place of a name there is its number.
use Rattle.std.specs.Prelude.{ℕ, List, [], ◌∷◌, ◌++◌, length, Bool, true, false, cond, not, eqb, ltb, ◌&&◌, Option, Some, None}
use Rattle.std.specs.List.{prefix_len}
use Rattle.us_decl.specs.Grammar.{Comma, Only, And, Run, Empty, Then, Expr, One, Plus, Less, Term, Just, Over, Rest, Factor, Row, Col, Named, Num, Group, Query, Single, Lanes, Part, Block, Head}

abbrev pub same_name : List ℕ → List ℕ → Bool
same_name [] [] = true
same_name [] (b ∷ bs) = false
same_name (a ∷ as') [] = false
same_name (a ∷ as') (b ∷ bs) = eqb a b && same_name as' bs

-- the number of a name among others: how many stand before it, and that is all of them if it is not there
abbrev pub number_of : List ℕ → List (List ℕ) → ℕ
number_of w ns = prefix_len (λ n. not (same_name w n)) ns

-- names with one more, if it is new
abbrev pub with_name : List ℕ → List (List ℕ) → List (List ℕ)
with_name w ns = cond (eqb (number_of w ns) (length ns)) (ns ++ (w ∷ [])) ns

-- names with those of an expression
abbrev mutual
  pub names_expr : Expr → List (List ℕ) → List (List ℕ)
  names_expr (One t) ns = names_term t ns
  names_expr (Plus e t) ns = names_term t (names_expr e ns)
  names_expr (Less e t) ns = names_term t (names_expr e ns)

  pub names_term : Term → List (List ℕ) → List (List ℕ)
  names_term (Just f) ns = names_factor f ns
  names_term (Over t k) ns = names_term t ns
  names_term (Rest t k) ns = names_term t ns

  pub names_factor : Factor → List (List ℕ) → List (List ℕ)
  names_factor Row ns = ns
  names_factor Col ns = ns
  names_factor (Named w) ns = with_name w ns
  names_factor (Num n) ns = ns
  names_factor (Group e) ns = names_expr e ns

abbrev pub names_query : Query → List (List ℕ) → List (List ℕ)
names_query (Single q v e) ns = names_expr e (with_name v ns)
names_query (Lanes v w e k) ns = names_expr e (with_name w (with_name v ns))

abbrev pub names_queries : Run Query → List (List ℕ)
names_queries Empty = []
names_queries (Then qs q) = names_query q (names_queries qs)

abbrev pub names_comma : Comma Expr → List (List ℕ) → List (List ℕ)
names_comma (Only e) ns = names_expr e ns
names_comma (And es e) ns = names_expr e (names_comma es ns)

abbrev pub names_levels : Option (Comma Expr) → List (List ℕ) → List (List ℕ)
names_levels None ns = ns
names_levels (Some es) ns = names_comma es ns

abbrev pub names_part : Part → List (List ℕ)
names_part p = names_levels p.levels (names_queries p.queries)

abbrev pub names_blocks : Run Block → List (List ℕ) → List (List ℕ)
names_blocks Empty ns = ns
names_blocks (Then bs b) ns = with_name b.name (names_blocks bs ns)

-- those of the queries, and then those of the conditions
abbrev pub names_head : Head → List (List ℕ)
names_head h = with_name h.name (names_blocks h.blocks (names_queries h.queries))

-- the name is one of these
abbrev pub is_among : List ℕ → List (List ℕ) → Bool
is_among n ns = ltb (number_of n ns) (length ns)
