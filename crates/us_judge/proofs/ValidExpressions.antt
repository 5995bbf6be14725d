-- What the limits of a text mean for the expressions that it declares: few nodes, constants and divisors in their limits.
use Rattle.std.proofs.Common.{◌≡◌, ℕ, suc, ◌^◌, ◌<◌, ◌≤◌, List, [], ◌∷◌, map, Bool, true, false, ltb, ◌&&◌, ◌||◌, refl, sym, subst, arith}
use Rattle.std.specs.Prelude.{Option, Some, None}
use Rattle.std.specs.List.{All}
use Rattle.std.proofs.lemmas.Bool.Decides.{nat_tests}
use Rattle.std.proofs.lemmas.List.Elements.{All-nil, All-cons, All-append, All-map}
use Rattle.us_expr.specs.Tree.{Tree, Variable, node_count, uses}
use Rattle.us_expr.specs.Value.{IsWithin}
use Rattle.us_decl.specs.Grammar.{Comma, Only, And, Expr, One, Plus, Less, Term, Just, Over, Rest, Factor, Row, Col, Named, Num, Group}
use Rattle.us_decl.specs.Grammar as grammar
use Rattle.us_decl.specs.Names.{number_of, names_part}
use Rattle.us_decl.specs.Limits.{nodes, nodes_term, nodes_factor, all, all_levels, all_run, fits_name, fits_nodes, fits_number, fits_expr, fits_term, fits_factor, fits_whole, fits_query, fits_queries, fits_levels, fits_part}
use Rattle.us_decl.specs.Declares.{tree_expr, tree_term, tree_factor, comma_items, run_items, maybe_items, whole_part, IsValid, Declared}
use Rattle.us_decl.specs.Declares as text
use Rattle.us_format.specs.Declaration.{Query, Part, argument}
use Rattle.us_judge.specs.Views.{part_of, plain_query, declaration_of}
use Rattle.us_judge.proofs.Valid.{each-part}

left_of : (a b : Bool) → (a && b) ≡ true → a ≡ true
left_of true b e = refl
left_of false b e = absurd cc

right_of : (a b : Bool) → (a && b) ≡ true → b ≡ true
right_of true b e = e
right_of false b e = absurd cc

or_left : (a b : Bool) → a ≡ true → (a || b) ≡ true
or_left true b e = refl
or_left false b e = absurd cc

or_right : (a b : Bool) → b ≡ true → (a || b) ≡ true
or_right true b e = refl
or_right false b e = e

below : (n : ℕ) → fits_number n ≡ true → n < 2 ^ 31
below n e = grind (arith, nat_tests)

few : (n : ℕ) → fits_nodes n ≡ true → n ≤ 32
few n e = grind (arith, nat_tests)

-- ---- expressions

mutual
  pub nodes-expr : (ns : List (List ℕ)) (e : Expr) → node_count (tree_expr ns e) ≡ nodes e
  nodes-expr ns (One t) = nodes-term ns t
  nodes-expr ns (Plus e t) = omega (arith, nodes-expr ns e, nodes-term ns t)
  nodes-expr ns (Less e t) = omega (arith, nodes-expr ns e, nodes-term ns t)

  pub nodes-term : (ns : List (List ℕ)) (t : Term) → node_count (tree_term ns t) ≡ nodes_term t
  nodes-term ns (Just f) = nodes-factor ns f
  nodes-term ns (Over t k) = omega (arith, nodes-term ns t)
  nodes-term ns (Rest t k) = omega (arith, nodes-term ns t)

  pub nodes-factor : (ns : List (List ℕ)) (f : Factor) → node_count (tree_factor ns f) ≡ nodes_factor f
  nodes-factor ns Row = refl
  nodes-factor ns Col = refl
  nodes-factor ns (Named w) = refl
  nodes-factor ns (Num n) = refl
  nodes-factor ns (Group e) = nodes-expr ns e

-- each variable that stands in an expression is below n
abbrev pub UsesBelow : ℕ → Tree → Type 0
UsesBelow n e = (v : ℕ) → uses e v ≡ true → v < n

itself : (v : ℕ) → uses (Variable v) v ≡ true
itself v = grind (arith, nat_tests)

mutual
  pub within-expr : (n d : ℕ) (ns : List (List ℕ)) (e : Expr) → fits_expr d e ≡ true → UsesBelow n (tree_expr ns e) → IsWithin n (tree_expr ns e)
  within-expr n d ns (One t) h u = within-term n d ns t h u
  within-expr n d ns (Plus e t) h u = (
    within-expr n d ns e (left_of (fits_expr d e) (fits_term d t) h) (λ v k. u v (or_left (uses (tree_expr ns e) v) (uses (tree_term ns t) v) k)),
    within-term n d ns t (right_of (fits_expr d e) (fits_term d t) h) (λ v k. u v (or_right (uses (tree_expr ns e) v) (uses (tree_term ns t) v) k)),
  )
  within-expr n d ns (Less e t) h u = (
    within-expr n d ns e (left_of (fits_expr d e) (fits_term d t) h) (λ v k. u v (or_left (uses (tree_expr ns e) v) (uses (tree_term ns t) v) k)),
    within-term n d ns t (right_of (fits_expr d e) (fits_term d t) h) (λ v k. u v (or_right (uses (tree_expr ns e) v) (uses (tree_term ns t) v) k)),
  )

  pub within-term : (n d : ℕ) (ns : List (List ℕ)) (t : Term) → fits_term d t ≡ true → UsesBelow n (tree_term ns t) → IsWithin n (tree_term ns t)
  within-term n d ns (Just f) h u = within-factor n d ns f h u
  within-term n d ns (Over t k) h u =
      (omega arith, below (suc k) (right_of (fits_term d t) (fits_number (suc k)) h), within-term n d ns t (left_of (fits_term d t) (fits_number (suc k)) h) u)
  within-term n d ns (Rest t k) h u =
      (omega arith, below (suc k) (right_of (fits_term d t) (fits_number (suc k)) h), within-term n d ns t (left_of (fits_term d t) (fits_number (suc k)) h) u)

  pub within-factor : (n d : ℕ) (ns : List (List ℕ)) (f : Factor) → fits_factor d f ≡ true → UsesBelow n (tree_factor ns f) → IsWithin n (tree_factor ns f)
  within-factor n d ns Row h u = tt
  within-factor n d ns Col h u = tt
  within-factor n d ns (Named w) h u = u (number_of w ns) (itself (number_of w ns))
  within-factor n d ns (Num k) h u = below k h
  within-factor n d ns (Group e) h u = within-expr n (suc d) ns e (right_of (ltb d 32) (fits_expr (suc d) e) h) u

-- an expression has few nodes, and its constants and divisors are in their limits
pub record IsSmall (e : Tree) : Type 0 where
  pub nodes : node_count e ≤ 32
  pub within : (n : ℕ) → UsesBelow n e → IsWithin n e

pub small-tree : (ns : List (List ℕ)) (e : Expr) → fits_whole e ≡ true → IsSmall (tree_expr ns e)
small-tree ns e h = record {
  nodes = subst (λ k. k ≤ 32) (sym (nodes-expr ns e)) (few (nodes e) (right_of (fits_expr 0 e) (fits_nodes (nodes e)) h));
  within = λ n u. within-expr n 0 ns e (left_of (fits_expr 0 e) (fits_nodes (nodes e)) h) u;
}

-- ---- levels

small-items : (ns : List (List ℕ)) (es : Comma Expr) → all fits_whole es ≡ true → All (λ e. IsSmall (tree_expr ns e)) (comma_items es)
small-items ns (Only e) h = All-cons (λ e. IsSmall (tree_expr ns e)) e [] (small-tree ns e h) (All-nil (λ e. IsSmall (tree_expr ns e)))
small-items ns (And es e) h =
    All-append (λ e. IsSmall (tree_expr ns e)) (comma_items es) (e ∷ []) (small-items ns es (left_of (all fits_whole es) (fits_whole e) h))
    (All-cons (λ e. IsSmall (tree_expr ns e)) e [] (small-tree ns e (right_of (all fits_whole es) (fits_whole e) h)) (All-nil (λ e. IsSmall (tree_expr ns e))))

small-levels : (ns : List (List ℕ)) (ls : Option (Comma Expr)) → all_levels ls ≡ true → All IsSmall (map (tree_expr ns) (maybe_items ls))
small-levels ns None h = All-nil IsSmall
small-levels ns (Some es) h = All-map IsSmall (tree_expr ns) (comma_items es) (small-items ns es h)

-- all levels of a part are small
abbrev pub HasSmallLevels : Part → Type 0
HasSmallLevels p = All IsSmall p.levels

small-part : (ns : List (List ℕ)) (p : grammar.Part) → fits_part p ≡ true → HasSmallLevels (part_of (text.part_of ns p))
small-part ns p h = small-levels ns p.levels (left_of (all_levels p.levels) _ (left_of (fits_levels p.queries p.levels) _ (right_of (fits_queries p.queries) _ h)))

-- the levels of a valid declaration are small
pub small-valid : (d : Declared) → IsValid d → All HasSmallLevels (declaration_of d).parts
small-valid d v = each-part HasSmallLevels (λ p h. small-part (names_part p) p h) d v

-- ---- arguments of queries

-- the argument of a query is small
abbrev pub HasSmallArgument : Query → Type 0
HasSmallArgument q = IsSmall (argument q)

small-query : (ns : List (List ℕ)) (q : grammar.Query) → fits_query q ≡ true → HasSmallArgument (plain_query (text.query_of ns q))
small-query ns (grammar.Single grammar.Sum v e) h = small-tree ns e (right_of (fits_name v) (fits_whole e) h)
small-query ns (grammar.Single grammar.Enumerate v e) h = small-tree ns e (right_of (fits_name v) (fits_whole e) h)
small-query ns (grammar.Single grammar.Reorder v e) h = small-tree ns e (right_of (fits_name v) (fits_whole e) h)
small-query ns (grammar.Lanes v w e k) h = small-tree ns e (left_of (fits_whole e) _ (right_of (fits_name w) _ (right_of (fits_name v) _ h)))

small-run : (ns : List (List ℕ)) (qs : grammar.Run grammar.Query) → all_run fits_query qs ≡ true → All (λ q. HasSmallArgument (plain_query (text.query_of ns q))) (run_items qs)
small-run ns grammar.Empty h = All-nil (λ q. HasSmallArgument (plain_query (text.query_of ns q)))
small-run ns (grammar.Then qs q) h =
    All-append (λ q. HasSmallArgument (plain_query (text.query_of ns q))) (run_items qs) (q ∷ []) (small-run ns qs (left_of (all_run fits_query qs) (fits_query q) h))
    (All-cons (λ q. HasSmallArgument (plain_query (text.query_of ns q))) q [] (small-query ns q (right_of (all_run fits_query qs) (fits_query q) h))
    (All-nil (λ q. HasSmallArgument (plain_query (text.query_of ns q)))))

small-queries : (ns : List (List ℕ)) (qs : grammar.Run grammar.Query) → fits_queries qs ≡ true → All HasSmallArgument (map plain_query (map (text.query_of ns) (run_items qs)))
small-queries ns qs h =
    All-map HasSmallArgument plain_query (map (text.query_of ns) (run_items qs))
    (All-map (λ q. HasSmallArgument (plain_query q)) (text.query_of ns) (run_items qs) (small-run ns qs (left_of (all_run fits_query qs) _ h)))

small-asked : (p : grammar.Part) → fits_part p ≡ true → All HasSmallArgument (part_of (whole_part p)).queries
small-asked p h = small-queries (names_part p) p.queries (left_of (fits_queries p.queries) _ h)

-- the arguments of the queries of a valid declaration's parts are small
pub arguments-valid : (d : Declared) → IsValid d → All (λ p. All HasSmallArgument p.queries) (declaration_of d).parts
arguments-valid d v = each-part (λ p. All HasSmallArgument p.queries) small-asked d v
