-- The numbers of the variables of a valid declaration's parts are below the numbers of their names.
use Rattle.std.proofs.Common.{◌≡◌, ℕ, ◌<◌, ◌≤◌, List, [], ◌∷◌, ◌++◌, length, map, Bool, true, false, cond, eqb, ◌&&◌, ◌||◌, refl, sym, subst, arith}
use Rattle.std.specs.Prelude.{Option, Some, None}
use Rattle.std.specs.List.{All}
use Rattle.std.proofs.lemmas.Bool.Decides.{nat_tests}
use Rattle.std.proofs.lemmas.List.{length-append}
use Rattle.std.proofs.lemmas.List.Elements.{All-nil, All-cons, All-head, All-tail, All-append, All-map}
use Rattle.us_expr.specs.Tree.{Variable, uses}
use Rattle.us_format.specs.Declaration.{Query, Part, defines, defined}
use Rattle.us_decl.specs.Grammar.{Comma, Only, And, Run, Empty, Then, Expr, One, Plus, Less, Term, Just, Over, Rest, Factor, Row, Col, Named, Num, Group}
use Rattle.us_decl.specs.Grammar as grammar
use Rattle.us_decl.specs.Limits.{fits_names, fits_queries, fits_levels, fits_part}
use Rattle.us_decl.specs.Names.{number_of, with_name, names_expr, names_term, names_comma, names_levels, names_part, names_query, names_queries}
use Rattle.us_decl.specs.Declares.{tree_expr, tree_term, tree_factor, query_of, comma_items, run_items, maybe_items, whole_part, IsValid, Declared}
use Rattle.us_decl.proofs.Numbering.{GoesOn, goes_on_self, goes_on_trans, with_goes_on, expr_goes_on, term_goes_on, at_most, stays}
use Rattle.us_judge.specs.Views.{plain_query, part_of, declaration_of}
use Rattle.us_judge.proofs.Valid.{each-part}
use Rattle.us_judge.proofs.ValidExpressions.{UsesBelow}

left_of : (a b : Bool) → (a && b) ≡ true → a ≡ true
left_of true b e = refl
left_of false b e = absurd cc

right_of : (a b : Bool) → (a && b) ≡ true → b ≡ true
right_of true b e = e
right_of false b e = absurd cc

either : (p q : Bool) (R : Type 0) → (p ≡ true → R) → (q ≡ true → R) → (p || q) ≡ true → R
either true q R f g e = f refl
either false q R f g e = g e

same_number : (v w : ℕ) → uses (Variable w) v ≡ true → w ≡ v
same_number v w e = grind (arith, nat_tests)

-- ---- a name that joined

less : (m n : ℕ) → eqb m n ≡ false → m ≤ n → m < n
less m n e h = grind (arith, nat_tests)

joined_by : (b : Bool) (w : List ℕ) (ns more : List (List ℕ)) → eqb (number_of w ns) (length ns) ≡ b → number_of w ns < length (cond b (ns ++ (w ∷ [])) ns ++ more)
joined_by true w ns more e = omega (arith, at_most w ns, length-append (ns ++ (w ∷ [])) more, length-append ns (w ∷ []))
joined_by false w ns more e = omega (arith, less (number_of w ns) (length ns) e (at_most w ns), length-append ns more)

joined-below : (w : List ℕ) (ns more : List (List ℕ)) → number_of w (with_name w ns ++ more) < length (with_name w ns ++ more)
joined-below w ns more =
    subst (λ (k : ℕ). k < length (with_name w ns ++ more)) (sym (stays w ns more)) (joined_by (eqb (number_of w ns) (length ns)) w ns more refl)

-- ---- expressions, where more names may follow

mutual
  below-expr : (e : Expr) (ns ms : List (List ℕ)) → GoesOn (names_expr e ns) ms → UsesBelow (length ms) (tree_expr ms e)
  below-expr (One t) ns ms g = below-term t ns ms g
  below-expr (Plus e t) ns ms g = λ v u.
      either (uses (tree_expr ms e) v) (uses (tree_term ms t) v) (v < length ms)
      (below-expr e ns ms (goes_on_trans _ _ _ (term_goes_on t (names_expr e ns)) g) v) (below-term t (names_expr e ns) ms g v) u
  below-expr (Less e t) ns ms g = λ v u.
      either (uses (tree_expr ms e) v) (uses (tree_term ms t) v) (v < length ms)
      (below-expr e ns ms (goes_on_trans _ _ _ (term_goes_on t (names_expr e ns)) g) v) (below-term t (names_expr e ns) ms g v) u

  below-term : (t : Term) (ns ms : List (List ℕ)) → GoesOn (names_term t ns) ms → UsesBelow (length ms) (tree_term ms t)
  below-term (Just f) ns ms g = below-factor f ns ms g
  below-term (Over t k) ns ms g = below-term t ns ms g
  below-term (Rest t k) ns ms g = below-term t ns ms g

  below-factor : (f : Factor) (ns ms : List (List ℕ)) → GoesOn (names_term (Just f) ns) ms → UsesBelow (length ms) (tree_factor ms f)
  below-factor Row ns ms g = λ v u. absurd cc
  below-factor Col ns ms g = λ v u. absurd cc
  below-factor (Named w) ns ms g = λ v u.
      subst (λ (k : ℕ). k < length ms) (same_number v (number_of w ms) u)
      (subst (λ (xs : List (List ℕ)). number_of w xs < length xs) (sym g.is) (joined-below w ns g.more))
  below-factor (Num n) ns ms g = λ v u. absurd cc
  below-factor (Group e) ns ms g = below-expr e ns ms g

-- ---- levels

below-comma : (es : Comma Expr) (ns ms : List (List ℕ)) → GoesOn (names_comma es ns) ms → All (λ e. UsesBelow (length ms) (tree_expr ms e)) (comma_items es)
below-comma (Only e) ns ms g =
    All-cons (λ x. UsesBelow (length ms) (tree_expr ms x)) e [] (below-expr e ns ms g) (All-nil (λ x. UsesBelow (length ms) (tree_expr ms x)))
below-comma (And es e) ns ms g =
    All-append (λ x. UsesBelow (length ms) (tree_expr ms x)) (comma_items es) (e ∷ [])
    (below-comma es ns ms (goes_on_trans _ _ _ (expr_goes_on e (names_comma es ns)) g))
    (All-cons (λ x. UsesBelow (length ms) (tree_expr ms x)) e [] (below-expr e (names_comma es ns) ms g) (All-nil (λ x. UsesBelow (length ms) (tree_expr ms x))))

below-levels : (ls : Option (Comma Expr)) (ns : List (List ℕ)) → All (UsesBelow (length (names_levels ls ns))) (map (tree_expr (names_levels ls ns)) (maybe_items ls))
below-levels None ns = All-nil (UsesBelow (length ns))
below-levels (Some es) ns =
    All-map (UsesBelow (length (names_comma es ns))) (tree_expr (names_comma es ns)) (comma_items es) (below-comma es ns (names_comma es ns) (goes_on_self (names_comma es ns)))

-- ---- queries

-- the number of a name that joined is below how many names there are
below-joined : (w : List ℕ) (ns ms : List (List ℕ)) → GoesOn (with_name w ns) ms → number_of w ms < length ms
below-joined w ns ms g = subst (λ (xs : List (List ℕ)). number_of w xs < length xs) (sym g.is) (joined-below w ns g.more)

query_goes_on : (q : grammar.Query) (ns : List (List ℕ)) → GoesOn ns (names_query q ns)
query_goes_on (grammar.Single o v e) ns = goes_on_trans _ _ _ (with_goes_on v ns) (expr_goes_on e (with_name v ns))
query_goes_on (grammar.Lanes v w e k) ns =
    goes_on_trans _ _ _ (with_goes_on v ns) (goes_on_trans _ _ _ (with_goes_on w (with_name v ns)) (expr_goes_on e (with_name w (with_name v ns))))

comma_goes_on : (es : Comma Expr) (ns : List (List ℕ)) → GoesOn ns (names_comma es ns)
comma_goes_on (Only e) ns = expr_goes_on e ns
comma_goes_on (And es e) ns = goes_on_trans _ _ _ (comma_goes_on es ns) (expr_goes_on e (names_comma es ns))

levels_go_on : (ls : Option (Comma Expr)) (ns : List (List ℕ)) → GoesOn ns (names_levels ls ns)
levels_go_on None ns = goes_on_self ns
levels_go_on (Some es) ns = comma_goes_on es ns

-- the variables that a query defines are below n
abbrev DefinesBelow : ℕ → Query → Type 0
DefinesBelow n q = All (λ v. v < n) (defines q)

one-below : (n v : ℕ) → v < n → All (λ u. u < n) (v ∷ [])
one-below n v h = All-cons (λ u. u < n) v [] h (All-nil (λ u. u < n))

below-query : (q : grammar.Query) (ns ms : List (List ℕ)) → GoesOn (names_query q ns) ms → DefinesBelow (length ms) (plain_query (query_of ms q))
below-query (grammar.Single grammar.Sum v e) ns ms g =
    one-below (length ms) (number_of v ms) (below-joined v ns ms (goes_on_trans _ _ _ (expr_goes_on e (with_name v ns)) g))
below-query (grammar.Single grammar.Enumerate v e) ns ms g =
    one-below (length ms) (number_of v ms) (below-joined v ns ms (goes_on_trans _ _ _ (expr_goes_on e (with_name v ns)) g))
below-query (grammar.Single grammar.Reorder v e) ns ms g =
    one-below (length ms) (number_of v ms) (below-joined v ns ms (goes_on_trans _ _ _ (expr_goes_on e (with_name v ns)) g))
below-query (grammar.Lanes v w e k) ns ms g =
    let second : GoesOn (with_name w (with_name v ns)) ms = goes_on_trans _ _ _ (expr_goes_on e (with_name w (with_name v ns))) g in
    All-cons (λ u. u < length ms) (number_of v ms) (number_of w ms ∷ []) (below-joined v ns ms (goes_on_trans _ _ _ (with_goes_on w (with_name v ns)) second))
    (one-below (length ms) (number_of w ms) (below-joined w (with_name v ns) ms second))

below-run : (qs : Run grammar.Query) (ms : List (List ℕ)) → GoesOn (names_queries qs) ms → All (λ q. DefinesBelow (length ms) (plain_query (query_of ms q))) (run_items qs)
below-run Empty ms g = All-nil (λ q. DefinesBelow (length ms) (plain_query (query_of ms q)))
below-run (Then qs q) ms g =
    All-append (λ q. DefinesBelow (length ms) (plain_query (query_of ms q))) (run_items qs) (q ∷ [])
    (below-run qs ms (goes_on_trans _ _ _ (query_goes_on q (names_queries qs)) g))
    (All-cons (λ q. DefinesBelow (length ms) (plain_query (query_of ms q))) q [] (below-query q (names_queries qs) ms g)
    (All-nil (λ q. DefinesBelow (length ms) (plain_query (query_of ms q)))))

each-below : (n : ℕ) (qs : List Query) → All (DefinesBelow n) qs → All (λ v. v < n) (defined qs)
each-below n [] h = All-nil (λ v. v < n)
each-below n (q ∷ qs) h = All-append (λ v. v < n) (defines q) (defined qs) (All-head (DefinesBelow n) q qs h) (each-below n qs (All-tail (DefinesBelow n) q qs h))

-- ---- parts

few : (ns : List (List ℕ)) → fits_names ns ≡ true → length ns ≤ 32
few ns e = grind (arith, nat_tests)

few_names : (p : grammar.Part) → fits_part p ≡ true → length (names_part p) ≤ 32
few_names p h =
    few (names_part p) (right_of _ _ (right_of _ _ (left_of (fits_levels p.queries p.levels) _ (right_of (fits_queries p.queries) _ h))))

-- at most 32 names, and each variable that stands in a level or that a query defines has the number of one
pub record HasNames (p : Part) : Type 0 where
  pub few : p.names ≤ 32
  pub levels : All (UsesBelow p.names) p.levels
  pub queries : All (λ v. v < p.names) (defined p.queries)

named_part : (p : grammar.Part) → fits_part p ≡ true → HasNames (part_of (whole_part p))
named_part p h =
    let ms : List (List ℕ) = names_part p in
    record {
      few = few_names p h;
      levels = below-levels p.levels (names_queries p.queries);
      queries =
          each-below (length ms) (map plain_query (map (query_of ms) (run_items p.queries)))
          (All-map (DefinesBelow (length ms)) plain_query (map (query_of ms) (run_items p.queries))
          (All-map (λ q. DefinesBelow (length ms) (plain_query q)) (query_of ms) (run_items p.queries)
          (below-run p.queries ms (levels_go_on p.levels (names_queries p.queries)))));
    }

-- each part of a valid declaration
pub names-valid : (d : Declared) → IsValid d → All HasNames (declaration_of d).parts
names-valid d v = each-part HasNames named_part d v
