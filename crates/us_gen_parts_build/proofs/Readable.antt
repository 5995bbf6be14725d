-- Each name of an accepted part is defined, its variables are numbers that an index may be, and its levels are short with narrow ranges.
use Rattle.std.proofs.Common.{◌≡◌, ℕ, ◌*◌, ◌^◌, ◌<◌, ◌≤◌, ◌⊎◌, inl, inr, List, [], ◌∷◌, ◌++◌, map, length, Bool, true, false, cond, eqb, ◌&&◌, ◌||◌, refl, sym, ap, ◌∙◌, subst, arith, pos, negsuc, ℤ, ◌+ℤ◌, ◌-ℤ◌}
use Rattle.std.specs.Prelude.{Option, Some, None, Contains, IsTrue, nat_le, slice_index_or}
use Rattle.std.specs.List.{All}
use Rattle.std.specs.Ordering.{int_eq}
use Rattle.std.proofs.lemmas.Bool.{cases_lt, false≢true, and_parts}
use Rattle.std.proofs.lemmas.Bool.Decides.{nat_tests}
use Rattle.std.proofs.lemmas.Int.{ints}
use Rattle.std.proofs.lemmas.List.{length-append}
use Rattle.std.proofs.lemmas.List.Folds.{list_any-append}
use Rattle.std.proofs.lemmas.List.FromFn.{length-map-range_with_len}
use Rattle.std.proofs.lemmas.List.Sums.{count_by-le-length}
use Rattle.us_expr.specs.declared.queries.Axis.{Axis}
use Rattle.us_expr.specs.declared.queries.Axis.TheVariants.{Rows, Cols}
use Rattle.us_expr.specs.declared.ranges.Range.{Range}
use Rattle.us_expr.specs.Tree.{Tree, Variable, node_count, uses}
use Rattle.us_expr.specs.Range.{IsNear}
use Rattle.us_expr.specs.Value.{IsIndex, IsWithin}
use Rattle.us_expr.proofs.Bounds.{near_more, range_near}
use Rattle.us_format.specs.Lists.{among, nat_of}
use Rattle.us_format.specs.Matrix.{Entry, Shape, IsMatrixOf, earlier, index_at, indices}
use Rattle.us_format.specs.Declaration.{Query, SumOf, Enumerate, Reorder, Schedule, Part, argument, axis_of, defines, defined}
use Rattle.us_format.specs.Coordinates.{variable_range, variable_ranges, level_range, span}
use Rattle.us_format.specs.Queries.{plain_value, enumerate_at, extent_of, extents_of, lane_at, rank_of, slot_at, sum_at, variable_at}
use Rattle.us_format.specs.Reading.{limit}
use Rattle.us_format.specs.Rules.{IsLawful, has_lawful_argument}
use Rattle.us_format.proofs.Lawful.{argument-plain, uses-none, index-below, lane-below, slot-below}
use Rattle.us_format.proofs.Members.{all-Mem, Mem-all, Mem-left, Mem-right, contains-Mem}
use Rattle.us_format.proofs.Order.{Mem, Mem-map, Mem-of_map}
use Rattle.us_format.proofs.Queries.{rank-below}
use Rattle.us_build.proofs.Extents.{enumerate-few, schedule-few}
use Rattle.us_decl.specs.Grammar.{Comma, Only, And, Run, Empty, Then, Expr, One, Plus, Less, Term, Just, Over, Rest, Factor, Row, Col, Named, Num, Group}
use Rattle.us_decl.specs.Grammar as grammar
use Rattle.us_decl.specs.Limits.{fits_part}
use Rattle.us_decl.specs.Names.{number_of, with_name, names_expr, names_term, names_factor, names_query, names_queries, names_comma, names_levels, names_part}
use Rattle.us_decl.specs.Declares.{tree_expr, tree_term, tree_factor, query_of, comma_items, run_items, maybe_items, whole_part, IsValid, Declared}
use Rattle.us_decl.proofs.Numbering.{GoesOn, goes_on_self, goes_on_trans, with_goes_on, expr_goes_on, term_goes_on, stays}
use Rattle.us_judge.specs.Acceptance.{first_refusal, bad_count, has_lawful_lanes}
use Rattle.us_judge.specs.Format.{part_at}
use Rattle.us_judge.specs.Views.{plain_query, part_of, declaration_of}
use Rattle.us_judge.proofs.Accepted.{KeepsRules, accepted-keeps, all-pass}
use Rattle.us_judge.proofs.LawfulDeclarations.{accepted-lawful}
use Rattle.us_judge.proofs.NamesBelow.{HasNames, names-valid}
use Rattle.us_judge.proofs.Valid.{each-part}
use Rattle.us_judge.proofs.ValidExpressions.{IsSmall, small-valid}
use Rattle.us_judge.proofs.VariableRanges.{ranges-near}

-- ---- names

itself : (v : ℕ) → uses (Variable v) v ≡ true
itself v = grind (arith, nat_tests)

first_of_two : (a b : Bool) → a ≡ true → (a || b) ≡ true
first_of_two true b e = refl
first_of_two false b e = absurd cc

second_of_two : (a b : Bool) → b ≡ true → (a || b) ≡ true
second_of_two true b e = refl
second_of_two false b e = e

either : (a b : Bool) (P : Type 0) → (a ≡ true → P) → (b ≡ true → P) → (a || b) ≡ true → P
either true b P f g e = f refl
either false b P f g e = g e

same : (m n : ℕ) → eqb m n ≡ true → m ≡ n
same m n e = grind (arith, nat_tests)

among-first : (v : ℕ) (xs : List ℕ) → among v (v ∷ xs) ≡ true
among-first v xs = first_of_two (eqb v v) (among v xs) (eqb_self v)
  where
    eqb_self : (n : ℕ) → eqb n n ≡ true
    eqb_self n = grind (arith, nat_tests)

-- what holds of a name's number, and of the numbers of the names before it, holds of all numbers so far
each-name : (T : ℕ → Type 0) (w : List ℕ) (ns ms : List (List ℕ)) → GoesOn (with_name w ns) ms → T (number_of w ms) → ((v : ℕ) → v < length ns → T v) → (v : ℕ) → v < length (with_name w ns) → T v
each-name T w ns ms g new old v lt = by (eqb (number_of w ns) (length ns)) refl lt
  where
    number : number_of w ms ≡ number_of w ns
    number = ap (number_of w) g.is ∙ stays w ns g.more

    last : eqb (number_of w ns) (length ns) ≡ true → v < length (ns ++ (w ∷ [])) → (v < length ns) ⊎ (length ns ≤ v) → T v
    last e l (inl k) = old v k
    last e l (inr k) = subst T (omega (arith, number, same (number_of w ns) (length ns) e, k, l, length-append ns (w ∷ []))) new

    by : (b : Bool) → eqb (number_of w ns) (length ns) ≡ b → v < length (cond b (ns ++ (w ∷ [])) ns) → T v
    by true e l = last e l (cases_lt v (length ns))
    by false e l = old v l

mutual
  each-expr : (T : ℕ → Type 0) (e : Expr) (ns ms : List (List ℕ)) → GoesOn (names_expr e ns) ms → ((v : ℕ) → uses (tree_expr ms e) v ≡ true → T v) → ((v : ℕ) → v < length ns → T v) → (v : ℕ) → v < length (names_expr e ns) → T v
  each-expr T (One t) ns ms g all old = each-term T t ns ms g all old
  each-expr T (Plus e t) ns ms g all old =
      each-term T t (names_expr e ns) ms g (λ v u. all v (second_of_two (uses (tree_expr ms e) v) (uses (tree_term ms t) v) u))
      (each-expr T e ns ms (goes_on_trans _ _ _ (term_goes_on t (names_expr e ns)) g) (λ v u. all v (first_of_two (uses (tree_expr ms e) v) (uses (tree_term ms t) v) u)) old)
  each-expr T (Less e t) ns ms g all old =
      each-term T t (names_expr e ns) ms g (λ v u. all v (second_of_two (uses (tree_expr ms e) v) (uses (tree_term ms t) v) u))
      (each-expr T e ns ms (goes_on_trans _ _ _ (term_goes_on t (names_expr e ns)) g) (λ v u. all v (first_of_two (uses (tree_expr ms e) v) (uses (tree_term ms t) v) u)) old)

  each-term : (T : ℕ → Type 0) (t : Term) (ns ms : List (List ℕ)) → GoesOn (names_term t ns) ms → ((v : ℕ) → uses (tree_term ms t) v ≡ true → T v) → ((v : ℕ) → v < length ns → T v) → (v : ℕ) → v < length (names_term t ns) → T v
  each-term T (Just f) ns ms g all old = each-factor T f ns ms g all old
  each-term T (Over t k) ns ms g all old = each-term T t ns ms g all old
  each-term T (Rest t k) ns ms g all old = each-term T t ns ms g all old

  each-factor : (T : ℕ → Type 0) (f : Factor) (ns ms : List (List ℕ)) → GoesOn (names_factor f ns) ms → ((v : ℕ) → uses (tree_factor ms f) v ≡ true → T v) → ((v : ℕ) → v < length ns → T v) → (v : ℕ) → v < length (names_factor f ns) → T v
  each-factor T Row ns ms g all old = old
  each-factor T Col ns ms g all old = old
  each-factor T (Named w) ns ms g all old = each-name T w ns ms g (all (number_of w ms) (itself (number_of w ms))) old
  each-factor T (Num n) ns ms g all old = old
  each-factor T (Group e) ns ms g all old = each-expr T e ns ms g all old

-- all that a query defines, and all that stands in its argument
pub record HasAll (T : ℕ → Type 0) (q : Query) : Type 0 where
  pub new : (v : ℕ) → among v (defines q) ≡ true → T v
  pub asked : (v : ℕ) → uses (argument q) v ≡ true → T v

each-query : (T : ℕ → Type 0) (q : grammar.Query) (ns ms : List (List ℕ)) → GoesOn (names_query q ns) ms → HasAll T (plain_query (query_of ms q)) → ((v : ℕ) → v < length ns → T v) → (v : ℕ) → v < length (names_query q ns) → T v
each-query T (grammar.Single grammar.Sum v e) ns ms g has old =
    each-expr T e (with_name v ns) ms g has.asked (each-name T v ns ms (goes_on_trans _ _ _ (expr_goes_on e (with_name v ns)) g) (has.new (number_of v ms) (among-first (number_of v ms) [])) old)
each-query T (grammar.Single grammar.Enumerate v e) ns ms g has old =
    each-expr T e (with_name v ns) ms g has.asked (each-name T v ns ms (goes_on_trans _ _ _ (expr_goes_on e (with_name v ns)) g) (has.new (number_of v ms) (among-first (number_of v ms) [])) old)
each-query T (grammar.Single grammar.Reorder v e) ns ms g has old =
    each-expr T e (with_name v ns) ms g has.asked (each-name T v ns ms (goes_on_trans _ _ _ (expr_goes_on e (with_name v ns)) g) (has.new (number_of v ms) (among-first (number_of v ms) [])) old)
each-query T (grammar.Lanes v w e k) ns ms g has old =
    let second : GoesOn (with_name w (with_name v ns)) ms = goes_on_trans _ _ _ (expr_goes_on e (with_name w (with_name v ns))) g in
    each-expr T e (with_name w (with_name v ns)) ms g has.asked
    (each-name T w (with_name v ns) ms second (has.new (number_of w ms) (second_of_two (eqb (number_of w ms) (number_of v ms)) (among (number_of w ms) (number_of w ms ∷ [])) (among-first (number_of w ms) [])))
    (each-name T v ns ms (goes_on_trans _ _ _ (with_goes_on w (with_name v ns)) second) (has.new (number_of v ms) (among-first (number_of v ms) (number_of w ms ∷ []))) old))

query_goes_on : (q : grammar.Query) (ns : List (List ℕ)) → GoesOn ns (names_query q ns)
query_goes_on (grammar.Single o v e) ns = goes_on_trans _ _ _ (with_goes_on v ns) (expr_goes_on e (with_name v ns))
query_goes_on (grammar.Lanes v w e k) ns =
    goes_on_trans _ _ _ (with_goes_on v ns) (goes_on_trans _ _ _ (with_goes_on w (with_name v ns)) (expr_goes_on e (with_name w (with_name v ns))))

each-run : (T : ℕ → Type 0) (qs : Run grammar.Query) (ms : List (List ℕ)) → GoesOn (names_queries qs) ms → ((q : grammar.Query) → Mem q (run_items qs) → HasAll T (plain_query (query_of ms q))) → (v : ℕ) → v < length (names_queries qs) → T v
each-run T Empty ms g has v lt = absurd (omega (arith, lt))
each-run T (Then qs q) ms g has v lt =
    each-query T q (names_queries qs) ms g (has q (Mem-right q (run_items qs) (q ∷ []) (inl refl)))
    (each-run T qs ms (goes_on_trans _ _ _ (query_goes_on q (names_queries qs)) g) (λ x mx. has x (Mem-left x (run_items qs) (q ∷ []) mx))) v lt

comma_goes_on : (es : Comma Expr) (ns : List (List ℕ)) → GoesOn ns (names_comma es ns)
comma_goes_on (Only e) ns = expr_goes_on e ns
comma_goes_on (And es e) ns = goes_on_trans _ _ _ (comma_goes_on es ns) (expr_goes_on e (names_comma es ns))

levels_go_on : (ls : Option (Comma Expr)) (ns : List (List ℕ)) → GoesOn ns (names_levels ls ns)
levels_go_on None ns = goes_on_self ns
levels_go_on (Some es) ns = comma_goes_on es ns

each-comma : (T : ℕ → Type 0) (es : Comma Expr) (ns ms : List (List ℕ)) → GoesOn (names_comma es ns) ms → ((e : Expr) → Mem e (comma_items es) → (v : ℕ) → uses (tree_expr ms e) v ≡ true → T v) → ((v : ℕ) → v < length ns → T v) → (v : ℕ) → v < length (names_comma es ns) → T v
each-comma T (Only e) ns ms g has old = each-expr T e ns ms g (has e (inl refl)) old
each-comma T (And es e) ns ms g has old =
    each-expr T e (names_comma es ns) ms g (has e (Mem-right e (comma_items es) (e ∷ []) (inl refl)))
    (each-comma T es ns ms (goes_on_trans _ _ _ (expr_goes_on e (names_comma es ns)) g) (λ x mx. has x (Mem-left x (comma_items es) (e ∷ []) mx)) old)

each-level : (T : ℕ → Type 0) (ls : Option (Comma Expr)) (ns ms : List (List ℕ)) → GoesOn (names_levels ls ns) ms → ((e : Expr) → Mem e (maybe_items ls) → (v : ℕ) → uses (tree_expr ms e) v ≡ true → T v) → ((v : ℕ) → v < length ns → T v) → (v : ℕ) → v < length (names_levels ls ns) → T v
each-level T None ns ms g has old = old
each-level T (Some es) ns ms g has old = each-comma T es ns ms g has old

-- what a query defines is defined
among-defined : (v : ℕ) (q : Query) (qs : List Query) → Mem q qs → among v (defines q) ≡ true → among v (defined qs) ≡ true
among-defined v q [] mq h = absurd mq
among-defined v q (x ∷ qs) (inl e) h =
    list_any-append (eqb v) (defines x) (defined qs) ∙ first_of_two (among v (defines x)) (among v (defined qs)) (subst (λ (y : Query). among v (defines y) ≡ true) (sym e) h)
among-defined v q (x ∷ qs) (inr mq) h =
    list_any-append (eqb v) (defines x) (defined qs) ∙ second_of_two (among v (defines x)) (among v (defined qs)) (among-defined v q qs mq h)

abbrev IsDefined : Part → ℕ → Type 0
IsDefined p v = among v (defined p.queries) ≡ true

-- each name is defined, where those are that stand in arguments and in levels
abbrev EachName : Part → Type 0
EachName p =
    ((q : Query) → Mem q p.queries → (v : ℕ) → uses (argument q) v ≡ true → IsDefined p v)
    → ((e : Tree) → Mem e p.levels → (v : ℕ) → uses e v ≡ true → IsDefined p v)
    → (v : ℕ) → v < p.names → IsDefined p v

named-part : (p : grammar.Part) → fits_part p ≡ true → EachName (part_of (whole_part p))
named-part p fits asked stands =
    let ms : List (List ℕ) = names_part p in
    let P : Part = part_of (whole_part p) in
    let in_queries : (q : grammar.Query) → Mem q (run_items p.queries) → Mem (plain_query (query_of ms q)) P.queries =
    λ q mq. Mem-map plain_query (query_of ms q) (map (query_of ms) (run_items p.queries)) (Mem-map (query_of ms) q (run_items p.queries) mq) in
    each-level (IsDefined P) p.levels (names_queries p.queries) ms (goes_on_self ms) (λ e me. stands (tree_expr ms e) (Mem-map (tree_expr ms) e (maybe_items p.levels) me))
    (each-run (IsDefined P) p.queries ms (levels_go_on p.levels (names_queries p.queries))
    (λ q mq. record { new = λ v h. among-defined v (plain_query (query_of ms q)) P.queries (in_queries q mq) h; asked = asked (plain_query (query_of ms q)) (in_queries q mq) }))

names-defined : (d : Declared) → IsValid d → All EachName (declaration_of d).parts
names-defined d v = each-part EachName named-part d v

lawful-names : (p : Part) → IsLawful p → EachName p → (v : ℕ) → v < p.names → IsDefined p v
lawful-names p la each =
    each (λ q mq v u. absurd (false≢true (sym (uses-none (argument q) v (argument-plain q (all-Mem (λ (x : Query). has_lawful_argument x ≡ true) p.queries q la.arguments mq))) ∙ u)))
    (λ e me v u. (all-Mem (λ (x : Tree). (w : ℕ) → IsTrue (uses x w) → IsTrue (among w (defined p.queries))) p.levels e (λ k c lt w h. (la.levels k c lt w h).0) me) v u)

-- ---- values of variables

small : (n : ℕ) → n < 2 ^ 31 → IsIndex (pos n)
small n lt = (omega (arith, ints), omega (arith, ints, lt))

chosen : (b : Bool) (x y : ℤ) → IsIndex x → IsIndex y → IsIndex (cond b x y)
chosen true x y p q = p
chosen false x y p q = q

lanes-few : (n : ℕ) → (nat_le 1 n && nat_le n 64) ≡ true → (0 < n) × (n ≤ 64)
lanes-few n h = (low n (and_parts (nat_le 1 n) (nat_le n 64) h).0, high n (and_parts (nat_le 1 n) (nat_le n 64) h).1)
  where
    low : (n : ℕ) → nat_le 1 n ≡ true → 0 < n
    low n e = grind (arith, nat_tests)

    high : (n : ℕ) → nat_le n 64 ≡ true → n ≤ 64
    high n e = grind (arith, nat_tests)

module _ (s : Shape) (m : List Entry) (rows : s.rows < 2 ^ 31) (cols : s.cols < 2 ^ 31) (few : length m ≤ limit) where
  axis-few : (a : Axis) → indices a s < 2 ^ 31
  axis-few Rows = rows
  axis-few Cols = cols

  -- at an entry whose indices are below the sides
  module _ (x : Entry) (mx : Mem x m) (row : x.i < s.rows) (col : x.j < s.cols) (v : ℕ) where
    one-more : (q : Query) (qs : List Query) → has_lawful_lanes q ≡ true → IsIndex (variable_at m s qs v x) → IsIndex (variable_at m s (q ∷ qs) v x)
    one-more (SumOf w e) qs h r =
        chosen (eqb w v) (pos (sum_at m e x)) (variable_at m s qs v x)
        (small (sum_at m e x) (omega (arith, few, count_by-le-length (λ (y : Entry). int_eq (plain_value e y) (plain_value e x)) m))) r
    one-more (Enumerate w e) qs h r =
        chosen (eqb w v) (pos (enumerate_at m e x)) (variable_at m s qs v x)
        (small (enumerate_at m e x) (omega (arith, few, count_by-le-length (λ (y : Entry). earlier y x && int_eq (plain_value e y) (plain_value e x)) m))) r
    one-more (Reorder w t) qs h r =
        let a : Axis = axis_of t in
        chosen (eqb w v) (pos (rank_of m s a (index_at a x))) (variable_at m s qs v x)
        (small (rank_of m s a (index_at a x)) (omega (arith, axis-few a, rank-below m s a (index_at a x) (index-below m s x mx row col a)))) r
    one-more (Schedule l u t n) qs h r =
        let a : Axis = axis_of t in
        let i : ℕ = index_at a x in
        let k = lanes-few n h in
        chosen (eqb l v) (pos (lane_at m s a n i)) (cond (eqb u v) (pos (slot_at m s a n i)) (variable_at m s qs v x))
        (small (lane_at m s a n i) (omega (arith, k.1, lane-below m s x mx row col a n k.0)))
        (chosen (eqb u v) (pos (slot_at m s a n i)) (variable_at m s qs v x)
        (small (slot_at m s a n i) (omega (arith, axis-few a, slot-below m s x mx row col a n k.0, schedule-few m s a n k.0))) r)

    variables-small : (qs : List Query) → ((q : Query) → Mem q qs → has_lawful_lanes q ≡ true) → IsIndex (variable_at m s qs v x)
    variables-small [] h = small 0 (omega arith)
    variables-small (q ∷ qs) h = one-more q qs (h q (inl refl)) (variables-small qs (λ y my. h y (inr my)))

  -- ---- ranges of levels

  extent-few : (q : Query) → has_lawful_lanes q ≡ true → extent_of m s q ≤ 2 ^ 31
  extent-few (SumOf v e) h = omega arith
  extent-few (Enumerate v e) h = omega (arith, enumerate-few m e, few)
  extent-few (Reorder v t) h = omega arith
  extent-few (Schedule l u t n) h = omega (arith, schedule-few m s (axis_of t) n (lanes-few n h).0, axis-few (axis_of t))

  extents-few : (p : Part) → All (λ q. has_lawful_lanes q ≡ true) p.queries → All (λ n. n ≤ 2 ^ 31) (extents_of m s p)
  extents-few p lanes =
      Mem-all (λ (n : ℕ). n ≤ 2 ^ 31) (extents_of m s p)
      (λ n i. let q = Mem-of_map (extent_of m s) n p.queries i in subst (λ (z : ℕ). z ≤ 2 ^ 31) q.2 (extent-few q.0 (all-Mem (λ (y : Query). has_lawful_lanes y ≡ true) p.queries q.0 lanes q.1)))

-- how many numbers there are between near ends
span-few : (lo hi : ℤ) → IsNear (2 ^ 36) lo → IsNear (2 ^ 36) hi → nat_of ((hi +ℤ pos 1) -ℤ lo) < 2 ^ 38
span-few lo hi a b = go ((hi +ℤ pos 1) -ℤ lo) refl
  where
    go : (z : ℤ) → z ≡ (hi +ℤ pos 1) -ℤ lo → nat_of z < 2 ^ 38
    go (pos k) e = omega (arith, ints, e, a.low, b.high)
    go (negsuc k) e = omega arith

-- ---- accepted parts

pub record IsReadablePart (s : Shape) (p : Part) (m : List Entry) : Type 0 where
  pub named : (v : ℕ) → v < p.names → IsTrue (among v (defined p.queries))
  pub indices : (v : ℕ) (x : Entry) → v < p.names → Contains m x → IsIndex (variable_at m s p.queries v x)
  pub short : All (λ e. node_count e ≤ 32) p.levels
  pub narrow : All (λ e. span (level_range s (extents_of m s p) p e) < 2 ^ 38) p.levels

pub readable-part : (d : Declared) → IsValid d → first_refusal (declaration_of d) ≡ None → (k : ℕ) → k < length (declaration_of d).parts
    → (s : Shape) (m : List Entry) → IsMatrixOf s m → s.rows < 2 ^ 31 → s.cols < 2 ^ 31 → length m ≤ limit → IsReadablePart s (part_at (declaration_of d) k) m
readable-part d valid accepted k there s m matrix rows cols few =
    let p : Part = part_at (declaration_of d) k in
    let kept : KeepsRules p = accepted-keeps (declaration_of d) accepted k _ there in
    let lanes : All (λ q. has_lawful_lanes q ≡ true) p.queries = all-pass (λ q. has_lawful_lanes q) [] 0 p.queries (kept 3 (1, bad_count) (omega arith)) in
    let has : HasNames p = names-valid d valid k _ there in
    let ns : List ℕ = extents_of m s p in
    let rs : List Range = variable_ranges s ns p in
    let many : length rs ≡ p.names = length-map-range_with_len (variable_range s ns p.queries) 0 p.names in
    let extents : All (λ n. n ≤ 2 ^ 31) ns = extents-few s m rows cols few p lanes in
    record {
      named = lawful-names p (accepted-lawful d valid accepted k _ there) (names-defined d valid k _ there);
      indices = λ v x lt cx.
          let mx : Mem x m = contains-Mem m x cx in
          variables-small s m rows cols few x mx (all-Mem (λ (y : Entry). y.i < s.rows) m x matrix.rows mx) (all-Mem (λ (y : Entry). y.j < s.cols) m x matrix.cols mx) v p.queries
          (λ q mq. all-Mem (λ (y : Query). has_lawful_lanes y ≡ true) p.queries q lanes mq);
      short = λ l c lt. (small-valid d valid k _ there l c lt).nodes;
      narrow = λ l c lt.
          let e : Tree = slice_index_or p.levels l c in
          let tree : IsSmall e = small-valid d valid k _ there l c lt in
          let within : IsWithin (length rs) e = tree.within (length rs) (λ v u. subst (λ (n : ℕ). v < n) (sym many) (has.levels l c lt v u)) in
          let near = range_near s.rows s.cols rs e rows cols (λ v h. ranges-near s rows cols p ns extents lanes v (subst (λ (n : ℕ). v < n) many h)) within in
          span-few (level_range s ns p e).lo (level_range s ns p e).hi (near_more (node_count e * 2 ^ 31) (2 ^ 36) (level_range s ns p e).lo (omega (arith, tree.nodes)) near.0)
          (near_more (node_count e * 2 ^ 31) (2 ^ 36) (level_range s ns p e).hi (omega (arith, tree.nodes)) near.1);
    }
