-- The arguments of the queries of an accepted part are small, and no variable stands in them.
use Rattle.std.proofs.Common.{◌≡◌, ℕ, ◌<◌, List, [], ◌∷◌, map, get_or, Bool, true, false, not, ◌&&◌, ◌||◌, refl, arith}
use Rattle.std.specs.List.{All}
use Rattle.std.proofs.lemmas.List.Elements.{All-nil, All-cons, All-append, All-map}
use Rattle.us_expr.specs.Tree.{Tree, RowIndex, ColIndex, Number, Variable, Sum, Difference, Quotient, Remainder, uses}
use Rattle.us_format.specs.Declaration.{Query, SumOf, Enumerate, Reorder, Schedule, Part, argument}
use Rattle.us_format.specs.Rules.{has_variable, is_index, has_lawful_argument}
use Rattle.us_decl.specs.Grammar.{Run, Empty, Then, Single, Lanes}
use Rattle.us_decl.specs.Grammar as grammar
use Rattle.us_decl.specs.Limits.{all_run, fits_name, fits_number, fits_whole, fits_query, fits_queries, fits_part}
use Rattle.us_decl.specs.Names.{names_part}
use Rattle.us_decl.specs.Declares.{run_items, whole_part, IsValid, Declared}
use Rattle.us_decl.specs.Declares as text
use Rattle.us_judge.specs.Acceptance.{bad_count}
use Rattle.us_judge.specs.Views.{plain_query, part_of, declaration_of}
use Rattle.us_judge.proofs.Accepted.{KeepsRules, all-pass}
use Rattle.us_judge.proofs.Valid.{each-part}
use Rattle.us_judge.proofs.ValidExpressions.{UsesBelow, IsSmall, small-tree}

left_of : (a b : Bool) → (a && b) ≡ true → a ≡ true
left_of true b e = refl
left_of false b e = absurd cc

right_of : (a b : Bool) → (a && b) ≡ true → b ≡ true
right_of true b e = e
right_of false b e = absurd cc

-- ---- small

one_small : (ns : List (List ℕ)) (q : grammar.Query) → fits_query q ≡ true → IsSmall (argument (plain_query (text.query_of ns q)))
one_small ns (Single grammar.Sum v e) h = small-tree ns e (right_of (fits_name v) (fits_whole e) h)
one_small ns (Single grammar.Enumerate v e) h = small-tree ns e (right_of (fits_name v) (fits_whole e) h)
one_small ns (Single grammar.Reorder v e) h = small-tree ns e (right_of (fits_name v) (fits_whole e) h)
one_small ns (Lanes v w e k) h = small-tree ns e (left_of (fits_whole e) (fits_number k) (right_of (fits_name w) _ (right_of (fits_name v) _ h)))

run_small : (ns : List (List ℕ)) (qs : Run grammar.Query) → all_run fits_query qs ≡ true → All (λ q. IsSmall (argument (plain_query (text.query_of ns q)))) (run_items qs)
run_small ns Empty h = All-nil (λ q. IsSmall (argument (plain_query (text.query_of ns q))))
run_small ns (Then qs q) h =
    All-append (λ x. IsSmall (argument (plain_query (text.query_of ns x)))) (run_items qs) (q ∷ []) (run_small ns qs (left_of (all_run fits_query qs) (fits_query q) h))
    (All-cons (λ x. IsSmall (argument (plain_query (text.query_of ns x)))) q [] (one_small ns q (right_of (all_run fits_query qs) (fits_query q) h)) (All-nil (λ x. IsSmall (argument (plain_query (text.query_of ns x))))))

abbrev pub HasSmallArguments : Part → Type 0
HasSmallArguments p = All (λ q. IsSmall (argument q)) p.queries

small_part : (p : grammar.Part) → fits_part p ≡ true → HasSmallArguments (part_of (whole_part p))
small_part p h =
    All-map (λ q. IsSmall (argument q)) plain_query (map (text.query_of (names_part p)) (run_items p.queries))
    (All-map (λ q. IsSmall (argument (plain_query q))) (text.query_of (names_part p)) (run_items p.queries)
    (run_small (names_part p) p.queries (left_of (all_run fits_query p.queries) _ (left_of (fits_queries p.queries) _ h))))

pub arguments-small : (d : Declared) → IsValid d → All HasSmallArguments (declaration_of d).parts
arguments-small d v = each-part HasSmallArguments small_part d v

-- ---- without variables

none_of : (a b : Bool) → not (a || b) ≡ true → (not a ≡ true) × (not b ≡ true)
none_of true b e = absurd cc
none_of false b e = (refl, e)

either : (p q : Bool) (R : Type 0) → (p ≡ true → R) → (q ≡ true → R) → (p || q) ≡ true → R
either true q R f g e = f refl
either false q R f g e = g e

plain_below : (e : Tree) → not (has_variable e) ≡ true → UsesBelow 0 e
plain_below RowIndex h = λ v u. absurd cc
plain_below ColIndex h = λ v u. absurd cc
plain_below (Number c) h = λ v u. absurd cc
plain_below (Variable w) h = absurd cc
plain_below (Sum a b) h = λ v u.
    let p = none_of (has_variable a) (has_variable b) h in either (uses a v) (uses b v) (v < 0) (plain_below a p.0 v) (plain_below b p.1 v) u
plain_below (Difference a b) h = λ v u.
    let p = none_of (has_variable a) (has_variable b) h in either (uses a v) (uses b v) (v < 0) (plain_below a p.0 v) (plain_below b p.1 v) u
plain_below (Quotient a k) h = plain_below a h
plain_below (Remainder a k) h = plain_below a h

index_below : (e : Tree) → is_index e ≡ true → UsesBelow 0 e
index_below RowIndex h = λ v u. absurd cc
index_below ColIndex h = λ v u. absurd cc
index_below (Number c) h = absurd cc
index_below (Variable w) h = absurd cc
index_below (Sum a b) h = absurd cc
index_below (Difference a b) h = absurd cc
index_below (Quotient a k) h = absurd cc
index_below (Remainder a k) h = absurd cc

argument_below : (q : Query) → has_lawful_argument q ≡ true → UsesBelow 0 (argument q)
argument_below (SumOf v e) h = plain_below e h
argument_below (Enumerate v e) h = plain_below e h
argument_below (Reorder v e) h = index_below e h
argument_below (Schedule l t e n) h = index_below e h

pub arguments-plain : (p : Part) → KeepsRules p → All (λ q. UsesBelow 0 (argument q)) p.queries
arguments-plain p kept k d l = argument_below (get_or p.queries k d) (all-pass (λ q. has_lawful_argument q) [] 0 p.queries (kept 2 (1, bad_count) (omega arith)) k d l)
