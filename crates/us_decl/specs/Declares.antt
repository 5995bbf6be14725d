-- What a text declares: names as numbers, expressions as trees, lists as lists.
use Rattle.std.specs.Prelude.{◌≡◌, ℕ, suc, List, [], ◌∷◌, ◌++◌, map, Option, Some, None, true}
use Rattle.us_expr.specs.Tree.{Tree, RowIndex, ColIndex, Variable, Sum, Difference, Quotient, Remainder}
use Rattle.us_expr.specs.Tree as trees
use Rattle.us_expr.specs.declared.queries.Cond.{Cond}
use Rattle.us_decl.specs.declared.column.Column.{Column}
use Rattle.us_decl.specs.Grammar.{Comma, Only, And, Run, Empty, Then, Expr, One, Plus, Less, Term, Just, Over, Rest, Factor, Row, Col, Named, Num, Group, Word, Single, Lanes, Part, Block, Body, Whole, Split, blocks_of}
use Rattle.us_decl.specs.Grammar as grammar
use Rattle.us_decl.specs.Names.{number_of, names_part, names_head}
use Rattle.us_decl.specs.Limits.{fits_decl}

pub data Query : Type 0 where
  SumOf : ℕ → Tree → Query
  EnumerateOf : ℕ → Tree → Query
  ReorderOf : ℕ → Tree → Query
  ScheduleOf : ℕ → ℕ → Tree → ℕ → Query

pub record DeclaredPart : Type 0 where
  pub names : List (List ℕ)
  pub queries : List Query
  pub levels : List Tree
  pub trim : List ℕ
  pub merge : List ℕ
  pub packs : List (List Column)

pub record DeclaredHead : Type 0 where
  pub names : List (List ℕ)
  pub queries : List Query
  pub conds : List Cond

-- one part alone, or a head, a part for each of its conditions, and the part of the rest
pub data DeclaredBody : Type 0 where
  Undivided : DeclaredPart → DeclaredBody
  Divided : DeclaredHead → List DeclaredPart → DeclaredBody

pub record Declared : Type 0 where
  pub name : List ℕ
  pub body : DeclaredBody

-- an expression without its parentheses, where the names stand in this list
abbrev mutual
  pub tree_expr : List (List ℕ) → Expr → Tree
  tree_expr ns (One t) = tree_term ns t
  tree_expr ns (Plus e t) = Sum (tree_expr ns e) (tree_term ns t)
  tree_expr ns (Less e t) = Difference (tree_expr ns e) (tree_term ns t)

  pub tree_term : List (List ℕ) → Term → Tree
  tree_term ns (Just f) = tree_factor ns f
  tree_term ns (Over t k) = Quotient (tree_term ns t) (suc k)
  tree_term ns (Rest t k) = Remainder (tree_term ns t) (suc k)

  pub tree_factor : List (List ℕ) → Factor → Tree
  tree_factor ns Row = RowIndex
  tree_factor ns Col = ColIndex
  tree_factor ns (Named w) = Variable (number_of w ns)
  tree_factor ns (Num n) = trees.Number n
  tree_factor ns (Group e) = tree_expr ns e

abbrev pub query_of : List (List ℕ) → grammar.Query → Query
query_of ns (Single grammar.Sum v e) = SumOf (number_of v ns) (tree_expr ns e)
query_of ns (Single grammar.Enumerate v e) = EnumerateOf (number_of v ns) (tree_expr ns e)
query_of ns (Single grammar.Reorder v e) = ReorderOf (number_of v ns) (tree_expr ns e)
query_of ns (Lanes v w e k) = ScheduleOf (number_of v ns) (number_of w ns) (tree_expr ns e) k

-- the items of a list
abbrev pub comma_items : {A : Type 0} → Comma A → List A
comma_items (Only x) = x ∷ []
comma_items (And xs x) = comma_items xs ++ (x ∷ [])

abbrev pub run_items : {A : Type 0} → Run A → List A
run_items Empty = []
run_items (Then xs x) = run_items xs ++ (x ∷ [])

abbrev pub maybe_items : {A : Type 0} → Option (Comma A) → List A
maybe_items None = []
maybe_items (Some xs) = comma_items xs

abbrev pub part_of : List (List ℕ) → Part → DeclaredPart
part_of ns p = record {
  names = ns;
  queries = map (query_of ns) (run_items p.queries);
  levels = map (tree_expr ns) (maybe_items p.levels);
  trim = maybe_items p.trim;
  merge = maybe_items p.merge;
  packs = map comma_items (run_items p.packs);
}

-- a part whose names are its own
abbrev pub whole_part : Part → DeclaredPart
whole_part p = part_of (names_part p) p

abbrev pub cond_of : List (List ℕ) → Block → Cond
cond_of ns b = record { var = number_of b.name ns; less = b.less; bound = b.bound }

abbrev pub head_of : List (List ℕ) → Run grammar.Query → Run Block → DeclaredHead
head_of ns qs bs = record {
  names = ns;
  queries = map (query_of ns) (run_items qs);
  conds = map (cond_of ns) (run_items bs);
}

-- the parts of the conditions, and the part of the rest
abbrev pub parts_of : Run Block → Part → List DeclaredPart
parts_of bs q = map (λ b. whole_part b.part) (run_items bs) ++ (whole_part q ∷ [])

abbrev pub body_of : Body → DeclaredBody
body_of (Whole p) = Undivided (whole_part p)
body_of (Split h p q) = Divided (head_of (names_head h) h.queries (blocks_of h p)) (parts_of (blocks_of h p) q)

-- what a text of the grammar declares
abbrev pub declared : grammar.Decl → Declared
declared d = record { name = d.name; body = body_of d.body }

-- some text of the grammar within its limits declares this
pub record IsValid (d : Declared) : Type 0 where
  pub text : grammar.Decl
  pub is : declared text ≡ d
  pub within : fits_decl text ≡ true
