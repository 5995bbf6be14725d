-- A text without needless parentheses: it declares the same, within the same limits.
use Rattle.std.proofs.Common.{◌≡◌, ◌<◌, ℕ, suc, ◌+◌, List, [], ◌∷◌, ◌++◌, map, Option, Some, None, Bool, true, ltb, ◌&&◌, refl, sym, ap, ◌∙◌, arith}
use Rattle.std.proofs.lemmas.List.{map-append}
use Rattle.us_expr.specs.Tree.{Tree, Quotient, Remainder}
use Rattle.us_expr.specs.Tree as trees
use Rattle.us_decl.specs.Grammar.{Comma, Only, And, Run, Empty, Then, Expr, One, Plus, Less, Term, Just, Over, Rest, Factor, Row, Col, Named, Num, Group, Sum, Enumerate, Reorder, Query, Single, Lanes, Part, Block, Head, Body, Whole, Split, Decl, blocks_of}
use Rattle.us_decl.specs.Names.{number_of, with_name, names_expr, names_term, names_factor, names_query, names_queries, names_comma, names_levels, names_part, names_blocks, names_head}
use Rattle.us_decl.specs.Limits.{count, count_run, all, all_run, nodes, nodes_term, nodes_factor, fits_nodes, fits_list, fits_number, fits_name, fits_names, fits_expr, fits_term, fits_factor, fits_whole, fits_query, fits_queries, count_levels, all_levels, fits_levels, fits_numbers, fits_packs, fits_part, fits_block, fits_blocks, fits_head, fits_body, fits_decl}
use Rattle.us_decl.specs.Declares.{tree_expr, tree_term, tree_factor, query_of, comma_items, run_items, maybe_items, part_of, whole_part, cond_of, head_of, parts_of, body_of, DeclaredPart, Undivided, Divided, declared}
use Rattle.us_decl.specs.Declares as declares
use Rattle.us_decl.proofs.Deciding.{both, left_of, right_of, below, is_below}

-- an expression as a term, in parentheses where it is a sum or a difference
abbrev pub as_term : Expr → Term
as_term (One t) = t
as_term (Plus e t) = Just (Group (Plus e t))
as_term (Less e t) = Just (Group (Less e t))

abbrev mutual
  pub plain : Expr → Expr
  plain (One t) = plain_term t
  plain (Plus e t) = Plus (plain e) (as_term (plain_term t))
  plain (Less e t) = Less (plain e) (as_term (plain_term t))

  pub plain_term : Term → Expr
  plain_term (Just f) = plain_factor f
  plain_term (Over t k) = One (Over (as_term (plain_term t)) k)
  plain_term (Rest t k) = One (Rest (as_term (plain_term t)) k)

  pub plain_factor : Factor → Expr
  plain_factor Row = One (Just Row)
  plain_factor Col = One (Just Col)
  plain_factor (Named w) = One (Just (Named w))
  plain_factor (Num n) = One (Just (Num n))
  plain_factor (Group e) = plain e

abbrev pub plain_query : Query → Query
plain_query (Single q v e) = Single q v (plain e)
plain_query (Lanes v w e k) = Lanes v w (plain e) k

abbrev pub plain_queries : Run Query → Run Query
plain_queries Empty = Empty
plain_queries (Then qs q) = Then (plain_queries qs) (plain_query q)

abbrev pub plain_comma : Comma Expr → Comma Expr
plain_comma (Only e) = Only (plain e)
plain_comma (And es e) = And (plain_comma es) (plain e)

abbrev pub plain_levels : Option (Comma Expr) → Option (Comma Expr)
plain_levels None = None
plain_levels (Some es) = Some (plain_comma es)

abbrev pub plain_part : Part → Part
plain_part p = record { queries = plain_queries p.queries; levels = plain_levels p.levels; trim = p.trim; merge = p.merge; packs = p.packs }

abbrev pub plain_block : Block → Block
plain_block b = record { name = b.name; less = b.less; bound = b.bound; part = plain_part b.part }

abbrev pub plain_blocks : Run Block → Run Block
plain_blocks Empty = Empty
plain_blocks (Then bs b) = Then (plain_blocks bs) (plain_block b)

abbrev pub plain_head : Head → Head
plain_head h = record { queries = plain_queries h.queries; blocks = plain_blocks h.blocks; name = h.name; less = h.less; bound = h.bound }

abbrev pub plain_body : Body → Body
plain_body (Whole p) = Whole (plain_part p)
plain_body (Split h p q) = Split (plain_head h) (plain_part p) (plain_part q)

abbrev pub plain_decl : Decl → Decl
plain_decl d = record { name = d.name; body = plain_body d.body }

-- the same tree
tree_as_term : (ns : List (List ℕ)) (x : Expr) → tree_term ns (as_term x) ≡ tree_expr ns x
tree_as_term ns (One t) = refl
tree_as_term ns (Plus e t) = refl
tree_as_term ns (Less e t) = refl

mutual
  pub tree_plain : (ns : List (List ℕ)) (e : Expr) → tree_expr ns (plain e) ≡ tree_expr ns e
  tree_plain ns (One t) = tree_plain_term ns t
  tree_plain ns (Plus e t) = ap (λ (x : Tree). trees.Sum x (tree_term ns (as_term (plain_term t)))) (tree_plain ns e) ∙ ap (trees.Sum (tree_expr ns e)) (tree_as_term ns (plain_term t) ∙ tree_plain_term ns t)
  tree_plain ns (Less e t) = ap (λ (x : Tree). trees.Difference x (tree_term ns (as_term (plain_term t)))) (tree_plain ns e) ∙ ap (trees.Difference (tree_expr ns e)) (tree_as_term ns (plain_term t) ∙ tree_plain_term ns t)

  tree_plain_term : (ns : List (List ℕ)) (t : Term) → tree_expr ns (plain_term t) ≡ tree_term ns t
  tree_plain_term ns (Just f) = tree_plain_factor ns f
  tree_plain_term ns (Over t k) = ap (λ (x : Tree). Quotient x (suc k)) (tree_as_term ns (plain_term t) ∙ tree_plain_term ns t)
  tree_plain_term ns (Rest t k) = ap (λ (x : Tree). Remainder x (suc k)) (tree_as_term ns (plain_term t) ∙ tree_plain_term ns t)

  tree_plain_factor : (ns : List (List ℕ)) (f : Factor) → tree_expr ns (plain_factor f) ≡ tree_factor ns f
  tree_plain_factor ns Row = refl
  tree_plain_factor ns Col = refl
  tree_plain_factor ns (Named w) = refl
  tree_plain_factor ns (Num n) = refl
  tree_plain_factor ns (Group e) = tree_plain ns e

-- the same names
names_as_term : (x : Expr) (ns : List (List ℕ)) → names_term (as_term x) ns ≡ names_expr x ns
names_as_term (One t) ns = refl
names_as_term (Plus e t) ns = refl
names_as_term (Less e t) ns = refl

mutual
  pub names_plain : (e : Expr) (ns : List (List ℕ)) → names_expr (plain e) ns ≡ names_expr e ns
  names_plain (One t) ns = names_plain_term t ns
  names_plain (Plus e t) ns = names_as_term (plain_term t) (names_expr (plain e) ns) ∙ ap (names_expr (plain_term t)) (names_plain e ns) ∙ names_plain_term t (names_expr e ns)
  names_plain (Less e t) ns = names_as_term (plain_term t) (names_expr (plain e) ns) ∙ ap (names_expr (plain_term t)) (names_plain e ns) ∙ names_plain_term t (names_expr e ns)

  names_plain_term : (t : Term) (ns : List (List ℕ)) → names_expr (plain_term t) ns ≡ names_term t ns
  names_plain_term (Just f) ns = names_plain_factor f ns
  names_plain_term (Over t k) ns = names_as_term (plain_term t) ns ∙ names_plain_term t ns
  names_plain_term (Rest t k) ns = names_as_term (plain_term t) ns ∙ names_plain_term t ns

  names_plain_factor : (f : Factor) (ns : List (List ℕ)) → names_expr (plain_factor f) ns ≡ names_factor f ns
  names_plain_factor Row ns = refl
  names_plain_factor Col ns = refl
  names_plain_factor (Named w) ns = refl
  names_plain_factor (Num n) ns = refl
  names_plain_factor (Group e) ns = names_plain e ns

names_plain_query : (q : Query) (ns : List (List ℕ)) → names_query (plain_query q) ns ≡ names_query q ns
names_plain_query (Single q v e) ns = names_plain e (with_name v ns)
names_plain_query (Lanes v w e k) ns = names_plain e (with_name w (with_name v ns))

pub names_plain_queries : (qs : Run Query) → names_queries (plain_queries qs) ≡ names_queries qs
names_plain_queries Empty = refl
names_plain_queries (Then qs q) = ap (names_query (plain_query q)) (names_plain_queries qs) ∙ names_plain_query q (names_queries qs)

names_plain_comma : (es : Comma Expr) (ns : List (List ℕ)) → names_comma (plain_comma es) ns ≡ names_comma es ns
names_plain_comma (Only e) ns = names_plain e ns
names_plain_comma (And es e) ns = ap (names_expr (plain e)) (names_plain_comma es ns) ∙ names_plain e (names_comma es ns)

names_plain_levels : (ls : Option (Comma Expr)) (ns : List (List ℕ)) → names_levels (plain_levels ls) ns ≡ names_levels ls ns
names_plain_levels None ns = refl
names_plain_levels (Some es) ns = names_plain_comma es ns

pub names_plain_part : (p : Part) → names_part (plain_part p) ≡ names_part p
names_plain_part p = ap (names_levels (plain_levels p.levels)) (names_plain_queries p.queries) ∙ names_plain_levels p.levels (names_queries p.queries)

names_plain_blocks : (bs : Run Block) (ns : List (List ℕ)) → names_blocks (plain_blocks bs) ns ≡ names_blocks bs ns
names_plain_blocks Empty ns = refl
names_plain_blocks (Then bs b) ns = ap (with_name b.name) (names_plain_blocks bs ns)

pub names_plain_head : (h : Head) → names_head (plain_head h) ≡ names_head h
names_plain_head h = ap (λ ns. with_name h.name (names_blocks (plain_blocks h.blocks) ns)) (names_plain_queries h.queries) ∙ ap (with_name h.name) (names_plain_blocks h.blocks (names_queries h.queries))

-- the same declaration
query_plain : (ns : List (List ℕ)) (q : Query) → query_of ns (plain_query q) ≡ query_of ns q
query_plain ns (Single Sum v e) = ap (declares.SumOf (number_of v ns)) (tree_plain ns e)
query_plain ns (Single Enumerate v e) = ap (declares.EnumerateOf (number_of v ns)) (tree_plain ns e)
query_plain ns (Single Reorder v e) = ap (declares.ReorderOf (number_of v ns)) (tree_plain ns e)
query_plain ns (Lanes v w e k) = ap (λ (x : Tree). declares.ScheduleOf (number_of v ns) (number_of w ns) x k) (tree_plain ns e)

queries_plain : (ns : List (List ℕ)) (qs : Run Query) → map (query_of ns) (run_items (plain_queries qs)) ≡ map (query_of ns) (run_items qs)
queries_plain ns Empty = refl
queries_plain ns (Then qs q) =
    map-append (query_of ns) (run_items (plain_queries qs)) (plain_query q ∷ []) ∙ ap (λ x. x ++ (query_of ns (plain_query q) ∷ [])) (queries_plain ns qs)
    ∙ ap (λ x. map (query_of ns) (run_items qs) ++ (x ∷ [])) (query_plain ns q) ∙ sym (map-append (query_of ns) (run_items qs) (q ∷ []))

comma_plain : (ns : List (List ℕ)) (es : Comma Expr) → map (tree_expr ns) (comma_items (plain_comma es)) ≡ map (tree_expr ns) (comma_items es)
comma_plain ns (Only e) = ap (λ x. x ∷ []) (tree_plain ns e)
comma_plain ns (And es e) =
    map-append (tree_expr ns) (comma_items (plain_comma es)) (plain e ∷ []) ∙ ap (λ x. x ++ (tree_expr ns (plain e) ∷ [])) (comma_plain ns es)
    ∙ ap (λ x. map (tree_expr ns) (comma_items es) ++ (x ∷ [])) (tree_plain ns e) ∙ sym (map-append (tree_expr ns) (comma_items es) (e ∷ []))

levels_plain : (ns : List (List ℕ)) (ls : Option (Comma Expr)) → map (tree_expr ns) (maybe_items (plain_levels ls)) ≡ map (tree_expr ns) (maybe_items ls)
levels_plain ns None = refl
levels_plain ns (Some es) = comma_plain ns es

part_plain : (p : Part) → part_of (names_part (plain_part p)) (plain_part p) ≡ part_of (names_part p) p
part_plain p =
    let ns = names_part p in
    ap (λ ms. part_of ms (plain_part p)) (names_plain_part p)
    ∙ ap (λ qs. record { names = ns; queries = qs; levels = map (tree_expr ns) (maybe_items (plain_levels p.levels)); trim = maybe_items p.trim; merge = maybe_items p.merge; packs = map comma_items (run_items p.packs) }) (queries_plain ns p.queries)
    ∙ ap (λ ls. record { names = ns; queries = map (query_of ns) (run_items p.queries); levels = ls; trim = maybe_items p.trim; merge = maybe_items p.merge; packs = map comma_items (run_items p.packs) }) (levels_plain ns p.levels)

conds_plain : (ns : List (List ℕ)) (bs : Run Block) → map (cond_of ns) (run_items (plain_blocks bs)) ≡ map (cond_of ns) (run_items bs)
conds_plain ns Empty = refl
conds_plain ns (Then bs b) =
    map-append (cond_of ns) (run_items (plain_blocks bs)) (plain_block b ∷ []) ∙ ap (λ x. x ++ (cond_of ns b ∷ [])) (conds_plain ns bs) ∙ sym (map-append (cond_of ns) (run_items bs) (b ∷ []))

abbrev part_of_block : Block → DeclaredPart
part_of_block b = whole_part b.part

blocks_plain : (bs : Run Block) → map part_of_block (run_items (plain_blocks bs)) ≡ map part_of_block (run_items bs)
blocks_plain Empty = refl
blocks_plain (Then bs b) =
    map-append part_of_block (run_items (plain_blocks bs)) (plain_block b ∷ []) ∙ ap (λ x. x ++ (part_of_block (plain_block b) ∷ [])) (blocks_plain bs)
    ∙ ap (λ x. map part_of_block (run_items bs) ++ (x ∷ [])) (part_plain b.part) ∙ sym (map-append part_of_block (run_items bs) (b ∷ []))

parts_plain : (bs : Run Block) (q : Part) → parts_of (plain_blocks bs) (plain_part q) ≡ parts_of bs q
parts_plain bs q = ap (λ x. x ++ (whole_part (plain_part q) ∷ [])) (blocks_plain bs) ∙ ap (λ x. map part_of_block (run_items bs) ++ (x ∷ [])) (part_plain q)

head_plain : (h : Head) (p : Part) → head_of (names_head (plain_head h)) (plain_queries h.queries) (plain_blocks (blocks_of h p)) ≡ head_of (names_head h) h.queries (blocks_of h p)
head_plain h p =
    let ns = names_head h in
    let bs = blocks_of h p in
    ap (λ ms. head_of ms (plain_queries h.queries) (plain_blocks bs)) (names_plain_head h)
    ∙ ap (λ qs. record { names = ns; queries = qs; conds = map (cond_of ns) (run_items (plain_blocks bs)) }) (queries_plain ns h.queries)
    ∙ ap (λ cs. record { names = ns; queries = map (query_of ns) (run_items h.queries); conds = cs }) (conds_plain ns bs)

body_plain : (b : Body) → body_of (plain_body b) ≡ body_of b
body_plain (Whole p) = ap Undivided (part_plain p)
body_plain (Split h p q) =
    let bs = blocks_of h p in
    ap (λ x. Divided x (parts_of (plain_blocks bs) (plain_part q))) (head_plain h p) ∙ ap (Divided (head_of (names_head h) h.queries bs)) (parts_plain bs q)

pub declared_plain : (d : Decl) → declared (plain_decl d) ≡ declared d
declared_plain d = ap (λ b. record { name = d.name; body = b }) (body_plain d.body)

-- the same nodes
nodes_as_term : (x : Expr) → nodes_term (as_term x) ≡ nodes x
nodes_as_term (One t) = refl
nodes_as_term (Plus e t) = refl
nodes_as_term (Less e t) = refl

mutual
  nodes_plain : (e : Expr) → nodes (plain e) ≡ nodes e
  nodes_plain (One t) = nodes_plain_term t
  nodes_plain (Plus e t) = omega (arith, nodes_plain e, nodes_as_term (plain_term t), nodes_plain_term t)
  nodes_plain (Less e t) = omega (arith, nodes_plain e, nodes_as_term (plain_term t), nodes_plain_term t)

  nodes_plain_term : (t : Term) → nodes (plain_term t) ≡ nodes_term t
  nodes_plain_term (Just f) = nodes_plain_factor f
  nodes_plain_term (Over t k) = omega (arith, nodes_as_term (plain_term t), nodes_plain_term t)
  nodes_plain_term (Rest t k) = omega (arith, nodes_as_term (plain_term t), nodes_plain_term t)

  nodes_plain_factor : (f : Factor) → nodes (plain_factor f) ≡ nodes_factor f
  nodes_plain_factor Row = refl
  nodes_plain_factor Col = refl
  nodes_plain_factor (Named w) = refl
  nodes_plain_factor (Num n) = refl
  nodes_plain_factor (Group e) = nodes_plain e

-- what fits deeper inside fits here
shallower : (d : ℕ) → ltb (suc d) 32 ≡ true → ltb d 32 ≡ true
shallower d h = below d 32 (let k : suc d < 32 = is_below (suc d) 32 h in omega arith)

mutual
  outside_expr : (d : ℕ) (e : Expr) → fits_expr (suc d) e ≡ true → fits_expr d e ≡ true
  outside_expr d (One t) h = outside_term d t h
  outside_expr d (Plus e t) h = both (fits_expr d e) (fits_term d t) (outside_expr d e (left_of (fits_expr (suc d) e) (fits_term (suc d) t) h)) (outside_term d t (right_of (fits_expr (suc d) e) (fits_term (suc d) t) h))
  outside_expr d (Less e t) h = both (fits_expr d e) (fits_term d t) (outside_expr d e (left_of (fits_expr (suc d) e) (fits_term (suc d) t) h)) (outside_term d t (right_of (fits_expr (suc d) e) (fits_term (suc d) t) h))

  outside_term : (d : ℕ) (t : Term) → fits_term (suc d) t ≡ true → fits_term d t ≡ true
  outside_term d (Just f) h = outside_factor d f h
  outside_term d (Over t k) h = both (fits_term d t) (fits_number (suc k)) (outside_term d t (left_of (fits_term (suc d) t) (fits_number (suc k)) h)) (right_of (fits_term (suc d) t) (fits_number (suc k)) h)
  outside_term d (Rest t k) h = both (fits_term d t) (fits_number (suc k)) (outside_term d t (left_of (fits_term (suc d) t) (fits_number (suc k)) h)) (right_of (fits_term (suc d) t) (fits_number (suc k)) h)

  outside_factor : (d : ℕ) (f : Factor) → fits_factor (suc d) f ≡ true → fits_factor d f ≡ true
  outside_factor d Row h = refl
  outside_factor d Col h = refl
  outside_factor d (Named w) h = h
  outside_factor d (Num n) h = h
  outside_factor d (Group e) h = both (ltb d 32) (fits_expr (suc d) e) (shallower d (left_of (ltb (suc d) 32) (fits_expr (suc (suc d)) e) h)) (outside_expr (suc d) e (right_of (ltb (suc d) 32) (fits_expr (suc (suc d)) e) h))

-- within the limits
grouped : (d : ℕ) (x : Expr) → ltb d 32 ≡ true → fits_expr (suc d) x ≡ true → fits_term d (as_term x) ≡ true
grouped d (One t) deep h = outside_term d t h
grouped d (Plus e t) deep h = both (ltb d 32) (fits_expr (suc d) (Plus e t)) deep h
grouped d (Less e t) deep h = both (ltb d 32) (fits_expr (suc d) (Less e t)) deep h

mutual
  fits_plain : (d : ℕ) (e : Expr) → fits_expr d e ≡ true → fits_expr d (plain e) ≡ true
  fits_plain d (One t) h = fits_plain_term d t h
  fits_plain d (Plus e t) h = both (fits_expr d (plain e)) (fits_term d (as_term (plain_term t))) (fits_plain d e (left_of (fits_expr d e) (fits_term d t) h)) (fits_as_term d t (right_of (fits_expr d e) (fits_term d t) h))
  fits_plain d (Less e t) h = both (fits_expr d (plain e)) (fits_term d (as_term (plain_term t))) (fits_plain d e (left_of (fits_expr d e) (fits_term d t) h)) (fits_as_term d t (right_of (fits_expr d e) (fits_term d t) h))

  fits_plain_term : (d : ℕ) (t : Term) → fits_term d t ≡ true → fits_expr d (plain_term t) ≡ true
  fits_plain_term d (Just f) h = fits_plain_factor d f h
  fits_plain_term d (Over t k) h = both (fits_term d (as_term (plain_term t))) (fits_number (suc k)) (fits_as_term d t (left_of (fits_term d t) (fits_number (suc k)) h)) (right_of (fits_term d t) (fits_number (suc k)) h)
  fits_plain_term d (Rest t k) h = both (fits_term d (as_term (plain_term t))) (fits_number (suc k)) (fits_as_term d t (left_of (fits_term d t) (fits_number (suc k)) h)) (right_of (fits_term d t) (fits_number (suc k)) h)

  fits_plain_factor : (d : ℕ) (f : Factor) → fits_factor d f ≡ true → fits_expr d (plain_factor f) ≡ true
  fits_plain_factor d Row h = refl
  fits_plain_factor d Col h = refl
  fits_plain_factor d (Named w) h = h
  fits_plain_factor d (Num n) h = h
  fits_plain_factor d (Group e) h = outside_expr d (plain e) (fits_plain (suc d) e (right_of (ltb d 32) (fits_expr (suc d) e) h))

  fits_as_term : (d : ℕ) (t : Term) → fits_term d t ≡ true → fits_term d (as_term (plain_term t)) ≡ true
  fits_as_term d (Just f) h = fits_as_factor d f h
  fits_as_term d (Over t k) h = both (fits_term d (as_term (plain_term t))) (fits_number (suc k)) (fits_as_term d t (left_of (fits_term d t) (fits_number (suc k)) h)) (right_of (fits_term d t) (fits_number (suc k)) h)
  fits_as_term d (Rest t k) h = both (fits_term d (as_term (plain_term t))) (fits_number (suc k)) (fits_as_term d t (left_of (fits_term d t) (fits_number (suc k)) h)) (right_of (fits_term d t) (fits_number (suc k)) h)

  fits_as_factor : (d : ℕ) (f : Factor) → fits_factor d f ≡ true → fits_term d (as_term (plain_factor f)) ≡ true
  fits_as_factor d Row h = refl
  fits_as_factor d Col h = refl
  fits_as_factor d (Named w) h = h
  fits_as_factor d (Num n) h = h
  fits_as_factor d (Group e) h = grouped d (plain e) (left_of (ltb d 32) (fits_expr (suc d) e) h) (fits_plain (suc d) e (right_of (ltb d 32) (fits_expr (suc d) e) h))

fits_plain_whole : (e : Expr) → fits_whole e ≡ true → fits_whole (plain e) ≡ true
fits_plain_whole e h = both (fits_expr 0 (plain e)) (fits_nodes (nodes (plain e))) (fits_plain 0 e (left_of (fits_expr 0 e) (fits_nodes (nodes e)) h)) (ap fits_nodes (nodes_plain e) ∙ right_of (fits_expr 0 e) (fits_nodes (nodes e)) h)

-- a condition with one part changed
second : (a b c : Bool) → (b ≡ true → c ≡ true) → (a && b) ≡ true → (a && c) ≡ true
second a b c f h = both a c (left_of a b h) (f (right_of a b h))

first : (a b c : Bool) → (a ≡ true → c ≡ true) → (a && b) ≡ true → (c && b) ≡ true
first a b c f h = both c b (f (left_of a b h)) (right_of a b h)

fits_plain_query : (q : Query) → fits_query q ≡ true → fits_query (plain_query q) ≡ true
fits_plain_query (Single q v e) h = second (fits_name v) (fits_whole e) (fits_whole (plain e)) (fits_plain_whole e) h
fits_plain_query (Lanes v w e k) h = second (fits_name v) (fits_name w && (fits_whole e && fits_number k)) (fits_name w && (fits_whole (plain e) && fits_number k)) (second (fits_name w) (fits_whole e && fits_number k) (fits_whole (plain e) && fits_number k) (first (fits_whole e) (fits_number k) (fits_whole (plain e)) (fits_plain_whole e))) h

all_plain : (qs : Run Query) → all_run fits_query qs ≡ true → all_run fits_query (plain_queries qs) ≡ true
all_plain Empty h = refl
all_plain (Then qs q) h = both (all_run fits_query (plain_queries qs)) (fits_query (plain_query q)) (all_plain qs (left_of (all_run fits_query qs) (fits_query q) h)) (fits_plain_query q (right_of (all_run fits_query qs) (fits_query q) h))

count_plain : (qs : Run Query) → count_run (plain_queries qs) ≡ count_run qs
count_plain Empty = refl
count_plain (Then qs q) = ap (λ n. n + 1) (count_plain qs)

fits_plain_queries : (qs : Run Query) → fits_queries qs ≡ true → fits_queries (plain_queries qs) ≡ true
fits_plain_queries qs h =
    let rest = right_of (all_run fits_query qs) (fits_list (count_run qs) && fits_names (names_queries qs)) h in
    both (all_run fits_query (plain_queries qs)) (fits_list (count_run (plain_queries qs)) && fits_names (names_queries (plain_queries qs)))
    (all_plain qs (left_of (all_run fits_query qs) (fits_list (count_run qs) && fits_names (names_queries qs)) h))
    (ap (λ n. fits_list n && fits_names (names_queries (plain_queries qs))) (count_plain qs) ∙ ap (λ ns. fits_list (count_run qs) && fits_names ns) (names_plain_queries qs) ∙ rest)

all_plain_comma : (es : Comma Expr) → all fits_whole es ≡ true → all fits_whole (plain_comma es) ≡ true
all_plain_comma (Only e) h = fits_plain_whole e h
all_plain_comma (And es e) h = both (all fits_whole (plain_comma es)) (fits_whole (plain e)) (all_plain_comma es (left_of (all fits_whole es) (fits_whole e) h)) (fits_plain_whole e (right_of (all fits_whole es) (fits_whole e) h))

all_plain_levels : (ls : Option (Comma Expr)) → all_levels ls ≡ true → all_levels (plain_levels ls) ≡ true
all_plain_levels None h = refl
all_plain_levels (Some es) h = all_plain_comma es h

count_plain_comma : (es : Comma Expr) → count (plain_comma es) ≡ count es
count_plain_comma (Only e) = refl
count_plain_comma (And es e) = ap (λ n. n + 1) (count_plain_comma es)

count_plain_levels : (ls : Option (Comma Expr)) → count_levels (plain_levels ls) ≡ count_levels ls
count_plain_levels None = refl
count_plain_levels (Some es) = count_plain_comma es

fits_plain_levels : (qs : Run Query) (ls : Option (Comma Expr)) → fits_levels qs ls ≡ true → fits_levels (plain_queries qs) (plain_levels ls) ≡ true
fits_plain_levels qs ls h =
    let names = names_levels ls (names_queries qs) in
    let rest = right_of (all_levels ls) (fits_list (count_levels ls) && fits_names names) h in
    let same : names_levels (plain_levels ls) (names_queries (plain_queries qs)) ≡ names = ap (names_levels (plain_levels ls)) (names_plain_queries qs) ∙ names_plain_levels ls (names_queries qs) in
    both (all_levels (plain_levels ls)) (fits_list (count_levels (plain_levels ls)) && fits_names (names_levels (plain_levels ls) (names_queries (plain_queries qs))))
    (all_plain_levels ls (left_of (all_levels ls) (fits_list (count_levels ls) && fits_names names) h))
    (ap (λ n. fits_list n && fits_names (names_levels (plain_levels ls) (names_queries (plain_queries qs)))) (count_plain_levels ls) ∙ ap (λ ns. fits_list (count_levels ls) && fits_names ns) same ∙ rest)

fits_plain_part : (p : Part) → fits_part p ≡ true → fits_part (plain_part p) ≡ true
fits_plain_part p h =
    let tail = fits_numbers p.trim && (fits_numbers p.merge && fits_packs p.packs) in
    let rest = right_of (fits_queries p.queries) (fits_levels p.queries p.levels && tail) h in
    both (fits_queries (plain_queries p.queries)) (fits_levels (plain_queries p.queries) (plain_levels p.levels) && tail)
    (fits_plain_queries p.queries (left_of (fits_queries p.queries) (fits_levels p.queries p.levels && tail) h))
    (first (fits_levels p.queries p.levels) tail (fits_levels (plain_queries p.queries) (plain_levels p.levels)) (fits_plain_levels p.queries p.levels) rest)

fits_plain_block : (b : Block) → fits_block b ≡ true → fits_block (plain_block b) ≡ true
fits_plain_block b h =
    second (fits_name b.name) (fits_number b.bound && fits_part b.part) (fits_number b.bound && fits_part (plain_part b.part)) (second (fits_number b.bound) (fits_part b.part) (fits_part (plain_part b.part)) (fits_plain_part b.part)) h

all_plain_blocks : (bs : Run Block) → all_run fits_block bs ≡ true → all_run fits_block (plain_blocks bs) ≡ true
all_plain_blocks Empty h = refl
all_plain_blocks (Then bs b) h = both (all_run fits_block (plain_blocks bs)) (fits_block (plain_block b)) (all_plain_blocks bs (left_of (all_run fits_block bs) (fits_block b) h)) (fits_plain_block b (right_of (all_run fits_block bs) (fits_block b) h))

count_plain_blocks : (bs : Run Block) → count_run (plain_blocks bs) ≡ count_run bs
count_plain_blocks Empty = refl
count_plain_blocks (Then bs b) = ap (λ n. n + 1) (count_plain_blocks bs)

fits_plain_blocks : (qs : Run Query) (bs : Run Block) → fits_blocks qs bs ≡ true → fits_blocks (plain_queries qs) (plain_blocks bs) ≡ true
fits_plain_blocks qs bs h =
    let names = names_blocks bs (names_queries qs) in
    let rest = right_of (all_run fits_block bs) (ltb (count_run bs) 3 && fits_names names) h in
    let same : names_blocks (plain_blocks bs) (names_queries (plain_queries qs)) ≡ names = ap (names_blocks (plain_blocks bs)) (names_plain_queries qs) ∙ names_plain_blocks bs (names_queries qs) in
    both (all_run fits_block (plain_blocks bs)) (ltb (count_run (plain_blocks bs)) 3 && fits_names (names_blocks (plain_blocks bs) (names_queries (plain_queries qs))))
    (all_plain_blocks bs (left_of (all_run fits_block bs) (ltb (count_run bs) 3 && fits_names names) h))
    (ap (λ n. ltb n 3 && fits_names (names_blocks (plain_blocks bs) (names_queries (plain_queries qs)))) (count_plain_blocks bs) ∙ ap (λ ns. ltb (count_run bs) 3 && fits_names ns) same ∙ rest)

fits_plain_head : (h : Head) → fits_head h ≡ true → fits_head (plain_head h) ≡ true
fits_plain_head h k =
    let last = fits_name h.name && (fits_names (names_head h) && fits_number h.bound) in
    let tail = fits_blocks h.queries h.blocks && last in
    let rest = right_of (fits_queries h.queries) tail k in
    let plain_last = fits_name h.name && (fits_names (names_head (plain_head h)) && fits_number h.bound) in
    both (fits_queries (plain_queries h.queries)) (fits_blocks (plain_queries h.queries) (plain_blocks h.blocks) && plain_last)
    (fits_plain_queries h.queries (left_of (fits_queries h.queries) tail k))
    (both (fits_blocks (plain_queries h.queries) (plain_blocks h.blocks)) plain_last (fits_plain_blocks h.queries h.blocks (left_of (fits_blocks h.queries h.blocks) last rest))
    (ap (λ ns. fits_name h.name && (fits_names ns && fits_number h.bound)) (names_plain_head h) ∙ right_of (fits_blocks h.queries h.blocks) last rest))

fits_plain_body : (b : Body) → fits_body b ≡ true → fits_body (plain_body b) ≡ true
fits_plain_body (Whole p) h = fits_plain_part p h
fits_plain_body (Split h p q) k =
    let rest = right_of (fits_head h) (fits_part p && fits_part q) k in
    both (fits_head (plain_head h)) (fits_part (plain_part p) && fits_part (plain_part q)) (fits_plain_head h (left_of (fits_head h) (fits_part p && fits_part q) k))
    (both (fits_part (plain_part p)) (fits_part (plain_part q)) (fits_plain_part p (left_of (fits_part p) (fits_part q) rest)) (fits_plain_part q (right_of (fits_part p) (fits_part q) rest)))

pub fits_plain_decl : (d : Decl) → fits_decl d ≡ true → fits_decl (plain_decl d) ≡ true
fits_plain_decl d h = second (fits_name d.name) (fits_body d.body) (fits_body (plain_body d.body)) (fits_plain_body d.body) h
