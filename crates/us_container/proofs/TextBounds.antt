-- The canonical text of a valid declaration is short.
use Rattle.std.proofs.Common.{◌≡◌, ℕ, zero, suc, ◌+◌, ◌*◌, ◌^◌, ◌≤◌, ◌<◌, List, [], ◌∷◌, ◌++◌, length, map, Bool, true, false, cond, ltb, refl, ap, arith, inl, inr, length-append}
use Rattle.std.specs.Prelude.{◌&&◌, Option, Some, None, All, codes}
use Rattle.std.specs.Fmt.{decimal}
use Rattle.std.specs.List.{flat_map, join_by}
use Rattle.std.proofs.lemmas.Bool.{cases_lt, ltb-true}
use Rattle.std.proofs.lemmas.Fmt.{length-decimal-le}
use Rattle.std.proofs.lemmas.List.{get_or_past, length-map}
use Rattle.std.proofs.lemmas.List.Elements.{All-nil, All-cons, All-head, All-tail, All-map, All-push, All-get_or, All-weaker}
use Rattle.us_expr.specs.Tree.{Tree}
use Rattle.us_expr.specs.declared.queries.Cond.{Cond}
use Rattle.us_decl.specs.declared.column.Column.{Column}
use Rattle.us_decl.specs.declared.column.Column.TheVariants.{Level, Val}
use Rattle.us_decl.specs.Grammar.{Comma, Only, And, Run, Empty, Then, Expr, One, Plus, Less, Term, Just, Over, Rest, Factor, Row, Col, Named, Num, Group, Query, Single, Lanes, Sum, Enumerate, Reorder, Part, Block, Body, Whole, Split, blocks_of}
use Rattle.us_decl.specs.Words.{is_name, keyword, every, is_free}
use Rattle.us_tokens.specs.Lex.{first_is, is_letter, is_word}
use Rattle.us_decl.specs.Names.{with_name, number_of, names_expr, names_term, names_factor, names_query, names_queries, names_comma, names_levels, names_part, names_blocks, names_head}
use Rattle.us_decl.specs.Limits.{nodes, nodes_term, nodes_factor, all, all_run, all_levels, fits_nodes, fits_number, fits_name, fits_expr, fits_term, fits_factor, fits_whole, fits_query, fits_queries, fits_levels, fits_numbers, fits_column, fits_pack, fits_packs, fits_part, fits_block, fits_blocks, fits_head, fits_body, fits_list, fits_names, count, count_run, count_levels}
use Rattle.us_decl.specs.Declares.{Declared, IsValid, declared, tree_expr, tree_term, tree_factor, query_of, part_of, whole_part, cond_of, parts_of, body_of, comma_items, run_items, maybe_items}
use Rattle.us_judge.proofs.Valid.{blocks-fit}
use Rattle.us_print.specs.Canon.{name_text, is_sum, parenthesized, expr_text, asked_text, query_text, column_text, comma, indent, line, numbers_line, queries_lines, pack_text, map_text, part_lines, sign_text, condition_text, opening_line, block_lines, blocks_lines, body_lines, decl_text}

both : (a b : Bool) → (a && b) ≡ true → (a ≡ true) × (b ≡ true)
both true b h = (refl, h)
both false b h = absurd cc

-- ---- names

abbrev Short : List ℕ → Type 0
Short w = length w ≤ 32

name_short : (w : List ℕ) → is_name w ≡ true → Short w
name_short w h =
    let a = both (first_is is_letter w) (every is_word w && (is_free (keyword w) && ltb (length w) 33)) h in
    let b = both (every is_word w) (is_free (keyword w) && ltb (length w) 33) a.1 in
    let c = both (is_free (keyword w)) (ltb (length w) 33) b.1 in
    omega (arith, ltb-true (length w) 33 c.1)

chosen : (t : Bool) (xs ys : List (List ℕ)) → All Short xs → All Short ys → All Short (cond t xs ys)
chosen true xs ys h g = h
chosen false xs ys h g = g

with_short : (w : List ℕ) (ns : List (List ℕ)) → is_name w ≡ true → All Short ns → All Short (with_name w ns)
with_short w ns h s = chosen _ (ns ++ (w ∷ [])) ns (All-push Short ns w s (name_short w h)) s

mutual
  expr_names : (d : ℕ) (e : Expr) (ns : List (List ℕ)) → fits_expr d e ≡ true → All Short ns → All Short (names_expr e ns)
  expr_names d (One t) ns h s = term_names d t ns h s
  expr_names d (Plus e t) ns h s = let p = both (fits_expr d e) (fits_term d t) h in term_names d t (names_expr e ns) p.1 (expr_names d e ns p.0 s)
  expr_names d (Less e t) ns h s = let p = both (fits_expr d e) (fits_term d t) h in term_names d t (names_expr e ns) p.1 (expr_names d e ns p.0 s)

  term_names : (d : ℕ) (t : Term) (ns : List (List ℕ)) → fits_term d t ≡ true → All Short ns → All Short (names_term t ns)
  term_names d (Just f) ns h s = factor_names d f ns h s
  term_names d (Over t k) ns h s = let p = both (fits_term d t) (fits_number (suc k)) h in term_names d t ns p.0 s
  term_names d (Rest t k) ns h s = let p = both (fits_term d t) (fits_number (suc k)) h in term_names d t ns p.0 s

  factor_names : (d : ℕ) (f : Factor) (ns : List (List ℕ)) → fits_factor d f ≡ true → All Short ns → All Short (names_factor f ns)
  factor_names d Row ns h s = s
  factor_names d Col ns h s = s
  factor_names d (Named w) ns h s = with_short w ns h s
  factor_names d (Num n) ns h s = s
  factor_names d (Group e) ns h s = let p = both (ltb d 32) (fits_expr (suc d) e) h in expr_names (suc d) e ns p.1 s

whole_names : (e : Expr) (ns : List (List ℕ)) → fits_whole e ≡ true → All Short ns → All Short (names_expr e ns)
whole_names e ns h s = let p = both (fits_expr 0 e) (fits_nodes (nodes e)) h in expr_names 0 e ns p.0 s

query_names : (q : Query) (ns : List (List ℕ)) → fits_query q ≡ true → All Short ns → All Short (names_query q ns)
query_names (Single q v e) ns h s = let p = both (fits_name v) (fits_whole e) h in whole_names e (with_name v ns) p.1 (with_short v ns p.0 s)
query_names (Lanes v w e k) ns h s =
    let p = both (fits_name v) (fits_name w && (fits_whole e && fits_number k)) h in
    let q = both (fits_name w) (fits_whole e && fits_number k) p.1 in
    let r = both (fits_whole e) (fits_number k) q.1 in
    whole_names e (with_name w (with_name v ns)) r.0 (with_short w (with_name v ns) q.0 (with_short v ns p.0 s))

run_names : (qs : Run Query) → all_run fits_query qs ≡ true → All Short (names_queries qs)
run_names Empty h = All-nil Short
run_names (Then qs q) h = let p = both (all_run fits_query qs) (fits_query q) h in query_names q (names_queries qs) p.1 (run_names qs p.0)

comma_names : (es : Comma Expr) (ns : List (List ℕ)) → all fits_whole es ≡ true → All Short ns → All Short (names_comma es ns)
comma_names (Only e) ns h s = whole_names e ns h s
comma_names (And es e) ns h s = let p = both (all fits_whole es) (fits_whole e) h in whole_names e (names_comma es ns) p.1 (comma_names es ns p.0 s)

level_names : (ls : Option (Comma Expr)) (ns : List (List ℕ)) → all_levels ls ≡ true → All Short ns → All Short (names_levels ls ns)
level_names None ns h s = s
level_names (Some es) ns h s = comma_names es ns h s

-- each name by its number
abbrev Names : List (List ℕ) → Type 0
Names ns = (k : ℕ) → length (name_text ns k) ≤ 32

by_number : (ns : List (List ℕ)) → All Short ns → Names ns
by_number ns s k = elim (cases_lt k (length ns)) [
  | inl there ↦ All-get_or Short ns k [] there s
  | inr past ↦ omega (arith, ap length (get_or_past ns k [] past))
]

-- ---- numbers and expressions

digits : (n : ℕ) → fits_number n ≡ true → length (decimal n) ≤ 10
digits n h = let low : n < 2147483648 = ltb-true n 2147483648 h in length-decimal-le 10 n (omega arith) (omega arith) (omega arith)

paren_len : (t : Bool) (w : List ℕ) → length (parenthesized t w) ≤ length w + 2
paren_len true w = omega (arith, length-append w (41 ∷ []))
paren_len false w = omega arith

sum_len : (ns : List (List ℕ)) (sign : List ℕ) (x y : Tree) (m n : ℕ) → length sign ≤ 3 → length (expr_text ns x) ≤ 48 * m → length (expr_text ns y) ≤ 48 * n
    → length (expr_text ns x ++ (sign ++ parenthesized (is_sum y) (expr_text ns y))) ≤ 48 * (m + 1 + n)
sum_len ns sign x y m n s a b =
    omega (arith, length-append (expr_text ns x) (sign ++ parenthesized (is_sum y) (expr_text ns y)), length-append sign (parenthesized (is_sum y) (expr_text ns y)), paren_len (is_sum y) (expr_text ns y))

quotient_len : (ns : List (List ℕ)) (sign : List ℕ) (x : Tree) (k m : ℕ) → length sign ≤ 3 → length (expr_text ns x) ≤ 48 * m → length (decimal k) ≤ 10
    → length (parenthesized (is_sum x) (expr_text ns x) ++ (sign ++ decimal k)) ≤ 48 * (m + 1)
quotient_len ns sign x k m s a b =
    omega (arith, length-append (parenthesized (is_sum x) (expr_text ns x)) (sign ++ decimal k), length-append sign (decimal k), paren_len (is_sum x) (expr_text ns x))

mutual
  expr_len : (ns : List (List ℕ)) → Names ns → (d : ℕ) (e : Expr) → fits_expr d e ≡ true → length (expr_text ns (tree_expr ns e)) ≤ 48 * nodes e
  expr_len ns b d (One t) h = term_len ns b d t h
  expr_len ns b d (Plus e t) h =
      let p = both (fits_expr d e) (fits_term d t) h in
      sum_len ns (codes " + ") (tree_expr ns e) (tree_term ns t) (nodes e) (nodes_term t) (omega arith) (expr_len ns b d e p.0) (term_len ns b d t p.1)
  expr_len ns b d (Less e t) h =
      let p = both (fits_expr d e) (fits_term d t) h in
      sum_len ns (codes " - ") (tree_expr ns e) (tree_term ns t) (nodes e) (nodes_term t) (omega arith) (expr_len ns b d e p.0) (term_len ns b d t p.1)

  term_len : (ns : List (List ℕ)) → Names ns → (d : ℕ) (t : Term) → fits_term d t ≡ true → length (expr_text ns (tree_term ns t)) ≤ 48 * nodes_term t
  term_len ns b d (Just f) h = factor_len ns b d f h
  term_len ns b d (Over t k) h =
      let p = both (fits_term d t) (fits_number (suc k)) h in
      quotient_len ns (codes " / ") (tree_term ns t) (suc k) (nodes_term t) (omega arith) (term_len ns b d t p.0) (digits (suc k) p.1)
  term_len ns b d (Rest t k) h =
      let p = both (fits_term d t) (fits_number (suc k)) h in
      quotient_len ns (codes " % ") (tree_term ns t) (suc k) (nodes_term t) (omega arith) (term_len ns b d t p.0) (digits (suc k) p.1)

  factor_len : (ns : List (List ℕ)) → Names ns → (d : ℕ) (f : Factor) → fits_factor d f ≡ true → length (expr_text ns (tree_factor ns f)) ≤ 48 * nodes_factor f
  factor_len ns b d Row h = omega arith
  factor_len ns b d Col h = omega arith
  factor_len ns b d (Named w) h = omega (arith, b (number_of w ns))
  factor_len ns b d (Num n) h = omega (arith, digits n h)
  factor_len ns b d (Group e) h = let p = both (ltb d 32) (fits_expr (suc d) e) h in expr_len ns b (suc d) e p.1

whole_len : (ns : List (List ℕ)) → Names ns → (e : Expr) → fits_whole e ≡ true → length (expr_text ns (tree_expr ns e)) ≤ 1536
whole_len ns b e h =
    let p = both (fits_expr 0 e) (fits_nodes (nodes e)) h in
    omega (arith, expr_len ns b 0 e p.0, ltb-true (nodes e) 33 p.1)

-- ---- lists

flat_len : {A : Type 0} (f : A → List ℕ) (m : ℕ) (xs : List A) → All (λ x. length (f x) ≤ m) xs → length (flat_map f xs) ≤ m * length xs
flat_len f m [] h = omega arith
flat_len f m (x ∷ xs) h =
    omega (arith, length-append (f x) (flat_map f xs), All-head (λ y. length (f y) ≤ m) x xs h, flat_len f m xs (All-tail (λ y. length (f y) ≤ m) x xs h))

join_len : {A : Type 0} (f : A → List ℕ) (xs : List A) → All (λ x. length (f x) ≤ 2000) xs → length (join_by f comma xs) ≤ 4000 * length xs
join_len f [] h = omega arith
join_len f (x ∷ xs) h =
    let first : length (f x) ≤ 2000 = All-head (λ y. length (f y) ≤ 2000) x xs h in
    let others : length (flat_map (λ y. comma ++ f y) xs) ≤ 2002 * length xs =
    flat_len (λ y. comma ++ f y) 2002 xs (All-weaker (λ y. length (f y) ≤ 2000) (λ y. length (comma ++ f y) ≤ 2002) (λ y k. omega arith) xs (All-tail (λ y. length (f y) ≤ 2000) x xs h)) in
    omega (arith, length-append (f x) (flat_map (λ y. comma ++ f y) xs))

line_len : (depth : ℕ) (w : List ℕ) → length (line depth w) ≡ 2 * depth + length w + 1
line_len depth w = omega (arith, length-append (indent depth) (w ++ (10 ∷ [])), length-append w (10 ∷ []), indent_len depth)
  where
    indent_len : (n : ℕ) → length (indent n) ≡ 2 * n
    indent_len zero = refl
    indent_len (suc n) = omega (arith, indent_len n)

-- what holds of the items of a text
comma_all : {A : Type 0} (P : A → Type 0) (p : A → Bool) (each : (x : A) → p x ≡ true → P x) (xs : Comma A) → all p xs ≡ true → All P (comma_items xs)
comma_all P p each (Only x) h = All-cons P x [] (each x h) (All-nil P)
comma_all P p each (And xs x) h = let q = both (all p xs) (p x) h in All-push P (comma_items xs) x (comma_all P p each xs q.0) (each x q.1)

run_all : {A : Type 0} (P : A → Type 0) (p : A → Bool) (each : (x : A) → p x ≡ true → P x) (xs : Run A) → all_run p xs ≡ true → All P (run_items xs)
run_all P p each Empty h = All-nil P
run_all P p each (Then xs x) h = let q = both (all_run p xs) (p x) h in All-push P (run_items xs) x (run_all P p each xs q.0) (each x q.1)

comma_few : {A : Type 0} (xs : Comma A) → fits_list (count xs) ≡ true → length (comma_items xs) ≤ 16
comma_few xs h = omega (arith, comma_count xs, ltb-true (count xs) 17 h)
  where
    comma_count : {A : Type 0} (xs : Comma A) → length (comma_items xs) ≡ count xs
    comma_count (Only x) = refl
    comma_count (And xs x) = omega (arith, length-append (comma_items xs) (x ∷ []), comma_count xs)

run_few : {A : Type 0} (xs : Run A) → fits_list (count_run xs) ≡ true → length (run_items xs) ≤ 16
run_few xs h = omega (arith, run_count xs, ltb-true (count_run xs) 17 h)
  where
    run_count : {A : Type 0} (xs : Run A) → length (run_items xs) ≡ count_run xs
    run_count Empty = refl
    run_count (Then xs x) = omega (arith, length-append (run_items xs) (x ∷ []), run_count xs)

-- ---- lines

module _ (ns : List (List ℕ)) (b : Names ns) where
  asked_len : (v : ℕ) (word : List ℕ) (e : Tree) → length word ≤ 20 → length (expr_text ns e) ≤ 1536 → length (asked_text ns v word e) ≤ 1600
  asked_len v word e h g =
      omega (arith, b v, length-append (name_text ns v) (word ++ (expr_text ns e ++ codes ")")), length-append word (expr_text ns e ++ codes ")"), length-append (expr_text ns e) (codes ")"))

  query_len : (depth : ℕ) (q : Query) → depth ≤ 2 → fits_query q ≡ true → length (line depth (query_text ns (query_of ns q))) ≤ 2000
  query_len depth (Single Sum v e) d h =
      let p = both (fits_name v) (fits_whole e) h in
      omega (arith, asked_len (number_of v ns) (codes " = sum(") (tree_expr ns e) (omega arith) (whole_len ns b e p.1), line_len depth (query_text ns (query_of ns (Single Sum v e))))
  query_len depth (Single Enumerate v e) d h =
      let p = both (fits_name v) (fits_whole e) h in
      omega (arith, asked_len (number_of v ns) (codes " = enumerate(") (tree_expr ns e) (omega arith) (whole_len ns b e p.1), line_len depth (query_text ns (query_of ns (Single Enumerate v e))))
  query_len depth (Single Reorder v e) d h =
      let p = both (fits_name v) (fits_whole e) h in
      omega (arith, asked_len (number_of v ns) (codes " = reorder(") (tree_expr ns e) (omega arith) (whole_len ns b e p.1), line_len depth (query_text ns (query_of ns (Single Reorder v e))))
  query_len depth (Lanes v w e k) d h =
      let p = both (fits_name v) (fits_name w && (fits_whole e && fits_number k)) h in
      let q = both (fits_name w) (fits_whole e && fits_number k) p.1 in
      let r = both (fits_whole e) (fits_number k) q.1 in
      let asked : List ℕ = asked_text ns (number_of w ns) (codes " = schedule(") (tree_expr ns e) in
      let into : List ℕ = codes " into " ++ decimal k in
      omega (
        arith,
        asked_len (number_of w ns) (codes " = schedule(") (tree_expr ns e) (omega arith) (whole_len ns b e r.0),
        digits k r.1,
        b (number_of v ns),
        length-append asked into,
        length-append (name_text ns (number_of v ns)) (comma ++ (asked ++ into)),
        line_len depth (query_text ns (query_of ns (Lanes v w e k))),
      )

  queries_len : (depth : ℕ) (qs : Run Query) → depth ≤ 2 → fits_queries qs ≡ true → length (queries_lines depth ns (map (query_of ns) (run_items qs))) ≤ 32000
  queries_len depth qs d h =
      let p = both (all_run fits_query qs) (fits_list (count_run qs) && fits_names (names_queries qs)) h in
      let q = both (fits_list (count_run qs)) (fits_names (names_queries qs)) p.1 in
      let items : All (λ x. length (line depth (query_text ns (query_of ns x))) ≤ 2000) (run_items qs) =
      run_all (λ x. length (line depth (query_text ns (query_of ns x))) ≤ 2000) fits_query (λ x k. query_len depth x d k) qs p.0 in
      omega (
        arith,
        flat_len (λ x. line depth (query_text ns x)) 2000 (map (query_of ns) (run_items qs)) (All-map (λ x. length (line depth (query_text ns x)) ≤ 2000) (query_of ns) (run_items qs) items),
        length-map (run_items qs) (query_of ns),
        run_few qs q.0,
      )

  levels_all : (ls : Option (Comma Expr)) → all_levels ls ≡ true → All (λ x. length (expr_text ns x) ≤ 2000) (map (tree_expr ns) (maybe_items ls))
  levels_all None h = All-nil (λ x. length (expr_text ns x) ≤ 2000)
  levels_all (Some es) h =
      All-map (λ x. length (expr_text ns x) ≤ 2000) (tree_expr ns) (comma_items es)
      (comma_all (λ e. length (expr_text ns (tree_expr ns e)) ≤ 2000) fits_whole (λ e k. omega (arith, whole_len ns b e k)) es h)

  levels_few : (ls : Option (Comma Expr)) → fits_list (count_levels ls) ≡ true → length (maybe_items ls) ≤ 16
  levels_few None h = omega arith
  levels_few (Some es) h = comma_few es h

  map_len : (qs : Run Query) (ls : Option (Comma Expr)) → fits_levels qs ls ≡ true → length (map_text ns (map (tree_expr ns) (maybe_items ls))) ≤ 70000
  map_len qs ls h =
      let p = both (all_levels ls) (fits_list (count_levels ls) && fits_names (names_levels ls (names_queries qs))) h in
      let q = both (fits_list (count_levels ls)) (fits_names (names_levels ls (names_queries qs))) p.1 in
      let es : List Tree = map (tree_expr ns) (maybe_items ls) in
      omega (arith, join_len (expr_text ns) es (levels_all ls p.0), length-map (maybe_items ls) (tree_expr ns), levels_few ls q.0, length-append (join_by (expr_text ns) comma es) (codes ")"))

numbers_len : (depth : ℕ) (word : List ℕ) (ks : Option (Comma ℕ)) → depth ≤ 2 → length word ≤ 20 → fits_numbers ks ≡ true → length (numbers_line depth word (maybe_items ks)) ≤ 70000
numbers_len depth word None d w h = omega arith
numbers_len depth word (Some ks) d w h =
    let p = both (all fits_number ks) (fits_list (count ks)) h in
    let items : All (λ k. length (decimal k) ≤ 2000) (comma_items ks) = comma_all (λ k. length (decimal k) ≤ 2000) fits_number (λ k e. omega (arith, digits k e)) ks p.0 in
    go (comma_items ks) (join_len decimal (comma_items ks) items) (comma_few ks p.1)
  where
    go : (xs : List ℕ) → length (join_by decimal comma xs) ≤ 4000 * length xs → length xs ≤ 16 → length (numbers_line depth word xs) ≤ 70000
    go [] j f = omega arith
    go (x ∷ xs) j f = omega (arith, line_len depth (word ++ join_by decimal comma (x ∷ xs)), length-append word (join_by decimal comma (x ∷ xs)))

column_len : (c : Column) → fits_column c ≡ true → length (column_text c) ≤ 2000
column_len (Level k) h = omega (arith, digits k h)
column_len Val h = omega arith

pack_len : (depth : ℕ) (cs : Comma Column) → depth ≤ 2 → fits_pack cs ≡ true → length (line depth (pack_text (comma_items cs))) ≤ 70000
pack_len depth cs d h =
    let p = both (all fits_column cs) (fits_list (count cs)) h in
    let xs : List Column = comma_items cs in
    omega (
      arith,
      join_len column_text xs (comma_all (λ c. length (column_text c) ≤ 2000) fits_column column_len cs p.0),
      comma_few cs p.1,
      length-append (join_by column_text comma xs) (codes ")"),
      line_len depth (pack_text xs),
    )

packs_len : (depth : ℕ) (ps : Run (Comma Column)) → depth ≤ 2 → fits_packs ps ≡ true → length (flat_map (λ cs. line depth (pack_text cs)) (map comma_items (run_items ps))) ≤ 1120000
packs_len depth ps d h =
    let p = both (all_run fits_pack ps) (fits_list (count_run ps)) h in
    let items : All (λ cs. length (line depth (pack_text (comma_items cs))) ≤ 70000) (run_items ps) =
    run_all (λ cs. length (line depth (pack_text (comma_items cs))) ≤ 70000) fits_pack (λ cs k. pack_len depth cs d k) ps p.0 in
    omega (
      arith,
      flat_len (λ cs. line depth (pack_text cs)) 70000 (map comma_items (run_items ps)) (All-map (λ cs. length (line depth (pack_text cs)) ≤ 70000) comma_items (run_items ps) items),
      length-map (run_items ps) comma_items,
      run_few ps p.1,
    )

-- ---- the whole

part_len : (depth : ℕ) (ns : List (List ℕ)) (p : Part) → Names ns → depth ≤ 2 → fits_part p ≡ true → length (part_lines depth (part_of ns p)) ≤ 2000000
part_len depth ns p b d h =
    let p1 = both (fits_queries p.queries) (fits_levels p.queries p.levels && (fits_numbers p.trim && (fits_numbers p.merge && fits_packs p.packs))) h in
    let p2 = both (fits_levels p.queries p.levels) (fits_numbers p.trim && (fits_numbers p.merge && fits_packs p.packs)) p1.1 in
    let p3 = both (fits_numbers p.trim) (fits_numbers p.merge && fits_packs p.packs) p2.1 in
    let p4 = both (fits_numbers p.merge) (fits_packs p.packs) p3.1 in
    let queries : List ℕ = queries_lines depth ns (map (query_of ns) (run_items p.queries)) in
    let levels : List ℕ = map_text ns (map (tree_expr ns) (maybe_items p.levels)) in
    let trim : List ℕ = numbers_line depth (codes "trim ") (maybe_items p.trim) in
    let merge : List ℕ = numbers_line depth (codes "merge ") (maybe_items p.merge) in
    let packs : List ℕ = flat_map (λ cs. line depth (pack_text cs)) (map comma_items (run_items p.packs)) in
    omega (
      arith,
      queries_len ns b depth p.queries d p1.0,
      map_len ns b p.queries p.levels p2.0,
      numbers_len depth (codes "trim ") p.trim d (omega arith) p3.0,
      numbers_len depth (codes "merge ") p.merge d (omega arith) p4.0,
      packs_len depth p.packs d p4.1,
      line_len depth levels,
      length-append queries (line depth levels ++ (trim ++ (merge ++ packs))),
      length-append (line depth levels) (trim ++ (merge ++ packs)),
      length-append trim (merge ++ packs),
      length-append merge packs,
    )

queries_names : (qs : Run Query) → fits_queries qs ≡ true → All Short (names_queries qs)
queries_names qs h = let p = both (all_run fits_query qs) (fits_list (count_run qs) && fits_names (names_queries qs)) h in run_names qs p.0

part_names : (p : Part) → fits_part p ≡ true → Names (names_part p)
part_names p h =
    let p1 = both (fits_queries p.queries) (fits_levels p.queries p.levels && (fits_numbers p.trim && (fits_numbers p.merge && fits_packs p.packs))) h in
    let p2 = both (fits_levels p.queries p.levels) (fits_numbers p.trim && (fits_numbers p.merge && fits_packs p.packs)) p1.1 in
    let q = both (all_levels p.levels) (fits_list (count_levels p.levels) && fits_names (names_levels p.levels (names_queries p.queries))) p2.0 in
    by_number (names_part p) (level_names p.levels (names_queries p.queries) q.0 (queries_names p.queries p1.0))

sign_len : (t : Bool) → length (sign_text t) ≤ 4
sign_len true = omega arith
sign_len false = omega arith

-- the line that opens a part, and the lines of the part
opening_len : (ns : List (List ℕ)) → Names ns → (k : Block) (cs : List Cond) → fits_number k.bound ≡ true → length (opening_line ns (cond_of ns k ∷ cs)) ≤ 100
opening_len ns b k cs h =
    let v : ℕ = number_of k.name ns in
    let condition : List ℕ = condition_text ns (cond_of ns k) in
    let whole : List ℕ = codes "part when " ++ (condition ++ codes " {") in
    omega (
      arith,
      b v,
      sign_len k.less,
      digits k.bound h,
      line_len 1 whole,
      length-append condition (codes " {"),
      length-append (name_text ns v) (sign_text k.less ++ decimal k.bound),
      length-append (sign_text k.less) (decimal k.bound),
    )

block_len : (p : Part) → fits_part p ≡ true → length (block_lines (whole_part p)) ≤ 2000010
block_len p h = omega (arith, part_len 2 (names_part p) p (part_names p h) (omega arith) h, length-append (part_lines 2 (whole_part p)) (line 1 (codes "}")))

blocks_len : (ns : List (List ℕ)) → Names ns → (ks : List Block) (q : Part) → All (λ k. fits_block k ≡ true) ks → fits_part q ≡ true
    → length (blocks_lines ns (map (cond_of ns) ks) (map (λ (k : Block). whole_part k.part) ks ++ (whole_part q ∷ []))) ≤ 2001000 * (length ks + 1)
blocks_len ns b [] q h g =
    omega (arith, block_len q g, length-append (opening_line ns []) (block_lines (whole_part q)), length-append (opening_line ns [] ++ block_lines (whole_part q)) [])
blocks_len ns b (k ∷ ks) q h g =
    let cs : List Cond = map (cond_of ns) ks in
    let this : fits_block k ≡ true = All-head (λ k. fits_block k ≡ true) k ks h in
    let bound = both (fits_number k.bound) (fits_part k.part) (both (fits_name k.name) (fits_number k.bound && fits_part k.part) this).1 in
    let opened : List ℕ = opening_line ns (cond_of ns k ∷ cs) in
    omega (
      arith,
      opening_len ns b k cs bound.0,
      block_len k.part bound.1,
      blocks_len ns b ks q (All-tail (λ k. fits_block k ≡ true) k ks h) g,
      length-append opened (block_lines (whole_part k.part)),
      length-append (opened ++ block_lines (whole_part k.part)) (blocks_lines ns cs (map (λ (k : Block). whole_part k.part) ks ++ (whole_part q ∷ []))),
    )

block_names : (bs : Run Block) (ns : List (List ℕ)) → all_run fits_block bs ≡ true → All Short ns → All Short (names_blocks bs ns)
block_names Empty ns h s = s
block_names (Then bs k) ns h s =
    let p = both (all_run fits_block bs) (fits_block k) h in
    with_short k.name (names_blocks bs ns) (both (fits_name k.name) (fits_number k.bound && fits_part k.part) p.1).0 (block_names bs ns p.0 s)

run_length : {A : Type 0} (xs : Run A) → length (run_items xs) ≡ count_run xs
run_length Empty = refl
run_length (Then xs x) = omega (arith, length-append (run_items xs) (x ∷ []), run_length xs)

body_len : (b : Body) → fits_body b ≡ true → length (body_lines (body_of b)) ≤ 9000000
body_len (Whole p) h = omega (arith, part_len 1 (names_part p) p (part_names p h) (omega arith) h)
body_len (Split s p q) h =
    let h1 = both (fits_head s) (fits_part p && fits_part q) h in
    let h2 = both (fits_part p) (fits_part q) h1.1 in
    let last : Bool = fits_name s.name && (fits_names (names_head s) && fits_number s.bound) in
    let h3 = both (fits_queries s.queries) (fits_blocks s.queries s.blocks && last) h1.0 in
    let h4 = both (fits_blocks s.queries s.blocks) last h3.1 in
    let h5 = both (all_run fits_block s.blocks) (ltb (count_run s.blocks) 3 && fits_names (names_blocks s.blocks (names_queries s.queries))) h4.0 in
    let h6 = both (ltb (count_run s.blocks) 3) (fits_names (names_blocks s.blocks (names_queries s.queries))) h5.1 in
    let bs : Run Block = blocks_of s p in
    let fit : all_run fits_block (blocks_of s p) ≡ true = blocks-fit s p h1.0 h2.0 in
    let ns : List (List ℕ) = names_head s in
    let b : Names ns = by_number ns (block_names bs (names_queries s.queries) fit (queries_names s.queries h3.0)) in
    let queries : List ℕ = queries_lines 1 ns (map (query_of ns) (run_items s.queries)) in
    let parts : List ℕ = blocks_lines ns (map (cond_of ns) (run_items bs)) (parts_of bs q) in
    let few : count_run s.blocks < 3 = ltb-true (count_run s.blocks) 3 h6.0 in
    let all_len : length parts ≤ 2001000 * (length (run_items bs) + 1) = blocks_len ns b (run_items bs) q (run_all (λ k. fits_block k ≡ true) fits_block (λ k e. e) bs fit) h2.1 in
    omega (arith, queries_len ns b 1 s.queries (omega arith) h3.0, all_len, few, run_length bs, length-append queries parts)

decl_len : (n : List ℕ) (b : Body) → is_name n ≡ true → fits_body b ≡ true → length (decl_text (declared (record { name = n; body = b }))) ≤ 10000000
decl_len n b name h =
    let front : List ℕ = codes "format " ++ (n ++ codes " {") in
    omega (arith, name_short n name, body_len b h, line_len 0 front, length-append n (codes " {"), length-append (line 0 front) (body_lines (body_of b)), length-append (line 0 front ++ body_lines (body_of b)) (line 0 (codes "}")))

-- the canonical text of a valid declaration has fewer bytes than eight bytes count
pub short_text : (d : Declared) → IsValid d → length (decl_text d) < 2 ^ 64
short_text d v =
    let p = both (fits_name v.text.name) (fits_body v.text.body) v.within in
    let few : length (decl_text (declared v.text)) ≤ 10000000 = decl_len v.text.name v.text.body p.0 p.1 in
    omega (arith, ap (λ x. length (decl_text x)) v.is)
