-- The extents and tables of queries, one query after the other.
use Rattle.std.specs.List.{list_any}
use Rattle.std.proofs.Common.{◌≡◌, ℕ, ◌+◌, ◌<◌, ◌≤◌, List, [], ◌∷◌, ◌++◌, map, length, get_or, drop, Bool, true, false, ◌||◌, cond, ℤ, pos, sym, refl, ap, ap₂, ◌∙◌, arith, append_assoc}
use Rattle.std.proofs.lemmas.List.{append-nil, drop_all, drop_more}
use Rattle.us_expr.specs.declared.queries.Query.{Query as QueryCode}
use Rattle.us_format.specs.Declaration.{Query, has_extent, has_table, query_of}
use Rattle.us_format.specs.Matrix.{Shape}
use Rattle.us_parts.specs.Cells.{extent_lists, has_long_axis, queries_cells, query_cells, table_lists}

module _ (qs : List QueryCode) (k : ℕ) (q : QueryCode) (h : k < length qs) where
  pub queries-split : map query_of (drop k qs) ≡ query_of (get_or qs k q) ∷ map query_of (drop (k + 1) qs)
  queries-split = ap (map query_of) (drop_more qs k q h)

  pub long-next : (s : Shape) (b : Bool) → b ≡ has_long_axis s (query_of (get_or qs k q)) → list_any (has_long_axis s) (map query_of (drop k qs)) ≡ (b || list_any (has_long_axis s) (map query_of (drop (k + 1) qs)))
  long-next s b e = ap (list_any (has_long_axis s)) queries-split ∙ ap (λ (c : Bool). c || list_any (has_long_axis s) (map query_of (drop (k + 1) qs))) (sym e)

  pub cells-next : (s : Shape) (ns : List ℕ) (d : ℕ) → length ns ≡ length qs
      → queries_cells s (map query_of (drop k qs)) (drop k ns) ≡ query_cells s (query_of (get_or qs k q)) (get_or ns k d) + queries_cells s (map query_of (drop (k + 1) qs)) (drop (k + 1) ns)
  cells-next s ns d long = ap₂ (λ (x : List Query) (y : List ℕ). queries_cells s x y) queries-split (drop_more ns k d (omega (arith, h, long)))

  pub extents-next : (ns : List ℕ) (d : ℕ) (old new : List (List ℤ)) → length ns ≡ length qs → new ≡ old ++ extent_lists (query_of (get_or qs k q) ∷ []) (get_or ns k d ∷ [])
      → new ++ extent_lists (map query_of (drop (k + 1) qs)) (drop (k + 1) ns) ≡ old ++ extent_lists (map query_of (drop k qs)) (drop k ns)
  extents-next ns d old new long e =
      ap (λ (l : List (List ℤ)). l ++ rest) e ∙ append_assoc old (extent_lists (query_of (get_or qs k q) ∷ []) (get_or ns k d ∷ [])) rest
      ∙ ap (λ (l : List (List ℤ)). old ++ l) (sym (one (has_extent (query_of (get_or qs k q)))))
      ∙ ap₂ (λ (x : List Query) (y : List ℕ). old ++ extent_lists x y) (sym queries-split) (sym (drop_more ns k d (omega (arith, h, long))))
    where
      rest : List (List ℤ)
      rest = extent_lists (map query_of (drop (k + 1) qs)) (drop (k + 1) ns)

      one : (b : Bool) → cond b ((pos (get_or ns k d) ∷ []) ∷ rest) rest ≡ cond b ((pos (get_or ns k d) ∷ []) ∷ []) [] ++ rest
      one true = refl
      one false = refl

  pub tables-next : (ts : List (List ℤ)) (d : List ℤ) (old new : List (List ℤ)) → length ts ≡ length qs → new ≡ old ++ table_lists (query_of (get_or qs k q) ∷ []) (get_or ts k d ∷ [])
      → new ++ table_lists (map query_of (drop (k + 1) qs)) (drop (k + 1) ts) ≡ old ++ table_lists (map query_of (drop k qs)) (drop k ts)
  tables-next ts d old new long e =
      ap (λ (l : List (List ℤ)). l ++ rest) e ∙ append_assoc old (table_lists (query_of (get_or qs k q) ∷ []) (get_or ts k d ∷ [])) rest
      ∙ ap (λ (l : List (List ℤ)). old ++ l) (sym (one (has_table (query_of (get_or qs k q)))))
      ∙ ap₂ (λ (x : List Query) (y : List (List ℤ)). old ++ table_lists x y) (sym queries-split) (sym (drop_more ts k d (omega (arith, h, long))))
    where
      rest : List (List ℤ)
      rest = table_lists (map query_of (drop (k + 1) qs)) (drop (k + 1) ts)

      one : (b : Bool) → cond b (get_or ts k d ∷ rest) rest ≡ cond b (get_or ts k d ∷ []) [] ++ rest
      one true = refl
      one false = refl

-- ---- behind the last query

module _ (qs : List QueryCode) (k : ℕ) (h : length qs ≤ k) where
  pub none-left : map query_of (drop k qs) ≡ []
  none-left = ap (map query_of) (drop_all k qs h)

  pub extents-end : (ns : List ℕ) (now all : List (List ℤ)) → now ++ extent_lists (map query_of (drop k qs)) (drop k ns) ≡ all → now ≡ all
  extents-end ns now all e = sym (append-nil now) ∙ ap (λ (x : List Query). now ++ extent_lists x (drop k ns)) (sym none-left) ∙ e

  pub tables-end : (ts now all : List (List ℤ)) → now ++ table_lists (map query_of (drop k qs)) (drop k ts) ≡ all → now ≡ all
  tables-end ts now all e = sym (append-nil now) ∙ ap (λ (x : List Query). now ++ table_lists x (drop k ts)) (sym none-left) ∙ e

  pub cells-end : (s : Shape) (ns : List ℕ) → queries_cells s (map query_of (drop k qs)) (drop k ns) ≡ 0
  cells-end s ns = ap (λ (x : List Query). queries_cells s x (drop k ns)) none-left
