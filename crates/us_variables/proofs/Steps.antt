-- What each query adds, and all of them in turn.
use Rattle.std.proofs.Common.{◌≡◌, ℕ, ◌+◌, ◌*◌, ◌<◌, ◌≤◌, List, [], ◌∷◌, ◌++◌, map, length, get_or, take, drop, cond, eqb, ℤ, pos, sym, refl, ap, ap₂, ◌∙◌, add-one, drop-cons}
use Rattle.std.specs.List.{range_with_len}
use Rattle.std.proofs.lemmas.List.{drop_all, map-append, map_more, take_all}
use Rattle.std.proofs.lemmas.Simd.{map-map}
use Rattle.us_expr.specs.declared.queries.Axis.{Axis}
use Rattle.us_expr.specs.declared.queries.Query.{Query as QueryCode}
use Rattle.us_expr.specs.Tree.{Tree}
use Rattle.us_matrix.specs.Map.{Map, IsMatrix}
use Rattle.us_format.specs.Matrix.{Entry, Shape, index_at, indices}
use Rattle.us_format.specs.Declaration.{SumOf, Enumerate, Reorder, Schedule, axis_of, query_of}
use Rattle.us_format.specs.Program.{entries_in, shape_in}
use Rattle.us_format.specs.Queries.{enumerate_at, extent_of, lane_at, order_cell, rank_of, rows_cell, schedule_extent, slot_at, sum_at, variable_at}
use Rattle.us_format.specs.Packs.{written}
use Rattle.us_format.specs.Buffers.{table_buffer}
use Rattle.us_format.proofs.Lanes.{lanes-length}
use Rattle.us_query.specs.Lanes.{Lanes, lane_in, slot_in, spread}
use Rattle.us_query.specs.Ranked.{AreRanked}
use Rattle.us_variables.specs.declared.columns.Column.{Column}
use Rattle.us_variables.specs.declared.queries.Counted.{Counted}
use Rattle.us_variables.specs.declared.tables.Table.{Table}
use Rattle.us_variables.specs.declared.tables.Table.TheVariants.{Scheduled}
use Rattle.us_variables.specs.Columns.{Adds, value_or}
use Rattle.us_variables.specs.Counted.{IsCounted}
use Rattle.us_variables.specs.Tables.{IsInverse, cells_of}
use Rattle.us_variables.proofs.Inverse.{ranks-are}
use Rattle.us_variables.proofs.Values.{inside-axis, number-of, one-more}

module _ (m : List Entry) (s : Shape) where
  pub adds-sum : (v : ℕ) (e : Tree) (old now : List Column) (c : Column) → now ≡ old ++ c ∷ [] → c.var ≡ v → c.numbers.items ≡ map (sum_at m e) m → Adds m s (SumOf v e) old now
  adds-sum v e old now c q w n qs u k d l =
      one-more m (sum_at m e) old now c u k d (variable_at m s qs u (get_or m k d)) l q (number-of m (sum_at m e) c.numbers.items k d l n)
      ∙ ap (λ (x : ℕ). value_or old u k (cond (eqb x u) (pos (sum_at m e (get_or m k d))) (variable_at m s qs u (get_or m k d)))) w

  pub adds-enumerate : (v : ℕ) (e : Tree) (old now : List Column) (c : Column) → now ≡ old ++ c ∷ [] → c.var ≡ v → c.numbers.items ≡ map (enumerate_at m e) m → Adds m s (Enumerate v e) old now
  adds-enumerate v e old now c q w n qs u k d l =
      one-more m (enumerate_at m e) old now c u k d (variable_at m s qs u (get_or m k d)) l q (number-of m (enumerate_at m e) c.numbers.items k d l n)
      ∙ ap (λ (x : ℕ). value_or old u k (cond (eqb x u) (pos (enumerate_at m e (get_or m k d))) (variable_at m s qs u (get_or m k d)))) w

pub adds-reorder : (m : Map) (v : ℕ) (t : Tree) (axis : Axis) (order places : List ℕ) (old now : List Column) (c : Column) → IsMatrix m → axis ≡ axis_of t
    → order ≡ map (order_cell (entries_in m) (shape_in m) axis) (range_with_len 0 (indices axis (shape_in m))) → AreRanked (entries_in m) (shape_in m) axis order
    → IsInverse order (length order) places → now ≡ old ++ c ∷ [] → c.var ≡ v → c.numbers.items ≡ map (λ x. get_or places (index_at axis x) 0) (entries_in m)
    → Adds (entries_in m) (shape_in m) (Reorder v t) old now
adds-reorder m v t axis order places old now c h is made ranked inverse q w n qs u k d l =
    one-more (entries_in m) (ranked_at axis) old now c u k d rest l q number
    ∙ ap (λ (x : ℕ). value_or old u k (cond (eqb x u) (pos (ranked_at axis (get_or (entries_in m) k d))) rest)) w
    ∙ ap (λ (a : Axis). value_or old u k (cond (eqb v u) (pos (ranked_at a (get_or (entries_in m) k d))) rest)) is
  where
    rest : ℤ
    rest = variable_at (entries_in m) (shape_in m) qs u (get_or (entries_in m) k d)

    ranked_at : Axis → Entry → ℕ
    ranked_at a x = rank_of (entries_in m) (shape_in m) a (index_at a x)

    number : get_or c.numbers.items k 0 ≡ ranked_at axis (get_or (entries_in m) k d)
    number =
        number-of (entries_in m) (λ x. get_or places (index_at axis x) 0) c.numbers.items k d l n
        ∙ ranks-are (entries_in m) (shape_in m) axis order made ranked places inverse (index_at axis (get_or (entries_in m) k d)) (inside-axis axis m h k d l)

module _ (m : List Entry) (s : Shape) where
  pub adds-schedule : (v w : ℕ) (t : Tree) (axis : Axis) (n : ℕ) (table : Lanes) (old middle now : List Column) (c e : Column) → axis ≡ axis_of t → table ≡ spread m s axis n
      → middle ≡ old ++ c ∷ [] → c.var ≡ v → c.numbers.items ≡ map (λ x. lane_in table.lanes (index_at axis x)) m
      → now ≡ middle ++ e ∷ [] → e.var ≡ w → e.numbers.items ≡ map (λ x. slot_in table.lanes (index_at axis x)) m → Adds m s (Schedule v w t n) old now
  adds-schedule v w t axis n table old middle now c e is made q cv cn p ev en qs u k d l =
      one-more m (slots axis) middle now e u k d rest l p (number-of m (slots axis) e.numbers.items k d l (en ∙ ap (λ (x : Lanes). map (λ y. slot_in x.lanes (index_at axis y)) m) made))
      ∙ ap (λ (x : ℕ). value_or middle u k (cond (eqb x u) (pos (slots axis (get_or m k d))) rest)) ev
      ∙ one-more m (lanes axis) old middle c u k d (cond (eqb w u) (pos (slots axis (get_or m k d))) rest) l q
      (number-of m (lanes axis) c.numbers.items k d l (cn ∙ ap (λ (x : Lanes). map (λ y. lane_in x.lanes (index_at axis y)) m) made))
      ∙ ap (λ (x : ℕ). value_or old u k (cond (eqb x u) (pos (lanes axis (get_or m k d))) (cond (eqb w u) (pos (slots axis (get_or m k d))) rest))) cv
      ∙ ap (λ (a : Axis). value_or old u k (cond (eqb v u) (pos (lanes a (get_or m k d))) (cond (eqb w u) (pos (slots a (get_or m k d))) rest))) is
    where
      rest : ℤ
      rest = variable_at m s qs u (get_or m k d)

      lanes : Axis → Entry → ℕ
      lanes a x = lane_at m s a n (index_at a x)

      slots : Axis → Entry → ℕ
      slots a x = slot_at m s a n (index_at a x)

  -- ---- tables

  pub order-cells : (v : ℕ) (t : Tree) (order : List ℕ) → order ≡ map (order_cell m s (axis_of t)) (range_with_len 0 (indices (axis_of t) s)) → map pos order ≡ written (table_buffer m s (Reorder v t))
  order-cells v t order e = ap (map pos) e ∙ map-map pos (order_cell m s (axis_of t)) (range_with_len 0 (indices (axis_of t) s))

  pub lane-cells : (v w : ℕ) (t : Tree) (n : ℕ) (table : Lanes) → table ≡ spread m s (axis_of t) n → cells_of (Scheduled table) ≡ written (table_buffer m s (Schedule v w t n))
  lane-cells v w t n table e =
      ap (λ (x : Lanes). cells_of (Scheduled x)) e
      ∙ ap (λ (k : ℕ). map (λ x. pos (rows_cell m s (axis_of t) n x)) (range_with_len 0 (k * schedule_extent m s (axis_of t) n))) (lanes-length m (axis_of t) s n)

  -- ---- all queries in turn

  pub record AreCountedTo (queries : List QueryCode) (i : ℕ) (columns : List Column) (extents : List ℕ) (tables : List Table) : Type 0 where
    pub values : (v k : ℕ) (d : Entry) → k < length m → value_or columns v k (variable_at m s (map query_of (drop i queries)) v (get_or m k d)) ≡ variable_at m s (map query_of queries) v (get_or m k d)
    pub extents_are : extents ≡ map (λ q. extent_of m s (query_of q)) (take i queries)
    pub tables_are : map cells_of tables ≡ map (λ q. written (table_buffer m s (query_of q))) (take i queries)

  pub counted-none : (queries : List QueryCode) → AreCountedTo queries 0 [] [] []
  counted-none queries = record { values = λ v k d l. refl; extents_are = refl; tables_are = refl }

  pub counted-more : (queries : List QueryCode) (i : ℕ) (q : QueryCode) (columns columns_now : List Column) (extents extents_now : List ℕ) (tables tables_now : List Table) (c : Counted)
      → i < length queries → q ≡ get_or queries i q → AreCountedTo queries i columns extents tables → Adds m s (query_of q) columns columns_now → IsCounted m s (query_of q) c
      → extents_now ≡ extents ++ c.extent ∷ [] → tables_now ≡ tables ++ c.table ∷ [] → AreCountedTo queries (i + 1) columns_now extents_now tables_now
  counted-more queries i q columns columns_now extents extents_now tables tables_now c l at h adds counted e f = record {
    values = λ v k d n.
        adds (map query_of (drop (i + 1) queries)) v k d n
        ∙ ap (λ (qs : List QueryCode). value_or columns v k (variable_at m s (map query_of qs) v (get_or m k d))) (sym split)
        ∙ h.values v k d n;
    extents_are =
        e ∙ ap₂ (λ (xs : List ℕ) (y : ℕ). xs ++ y ∷ []) h.extents_are (counted.extent ∙ ap (λ (x : QueryCode). extent_of m s (query_of x)) at)
        ∙ sym (map_more (λ x. extent_of m s (query_of x)) queries i q l);
    tables_are =
        ap (map cells_of) f ∙ map-append cells_of tables (c.table ∷ [])
        ∙ ap₂ (λ (xs : List (List ℤ)) (y : List ℤ). xs ++ y ∷ []) h.tables_are (counted.table ∙ ap (λ (x : QueryCode). written (table_buffer m s (query_of x))) at)
        ∙ sym (map_more (λ x. written (table_buffer m s (query_of x))) queries i q l);
  }
    where
      split : drop i queries ≡ q ∷ drop (i + 1) queries
      split = drop-cons queries i q l ∙ ap₂ (λ (x : QueryCode) (n : ℕ). x ∷ drop n queries) (sym at) (sym (add-one i))

  pub counted-values : (queries : List QueryCode) (i : ℕ) (columns : List Column) (extents : List ℕ) (tables : List Table) → length queries ≤ i → AreCountedTo queries i columns extents tables
      → (v k : ℕ) (d : Entry) → k < length m → value_or columns v k (pos 0) ≡ variable_at m s (map query_of queries) v (get_or m k d)
  counted-values queries i columns extents tables l h v k d n =
      ap (λ (qs : List QueryCode). value_or columns v k (variable_at m s (map query_of qs) v (get_or m k d))) (sym (drop_all i queries l)) ∙ h.values v k d n

  pub counted-extents : (queries : List QueryCode) (i : ℕ) (columns : List Column) (extents : List ℕ) (tables : List Table) → length queries ≤ i → AreCountedTo queries i columns extents tables
      → extents ≡ map (extent_of m s) (map query_of queries)
  counted-extents queries i columns extents tables l h =
      h.extents_are ∙ ap (λ (qs : List QueryCode). map (λ q. extent_of m s (query_of q)) qs) (take_all i queries l) ∙ sym (map-map (extent_of m s) query_of queries)

  pub counted-tables : (queries : List QueryCode) (i : ℕ) (columns : List Column) (extents : List ℕ) (tables : List Table) → length queries ≤ i → AreCountedTo queries i columns extents tables
      → map cells_of tables ≡ map (λ q. written (table_buffer m s q)) (map query_of queries)
  counted-tables queries i columns extents tables l h =
      h.tables_are ∙ ap (λ (qs : List QueryCode). map (λ q. written (table_buffer m s (query_of q))) qs) (take_all i queries l)
      ∙ sym (map-map (λ q. written (table_buffer m s q)) query_of queries)
