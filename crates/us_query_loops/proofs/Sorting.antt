-- What an `order` writes sorts entries by their values, and row-major.
use Rattle.std.specs.Prelude.{slice_index_or}
use Rattle.std.specs.List.{range_with_len}
use Rattle.std.specs.List.Sorted.{IsPermutation}
use Rattle.std.proofs.Common.{◌≡◌, ℕ, ◌<◌, ◌⊎◌, List, [], ◌∷◌, length, Bool, true, false, ◌&&◌, eqb, ltb, ℤ, pos, sym, refl, ap, ap₂, ◌∙◌, subst, inl, inr, arith, count_by, eq-eqb, eqb-true, ltb-true, lt-ltb}
use Rattle.std.proofs.lemmas.Bool.{and_parts, and_from, or_cases, or_left, or_right, cases_order, false≢true}
use Rattle.std.proofs.lemmas.List.{get_or-map}
use Rattle.std.proofs.lemmas.Map.Keys.{IsDistinct-IsPermutation, IsDistinct-from_apart, apart_from_distinct}
use lib.Signed.{lt_z}
use Rattle.us_expr.specs.Tree.{Tree, RowIndex, ColIndex}
use Rattle.us_code.specs.Sort.{before, ordered}
use Rattle.us_code_laws.proofs.Orders.{by_keys, ordered_by_keys}
use Rattle.us_format.proofs.Collect.{range-Mem}
use Rattle.us_format.specs.Matrix.{Entry, Shape, IsMatrixOf, earlier}
use Rattle.us_format.specs.Queries.{plain_value}
use Rattle.us_query_loops.proofs.Counted.{count-find, count-some}
use Rattle.us_query_loops.proofs.ValueOrder.{by-first, by-next}
use Rattle.us_query_loops.specs.Sorted.{IsOrder, entry_at, place_at, value_column}
use Rattle.us_query_loops.specs.Laws.{AreOrdered, OrdersSort}

-- ---- each place once

module _ (keys : List (List ℤ)) (n : ℕ) where
  abbrev places : List ℕ
  places = ordered keys n

  never-twice : (x y : ℕ) → x < y → y < n → place_at places x ≡ place_at places y → ⊥
  never-twice x y l m e =
      false≢true (sym ((by_keys keys).irreflexive (place_at places x)) ∙ subst (λ (z : ℕ). before keys (place_at places x) z ≡ true) (sym e) (ordered_by_keys.ascending keys n x y l m))

  pub is-once : IsOrder n (ordered keys n)
  is-once = record {
    long = ordered_by_keys.long keys n;
    below = λ x l. ordered_by_keys.in_range keys n x l;
    apart = λ x y l m e. go x y l m e (cases_order x y);
    each = found;
    counts = λ p. ordered_by_keys.all keys n p;
  }
    where
      go : (x y : ℕ) → x < n → y < n → place_at places x ≡ place_at places y → ((x ≡ y) ⊎ ((x < y) ⊎ (y < x))) → x ≡ y
      go x y l m e (inl q) = q
      go x y l m e (inr (inl q)) = absurd (never-twice x y q m e)
      go x y l m e (inr (inr q)) = absurd (never-twice y x q l (sym e))

      found : (y : ℕ) → y < n → (x : ℕ) × (x < n) × (place_at places x ≡ y)
      found y l =
          let some : 0 < count_by (λ z. eqb z y) (range_with_len 0 n) = count-some (λ z. eqb z y) (range_with_len 0 n) y (range-Mem 0 n y (omega arith) (omega (arith, l))) (eq-eqb y y refl) in
          let r = count-find (λ z. eqb z y) places 0 (omega (arith, some, ordered_by_keys.all keys n (λ z. eqb z y))) in
          (r.0, omega (arith, r.1, ordered_by_keys.long keys n), eqb-true (place_at places r.0) y r.2)

-- ---- entries of one coordinate are one

alike : Entry → Entry → Bool
alike a b = eqb a.i b.i && eqb a.j b.j

eqb-flips : (x y : ℕ) → eqb x y ≡ eqb y x
eqb-flips x y = go (eqb x y) (eqb y x) refl refl
  where
    go : (a b : Bool) → eqb x y ≡ a → eqb y x ≡ b → a ≡ b
    go true true p q = refl
    go false false p q = refl
    go true false p q = absurd (false≢true (sym q ∙ eq-eqb y x (sym (eqb-true x y p))))
    go false true p q = absurd (false≢true (sym p ∙ eq-eqb x y (sym (eqb-true y x q))))

alike-flips : (a b : Entry) → alike a b ≡ alike b a
unfolding alike
alike-flips a b = ap₂ (λ (p q : Bool). p && q) (eqb-flips a.i b.i) (eqb-flips a.j b.j)

earlier-unlike : (a b : Entry) → earlier a b ≡ true → alike a b ≡ false
unfolding alike
earlier-unlike a b h = go (eqb a.i b.i && eqb a.j b.j) refl
  where
    go : (t : Bool) → (eqb a.i b.i && eqb a.j b.j) ≡ t → t ≡ false
    go false e = refl
    go true e = absurd (two (or_cases (ltb a.i b.i) (eqb a.i b.i && ltb a.j b.j) h))
      where
        two : ((ltb a.i b.i ≡ true) ⊎ ((eqb a.i b.i && ltb a.j b.j) ≡ true)) → ⊥
        two (inl p) = omega (arith, ltb-true a.i b.i p, eqb-true a.i b.i (and_parts (eqb a.i b.i) (eqb a.j b.j) e).0)
        two (inr p) = omega (arith, ltb-true a.j b.j (and_parts (eqb a.i b.i) (ltb a.j b.j) p).1, eqb-true a.j b.j (and_parts (eqb a.i b.i) (eqb a.j b.j) e).1)

alike-from : (a b : Entry) → a.i ≡ b.i → a.j ≡ b.j → alike a b ≡ true
unfolding alike
alike-from a b e f = and_from (eqb a.i b.i) (eqb a.j b.j) (eq-eqb a.i b.i e) (eq-eqb a.j b.j f)

module _ (s : Shape) (m es : List Entry) (matrix : IsMatrixOf s m) (moved : IsPermutation m es) where
  abbrev n : ℕ
  n = length es

  apart-below : (x y : ℕ) → x < y → y < n → (entry_at es x).i ≡ (entry_at es y).i → (entry_at es x).j ≡ (entry_at es y).j → ⊥
  apart-below x y l k e f =
      false≢true
      (sym (apart_from_distinct alike es x y (record { i = 0; j = 0; v = pos 0 })
      (IsDistinct-IsPermutation alike alike-flips m es moved (IsDistinct-from_apart alike m (λ i j d p q. earlier-unlike _ _ (matrix.sorted i j d p q)))) l k)
      ∙ alike-from (entry_at es x) (entry_at es y) e f)

  value-is : (e : Tree) (y : ℕ) → y < n → slice_index_or (value_column e es) y (pos 0) ≡ plain_value e (entry_at es y)
  value-is e y l = get_or-map (plain_value e) es y (record { i = 0; j = 0; v = pos 0 }) (pos 0) l

  -- one key tells, or they are equal there
  by-key : (e : Tree) (more : List (List ℤ)) (x y : ℕ) → x < n → y < n → before (value_column e es ∷ more) x y ≡ true → lt_z (plain_value e (entry_at es y)) (plain_value e (entry_at es x)) ≡ false
  by-key e more x y l k h =
      ap₂ lt_z (sym (value-is e y k)) (sym (value-is e x l)) ∙ by-first (slice_index_or (value_column e es) x (pos 0)) (slice_index_or (value_column e es) y (pos 0)) (before more x y) h

  past-key : (e : Tree) (more : List (List ℤ)) (x y : ℕ) → x < n → y < n → plain_value e (entry_at es x) ≡ plain_value e (entry_at es y) → before (value_column e es ∷ more) x y ≡ true → before more x y ≡ true
  past-key e more x y l k q h =
      by-next (slice_index_or (value_column e es) x (pos 0)) (slice_index_or (value_column e es) y (pos 0)) (before more x y) (value-is e x l ∙ q ∙ sym (value-is e y k)) h

  -- by the rows, then the columns
  row-major : (x y : ℕ) → x < n → y < n → before (value_column RowIndex es ∷ value_column ColIndex es ∷ []) x y ≡ true → earlier (entry_at es x) (entry_at es y) ≡ true
  row-major x y l k h = go (cases_order (entry_at es x).i (entry_at es y).i)
    where
      a : Entry
      a = entry_at es x

      b : Entry
      b = entry_at es y

      cols : (entry_at es x).i ≡ (entry_at es y).i → before (value_column ColIndex es ∷ []) x y ≡ true
      cols e = past-key RowIndex (value_column ColIndex es ∷ []) x y l k (ap pos e) h

      two : (entry_at es x).i ≡ (entry_at es y).i → (((entry_at es x).j ≡ (entry_at es y).j) ⊎ (((entry_at es x).j < (entry_at es y).j) ⊎ ((entry_at es y).j < (entry_at es x).j))) → earlier (entry_at es x) (entry_at es y) ≡ true
      two e (inl f) = absurd (apart-below x y (ltb-true x y (past-key ColIndex [] x y l k (ap pos f) (cols e))) k e f)
      two e (inr (inl f)) = or_right _ _ (and_from _ _ (eq-eqb _ _ e) (lt-ltb _ _ f))
      two e (inr (inr f)) = absurd (false≢true (sym (by-key ColIndex [] x y l k (cols e)) ∙ lt-ltb _ _ f))

      go : (((entry_at es x).i ≡ (entry_at es y).i) ⊎ (((entry_at es x).i < (entry_at es y).i) ⊎ ((entry_at es y).i < (entry_at es x).i))) → earlier (entry_at es x) (entry_at es y) ≡ true
      go (inl e) = two e (cases_order (entry_at es x).j (entry_at es y).j)
      go (inr (inl p)) = or_left _ _ (lt-ltb _ _ p)
      go (inr (inr p)) = absurd (false≢true (sym (by-key RowIndex (value_column ColIndex es ∷ []) x y l k h) ∙ lt-ltb _ _ p))

  -- of one column, by the rows
  in-column : (x y : ℕ) → x < n → y < n → (entry_at es x).j ≡ (entry_at es y).j → before (value_column RowIndex es ∷ []) x y ≡ true → earlier (entry_at es x) (entry_at es y) ≡ true
  in-column x y l k f h = go (cases_order (entry_at es x).i (entry_at es y).i)
    where
      go : (((entry_at es x).i ≡ (entry_at es y).i) ⊎ (((entry_at es x).i < (entry_at es y).i) ⊎ ((entry_at es y).i < (entry_at es x).i))) → earlier (entry_at es x) (entry_at es y) ≡ true
      go (inl e) = absurd (apart-below x y (ltb-true x y (past-key RowIndex [] x y l k (ap pos e) h)) k e f)
      go (inr (inl p)) = or_left _ _ (lt-ltb _ _ p)
      go (inr (inr p)) = absurd (false≢true (sym (by-key RowIndex [] x y l k h) ∙ lt-ltb _ _ p))

  module _ (keys : List (List ℤ)) (x y : ℕ) (l : x < y) (k : y < n) where
    abbrev px : ℕ
    px = place_at (ordered keys n) x

    abbrev py : ℕ
    py = place_at (ordered keys n) y

    ordered-here : before keys px py ≡ true
    ordered-here = ordered_by_keys.ascending keys n x y l k

    px-below : px < n
    px-below = ordered_by_keys.in_range keys n x (omega (arith, l, k))

    py-below : py < n
    py-below = ordered_by_keys.in_range keys n y k

  pub are-ordered : AreOrdered es
  are-ordered = record {
    once = is-once;
    read = λ e places order x l. value-is e (place_at places x) (order.below x l);
    by_value = λ e more x y l k. let ks : List (List ℤ) = value_column e es ∷ more in by-key e more _ _ (px-below ks x y l k) (py-below ks x y l k) (ordered-here ks x y l k);
    by_value_row_column = λ e x y l k q.
        let more : List (List ℤ) = value_column RowIndex es ∷ value_column ColIndex es ∷ [] in
        let ks : List (List ℤ) = value_column e es ∷ more in
        row-major _ _ (px-below ks x y l k) (py-below ks x y l k) (past-key e more _ _ (px-below ks x y l k) (py-below ks x y l k) q (ordered-here ks x y l k));
    by_row_column = λ x y l k q. let ks : List (List ℤ) = value_column RowIndex es ∷ value_column ColIndex es ∷ [] in row-major _ _ (px-below ks x y l k) (py-below ks x y l k) (ordered-here ks x y l k);
    by_column_row = λ x y l k q.
        let more : List (List ℤ) = value_column RowIndex es ∷ [] in
        let ks : List (List ℤ) = value_column ColIndex es ∷ more in
        in-column _ _ (px-below ks x y l k) (py-below ks x y l k) (back q) (past-key ColIndex more _ _ (px-below ks x y l k) (py-below ks x y l k) q (ordered-here ks x y l k));
  }
    where
      back : {a b : ℕ} → pos a ≡ pos b → a ≡ b
      back e = cc

pub orders-sort : OrdersSort
orders-sort = λ s m es matrix moved. are-ordered s m es matrix moved
