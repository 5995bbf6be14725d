-- A lawful part over a matrix is sound, and its tables are right.
use Rattle.std.specs.Prelude.{slice_get}
use Rattle.std.proofs.Common.{◌≡◌, ℕ, zero, suc, ◌+◌, ◌*◌, ◌<◌, ◌≤◌, ◌⊎◌, List, [], ◌∷◌, ◌++◌, map, get_or, Bool, true, false, cond, ◌&&◌, ◌||◌, eqb, ℤ, pos, ◌+ℤ◌, ◌-ℤ◌, sym, refl, ap, ap₂, ◌∙◌, subst, inl, inr, arith, Some, AllPairs, int_eq, mul-le-mul_right}
use Rattle.std.specs.Int.{int_div_euclid, int_rem_euclid}
use Rattle.std.proofs.lemmas.Int.{ints}
use Rattle.std.proofs.lemmas.Bool.{or_cases, and_parts, or_left, or_right, and_left, false≢true}
use Rattle.std.proofs.lemmas.Bool.Decides.{Decides-int_eq}
use Rattle.std.proofs.lemmas.List.FromFn.{get_or-map-range_with_len, length-map-range_with_len}
use Rattle.us_expr.specs.declared.queries.Axis.{Axis}
use Rattle.us_expr.specs.declared.queries.Axis.TheVariants.{Rows, Cols}
use Rattle.us_expr.specs.declared.ranges.Range.{Range}
use Rattle.us_expr.specs.Tree.{Tree, RowIndex, ColIndex, Number, Variable, Sum, Difference, Quotient, Remainder, uses}
use Rattle.us_expr.specs.Value.{value, IsWithin}
use Rattle.us_expr.specs.Range.{LiesIn, index_range, range_at}
use Rattle.us_expr.proofs.Lies.{lies_part}
use Rattle.us_format.specs.Lists.{among, nth, cell, nat_of, join}
use Rattle.us_format.specs.Matrix.{Entry, Shape, earlier, index_at, indices, is_zero, IsMatrixOf}
use Rattle.us_format.specs.Declaration.{Query, SumOf, Enumerate, Reorder, Schedule, Part, axis_of, argument, defines, defined}
use Rattle.us_format.specs.Known.{sub_expressions, expressions}
use Rattle.us_format.specs.Queries.{plain_value, sum_at, enumerate_at, enumerate_extent, rank_of, lane_at, slot_at, schedule_extent, rows_cell, variable_at, variables_at, extent_of, extents_of}
use Rattle.us_format.specs.Coordinates.{variable_range, variable_ranges, value_at, coordinate, coordinates}
use Rattle.us_format.specs.Kinds.{levels_of}
use Rattle.us_format.specs.Positions.{row_of, rows_of}
use Rattle.us_format.specs.Packs.{written}
use Rattle.us_format.specs.Buffers.{table_buffer}
use Rattle.us_format.specs.Rules.{has_variable, is_index, has_lawful_argument, HasLanes, sum_variables, UsesDefined, IsLawful}
use Rattle.us_format.specs.Laws.{MeaningIsMatrix, PositionsAscend}
use Rattle.us_format.proofs.Order.{Mem, Mem-map}
use Rattle.us_format.proofs.Members.{contains-Mem, all-Mem, item-Mem, Mem-either, join-Mem, added-from}
use Rattle.us_format.proofs.Counting.{count-lt}
use Rattle.us_format.proofs.Climb.{cell-written}
use Rattle.us_format.proofs.Collect.{RowMajor, earlier-irrefl, among-Mem}
use Rattle.us_format.proofs.Lanes.{Mem-greatest, lanes-length, lanes-there}
use Rattle.us_format.proofs.Lookup.{not-true, or-false, eqb-false_sym, item-defined, enumerate-value, order-value, lane-value, slot-value}
use Rattle.us_format.proofs.Queries.{rank-tells, rank-below, order-is, enumerate-tell, rows-is}
use Rattle.us_format.proofs.Agree.{Tellers, InRanges, Sound, all-tell}
use Rattle.us_format.proofs.RecoverLaw.{IsFound}
use Rattle.us_format.proofs.PartLaw.{top-placed, top-slots, take-whole}
use Rattle.us_format.proofs.PartMeaning.{found_of, IsMatrix, part-meaning}
use Rattle.us_format.proofs.Ascending.{ascending, lower-next}

-- ---- what holds of a whole holds of its parts

-- P holds of the operands wherever it holds of the whole
pub record Hereditary (P : Tree → Type 0) : Type 0 where
  pub left_of_sum : (a b : Tree) → P (Sum a b) → P a
  pub right_of_sum : (a b : Tree) → P (Sum a b) → P b
  pub left_of_difference : (a b : Tree) → P (Difference a b) → P a
  pub right_of_difference : (a b : Tree) → P (Difference a b) → P b
  pub of_quotient : (a : Tree) (k : ℕ) → P (Quotient a k) → P a
  pub of_remainder : (a : Tree) (k : ℕ) → P (Remainder a k) → P a

module _ (P : Tree → Type 0) (her : Hereditary P) where
  pub alone : (e x : Tree) → P e → Mem x (e ∷ []) → P x
  alone e x h (inl q) = subst P q h
  alone e x h (inr m) = absurd m

  pub one_part : (xs : List Tree) (e x : Tree) → P e → (Mem x xs → P x) → Mem x (xs ++ e ∷ []) → P x
  one_part xs e x h ih m = go (Mem-either x xs (e ∷ []) m)
    where
      go : (Mem x xs ⊎ Mem x (e ∷ [])) → P x
      go (inl k) = ih k
      go (inr k) = alone e x h k

  pub two_parts : (xs ys : List Tree) (e x : Tree) → P e → (Mem x xs → P x) → (Mem x ys → P x) → Mem x (xs ++ (ys ++ e ∷ [])) → P x
  two_parts xs ys e x h ih jh m = go (Mem-either x xs (ys ++ e ∷ []) m)
    where
      go : (Mem x xs ⊎ Mem x (ys ++ e ∷ [])) → P x
      go (inl k) = ih k
      go (inr k) = one_part ys e x h jh k

  pub sub-has : (e x : Tree) → P e → Mem x (sub_expressions e) → P x
  sub-has RowIndex x h m = alone RowIndex x h m
  sub-has ColIndex x h m = alone ColIndex x h m
  sub-has (Number c) x h m = alone (Number c) x h m
  sub-has (Variable v) x h m = alone (Variable v) x h m
  sub-has (Sum a b) x h m =
      two_parts (sub_expressions a) (sub_expressions b) (Sum a b) x h (sub-has a x (her.left_of_sum a b h)) (sub-has b x (her.right_of_sum a b h)) m
  sub-has (Difference a b) x h m =
      two_parts (sub_expressions a) (sub_expressions b) (Difference a b) x h (sub-has a x (her.left_of_difference a b h)) (sub-has b x (her.right_of_difference a b h)) m
  sub-has (Quotient a k) x h m = one_part (sub_expressions a) (Quotient a k) x h (sub-has a x (her.of_quotient a k h)) m
  sub-has (Remainder a k) x h m = one_part (sub_expressions a) (Remainder a k) x h (sub-has a x (her.of_remainder a k h)) m

  -- what holds of levels, arguments and indices holds of all expressions of a part
  pub expressions-have : (levels : List Tree) (qs : List Query) → ((l : Tree) → Mem l levels → P l) → ((q : Query) → Mem q qs → P (argument q)) → P RowIndex → P ColIndex
      → (e : Tree) → Mem e (expressions levels qs) → P e
  expressions-have levels qs hl hq hr hc e m =
      from (added-from [] (join (map sub_expressions levels) ++ (join (map (λ q. sub_expressions (argument q)) qs) ++ RowIndex ∷ ColIndex ∷ [])) e m)
    where
      indices_have : Mem e (RowIndex ∷ ColIndex ∷ []) → P e
      indices_have (inl q) = subst P q hr
      indices_have (inr (inl q)) = subst P q hc
      indices_have (inr (inr q)) = absurd q

      arguments_have : (Mem e (join (map (λ q. sub_expressions (argument q)) qs)) ⊎ Mem e (RowIndex ∷ ColIndex ∷ [])) → P e
      arguments_have (inl k) = let r = join-Mem (λ q. sub_expressions (argument q)) e qs k in sub-has (argument r.0) e (hq r.0 r.1) r.2
      arguments_have (inr k) = indices_have k

      levels_have : (Mem e (join (map sub_expressions levels)) ⊎ Mem e (join (map (λ q. sub_expressions (argument q)) qs) ++ RowIndex ∷ ColIndex ∷ [])) → P e
      levels_have (inl k) = let r = join-Mem sub_expressions e levels k in sub-has r.0 e (hl r.0 r.1) r.2
      levels_have (inr k) = arguments_have (Mem-either e (join (map (λ q. sub_expressions (argument q)) qs)) (RowIndex ∷ ColIndex ∷ []) k)

      from : (Mem e [] ⊎ Mem e (join (map sub_expressions levels) ++ (join (map (λ q. sub_expressions (argument q)) qs) ++ RowIndex ∷ ColIndex ∷ []))) → P e
      from (inl k) = absurd k
      from (inr k) = levels_have (Mem-either e (join (map sub_expressions levels)) (join (map (λ q. sub_expressions (argument q)) qs) ++ RowIndex ∷ ColIndex ∷ []) k)

pub within-hereditary : (n : ℕ) → Hereditary (IsWithin n)
within-hereditary n = record { left_of_sum = λ a b h. h.0; right_of_sum = λ a b h. h.1; left_of_difference = λ a b h. h.0; right_of_difference = λ a b h. h.1; of_quotient = λ a k h. h.2; of_remainder = λ a k h. h.2 }

-- ---- expressions without variables

pub uses-none : (e : Tree) (v : ℕ) → has_variable e ≡ false → uses e v ≡ false
uses-none RowIndex v h = refl
uses-none ColIndex v h = refl
uses-none (Number c) v h = refl
uses-none (Variable w) v h = absurd (false≢true (sym h))
uses-none (Sum a b) v h = let p = or-false (has_variable a) (has_variable b) h in rw (uses-none a v p.0, uses-none b v p.1) refl
uses-none (Difference a b) v h = let p = or-false (has_variable a) (has_variable b) h in rw (uses-none a v p.0, uses-none b v p.1) refl
uses-none (Quotient a k) v h = uses-none a v h
uses-none (Remainder a k) v h = uses-none a v h

pub plain-value : (i j : ℤ) (vs : List ℤ) (e : Tree) → has_variable e ≡ false → value i j vs e ≡ value i j [] e
plain-value i j vs RowIndex h = refl
plain-value i j vs ColIndex h = refl
plain-value i j vs (Number c) h = refl
plain-value i j vs (Variable w) h = absurd (false≢true (sym h))
plain-value i j vs (Sum a b) h = let p = or-false (has_variable a) (has_variable b) h in ap₂ (λ x y. x +ℤ y) (plain-value i j vs a p.0) (plain-value i j vs b p.1)
plain-value i j vs (Difference a b) h = let p = or-false (has_variable a) (has_variable b) h in ap₂ (λ x y. x -ℤ y) (plain-value i j vs a p.0) (plain-value i j vs b p.1)
plain-value i j vs (Quotient a k) h = ap (λ x. int_div_euclid x (pos k)) (plain-value i j vs a h)
plain-value i j vs (Remainder a k) h = ap (λ x. int_rem_euclid x (pos k)) (plain-value i j vs a h)

pub index-plain : (e : Tree) → is_index e ≡ true → has_variable e ≡ false
index-plain RowIndex h = refl
index-plain ColIndex h = refl
index-plain (Number c) h = absurd (false≢true h)
index-plain (Variable v) h = absurd (false≢true h)
index-plain (Sum a b) h = absurd (false≢true h)
index-plain (Difference a b) h = absurd (false≢true h)
index-plain (Quotient a k) h = absurd (false≢true h)
index-plain (Remainder a k) h = absurd (false≢true h)

pub argument-plain : (q : Query) → has_lawful_argument q ≡ true → has_variable (argument q) ≡ false
argument-plain (SumOf v e) h = not-true (has_variable e) h
argument-plain (Enumerate v e) h = not-true (has_variable e) h
argument-plain (Reorder v e) h = index-plain e h
argument-plain (Schedule l t e n) h = index-plain e h

-- ---- the order of entries

pub row-major : (m : List Entry) → AllPairs (λ a b. earlier a b ≡ true) m → RowMajor m
row-major [] h = tt
row-major (e ∷ es) h = ((λ y my. all-Mem (λ y. earlier e y ≡ true) es y (λ k d l. h zero (suc k) d (omega arith) (omega (arith, l))) my), row-major es (λ i j d l k. h (suc i) (suc j) d (omega (arith, l)) (omega (arith, k))))

pub same-earlier : (a b : Entry) → a.i ≡ b.i → a.j ≡ b.j → earlier a b ≡ earlier a a
same-earlier a b e f = rw (sym e, sym f) refl

pub apart : (m : List Entry) → RowMajor m → (x y : Entry) → Mem x m → Mem y m → x.i ≡ y.i → x.j ≡ y.j → x ≡ y
apart [] h x y mx my e f = absurd mx
apart (a ∷ es) h x y (inl p) (inl q) e f = sym p ∙ q
apart (a ∷ es) h x y (inl p) (inr q) e f = absurd (earlier-irrefl x (sym (same-earlier x y e f) ∙ subst (λ (z : Entry). earlier z y ≡ true) p (h.0 y q)))
apart (a ∷ es) h x y (inr p) (inl q) e f = absurd (earlier-irrefl y (sym (same-earlier y x (sym e) (sym f)) ∙ subst (λ (z : Entry). earlier z x ≡ true) q (h.0 x p)))
apart (a ∷ es) h x y (inr p) (inr q) e f = apart es h.1 x y p q e f

pub earlier-self : (x : Entry) → earlier x x ≡ false
earlier-self x = go (earlier x x) refl
  where
    go : (b : Bool) → earlier x x ≡ b → b ≡ false
    go true q = absurd (earlier-irrefl x q)
    go false q = refl

pub index-lies : (i n : ℕ) → i < n → LiesIn (pos i) (index_range n)
index-lies i n h = record { low = omega (arith, ints); high = omega (arith, ints) }

pub later : (v w : ℕ) (b : Bool) → eqb w v ≡ false → (eqb v w || b) ≡ true → b ≡ true
later v w b n h = go (or_cases (eqb v w) b h)
  where
    go : ((eqb v w ≡ true) ⊎ (b ≡ true)) → b ≡ true
    go (inl e) = absurd (false≢true (sym (eqb-false_sym w v n) ∙ e))
    go (inr e) = e

pub pos-same : (a b : ℕ) → pos a ≡ pos b → a ≡ b
pos-same a b h = cc

module _ (m : List Entry) (s : Shape) (x : Entry) (mx : Mem x m) (row : x.i < s.rows) (col : x.j < s.cols) where
  pub index-below : (a : Axis) → index_at a x < indices a s
  index-below Rows = row
  index-below Cols = col

  pub enumerate-below : (e : Tree) → enumerate_at m e x < enumerate_extent m e
  enumerate-below e =
      let l : enumerate_at m e x < sum_at m e x =
      count-lt (λ y. earlier y x && int_eq (plain_value e y) (plain_value e x)) (λ y. int_eq (plain_value e y) (plain_value e x)) m x
      (λ z mz t. (and_parts (earlier z x) (int_eq (plain_value e z) (plain_value e x)) t).1) mx (and_left _ _ (earlier-self x)) ((Decides-int_eq (plain_value e x) (plain_value e x)).1 refl) in
      let k : sum_at m e x ≤ enumerate_extent m e = Mem-greatest 0 (sum_at m e x) (map (sum_at m e) m) (Mem-map (sum_at m e) x m mx) in
      omega (arith, l, k)

  pub lane-below : (a : Axis) (n : ℕ) → 0 < n → lane_at m s a n (index_at a x) < n
  lane-below a n h = subst (λ (k : ℕ). lane_at m s a n (index_at a x) < k) (lanes-length m a s n) (rows-is m s a n (index_at a x) (lanes-there m a s n (index_at a x) h (index-below a))).0

  pub slot-below : (a : Axis) (n : ℕ) → 0 < n → slot_at m s a n (index_at a x) < schedule_extent m s a n
  slot-below a n h = (rows-is m s a n (index_at a x) (lanes-there m a s n (index_at a x) h (index-below a))).1

  pub rows-back : (a : Axis) (n : ℕ) → 0 < n → rows_cell m s a n (lane_at m s a n (index_at a x) * schedule_extent m s a n + slot_at m s a n (index_at a x)) ≡ suc (index_at a x)
  rows-back a n h = (rows-is m s a n (index_at a x) (lanes-there m a s n (index_at a x) h (index-below a))).2

  -- a variable that is defined and no sum lies in its range
  pub variable-lies : (qs : List Query) (v : ℕ) → ((q : Query) → Mem q qs → HasLanes q) → among v (defined qs) ≡ true → among v (sum_variables qs) ≡ false
      → LiesIn (variable_at m s qs v x) (variable_range s (map (extent_of m s) qs) qs v)
  variable-lies [] v hl h n = absurd (false≢true h)
  variable-lies (SumOf w e ∷ qs) v hl h n =
      let p = or-false (eqb v w) (among v (sum_variables qs)) n in
      let f : eqb w v ≡ false = eqb-false_sym v w p.0 in
      rw f (variable-lies qs v (λ q k. hl q (inr k)) (later v w (among v (defined qs)) f h) p.1)
  variable-lies (Enumerate w e ∷ qs) v hl h n = go (eqb w v) refl (λ k. variable-lies qs v (λ q k. hl q (inr k)) k n)
    where
      go : (b : Bool) → eqb w v ≡ b → (among v (defined qs) ≡ true → LiesIn (variable_at m s qs v x) (variable_range s (map (extent_of m s) qs) qs v))
          → LiesIn (cond b (pos (enumerate_at m e x)) (variable_at m s qs v x)) (cond b (index_range (enumerate_extent m e)) (variable_range s (map (extent_of m s) qs) qs v))
      go true q ih = index-lies _ _ (enumerate-below e)
      go false q ih = ih (later v w (among v (defined qs)) q h)
  variable-lies (Reorder w t ∷ qs) v hl h n = go (eqb w v) refl (λ k. variable-lies qs v (λ q k. hl q (inr k)) k n)
    where
      go : (b : Bool) → eqb w v ≡ b → (among v (defined qs) ≡ true → LiesIn (variable_at m s qs v x) (variable_range s (map (extent_of m s) qs) qs v))
          → LiesIn (cond b (pos (rank_of m s (axis_of t) (index_at (axis_of t) x))) (variable_at m s qs v x)) (cond b (index_range (indices (axis_of t) s)) (variable_range s (map (extent_of m s) qs) qs v))
      go true q ih = index-lies _ _ (rank-below m s (axis_of t) (index_at (axis_of t) x) (index-below (axis_of t)))
      go false q ih = ih (later v w (among v (defined qs)) q h)
  variable-lies (Schedule l u t k ∷ qs) v hl h n = go (eqb l v) refl (eqb u v) refl (λ k. variable-lies qs v (λ q k. hl q (inr k)) k n)
    where
      go : (b : Bool) → eqb l v ≡ b → (c : Bool) → eqb u v ≡ c → (among v (defined qs) ≡ true → LiesIn (variable_at m s qs v x) (variable_range s (map (extent_of m s) qs) qs v))
          → LiesIn (cond b (pos (lane_at m s (axis_of t) k (index_at (axis_of t) x))) (cond c (pos (slot_at m s (axis_of t) k (index_at (axis_of t) x))) (variable_at m s qs v x)))
          (cond b (index_range k) (cond c (index_range (schedule_extent m s (axis_of t) k)) (variable_range s (map (extent_of m s) qs) qs v)))
      go true q c r ih = index-lies _ _ (lane-below (axis_of t) k (hl (Schedule l u t k) (inl refl)))
      go false q true r ih = index-lies _ _ (slot-below (axis_of t) k (hl (Schedule l u t k) (inl refl)))
      go false q false r ih = ih (later v u (among v (defined qs)) r (later v l (among v (u ∷ defined qs)) q h))

-- ---- a lawful part

module _ (s : Shape) (p : Part) (m : List Entry) (la : IsLawful p) (im : IsMatrixOf s m) where
  pub row-below : (x : Entry) → Mem x m → x.i < s.rows
  row-below x mx = all-Mem (λ y. y.i < s.rows) m x im.rows mx

  pub col-below : (x : Entry) → Mem x m → x.j < s.cols
  col-below x mx = all-Mem (λ y. y.j < s.cols) m x im.cols mx

  pub variable-name : (q : ℕ) (r : Query) (v : ℕ) → slice_get p.queries q ≡ Some r → Mem v (defines r) → v < p.names
  variable-name q r v at h = all-Mem (λ v. v < p.names) (defined p.queries) v la.named (item-defined p.queries q r v at h)

  -- the value of a variable
  pub variable-value : (x : Entry) (v : ℕ) → v < p.names → value_at m s p x (Variable v) ≡ variable_at m s p.queries v x
  variable-value x v h = get_or-map-range_with_len (λ v. variable_at m s p.queries v x) 0 p.names v v (pos 0) h (omega arith)

  pub variable-of : (x : Entry) (q : ℕ) (r : Query) (v : ℕ) → slice_get p.queries q ≡ Some r → Mem v (defines r) → value_at m s p x (Variable v) ≡ variable_at m s p.queries v x
  variable-of x q r v at h = variable-value x v (variable-name q r v at h)

  pub lanes-of : (q l u : ℕ) (t : Tree) (n : ℕ) → slice_get p.queries q ≡ Some (Schedule l u t n) → 0 < n
  lanes-of q l u t n at = all-Mem HasLanes p.queries (Schedule l u t n) la.lanes (item-Mem p.queries q (Schedule l u t n) at)

  pub enumerate-of : (x : Entry) (q w : ℕ) (e : Tree) → slice_get p.queries q ≡ Some (Enumerate w e) → value_at m s p x (Variable w) ≡ pos (enumerate_at m e x)
  enumerate-of x q w e at = variable-of x q (Enumerate w e) w at (inl refl) ∙ enumerate-value m s x p.queries q w e la.once at

  pub order-of : (x : Entry) (q w : ℕ) (t : Tree) → slice_get p.queries q ≡ Some (Reorder w t) → value_at m s p x (Variable w) ≡ pos (rank_of m s (axis_of t) (index_at (axis_of t) x))
  order-of x q w t at = variable-of x q (Reorder w t) w at (inl refl) ∙ order-value m s x p.queries q w t la.once at

  pub lane-of : (x : Entry) (q l u : ℕ) (t : Tree) (n : ℕ) → slice_get p.queries q ≡ Some (Schedule l u t n) → value_at m s p x (Variable l) ≡ pos (lane_at m s (axis_of t) n (index_at (axis_of t) x))
  lane-of x q l u t n at = variable-of x q (Schedule l u t n) l at (inl refl) ∙ lane-value m s x p.queries q l u t n la.once at

  pub slot-of : (x : Entry) (q l u : ℕ) (t : Tree) (n : ℕ) → slice_get p.queries q ≡ Some (Schedule l u t n) → value_at m s p x (Variable u) ≡ pos (slot_at m s (axis_of t) n (index_at (axis_of t) x))
  slot-of x q l u t n at = variable-of x q (Schedule l u t n) u at (inr (inl refl)) ∙ slot-value m s x p.queries q l u t n la.once at

  -- ---- the queries tell what they should

  pub tellers : (x y : Entry) → Mem x m → Mem y m → Tellers m s p x y
  tellers x y mx my = record {
    order = λ q w t at e.
        rank-tells m s (axis_of t) (index_at (axis_of t) x) (index_at (axis_of t) y) (index-below m s x mx (row-below x mx) (col-below x mx) (axis_of t)) (index-below m s y my (row-below y my) (col-below y my) (axis_of t))
        (pos-same _ _ (sym (order-of x q w t at) ∙ e ∙ order-of y q w t at));
    rows = λ q l u t n at e f.
        let a : lane_at m s (axis_of t) n (index_at (axis_of t) x) ≡ lane_at m s (axis_of t) n (index_at (axis_of t) y) = pos-same _ _ (sym (lane-of x q l u t n at) ∙ e ∙ lane-of y q l u t n at) in
        let b : slot_at m s (axis_of t) n (index_at (axis_of t) x) ≡ slot_at m s (axis_of t) n (index_at (axis_of t) y) = pos-same _ _ (sym (slot-of x q l u t n at) ∙ f ∙ slot-of y q l u t n at) in
        suc-same _ _ (sym (rows-back m s x mx (row-below x mx) (col-below x mx) (axis_of t) n (lanes-of q l u t n at))
        ∙ ap₂ (λ (a b : ℕ). rows_cell m s (axis_of t) n (a * schedule_extent m s (axis_of t) n + b)) a b
        ∙ rows-back m s y my (row-below y my) (col-below y my) (axis_of t) n (lanes-of q l u t n at));
    enumerate = λ q w e at f g.
        let plain : has_variable e ≡ false = argument-plain (Enumerate w e) (all-Mem (λ q. has_lawful_argument q ≡ true) p.queries (Enumerate w e) la.arguments (item-Mem p.queries q (Enumerate w e) at)) in
        let r = enumerate-tell m e x y mx my
        (sym (plain-value (pos x.i) (pos x.j) (variables_at m s p x) e plain) ∙ g ∙ plain-value (pos y.i) (pos y.j) (variables_at m s p y) e plain)
        (pos-same _ _ (sym (enumerate-of x q w e at) ∙ f ∙ enumerate-of y q w e at)) in
        apart m (row-major m im.sorted) x y mx my r.0 r.1;
  }
    where
      suc-same : (a b : ℕ) → suc a ≡ suc b → a ≡ b
      suc-same a b h = omega (arith, h)

  -- ---- ranges

  pub ranges-hereditary : (x : Entry) → Hereditary (InRanges m s p x)
  ranges-hereditary x = record {
    left_of_sum = λ a b h. lies_part a h (λ v u. or_left (uses a v) (uses b v) u);
    right_of_sum = λ a b h. lies_part b h (λ v u. or_right (uses a v) (uses b v) u);
    left_of_difference = λ a b h. lies_part a h (λ v u. or_left (uses a v) (uses b v) u);
    right_of_difference = λ a b h. lies_part b h (λ v u. or_right (uses a v) (uses b v) u);
    of_quotient = λ a k h. lies_part a h (λ v u. u);
    of_remainder = λ a k h. lies_part a h (λ v u. u);
  }

  pub plain-ranges : (x : Entry) → Mem x m → (e : Tree) → has_variable e ≡ false → InRanges m s p x e
  plain-ranges x mx e h = record {
    row = index-lies x.i s.rows (row-below x mx);
    col = index-lies x.j s.cols (col-below x mx);
    each = λ v u. absurd (false≢true (sym (uses-none e v h) ∙ u));
  }

  pub range-is : (v : ℕ) → v < p.names → range_at (variable_ranges s (extents_of m s p) p) v ≡ variable_range s (extents_of m s p) p.queries v
  range-is v h = get_or-map-range_with_len (variable_range s (extents_of m s p) p.queries) 0 p.names v v (record { lo = pos 0; hi = pos 0 }) h (omega arith)

  pub level-ranges : (x : Entry) → Mem x m → (e : Tree) → Mem e p.levels → InRanges m s p x e
  level-ranges x mx e me = record {
    row = index-lies x.i s.rows (row-below x mx);
    col = index-lies x.j s.cols (col-below x mx);
    each = λ v u.
        let d = all-Mem (UsesDefined p.queries) p.levels e la.levels me v u in
        let n : v < p.names = all-Mem (λ v. v < p.names) (defined p.queries) v la.named (among-Mem v (defined p.queries) d.0) in
        subst (λ (r : Range). LiesIn (get_or (variables_at m s p x) v (pos 0)) r) (sym (range-is v n))
        (subst (λ (z : ℤ). LiesIn z (variable_range s (extents_of m s p) p.queries v)) (sym (variable-value x v n))
        (variable-lies m s x mx (row-below x mx) (col-below x mx) p.queries v (λ q k. all-Mem HasLanes p.queries q la.lanes k) d.0 d.1));
  }

  pub sound : Sound m s p
  sound = record {
    within = expressions-have (IsWithin p.names) (within-hereditary p.names) p.levels p.queries (λ l k. all-Mem (IsWithin p.names) p.levels l la.levels_valid k)
        (λ q k. all-Mem (λ q. IsWithin p.names (argument q)) p.queries q la.arguments_valid k) tt tt;
    names = λ x. length-map-range_with_len (λ v. variable_at m s p.queries v x) 0 p.names;
    ranges = λ x mx. expressions-have (InRanges m s p x) (ranges-hereditary x) p.levels p.queries (level-ranges x mx)
        (λ q k. plain-ranges x mx (argument q) (argument-plain q (all-Mem (λ q. has_lawful_argument q ≡ true) p.queries q la.arguments k))) (plain-ranges x mx RowIndex refl) (plain-ranges x mx ColIndex refl);
    tellers = tellers;
    apart = apart m (row-major m im.sorted);
    row_known = la.row_known;
    col_known = la.col_known;
  }

  -- ---- tables

  abbrev pub tables : List (List ℤ)
  tables = map (λ q. written (table_buffer m s q)) p.queries

  pub nth-map : {A : Type 0} (f : A → List ℤ) (xs : List A) (k : ℕ) (a : A) → slice_get xs k ≡ Some a → nth (map f xs) k ≡ f a
  nth-map f [] k a h = absurd (cc)
  nth-map f (x ∷ xs) zero a h = ap f (cc)
  nth-map f (x ∷ xs) (suc k) a h = nth-map f xs k a h

  pub extent-at : (qs : List Query) (k : ℕ) (q : Query) → slice_get qs k ≡ Some q → get_or (map (extent_of m s) qs) k 0 ≡ extent_of m s q
  extent-at [] k q h = absurd (cc)
  extent-at (x ∷ xs) zero q h = ap (extent_of m s) (cc)
  extent-at (x ∷ xs) (suc k) q h = extent-at xs k q h

  pub found : (x : Entry) (mx : Mem x m) → IsFound m s p sound x mx (found_of m s p sound tables x)
  found x mx = record {
    coords = refl;
    extents = refl;
    order = λ q w t at.
        let b : rank_of m s (axis_of t) (index_at (axis_of t) x) < indices (axis_of t) s = rank-below m s (axis_of t) (index_at (axis_of t) x) (index-below m s x mx (row-below x mx) (col-below x mx) (axis_of t)) in
        ap₂ (λ (l : List ℤ) (z : ℤ). cell l (nat_of z)) (nth-map (λ q. written (table_buffer m s q)) p.queries q (Reorder w t) at) (order-of x q w t at)
        ∙ cell-written (table_buffer m s (Reorder w t)) (rank_of m s (axis_of t) (index_at (axis_of t) x)) b
        ∙ ap pos (order-is m s (axis_of t) (index_at (axis_of t) x) (index-below m s x mx (row-below x mx) (col-below x mx) (axis_of t)));
    rows = λ q l u t n at.
        let a : lane_at m s (axis_of t) n (index_at (axis_of t) x) < n = lane-below m s x mx (row-below x mx) (col-below x mx) (axis_of t) n (lanes-of q l u t n at) in
        let b : slot_at m s (axis_of t) n (index_at (axis_of t) x) < schedule_extent m s (axis_of t) n = slot-below m s x mx (row-below x mx) (col-below x mx) (axis_of t) n (lanes-of q l u t n at) in
        let c : lane_at m s (axis_of t) n (index_at (axis_of t) x) * schedule_extent m s (axis_of t) n + slot_at m s (axis_of t) n (index_at (axis_of t) x) < n * schedule_extent m s (axis_of t) n =
        omega (arith, b, mul-le-mul_right (schedule_extent m s (axis_of t) n) a) in
        at_place q (Schedule l u t n) (Variable l) (Variable u) _ _ _ (extent-at p.queries q (Schedule l u t n) at) (nth-map (λ q. written (table_buffer m s q)) p.queries q (Schedule l u t n) at)
        (lane-of x q l u t n at) (slot-of x q l u t n at)
        ∙ cell-written (table_buffer m s (Schedule l u t n)) _ c
        ∙ more (rows-back m s x mx (row-below x mx) (col-below x mx) (axis_of t) n (lanes-of q l u t n at));
  }
    where
      more : {a b : ℕ} → a ≡ suc b → pos a ≡ pos b +ℤ pos 1
      more {a} {b} h = omega (arith, ints, h)

      at_place : (q : ℕ) (r : Query) (l u : Tree) (a b e : ℕ) → get_or (extents_of m s p) q 0 ≡ e → nth tables q ≡ written (table_buffer m s r) → value_at m s p x l ≡ pos a → value_at m s p x u ≡ pos b
          → cell (nth tables q) (nat_of (value_at m s p x l) * get_or (extents_of m s p) q 0 + nat_of (value_at m s p x u)) ≡ cell (written (table_buffer m s r)) (a * e + b)
      at_place q r l u a b e he ht hl hu = rw (he, ht, hl, hu) refl

pub is-matrix : (s : Shape) (p : Part) (m : List Entry) (la : IsLawful p) (im : IsMatrixOf s m) → IsMatrix m s p (sound s p m la im) (tables s p m la im)
is-matrix s p m la im = record {
  sorted = row-major m im.sorted;
  rows = row-below s p m la im;
  cols = col-below s p m la im;
  nonzero = λ x mx. all-Mem (λ y. is_zero y.v ≡ false) m x im.nonzero mx;
  found = found s p m la im;
}

pub meaning-is-matrix : MeaningIsMatrix
meaning-is-matrix s p m la im = part-meaning m s p (sound s p m la im) (tables s p m la im) (is-matrix s p m la im)

pub positions-ascend : PositionsAscend
positions-ascend = record {
  apart = λ s p m la im x y cx cy e.
      all-tell m s p (sound s p m la im) x y (contains-Mem m x cx) (contains-Mem m y cy)
      (ap (map (coordinate m s p x)) (take-whole m s p (sound s p m la im) p.levels) ∙ e ∙ sym (ap (map (coordinate m s p y)) (take-whole m s p (sound s p m la im) p.levels)));
  ascending = λ s p m la im x y cx cy h.
      ascending (levels_of s (extents_of m s p) p) 1 (rows_of m s p) (row_of m s p x) (row_of m s p y) (top-placed m s p (sound s p m la im)) (top-slots m s p (sound s p m la im))
      (Mem-map (row_of m s p) x m (contains-Mem m x cx)) (Mem-map (row_of m s p) y m (contains-Mem m y cy)) (lower-next 0 0 (coordinates m s p x) (coordinates m s p y) refl h);
}
