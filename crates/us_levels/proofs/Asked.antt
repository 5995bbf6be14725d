-- What buffers that fit say of a part's queries, and what they hold where they agree with those of a matrix.
use Rattle.std.specs.List.{list_any, sum_by}
use Rattle.std.specs.Prelude.{◌||◌, is_none, nat_le, nat_lt}
use Rattle.std.proofs.Common.{◌≡◌, ℕ, suc, ◌+◌, ◌*◌, ◌≤◌, ℤ, List, [], ◌∷◌, ◌++◌, map, length, drop, Bool, true, false, cond, not, eqb, min, pos, refl, ap, ap₂, ◌∙◌, inl, inr, arith, All, Option, Some, None, eqb-true}
use Rattle.std.proofs.lemmas.Bool.{and_parts, le-ltb}
use Rattle.std.proofs.lemmas.Bool.Decides.{nat_tests}
use Rattle.std.proofs.lemmas.List.{get_or-drop}
use Rattle.us_format.specs.Buffers.{table_buffer}
use Rattle.us_format.specs.Declaration.{Declaration, Enumerate, Query, Reorder, Schedule, SumOf, axis_of}
use Rattle.us_format.specs.Lists.{cell, first_of, nat_of, nth, or_else, when}
use Rattle.us_format.specs.Matrix.{Entry, Shape, indices}
use Rattle.us_format.specs.Packs.{written}
use Rattle.us_format.specs.Queries.{extent_of, schedule_extent}
use Rattle.us_format.specs.Reading.{Test, all_tests, extents_in, fits, limit, table_tests, total_count}
use Rattle.us_format.proofs.Climb.{length-written}
use Rattle.us_format.proofs.Fits.{AllPass}
use Rattle.us_format.proofs.Members.{Mem-all}
use Rattle.us_format.proofs.Order.{Mem, Mem-of_map}
use Rattle.us_parts.specs.Cells.{extent_lists, has_long_axis}
use Rattle.us_levels.specs.Lists.{lists_difference}
use Rattle.us_levels.proofs.Numbers.{nth-few}
use Rattle.us_levels.proofs.Unlike.{differences-first, differences-rest}

-- ---- tests

pass-one : (b : Bool) (k : ℕ) (rest : Option ℕ) → or_else (when (not b) k) rest ≡ None → (b ≡ true) × (rest ≡ None)
pass-one true k rest e = (refl, e)
pass-one false k rest e = absurd cc

-- where no test fails, all pass
pub none-fail : (ts : List Test) → first_of (λ t. when (not t.1) t.0) ts ≡ None → AllPass ts
none-fail [] e = tt
none-fail (t ∷ ts) e = let r = pass-one t.1 t.0 (first_of (λ t. when (not t.1) t.0) ts) e in (r.0, none-fail ts r.1)

pub pass-split : (ts us : List Test) → AllPass (ts ++ us) → AllPass ts × AllPass us
pass-split [] us h = (tt, h)
pass-split (t ∷ ts) us h = let r = pass-split ts us h.1 in ((h.0, r.0), r.1)

pub pass-here : (k : ℕ) (ts : List Test) → AllPass (map (λ t. (k + t.0, t.1)) ts) → AllPass ts
pass-here k [] h = tt
pass-here k (t ∷ ts) h = (h.0, pass-here k ts h.1)

none-there : (b : Bool) (o : Option ℕ) (n : ℕ) → is_none (cond b o (Some n)) ≡ true → o ≡ None
none-there true None n e = refl
none-there true (Some x) n e = absurd cc
none-there false o n e = absurd cc

-- where buffers fit, no test fails
pub fitting-tests : (s : Shape) (d : Declaration) (bufs : List (List ℤ)) → fits s d bufs ≡ true → first_of (λ t. when (not t.1) t.0) (all_tests s 0 d.parts bufs) ≡ None
fitting-tests s d bufs e = none-there (eqb (length bufs) (total_count d)) (first_of (λ t. when (not t.1) t.0) (all_tests s 0 d.parts bufs)) (min (length bufs) (total_count d)) e

at-most : (a b : ℕ) → nat_le a b ≡ true → a ≤ b
at-most a b e = grind (arith, nat_tests)

-- ---- tables that fit

module _ (s : Shape) (bufs : List (List ℤ)) (small : sum_by length bufs ≤ limit) where
  not-long : (n k : ℕ) → n ≤ length (nth bufs k) → nat_lt limit n ≡ false
  not-long n k h = le-ltb limit n (omega (arith, h, nth-few bufs k, small))

  -- no axis is long
  pub none-long : (k : ℕ) (qs : List Query) (ns : List ℕ) → length ns ≡ length qs → AllPass (table_tests s k bufs qs ns) → list_any (has_long_axis s) qs ≡ false
  none-long k [] ns e h = refl
  none-long k (q ∷ qs) [] e h = absurd (omega (arith, e))
  none-long k (SumOf v a ∷ qs) (n ∷ ns) e h = none-long k qs ns (omega (arith, e)) h
  none-long k (Enumerate v a ∷ qs) (n ∷ ns) e h = none-long k qs ns (omega (arith, e)) h
  none-long k (Reorder v t ∷ qs) (n ∷ ns) e h =
      ap (λ (b : Bool). b || list_any (has_long_axis s) qs)
      (not-long (indices (axis_of t) s) k (omega (arith, eqb-true (length (nth bufs k)) (indices (axis_of t) s) h.0)))
      ∙ none-long (suc k) qs ns (omega (arith, e)) h.1
  none-long k (Schedule l u t lanes ∷ qs) (n ∷ ns) e h =
      ap (λ (b : Bool). b || list_any (has_long_axis s) qs)
      (not-long (indices (axis_of t) s) k (at-most (indices (axis_of t) s) (length (nth bufs k)) (and_parts _ (nat_le (indices (axis_of t) s) (length (nth bufs k))) h.0).1))
      ∙ none-long (suc k) qs ns (omega (arith, e)) h.1

  -- with the extents of a matrix, its tables are as long as those of the buffers
  table-few : (m : List Entry) (k : ℕ) (qs : List Query) → AllPass (table_tests s k bufs qs (map (extent_of m s) qs)) → (q : Query) → Mem q qs → (table_buffer m s q).len ≤ limit
  table-few m k [] h q at = absurd at
  table-few m k (SumOf v a ∷ qs) h q (inl e) = omega (arith, ap (λ (z : Query). (table_buffer m s z).len) e)
  table-few m k (SumOf v a ∷ qs) h q (inr at) = table-few m k qs h q at
  table-few m k (Enumerate v a ∷ qs) h q (inl e) = omega (arith, ap (λ (z : Query). (table_buffer m s z).len) e)
  table-few m k (Enumerate v a ∷ qs) h q (inr at) = table-few m k qs h q at
  table-few m k (Reorder v t ∷ qs) h q (inl e) =
      omega (arith, ap (λ (z : Query). (table_buffer m s z).len) e, eqb-true (length (nth bufs k)) (indices (axis_of t) s) h.0, nth-few bufs k, small)
  table-few m k (Reorder v t ∷ qs) h q (inr at) = table-few m (suc k) qs h.1 q at
  table-few m k (Schedule l u t lanes ∷ qs) h q (inl e) =
      let long : length (nth bufs k) ≡ lanes * schedule_extent m s (axis_of t) lanes =
      eqb-true (length (nth bufs k)) (lanes * schedule_extent m s (axis_of t) lanes) (and_parts _ (nat_le (indices (axis_of t) s) (length (nth bufs k))) h.0).0 in
      omega (arith, ap (λ (z : Query). (table_buffer m s z).len) e, long, nth-few bufs k, small)
  table-few m k (Schedule l u t lanes ∷ qs) h q (inr at) = table-few m (suc k) qs h.1 q at

  pub tables-few : (m : List Entry) (k : ℕ) (qs : List Query) → AllPass (table_tests s k bufs qs (map (extent_of m s) qs)) → All (λ cells. length cells ≤ limit) (map (λ q. written (table_buffer m s q)) qs)
  tables-few m k qs h = Mem-all (λ (cells : List ℤ). length cells ≤ limit) (map (λ q. written (table_buffer m s q)) qs) (λ cells at.
      let q = Mem-of_map (λ q. written (table_buffer m s q)) cells qs at in
      omega (arith, ap length q.2, length-written (table_buffer m s q.0), table-few m k qs h q.0 q.1))

-- ---- extents

pub extents-long : (k : ℕ) (bufs : List (List ℤ)) (qs : List Query) → length (extents_in k bufs qs) ≡ length qs
extents-long k bufs [] = refl
extents-long k bufs (SumOf v a ∷ qs) = ap suc (extents-long k bufs qs)
extents-long k bufs (Enumerate v a ∷ qs) = ap suc (extents-long (suc k) bufs qs)
extents-long k bufs (Reorder v t ∷ qs) = ap suc (extents-long k bufs qs)
extents-long k bufs (Schedule l u t n ∷ qs) = ap suc (extents-long (suc k) bufs qs)

-- buffers that don't differ from the extents of a matrix have them
module _ (m : List Entry) (s : Shape) (first : ℕ) (bufs : List (List ℤ)) where
  extent-here : (k n : ℕ) (rest : List (List ℤ)) → lists_difference (first + k) ((pos n ∷ []) ∷ rest) bufs ≡ None → nat_of (cell (nth (drop first bufs) k) 0) ≡ n
  extent-here k n rest h = ap (λ (cells : List ℤ). nat_of (cell cells 0)) (get_or-drop first bufs k [] ∙ differences-first (first + k) (pos n ∷ []) rest bufs h)

  behind : (k n : ℕ) (rest : List (List ℤ)) → lists_difference (first + k) ((pos n ∷ []) ∷ rest) bufs ≡ None → lists_difference (first + suc k) rest bufs ≡ None
  behind k n rest h = ap (λ (j : ℕ). lists_difference j rest bufs) (omega arith) ∙ differences-rest (first + k) (pos n ∷ []) rest bufs h

  extents-from : (k : ℕ) (qs : List Query) → lists_difference (first + k) (extent_lists qs (map (extent_of m s) qs)) bufs ≡ None → extents_in k (drop first bufs) qs ≡ map (extent_of m s) qs
  extents-from k [] h = refl
  extents-from k (SumOf v a ∷ qs) h = ap (λ (ns : List ℕ). 0 ∷ ns) (extents-from k qs h)
  extents-from k (Reorder v t ∷ qs) h = ap (λ (ns : List ℕ). 0 ∷ ns) (extents-from k qs h)
  extents-from k (Enumerate v a ∷ qs) h =
      let n : ℕ = extent_of m s (Enumerate v a) in
      let rest : List (List ℤ) = extent_lists qs (map (extent_of m s) qs) in
      ap₂ (λ (x : ℕ) (ns : List ℕ). x ∷ ns) (extent-here k n rest h) (extents-from (suc k) qs (behind k n rest h))
  extents-from k (Schedule l u t lanes ∷ qs) h =
      let n : ℕ = extent_of m s (Schedule l u t lanes) in
      let rest : List (List ℤ) = extent_lists qs (map (extent_of m s) qs) in
      ap₂ (λ (x : ℕ) (ns : List ℕ). x ∷ ns) (extent-here k n rest h) (extents-from (suc k) qs (behind k n rest h))

  pub extents-same : (qs : List Query) → lists_difference first (extent_lists qs (map (extent_of m s) qs)) bufs ≡ None → extents_in 0 (drop first bufs) qs ≡ map (extent_of m s) qs
  extents-same qs h = extents-from 0 qs (ap (λ (j : ℕ). lists_difference j (extent_lists qs (map (extent_of m s) qs)) bufs) (omega arith) ∙ h)
