-- The range of a variable is what the query that defines it says.
use Rattle.std.specs.Prelude.{slice_get, slice_index_or}
use Rattle.std.proofs.Common.{◌≡◌, ℕ, zero, suc, List, [], ◌∷◌, map, true, false, eqb, sym, refl, ap, ◌∙◌, subst, inl, inr, Some, eq-eqb}
use Rattle.us_expr.specs.declared.ranges.Range.{Range}
use Rattle.us_expr.specs.Range.{index_range}
use Rattle.us_expr.specs.Tree.{Tree}
use Rattle.us_format.specs.Coordinates.{variable_range}
use Rattle.us_format.specs.Declaration.{Query, SumOf, Enumerate, Reorder, Schedule, axis_of, defines, defined}
use Rattle.us_format.specs.Lists.{all_different, among}
use Rattle.us_format.specs.Matrix.{Entry, Shape, indices}
use Rattle.us_format.specs.Queries.{extent_of, schedule_extent}
use Rattle.us_format.proofs.Lookup.{different-parts, eqb-false_sym, item-defined, lane-slot, or-false}

-- what a function gives for the item at a place
pub get_map : {A B : Type 0} (f : A → B) (xs : List A) (k : ℕ) (x : A) (d : B) → slice_get xs k ≡ Some x → slice_index_or (map f xs) k d ≡ f x
get_map f [] k x d h = absurd cc
get_map f (y ∷ ys) zero x d h = let e : y ≡ x = cc in ap f e
get_map f (y ∷ ys) (suc k) x d h = get_map f ys k x d h

module _ (m : List Entry) (s : Shape) where
  abbrev range_in : List Query → ℕ → Range
  range_in qs v = variable_range s (map (extent_of m s) qs) qs v

  skips : (q : Query) (qs : List Query) (v : ℕ) → among v (defines q) ≡ false → range_in (q ∷ qs) v ≡ range_in qs v
  skips (SumOf w e) qs v h = refl
  skips (Enumerate w e) qs v h = rw (eqb-false_sym v w (or-false (eqb v w) false h).0) refl
  skips (Reorder w e) qs v h = rw (eqb-false_sym v w (or-false (eqb v w) false h).0) refl
  skips (Schedule l u e n) qs v h =
      let a = or-false (eqb v l) (among v (u ∷ [])) h in
      let b = or-false (eqb v u) false a.1 in
      rw (eqb-false_sym v l a.0, eqb-false_sym v u b.0) refl

  pub order_range : (qs : List Query) (q w : ℕ) (t : Tree) → all_different (defined qs) ≡ true → slice_get qs q ≡ Some (Reorder w t) → range_in qs w ≡ index_range (indices (axis_of t) s)
  order_range [] q w t d at = absurd cc
  order_range (y ∷ qs) zero w t d at = let e : y ≡ Reorder w t = cc in subst (λ (z : Query). range_in (z ∷ qs) w ≡ index_range (indices (axis_of t) s)) (sym e) (rw (eq-eqb w w refl) refl)
  order_range (y ∷ qs) (suc q) w t d at =
      let r = different-parts (defines y) (defined qs) d in
      skips y qs w (r.1 w (item-defined qs q (Reorder w t) w at (inl refl))) ∙ order_range qs q w t r.0 at

  pub lane_range : (qs : List Query) (q l u : ℕ) (t : Tree) (n : ℕ) → all_different (defined qs) ≡ true → slice_get qs q ≡ Some (Schedule l u t n) → range_in qs l ≡ index_range n
  lane_range [] q l u t n d at = absurd cc
  lane_range (y ∷ qs) zero l u t n d at = let e : y ≡ Schedule l u t n = cc in subst (λ (z : Query). range_in (z ∷ qs) l ≡ index_range n) (sym e) (rw (eq-eqb l l refl) refl)
  lane_range (y ∷ qs) (suc q) l u t n d at =
      let r = different-parts (defines y) (defined qs) d in
      skips y qs l (r.1 l (item-defined qs q (Schedule l u t n) l at (inl refl))) ∙ lane_range qs q l u t n r.0 at

  pub slot_range : (qs : List Query) (q l u : ℕ) (t : Tree) (n : ℕ) → all_different (defined qs) ≡ true → slice_get qs q ≡ Some (Schedule l u t n) → range_in qs u ≡ index_range (schedule_extent m s (axis_of t) n)
  slot_range [] q l u t n d at = absurd cc
  slot_range (y ∷ qs) zero l u t n d at =
      let e : y ≡ Schedule l u t n = cc in
      let apart : eqb l u ≡ false = lane-slot (y ∷ qs) 0 l u t n d at in
      subst (λ (z : Query). range_in (z ∷ qs) u ≡ index_range (schedule_extent m s (axis_of t) n)) (sym e) (rw (apart, eq-eqb u u refl) refl)
  slot_range (y ∷ qs) (suc q) l u t n d at =
      let r = different-parts (defines y) (defined qs) d in
      skips y qs u (r.1 u (item-defined qs q (Schedule l u t n) u at (inr (inl refl)))) ∙ slot_range qs q l u t n r.0 at
