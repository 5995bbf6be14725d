-- A variable is what the one query that defines it says.
use Rattle.std.specs.Prelude.{slice_get}
use Rattle.std.proofs.Common.{◌≡◌, ℕ, zero, suc, List, [], ◌∷◌, ◌++◌, Bool, true, false, not, ◌||◌, eqb, pos, sym, refl, ◌∙◌, subst, inl, inr, Some, eq-eqb, eqb-true}
use Rattle.std.proofs.lemmas.Bool.{and_parts, false≢true}
use Rattle.us_expr.specs.Tree.{Tree}
use Rattle.us_format.specs.Lists.{among, all_different}
use Rattle.us_format.specs.Matrix.{Entry, Shape, index_at}
use Rattle.us_format.specs.Declaration.{Query, SumOf, Enumerate, Reorder, Schedule, axis_of, defines, defined}
use Rattle.us_format.specs.Queries.{enumerate_at, rank_of, lane_at, slot_at, variable_at}
use Rattle.us_format.proofs.Order.{Mem}
use Rattle.us_format.proofs.Members.{Mem-left, Mem-right}
use Rattle.us_format.proofs.Collect.{Mem-among}

pub not-true : (b : Bool) → not b ≡ true → b ≡ false
not-true true h = absurd (false≢true h)
not-true false h = refl

pub eqb-false_sym : (a b : ℕ) → eqb a b ≡ false → eqb b a ≡ false
eqb-false_sym a b h = go (eqb b a) refl
  where
    go : (t : Bool) → eqb b a ≡ t → t ≡ false
    go true e = absurd (false≢true (sym h ∙ eq-eqb a b (sym (eqb-true b a e))))
    go false e = refl

pub or-false : (a b : Bool) → (a || b) ≡ false → (a ≡ false) × (b ≡ false)
or-false true b h = absurd (false≢true (sym h))
or-false false b h = (refl, h)

-- a list without repeats that falls into two parts: what is in the second is not in the first
pub different-parts : (xs ys : List ℕ) → all_different (xs ++ ys) ≡ true → (all_different ys ≡ true) × ((v : ℕ) → Mem v ys → among v xs ≡ false)
different-parts [] ys h = (h, λ v m. refl)
different-parts (x ∷ xs) ys h =
    let p = and_parts (not (among x (xs ++ ys))) (all_different (xs ++ ys)) h in
    let r = different-parts xs ys p.1 in
    (r.0, λ v m. go v m (eqb v x) refl (r.1 v m) (not-true (among x (xs ++ ys)) p.0))
  where
    go : (v : ℕ) → Mem v ys → (t : Bool) → eqb v x ≡ t → among v xs ≡ false → among x (xs ++ ys) ≡ false → among v (x ∷ xs) ≡ false
    go v m true e f g = absurd (false≢true (sym g ∙ Mem-among x (xs ++ ys) (subst (λ (z : ℕ). Mem z (xs ++ ys)) (eqb-true v x e) (Mem-right v xs ys m))))
    go v m false e f g = rw e f

pub item-defined : (qs : List Query) (q : ℕ) (r : Query) (v : ℕ) → slice_get qs q ≡ Some r → Mem v (defines r) → Mem v (defined qs)
item-defined [] q r v at h = absurd (cc)
item-defined (a ∷ qs) zero r v at h = let e : a ≡ r = cc in Mem-left v (defines a) (defined qs) (subst (λ (z : Query). Mem v (defines z)) (sym e) h)
item-defined (a ∷ qs) (suc q) r v at h = Mem-right v (defines a) (defined qs) (item-defined qs q r v at h)

-- lane and slot of a schedule are two variables
pub lane-slot : (qs : List Query) (q l u : ℕ) (t : Tree) (n : ℕ) → all_different (defined qs) ≡ true → slice_get qs q ≡ Some (Schedule l u t n) → eqb l u ≡ false
lane-slot [] q l u t n d at = absurd (cc)
lane-slot (a ∷ qs) zero l u t n d at =
    let e : a ≡ Schedule l u t n = cc in
    let d' : all_different (l ∷ u ∷ defined qs) ≡ true = subst (λ (z : Query). all_different (defines z ++ defined qs) ≡ true) e d in
    (or-false (eqb l u) (among l (defined qs)) (not-true (among l (u ∷ defined qs)) (and_parts (not (among l (u ∷ defined qs))) (all_different (u ∷ defined qs)) d').0)).0
lane-slot (a ∷ qs) (suc q) l u t n d at = lane-slot qs q l u t n (different-parts (defines a) (defined qs) d).0 at

module _ (m : List Entry) (s : Shape) (x : Entry) where
  -- a query that doesn't define a variable is passed over
  pub variable-skips : (q : Query) (qs : List Query) (v : ℕ) → among v (defines q) ≡ false → variable_at m s (q ∷ qs) v x ≡ variable_at m s qs v x
  variable-skips (SumOf w e) qs v h = rw (eqb-false_sym v w (or-false (eqb v w) false h).0) refl
  variable-skips (Enumerate w e) qs v h = rw (eqb-false_sym v w (or-false (eqb v w) false h).0) refl
  variable-skips (Reorder w e) qs v h = rw (eqb-false_sym v w (or-false (eqb v w) false h).0) refl
  variable-skips (Schedule l u t n) qs v h =
      let a = or-false (eqb v l) (eqb v u || false) h in
      rw (eqb-false_sym v l a.0, eqb-false_sym v u (or-false (eqb v u) false a.1).0) refl

  -- what follows the query that defines a variable doesn't matter
  pub variable-first : (q : Query) (qs : List Query) (v : ℕ) → Mem v (defines q) → variable_at m s (q ∷ qs) v x ≡ variable_at m s (q ∷ []) v x
  variable-first (SumOf w e) qs v (inl h) = rw (eq-eqb w v h) refl
  variable-first (SumOf w e) qs v (inr h) = absurd h
  variable-first (Enumerate w e) qs v (inl h) = rw (eq-eqb w v h) refl
  variable-first (Enumerate w e) qs v (inr h) = absurd h
  variable-first (Reorder w e) qs v (inl h) = rw (eq-eqb w v h) refl
  variable-first (Reorder w e) qs v (inr h) = absurd h
  variable-first (Schedule l u t n) qs v (inl h) = rw (eq-eqb l v h) refl
  variable-first (Schedule l u t n) qs v (inr (inl h)) = rw (eq-eqb u v h) refl
  variable-first (Schedule l u t n) qs v (inr (inr h)) = absurd h

  pub variable-is : (qs : List Query) (q : ℕ) (r : Query) (v : ℕ) → all_different (defined qs) ≡ true → slice_get qs q ≡ Some r → Mem v (defines r) → variable_at m s qs v x ≡ variable_at m s (r ∷ []) v x
  variable-is [] q r v d at h = absurd (cc)
  variable-is (a ∷ qs) zero r v d at h =
      let e : a ≡ r = cc in
      subst (λ (z : Query). variable_at m s (z ∷ qs) v x ≡ variable_at m s (r ∷ []) v x) (sym e) (variable-first r qs v h)
  variable-is (a ∷ qs) (suc q) r v d at h =
      let p = different-parts (defines a) (defined qs) d in
      variable-skips a qs v (p.1 v (item-defined qs q r v at h)) ∙ variable-is qs q r v p.0 at h

  pub enumerate-value : (qs : List Query) (q w : ℕ) (e : Tree) → all_different (defined qs) ≡ true → slice_get qs q ≡ Some (Enumerate w e) → variable_at m s qs w x ≡ pos (enumerate_at m e x)
  enumerate-value qs q w e d at = variable-is qs q (Enumerate w e) w d at (inl refl) ∙ rw (eq-eqb w w refl) refl

  pub order-value : (qs : List Query) (q w : ℕ) (t : Tree) → all_different (defined qs) ≡ true → slice_get qs q ≡ Some (Reorder w t) → variable_at m s qs w x ≡ pos (rank_of m s (axis_of t) (index_at (axis_of t) x))
  order-value qs q w t d at = variable-is qs q (Reorder w t) w d at (inl refl) ∙ rw (eq-eqb w w refl) refl

  pub lane-value : (qs : List Query) (q l u : ℕ) (t : Tree) (n : ℕ) → all_different (defined qs) ≡ true → slice_get qs q ≡ Some (Schedule l u t n)
      → variable_at m s qs l x ≡ pos (lane_at m s (axis_of t) n (index_at (axis_of t) x))
  lane-value qs q l u t n d at = variable-is qs q (Schedule l u t n) l d at (inl refl) ∙ rw (eq-eqb l l refl) refl

  pub slot-value : (qs : List Query) (q l u : ℕ) (t : Tree) (n : ℕ) → all_different (defined qs) ≡ true → slice_get qs q ≡ Some (Schedule l u t n)
      → variable_at m s qs u x ≡ pos (slot_at m s (axis_of t) n (index_at (axis_of t) x))
  slot-value qs q l u t n d at = variable-is qs q (Schedule l u t n) u d at (inr (inl refl)) ∙ rw (lane-slot qs q l u t n d at, eq-eqb u u refl) refl
