-- The conditions of a declaration share out the entries of a matrix: each entry goes to one part.
use Rattle.std.specs.Prelude.{slice_get}
use Rattle.std.proofs.Common.{◌≡◌, ℕ, zero, suc, ◌+◌, ◌<◌, List, [], ◌∷◌, map, length, Bool, true, false, not, refl, ap, subst, inl, inr, arith, Some, filter, one-add}
use Rattle.std.specs.List.{position_or_len}
use Rattle.std.proofs.lemmas.List.Elements.{filter_passes, All-filter}
use Rattle.std.proofs.lemmas.List.Kept.{AllPairs-filter}
use Rattle.us_expr.specs.declared.queries.Cond.{Cond}
use Rattle.us_format.specs.Matrix.{Entry, Shape, IsMatrixOf, earlier, is_zero}
use Rattle.us_format.specs.Declaration.{Part}
use Rattle.us_format.specs.Buffers.{shares}
use Rattle.us_format.proofs.Order.{Mem, Mem-filter}
use Rattle.us_format.proofs.Members.{all-Mem}
use Rattle.us_format.proofs.Collect.{Mem-of_filter'}
use Rattle.us_format.proofs.Lookup.{not-true}

-- a matrix without some of its entries is a matrix of the shape
pub matrix-filter : (s : Shape) (f : Entry → Bool) (m : List Entry) → IsMatrixOf s m → IsMatrixOf s (filter f m)
matrix-filter s f m im = record {
  sorted = AllPairs-filter (λ a b. earlier a b ≡ true) f m im.sorted;
  rows = All-filter f (λ x. x.i < s.rows) m im.rows;
  cols = All-filter f (λ x. x.j < s.cols) m im.cols;
  nonzero = All-filter f (λ x. is_zero x.v ≡ false) m im.nonzero;
}

pub passes : (f : Entry → Bool) (m : List Entry) (x : Entry) → Mem x (filter f m) → f x ≡ true
passes f m x h = all-Mem (λ x. f x ≡ true) (filter f m) x (filter_passes f m) h

module _ (test : Cond → Entry → Bool) where
  -- the number of the first condition that holds at an entry
  abbrev pub share_of : List Cond → Entry → ℕ
  share_of cs x = position_or_len (λ c. test c x) cs

  pub shares-parts : (cs : List Cond) (ps : List Part) (m : List Entry) → length ps ≡ length cs + 1 → map (λ y. y.0) (shares test cs ps m) ≡ ps
  shares-parts [] [] m h = refl
  shares-parts (c ∷ cs) [] m h = refl
  shares-parts [] (p ∷ []) m h = refl
  shares-parts [] (p ∷ q ∷ ps) m h = absurd (omega (arith, h))
  shares-parts (c ∷ cs) (p ∷ ps) m h = ap (λ l. p ∷ l) (shares-parts cs ps (filter (λ x. not (test c x)) m) (omega (arith, h)))

  -- each part's entries are a matrix of the shape
  pub shares-matrix : (s : Shape) (cs : List Cond) (ps : List Part) (m : List Entry) → IsMatrixOf s m → (y : Part × List Entry) → Mem y (shares test cs ps m) → IsMatrixOf s y.1
  shares-matrix s [] [] m im y h = absurd h
  shares-matrix s (c ∷ cs) [] m im y h = absurd h
  shares-matrix s [] (p ∷ ps) m im y (inl e) = subst (λ (z : Part × List Entry). IsMatrixOf s z.1) e im
  shares-matrix s [] (p ∷ ps) m im y (inr h) = absurd h
  shares-matrix s (c ∷ cs) (p ∷ ps) m im y (inl e) = subst (λ (z : Part × List Entry). IsMatrixOf s z.1) e (matrix-filter s (test c) m im)
  shares-matrix s (c ∷ cs) (p ∷ ps) m im y (inr h) = shares-matrix s cs ps (filter (λ x. not (test c x)) m) (matrix-filter s (λ x. not (test c x)) m im) y h

  -- an entry of a part is an entry of the matrix, and the part's number is its share
  pub shares-from : (cs : List Cond) (ps : List Part) (m : List Entry) (k : ℕ) (y : Part × List Entry) (x : Entry) → slice_get (shares test cs ps m) k ≡ Some y → Mem x y.1
      → Mem x m × (share_of cs x ≡ k)
  shares-from [] [] m k y x at h = absurd (cc)
  shares-from (c ∷ cs) [] m k y x at h = absurd (cc)
  shares-from [] (p ∷ ps) m zero y x at h = let e : y ≡ (p, m) = cc in (subst (λ (z : Part × List Entry). Mem x z.1) e h, refl)
  shares-from [] (p ∷ ps) m (suc k) y x at h = absurd (cc)
  shares-from (c ∷ cs) (p ∷ ps) m zero y x at h =
      let e : y ≡ (p, filter (test c) m) = cc in
      let f : Mem x (filter (test c) m) = subst (λ (z : Part × List Entry). Mem x z.1) e h in
      (Mem-of_filter' (test c) x m f, rw (passes (test c) m x f) refl)
  shares-from (c ∷ cs) (p ∷ ps) m (suc k) y x at h =
      let r = shares-from cs ps (filter (λ x. not (test c x)) m) k y x at h in
      let f : test c x ≡ false = not-true (test c x) (passes (λ x. not (test c x)) m x r.0) in
      (Mem-of_filter' (λ x. not (test c x)) x m r.0, rw (f, one-add) (ap suc r.1))

  -- each entry stands in the part of its share
  pub shares-there : (cs : List Cond) (ps : List Part) (m : List Entry) (x : Entry) → length ps ≡ length cs + 1 → Mem x m
      → (y : Part × List Entry) × (slice_get (shares test cs ps m) (share_of cs x) ≡ Some y) × Mem x y.1
  shares-there cs [] m x h mx = absurd (omega (arith, h))
  shares-there [] (p ∷ ps) m x h mx = ((p, m), refl, mx)
  shares-there (c ∷ cs) (p ∷ ps) m x h mx = go (test c x) refl (λ k. shares-there cs ps (filter (λ x. not (test c x)) m) x (omega (arith, h)) k)
    where
      Found : ℕ → Type 0
      Found k = (y : Part × List Entry) × (slice_get (shares test (c ∷ cs) (p ∷ ps) m) k ≡ Some y) × Mem x y.1

      go : (b : Bool) → test c x ≡ b
          → (Mem x (filter (λ x. not (test c x)) m) → (y : Part × List Entry) × (slice_get (shares test cs ps (filter (λ x. not (test c x)) m)) (share_of cs x) ≡ Some y) × Mem x y.1)
          → Found (share_of (c ∷ cs) x)
      go true e ih = rw e ((p, filter (test c) m), refl, Mem-filter (test c) x m mx e)
      go false e ih = let r = ih (Mem-filter (λ x. not (test c x)) x m mx (ap not e)) in rw (e, one-add) (r.0, r.1, r.2)
