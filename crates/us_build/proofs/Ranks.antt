-- The positions of rows in ascending order, one after the other.
use Rattle.std.proofs.Common.{◌≡◌, ℕ, zero, suc, ◌+◌, ◌<◌, ◌≤◌, ◌⊎◌, List, [], ◌∷◌, map, length, get_or, true, false, sym, refl, ap, ◌∙◌, subst, inl, inr, arith, count_by, le-ltb}
use Rattle.std.proofs.lemmas.Bool.{false≢true, cases_lt, cases_eq, ne_eqb, or_from, and_right}
use Rattle.us_format.specs.Lists.{head, lower, rank, same}
use Rattle.us_format.specs.Positions.{Row, node_of, nodes}
use Rattle.us_format.specs.declared.Kind.TheVariants.{Compressed, Listed}
use Rattle.us_format.proofs.Order.{Mem, Mem-map, Mem-of_map, lower-cases, lower-irrefl}
use Rattle.us_format.proofs.Counting.{count-cons}
use Rattle.us_format.proofs.Ascending.{lower-cons}
use Rattle.us_format.proofs.Shuffled.{Mem-of_different}
use Rattle.us_build.specs.Items.{key, IsAscending}
use Rattle.us_build.proofs.Counts.{bit, Mem-at, Mem-place, count-none, not_lower, once, rank-last, rank-next}

pub lower-heads : (xs ys : List ℕ) → lower xs ys ≡ true → head xs ≤ head ys
lower-heads [] ys h = omega arith
lower-heads (x ∷ xs) [] h = absurd (false≢true h)
lower-heads (x ∷ xs) (y ∷ ys) h = go (lower-cons x y xs ys h)
  where
    go : (x < y) ⊎ ((x ≡ y) × (lower xs ys ≡ true)) → x ≤ y
    go (inl l) = omega arith
    go (inr e) = omega (arith, e.0)

-- the row with the lower key has no higher node
pub lower-pair : (a b c d : ℕ) → (a < b) ⊎ ((a ≡ b) × (c ≤ d)) → lower (b ∷ d ∷ []) (a ∷ c ∷ []) ≡ false
lower-pair a b c d (inl l) = or_from _ _ (le-ltb b a (omega arith)) (rw (ne_eqb b a (λ e. omega arith)) refl)
lower-pair a b c d (inr e) =
    or_from _ _ (le-ltb b a (omega (arith, e.0))) (and_right _ _ (or_from _ _ (le-ltb d c (omega (arith, e.1))) (and_right _ _ refl)))

pub node-order : (r s : Row) → lower (key r) (key s) ≡ true → lower (node_of Compressed s) (node_of Compressed r) ≡ false
node-order r s h = lower-pair r.at s.at (head r.rest) (head s.rest) (go (lower-cons r.at s.at r.rest s.rest h))
  where
    go : (r.at < s.at) ⊎ ((r.at ≡ s.at) × (lower r.rest s.rest ≡ true)) → (r.at < s.at) ⊎ ((r.at ≡ s.at) × (head r.rest ≤ head s.rest))
    go (inl l) = inl l
    go (inr e) = inr (e.0, lower-heads r.rest s.rest e.1)

module _ (rows : List Row) (up : IsAscending rows) (d : Row) where
  abbrev pub node_at : ℕ → List ℕ
  node_at i = node_of Compressed (get_or rows i d)

  pub node-rises : (i j : ℕ) → j ≤ i → i < length rows → lower (node_at i) (node_at j) ≡ false
  node-rises i j l h = go (cases_eq i j)
    where
      go : (i ≡ j) ⊎ (i ≡ j → ⊥) → lower (node_at i) (node_at j) ≡ false
      go (inl e) = subst (λ (k : ℕ). lower (node_at i) (node_at k) ≡ false) e (lower-irrefl (node_at i))
      go (inr ne) = node-order (get_or rows j d) (get_or rows i d) (up j i d (omega arith) h)

  pub node-found : (m : List ℕ) → Mem m (nodes Compressed rows) → (j : ℕ) × (j < length rows) × (node_at j ≡ m)
  node-found m h =
      let a = Mem-of_map (node_of Compressed) m rows (Mem-of_different m (map (node_of Compressed) rows) h) in
      let b = Mem-place a.0 rows d a.1 in
      (b.0, b.1, ap (node_of Compressed) b.2 ∙ a.2)

  pub node-once : (i : ℕ) → i < length rows → count_by (same (node_at i)) (nodes Compressed rows) ≡ 1
  node-once i h = once (node_at i) (map (node_of Compressed) rows) (Mem-map (node_of Compressed) (get_or rows i d) rows (Mem-at rows i d h))

  pub number-first : 0 < length rows → rank (nodes Compressed rows) (node_at 0) ≡ 0
  number-first h =
      count-none (λ m. lower m (node_at 0)) (nodes Compressed rows)
      (λ m mem. let f = node-found m mem in subst (λ (z : List ℕ). lower z (node_at 0) ≡ false) f.2 (node-rises f.0 0 (omega arith) f.1))

  pub number-next : (i : ℕ) → i + 1 < length rows → (node_at i ≡ node_at (i + 1) → ⊥) → rank (nodes Compressed rows) (node_at (i + 1)) ≡ rank (nodes Compressed rows) (node_at i) + 1
  number-next i h new = rank-next (nodes Compressed rows) (node_at i) (node_at (i + 1)) (node-once i (omega arith)) (rises (lower-cases (node_at i) (node_at (i + 1)))) between
    where
      rises : (lower (node_at i) (node_at (i + 1)) ≡ true) ⊎ ((node_at i ≡ node_at (i + 1)) ⊎ (lower (node_at (i + 1)) (node_at i) ≡ true)) → lower (node_at i) (node_at (i + 1)) ≡ true
      rises (inl l) = l
      rises (inr (inl e)) = absurd (new e)
      rises (inr (inr l)) = absurd (false≢true (sym (node-rises (i + 1) i (omega arith) h) ∙ l))

      at : (j : ℕ) → j < length rows → (i < j) ⊎ (j ≤ i) → (lower (node_at i) (node_at j) ≡ false) ⊎ (lower (node_at j) (node_at (i + 1)) ≡ false)
      at j l (inl a) = inr (node-rises j (i + 1) (omega arith) l)
      at j l (inr b) = inl (node-rises i j b (omega arith))

      between : (m : List ℕ) → Mem m (nodes Compressed rows) → (lower (node_at i) m ≡ false) ⊎ (lower m (node_at (i + 1)) ≡ false)
      between m mem =
          let f = node-found m mem in
          subst (λ (z : List ℕ). (lower (node_at i) z ≡ false) ⊎ (lower z (node_at (i + 1)) ≡ false)) f.2 (at f.0 f.1 (cases_lt i f.0))

  pub number-last : (i : ℕ) → i + 1 ≡ length rows → length (nodes Compressed rows) ≡ rank (nodes Compressed rows) (node_at i) + 1
  number-last i h =
      rank-last (nodes Compressed rows) (node_at i) (node-once i (omega arith))
      (λ m mem. let f = node-found m mem in subst (λ (z : List ℕ). lower (node_at i) z ≡ false) f.2 (node-rises i f.0 (omega (arith, f.1)) (omega arith)))

-- ---- a listed level: the place is the number of the row

pub ascending-tail : (r : Row) (rows : List Row) → IsAscending (r ∷ rows) → IsAscending rows
ascending-tail r rows up i j d l h = up (suc i) (suc j) d (omega arith) (omega arith)

pub listed-place : (rows : List Row) (i : ℕ) (d : Row) → IsAscending rows → i < length rows → rank (nodes Listed rows) (node_of Listed (get_or rows i d)) ≡ i
listed-place [] i d up h = absurd (omega arith)
listed-place (r ∷ rows) zero d up h =
    count-cons (λ m. lower m (key r)) (key r) (map (node_of Listed) rows)
    ∙ omega (arith, ap bit (lower-irrefl (key r)), count-none (λ m. lower m (key r)) (map (node_of Listed) rows) later)
  where
    later : (m : List ℕ) → Mem m (map (node_of Listed) rows) → lower m (key r) ≡ false
    later m mem =
        let a = Mem-of_map (node_of Listed) m rows mem in
        let b = Mem-place a.0 rows d a.1 in
        not_lower (key r) m (subst (λ (z : List ℕ). lower (key r) z ≡ true) (ap key b.2 ∙ a.2) (up 0 (suc b.0) d (omega arith) (omega (arith, b.1))))
listed-place (r ∷ rows) (suc i) d up h =
    count-cons (λ m. lower m (key (get_or rows i d))) (key r) (map (node_of Listed) rows)
    ∙ omega (arith, ap bit (up 0 (suc i) d (omega arith) (omega arith)), listed-place rows i d (ascending-tail r rows up) (omega arith))
