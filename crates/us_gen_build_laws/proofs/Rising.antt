-- The positions of rows whose nodes don't fall, one after the other.
use Rattle.std.proofs.Common.{◌≡◌, ℕ, ◌+◌, ◌<◌, ◌≤◌, ◌⊎◌, List, [], ◌∷◌, map, length, true, false, sym, ap, ◌∙◌, subst, inl, inr, arith, count_by}
use Rattle.std.proofs.lemmas.Bool.{false≢true, cases_lt}
use Rattle.us_format.specs.Lists.{head, lower, rank, same}
use Rattle.us_format.specs.Positions.{Row, node_of, nodes}
use Rattle.us_format.specs.declared.Kind.TheVariants.{Compressed}
use Rattle.us_format.proofs.Order.{Mem, Mem-map, Mem-of_map, lower-cases}
use Rattle.us_format.proofs.Ascending.{lower-first}
use Rattle.us_format.proofs.Shuffled.{Mem-of_different}
use Rattle.us_build.specs.Items.{IsAscending}
use Rattle.us_build.proofs.Ranks.{node-rises}
use Rattle.us_build.proofs.Counts.{Mem-at, Mem-place, count-none, once, rank-last, rank-next}
use Rattle.us_gen_build_laws.specs.Rows.{no_row, row, node, NodesRise}

-- rows in ascending order rise
pub ascending-rises : (rows : List Row) → IsAscending rows → NodesRise rows
ascending-rises rows up i j l h = node-rises rows up no_row i j l h

module _ (rows : List Row) (rises_ : NodesRise rows) where
  abbrev pub node_at : ℕ → List ℕ
  node_at x = node (row rows x)

  pub node-found : (m : List ℕ) → Mem m (nodes Compressed rows) → (j : ℕ) × (j < length rows) × (node_at j ≡ m)
  node-found m h =
      let a = Mem-of_map (node_of Compressed) m rows (Mem-of_different m (map (node_of Compressed) rows) h) in
      let b = Mem-place a.0 rows no_row a.1 in
      (b.0, b.1, ap (node_of Compressed) b.2 ∙ a.2)

  pub node-once : (i : ℕ) → i < length rows → count_by (same (node_at i)) (nodes Compressed rows) ≡ 1
  node-once i h = once (node_at i) (map (node_of Compressed) rows) (Mem-map (node_of Compressed) (row rows i) rows (Mem-at rows i no_row h))

  pub number-first : 0 < length rows → rank (nodes Compressed rows) (node_at 0) ≡ 0
  number-first h =
      count-none (λ m. lower m (node_at 0)) (nodes Compressed rows)
      (λ m mem. let f = node-found m mem in subst (λ (z : List ℕ). lower z (node_at 0) ≡ false) f.2 (rises_ f.0 0 (omega arith) f.1))

  pub number-next : (i : ℕ) → i + 1 < length rows → (node_at i ≡ node_at (i + 1) → ⊥) → rank (nodes Compressed rows) (node_at (i + 1)) ≡ rank (nodes Compressed rows) (node_at i) + 1
  number-next i h new = rank-next (nodes Compressed rows) (node_at i) (node_at (i + 1)) (node-once i (omega arith)) (rises (lower-cases (node_at i) (node_at (i + 1)))) between
    where
      rises : (lower (node_at i) (node_at (i + 1)) ≡ true) ⊎ ((node_at i ≡ node_at (i + 1)) ⊎ (lower (node_at (i + 1)) (node_at i) ≡ true)) → lower (node_at i) (node_at (i + 1)) ≡ true
      rises (inl l) = l
      rises (inr (inl e)) = absurd (new e)
      rises (inr (inr l)) = absurd (false≢true (sym (rises_ (i + 1) i (omega arith) h) ∙ l))

      at : (j : ℕ) → j < length rows → (i < j) ⊎ (j ≤ i) → (lower (node_at i) (node_at j) ≡ false) ⊎ (lower (node_at j) (node_at (i + 1)) ≡ false)
      at j l (inl a) = inr (rises_ j (i + 1) (omega arith) l)
      at j l (inr b) = inl (rises_ i j b (omega arith))

      between : (m : List ℕ) → Mem m (nodes Compressed rows) → (lower (node_at i) m ≡ false) ⊎ (lower m (node_at (i + 1)) ≡ false)
      between m mem =
          let f = node-found m mem in
          subst (λ (z : List ℕ). (lower (node_at i) z ≡ false) ⊎ (lower z (node_at (i + 1)) ≡ false)) f.2 (at f.0 f.1 (cases_lt i f.0))

  pub number-last : (i : ℕ) → i + 1 ≡ length rows → length (nodes Compressed rows) ≡ rank (nodes Compressed rows) (node_at i) + 1
  number-last i h =
      rank-last (nodes Compressed rows) (node_at i) (node-once i (omega arith))
      (λ m mem. let f = node-found m mem in subst (λ (z : List ℕ). lower (node_at i) z ≡ false) f.2 (rises_ i f.0 (omega (arith, f.1)) (omega arith)))

  pub at_rises : (i j : ℕ) → i ≤ j → j < length rows → (row rows i).at ≤ (row rows j).at
  at_rises i j l h = go (cases_lt (row rows j).at (row rows i).at)
    where
      go : ((row rows j).at < (row rows i).at) ⊎ ((row rows i).at ≤ (row rows j).at) → (row rows i).at ≤ (row rows j).at
      go (inl lt) = absurd (false≢true (sym (rises_ j i l h) ∙ lower-first (row rows j).at (row rows i).at (head (row rows j).rest ∷ []) (head (row rows i).rest ∷ []) lt))
      go (inr le) = le
