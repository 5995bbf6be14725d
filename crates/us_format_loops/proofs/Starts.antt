-- The cells of `pos` are where the nodes of each position start.
use Rattle.std.proofs.Common.{◌≡◌, ℕ, zero, suc, ◌+◌, ◌<◌, ◌≤◌, ◌⊎◌, List, [], ◌∷◌, ◌++◌, map, length, true, ltb, leb, ℤ, pos, sym, ap, ap₂, ◌∙◌, subst, inl, inr, arith, count_by, lt-ltb, ltb-true, le-ltb, le-leb, Bool, refl, false, cond, eqb}
use Rattle.std.proofs.lemmas.Bool.{cases_lt, cases_order, lt-leb, false≢true}
use Rattle.std.proofs.lemmas.List.{get_or_past}
use Rattle.us_format.proofs.Order.{Mem, Mem-of_map, lower-irrefl}
use Rattle.us_format.proofs.Counting.{count-le, count-lt}
use Rattle.us_format.proofs.Climb.{cell-written, length-written, lower-head, head-lower, Placed, SlotsTell, placed-down, drop-width}
use Rattle.us_format_loops.proofs.Counts.{count-all, count-none, Mem-of_different}
use Rattle.us_format.specs.Buffers.{buffers_at, cell_of, crd_buffer, level_buffers, pos_buffer, val_buffer}
use Rattle.us_format.specs.Kinds.{Level}
use Rattle.us_format.specs.Lists.{cell, head, nat_of, rank, lower}
use Rattle.us_format.specs.Packs.{Buffer, written}
use Rattle.us_format.specs.Positions.{Row, count_below, down, node_of, nodes, place}
use Rattle.us_format.specs.declared.Kind.{Kind}
use Rattle.us_format.specs.declared.Kind.TheVariants.{Compressed, Full, Listed, Slot}
use Rattle.us_format_loops.specs.Ways.{Cells, first_under, IsParent, Starts, HoldsLevel, HoldsLevels}

-- how many nodes have a parent below x
abbrev pub below : List (List ℕ) → ℕ → ℕ
below ns x = count_by (λ m. ltb (head m) x) ns

pub below-rises : (ns : List (List ℕ)) (p q : ℕ) → p ≤ q → below ns p ≤ below ns q
below-rises ns p q h = count-le (λ m. ltb (head m) p) (λ m. ltb (head m) q) ns (λ m _ e. lt-ltb (head m) q (omega (arith, ltb-true (head m) p e)))

pub below-rank : (ns : List (List ℕ)) (p q : ℕ) (rest : List ℕ) → p ≤ q → below ns p ≤ rank ns (q ∷ rest)
below-rank ns p q rest h = count-le (λ m. ltb (head m) p) (λ m. lower m (q ∷ rest)) ns (λ m _ e. lower-head m q rest (omega (arith, ltb-true (head m) p e)))

pub rank-below : (ns : List (List ℕ)) (q : ℕ) (rest : List ℕ) → Mem (q ∷ rest) ns → rank ns (q ∷ rest) < below ns (q + 1)
rank-below ns q rest h =
    count-lt (λ m. lower m (q ∷ rest)) (λ m. ltb (head m) (q + 1)) ns (q ∷ rest) (λ m _ e. lt-ltb (head m) (q + 1) (omega (arith, head-lower m q rest e))) h (lower-irrefl (q ∷ rest)) (lt-ltb q (q + 1) (omega arith))

pub below-zero : (ns : List (List ℕ)) → below ns 0 ≡ 0
below-zero ns = count-none (λ m. ltb (head m) 0) ns (λ m _. le-ltb (head m) 0 (omega arith))

pub below-all : (ns : List (List ℕ)) (n : ℕ) → ((m : List ℕ) → Mem m ns → head m < n) → below ns n ≡ length ns
below-all ns n h = count-all (λ m. ltb (head m) n) ns (λ m k. lt-ltb (head m) n (h m k))

pub below-next : (ns : List (List ℕ)) (p : ℕ) → below ns (p + 1) ≡ count_by (λ m. leb (head m) p) ns
below-next ns p =
    omega (
      arith,
      count-le (λ m. ltb (head m) (p + 1)) (λ m. leb (head m) p) ns (λ m _ e. le-leb (head m) p (omega (arith, ltb-true (head m) (p + 1) e))),
      count-le (λ m. leb (head m) p) (λ m. ltb (head m) (p + 1)) ns (λ m _ e. back (head m) e),
    )
  where
    back : (a : ℕ) → leb a p ≡ true → ltb a (p + 1) ≡ true
    back a e = go (cases_lt p a)
      where
        go : ((p < a) ⊎ (a ≤ p)) → ltb a (p + 1) ≡ true
        go (inl l) = absurd (false≢true (sym (lt-leb a p l) ∙ e))
        go (inr l) = lt-ltb a (p + 1) (omega arith)

-- what rises from 0 past x passes it somewhere
pub passes : (f : ℕ → ℕ) (n x : ℕ) → f 0 ≤ x → x < f n → (p : ℕ) × (p < n) × (f p ≤ x) × (x < f (p + 1))
passes f zero x lo hi = absurd (omega (arith, lo, hi))
passes f (suc n) x lo hi = go (cases_lt x (f n)) (passes f n x lo)
  where
    go : ((x < f n) ⊎ (f n ≤ x)) → (x < f n → (p : ℕ) × (p < n) × (f p ≤ x) × (x < f (p + 1))) → (p : ℕ) × (p < suc n) × (f p ≤ x) × (x < f (p + 1))
    go (inl l) ih = let r = ih l in (r.0, omega (arith, r.1), r.2, r.3)
    go (inr l) ih = let e : suc n ≡ n + 1 = omega arith in (n, omega arith, l, subst (λ (z : ℕ). x < f z) e hi)

module _ (ns : List (List ℕ)) (n : ℕ) where
  abbrev pub starts : List ℤ
  starts = written (pos_buffer ns n)

  pub start-cell : (x : ℕ) → x ≤ n → cell starts x ≡ pos (below ns x)
  start-cell x h = cell-written (pos_buffer ns n) x (omega arith)

  pub first-is : (x : ℕ) → x ≤ n → first_under starts x ≡ below ns x
  first-is x h = ap nat_of (start-cell x h)

  pub first-past : (x : ℕ) → n < x → first_under starts x ≡ 0
  first-past x h = ap nat_of (get_or_past starts x (pos 0) (omega (arith, length-written (pos_buffer ns n))))

  -- a parent is one of the positions above
  pub parent-below : (p x : ℕ) → IsParent starts p x → p < n
  parent-below p x h = go (cases_lt p n)
    where
      go : ((p < n) ⊎ (n ≤ p)) → p < n
      go (inl l) = l
      go (inr l) = absurd (omega (arith, h.1, first-past (p + 1) (omega arith)))

  pub parent-of : (p x : ℕ) → IsParent starts p x → (below ns p ≤ x) × (x < below ns (p + 1))
  parent-of p x h =
      let l : p < n = parent-below p x h in
      (omega (arith, h.0, first-is p (omega arith)), omega (arith, h.1, first-is (p + 1) (omega arith)))

  pub is-parent : (p x : ℕ) → p < n → below ns p ≤ x → x < below ns (p + 1) → IsParent starts p x
  is-parent p x l lo hi = (omega (arith, lo, first-is p (omega arith)), omega (arith, hi, first-is (p + 1) (omega arith)))

  pub one-parent : (p r x : ℕ) → IsParent starts p x → IsParent starts r x → p ≡ r
  one-parent p r x h k = go (cases_order p r) (parent-of p x h) (parent-of r x k)
    where
      go : ((p ≡ r) ⊎ ((p < r) ⊎ (r < p))) → (below ns p ≤ x) × (x < below ns (p + 1)) → (below ns r ≤ x) × (x < below ns (r + 1)) → p ≡ r
      go (inl e) a b = e
      go (inr (inl l)) a b = absurd (omega (arith, a.1, b.0, below-rises ns (p + 1) r (omega arith)))
      go (inr (inr l)) a b = absurd (omega (arith, b.1, a.0, below-rises ns (r + 1) p (omega arith)))

  -- the parent of a node is the position that it begins with
  pub own-parent : (q : ℕ) (rest : List ℕ) → Mem (q ∷ rest) ns → q < n → IsParent starts q (rank ns (q ∷ rest))
  own-parent q rest m h = is-parent q (rank ns (q ∷ rest)) h (below-rank ns q q rest (omega arith)) (rank-below ns q rest m)

  pub starts-are : ((m : List ℕ) → Mem m ns → head m < n) → Starts starts ns n
  starts-are small = record {
    long = length-written (pos_buffer ns n);
    each = λ p l. start-cell p l ∙ sym (ap pos (first-is p l));
    front = first-is 0 (omega arith) ∙ below-zero ns;
    counts = λ p l. first-is (p + 1) (omega arith) ∙ below-next ns p;
    rises = λ p r a b. omega (arith, below-rises ns p r a, first-is p (omega arith), first-is r b);
    last = whole;
    alone = λ e. subst (λ (k : ℕ). written (pos_buffer ns k) ≡ pos 0 ∷ pos (length ns) ∷ []) (sym e)
        (ap₂ (λ (a b : ℕ). pos a ∷ pos b ∷ []) (below-zero ns) (below-all ns 1 (λ m k. subst (λ (z : ℕ). head m < z) e (small m k))));
    parent = λ x l. let r = passes (first_under starts) n x (omega (arith, first-is 0 (omega arith), below-zero ns)) (omega (arith, l, whole)) in (r.0, r.1, (r.2, r.3));
    one_parent = one-parent;
  }
    where
      whole : first_under starts n ≡ length ns
      whole = first-is n (omega arith) ∙ below-all ns n small

-- ---- coordinates

pub natural-cell : (at : Row → ℕ) (rows : List Row) (x : ℕ) → cell_of at (λ r. pos (head r.rest)) rows x ≡ pos (nat_of (cell_of at (λ r. pos (head r.rest)) rows x))
natural-cell at [] x = refl
natural-cell at (r ∷ rows) x = go (eqb (at r) x) (natural-cell at rows x)
  where
    rest : ℤ
    rest = cell_of at (λ r. pos (head r.rest)) rows x

    go : (b : Bool) → rest ≡ pos (nat_of rest) → cond b (pos (head r.rest)) rest ≡ pos (nat_of (cond b (pos (head r.rest)) rest))
    go true h = refl
    go false h = h

pub cells-are : (kind : Kind) (size n N : ℕ) (rows : List Row) → count_below kind size n rows ≡ N → Cells (written (crd_buffer kind size n rows)) N
cells-are kind size n N rows e = record { long = length-written (crd_buffer kind size n rows) ∙ e; each = λ x. go x (cases_lt x (count_below kind size n rows)) }
  where
    natural : {z w : ℤ} → z ≡ w → w ≡ pos (nat_of w) → z ≡ pos (nat_of z)
    natural {z} {w} f h = f ∙ h ∙ sym (ap (λ (y : ℤ). pos (nat_of y)) f)

    go : (x : ℕ) → ((x < count_below kind size n rows) ⊎ (count_below kind size n rows ≤ x)) → cell (written (crd_buffer kind size n rows)) x ≡ pos (nat_of (cell (written (crd_buffer kind size n rows)) x))
    go x (inl l) = natural (cell-written (crd_buffer kind size n rows) x l) (natural-cell (place kind size rows) rows x)
    go x (inr l) = natural (get_or_past (written (crd_buffer kind size n rows)) x (pos 0) (omega (arith, l, length-written (crd_buffer kind size n rows)))) refl

-- ---- all levels

pub compressed-heads : (n : ℕ) (rows : List Row) → ((r : Row) → Mem r rows → r.at < n) → (m : List ℕ) → Mem m (nodes Compressed rows) → head m < n
compressed-heads n rows h m k =
    let r = Mem-of_map (node_of Compressed) m rows (Mem-of_different m (map (node_of Compressed) rows) k) in subst (λ (z : List ℕ). head z < n) r.2 (h r.0 r.1)

pub listed-heads : (n : ℕ) (rows : List Row) → ((r : Row) → Mem r rows → r.at < n) → (m : List ℕ) → Mem m (nodes Listed rows) → head m < n
listed-heads n rows h m k = let r = Mem-of_map (node_of Listed) m rows k in subst (λ (z : List ℕ). head z < n) r.2 (h r.0 r.1)

pub holds-level : (kind : Kind) (size n : ℕ) (rows : List Row) (more : List Buffer) → ((r : Row) → Mem r rows → r.at < n) → HoldsLevel kind size (map written (buffers_at kind size n rows ++ more)) n rows
holds-level Full size n rows more h = tt
holds-level Compressed size n rows more h = (starts-are (nodes Compressed rows) n (compressed-heads n rows h), cells-are Compressed size n (length (nodes Compressed rows)) rows refl)
holds-level Listed size n rows more h = (starts-are (nodes Listed rows) n (listed-heads n rows h), cells-are Listed size n (length (nodes Listed rows)) rows refl)
holds-level Slot size n rows more h = cells-are Slot size n n rows refl

pub holds-levels : (ls : List Level) (n : ℕ) (rows : List Row) → Placed ls n rows → SlotsTell ls rows → HoldsLevels ls (map written (level_buffers ls n rows)) n rows
holds-levels [] n rows p t = length-written (val_buffer n rows)
holds-levels (l ∷ ls) n rows p t = (
  holds-level l.kind l.size n rows (level_buffers ls (count_below l.kind l.size n rows) (down l.kind l.size rows)) p.below,
  subst (λ (b : List (List ℤ)). HoldsLevels ls b (count_below l.kind l.size n rows) (down l.kind l.size rows))
      (sym (drop-width l.kind l.size n rows (level_buffers ls (count_below l.kind l.size n rows) (down l.kind l.size rows))))
      (holds-levels ls (count_below l.kind l.size n rows) (down l.kind l.size rows) (placed-down l ls n rows p t.0) t.1),
)
