-- The places of an entry are a way down, and the only one to its last position.
use Rattle.std.specs.Prelude.{slice_get}
use Rattle.std.proofs.Common.{Some, get_or, ◌≡◌, ℕ, zero, suc, ◌/◌, ◌%◌, ◌<◌, List, [], ◌∷◌, ◌++◌, map, take, ℤ, pos, sym, refl, ap, ◌∙◌, subst}
use lib.Arith.{digits_div, digits_mod}
use Rattle.us_format.proofs.Order.{Mem, Mem-map}
use Rattle.us_format.proofs.Climb.{Tells, Placed, SlotsTell, InRange, placed-down, drop-width, small-head, small-tail, head-tail, no-rest, crd-cell, compressed-node, listed-node}
use Rattle.us_format_loops.proofs.Starts.{own-parent, one-parent}
use Rattle.us_format.specs.Buffers.{buffers_at, crd_buffer, level_buffers, pos_buffer}
use Rattle.us_format.specs.Kinds.{Level}
use Rattle.us_format.specs.Lists.{cell, head, nat_of, rank}
use Rattle.us_format.specs.Packs.{Buffer, written}
use Rattle.us_format.specs.Positions.{Row, count_below, down, last_place, moved, node_of, nodes, place}
use Rattle.us_format.specs.declared.Kind.{Kind}
use Rattle.us_format.specs.declared.Kind.TheVariants.{Compressed, Full, Listed, Slot}
use Rattle.us_format_loops.specs.Ways.{Place, IsParent, IsUnder, IsWay, end_of, way_of}

-- ---- one level

-- the place of an entry lies under its position
pub own-under : (kind : Kind) (size n : ℕ) (rows : List Row) (more : List Buffer) (r : Row) → (kind ≡ Slot → Tells rows) → ((s : Row) → Mem s rows → head s.rest < size) → Mem r rows → r.at < n
    → IsUnder kind size (map written (buffers_at kind size n rows ++ more)) r.at (record { position = place kind size rows r; coordinate = head r.rest })
own-under Full size n rows more r t small m l = (small r m, refl)
own-under Compressed size n rows more r t small m l = (own-parent (nodes Compressed rows) n r.at (head r.rest ∷ []) (compressed-node rows r m) l, crd-cell Compressed size n rows r t small m l)
own-under Listed size n rows more r t small m l = (own-parent (nodes Listed rows) n r.at r.rest (listed-node rows r m) l, crd-cell Listed size n rows r t small m l)
own-under Slot size n rows more r t small m l = (refl, crd-cell Slot size n rows r t small m l)

-- two cells that are one hold one coordinate
pub one-cell : (xs : List ℤ) (x y c d : ℕ) → x ≡ y → cell xs x ≡ pos c → cell xs y ≡ pos d → c ≡ d
one-cell xs x y c d e h k = ap nat_of (sym h ∙ ap (cell xs) e ∙ k)

-- what lies under a position at the place of an entry: it is the entry's position, with its coordinate
pub only-under : (kind : Kind) (size n : ℕ) (rows : List Row) (more : List Buffer) (r : Row) (q : ℕ) (x : Place) → (kind ≡ Slot → Tells rows) → ((s : Row) → Mem s rows → head s.rest < size) → Mem r rows → r.at < n
    → IsUnder kind size (map written (buffers_at kind size n rows ++ more)) q x → x.position ≡ place kind size rows r → (q ≡ r.at) × (x.coordinate ≡ head r.rest)
only-under Full size n rows more r q x t small m l u e =
    (sym (digits_div q u.0) ∙ ap (λ k. k / size) (sym u.1 ∙ e) ∙ digits_div r.at (small r m), sym (digits_mod q u.0) ∙ ap (λ k. k % size) (sym u.1 ∙ e) ∙ digits_mod r.at (small r m))
only-under Compressed size n rows more r q x t small m l u e = (
  one-parent (nodes Compressed rows) n q r.at (rank (nodes Compressed rows) (node_of Compressed r))
      (subst (λ (z : ℕ). IsParent (written (pos_buffer (nodes Compressed rows) n)) q z) e u.0) (own-parent (nodes Compressed rows) n r.at (head r.rest ∷ []) (compressed-node rows r m) l),
  one-cell (written (crd_buffer Compressed size n rows)) x.position (place Compressed size rows r) x.coordinate (head r.rest) e u.1 (crd-cell Compressed size n rows r t small m l),
)
only-under Listed size n rows more r q x t small m l u e = (
  one-parent (nodes Listed rows) n q r.at (rank (nodes Listed rows) (node_of Listed r))
      (subst (λ (z : ℕ). IsParent (written (pos_buffer (nodes Listed rows) n)) q z) e u.0) (own-parent (nodes Listed rows) n r.at r.rest (listed-node rows r m) l),
  one-cell (written (crd_buffer Listed size n rows)) x.position (place Listed size rows r) x.coordinate (head r.rest) e u.1 (crd-cell Listed size n rows r t small m l),
)
only-under Slot size n rows more r q x t small m l u e =
    (sym u.0 ∙ e, one-cell (written (crd_buffer Slot size n rows)) q r.at x.coordinate (head r.rest) (sym u.0 ∙ e) u.1 (crd-cell Slot size n rows r t small m l))

-- ---- all levels

pub own-way : (ls : List Level) (n : ℕ) (rows : List Row) (r : Row) → Placed ls n rows → SlotsTell ls rows → Mem r rows → IsWay ls (map written (level_buffers ls n rows)) r.at (way_of ls rows r)
own-way [] n rows r p t m = tt
own-way (l ∷ ls) n rows r p t m = (
  own-under l.kind l.size n rows (level_buffers ls (count_below l.kind l.size n rows) (down l.kind l.size rows)) r t.0 (λ s ms. small-head l ls s.rest (p.in_range s ms)) m (p.below r m),
  subst (λ (b : List (List ℤ)). IsWay ls b (place l.kind l.size rows r) (way_of ls (down l.kind l.size rows) (moved l.kind l.size rows r)))
      (sym (drop-width l.kind l.size n rows (level_buffers ls (count_below l.kind l.size n rows) (down l.kind l.size rows))))
      (own-way ls (count_below l.kind l.size n rows) (down l.kind l.size rows) (moved l.kind l.size rows r) (placed-down l ls n rows p t.0) t.1 (Mem-map (moved l.kind l.size rows) r rows m)),
)

abbrev pub placed_first : ℕ → ℕ → List Place → List Place
placed_first a b ys = record { position = a; coordinate = b } ∷ ys

pub same-places : {a b c d : ℕ} {ys zs : List Place} → a ≡ c → b ≡ d → ys ≡ zs → placed_first a b ys ≡ placed_first c d zs
same-places {a} {b} {c} {d} {ys} {zs} f g h = rw (f, g, h) refl

pub only-way : (ls : List Level) (n : ℕ) (rows : List Row) (r : Row) → Placed ls n rows → SlotsTell ls rows → Mem r rows → (q : ℕ) (ws : List Place)
    → IsWay ls (map written (level_buffers ls n rows)) q ws → end_of q ws ≡ last_place ls rows r → (q ≡ r.at) × (ws ≡ way_of ls rows r)
only-way [] n rows r p t m q [] w e = (e, refl)
only-way [] n rows r p t m q (x ∷ xs) w e = absurd w
only-way (l ∷ ls) n rows r p t m q [] w e = absurd w
only-way (l ∷ ls) n rows r p t m q (x ∷ xs) w e =
    join
    (only-way ls (count_below l.kind l.size n rows) (down l.kind l.size rows) (moved l.kind l.size rows r) (placed-down l ls n rows p t.0) t.1 (Mem-map (moved l.kind l.size rows) r rows m) x.position xs
    (subst (λ (b : List (List ℤ)). IsWay ls b x.position xs) (drop-width l.kind l.size n rows (level_buffers ls (count_below l.kind l.size n rows) (down l.kind l.size rows))) w.1) e)
  where
    join : (x.position ≡ place l.kind l.size rows r) × (xs ≡ way_of ls (down l.kind l.size rows) (moved l.kind l.size rows r)) → (q ≡ r.at) × (x ∷ xs ≡ way_of (l ∷ ls) rows r)
    join h =
        let u = only-under l.kind l.size n rows (level_buffers ls (count_below l.kind l.size n rows) (down l.kind l.size rows)) r q x t.0 (λ s ms. small-head l ls s.rest (p.in_range s ms)) m (p.below r m) w.0 h.0 in
        (u.0, same-places h.0 u.1 h.1)

pub way-end : (ls : List Level) (rows : List Row) (r : Row) → end_of r.at (way_of ls rows r) ≡ last_place ls rows r
way-end [] rows r = refl
way-end (l ∷ ls) rows r = way-end ls (down l.kind l.size rows) (moved l.kind l.size rows r)

pub way-positions : (k : ℕ) (ls : List Level) (rows : List Row) (r : Row) → end_of r.at (take k (way_of ls rows r)) ≡ last_place (take k ls) rows r
way-positions zero ls rows r = refl
way-positions (suc k) [] rows r = refl
way-positions (suc k) (l ∷ ls) rows r = way-positions k ls (down l.kind l.size rows) (moved l.kind l.size rows r)

pub way-coordinates : (ls : List Level) (rows : List Row) (r : Row) → InRange ls r.rest → map (λ (a : Place). a.coordinate) (way_of ls rows r) ≡ r.rest
way-coordinates [] rows r h = sym (no-rest r.rest h)
way-coordinates (l ∷ ls) rows r h =
    ap (λ cs. head r.rest ∷ cs) (way-coordinates ls (down l.kind l.size rows) (moved l.kind l.size rows r) (small-tail l ls r.rest h)) ∙ head-tail l ls r.rest h

pub range-at : (ls : List Level) (cs : List ℕ) → InRange ls cs → (k : ℕ) (l : Level) → slice_get ls k ≡ Some l → get_or cs k 0 < l.size
range-at [] cs h k l at = absurd (cc)
range-at (a ∷ ls) [] h k l at = absurd h
range-at (a ∷ ls) (c ∷ cs) h zero l at = let e : a ≡ l = cc in subst (λ (z : Level). c < z.size) e h.0
range-at (a ∷ ls) (c ∷ cs) h (suc k) l at = range-at ls cs h.1 k l at
