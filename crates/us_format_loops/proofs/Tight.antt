-- Where the last level that isn't a slot level is compressed or listed, each position is that of an entry.
use Rattle.std.proofs.Common.{◌≡◌, ℕ, ◌<◌, List, [], ◌∷◌, map, Bool, true, false, cond, ℤ, refl, ap, ◌∙◌, subst}
use Rattle.std.proofs.lemmas.Bool.{false≢true}
use Rattle.us_format.proofs.Order.{Mem, Mem-of_map}
use Rattle.us_format.proofs.Collect.{Distinct}
use Rattle.us_format.proofs.Climb.{Tells, Placed, SlotsTell, small-head, placed-down, same_place, same_rest}
use Rattle.us_format.specs.Kinds.{Level}
use Rattle.us_format.specs.Lists.{rank, tail, head}
use Rattle.us_format.specs.Positions.{Row, count_below, down, last_place, moved, node_of, nodes, place}
use Rattle.us_format.specs.declared.Kind.{Kind}
use Rattle.us_format.specs.declared.Kind.TheVariants.{Compressed, Full, Listed, Slot}
use Rattle.us_format_loops.proofs.Counts.{Mem-of_different, different-distinct, distinct-map, ranks-all}
use Rattle.us_format_loops.proofs.Prefixes.{slots-place, slots-count}
use Rattle.us_format_loops.specs.Nodes.{has_nodes, are_slots, is_tight, count_after}

-- ---- rows are told apart

abbrev pub made_row : ℕ → List ℕ → ℤ → Row
made_row a cs v = record { at = a; rest = cs; value = v }

pub same-made : {a b : ℕ} {cs ds : List ℕ} {v w : ℤ} → a ≡ b → cs ≡ ds → v ≡ w → made_row a cs v ≡ made_row b ds w
same-made {a} {b} {cs} {ds} {v} {w} e f g = rw (e, f, g) refl

pub same-rows : (ls : List Level) (n : ℕ) (rows : List Row) (r s : Row) → Placed ls n rows → Mem r rows → Mem s rows → r.at ≡ s.at → r.rest ≡ s.rest → r ≡ s
same-rows ls n rows r s p mr ms e f = same-made e f (p.apart r s mr ms e f)

pub moved-apart : (l : Level) (ls : List Level) (n : ℕ) (rows : List Row) → Placed (l ∷ ls) n rows → (l.kind ≡ Slot → Tells rows) → (r s : Row) → Mem r rows → Mem s rows
    → moved l.kind l.size rows r ≡ moved l.kind l.size rows s → r ≡ s
moved-apart l ls n rows p t r s mr ms e =
    let at : place l.kind l.size rows r ≡ place l.kind l.size rows s = ap (λ (z : Row). z.at) e in
    let q = same_place l.kind l.size rows r s t mr ms (small-head l ls r.rest (p.in_range r mr)) (small-head l ls s.rest (p.in_range s ms)) at in
    same-rows (l ∷ ls) n rows r s p mr ms q.0 (same_rest l ls rows n p t r s mr ms at (ap (λ (z : Row). z.rest) e))

-- ---- one level

-- each position is that of a row
abbrev pub Filled : ℕ → List Row → (Row → ℕ) → Type 0
Filled n rows at = (x : ℕ) → x < n → (r : Row) × Mem r rows × (at r ≡ x)

pub level-filled : (k : Kind) (size n : ℕ) (rows : List Row) → has_nodes k ≡ true → Distinct (map (node_of Listed) rows) → Filled (count_below k size n rows) rows (place k size rows)
level-filled Full size n rows h d x l = absurd (false≢true h)
level-filled Slot size n rows h d x l = absurd (false≢true h)
level-filled Compressed size n rows h d x l =
    let m = ranks-all (nodes Compressed rows) (different-distinct (map (node_of Compressed) rows)) x l in
    let r = Mem-of_map (node_of Compressed) m.0 rows (Mem-of_different m.0 (map (node_of Compressed) rows) m.1) in
    (r.0, r.1, ap (rank (nodes Compressed rows)) r.2 ∙ m.2)
level-filled Listed size n rows h d x l =
    let m = ranks-all (nodes Listed rows) d x l in
    let r = Mem-of_map (node_of Listed) m.0 rows m.1 in
    (r.0, r.1, ap (rank (nodes Listed rows)) r.2 ∙ m.2)

-- ---- all levels

pub tight-filled : (ls : List Level) (n : ℕ) (rows : List Row) → Placed ls n rows → SlotsTell ls rows → Distinct rows → is_tight ls ≡ true → Filled (count_after ls n rows) rows (last_place ls rows)
tight-filled [] n rows p t d h x l = absurd (false≢true h)
tight-filled (l ∷ ls) n rows p t d h x b =
    go (are_slots ls) refl h
    (λ g. tight-filled ls (count_below l.kind l.size n rows) (down l.kind l.size rows) (placed-down l ls n rows p t.0) t.1 (distinct-map (moved l.kind l.size rows) rows (moved-apart l ls n rows p t.0) d) g x b)
  where
    heads-apart : Distinct (map (node_of Listed) rows)
    heads-apart = distinct-map (node_of Listed) rows (λ r s mr ms e. same-rows (l ∷ ls) n rows r s p mr ms (ap head e) (ap tail e)) d

    go : (c : Bool) → are_slots ls ≡ c → cond c (has_nodes l.kind) (is_tight ls) ≡ true
        → (is_tight ls ≡ true → (r : Row) × Mem r (down l.kind l.size rows) × (last_place ls (down l.kind l.size rows) r ≡ x)) → (r : Row) × Mem r rows × (last_place (l ∷ ls) rows r ≡ x)
    go true e g ih =
        let r = level-filled l.kind l.size n rows g heads-apart x (subst (λ (z : ℕ). x < z) (slots-count ls (count_below l.kind l.size n rows) (down l.kind l.size rows) e) b) in
        (r.0, r.1, slots-place ls (down l.kind l.size rows) (moved l.kind l.size rows r.0) e ∙ r.2)
    go false e g ih =
        let r = ih g in
        let f = Mem-of_map (moved l.kind l.size rows) r.0 rows r.1 in
        (f.0, f.1, ap (last_place ls (down l.kind l.size rows)) f.2 ∙ r.2)
