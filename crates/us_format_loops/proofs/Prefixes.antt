-- Positions after the first levels.
use Rattle.std.proofs.Common.{◌≡◌, ℕ, zero, suc, ◌+◌, ◌*◌, ◌<◌, ◌⊎◌, List, [], ◌∷◌, take, drop, true, sym, refl, ap, ap₂, ◌∙◌, subst, inl, inr}
use Rattle.std.proofs.lemmas.Bool.{and_parts, false≢true}
use Rattle.us_format.proofs.Order.{Mem, Mem-map}
use Rattle.us_format.proofs.Climb.{rank-lt, compressed-node, Placed, SlotsTell, small-head, head-tail, placed-down, no-rest, same_place}
use Rattle.us_format.proofs.Ascending.{lower-cons, lower-first, lower-next, split, full-lt}
use Rattle.us_format.specs.Kinds.{Level}
use Rattle.us_format.specs.Lists.{head, lower, rank, tail}
use Rattle.us_format.specs.Positions.{Row, count_below, down, last_place, moved, node_of, nodes, place}
use Rattle.us_format.specs.declared.Kind.{Kind}
use Rattle.us_format.specs.declared.Kind.TheVariants.{Compressed, Full, Listed, Slot}
use Rattle.us_format_loops.specs.Nodes.{is_slot, is_group, are_slots, are_groups, count_after}

-- ---- slot levels keep positions

pub slot-place : (k : Kind) (size : ℕ) (rows : List Row) (r : Row) → is_slot k ≡ true → place k size rows r ≡ r.at
slot-place Full size rows r h = absurd (false≢true h)
slot-place Compressed size rows r h = absurd (false≢true h)
slot-place Listed size rows r h = absurd (false≢true h)
slot-place Slot size rows r h = refl

pub slot-count : (k : Kind) (size n : ℕ) (rows : List Row) → is_slot k ≡ true → count_below k size n rows ≡ n
slot-count Full size n rows h = absurd (false≢true h)
slot-count Compressed size n rows h = absurd (false≢true h)
slot-count Listed size n rows h = absurd (false≢true h)
slot-count Slot size n rows h = refl

pub slots-place : (ls : List Level) (rows : List Row) (r : Row) → are_slots ls ≡ true → last_place ls rows r ≡ r.at
slots-place [] rows r h = refl
slots-place (l ∷ ls) rows r h =
    let a = and_parts (is_slot l.kind) (are_slots ls) h in
    slots-place ls (down l.kind l.size rows) (moved l.kind l.size rows r) a.1 ∙ slot-place l.kind l.size rows r a.0

pub slots-count : (ls : List Level) (n : ℕ) (rows : List Row) → are_slots ls ≡ true → count_after ls n rows ≡ n
slots-count [] n rows h = refl
slots-count (l ∷ ls) n rows h =
    let a = and_parts (is_slot l.kind) (are_slots ls) h in
    slots-count ls (count_below l.kind l.size n rows) (down l.kind l.size rows) a.1 ∙ slot-count l.kind l.size n rows a.0

pub place-kept : (k : ℕ) (ls : List Level) (rows : List Row) (r : Row) → are_slots (drop k ls) ≡ true → last_place (take k ls) rows r ≡ last_place ls rows r
place-kept zero ls rows r h = sym (slots-place ls rows r h)
place-kept (suc k) [] rows r h = refl
place-kept (suc k) (l ∷ ls) rows r h = place-kept k ls (down l.kind l.size rows) (moved l.kind l.size rows r) h

pub count-kept : (k : ℕ) (ls : List Level) (n : ℕ) (rows : List Row) → are_slots (drop k ls) ≡ true → count_after (take k ls) n rows ≡ count_after ls n rows
count-kept zero ls n rows h = sym (slots-count ls n rows h)
count-kept (suc k) [] n rows h = refl
count-kept (suc k) (l ∷ ls) n rows h = count-kept k ls (count_below l.kind l.size n rows) (down l.kind l.size rows) h

-- ---- positions are below their number

pub prefix-below : (k : ℕ) (ls : List Level) (n : ℕ) (rows : List Row) (r : Row) → Placed ls n rows → SlotsTell ls rows → Mem r rows → last_place (take k ls) rows r < count_after (take k ls) n rows
prefix-below zero ls n rows r p t m = p.below r m
prefix-below (suc k) [] n rows r p t m = p.below r m
prefix-below (suc k) (l ∷ ls) n rows r p t m =
    prefix-below k ls (count_below l.kind l.size n rows) (down l.kind l.size rows) (moved l.kind l.size rows r) (placed-down l ls n rows p t.0) t.1 (Mem-map (moved l.kind l.size rows) r rows m)

-- ---- equal positions mean equal coordinates so far

pub prefix-apart : (k : ℕ) (ls : List Level) (n : ℕ) (rows : List Row) (r s : Row) → Placed ls n rows → SlotsTell ls rows → Mem r rows → Mem s rows → last_place (take k ls) rows r ≡ last_place (take k ls) rows s
    → (r.at ≡ s.at) × (take k r.rest ≡ take k s.rest)
prefix-apart zero ls n rows r s p t mr ms e = (e, refl)
prefix-apart (suc k) [] n rows r s p t mr ms e = (e, ap (take (suc k)) (no-rest r.rest (p.in_range r mr) ∙ sym (no-rest s.rest (p.in_range s ms))))
prefix-apart (suc k) (l ∷ ls) n rows r s p t mr ms e =
    up (prefix-apart k ls (count_below l.kind l.size n rows) (down l.kind l.size rows) (moved l.kind l.size rows r) (moved l.kind l.size rows s) (placed-down l ls n rows p t.0) t.1 (Mem-map (moved l.kind l.size rows) r rows mr)
    (Mem-map (moved l.kind l.size rows) s rows ms) e)
  where
    up : (place l.kind l.size rows r ≡ place l.kind l.size rows s) × (take k (tail r.rest) ≡ take k (tail s.rest)) → (r.at ≡ s.at) × (take (suc k) r.rest ≡ take (suc k) s.rest)
    up h =
        let q = same_place l.kind l.size rows r s t.0 mr ms (small-head l ls r.rest (p.in_range r mr)) (small-head l ls s.rest (p.in_range s ms)) h.0 in (
          q.0,
          ap (take (suc k)) (sym (head-tail l ls r.rest (p.in_range r mr))) ∙ ap₂ (λ (c : ℕ) (cs : List ℕ). c ∷ cs) q.1 h.1 ∙ ap (take (suc k)) (head-tail l ls s.rest (p.in_range s ms)),
        )

-- ---- full and compressed levels

pub group-same : (k : Kind) (size : ℕ) (rows : List Row) (r s : Row) → is_group k ≡ true → r.at ≡ s.at → head r.rest ≡ head s.rest → place k size rows r ≡ place k size rows s
group-same Full size rows r s g e f = ap₂ (λ (a b : ℕ). a * size + b) e f
group-same Compressed size rows r s g e f = ap₂ (λ (a b : ℕ). rank (nodes Compressed rows) (a ∷ b ∷ [])) e f
group-same Listed size rows r s g e f = absurd (false≢true g)
group-same Slot size rows r s g e f = absurd (false≢true g)

pub group-lower : (k : Kind) (size : ℕ) (rows : List Row) (r s : Row) → is_group k ≡ true → head r.rest < size → head s.rest < size → Mem r rows → Mem s rows
    → lower (r.at ∷ head r.rest ∷ []) (s.at ∷ head s.rest ∷ []) ≡ true → place k size rows r < place k size rows s
group-lower Full size rows r s g lr ls mr ms h = full-lt size r.at s.at (head r.rest) (head s.rest) lr ls h
group-lower Compressed size rows r s g lr ls mr ms h = rank-lt (nodes Compressed rows) (node_of Compressed r) (node_of Compressed s) (compressed-node rows r mr) h
group-lower Listed size rows r s g lr ls mr ms h = absurd (false≢true g)
group-lower Slot size rows r s g lr ls mr ms h = absurd (false≢true g)

pub group-ascends : (k : Kind) (size : ℕ) (rows : List Row) (r s : Row) (cs ds : List ℕ) → is_group k ≡ true → head r.rest < size → head s.rest < size → Mem r rows → Mem s rows
    → lower (r.at ∷ head r.rest ∷ cs) (s.at ∷ head s.rest ∷ ds) ≡ true → lower (place k size rows r ∷ cs) (place k size rows s ∷ ds) ≡ true
group-ascends k size rows r s cs ds g lr ls mr ms h = go (split r s (head r.rest) (head s.rest) cs ds h)
  where
    go : ((lower (r.at ∷ head r.rest ∷ []) (s.at ∷ head s.rest ∷ []) ≡ true) ⊎ ((r.at ≡ s.at) × (head r.rest ≡ head s.rest) × (lower cs ds ≡ true))) → lower (place k size rows r ∷ cs) (place k size rows s ∷ ds) ≡ true
    go (inl l) = lower-first _ _ cs ds (group-lower k size rows r s g lr ls mr ms l)
    go (inr e) = lower-next _ _ cs ds (group-same k size rows r s g e.0 e.1) e.2

pub first-kept : (k : ℕ) (cs : List ℕ) → head (take (suc k) cs) ≡ head cs
first-kept k [] = refl
first-kept k (c ∷ cs) = refl

pub rest-kept : (k : ℕ) (cs : List ℕ) → tail (take (suc k) cs) ≡ take k (tail cs)
rest-kept zero [] = refl
rest-kept (suc k) [] = refl
rest-kept k (c ∷ cs) = refl

pub prefix-same : (k : ℕ) (ls : List Level) (rows : List Row) (r s : Row) → are_groups (take k ls) ≡ true → r.at ≡ s.at → take k r.rest ≡ take k s.rest → last_place (take k ls) rows r ≡ last_place (take k ls) rows s
prefix-same zero ls rows r s g e f = e
prefix-same (suc k) [] rows r s g e f = e
prefix-same (suc k) (l ∷ ls) rows r s g e f =
    let a = and_parts (is_group l.kind) (are_groups (take k ls)) g in
    prefix-same k ls (down l.kind l.size rows) (moved l.kind l.size rows r) (moved l.kind l.size rows s) a.1
    (group-same l.kind l.size rows r s a.0 e (sym (first-kept k r.rest) ∙ ap head f ∙ first-kept k s.rest)) (sym (rest-kept k r.rest) ∙ ap tail f ∙ rest-kept k s.rest)

-- the position alone decides where no coordinate is left
pub at-lower : (a b : ℕ) → lower (a ∷ []) (b ∷ []) ≡ true → a < b
at-lower a b h = go (lower-cons a b [] [] h)
  where
    go : ((a < b) ⊎ ((a ≡ b) × (lower [] [] ≡ true))) → a < b
    go (inl l) = l
    go (inr e) = absurd (false≢true e.1)

pub prefix-ascends : (k : ℕ) (ls : List Level) (n : ℕ) (rows : List Row) (r s : Row) → Placed ls n rows → SlotsTell ls rows → Mem r rows → Mem s rows → are_groups (take k ls) ≡ true
    → lower (r.at ∷ take k r.rest) (s.at ∷ take k s.rest) ≡ true → last_place (take k ls) rows r < last_place (take k ls) rows s
prefix-ascends zero ls n rows r s p t mr ms g h = at-lower r.at s.at h
prefix-ascends (suc k) [] n rows r s p t mr ms g h =
    at-lower r.at s.at
    (subst (λ (cs : List ℕ). lower (r.at ∷ take (suc k) cs) (s.at ∷ []) ≡ true) (no-rest r.rest (p.in_range r mr))
    (subst (λ (cs : List ℕ). lower (r.at ∷ take (suc k) r.rest) (s.at ∷ take (suc k) cs) ≡ true) (no-rest s.rest (p.in_range s ms)) h))
prefix-ascends (suc k) (l ∷ ls) n rows r s p t mr ms g h =
    let a = and_parts (is_group l.kind) (are_groups (take k ls)) g in
    prefix-ascends k ls (count_below l.kind l.size n rows) (down l.kind l.size rows) (moved l.kind l.size rows r) (moved l.kind l.size rows s) (placed-down l ls n rows p t.0) t.1 (Mem-map (moved l.kind l.size rows) r rows mr)
    (Mem-map (moved l.kind l.size rows) s rows ms) a.1
    (group-ascends l.kind l.size rows r s (take k (tail r.rest)) (take k (tail s.rest)) a.0 (small-head l ls r.rest (p.in_range r mr)) (small-head l ls s.rest (p.in_range s ms)) mr ms
    (subst (λ (cs : List ℕ). lower (r.at ∷ take (suc k) cs) (s.at ∷ head s.rest ∷ take k (tail s.rest)) ≡ true) (sym (head-tail l ls r.rest (p.in_range r mr)))
    (subst (λ (cs : List ℕ). lower (r.at ∷ take (suc k) r.rest) (s.at ∷ take (suc k) cs) ≡ true) (sym (head-tail l ls s.rest (p.in_range s ms))) h)))
