-- Rows that are placed and sorted are ready at each level.
use Rattle.std.specs.List.Sorted.{IsPermutation}
use Rattle.std.proofs.Common.{◌≡◌, ◌≢◌, ℕ, zero, suc, ◌<◌, List, [], ◌∷◌, map, length, get_or, true, not, sym, refl, ap, ap₂, ◌∙◌, inl, inr, arith, AllPairs}
use Rattle.std.proofs.lemmas.Bool.{false≢true, and_parts}
use Rattle.std.proofs.lemmas.List.{get_or-map, length-map}
use Rattle.std.proofs.lemmas.List.Sorted.{IsPermutation-map}
use Rattle.std.proofs.lemmas.Map.Keys.{IsDistinct-IsPermutation}
use Rattle.std.proofs.lemmas.Map.Made.{AllPairs-from_IsDistinct, IsDistinct-from_AllPairs}
use Rattle.us_format.specs.declared.Kind.{Kind}
use Rattle.us_format.specs.declared.Kind.TheVariants.{Full, Compressed, Listed, Slot}
use Rattle.us_format.specs.Kinds.{Level}
use Rattle.us_format.specs.Lists.{head, tail, rank, same}
use Rattle.us_format.specs.Positions.{Row, nodes, place, count_below, down, moved}
use Rattle.us_format.proofs.Order.{Mem, Mem-map}
use Rattle.us_format.proofs.Members.{contains-Mem}
use Rattle.us_format.proofs.Climb.{Placed, SlotsTell, Tells, small-head, small-tail, head-tail, no-rest, placed-down, same_place, same_rest}
use Rattle.us_format_loops.specs.Nodes.{is_slot, has_nodes, is_group, are_slots}
use Rattle.us_build.specs.Items.{IsAscending, key}
use Rattle.us_build.proofs.Counts.{Mem-at}
use Rattle.us_build.proofs.Readiness.{ascending-down}
use Rattle.us_build.proofs.Sorted.{same-flip, same-decides}
use Rattle.us_gen_build_laws.specs.Rows.{no_row, row, NodesRise, NodesDiffer, KeysDiffer, FrontsRise, have_no_nodes, nodes_within}
use Rattle.us_gen_build_laws.specs.Ready.{AreReady, AreSorted}
use Rattle.us_gen_build_laws.proofs.Rising.{ascending-rises}
use Rattle.us_gen_build_laws.proofs.Fronts.{Keeps, full_keeps, compressed_keeps, fronts_rises, fronts_down}

-- ---- the order at each level

abbrev pub AreOrdered : List Level → List Row → Type 0
AreOrdered [] rows = Unit {0}
AreOrdered (l ∷ ls) rows = (l.kind ≡ Compressed → NodesRise rows) × (l.kind ≡ Listed → IsAscending rows) × AreOrdered ls (down l.kind l.size rows)

pub ascending-ordered : (ls : List Level) (n : ℕ) (rows : List Row) → Placed ls n rows → SlotsTell ls rows → IsAscending rows → AreOrdered ls rows
ascending-ordered [] n rows p t up = tt
ascending-ordered (l ∷ ls) n rows p t up = (
  (λ e. ascending-rises rows up),
  (λ e. up),
  ascending-ordered ls (count_below l.kind l.size n rows) (down l.kind l.size rows) (placed-down l ls n rows p t.0) t.1 (ascending-down l ls n rows p t.0 up),
)

nodes-there : (k : Kind) → not (has_nodes k) ≡ true → (k ≡ Compressed → ⊥) × (k ≡ Listed → ⊥)
nodes-there Full h = ((λ e. cc), (λ e. cc))
nodes-there Compressed h = absurd (false≢true h)
nodes-there Listed h = absurd (false≢true h)
nodes-there Slot h = ((λ e. cc), (λ e. cc))

pub free-ordered : (ls : List Level) (rows : List Row) → have_no_nodes ls ≡ true → AreOrdered ls rows
free-ordered [] rows h = tt
free-ordered (l ∷ ls) rows h =
    let a = and_parts (not (has_nodes l.kind)) (have_no_nodes ls) h in
    ((λ e. absurd ((nodes-there l.kind a.0).0 e)), (λ e. absurd ((nodes-there l.kind a.0).1 e)), free-ordered ls (down l.kind l.size rows) a.1)

keeps-of : (k : Kind) (size : ℕ) (rows : List Row) → is_group k ≡ true → ((r : Row) → Mem r rows → head r.rest < size) → Keeps k size rows
keeps-of Full size rows h few = full_keeps size rows few
keeps-of Compressed size rows h few = compressed_keeps size rows
keeps-of Listed size rows h few = absurd (false≢true h)
keeps-of Slot size rows h few = absurd (false≢true h)

not-listed : (k : Kind) → is_group k ≡ true → k ≡ Listed → ⊥
not-listed Full h e = cc
not-listed Compressed h e = cc
not-listed Listed h e = false≢true h
not-listed Slot h e = false≢true h

pub fronts-ordered : (k : ℕ) (ls : List Level) (n : ℕ) (rows : List Row) → nodes_within k ls ≡ true → Placed ls n rows → SlotsTell ls rows → FrontsRise k rows → AreOrdered ls rows
fronts-ordered zero ls n rows h p t f = free-ordered ls rows h
fronts-ordered (suc k) [] n rows h p t f = tt
fronts-ordered (suc k) (l ∷ ls) n rows h p t f =
    let a = and_parts (is_group l.kind) (nodes_within k ls) h in (
      (λ e. fronts_rises k rows f),
      (λ e. absurd (not-listed l.kind a.0 e)),
      fronts-ordered k ls (count_below l.kind l.size n rows) (down l.kind l.size rows) a.1 (placed-down l ls n rows p t.0) t.1
          (fronts_down k l.kind l.size rows (keeps-of l.kind l.size rows a.0 (λ r m. small-head l ls r.rest (p.in_range r m))) f),
    )

pub sorted-ordered : (ls : List Level) (n : ℕ) (rows : List Row) → Placed ls n rows → SlotsTell ls rows → AreSorted ls rows → AreOrdered ls rows
sorted-ordered ls n rows p t (inl up) = ascending-ordered ls n rows p t up
sorted-ordered ls n rows p t (inr (k, h, f)) = fronts-ordered k ls n rows h p t f

-- ---- different rows

pub differ-down : (l : Level) (ls : List Level) (n : ℕ) (rows : List Row) → Placed (l ∷ ls) n rows → (l.kind ≡ Slot → Tells rows) → KeysDiffer rows → KeysDiffer (down l.kind l.size rows)
differ-down l ls n rows p t differ i j d a b q =
    let k : j < length rows = omega (arith, b, length-map rows (moved l.kind l.size rows)) in
    let r : Row = get_or rows i d in
    let s : Row = get_or rows j d in
    let mr : Mem r rows = Mem-at rows i d (omega arith) in
    let ms : Mem s rows = Mem-at rows j d k in
    let f : get_or (down l.kind l.size rows) i d ≡ moved l.kind l.size rows r = get_or-map (moved l.kind l.size rows) rows i d d (omega arith) in
    let g : get_or (down l.kind l.size rows) j d ≡ moved l.kind l.size rows s = get_or-map (moved l.kind l.size rows) rows j d d k in
    let e : key (moved l.kind l.size rows r) ≡ key (moved l.kind l.size rows s) = sym (ap key f) ∙ (q ∙ ap key g) in
    let at : place l.kind l.size rows r ≡ place l.kind l.size rows s = ap head e in
    let u = same_place l.kind l.size rows r s t mr ms (small-head l ls r.rest (p.in_range r mr)) (small-head l ls s.rest (p.in_range s ms)) at in
    let v : r.rest ≡ s.rest = same_rest l ls rows n p t r s mr ms at (ap tail e) in
    differ i j d a k (ap₂ (λ (x : ℕ) (cs : List ℕ). x ∷ cs) u.0 v)

slot-is : (k : Kind) → is_slot k ≡ true → k ≡ Slot
slot-is Full h = absurd (false≢true h)
slot-is Compressed h = absurd (false≢true h)
slot-is Listed h = absurd (false≢true h)
slot-is Slot h = refl

-- where only slot levels follow, the place tells the coordinates that follow
same_tail : (l : Level) (ls : List Level) (n : ℕ) (rows : List Row) → Placed (l ∷ ls) n rows → SlotsTell (l ∷ ls) rows → are_slots ls ≡ true → (r s : Row) → Mem r rows → Mem s rows
    → place l.kind l.size rows r ≡ place l.kind l.size rows s → tail r.rest ≡ tail s.rest
same_tail l [] n rows p t h r s mr ms e = no-rest (tail r.rest) (small-tail l [] r.rest (p.in_range r mr)) ∙ sym (no-rest (tail s.rest) (small-tail l [] s.rest (p.in_range s ms)))
same_tail l (k ∷ ls) n rows p t h r s mr ms e =
    let a = and_parts (is_slot k.kind) (are_slots ls) h in
    t.1.0 (slot-is k.kind a.0) (moved l.kind l.size rows r) (moved l.kind l.size rows s)
    (Mem-map (moved l.kind l.size rows) r rows mr) (Mem-map (moved l.kind l.size rows) s rows ms) e

pub nodes-differ : (l : Level) (ls : List Level) (n : ℕ) (rows : List Row) → Placed (l ∷ ls) n rows → SlotsTell (l ∷ ls) rows → KeysDiffer rows → l.kind ≡ Compressed → are_slots ls ≡ true → NodesDiffer rows
nodes-differ l ls n rows p t differ c h x lt q =
    let r : Row = row rows x in
    let s : Row = row rows (suc x) in
    let mr : Mem r rows = Mem-at rows x no_row (omega arith) in
    let ms : Mem s rows = Mem-at rows (suc x) no_row lt in
    let e : place l.kind l.size rows r ≡ place l.kind l.size rows s =
    ap (λ (k : Kind). place k l.size rows r) c ∙ (ap (rank (nodes Compressed rows)) q ∙ sym (ap (λ (k : Kind). place k l.size rows s) c)) in
    let b : head r.rest ≡ head s.rest = ap (λ (z : List ℕ). head (tail z)) q in
    let d : tail r.rest ≡ tail s.rest = same_tail l ls n rows p t h r s mr ms e in
    let v : r.rest ≡ s.rest = sym (head-tail l ls r.rest (p.in_range r mr)) ∙ (ap₂ (λ (y : ℕ) (cs : List ℕ). y ∷ cs) b d ∙ head-tail l ls s.rest (p.in_range s ms)) in
    differ x (suc x) no_row (omega arith) lt (ap₂ (λ (y : ℕ) (cs : List ℕ). y ∷ cs) (ap head q) v)

abbrev keys_of : List Row → List (List ℕ)
keys_of rows = map key rows

keys-apart : (rows : List Row) (d : Row) → KeysDiffer rows → AllPairs (λ a b. a ≢ b) (keys_of rows)
keys-apart rows d differ i j e l k q =
    let n : j < length rows = omega (arith, k, length-map rows key) in
    differ i j d l n (sym (get_or-map key rows i d e (omega arith)) ∙ (q ∙ get_or-map key rows j d e n))

pub differ-shuffled : (rows shuffled : List Row) → IsPermutation rows shuffled → KeysDiffer rows → KeysDiffer shuffled
differ-shuffled rows shuffled h differ i j d l k e =
    let q : AllPairs (λ a b. a ≢ b) (keys_of shuffled) =
    AllPairs-from_IsDistinct same-decides (keys_of shuffled)
    (IsDistinct-IsPermutation same same-flip (keys_of rows) (keys_of shuffled) (IsPermutation-map key rows shuffled h) (IsDistinct-from_AllPairs same-decides (keys_of rows) (keys-apart rows d differ))) in
    q i j (key d) l (omega (arith, k, length-map shuffled key)) (get_or-map key shuffled i d (key d) (omega arith) ∙ (e ∙ sym (get_or-map key shuffled j d (key d) k)))

-- ---- ready

pub ready-from : (ls : List Level) (n : ℕ) (rows : List Row) → Placed ls n rows → SlotsTell ls rows → KeysDiffer rows → AreOrdered ls rows → AreReady ls n rows
ready-from [] n rows p t differ o = record {
  below = λ r c. p.below r (contains-Mem rows r c);
  alike = λ r s cr cs e.
      let mr = contains-Mem rows r cr in
      let ms = contains-Mem rows s cs in
      p.apart r s mr ms e (no-rest r.rest (p.in_range r mr) ∙ sym (no-rest s.rest (p.in_range s ms)));
}
ready-from (l ∷ ls) n rows p t differ o = (
  record {
    below = λ r c. p.below r (contains-Mem rows r c);
    small = λ r c. small-head l ls r.rest (p.in_range r (contains-Mem rows r c));
    tells = λ e r s cr cs q. t.0 e r s (contains-Mem rows r cr) (contains-Mem rows s cs) q;
    rises = o.0;
    ascends = o.1;
    apart = λ e h. nodes-differ l ls n rows p t differ e h;
  },
  ready-from ls (count_below l.kind l.size n rows) (down l.kind l.size rows) (placed-down l ls n rows p t.0) t.1 (differ-down l ls n rows p t.0 differ) o.2,
)
