-- Rows in ascending order that are placed at their levels are ready to go down.
use Rattle.std.specs.List.Sorted.{IsPermutation}
use Rattle.std.proofs.Common.{◌≡◌, ℕ, ◌<◌, List, [], ◌∷◌, length, get_or, true, sym, ap, ◌∙◌, arith, All}
use Rattle.std.proofs.lemmas.List.{get_or-map, length-map}
use Rattle.std.proofs.lemmas.List.Sorted.{IsPermutation-sym}
use Rattle.us_format.specs.Kinds.{Level}
use Rattle.us_format.specs.Lists.{head, lower, tail}
use Rattle.us_format.specs.Positions.{Row, count_below, down, moved, place}
use Rattle.us_format.specs.declared.Kind.TheVariants.{Slot}
use Rattle.us_format.proofs.Order.{Mem}
use Rattle.us_format.proofs.Ascending.{level-ascends}
use Rattle.us_format.proofs.Climb.{Placed, SlotsTell, Tells, head-tail, no-rest, placed-down, small-head}
use Rattle.us_format.proofs.Members.{contains-Mem}
use Rattle.us_format.proofs.Shuffled.{Mem-shuffled, shuffled-down}
use Rattle.us_build.specs.Items.{IsAscending, key}
use Rattle.us_build.specs.Ready.{AreReady}
use Rattle.us_build.proofs.Counts.{Mem-at}

-- ---- in another order

pub placed-shuffled : (ls : List Level) (n : ℕ) (rows shuffled : List Row) → IsPermutation rows shuffled → Placed ls n rows → Placed ls n shuffled
placed-shuffled ls n rows shuffled h p =
    let back : (r : Row) → Mem r shuffled → Mem r rows = λ r m. Mem-shuffled shuffled rows r (IsPermutation-sym rows shuffled h) m in
    record {
      in_range = λ r m. p.in_range r (back r m);
      below = λ r m. p.below r (back r m);
      apart = λ r s mr ms a b. p.apart r s (back r mr) (back s ms) a b;
    }

pub tells-shuffled : (rows shuffled : List Row) → IsPermutation rows shuffled → Tells rows → Tells shuffled
tells-shuffled rows shuffled h t r s mr ms e =
    t r s (Mem-shuffled shuffled rows r (IsPermutation-sym rows shuffled h) mr) (Mem-shuffled shuffled rows s (IsPermutation-sym rows shuffled h) ms) e

pub slots-shuffled : (ls : List Level) (rows shuffled : List Row) → IsPermutation rows shuffled → SlotsTell ls rows → SlotsTell ls shuffled
slots-shuffled [] rows shuffled h t = tt
slots-shuffled (l ∷ ls) rows shuffled h t = (
  (λ e. tells-shuffled rows shuffled h (t.0 e)),
  slots-shuffled ls (down l.kind l.size rows) (down l.kind l.size shuffled) (shuffled-down l.kind l.size rows shuffled h) t.1,
)

-- ---- on the way down

pub all-members : {A : Type 0} (P : A → Type 0) (xs : List A) → ((x : A) → Mem x xs → P x) → All P xs
all-members P xs h k d l = h (get_or xs k d) (Mem-at xs k d l)

pub ascending-down : (l : Level) (ls : List Level) (n : ℕ) (rows : List Row) → Placed (l ∷ ls) n rows → (l.kind ≡ Slot → Tells rows) → IsAscending rows → IsAscending (down l.kind l.size rows)
ascending-down l ls n rows p t up i j d a b =
    let k : j < length rows = omega (arith, b, length-map rows (moved l.kind l.size rows)) in
    let r : Row = get_or rows i d in
    let s : Row = get_or rows j d in
    let mr : Mem r rows = Mem-at rows i d (omega arith) in
    let ms : Mem s rows = Mem-at rows j d k in
    let f : get_or (down l.kind l.size rows) i d ≡ moved l.kind l.size rows r = get_or-map (moved l.kind l.size rows) rows i d d (omega arith) in
    let g : get_or (down l.kind l.size rows) j d ≡ moved l.kind l.size rows s = get_or-map (moved l.kind l.size rows) rows j d d k in
    let h : lower (place l.kind l.size rows r ∷ tail r.rest) (place l.kind l.size rows s ∷ tail s.rest) ≡ true =
    level-ascends l.kind l.size rows r s (head r.rest) (head s.rest) (tail r.rest) (tail s.rest) (sym (head-tail l ls r.rest (p.in_range r mr))) (sym (head-tail l ls s.rest (p.in_range s ms)))
    (small-head l ls r.rest (p.in_range r mr)) (small-head l ls s.rest (p.in_range s ms)) t mr ms (up i j d a k) in
    ap (λ (x : Row). lower (key x) (key (get_or (down l.kind l.size rows) j d))) f ∙ ap (λ (y : Row). lower (key (moved l.kind l.size rows r)) (key y)) g ∙ h

pub are-ready : (ls : List Level) (n : ℕ) (rows : List Row) → Placed ls n rows → SlotsTell ls rows → IsAscending rows → AreReady ls n rows
are-ready [] n rows p t up = record {
  below = all-members (λ r. r.at < n) rows p.below;
  alike = λ i j d a b e.
      let r : Row = get_or rows i d in
      let s : Row = get_or rows j d in
      let mr : Mem r rows = Mem-at rows i d (omega arith) in
      let ms : Mem s rows = Mem-at rows j d b in
      p.apart r s mr ms e (no-rest r.rest (p.in_range r mr) ∙ sym (no-rest s.rest (p.in_range s ms)));
}
are-ready (l ∷ ls) n rows p t up = (
  record {
    ascending = up;
    below = all-members (λ r. r.at < n) rows p.below;
    small = all-members (λ r. head r.rest < l.size) rows (λ r m. small-head l ls r.rest (p.in_range r m));
    tells = λ e r s cr cs q. t.0 e r s (contains-Mem rows r cr) (contains-Mem rows s cs) q;
  },
  are-ready ls (count_below l.kind l.size n rows) (down l.kind l.size rows) (placed-down l ls n rows p t.0) t.1 (ascending-down l ls n rows p t.0 up),
)
