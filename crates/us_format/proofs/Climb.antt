-- A climb from an entry's last position gives the entry's coordinates.
use Rattle.std.proofs.Common.{◌≡◌, ℕ, zero, suc, ◌+◌, ◌/◌, ◌%◌, ◌<◌, ◌≤◌, ◌⊎◌, List, [], ◌∷◌, ◌++◌, map, length, drop, Bool, true, false, cond, ltb, eqb, sym, refl, ap, ◌∙◌, subst, inl, inr, arith, Some, ℤ, pos, count_by, lt-ltb, ltb-true, le-ltb, le-leb, eq-eqb, mul-le-mul_right}
use Rattle.std.proofs.lemmas.Bool.{or_left, and_from, lt-leb, and_right, cases_lt, not_from_false, cases_eq, ne_eqb, false≢true, not_from_true}
use Rattle.std.proofs.lemmas.List.FromFn.{get_or-map-range_with_len, length-map-range_with_len}
use lib.Arith.{digits_div, digits_mod}
use Rattle.us_format.proofs.Order.{Mem, Mem-map, Mem-of_map, Mem-different, lower-irrefl, lower-trans, lower-cases}
use Rattle.us_format.proofs.Counting.{count-le, count-lt, count-lt-length}
use Rattle.us_format.specs.Buffers.{buffers_at, cell_of, crd_buffer, level_buffers, pos_buffer}
use Rattle.us_format.specs.Climb.{climb, is_parent, parent_of, up, width}
use Rattle.us_format.specs.Kinds.{Level}
use Rattle.us_format.specs.Lists.{cell, first_from, head, lower, rank, tail}
use Rattle.us_format.specs.Packs.{Buffer, written}
use Rattle.us_format.specs.Positions.{last_place, Row, count_below, down, moved, node_of, nodes, place}
use Rattle.us_format.specs.declared.Kind.{Kind}
use Rattle.us_format.specs.declared.Kind.TheVariants.{Compressed, Full, Listed, Slot}

-- ---- ranks

pub rank-lt : (ns : List (List ℕ)) (n m : List ℕ) → Mem n ns → lower n m ≡ true → rank ns n < rank ns m
rank-lt ns n m h l = count-lt (λ k. lower k n) (λ k. lower k m) ns n (λ k _ e. lower-trans k n m e l) h (lower-irrefl n) l

pub rank-inj : (ns : List (List ℕ)) (n m : List ℕ) → Mem n ns → Mem m ns → rank ns n ≡ rank ns m → n ≡ m
rank-inj ns n m hn hm e = go (lower-cases n m)
  where
    go : ((lower n m ≡ true) ⊎ ((n ≡ m) ⊎ (lower m n ≡ true))) → n ≡ m
    go (inl l) = absurd (omega (arith, rank-lt ns n m hn l, e))
    go (inr (inl q)) = q
    go (inr (inr l)) = absurd (omega (arith, rank-lt ns m n hm l, e))

pub rank-bound : (ns : List (List ℕ)) (n : List ℕ) → Mem n ns → rank ns n < length ns
rank-bound ns n h = count-lt-length (λ k. lower k n) ns n h (lower-irrefl n)

-- ---- cells

pub cell_of-found : (at : Row → ℕ) (f : Row → ℤ) (rows : List Row) (r : Row) → Mem r rows → ((s : Row) → Mem s rows → at s ≡ at r → f s ≡ f r) → cell_of at f rows (at r) ≡ f r
cell_of-found at f [] r m h = absurd m
cell_of-found at f (s ∷ rows) r (inl e) h = rw (eq-eqb (at s) (at r) (ap at e)) (ap f e)
cell_of-found at f (s ∷ rows) r (inr m) h = go (cases_eq (at s) (at r)) (cell_of-found at f rows r m (λ t mt. h t (inr mt)))
  where
    go : ((at s ≡ at r) ⊎ (at s ≡ at r → ⊥)) → cell_of at f rows (at r) ≡ f r → cond (eqb (at s) (at r)) (f s) (cell_of at f rows (at r)) ≡ f r
    go (inl e) ih = rw (eq-eqb (at s) (at r) e) (h s (inl refl) e)
    go (inr e) ih = rw (ne_eqb (at s) (at r) e) ih

pub cell_of-none : (at : Row → ℕ) (f : Row → ℤ) (rows : List Row) (x : ℕ) → ((s : Row) → Mem s rows → at s ≡ x → ⊥) → cell_of at f rows x ≡ pos 0
cell_of-none at f [] x h = refl
cell_of-none at f (s ∷ rows) x h = rw (ne_eqb (at s) x (h s (inl refl))) (cell_of-none at f rows x (λ t mt. h t (inr mt)))

pub cell-written : (c : Buffer) (x : ℕ) → x < c.len → cell (written c) x ≡ c.cell x
cell-written c x h = get_or-map-range_with_len c.cell 0 c.len x x (pos 0) h (omega arith)

pub length-written : (c : Buffer) → length (written c) ≡ c.len
length-written c = length-map-range_with_len c.cell 0 c.len

-- ---- the parent

pub first_from-is : (test : ℕ → Bool) (p n q : ℕ) → p ≤ q → q < p + n → test q ≡ true → ((k : ℕ) → p ≤ k → k < q → test k ≡ false) → first_from test p n ≡ Some q
first_from-is test p zero q lo hi t f = absurd (omega arith)
first_from-is test p (suc n) q lo hi t f = go (cases_eq p q) (λ l. first_from-is test (suc p) n q l (omega arith) t (λ k a b. f k (omega arith) b))
  where
    go : ((p ≡ q) ⊎ (p ≡ q → ⊥)) → (suc p ≤ q → first_from test (suc p) n ≡ Some q) → cond (test p) (Some p) (first_from test (suc p) n) ≡ Some q
    go (inl e) ih = rw (subst (λ (z : ℕ). test z ≡ true) (sym e) t) (ap Some e)
    go (inr e) ih = rw (f p (omega arith) (omega arith)) (ih (omega arith))

-- how many nodes have a parent below x
pub before : List (List ℕ) → ℕ → ℕ
before ns x = count_by (λ m. ltb (head m) x) ns

pub lower-head : (m : List ℕ) (q : ℕ) (rest : List ℕ) → head m < q → lower m (q ∷ rest) ≡ true
lower-head [] q rest h = refl
lower-head (a ∷ m) q rest h = or_left _ _ (lt-ltb a q h)

pub head-lower : (m : List ℕ) (q : ℕ) (rest : List ℕ) → lower m (q ∷ rest) ≡ true → head m ≤ q
head-lower [] q rest h = omega arith
head-lower (a ∷ m) q rest h = go (cases_lt q a)
  where
    go : ((q < a) ⊎ (a ≤ q)) → a ≤ q
    go (inl l) = absurd (false≢true ((sym (rw (le-ltb a q (omega arith), ne_eqb a q (λ e. omega arith)) refl)) ∙ h))
    go (inr l) = l

pub before-le : (ns : List (List ℕ)) (p q : ℕ) (rest : List ℕ) → p ≤ q → before ns p ≤ rank ns (q ∷ rest)
unfolding before
before-le ns p q rest h = count-le (λ m. ltb (head m) p) (λ m. lower m (q ∷ rest)) ns (λ m _ e. lower-head m q rest (omega (arith, ltb-true (head m) p e)))

pub before-lt : (ns : List (List ℕ)) (q : ℕ) (rest : List ℕ) → Mem (q ∷ rest) ns → rank ns (q ∷ rest) < before ns (suc q)
unfolding before
before-lt ns q rest h = count-lt (λ m. lower m (q ∷ rest)) (λ m. ltb (head m) (suc q)) ns (q ∷ rest) (λ m _ e. lt-ltb (head m) (suc q) (omega (arith, head-lower m q rest e))) h (lower-irrefl (q ∷ rest)) (lt-ltb q (suc q) (omega arith))

pub pos-cell : (ns : List (List ℕ)) (n x : ℕ) → x ≤ n → cell (written (pos_buffer ns n)) x ≡ pos (before ns x)
unfolding before
pos-cell ns n x h = cell-written (pos_buffer ns n) x (omega arith)

pub parent-is : (ns : List (List ℕ)) (n q : ℕ) (rest : List ℕ) → Mem (q ∷ rest) ns → q < n → parent_of (written (pos_buffer ns n)) (rank ns (q ∷ rest)) ≡ Some q
parent-is ns n q rest m h =
    first_from-is (is_parent (written (pos_buffer ns n)) (rank ns (q ∷ rest))) 0 (length (written (pos_buffer ns n))) q (omega arith)
    (rw (length-written (pos_buffer ns n)) (omega arith))
    (rw (pos-cell ns n q (omega arith), pos-cell ns n (suc q) h) (and_from _ _ (le-leb _ _ (before-le ns q q rest (omega arith))) (not_from_false _ (lt-leb _ _ (before-lt ns q rest m)))))
    (λ k _ l. rw (pos-cell ns n (suc k) (omega arith)) (and_right _ _ (not_from_true _ (le-leb _ _ (before-le ns (suc k) q rest l)))))

-- ---- one level

-- the position tells the entry
abbrev pub Tells : List Row → Type 0
Tells rows = (r s : Row) → Mem r rows → Mem s rows → r.at ≡ s.at → r.rest ≡ s.rest

pub compressed-node : (rows : List Row) (r : Row) → Mem r rows → Mem (node_of Compressed r) (nodes Compressed rows)
compressed-node rows r m = Mem-different _ _ (Mem-map (node_of Compressed) r rows m)

pub listed-node : (rows : List Row) (r : Row) → Mem r rows → Mem (node_of Listed r) (nodes Listed rows)
listed-node rows r m = Mem-map (node_of Listed) r rows m

-- two entries at one place of a level stood at one place and have one coordinate
pub same_place : (kind : Kind) (size : ℕ) (rows : List Row) (r s : Row) → (kind ≡ Slot → Tells rows) → Mem r rows → Mem s rows → head r.rest < size → head s.rest < size
    → place kind size rows r ≡ place kind size rows s → (r.at ≡ s.at) × (head r.rest ≡ head s.rest)
same_place Full size rows r s t mr ms lr ls e =
    (sym (digits_div r.at lr) ∙ ap (λ n. n / size) e ∙ digits_div s.at ls, sym (digits_mod r.at lr) ∙ ap (λ n. n % size) e ∙ digits_mod s.at ls)
same_place Compressed size rows r s t mr ms lr ls e =
    let q : node_of Compressed r ≡ node_of Compressed s = rank-inj (nodes Compressed rows) _ _ (compressed-node rows r mr) (compressed-node rows s ms) e in
    (ap head q, ap (λ l. head (tail l)) q)
same_place Listed size rows r s t mr ms lr ls e =
    let q : node_of Listed r ≡ node_of Listed s = rank-inj (nodes Listed rows) _ _ (listed-node rows r mr) (listed-node rows s ms) e in
    (ap head q, ap head (ap tail q))
same_place Slot size rows r s t mr ms lr ls e = (e, ap head (t refl r s mr ms e))

pub place-bound : (kind : Kind) (size n : ℕ) (rows : List Row) (r : Row) → Mem r rows → head r.rest < size → r.at < n → place kind size rows r < count_below kind size n rows
place-bound Full size n rows r m h l = omega (arith, mul-le-mul_right size l)
place-bound Compressed size n rows r m h l = rank-bound (nodes Compressed rows) _ (compressed-node rows r m)
place-bound Listed size n rows r m h l = rank-bound (nodes Listed rows) _ (listed-node rows r m)
place-bound Slot size n rows r m h l = l

pub crd-cell : (kind : Kind) (size n : ℕ) (rows : List Row) (r : Row) → (kind ≡ Slot → Tells rows) → ((s : Row) → Mem s rows → head s.rest < size) → Mem r rows → r.at < n
    → cell (written (crd_buffer kind size n rows)) (place kind size rows r) ≡ pos (head r.rest)
crd-cell kind size n rows r t small m l =
    cell-written (crd_buffer kind size n rows) (place kind size rows r) (place-bound kind size n rows r m (small r m) l)
    ∙ cell_of-found (place kind size rows) (λ s. pos (head s.rest)) rows r m (λ s ms e. ap pos (same_place kind size rows s r t ms m (small s ms) (small r m) e).1)

-- a step up from the place of an entry gives its place above and its coordinate
pub up-ok : (kind : Kind) (size n : ℕ) (rows : List Row) (more : List Buffer) (r : Row) → (kind ≡ Slot → Tells rows) → ((s : Row) → Mem s rows → head s.rest < size) → Mem r rows → r.at < n
    → up kind size (map written (buffers_at kind size n rows ++ more)) (place kind size rows r) ≡ Some (r.at, head r.rest)
up-ok Full size n rows more r t small m l =
    rw (digits_mod r.at (small r m), digits_div r.at (small r m), lt-ltb (head r.rest) size (small r m)) refl
up-ok Compressed size n rows more r t small m l =
    rw (crd-cell Compressed size n rows r t small m l, lt-ltb (head r.rest) size (small r m), parent-is (nodes Compressed rows) n r.at (head r.rest ∷ []) (compressed-node rows r m) l) refl
up-ok Listed size n rows more r t small m l =
    rw (crd-cell Listed size n rows r t small m l, lt-ltb (head r.rest) size (small r m), parent-is (nodes Listed rows) n r.at r.rest (listed-node rows r m) l) refl
up-ok Slot size n rows more r t small m l =
    rw (crd-cell Slot size n rows r t small m l, lt-ltb (head r.rest) size (small r m)) refl

-- ---- all levels

-- one coordinate for each level, below its size
abbrev pub InRange : List Level → List ℕ → Type 0
InRange [] [] = Unit {0}
InRange [] (c ∷ cs) = ⊥
InRange (l ∷ ls) [] = ⊥
InRange (l ∷ ls) (c ∷ cs) = (c < l.size) × InRange ls cs

-- the positions so far are below n, what is left of the coordinates is in range, and no two entries are alike in both
pub record Placed (ls : List Level) (n : ℕ) (rows : List Row) : Type 0 where
  pub in_range : (r : Row) → Mem r rows → InRange ls r.rest
  pub below : (r : Row) → Mem r rows → r.at < n
  pub apart : (r s : Row) → Mem r rows → Mem s rows → r.at ≡ s.at → r.rest ≡ s.rest → r.value ≡ s.value

-- where a slot level stands, the position tells the entry
abbrev pub SlotsTell : List Level → List Row → Type 0
SlotsTell [] rows = Unit {0}
SlotsTell (l ∷ ls) rows = (l.kind ≡ Slot → Tells rows) × SlotsTell ls (down l.kind l.size rows)

pub small-head : (l : Level) (ls : List Level) (cs : List ℕ) → InRange (l ∷ ls) cs → head cs < l.size
small-head l ls [] h = absurd h
small-head l ls (c ∷ cs) h = h.0

pub small-tail : (l : Level) (ls : List Level) (cs : List ℕ) → InRange (l ∷ ls) cs → InRange ls (tail cs)
small-tail l ls [] h = absurd h
small-tail l ls (c ∷ cs) h = h.1

pub head-tail : (l : Level) (ls : List Level) (cs : List ℕ) → InRange (l ∷ ls) cs → head cs ∷ tail cs ≡ cs
head-tail l ls [] h = absurd h
head-tail l ls (c ∷ cs) h = refl

pub no-rest : (cs : List ℕ) → InRange [] cs → cs ≡ []
no-rest [] h = refl
no-rest (c ∷ cs) h = absurd h

-- the rest of an entry is known from its place and what follows
pub same_rest : (l : Level) (ls : List Level) (rows : List Row) (n : ℕ) → Placed (l ∷ ls) n rows → (l.kind ≡ Slot → Tells rows) → (r s : Row) → Mem r rows → Mem s rows
    → place l.kind l.size rows r ≡ place l.kind l.size rows s → tail r.rest ≡ tail s.rest → r.rest ≡ s.rest
same_rest l ls rows n p t r s mr ms e f =
    let q : (r.at ≡ s.at) × (head r.rest ≡ head s.rest) = same_place l.kind l.size rows r s t mr ms (small-head l ls r.rest (p.in_range r mr)) (small-head l ls s.rest (p.in_range s ms)) e in
    let h : head r.rest ≡ head s.rest = q.1 in
    sym (head-tail l ls r.rest (p.in_range r mr)) ∙ ap (λ c. c ∷ tail r.rest) h ∙ ap (λ cs. head s.rest ∷ cs) f ∙ head-tail l ls s.rest (p.in_range s ms)

pub placed-down : (l : Level) (ls : List Level) (n : ℕ) (rows : List Row) → Placed (l ∷ ls) n rows → (l.kind ≡ Slot → Tells rows) → Placed ls (count_below l.kind l.size n rows) (down l.kind l.size rows)
placed-down l ls n rows p t = record {
  in_range = λ r m. let f = Mem-of_map (moved l.kind l.size rows) r rows m in subst (λ (z : Row). InRange ls z.rest) f.2 (small-tail l ls f.0.rest (p.in_range f.0 f.1));
  below = λ r m. let f = Mem-of_map (moved l.kind l.size rows) r rows m in
      subst (λ (z : Row). z.at < count_below l.kind l.size n rows) f.2 (place-bound l.kind l.size n rows f.0 f.1 (small-head l ls f.0.rest (p.in_range f.0 f.1)) (p.below f.0 f.1));
  apart = λ r s mr ms ea er.
      let f = Mem-of_map (moved l.kind l.size rows) r rows mr in
      let g = Mem-of_map (moved l.kind l.size rows) s rows ms in
      let e : place l.kind l.size rows f.0 ≡ place l.kind l.size rows g.0 = ap (λ (z : Row). z.at) f.2 ∙ ea ∙ sym (ap (λ (z : Row). z.at) g.2) in
      let h : tail f.0.rest ≡ tail g.0.rest = ap (λ (z : Row). z.rest) f.2 ∙ er ∙ sym (ap (λ (z : Row). z.rest) g.2) in
      let sm : head f.0.rest < l.size = small-head l ls f.0.rest (p.in_range f.0 f.1) in
      let sn : head g.0.rest < l.size = small-head l ls g.0.rest (p.in_range g.0 g.1) in
      sym (ap (λ (z : Row). z.value) f.2)
      ∙ p.apart f.0 g.0 f.1 g.1 (same_place l.kind l.size rows f.0 g.0 t f.1 g.1 sm sn e).0 (same_rest l ls rows n p t f.0 g.0 f.1 g.1 e h)
      ∙ ap (λ (z : Row). z.value) g.2;
}

pub drop-width : (kind : Kind) (size n : ℕ) (rows : List Row) (more : List Buffer) → drop (width kind) (map written (buffers_at kind size n rows ++ more)) ≡ map written more
drop-width Full size n rows more = refl
drop-width Compressed size n rows more = refl
drop-width Listed size n rows more = refl
drop-width Slot size n rows more = refl

pub climb-law : (ls : List Level) (n : ℕ) (rows : List Row) (r : Row) → Placed ls n rows → SlotsTell ls rows → Mem r rows
    → climb ls (map written (level_buffers ls n rows)) (last_place ls rows r) ≡ Some (r.at, r.rest)
climb-law [] n rows r p t m = rw (no-rest r.rest (p.in_range r m)) refl
climb-law (l ∷ ls) n rows r p t m =
    rw (
      drop-width l.kind l.size n rows (level_buffers ls (count_below l.kind l.size n rows) (down l.kind l.size rows)),
      climb-law ls (count_below l.kind l.size n rows) (down l.kind l.size rows) (moved l.kind l.size rows r) (placed-down l ls n rows p t.0) t.1 (Mem-map (moved l.kind l.size rows) r rows m),
      up-ok l.kind l.size n rows (level_buffers ls (count_below l.kind l.size n rows) (down l.kind l.size rows)) r t.0 (λ s ms. small-head l ls s.rest (p.in_range s ms)) m (p.below r m),
    )
    (ap (λ cs. Some (r.at, cs)) (head-tail l ls r.rest (p.in_range r m)))
