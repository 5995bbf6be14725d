-- What a part keeps doesn't depend on the order in which its entries come.
use Rattle.std.specs.List.Sorted.{IsPermutation}
use Rattle.std.proofs.Common.{◌≡◌, ℕ, ◌+◌, ◌<◌, ◌≤◌, ◌⊎◌, List, [], ◌∷◌, map, length, Bool, true, false, cond, not, sym, refl, ap, ◌∙◌, subst, inl, inr, arith, ℤ, pos, count_by, filter, ltb, eq-eqb}
use Rattle.std.proofs.Math.Path.{fun_ext}
use Rattle.std.proofs.lemmas.Bool.{false≢true, and_from, cases_eq}
use Rattle.std.proofs.lemmas.List.Sorted.{IsPermutation-map, IsPermutation-sym, Contains-permutation, sum_by-IsPermutation}
use Rattle.us_format.proofs.Order.{Mem, Mem-filter, Mem-different, same-true}
use Rattle.us_format.proofs.Members.{contains-Mem, Mem-contains}
use Rattle.us_format.proofs.Collect.{Distinct}
use Rattle.us_format.proofs.Counting.{count-cons}
use Rattle.us_format.proofs.Climb.{Placed, SlotsTell, Tells, cell_of-found, cell_of-none, same_place, small-head, placed-down, no-rest}
use Rattle.us_format.specs.Buffers.{buffers_at, cell_of, crd_buffer, level_buffers, pos_buffer, val_buffer}
use Rattle.us_format.specs.Kinds.{Level}
use Rattle.us_format.specs.Lists.{different, head, lower, same, tail}
use Rattle.us_format.specs.Packs.{Buffer, written}
use Rattle.us_format.specs.Positions.{Row, count_below, counts, down, moved, node_of, nodes, place}
use Rattle.us_format.specs.declared.Kind.{Kind}
use Rattle.us_format.specs.declared.Kind.TheVariants.{Compressed, Full, Listed, Slot}

-- ---- members

pub Mem-shuffled : {A : Type 0} (xs ys : List A) (x : A) → IsPermutation xs ys → Mem x xs → Mem x ys
Mem-shuffled xs ys x h m = contains-Mem ys x (Contains-permutation xs ys x h (Mem-contains xs x m))

pub Mem-of_filter : {A : Type 0} (p : A → Bool) (x : A) (xs : List A) → Mem x (filter p xs) → Mem x xs × (p x ≡ true)
Mem-of_filter p x [] h = absurd h
Mem-of_filter {A} p x (y ∷ ys) h = go (p y) refl h (Mem-of_filter p x ys)
  where
    go : (b : Bool) → p y ≡ b → Mem x (cond b (y ∷ filter p ys) (filter p ys)) → (Mem x (filter p ys) → Mem x ys × (p x ≡ true)) → Mem x (y ∷ ys) × (p x ≡ true)
    go true q (inl e) ih = (inl e, subst (λ (z : A). p z ≡ true) e q)
    go true q (inr m) ih = (inr (ih m).0, (ih m).1)
    go false q m ih = (inr (ih m).0, (ih m).1)

pub same-self : (x : List ℕ) → same x x ≡ true
same-self [] = refl
same-self (x ∷ xs) = and_from _ _ (eq-eqb x x refl) (same-self xs)

-- ---- each list once

pub Mem-of_different : (x : List ℕ) (xs : List (List ℕ)) → Mem x (different xs) → Mem x xs
Mem-of_different x [] h = h
Mem-of_different x (y ∷ ys) (inl e) = inl e
Mem-of_different x (y ∷ ys) (inr m) = inr (Mem-of_different x ys (Mem-of_filter (λ z. not (same y z)) x (different ys) m).0)

pub distinct-filter : {A : Type 0} (p : A → Bool) (xs : List A) → Distinct xs → Distinct (filter p xs)
distinct-filter p [] d = tt
distinct-filter p (x ∷ xs) d = go (p x) (distinct-filter p xs d.1)
  where
    go : (b : Bool) → Distinct (filter p xs) → Distinct (cond b (x ∷ filter p xs) (filter p xs))
    go true e = ((λ m. d.0 (Mem-of_filter p x xs m).0), e)
    go false e = e

pub distinct-different : (xs : List (List ℕ)) → Distinct (different xs)
distinct-different [] = tt
distinct-different (x ∷ xs) = (
  (λ m. false≢true (sym (ap not (same-self x)) ∙ (Mem-of_filter (λ y. not (same x y)) x (different xs) m).1)),
  distinct-filter (λ y. not (same x y)) (different xs) (distinct-different xs),
)

-- ---- counts of lists that have no list twice

pub count-filter : {A : Type 0} (p q : A → Bool) (xs : List A) → count_by p (filter q xs) ≤ count_by p xs
count-filter p q [] = omega arith
count-filter p q (x ∷ xs) = go (q x) (count-filter p q xs)
  where
    go : (b : Bool) → count_by p (filter q xs) ≤ count_by p xs → count_by p (cond b (x ∷ filter q xs) (filter q xs)) ≤ count_by p (x ∷ xs)
    go true ih = rw (count-cons p x (filter q xs), count-cons p x xs) (omega (arith, ih))
    go false ih = rw (count-cons p x xs) (omega (arith, ih))

pub count-without : (p : List ℕ → Bool) (x : List ℕ) (ys : List (List ℕ)) → Mem x ys → cond (p x) 1 0 + count_by p (filter (λ y. not (same x y)) ys) ≤ count_by p ys
count-without p x [] m = absurd m
count-without p x (y ∷ ys) m = go (same x y) refl m (count-without p x ys)
  where
    here : y ≡ x → cond (p x) 1 0 + count_by p (filter (λ y. not (same x y)) ys) ≤ count_by p (y ∷ ys)
    here e = rw (count-cons p y ys, e) (omega (arith, count-filter p (λ y. not (same x y)) ys))

    go : (b : Bool) → same x y ≡ b → Mem x (y ∷ ys) → (Mem x ys → cond (p x) 1 0 + count_by p (filter (λ y. not (same x y)) ys) ≤ count_by p ys)
        → cond (p x) 1 0 + count_by p (cond (not b) (y ∷ filter (λ y. not (same x y)) ys) (filter (λ y. not (same x y)) ys)) ≤ count_by p (y ∷ ys)
    go true q k ih = here (sym (same-true x y q))
    go false q (inl e) ih = absurd (false≢true (sym q ∙ subst (λ (z : List ℕ). same x z ≡ true) (sym e) (same-self x)))
    go false q (inr k) ih = rw (count-cons p y (filter (λ y. not (same x y)) ys), count-cons p y ys) (omega (arith, ih k))

pub count-within : (p : List ℕ → Bool) (xs ys : List (List ℕ)) → Distinct xs → ((x : List ℕ) → Mem x xs → Mem x ys) → count_by p xs ≤ count_by p ys
count-within p [] ys d h = omega arith
count-within p (x ∷ xs) ys d h =
    rw (count-cons p x xs)
    (omega (arith, count-without p x ys (h x (inl refl)), count-within p xs (filter (λ y. not (same x y)) ys) d.1 (λ z m. Mem-filter (λ y. not (same x y)) z ys (h z (inr m)) (other z m (same x z) refl))))
  where
    other : (z : List ℕ) → Mem z xs → (b : Bool) → same x z ≡ b → not (same x z) ≡ true
    other z m true q = absurd (d.0 (subst (λ (w : List ℕ). Mem w xs) (sym (same-true x z q)) m))
    other z m false q = ap not q

pub count-different : (p : List ℕ → Bool) (xs ys : List (List ℕ)) → IsPermutation xs ys → count_by p (different ys) ≡ count_by p (different xs)
count-different p xs ys h =
    let a : count_by p (different ys) ≤ count_by p (different xs) =
    count-within p (different ys) (different xs) (distinct-different ys) (λ x m. Mem-different x xs (Mem-shuffled ys xs x (IsPermutation-sym xs ys h) (Mem-of_different x ys m))) in
    let b : count_by p (different xs) ≤ count_by p (different ys) =
    count-within p (different xs) (different ys) (distinct-different xs) (λ x m. Mem-different x ys (Mem-shuffled xs ys x h (Mem-of_different x xs m))) in
    omega (arith, a, b)

pub count-all : {A : Type 0} (xs : List A) → count_by (λ _. true) xs ≡ length xs
count-all [] = refl
count-all (x ∷ xs) = count-cons (λ _. true) x xs ∙ omega (arith, count-all xs)

-- ---- one level

pub count-nodes : (kind : Kind) (p : List ℕ → Bool) (rows shuffled : List Row) → IsPermutation rows shuffled → count_by p (nodes kind shuffled) ≡ count_by p (nodes kind rows)
count-nodes Full p rows shuffled h = count-different p (map (node_of Full) rows) (map (node_of Full) shuffled) (IsPermutation-map (node_of Full) rows shuffled h)
count-nodes Compressed p rows shuffled h = count-different p (map (node_of Compressed) rows) (map (node_of Compressed) shuffled) (IsPermutation-map (node_of Compressed) rows shuffled h)
count-nodes Listed p rows shuffled h = sum_by-IsPermutation (λ x. cond (p x) 1 0) (map (node_of Listed) rows) (map (node_of Listed) shuffled) (IsPermutation-map (node_of Listed) rows shuffled h)
count-nodes Slot p rows shuffled h = count-different p (map (node_of Slot) rows) (map (node_of Slot) shuffled) (IsPermutation-map (node_of Slot) rows shuffled h)

pub length-nodes : (kind : Kind) (rows shuffled : List Row) → IsPermutation rows shuffled → length (nodes kind shuffled) ≡ length (nodes kind rows)
length-nodes kind rows shuffled h = sym (count-all (nodes kind shuffled)) ∙ count-nodes kind (λ _. true) rows shuffled h ∙ count-all (nodes kind rows)

pub shuffled-place : (kind : Kind) (size : ℕ) (rows shuffled : List Row) → IsPermutation rows shuffled → (r : Row) → place kind size shuffled r ≡ place kind size rows r
shuffled-place Full size rows shuffled h r = refl
shuffled-place Compressed size rows shuffled h r = count-nodes Compressed (λ m. lower m (node_of Compressed r)) rows shuffled h
shuffled-place Listed size rows shuffled h r = count-nodes Listed (λ m. lower m (node_of Listed r)) rows shuffled h
shuffled-place Slot size rows shuffled h r = refl

pub shuffled-count_below : (kind : Kind) (size n : ℕ) (rows shuffled : List Row) → IsPermutation rows shuffled → count_below kind size n shuffled ≡ count_below kind size n rows
shuffled-count_below Full size n rows shuffled h = refl
shuffled-count_below Compressed size n rows shuffled h = length-nodes Compressed rows shuffled h
shuffled-count_below Listed size n rows shuffled h = length-nodes Listed rows shuffled h
shuffled-count_below Slot size n rows shuffled h = refl

pub shuffled-down : (kind : Kind) (size : ℕ) (rows shuffled : List Row) → IsPermutation rows shuffled → IsPermutation (down kind size rows) (down kind size shuffled)
shuffled-down kind size rows shuffled h =
    let e : moved kind size rows ≡ moved kind size shuffled = fun_ext (λ r. ap (λ (x : ℕ). record { at = x; rest = tail r.rest; value = r.value }) (sym (shuffled-place kind size rows shuffled h r))) in
    subst (λ (f : Row → Row). IsPermutation (down kind size rows) (map f shuffled)) e (IsPermutation-map (moved kind size rows) rows shuffled h)

-- ---- counts

pub shuffled-counts : (ls : List Level) (n : ℕ) (rows shuffled : List Row) → IsPermutation rows shuffled → counts ls n shuffled ≡ counts ls n rows
shuffled-counts [] n rows shuffled h = refl
shuffled-counts (l ∷ ls) n rows shuffled h =
    let e : count_below l.kind l.size n shuffled ≡ count_below l.kind l.size n rows = shuffled-count_below l.kind l.size n rows shuffled h in
    ap (λ (x : ℕ). x ∷ counts ls x (down l.kind l.size shuffled)) e
    ∙ ap (λ (xs : List ℕ). count_below l.kind l.size n rows ∷ xs) (shuffled-counts ls (count_below l.kind l.size n rows) (down l.kind l.size rows) (down l.kind l.size shuffled) (shuffled-down l.kind l.size rows shuffled h))

-- ---- cells

pub is-anywhere : (at : Row → ℕ) (rows : List Row) (x : ℕ) → ((r : Row) × Mem r rows × (at r ≡ x)) ⊎ ((r : Row) → Mem r rows → at r ≡ x → ⊥)
is-anywhere at [] x = inr (λ r m e. m)
is-anywhere at (s ∷ rows) x = go (cases_eq (at s) x) (is-anywhere at rows x)
  where
    go : ((at s ≡ x) ⊎ (at s ≡ x → ⊥)) → (((r : Row) × Mem r rows × (at r ≡ x)) ⊎ ((r : Row) → Mem r rows → at r ≡ x → ⊥))
        → ((r : Row) × Mem r (s ∷ rows) × (at r ≡ x)) ⊎ ((r : Row) → Mem r (s ∷ rows) → at r ≡ x → ⊥)
    go (inl e) ih = inl (s, inl refl, e)
    go (inr n) (inl t) = inl (t.0, inr t.1, t.2)
    go (inr n) (inr f) = inr (λ r m e. none r m e)
      where
        none : (r : Row) → Mem r (s ∷ rows) → at r ≡ x → ⊥
        none r (inl q) e = n (ap at q ∙ e)
        none r (inr m) e = f r m e

-- where rows at one place have one number, the order of the rows doesn't matter
pub shuffled-cell_of : (at : Row → ℕ) (f : Row → ℤ) (rows shuffled : List Row) → IsPermutation rows shuffled → ((r s : Row) → Mem r rows → Mem s rows → at r ≡ at s → f r ≡ f s)
    → (x : ℕ) → cell_of at f shuffled x ≡ cell_of at f rows x
shuffled-cell_of at f rows shuffled h one x = go (is-anywhere at rows x)
  where
    back : (r : Row) → Mem r shuffled → Mem r rows
    back r m = Mem-shuffled shuffled rows r (IsPermutation-sym rows shuffled h) m

    go : (((r : Row) × Mem r rows × (at r ≡ x)) ⊎ ((r : Row) → Mem r rows → at r ≡ x → ⊥)) → cell_of at f shuffled x ≡ cell_of at f rows x
    go (inl (r, m, e)) =
        subst (λ (y : ℕ). cell_of at f shuffled y ≡ cell_of at f rows y) e
        (cell_of-found at f shuffled r (Mem-shuffled rows shuffled r h m) (λ s ms q. one s r (back s ms) m q) ∙ sym (cell_of-found at f rows r m (λ s ms q. one s r ms m q)))
    go (inr none) = cell_of-none at f shuffled x (λ s ms q. none s (back s ms) q) ∙ sym (cell_of-none at f rows x none)

-- ---- buffers

pub buffer-same : (a b : Buffer) → a.len ≡ b.len → ((x : ℕ) → a.cell x ≡ b.cell x) → a ≡ b
buffer-same a b e f =
    let g : a.cell ≡ b.cell = fun_ext f in
    ap (λ (n : ℕ). record { len = n; cell = a.cell }) e ∙ ap (λ (c : ℕ → ℤ). record { len = b.len; cell = c }) g

pub shuffled-pos_buffer : (kind : Kind) (n : ℕ) (rows shuffled : List Row) → IsPermutation rows shuffled → pos_buffer (nodes kind shuffled) n ≡ pos_buffer (nodes kind rows) n
shuffled-pos_buffer kind n rows shuffled h = buffer-same _ _ refl (λ x. ap pos (count-nodes kind (λ m. ltb (head m) x) rows shuffled h))

pub shuffled-crd_buffer : (kind : Kind) (size n : ℕ) (rows shuffled : List Row) → IsPermutation rows shuffled → (kind ≡ Slot → Tells rows) → ((s : Row) → Mem s rows → head s.rest < size)
    → crd_buffer kind size n shuffled ≡ crd_buffer kind size n rows
shuffled-crd_buffer kind size n rows shuffled h t small =
    let e : place kind size shuffled ≡ place kind size rows = fun_ext (shuffled-place kind size rows shuffled h) in
    buffer-same _ _ (shuffled-count_below kind size n rows shuffled h)
    (λ x. ap (λ (at : Row → ℕ). cell_of at (λ r. pos (head r.rest)) shuffled x) e
    ∙ shuffled-cell_of (place kind size rows) (λ r. pos (head r.rest)) rows shuffled h (λ r s mr ms q. ap pos (same_place kind size rows r s t mr ms (small r mr) (small s ms) q).1) x)

pub shuffled-buffers_at : (kind : Kind) (size n : ℕ) (rows shuffled : List Row) → IsPermutation rows shuffled → (kind ≡ Slot → Tells rows) → ((s : Row) → Mem s rows → head s.rest < size)
    → buffers_at kind size n shuffled ≡ buffers_at kind size n rows
shuffled-buffers_at Full size n rows shuffled h t small = refl
shuffled-buffers_at Compressed size n rows shuffled h t small =
    let p : pos_buffer (nodes Compressed shuffled) n ≡ pos_buffer (nodes Compressed rows) n = shuffled-pos_buffer Compressed n rows shuffled h in
    let c : crd_buffer Compressed size n shuffled ≡ crd_buffer Compressed size n rows = shuffled-crd_buffer Compressed size n rows shuffled h t small in
    cc
shuffled-buffers_at Listed size n rows shuffled h t small =
    let p : pos_buffer (nodes Listed shuffled) n ≡ pos_buffer (nodes Listed rows) n = shuffled-pos_buffer Listed n rows shuffled h in
    let c : crd_buffer Listed size n shuffled ≡ crd_buffer Listed size n rows = shuffled-crd_buffer Listed size n rows shuffled h t small in
    cc
shuffled-buffers_at Slot size n rows shuffled h t small =
    let c : crd_buffer Slot size n shuffled ≡ crd_buffer Slot size n rows = shuffled-crd_buffer Slot size n rows shuffled h t small in
    cc

pub shuffled-level_buffers : (ls : List Level) (n : ℕ) (rows shuffled : List Row) → IsPermutation rows shuffled → Placed ls n rows → SlotsTell ls rows → level_buffers ls n shuffled ≡ level_buffers ls n rows
shuffled-level_buffers [] n rows shuffled h p t =
    let v : val_buffer n shuffled ≡ val_buffer n rows =
    buffer-same _ _ refl (shuffled-cell_of (λ r. r.at) (λ r. r.value) rows shuffled h (λ r s mr ms q. p.apart r s mr ms q (no-rest r.rest (p.in_range r mr) ∙ sym (no-rest s.rest (p.in_range s ms))))) in
    ap (λ (b : Buffer). b ∷ []) v
shuffled-level_buffers (l ∷ ls) n rows shuffled h p t =
    let a : buffers_at l.kind l.size n shuffled ≡ buffers_at l.kind l.size n rows = shuffled-buffers_at l.kind l.size n rows shuffled h t.0 (λ s ms. small-head l ls s.rest (p.in_range s ms)) in
    let e : count_below l.kind l.size n shuffled ≡ count_below l.kind l.size n rows = shuffled-count_below l.kind l.size n rows shuffled h in
    let b : level_buffers ls (count_below l.kind l.size n rows) (down l.kind l.size shuffled) ≡ level_buffers ls (count_below l.kind l.size n rows) (down l.kind l.size rows) =
    shuffled-level_buffers ls (count_below l.kind l.size n rows) (down l.kind l.size rows) (down l.kind l.size shuffled) (shuffled-down l.kind l.size rows shuffled h) (placed-down l ls n rows p t.0) t.1 in
    cc

pub shuffled-buffers : (ls : List Level) (n : ℕ) (rows shuffled : List Row) → IsPermutation rows shuffled → Placed ls n rows → SlotsTell ls rows
    → map written (level_buffers ls n shuffled) ≡ map written (level_buffers ls n rows)
shuffled-buffers ls n rows shuffled h p t = ap (map written) (shuffled-level_buffers ls n rows shuffled h p t)
