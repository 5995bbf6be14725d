-- Entries that are put in one after the other: at which one it fails, and that else they make the row-major list.
use Rattle.std.specs.Prelude.{slice_get, Result, Ok, Err}
use Rattle.std.proofs.Common.{◌≡◌, ℕ, zero, suc, ◌<◌, ◌⊎◌, List, [], ◌∷◌, map, length, Bool, true, false, cond, ◌&&◌, eqb, ltb, sym, refl, ap, ◌∙◌, subst, inl, inr, arith, Option, Some, None, eqb-true, eq-eqb, ltb-true, lt-ltb}
use Rattle.std.proofs.lemmas.Bool.{or_cases, and_parts, and_from, or_left, or_right, cases_order}
use Rattle.us_format.specs.Lists.{then_do}
use Rattle.us_format.specs.Matrix.{Entry, earlier, put}
use Rattle.us_format.specs.Meaning.{go_on, collect}
use Rattle.us_format.proofs.Order.{Mem}
use Rattle.us_format.proofs.Collect.{RowMajor, earlier-not, earlier-irrefl}
use Rattle.us_climb.specs.Entries.{with_entry, read_keys}
use Rattle.us_check.specs.Repeats.{entry_at, StandTogether, IsRepeat}

-- ---- entries with their keys

-- the entries put to those that were found, up to the first whose coordinate came before; behind them it fails at the given key, if there is one
abbrev pub put_in : {K : Type 0} → List (K × Entry) → Option K → List Entry → Result (List Entry) K
put_in [] None found = Ok found
put_in [] (Some key) found = Err key
put_in (x ∷ xs) failed found = go_on x.0 (put_in xs failed) (put x.1 found)

-- collecting puts in what is read
pub collect-reads : {K : Type 0} (skip : K → Bool) (read : K → Option Entry) (keys : List K) (found : List Entry)
    → collect skip read keys found ≡ put_in (read_keys skip read keys).found (read_keys skip read keys).failed found
collect-reads skip read [] found = refl
collect-reads {K} skip read (key ∷ keys) found = go (skip key) (read key) (collect-reads skip read keys)
  where
    go : (b : Bool) (o : Option Entry) → ((found : List Entry) → collect skip read keys found ≡ put_in (read_keys skip read keys).found (read_keys skip read keys).failed found)
        → cond b (collect skip read keys found) (go_on key (collect skip read keys) (then_do o (λ e. put e found)))
        ≡ put_in (cond b (read_keys skip read keys) (with_entry key o (read_keys skip read keys))).found (cond b (read_keys skip read keys) (with_entry key o (read_keys skip read keys))).failed found
    go true o ih = ih found
    go false None ih = refl
    go false (Some e) ih = two (put e found)
      where
        two : (p : Option (List Entry)) → go_on key (collect skip read keys) p ≡ go_on key (put_in (read_keys skip read keys).found (read_keys skip read keys).failed) p
        two None = refl
        two (Some zs) = ih zs

-- ---- the row-major order

pub earlier-cases : (a b : Entry) → earlier a b ≡ true → (a.i < b.i) ⊎ ((a.i ≡ b.i) × (a.j < b.j))
earlier-cases a b h = go (or_cases (ltb a.i b.i) (eqb a.i b.i && ltb a.j b.j) h)
  where
    go : ((ltb a.i b.i ≡ true) ⊎ ((eqb a.i b.i && ltb a.j b.j) ≡ true)) → (a.i < b.i) ⊎ ((a.i ≡ b.i) × (a.j < b.j))
    go (inl l) = inl (ltb-true a.i b.i l)
    go (inr e) = let p = and_parts (eqb a.i b.i) (ltb a.j b.j) e in inr (eqb-true a.i b.i p.0, ltb-true a.j b.j p.1)

pub earlier-from : (a b : Entry) → (a.i < b.i) ⊎ ((a.i ≡ b.i) × (a.j < b.j)) → earlier a b ≡ true
earlier-from a b (inl l) = or_left _ _ (lt-ltb a.i b.i l)
earlier-from a b (inr e) = or_right _ _ (and_from _ _ (eq-eqb a.i b.i e.0) (lt-ltb a.j b.j e.1))

pub earlier-trans : (a b c : Entry) → earlier a b ≡ true → earlier b c ≡ true → earlier a c ≡ true
earlier-trans a b c p q = earlier-from a c (go (earlier-cases a b p) (earlier-cases b c q))
  where
    go : ((a.i < b.i) ⊎ ((a.i ≡ b.i) × (a.j < b.j))) → ((b.i < c.i) ⊎ ((b.i ≡ c.i) × (b.j < c.j))) → (a.i < c.i) ⊎ ((a.i ≡ c.i) × (a.j < c.j))
    go (inl x) (inl y) = inl (omega (arith, x, y))
    go (inl x) (inr y) = inl (omega (arith, x, y.0))
    go (inr x) (inl y) = inl (omega (arith, x.0, y))
    go (inr x) (inr y) = inr (omega (arith, x.0, y.0), omega (arith, x.1, y.1))

pub earlier-either : (a b : Entry) → (earlier a b ≡ true) ⊎ ((earlier b a ≡ true) ⊎ StandTogether a b)
earlier-either a b = go (cases_order a.i b.i) (cases_order a.j b.j)
  where
    go : ((a.i ≡ b.i) ⊎ ((a.i < b.i) ⊎ (b.i < a.i))) → ((a.j ≡ b.j) ⊎ ((a.j < b.j) ⊎ (b.j < a.j))) → (earlier a b ≡ true) ⊎ ((earlier b a ≡ true) ⊎ StandTogether a b)
    go (inl e) (inl f) = inr (inr (e, f))
    go (inl e) (inr (inl l)) = inl (earlier-from a b (inr (e, l)))
    go (inl e) (inr (inr l)) = inr (inl (earlier-from b a (inr (sym e, l))))
    go (inr (inl l)) _ = inl (earlier-from a b (inl l))
    go (inr (inr l)) _ = inr (inl (earlier-from b a (inl l)))

pub together-not : (a b : Entry) → StandTogether a b → earlier a b ≡ false
together-not a b t = go (earlier a b) refl
  where
    go : (x : Bool) → earlier a b ≡ x → x ≡ false
    go false e = refl
    go true e = absurd (no (earlier-cases a b e))
      where
        no : ((a.i < b.i) ⊎ ((a.i ≡ b.i) × (a.j < b.j))) → ⊥
        no (inl l) = omega (arith, l, t.0)
        no (inr l) = omega (arith, l.1, t.1)

-- ---- one entry put in

-- the list with one entry more
pub record IsPut (e : Entry) (found zs : List Entry) : Type 0 where
  pub is : put e found ≡ Some zs
  pub sorted : RowMajor zs
  pub from : (y : Entry) → Mem y zs → (e ≡ y) ⊎ Mem y found
  pub there : (y : Entry) → (e ≡ y) ⊎ Mem y found → Mem y zs

pub put-repeat : (e : Entry) (found : List Entry) → RowMajor found → (y : Entry) → Mem y found → StandTogether y e → put e found ≡ None
put-repeat e [] r y m t = absurd m
put-repeat e (z ∷ zs) r y (inl q) t =
    let a : earlier e z ≡ false = together-not e z (sym (ap (λ (x : Entry). x.i) q ∙ t.0), sym (ap (λ (x : Entry). x.j) q ∙ t.1)) in
    let b : earlier z e ≡ false = together-not z e (ap (λ (x : Entry). x.i) q ∙ t.0, ap (λ (x : Entry). x.j) q ∙ t.1) in
    rw (a, b) refl
put-repeat e (z ∷ zs) r y (inr m) t =
    let a : earlier z e ≡ true = earlier-from z e (moved (earlier-cases z y (r.0 y m))) in
    let b : earlier e z ≡ false = earlier-not z e a in
    rw (b, a, put-repeat e zs r.1 y m t) refl
  where
    moved : ((z.i < y.i) ⊎ ((z.i ≡ y.i) × (z.j < y.j))) → (z.i < e.i) ⊎ ((z.i ≡ e.i) × (z.j < e.j))
    moved (inl l) = inl (omega (arith, l, t.0))
    moved (inr l) = inr (omega (arith, l.0, t.0), omega (arith, l.1, t.1))

pub put-new : (e : Entry) (found : List Entry) → RowMajor found → ((y : Entry) → Mem y found → StandTogether y e → ⊥) → (zs : List Entry) × IsPut e found zs
put-new e [] r n = (e ∷ [], record { is = refl; sorted = ((λ y m. absurd m), tt); from = λ y m. m; there = λ y m. m })
put-new e (z ∷ found) r n = go (earlier-either e z) (put-new e found r.1 (λ y m. n y (inr m)))
  where
    go : ((earlier e z ≡ true) ⊎ ((earlier z e ≡ true) ⊎ StandTogether e z)) → ((zs : List Entry) × IsPut e found zs) → (zs : List Entry) × IsPut e (z ∷ found) zs
    go (inl a) ih = (e ∷ z ∷ found, record { is = rw a refl; sorted = (first, r); from = λ y m. m; there = λ y m. m })
      where
        first : (y : Entry) → Mem y (z ∷ found) → earlier e y ≡ true
        first y (inl q) = subst (λ (x : Entry). earlier e x ≡ true) q a
        first y (inr m) = earlier-trans e z y a (r.0 y m)
    go (inr (inl a)) (zs, p) = (z ∷ zs, record { is = rw (earlier-not z e a, a, p.is) refl; sorted = (first, p.sorted); from = back; there = on })
      where
        first : (y : Entry) → Mem y zs → earlier z y ≡ true
        first y m = two (p.from y m)
          where
            two : ((e ≡ y) ⊎ Mem y found) → earlier z y ≡ true
            two (inl q) = subst (λ (x : Entry). earlier z x ≡ true) q a
            two (inr k) = r.0 y k

        back : (y : Entry) → Mem y (z ∷ zs) → (e ≡ y) ⊎ Mem y (z ∷ found)
        back y (inl q) = inr (inl q)
        back y (inr m) = two (p.from y m)
          where
            two : ((e ≡ y) ⊎ Mem y found) → (e ≡ y) ⊎ Mem y (z ∷ found)
            two (inl q) = inl q
            two (inr k) = inr (inr k)

        on : (y : Entry) → (e ≡ y) ⊎ Mem y (z ∷ found) → Mem y (z ∷ zs)
        on y (inl q) = inr (p.there y (inl q))
        on y (inr (inl q)) = inl q
        on y (inr (inr m)) = inr (p.there y (inr m))
    go (inr (inr t)) ih = absurd (n z (inl refl) (sym t.0, sym t.1))

-- ---- all entries put in

abbrev pub entries : {K : Type 0} → List (K × Entry) → List Entry
entries {K} rs = map (λ (x : K × Entry). x.1) rs

-- the entry with this number stands where one that was found stands, or an earlier one
abbrev pub Meets : List Entry → List Entry → ℕ → Type 0
Meets found es n = ((y : Entry) × Mem y found × StandTogether y (entry_at es n)) ⊎ IsRepeat es n

-- what stands behind one entry meets what stands behind it and the entry
meets-on : (e : Entry) (es found zs : List Entry) → IsPut e found zs → (n : ℕ) → Meets found (e ∷ es) (suc n) → Meets zs es n
meets-on e es found zs p n (inl (y, m, t)) = inl (y, p.there y (inr m), t)
meets-on e es found zs p n (inr (zero, l, t)) = inl (e, p.there e (inl refl), t)
meets-on e es found zs p n (inr (suc h, l, t)) = inr (h, omega (arith, l), t)

meets-back : (e : Entry) (es found zs : List Entry) → IsPut e found zs → (n : ℕ) → Meets zs es n → Meets found (e ∷ es) (suc n)
meets-back e es found zs p n (inl (y, m, t)) = go (p.from y m)
  where
    go : ((e ≡ y) ⊎ Mem y found) → Meets found (e ∷ es) (suc n)
    go (inl q) = inr (0, omega arith, (ap (λ (x : Entry). x.i) q ∙ t.0, ap (λ (x : Entry). x.j) q ∙ t.1))
    go (inr k) = inl (y, k, t)
meets-back e es found zs p n (inr (h, l, t)) = inr (suc h, omega (arith, l), t)

-- it fails at the first entry that meets one before
pub put_in-repeat : {K : Type 0} (rs : List (K × Entry)) (failed : Option K) (found : List Entry) → RowMajor found → (n : ℕ) (x : K × Entry) → slice_get rs n ≡ Some x
    → Meets found (entries rs) n → ((m : ℕ) → m < n → Meets found (entries rs) m → ⊥) → put_in rs failed found ≡ Err x.0
put_in-repeat [] failed found r n x at h none = absurd (cc)
put_in-repeat {K} (z ∷ rs) failed found r zero x at (inl (y, m, t)) none =
    let e : z ≡ x = cc in
    ap (go_on z.0 (put_in rs failed)) (put-repeat z.1 found r y m t) ∙ ap (λ (w : K × Entry). Err w.0) e
put_in-repeat (z ∷ rs) failed found r zero x at (inr (h, l, t)) none = absurd (omega (arith, l))
put_in-repeat (z ∷ rs) failed found r (suc n) x at h none =
    let p = put-new z.1 found r (λ y m t. none 0 (omega arith) (inl (y, m, t))) in
    ap (go_on z.0 (put_in rs failed)) p.1.is
    ∙ put_in-repeat rs failed p.0 p.1.sorted n x at (meets-on z.1 (entries rs) found p.0 p.1 n h) (λ m l k. none (suc m) (omega (arith, l)) (meets-back z.1 (entries rs) found p.0 p.1 m k))

-- the list, or the key at which it fails behind all entries
abbrev pub ended : {K : Type 0} → Option K → List Entry → Result (List Entry) K
ended None zs = Ok zs
ended (Some key) zs = Err key

-- all entries stand in a row-major list, with those that were found
pub record ArePut {K : Type 0} (rs : List (K × Entry)) (failed : Option K) (found zs : List Entry) : Type 0 where
  pub is : put_in rs failed found ≡ ended failed zs
  pub sorted : RowMajor zs
  pub from : (y : Entry) → Mem y zs → Mem y (entries rs) ⊎ Mem y found
  pub there : (y : Entry) → Mem y (entries rs) ⊎ Mem y found → Mem y zs

-- where no entry meets one before, all of them are put in
pub put_in-all : {K : Type 0} (rs : List (K × Entry)) (failed : Option K) (found : List Entry) → RowMajor found
    → ((m : ℕ) → m < length (entries rs) → Meets found (entries rs) m → ⊥) → (zs : List Entry) × ArePut rs failed found zs
put_in-all [] None found r none = (found, record { is = refl; sorted = r; from = λ y m. inr m; there = λ y m. elim m as (λ _. Mem y found) [ inl k ↦ absurd k | inr k ↦ k ] })
put_in-all [] (Some key) found r none = (found, record { is = refl; sorted = r; from = λ y m. inr m; there = λ y m. elim m as (λ _. Mem y found) [ inl k ↦ absurd k | inr k ↦ k ] })
put_in-all {K} (z ∷ rs) failed found r none =
    let p = put-new z.1 found r (λ y m t. none 0 (omega arith) (inl (y, m, t))) in
    joined p.0 p.1 (put_in-all rs failed p.0 p.1.sorted (λ m l k. none (suc m) (omega (arith, l)) (meets-back z.1 (entries rs) found p.0 p.1 m k)))
  where
    joined : (ys : List Entry) (p : IsPut z.1 found ys) → ((zs : List Entry) × ArePut rs failed ys zs) → (zs : List Entry) × ArePut (z ∷ rs) failed found zs
    joined ys p (zs, q) = (zs, record { is = ap (go_on z.0 (put_in rs failed)) p.is ∙ q.is; sorted = q.sorted; from = back; there = on })
      where
        back : (y : Entry) → Mem y zs → Mem y (z.1 ∷ entries rs) ⊎ Mem y found
        back y m = go (q.from y m)
          where
            two : ((z.1 ≡ y) ⊎ Mem y found) → Mem y (z.1 ∷ entries rs) ⊎ Mem y found
            two (inl e) = inl (inl e)
            two (inr k) = inr k

            go : (Mem y (entries rs) ⊎ Mem y ys) → Mem y (z.1 ∷ entries rs) ⊎ Mem y found
            go (inl k) = inl (inr k)
            go (inr k) = two (p.from y k)

        on : (y : Entry) → Mem y (z.1 ∷ entries rs) ⊎ Mem y found → Mem y zs
        on y (inl (inl e)) = q.there y (inr (p.there y (inl e)))
        on y (inl (inr k)) = q.there y (inl k)
        on y (inr k) = q.there y (inr (p.there y (inr k)))

-- ---- one row-major list

-- two row-major lists with the same members are one
pub one-list : (xs ys : List Entry) → RowMajor xs → RowMajor ys → ((e : Entry) → Mem e xs → Mem e ys) → ((e : Entry) → Mem e ys → Mem e xs) → xs ≡ ys
one-list [] [] r s f g = refl
one-list [] (y ∷ ys) r s f g = absurd (g y (inl refl))
one-list (x ∷ xs) [] r s f g = absurd (f x (inl refl))
one-list (x ∷ xs) (y ∷ ys) r s f g =
    let e : x ≡ y = first (f x (inl refl)) (g y (inl refl)) in
    let rest : xs ≡ ys = one-list xs ys r.1 s.1 (λ z m. on e z m (f z (inr m))) (λ z m. back e z m (g z (inr m))) in
    cc
  where
    first : ((y ≡ x) ⊎ Mem x ys) → ((x ≡ y) ⊎ Mem y xs) → x ≡ y
    first (inl e) m = sym e
    first (inr k) (inl e) = e
    first (inr k) (inr m) = absurd (earlier-irrefl x (earlier-trans x y x (r.0 y m) (s.0 x k)))

    on : x ≡ y → (z : Entry) → Mem z xs → ((y ≡ z) ⊎ Mem z ys) → Mem z ys
    on e z m (inl q) = absurd (earlier-irrefl x (subst (λ (w : Entry). earlier x w ≡ true) (sym (e ∙ q)) (r.0 z m)))
    on e z m (inr k) = k

    back : x ≡ y → (z : Entry) → Mem z ys → ((x ≡ z) ⊎ Mem z xs) → Mem z xs
    back e z m (inl q) = absurd (earlier-irrefl y (subst (λ (w : Entry). earlier y w ≡ true) (sym (sym e ∙ q)) (s.0 z m)))
    back e z m (inr k) = k
