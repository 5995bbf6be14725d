-- Entries that are put in by their positions, in any order of positions, give the row-major list.
use Rattle.std.specs.Prelude.{Ok}
use Rattle.std.proofs.Common.{◌≡◌, ℕ, zero, suc, ◌+◌, ◌<◌, ◌≤◌, ◌⊎◌, List, [], ◌∷◌, Bool, true, false, cond, ◌||◌, ◌&&◌, eqb, ltb, sym, refl, ap, ◌∙◌, subst, inl, inr, arith, Option, Some, filter, eqb-true, eq-eqb, ltb-true}
use Rattle.std.proofs.lemmas.Bool.{false≢true, or_cases, and_parts, cases_eq, or_left, or_right}
use Rattle.std.specs.List.{list_any, range_with_len}
use Rattle.us_format.proofs.Order.{Mem}
use Rattle.us_format.specs.Lists.{among}
use Rattle.us_format.specs.Matrix.{Entry, earlier, put}
use Rattle.us_format.specs.Meaning.{collect}

-- each entry comes before all that follow it
abbrev pub RowMajor : List Entry → Type 0
RowMajor [] = Unit {0}
RowMajor (e ∷ es) = ((y : Entry) → Mem y es → earlier e y ≡ true) × RowMajor es

pub earlier-not : (a b : Entry) → earlier a b ≡ true → earlier b a ≡ false
earlier-not a b h = go (earlier b a) refl (or_cases (ltb a.i b.i) (eqb a.i b.i && ltb a.j b.j) h)
  where
    go : (t : Bool) → earlier b a ≡ t → ((ltb a.i b.i ≡ true) ⊎ ((eqb a.i b.i && ltb a.j b.j) ≡ true)) → t ≡ false
    go false q h = refl
    go true q h = absurd (two (or_cases (ltb b.i a.i) (eqb b.i a.i && ltb b.j a.j) q) h)
      where
        two : ((ltb b.i a.i ≡ true) ⊎ ((eqb b.i a.i && ltb b.j a.j) ≡ true)) → ((ltb a.i b.i ≡ true) ⊎ ((eqb a.i b.i && ltb a.j b.j) ≡ true)) → ⊥
        two (inl x) (inl y) = omega (arith, ltb-true b.i a.i x, ltb-true a.i b.i y)
        two (inl x) (inr y) = omega (arith, ltb-true b.i a.i x, eqb-true a.i b.i (and_parts (eqb a.i b.i) (ltb a.j b.j) y).0)
        two (inr x) (inl y) = omega (arith, eqb-true b.i a.i (and_parts (eqb b.i a.i) (ltb b.j a.j) x).0, ltb-true a.i b.i y)
        two (inr x) (inr y) = omega (arith, ltb-true b.j a.j (and_parts (eqb b.i a.i) (ltb b.j a.j) x).1, ltb-true a.j b.j (and_parts (eqb a.i b.i) (ltb a.j b.j) y).1)

pub earlier-irrefl : (a : Entry) → earlier a a ≡ true → ⊥
earlier-irrefl a h = false≢true (sym (earlier-not a a h) ∙ h)

pub filter-same : (P Q : Entry → Bool) (es : List Entry) → ((y : Entry) → Mem y es → Q y ≡ P y) → filter Q es ≡ filter P es
filter-same P Q [] h = refl
filter-same P Q (e ∷ es) h = rw (h e (inl refl), filter-same P Q es (λ y m. h y (inr m))) refl

pub Mem-of_filter' : (P : Entry → Bool) (x : Entry) (xs : List Entry) → Mem x (filter P xs) → Mem x xs
Mem-of_filter' P x [] h = h
Mem-of_filter' P x (y ∷ ys) h = go (P y) h (Mem-of_filter' P x ys)
  where
    go : (b : Bool) → Mem x (cond b (y ∷ filter P ys) (filter P ys)) → (Mem x (filter P ys) → Mem x ys) → Mem x (y ∷ ys)
    go true (inl e) ih = inl e
    go true (inr m) ih = inr (ih m)
    go false m ih = inr (ih m)

pub put-front : (e : Entry) (es : List Entry) → ((y : Entry) → Mem y es → earlier e y ≡ true) → put e es ≡ Some (e ∷ es)
put-front e [] h = refl
put-front e (y ∷ ys) h = rw (h y (inl refl)) refl

-- e goes in among those that pass P, and with it those that pass Q stand there
pub put-filter : (P Q : Entry → Bool) (e : Entry) (es : List Entry) → RowMajor es → Mem e es → P e ≡ false → Q e ≡ true → ((y : Entry) → Mem y es → (y ≡ e → ⊥) → Q y ≡ P y) → put e (filter P es) ≡ Some (filter Q es)
put-filter P Q e [] s m p q h = absurd m
put-filter P Q e (z ∷ zs) s (inl w) p q h =
    let pz : P z ≡ false = subst (λ (a : Entry). P a ≡ false) (sym w) p in
    let qz : Q z ≡ true = subst (λ (a : Entry). Q a ≡ true) (sym w) q in
    let rest : filter Q zs ≡ filter P zs = filter-same P Q zs (λ y my. h y (inr my) (λ ye. earlier-irrefl z (subst (λ (a : Entry). earlier z a ≡ true) (ye ∙ sym w) (s.0 y my)))) in
    rw (pz, qz, rest) (put-front e (filter P zs) (λ y my. subst (λ (a : Entry). earlier a y ≡ true) w (s.0 y (Mem-of_filter' P y zs my))) ∙ ap (λ a. Some (a ∷ filter P zs)) (sym w))
put-filter P Q e (z ∷ zs) s (inr m) p q h =
    go (P z) refl (put-filter P Q e zs s.1 m p q (λ y my. h y (inr my)))
  where
    before : earlier z e ≡ true
    before = s.0 e m

    same : Q z ≡ P z
    same = h z (inl refl) (λ ze. earlier-irrefl z (subst (λ (a : Entry). earlier z a ≡ true) (sym ze) before))

    go : (b : Bool) → P z ≡ b → put e (filter P zs) ≡ Some (filter Q zs) → put e (filter P (z ∷ zs)) ≡ Some (filter Q (z ∷ zs))
    go true t ih = rw (same, t, earlier-not z e before, before, ih) refl
    go false t ih = rw (same, t) ih

-- no key stands twice
abbrev pub Distinct : {K : Type 0} → List K → Type 0
Distinct [] = Unit {0}
Distinct (x ∷ xs) = (Mem x xs → ⊥) × Distinct xs

pub or-none : (a : Bool) → (a || false) ≡ a
or-none true = refl
or-none false = refl

pub or-assoc : (a b c : Bool) → ((a || b) || c) ≡ (a || (b || c))
or-assoc true b c = refl
or-assoc false b c = refl

pub filter-none : (es : List Entry) → filter (λ _. false) es ≡ []
filter-none [] = refl
filter-none (e ∷ es) = filter-none es

-- keys that can be told apart by a test
module _ {K : Type 0} (alike : K → K → Bool) (tells : (a b : K) → alike a b ≡ true → a ≡ b) (itself : (a : K) → alike a a ≡ true) where
  abbrev pub among_keys : K → List K → Bool
  among_keys a = list_any (λ b. alike a b)

  pub unlike : (a b : K) → (a ≡ b → ⊥) → alike a b ≡ false
  unlike a b n = go (alike a b) refl
    where
      go : (t : Bool) → alike a b ≡ t → t ≡ false
      go true e = absurd (n (tells a b e))
      go false e = refl

  -- at a key either nothing is read and no entry stands there, or the one entry is read
  abbrev pub Reads : (K → Bool) → (K → Option Entry) → (Entry → K) → List Entry → K → Type 0
  Reads skip read key es x =
      ((skip x ≡ true) × ((e : Entry) → Mem e es → key e ≡ x → ⊥)) ⊎ ((skip x ≡ false) × ((e : Entry) × Mem e es × (key e ≡ x) × (read x ≡ Some e)))

  -- what is read at distinct keys goes to the entries that were found before, each into its place
  pub collect-is : (skip : K → Bool) (read : K → Option Entry) (key : Entry → K) (es : List Entry) → RowMajor es → ((a b : Entry) → Mem a es → Mem b es → key a ≡ key b → a ≡ b)
      → (xs : List K) (P : Entry → Bool) → ((x : K) → Mem x xs → Reads skip read key es x) → Distinct xs → ((y : Entry) → Mem y es → Mem (key y) xs → P y ≡ false)
      → collect skip read xs (filter P es) ≡ Ok (filter (λ y. P y || among_keys (key y) xs) es)
  collect-is skip read key es s one [] P h d f = ap Ok (filter-same (λ y. P y || false) P es (λ y m. sym (or-none (P y))))
  collect-is skip read key es s one (x ∷ xs) P h d f = go (h x (inl refl)) (collect-is skip read key es s one xs)
    where
      Rest : Type 0
      Rest =
          (R : Entry → Bool) → ((y : K) → Mem y xs → Reads skip read key es y) → Distinct xs → ((y : Entry) → Mem y es → Mem (key y) xs → R y ≡ false)
          → collect skip read xs (filter R es) ≡ Ok (filter (λ y. R y || among_keys (key y) xs) es)

      go : Reads skip read key es x → Rest → collect skip read (x ∷ xs) (filter P es) ≡ Ok (filter (λ y. P y || (alike (key y) x || among_keys (key y) xs)) es)
      go (inl c) ih =
          rw c.0 (ih P (λ y m. h y (inr m)) d.1 (λ y m k. f y m (inr k))
          ∙ ap Ok (filter-same (λ y. P y || (alike (key y) x || among_keys (key y) xs)) (λ y. P y || among_keys (key y) xs) es (λ y m. rw (unlike (key y) x (c.1 y m)) refl)))
      go (inr (n, (e, m, at, r))) ih =
          rw (n, r, placed)
          (ih Q (λ y k. h y (inr k)) d.1 fresh
          ∙ ap Ok (filter-same (λ y. P y || (alike (key y) x || among_keys (key y) xs)) (λ y. Q y || among_keys (key y) xs) es (λ y k. or-assoc (P y) (alike (key y) x) (among_keys (key y) xs))))
        where
          Q : Entry → Bool
          Q y = P y || alike (key y) x

          there : alike (key e) x ≡ true
          there = subst (λ (k : K). alike (key e) k ≡ true) at (itself (key e))

          other : (y : Entry) → (key y ≡ x → ⊥) → (P y || alike (key y) x) ≡ P y
          other y k = rw (unlike (key y) x k) (or-none (P y))

          placed : put e (filter P es) ≡ Some (filter (λ y. P y || alike (key y) x) es)
          placed =
              put-filter P (λ y. P y || alike (key y) x) e es s m (f e m (inl (sym at))) (or_right (P e) (alike (key e) x) there)
              (λ y my k. other y (λ q. k (one y e my m (q ∙ sym at))))

          fresh : (y : Entry) → Mem y es → Mem (key y) xs → (P y || alike (key y) x) ≡ false
          fresh y my k = rw (f y my (inr k)) (unlike (key y) x (λ q. d.0 (subst (λ (z : K). Mem z xs) q k)))

pub range-Mem : (a n x : ℕ) → a ≤ x → x < a + n → Mem x (range_with_len a n)
range-Mem a zero x h l = absurd (omega arith)
range-Mem a (suc n) x h l = go (cases_eq a x) (λ g. range-Mem (a + 1) n x g (omega arith))
  where
    go : ((a ≡ x) ⊎ (a ≡ x → ⊥)) → (a + 1 ≤ x → Mem x (range_with_len (a + 1) n)) → Mem x (range_with_len a (suc n))
    go (inl e) ih = inl e
    go (inr e) ih = inr (ih (omega arith))

pub Mem-range : (a n x : ℕ) → Mem x (range_with_len a n) → (a ≤ x) × (x < a + n)
Mem-range a zero x h = absurd h
Mem-range a (suc n) x (inl e) = (omega (arith, e), omega (arith, e))
Mem-range a (suc n) x (inr h) = let r = Mem-range (a + 1) n x h in (omega (arith, r.0), omega (arith, r.1))

pub among-Mem : (x : ℕ) (xs : List ℕ) → among x xs ≡ true → Mem x xs
among-Mem x [] h = absurd (false≢true h)
among-Mem x (y ∷ ys) h = go (or_cases (eqb x y) (among x ys) h) (among-Mem x ys)
  where
    go : ((eqb x y ≡ true) ⊎ (among x ys ≡ true)) → (among x ys ≡ true → Mem x ys) → Mem x (y ∷ ys)
    go (inl e) ih = inl (sym (eqb-true x y e))
    go (inr e) ih = inr (ih e)

pub Mem-among : (x : ℕ) (xs : List ℕ) → Mem x xs → among x xs ≡ true
Mem-among x [] h = absurd h
Mem-among x (y ∷ ys) (inl e) = or_left _ _ (eq-eqb x y (sym e))
Mem-among x (y ∷ ys) (inr h) = or_right _ _ (Mem-among x ys h)

pub range-distinct : (a n : ℕ) → Distinct (range_with_len a n)
range-distinct a zero = tt
range-distinct a (suc n) = ((λ m. omega (arith, (Mem-range (a + 1) n a m).0)), range-distinct (a + 1) n)

pub filter-all : (P : Entry → Bool) (es : List Entry) → ((y : Entry) → Mem y es → P y ≡ true) → filter P es ≡ es
filter-all P [] h = refl
filter-all P (e ∷ es) h = rw (h e (inl refl)) (ap (λ l. e ∷ l) (filter-all P es (λ y m. h y (inr m))))
