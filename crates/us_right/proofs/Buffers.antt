-- Lists of new buffers.
use Rattle.std.proofs.Common.{◌≡◌, ℕ, ◌<◌, ◌≤◌, true, false, not, nat_eq, refl, ap, ap₂, ◌∙◌, arith, List, [], ◌∷◌, ◌++◌, map, ℤ, ◌⊎◌, inl, inr}
use Rattle.std.proofs.lemmas.Bool.{and_parts, and_from, or_cases, or_parts, or_from, or_left, or_right, not-true, not_from_false, eq-eqb, false_from_ne_true}
use Rattle.us_code.specs.Runs.{World}
use Rattle.us_code.specs.Typing.{Context, is_some, is_listed, are_distinct, sees_all}
use Rattle.us_gen.specs.Goes.{Keeps}
use Rattle.us_right.specs.Piece.{AreNewIn}

-- what is in two lists, one behind the other
pub listed-cases : (b : ℕ) (xs ys : List ℕ) → is_listed b (xs ++ ys) ≡ true → (is_listed b xs ≡ true) ⊎ (is_listed b ys ≡ true)
listed-cases b [] ys h = inr h
listed-cases b (x ∷ xs) ys h = go (or_cases (nat_eq b x) (is_listed b (xs ++ ys)) h) (λ r. listed-cases b xs ys r)
  where
    more : (is_listed b xs ≡ true) ⊎ (is_listed b ys ≡ true) → (is_listed b (x ∷ xs) ≡ true) ⊎ (is_listed b ys ≡ true)
    more (inl i) = inl (or_right (nat_eq b x) (is_listed b xs) i)
    more (inr j) = inr j

    go : (nat_eq b x ≡ true) ⊎ (is_listed b (xs ++ ys) ≡ true) → (is_listed b (xs ++ ys) ≡ true → (is_listed b xs ≡ true) ⊎ (is_listed b ys ≡ true)) → (is_listed b (x ∷ xs) ≡ true) ⊎ (is_listed b ys ≡ true)
    go (inl e) ih = inl (or_left (nat_eq b x) (is_listed b xs) e)
    go (inr r) ih = more (ih r)

unlisted : (b : ℕ) (xs ys : List ℕ) → is_listed b xs ≡ false → is_listed b ys ≡ false → is_listed b (xs ++ ys) ≡ false
unlisted b [] ys g h = h
unlisted b (x ∷ xs) ys g h = let p = or_parts (nat_eq b x) (is_listed b xs) g in or_from (nat_eq b x) (is_listed b (xs ++ ys)) p.0 (unlisted b xs ys p.1 h)

distinct_both : (xs ys : List ℕ) → are_distinct xs ≡ true → are_distinct ys ≡ true → ((b : ℕ) → is_listed b xs ≡ true → is_listed b ys ≡ false) → are_distinct (xs ++ ys) ≡ true
distinct_both [] ys g h apart = h
distinct_both (x ∷ xs) ys g h apart =
    let p = and_parts (not (is_listed x xs)) (are_distinct xs) g in
    and_from (not (is_listed x (xs ++ ys))) (are_distinct (xs ++ ys))
    (not_from_false (is_listed x (xs ++ ys)) (unlisted x xs ys (not-true (is_listed x xs) p.0) (apart x (or_left (nat_eq x x) (is_listed x xs) (eq-eqb x x refl)))))
    (distinct_both xs ys p.1 h (λ b l. apart b (or_right (nat_eq b x) (is_listed b xs) l)))

pub new-none : (n : ℕ) → AreNewIn [] 0 n
new-none n = record { once = refl; own = λ b e. absurd cc }

-- the numbers of one list are below those of the other
pub new-both : (xs ys : List ℕ) (a b c : ℕ) → a ≤ b → b ≤ c → AreNewIn xs a b → AreNewIn ys b c → AreNewIn (xs ++ ys) a c
new-both xs ys a b c lo hi x y = record {
  once = distinct_both xs ys x.once y.once (λ d l. false_from_ne_true (is_listed d ys) (λ k. let p = x.own d l in let q = y.own d k in omega (arith, p.1, q.0)));
  own = λ d l. go d (listed-cases d xs ys l);
}
  where
    go : (d : ℕ) → (is_listed d xs ≡ true) ⊎ (is_listed d ys ≡ true) → (a ≤ d) × (d < c)
    go d (inl l) = let p = x.own d l in (p.0, omega (arith, p.1, hi))
    go d (inr l) = let q = y.own d l in (omega (arith, q.0, lo), q.1)

-- each of the buffers is the first of a list
here : (x : ℕ) (xs : List ℕ) → is_listed x (x ∷ xs) ≡ true
here x xs = or_left (nat_eq x x) (is_listed x xs) (eq-eqb x x refl)

there : (b x : ℕ) (xs : List ℕ) → is_listed b xs ≡ true → is_listed b (x ∷ xs) ≡ true
there b x xs l = or_right (nat_eq b x) (is_listed b xs) l

pub sees-later : (g h : Context) (n : ℕ) (xs : List ℕ) → ((b : ℕ) → b < n → h.bufs b ≡ g.bufs b) → ((b : ℕ) → is_listed b xs ≡ true → b < n) → sees_all g xs ≡ true → sees_all h xs ≡ true
sees-later g h n [] same low x = refl
sees-later g h n (b ∷ bs) same low x =
    let p = and_parts (is_some (g.bufs b)) (sees_all g bs) x in
    and_from (is_some (h.bufs b)) (sees_all h bs) (ap is_some (same b (low b (here b bs))) ∙ p.0) (sees-later g h n bs same (λ c l. low c (there c b bs l)) p.1)

pub sees-both : (g : Context) (xs ys : List ℕ) → sees_all g xs ≡ true → sees_all g ys ≡ true → sees_all g (xs ++ ys) ≡ true
sees-both g [] ys x y = y
sees-both g (b ∷ bs) ys x y = let p = and_parts (is_some (g.bufs b)) (sees_all g bs) x in and_from (is_some (g.bufs b)) (sees_all g (bs ++ ys)) p.0 (sees-both g bs ys p.1 y)

pub lists-later : (w u : World) (n : ℕ) (xs : List ℕ) → Keeps n w u → ((b : ℕ) → is_listed b xs ≡ true → b < n) → map u.bufs xs ≡ map w.bufs xs
lists-later w u n [] k low = refl
lists-later w u n (b ∷ bs) k low = ap₂ (λ (x : List ℤ) (xs : List (List ℤ)). x ∷ xs) (k.bufs b (low b (here b bs))) (lists-later w u n bs k (λ c l. low c (there c b bs l)))
