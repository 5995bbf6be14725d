-- Runs of equal values among values that don't fall.
use Rattle.std.proofs.Common.{◌≡◌, ℕ, zero, suc, ◌+◌, ◌<◌, ◌≤◌, ◌⊎◌, List, length, get_or, take, Bool, true, false, cond, ◌&&◌, eqb, max, ℤ, sym, refl, ap, ◌∙◌, subst, inl, inr, arith, count_by, int_eq, eq-eqb}
use Rattle.std.proofs.lemmas.Bool.{and_from, and_left, and_right, cases_order, cases_lt, false≢true, ne_eqb}
use Rattle.std.proofs.lemmas.List.{get_or-take, length-take-le, take_all}
use Rattle.std.proofs.lemmas.List.Sums.{sum_by-take-le}
use lib.Signed.{lt_z}
use Rattle.us_query_loops.proofs.Counted.{count-step, count-window}
use Rattle.us_query_loops.proofs.ValueOrder.{less-neither, less-self, same-no, same-told, same-yes}
use Rattle.us_query_loops.specs.Runs.{last_at, length_at, most_at, so_far, start_at}
use Rattle.us_query_loops.specs.Sorted.{NeverFalls}

-- the run of the entry at rank x begins at the rank b
pub record IsRun (value : ℕ → ℤ) (x b : ℕ) : Type 0 where
  pub within : b ≤ x
  pub same : (y : ℕ) → b ≤ y → y ≤ x → value y ≡ value x
  pub other : (y : ℕ) → y < b → value y ≡ value x → ⊥

module _ (none : ℤ) (value : ℕ → ℤ) (n : ℕ) (rises : NeverFalls value n) (fresh : (x : ℕ) → x < n → value x ≡ none → ⊥) where
  abbrev pub start : ℕ → ℕ
  start x = start_at none value x

  begins : (x : ℕ) → (value x ≡ last_at none value x → ⊥) → start (suc x) ≡ x
  begins x f = ap (λ (b : Bool). cond b (start x) x) (same-no (value x) (last_at none value x) f)

  goes-on : (x : ℕ) → value x ≡ last_at none value x → start (suc x) ≡ start x
  goes-on x e = ap (λ (b : Bool). cond b (start x) x) (same-yes (value x) (last_at none value x) e)

  not-above : (x y : ℕ) → x ≤ y → y < n → lt_z (value y) (value x) ≡ false
  not-above x y h l = go (cases_lt x y)
    where
      go : ((x < y) ⊎ (y ≤ x)) → lt_z (value y) (value x) ≡ false
      go (inl k) = rises x y k l
      go (inr k) = let e : x ≡ y = omega (arith, h, k) in subst (λ (z : ℕ). lt_z (value z) (value x) ≡ false) e (less-self (value x))

  new-run : (x : ℕ) → IsRun value x x → start (suc x) ≡ x → IsRun value x (start (suc x))
  new-run x r e = subst (λ (b : ℕ). IsRun value x b) (sym e) r

  pub in-run : (x : ℕ) → x < n → IsRun value x (start (suc x))
  in-run zero h =
      new-run zero
      (record { within = omega arith; same = λ y a b. let e : y ≡ zero = omega (arith, b) in ap value e; other = λ y l. absurd (omega (arith, l)) })
      (begins zero (fresh zero h))
  in-run (suc x) h = go (int_eq (value (suc x)) (value x)) refl (in-run x (omega (arith, h)))
    where
      go : (b : Bool) → int_eq (value (suc x)) (value x) ≡ b → IsRun value x (start (suc x)) → IsRun value (suc x) (start (suc (suc x)))
      go true q r = subst (λ (b : ℕ). IsRun value (suc x) b) (sym (goes-on (suc x) v)) longer
        where
          v : value (suc x) ≡ value x
          v = same-told (value (suc x)) (value x) q

          longer : IsRun value (suc x) (start (suc x))
          longer = record { within = omega (arith, r.within); same = λ y a b. at y a b (cases_lt y (suc x)); other = λ y l e. r.other y l (e ∙ v) }
            where
              at : (y : ℕ) → start (suc x) ≤ y → y ≤ suc x → ((y < suc x) ⊎ (suc x ≤ y)) → value y ≡ value (suc x)
              at y a b (inl l) = r.same y a (omega (arith, l)) ∙ sym v
              at y a b (inr l) = let e : y ≡ suc x = omega (arith, b, l) in ap value e
      go false q r = new-run (suc x) (record { within = omega arith; same = λ y a b. let e : y ≡ suc x = omega (arith, a, b) in ap value e; other = before }) (begins (suc x) apart)
        where
          apart : value (suc x) ≡ value x → ⊥
          apart e = false≢true (sym q ∙ same-yes (value (suc x)) (value x) e)

          before : (y : ℕ) → y < suc x → value y ≡ value (suc x) → ⊥
          before y l e =
              apart
              (less-neither (value (suc x)) (value x) (rises x (suc x) (omega arith) h)
              (subst (λ (z : ℤ). lt_z (value x) z ≡ false) e (not-above y x (omega (arith, l)) (omega (arith, h)))))

  -- runs of one value are one
  pub one-start : (x y : ℕ) → x < n → y < n → value x ≡ value y → start (suc x) ≡ start (suc y)
  one-start x y l k e = go (in-run x l) (in-run y k) (cases_order (start (suc x)) (start (suc y)))
    where
      go : IsRun value x (start (suc x)) → IsRun value y (start (suc y))
          → ((start (suc x) ≡ start (suc y)) ⊎ ((start (suc x) < start (suc y)) ⊎ (start (suc y) < start (suc x)))) → start (suc x) ≡ start (suc y)
      go r t (inl q) = q
      go r t (inr (inl q)) = absurd (t.other (start (suc x)) q (r.same (start (suc x)) (omega arith) r.within ∙ e))
      go r t (inr (inr q)) = absurd (r.other (start (suc y)) q (t.same (start (suc y)) (omega arith) t.within ∙ sym e))

  pub one-value : (x y : ℕ) → x < n → y < n → start (suc x) ≡ start (suc y) → value x ≡ value y
  one-value x y l k e =
      let r = in-run x l in
      let t = in-run y k in
      sym (r.same (start (suc x)) (omega arith) r.within) ∙ ap value e ∙ t.same (start (suc y)) (omega arith) t.within

  length-low : (k g : ℕ) → length_at none value k g ≤ most_at none value k
  length-low zero g = omega arith
  length-low (suc k) g = go (eqb (start (suc k)) g) (length-low k g)
    where
      go : (b : Bool) → length_at none value k g ≤ most_at none value k → cond b (so_far none value (suc k)) (length_at none value k g) ≤ max (most_at none value k) (so_far none value (suc k))
      go true h = omega arith
      go false h = omega (arith, h)

  -- ---- against a list that has these values

  module _ {A : Type 0} (f : A → ℤ) (rs : List A) (d : A) (long : length rs ≡ n) (has : (x : ℕ) → x < n → f (get_or rs x d) ≡ value x) where
    abbrev pub like : ℕ → A → Bool
    like x z = int_eq (f z) (value x)

    like-yes : (x y : ℕ) → y < n → value y ≡ value x → like x (get_or rs y d) ≡ true
    like-yes x y l e = same-yes (f (get_or rs y d)) (value x) (has y l ∙ e)

    like-no : (x y : ℕ) → y < n → (value y ≡ value x → ⊥) → like x (get_or rs y d) ≡ false
    like-no x y l e = same-no (f (get_or rs y d)) (value x) (λ q. e (sym (has y l) ∙ q))

    -- in the front that ends with a run
    run-front : (k x : ℕ) → k < n → value k ≡ value x → count_by (like x) (take (suc k) rs) + start (suc k) ≡ suc k
    run-front k x l e =
        let r = in-run k l in
        let many : length (take (suc k) rs) ≡ suc k = length-take-le (suc k) rs (omega (arith, l, long)) in
        count-window (like x) (take (suc k) rs) (start (suc k)) (suc k) d (omega (arith, r.within)) (omega (arith, many))
        (λ i h. at i (omega (arith, h, r.within)) ∙ like-no x i (omega (arith, h, r.within, l)) (λ q. r.other i h (q ∙ sym e)))
        (λ i h m. at i m ∙ like-yes x i (omega (arith, m, l)) (r.same i h (omega (arith, m)) ∙ e))
        (λ i h m. absurd (omega (arith, h, m, many)))
      where
        at : (i : ℕ) → i < suc k → like x (get_or (take (suc k) rs) i d) ≡ like x (get_or rs i d)
        at i h = ap (like x) (get_or-take (suc k) rs i d h)

    pub length-is : (k : ℕ) → k ≤ n → (x : ℕ) → x < k → length_at none value k (start (suc x)) ≡ count_by (like x) (take k rs)
    length-is zero h x l = absurd (omega (arith, l))
    length-is (suc k) h x l = go (int_eq (value k) (value x)) refl (length-is k (omega (arith, h)) x)
      where
        go : (b : Bool) → int_eq (value k) (value x) ≡ b → (x < k → length_at none value k (start (suc x)) ≡ count_by (like x) (take k rs))
            → length_at none value (suc k) (start (suc x)) ≡ count_by (like x) (take (suc k) rs)
        go true q ih =
            let e : value k ≡ value x = same-told (value k) (value x) q in
            ap (λ (b : Bool). cond b (so_far none value (suc k)) (length_at none value k (start (suc x)))) (eq-eqb _ _ (one-start k x (omega (arith, h)) (omega (arith, l, h)) e))
            ∙ omega (arith, run-front k x (omega (arith, h)) e)
        go false q ih =
            ap (λ (b : Bool). cond b (so_far none value (suc k)) (length_at none value k (start (suc x)))) (ne_eqb _ _ (λ p. apart (one-value k x (omega (arith, h)) (omega (arith, l, h)) p)))
            ∙ ih (at (cases_lt x k))
            ∙ sym (count-step (like x) rs k d (omega (arith, h, long)) ∙ omega (arith, none-more))
          where
            apart : value k ≡ value x → ⊥
            apart e = false≢true (sym q ∙ same-yes (value k) (value x) e)

            at : ((x < k) ⊎ (k ≤ x)) → x < k
            at (inl p) = p
            at (inr p) = let e : k ≡ x = omega (arith, l, p) in absurd (apart (ap value e))

            none-more : ◌≡◌ {A = ℕ} (cond (like x (get_or rs k d)) 1 0) 0
            none-more = ap (λ (b : Bool). cond b 1 0) (like-no x k (omega (arith, h)) apart)

    pub run-length : (x : ℕ) → x < n → length_at none value n (start (suc x)) ≡ count_by (like x) rs
    run-length x l = length-is n (omega arith) x l ∙ ap (λ (l : List A). count_by (like x) l) (take_all n rs (omega (arith, long)))

    pub most-low : (x : ℕ) → x < n → count_by (like x) rs ≤ most_at none value n
    most-low x l = omega (arith, run-length x l, length-low n (start (suc x)))

    pub most-high : (k b : ℕ) → k ≤ n → ((x : ℕ) → x < n → count_by (like x) rs ≤ b) → most_at none value k ≤ b
    most-high zero b h f = omega arith
    most-high (suc k) b h f =
        omega (
          arith,
          most-high k b (omega (arith, h)) f,
          f k (omega (arith, h)),
          run-front k k (omega (arith, h)) refl,
          sum_by-take-le (λ z. cond (like k z) 1 0) rs (suc k),
        )

    -- those before the entry at rank x
    pub before-is : (before : A → A → Bool) → ((x y : ℕ) → x < y → y < n → value x ≡ value y → before (get_or rs x d) (get_or rs y d) ≡ true)
        → ((a : A) → before a a ≡ false) → ((a b : A) → before a b ≡ true → before b a ≡ false)
        → (x : ℕ) → x < n → count_by (λ z. before z (get_or rs x d) && like x z) rs + start (suc x) ≡ x
    before-is before ties itself other x l =
        let r = in-run x l in
        count-window (λ z. before z (get_or rs x d) && like x z) rs (start (suc x)) x d r.within (omega (arith, l, long))
        (λ i h. and_right _ _ (like-no x i (omega (arith, h, r.within, l)) (r.other i h)))
        (λ i h m. let e = r.same i h (omega (arith, m)) in and_from _ _ (ties i x m l e) (like-yes x i (omega (arith, m, l)) e))
        (λ i h m. late i h (omega (arith, m, long)) (cases_lt x i) (int_eq (value i) (value x)) refl)
      where
        late : (i : ℕ) → x ≤ i → i < n → ((x < i) ⊎ (i ≤ x)) → (b : Bool) → int_eq (value i) (value x) ≡ b → (before (get_or rs i d) (get_or rs x d) && like x (get_or rs i d)) ≡ false
        late i h m (inr p) b q =
            let e : x ≡ i = omega (arith, h, p) in
            and_left _ _ (subst (λ (z : ℕ). before (get_or rs z d) (get_or rs x d) ≡ false) e (itself (get_or rs x d)))
        late i h m (inl p) true q = and_left _ _ (other (get_or rs x d) (get_or rs i d) (ties x i p m (sym (same-told (value i) (value x) q))))
        late i h m (inl p) false q = and_right _ _ (like-no x i m (λ e. false≢true (sym q ∙ same-yes (value i) (value x) e)))
