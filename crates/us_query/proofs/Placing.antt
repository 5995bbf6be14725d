-- Indices that are put into lanes keep their places.
use Rattle.std.proofs.Common.{◌≡◌, ℕ, zero, suc, ◌+◌, ◌*◌, ◌/◌, ◌<◌, ◌≤◌, ◌⊎◌, List, [], ◌∷◌, ◌++◌, length, get_or, true, false, eqb, sym, refl, ap, ◌∙◌, subst, inl, inr, arith, eq-eqb, eqb-true, All, Vec, Global, ap₂, add-one}
use Rattle.std.specs.List.{position_or_len}
use Rattle.std.proofs.Math.Nat.{div-lt_iff_lt-mul}
use Rattle.std.proofs.lemmas.Bool.{cases_Bool, cases_eq, cases_lt, ne_eqb}
use Rattle.std.proofs.lemmas.List.{get_or_append_left, get_or_default, get_or_push, get_or-map, get_or-set_other, get_or-set_same, length_push, length-map, length-set, map-append}
use Rattle.std.proofs.lemmas.List.Sums.{position_or_len_is}
use Rattle.us_format.specs.Lists.{among, nth}
use Rattle.us_format.specs.Queries.{empty_lanes}
use Rattle.us_format.proofs.Collect.{Mem-among}
use Rattle.us_format.proofs.Members.{contains-Mem}
use Rattle.us_format.proofs.Queries.{found-first}
use Rattle.us_query.specs.declared.lanes.Place.{Place}
use Rattle.us_query.specs.Lanes.{IsPlaceOf, IsPlaced, StandsAt, lane_in, numbers_in, place_of, slot_in, with_index}

-- ---- no index

nth-empty : (n l : ℕ) → nth (empty_lanes n) l ≡ []
nth-empty zero l = refl
nth-empty (suc n) zero = refl
nth-empty (suc n) (suc l) = nth-empty n l

pub placed-none : (n : ℕ) → IsPlaced (empty_lanes n) []
placed-none n = record {
  few = omega arith;
  short = λ l. subst (λ (xs : List ℕ). length xs ≤ 0) (sym (nth-empty n l)) (omega arith);
  stands = λ a l. absurd (omega (arith, l));
  back = λ l s h. subst (λ (xs : List ℕ). IsPlaceOf [] l s xs) (sym (nth-empty n l)) (λ k. absurd (omega (arith, k)));
}

-- ---- one index more

module _ (lanes : List (List ℕ)) (places : List Place) (p : ℕ) (inside : p < length lanes) (placed : IsPlaced lanes places) where
  abbrev k : ℕ
  k = length places

  abbrev lane : List ℕ
  lane = nth lanes p

  abbrev longer : List ℕ
  longer = lane ++ k ∷ []

  abbrev lanes_now : List (List ℕ)
  lanes_now = with_index lanes p k

  abbrev last : Place
  last = record { lane = p; slot = length lane }

  abbrev places_now : List Place
  places_now = places ++ last ∷ []

  many : length places_now ≡ k + 1
  many = length_push places last

  at-p : nth lanes_now p ≡ longer
  at-p = get_or-set_same lanes p longer [] inside

  elsewhere : (l : ℕ) → (l ≡ p → ⊥) → nth lanes_now l ≡ nth lanes l
  elsewhere l n = get_or-set_other lanes p l longer [] n

  old-place : (a : ℕ) → a < k → place_of places_now a ≡ place_of places a
  old-place a h = get_or_append_left places (last ∷ []) (record { lane = 0; slot = 0 }) a h

  new-place : place_of places_now k ≡ last
  new-place = get_or_push places last (record { lane = 0; slot = 0 }) k refl

  -- ---- from the lanes to the places

  abbrev Is : ℕ → ℕ → ℕ → Type 0
  Is l s a = (a < length places_now) × (place_of places_now a ≡ record { lane = l; slot = s })

  old-back : (l s : ℕ) → l < length lanes → s < length (nth lanes l) → Is l s (get_or (nth lanes l) s 0)
  old-back l s h t = let b = placed.back l s h t in (omega (arith, b.0, many), old-place (get_or (nth lanes l) s 0) b.0 ∙ b.1)

  new-back : (s : ℕ) → s < length longer → Is p s (get_or longer s 0)
  new-back s h = go (cases_lt s (length lane))
    where
      go : ((s < length lane) ⊎ (length lane ≤ s)) → Is p s (get_or longer s 0)
      go (inl t) = subst (λ (a : ℕ). Is p s a) (sym (get_or_append_left lane (k ∷ []) 0 s t)) (old-back p s inside t)
      go (inr t) =
          let e : length lane ≡ s = omega (arith, h, t, length_push lane k) in
          subst (λ (a : ℕ). Is p s a) (sym (get_or_push lane k 0 s e)) (omega (arith, many), new-place ∙ ap (λ (x : ℕ). record { lane = p; slot = x }) e)

  back-now : (l s : ℕ) → l < length lanes_now → IsPlaceOf places_now l s (nth lanes_now l)
  back-now l s h = go (cases_eq l p)
    where
      long : l < length lanes
      long = omega (arith, h, length-set lanes p longer)

      go : ((l ≡ p) ⊎ (l ≡ p → ⊥)) → IsPlaceOf places_now l s (nth lanes_now l)
      go (inl e) = subst (λ (x : ℕ). IsPlaceOf places_now x s (nth lanes_now x)) (sym e) (subst (λ (xs : List ℕ). IsPlaceOf places_now p s xs) (sym at-p) (new-back s))
      go (inr n) = subst (λ (xs : List ℕ). IsPlaceOf places_now l s xs) (sym (elsewhere l n)) (old-back l s long)

  -- ---- from the places to the lanes

  abbrev In : Place → ℕ → List ℕ → Type 0
  In q a xs = (q.slot < length xs) × (get_or xs q.slot 0 ≡ a)

  grows : (q : Place) (a : ℕ) → StandsAt lanes q a → StandsAt lanes_now q a
  grows q a t =
      let r : In q a (nth lanes_now q.lane) = go (cases_eq q.lane p) in
      (omega (arith, t.0, length-set lanes p longer), r.0, r.1)
    where
      go : ((q.lane ≡ p) ⊎ (q.lane ≡ p → ⊥)) → In q a (nth lanes_now q.lane)
      go (inl e) =
          let u : In q a lane = subst (λ (x : ℕ). In q a (nth lanes x)) e (t.1, t.2) in
          subst (λ (x : ℕ). In q a (nth lanes_now x)) (sym e)
          (subst (λ (xs : List ℕ). In q a xs) (sym at-p) (omega (arith, u.0, length_push lane k), get_or_append_left lane (k ∷ []) 0 q.slot u.0 ∙ u.1))
      go (inr n) = subst (λ (xs : List ℕ). In q a xs) (sym (elsewhere q.lane n)) (t.1, t.2)

  stands-last : StandsAt lanes_now last k
  stands-last =
      let r : In last k (nth lanes_now p) = subst (λ (xs : List ℕ). In last k xs) (sym at-p) (omega (arith, length_push lane k), get_or_push lane k 0 (length lane) refl) in
      (omega (arith, inside, length-set lanes p longer), r.0, r.1)

  stands-now : (a : ℕ) → a < length places_now → StandsAt lanes_now (place_of places_now a) a
  stands-now a h = go (cases_lt a k)
    where
      go : ((a < k) ⊎ (k ≤ a)) → StandsAt lanes_now (place_of places_now a) a
      go (inl l) = subst (λ (q : Place). StandsAt lanes_now q a) (sym (old-place a l)) (grows (place_of places a) a (placed.stands a l))
      go (inr l) =
          let e : k ≡ a = omega (arith, h, l, many) in
          subst (λ (x : ℕ). StandsAt lanes_now (place_of places_now x) x) e (subst (λ (q : Place). StandsAt lanes_now q k) (sym new-place) stands-last)

  short-now : (l : ℕ) → length (nth lanes_now l) ≤ length places_now
  short-now l = go (cases_eq l p)
    where
      go : ((l ≡ p) ⊎ (l ≡ p → ⊥)) → length (nth lanes_now l) ≤ length places_now
      go (inl e) = omega (arith, ap (λ (x : ℕ). length (nth lanes_now x)) e, ap (λ (xs : List ℕ). length xs) at-p, length_push lane k, placed.short p, many)
      go (inr n) = omega (arith, ap (λ (xs : List ℕ). length xs) (elsewhere l n), placed.short l, many)

  pub placed-more : k < 67108864 → IsPlaced lanes_now places_now
  placed-more h = record { few = omega (arith, h, many); short = short-now; stands = stands-now; back = back-now }

-- ---- places are lanes and slots

module _ (lanes : List (List ℕ)) (places : List Place) (placed : IsPlaced lanes places) (a : ℕ) (inside : a < length places) where
  abbrev at : Place
  at = place_of places a

  standing : StandsAt lanes at a
  standing = placed.stands a inside

  -- the place of the index at a place
  told : (l s : ℕ) → l < length lanes → s < length (nth lanes l) → get_or (nth lanes l) s 0 ≡ a → at ≡ record { lane = l; slot = s }
  told l s h t e = subst (λ (x : ℕ). place_of places x ≡ record { lane = l; slot = s }) e (placed.back l s h t).1

  in-lane : among a (nth lanes at.lane) ≡ true
  in-lane =
      Mem-among a (nth lanes at.lane)
      (contains-Mem (nth lanes at.lane) a (at.slot, standing.1, get_or_default (nth lanes at.lane) at.slot a 0 standing.1 ∙ standing.2))

  not-before : (l : ℕ) → l < at.lane → among a (nth lanes l) ≡ false
  not-before l h = go (cases_Bool (among a (nth lanes l)))
    where
      go : ((among a (nth lanes l) ≡ true) ⊎ (among a (nth lanes l) ≡ false)) → among a (nth lanes l) ≡ false
      go (inr e) = e
      go (inl e) =
          let f = found-first (eqb a) (nth lanes l) 0 e in
          let q = told l (position_or_len (eqb a) (nth lanes l)) (omega (arith, h, standing.0)) f.0 (sym (eqb-true a (get_or (nth lanes l) (position_or_len (eqb a) (nth lanes l)) 0) f.1)) in
          absurd (omega (arith, h, ap (λ (x : Place). x.lane) q))

  pub lane-is : at.lane ≡ lane_in lanes a
  lane-is = sym (position_or_len_is (among a) lanes at.lane [] (omega (arith, standing.0)) not-before (λ l. in-lane))

  slot-before : (s : ℕ) → s < at.slot → eqb a (get_or (nth lanes at.lane) s 0) ≡ false
  slot-before s h =
      ne_eqb a (get_or (nth lanes at.lane) s 0)
      (λ e. absurd (omega (arith, h, ap (λ (x : Place). x.slot) (told at.lane s standing.0 (omega (arith, h, standing.1)) (sym e)))))

  pub slot-is : at.slot ≡ slot_in lanes a
  slot-is =
      subst (λ (l : ℕ). at.slot ≡ position_or_len (eqb a) (nth lanes l)) lane-is
      (sym (position_or_len_is (eqb a) (nth lanes at.lane) at.slot 0 (omega (arith, standing.1)) slot-before (λ l. eq-eqb a (get_or (nth lanes at.lane) at.slot 0) (sym standing.2))))

-- ---- as they are used

pub short-lanes : (lanes : List (List ℕ)) (places : List Place) → IsPlaced lanes places → All (λ lane. length lane < 4294967296) lanes
short-lanes lanes places h k d l =
    omega (arith, h.short k, h.few, ap (λ (xs : List ℕ). length xs) (get_or_default lanes k d [] l))

pub below-lanes : (lanes : List (List ℕ)) (places : List Place) → IsPlaced lanes places → All (λ lane. All (λ a. a < 67108864) lane) lanes
below-lanes lanes places h k d l =
    subst (λ (lane : List ℕ). All (λ a. a < 67108864) lane) (get_or_default lanes k [] d l)
    (λ s e t. omega (arith, h.few, (h.back k s l t).0, get_or_default (nth lanes k) s e 0 t))

-- ---- the lists of the program

pub lane-at : (lists : List (Vec ℕ Global)) (i : ℕ) (v : Vec ℕ Global) → i < length lists → v ≡ get_or lists i v → v.items ≡ nth (numbers_in lists) i
lane-at lists i v l e = ap (λ (x : Vec ℕ Global). x.items) e ∙ sym (get_or-map (λ (x : Vec ℕ Global). x.items) lists i v [] l)

pub empties-more : (lists now : List (Vec ℕ Global)) (v : Vec ℕ Global) (k : ℕ) → numbers_in lists ≡ empty_lanes k → now ≡ lists ++ v ∷ [] → v.items ≡ [] → numbers_in now ≡ empty_lanes (k + 1)
empties-more lists now v k i q e =
    ap numbers_in q ∙ map-append (λ (x : Vec ℕ Global). x.items) lists (v ∷ []) ∙ ap₂ (λ (xs : List (List ℕ)) (y : List ℕ). xs ++ y ∷ []) i e
    ∙ sym (ap empty_lanes (add-one k) ∙ at-end k)
  where
    at-end : (n : ℕ) → empty_lanes (suc n) ≡ empty_lanes n ++ [] ∷ []
    at-end zero = refl
    at-end (suc n) = ap (λ (xs : List (List ℕ)). [] ∷ xs) (at-end n)

pub inside-lane : (x n e : ℕ) → x < n * e → x / e < n
inside-lane x n zero h = absurd (omega (arith, h))
inside-lane x n (suc e) h = (div-lt_iff_lt-mul {k = suc e} {x = x} {y = n} (omega arith)).1 h

pub lists-long : (lists : List (Vec ℕ Global)) (n : ℕ) → numbers_in lists ≡ empty_lanes n → length lists ≡ n
lists-long lists n e = sym (length-map lists (λ (x : Vec ℕ Global). x.items)) ∙ ap (λ (xs : List (List ℕ)). length xs) e ∙ long n
  where
    long : (k : ℕ) → length (empty_lanes k) ≡ k
    long zero = refl
    long (suc k) = ap suc (long k)
