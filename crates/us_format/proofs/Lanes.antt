-- Each index is put into a lane.
use Rattle.std.proofs.Common.{◌≡◌, ℕ, zero, suc, ◌<◌, ◌≤◌, ◌⊎◌, List, [], ◌∷◌, ◌++◌, map, length, ◌+◌, ◌*◌, Bool, true, false, cond, All, eqb, ltb, sym, refl, ap, ◌∙◌, subst, inl, inr, arith, fold, max, eq-eqb}
use Rattle.std.proofs.lemmas.Bool.{or_cases, or_left, or_right, false≢true}
use Rattle.std.specs.List.{range_with_len, list_any, sum_by}
use Rattle.std.proofs.Math.ListN.{length-append, length-map}
use Rattle.std.proofs.lemmas.List.{get_or-map}
use Rattle.std.proofs.lemmas.List.Sums.{sum_by-cons, sum_by-le}
use Rattle.std.proofs.lemmas.List.FromFn.{length-range_with_len}
use Rattle.us_expr.specs.declared.queries.Axis.{Axis}
use Rattle.us_format.specs.Lists.{among}
use Rattle.us_format.specs.Matrix.{Entry, Shape, indices}
use Rattle.us_format.specs.Queries.{load, least, least_load, put_in, empty_lanes, lanes_of, schedule_extent}
use Rattle.us_format.proofs.Order.{Mem, Mem-of_map}
use Rattle.us_format.proofs.Members.{Mem-right}
use Rattle.us_format.proofs.Collect.{Mem-among, range-Mem}
use Rattle.us_format.proofs.Queries.{fold-max-at}

pub Mem-greatest : (a n : ℕ) (xs : List ℕ) → Mem n xs → n ≤ fold max a xs
Mem-greatest a n [] h = absurd h
Mem-greatest a n (x ∷ xs) (inl e) = omega (arith, e, more (max a x) xs)
  where
    more : (b : ℕ) (ys : List ℕ) → b ≤ fold max b ys
    more b [] = omega arith
    more b (y ∷ ys) = omega (arith, more (max b y) ys)
Mem-greatest a n (x ∷ xs) (inr h) = Mem-greatest (max a x) n xs h

pub least-Mem : (bs : List ℕ) (a : ℕ) → Mem (least bs a) (a ∷ bs)
least-Mem [] a = inl refl
least-Mem (b ∷ bs) a = go (ltb b a) (least-Mem bs (cond (ltb b a) b a))
  where
    go : (t : Bool) → Mem (least bs (cond t b a)) (cond t b a ∷ bs) → Mem (least bs (cond t b a)) (a ∷ b ∷ bs)
    go true (inl e) = inr (inl e)
    go true (inr h) = inr (inr h)
    go false (inl e) = inl e
    go false (inr h) = inr (inr h)

pub among-last : (a : ℕ) (lane : List ℕ) → among a (lane ++ a ∷ []) ≡ true
among-last a lane = Mem-among a (lane ++ a ∷ []) (Mem-right a lane (a ∷ []) (inl refl))

pub among-more : (b a : ℕ) (lane : List ℕ) → among b lane ≡ true → among b (lane ++ a ∷ []) ≡ true
among-more b a [] h = absurd (false≢true h)
among-more b a (c ∷ lane) h = go (or_cases (eqb b c) (among b lane) h) (among-more b a lane)
  where
    go : ((eqb b c ≡ true) ⊎ (among b lane ≡ true)) → (among b lane ≡ true → among b (lane ++ a ∷ []) ≡ true) → among b (c ∷ (lane ++ a ∷ [])) ≡ true
    go (inl e) ih = or_left _ _ e
    go (inr e) ih = or_right _ _ (ih e)

module _ (m : List Entry) (axis : Axis) where
  -- whether an index is in some lane
  abbrev pub placed : ℕ → List (List ℕ) → Bool
  placed b lanes = list_any (among b) lanes

  pub put-length : (low a : ℕ) (lanes : List (List ℕ)) → length (put_in m axis low a lanes) ≡ length lanes
  put-length low a [] = refl
  put-length low a (lane ∷ lanes) = go (eqb (load m axis lane) low) (put-length low a lanes)
    where
      go : (t : Bool) → length (put_in m axis low a lanes) ≡ length lanes → length (cond t ((lane ++ a ∷ []) ∷ lanes) (lane ∷ put_in m axis low a lanes)) ≡ suc (length lanes)
      go true h = refl
      go false h = ap suc h

  pub put-there : (low a : ℕ) (lanes : List (List ℕ)) (l : List ℕ) → Mem l lanes → load m axis l ≡ low → placed a (put_in m axis low a lanes) ≡ true
  put-there low a [] l h e = absurd h
  put-there low a (lane ∷ lanes) l h e = go (eqb (load m axis lane) low) refl h (λ k. put-there low a lanes l k e)
    where
      go : (t : Bool) → eqb (load m axis lane) low ≡ t → Mem l (lane ∷ lanes) → (Mem l lanes → placed a (put_in m axis low a lanes) ≡ true) → placed a (cond t ((lane ++ a ∷ []) ∷ lanes) (lane ∷ put_in m axis low a lanes)) ≡ true
      go true q k ih = or_left _ _ (among-last a lane)
      go false q (inl k) ih = absurd (false≢true (sym q ∙ eq-eqb (load m axis lane) low (ap (load m axis) k ∙ e)))
      go false q (inr k) ih = or_right _ _ (ih k)

  pub put-keeps : (low a b : ℕ) (lanes : List (List ℕ)) → placed b lanes ≡ true → placed b (put_in m axis low a lanes) ≡ true
  put-keeps low a b [] h = absurd (false≢true h)
  put-keeps low a b (lane ∷ lanes) h = go (eqb (load m axis lane) low) (or_cases (among b lane) (placed b lanes) h) (put-keeps low a b lanes)
    where
      go : (t : Bool) → ((among b lane ≡ true) ⊎ (placed b lanes ≡ true)) → (placed b lanes ≡ true → placed b (put_in m axis low a lanes) ≡ true) → placed b (cond t ((lane ++ a ∷ []) ∷ lanes) (lane ∷ put_in m axis low a lanes)) ≡ true
      go true (inl e) ih = or_left _ _ (among-more b a lane e)
      go true (inr e) ih = or_right _ _ e
      go false (inl e) ih = or_left _ _ e
      go false (inr e) ih = or_right _ _ (ih e)

  -- one index more, into the first lane of least load
  abbrev pub turn : List (List ℕ) → ℕ → List (List ℕ)
  turn lanes a = put_in m axis (least_load m axis lanes) a lanes

  pub turn-there : (lanes : List (List ℕ)) (a : ℕ) → 0 < length lanes → placed a (turn lanes a) ≡ true
  turn-there [] a h = absurd (omega (arith, h))
  turn-there (lane ∷ lanes) a h =
      let r = Mem-of_map (load m axis) (least_load m axis (lane ∷ lanes)) (lane ∷ lanes) (least-Mem (map (load m axis) lanes) (load m axis lane)) in
      put-there (least_load m axis (lane ∷ lanes)) a (lane ∷ lanes) r.0 r.1 r.2

  pub turns-length : (xs : List ℕ) (lanes : List (List ℕ)) → length (fold turn lanes xs) ≡ length lanes
  turns-length [] lanes = refl
  turns-length (x ∷ xs) lanes = turns-length xs (turn lanes x) ∙ put-length (least_load m axis lanes) x lanes

  pub turns-keep : (xs : List ℕ) (lanes : List (List ℕ)) (b : ℕ) → placed b lanes ≡ true → placed b (fold turn lanes xs) ≡ true
  turns-keep [] lanes b h = h
  turns-keep (x ∷ xs) lanes b h = turns-keep xs (turn lanes x) b (put-keeps (least_load m axis lanes) x b lanes h)

  pub turns-there : (xs : List ℕ) (lanes : List (List ℕ)) (a : ℕ) → 0 < length lanes → Mem a xs → placed a (fold turn lanes xs) ≡ true
  turns-there [] lanes a h k = absurd k
  turns-there (x ∷ xs) lanes a h (inl e) = turns-keep xs (turn lanes x) a (subst (λ (z : ℕ). placed z (turn lanes x) ≡ true) e (turn-there lanes x h))
  turns-there (x ∷ xs) lanes a h (inr k) = turns-there xs (turn lanes x) a (subst (λ (n : ℕ). 0 < n) (sym (put-length (least_load m axis lanes) x lanes)) h) k

  pub empty-length : (n : ℕ) → length (empty_lanes n) ≡ n
  empty-length zero = refl
  empty-length (suc n) = ap suc (empty-length n)

  pub lanes-length : (s : Shape) (n : ℕ) → length (lanes_of m s axis n) ≡ n
  lanes-length s n = turns-length (range_with_len 0 (indices axis s)) (empty_lanes n) ∙ empty-length n

  pub lanes-there : (s : Shape) (n a : ℕ) → 0 < n → a < indices axis s → list_any (among a) (lanes_of m s axis n) ≡ true
  lanes-there s n a h l =
      turns-there (range_with_len 0 (indices axis s)) (empty_lanes n) a (subst (λ (k : ℕ). 0 < k) (sym (empty-length n)) h) (range-Mem 0 (indices axis s) a (omega arith) (omega (arith, l)))

  -- ---- how many indices there are in the lanes

  pub put-total : (low a : ℕ) (lanes : List (List ℕ)) (l : List ℕ) → Mem l lanes → load m axis l ≡ low → sum_by length (put_in m axis low a lanes) ≡ suc (sum_by length lanes)
  put-total low a [] l h e = absurd h
  put-total low a (lane ∷ lanes) l h e = go (eqb (load m axis lane) low) refl h (λ k. put-total low a lanes l k e)
    where
      go : (t : Bool) → eqb (load m axis lane) low ≡ t → Mem l (lane ∷ lanes) → (Mem l lanes → sum_by length (put_in m axis low a lanes) ≡ suc (sum_by length lanes))
          → sum_by length (cond t ((lane ++ a ∷ []) ∷ lanes) (lane ∷ put_in m axis low a lanes)) ≡ suc (sum_by length (lane ∷ lanes))
      go true q k ih = rw (sum_by-cons length (lane ++ a ∷ []) lanes, sum_by-cons length lane lanes, length-append lane (a ∷ [])) (omega arith)
      go false q (inl k) ih = absurd (false≢true (sym q ∙ eq-eqb (load m axis lane) low (ap (load m axis) k ∙ e)))
      go false q (inr k) ih = rw (sum_by-cons length lane (put_in m axis low a lanes), sum_by-cons length lane lanes, ih k) (omega arith)

  pub turn-total : (lanes : List (List ℕ)) (a : ℕ) → 0 < length lanes → sum_by length (turn lanes a) ≡ suc (sum_by length lanes)
  turn-total [] a h = absurd (omega (arith, h))
  turn-total (lane ∷ lanes) a h =
      let r = Mem-of_map (load m axis) (least_load m axis (lane ∷ lanes)) (lane ∷ lanes) (least-Mem (map (load m axis) lanes) (load m axis lane)) in
      put-total (least_load m axis (lane ∷ lanes)) a (lane ∷ lanes) r.0 r.1 r.2

  pub turns-total : (xs : List ℕ) (lanes : List (List ℕ)) → 0 < length lanes → sum_by length (fold turn lanes xs) ≡ length xs + sum_by length lanes
  turns-total [] lanes h = omega arith
  turns-total (x ∷ xs) lanes h =
      turns-total xs (turn lanes x) (subst (λ (n : ℕ). 0 < n) (sym (put-length (least_load m axis lanes) x lanes)) h) ∙ rw (turn-total lanes x h) (omega arith)

  -- there are as many places in the lanes as indices, or more
  pub lanes-hold : (s : Shape) (n : ℕ) → 0 < n → indices axis s ≤ n * schedule_extent m s axis n
  lanes-hold s n h =
      omega (
        arith,
        turns-total (range_with_len 0 (indices axis s)) (empty_lanes n) (subst (λ (k : ℕ). 0 < k) (sym (empty-length n)) h),
        length-range_with_len 0 (indices axis s),
        subst (λ (k : ℕ). sum_by length (lanes_of m s axis n) ≤ k * schedule_extent m s axis n) (lanes-length s n) (sum_by-le length (schedule_extent m s axis n) (lanes_of m s axis n) each),
      )
    where
      each : All (λ l. length l ≤ schedule_extent m s axis n) (lanes_of m s axis n)
      each k d l =
          subst (λ (z : ℕ). z ≤ schedule_extent m s axis n) (get_or-map length (lanes_of m s axis n) k d 0 l)
          (fold-max-at 0 (map length (lanes_of m s axis n)) k 0 (rw (length-map (lanes_of m s axis n) length) l))
