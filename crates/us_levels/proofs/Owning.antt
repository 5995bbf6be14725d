-- The lists of the pieces that no pack has, one after the other.
use Rattle.std.proofs.Common.{◌≡◌, ℕ, zero, suc, ◌+◌, ◌<◌, ◌≤◌, ℤ, List, [], ◌∷◌, ◌++◌, map, length, get_or, take, drop, Bool, true, false, cond, not, sym, refl, ap, ap₂, ◌∙◌, arith, Option, Some, None}
use Rattle.std.specs.List.{filter}
use Rattle.std.specs.Option.{is_some}
use Rattle.std.proofs.lemmas.Bool.{false≢true}
use Rattle.std.proofs.lemmas.List.{append-nil, drop_more, get_or-map, length-append, length-take-le, take-append-drop, take_all, take_more}
use Rattle.std.proofs.lemmas.List.Filters.{length-filter_more}
use Rattle.us_format.specs.Declaration.{Part}
use Rattle.us_format.specs.Lists.{or_else, nth}
use Rattle.us_format.specs.Packs.{Piece, is_packed}
use Rattle.us_layout.specs.Arranging.{plain_piece}
use Rattle.us_layout.specs.declared.pieces.Piece as code
use Rattle.us_levels.specs.declared.differing.Difference.{Difference}
use Rattle.us_levels.specs.Lists.{list_difference, lists_difference, own_lists}
use Rattle.us_levels.proofs.Unlike.{differences-behind, differences-found}

module _ (p : Part) where
  -- whether no pack has a piece
  abbrev pub is_own : Piece → Bool
  is_own x = not (is_packed p x)

  pub own-none : (xs : List Piece) → own_lists p xs [] ≡ []
  own-none [] = refl
  own-none (x ∷ xs) = refl

  no-pieces : (k : ℕ) (cs : List (List ℤ)) → own_lists p (drop k []) cs ≡ []
  no-pieces zero cs = refl
  no-pieces (suc k) cs = refl

  pub own-behind : (xs : List Piece) (cs bs : List (List ℤ)) → own_lists p xs (cs ++ bs) ≡ own_lists p xs cs ++ own_lists p (drop (length cs) xs) bs
  own-behind [] cs bs = sym (no-pieces (length cs) bs)
  own-behind (x ∷ xs) [] bs = refl
  own-behind (x ∷ xs) (a ∷ cs) bs = go (is_packed p x) (own-behind xs cs bs)
    where
      go : (b : Bool) → own_lists p xs (cs ++ bs) ≡ own_lists p xs cs ++ own_lists p (drop (length cs) xs) bs
          → cond b (own_lists p xs (cs ++ bs)) (a ∷ own_lists p xs (cs ++ bs)) ≡ cond b (own_lists p xs cs) (a ∷ own_lists p xs cs) ++ own_lists p (drop (length cs) xs) bs
      go true ih = ih
      go false ih = ap (λ (l : List (List ℤ)). a ∷ l) ih

  pub own-apart : (xs ys : List Piece) (cs bs : List (List ℤ)) → length xs ≡ length cs → own_lists p (xs ++ ys) (cs ++ bs) ≡ own_lists p xs cs ++ own_lists p ys bs
  own-apart [] ys [] bs e = refl
  own-apart [] ys (a ∷ cs) bs e = absurd (omega (arith, e))
  own-apart (x ∷ xs) ys [] bs e = absurd (omega (arith, e))
  own-apart (x ∷ xs) ys (a ∷ cs) bs e = go (is_packed p x) (own-apart xs ys cs bs (omega (arith, e)))
    where
      go : (b : Bool) → own_lists p (xs ++ ys) (cs ++ bs) ≡ own_lists p xs cs ++ own_lists p ys bs
          → cond b (own_lists p (xs ++ ys) (cs ++ bs)) (a ∷ own_lists p (xs ++ ys) (cs ++ bs)) ≡ cond b (own_lists p xs cs) (a ∷ own_lists p xs cs) ++ own_lists p ys bs
      go true ih = ih
      go false ih = ap (λ (l : List (List ℤ)). a ∷ l) ih

  pub own-long : (xs : List Piece) (cs : List (List ℤ)) → length xs ≡ length cs → length (own_lists p xs cs) ≡ length (filter is_own xs)
  own-long [] cs e = refl
  own-long (x ∷ xs) [] e = absurd (omega (arith, e))
  own-long (x ∷ xs) (a ∷ cs) e = go (is_packed p x) (own-long xs cs (omega (arith, e)))
    where
      go : (b : Bool) → length (own_lists p xs cs) ≡ length (filter is_own xs)
          → length (cond b (own_lists p xs cs) (a ∷ own_lists p xs cs)) ≡ length (cond (not b) (x ∷ filter is_own xs) (filter is_own xs))
      go true ih = ih
      go false ih = ap suc ih

  pub own-first : (k : ℕ) (xs : List Piece) (cs : List (List ℤ)) → k ≤ length cs → k ≤ length xs → length (own_lists p xs (take k cs)) ≡ length (filter is_own (take k xs))
  own-first k xs cs h l =
      let a : length (take k cs) ≡ k = length-take-le k cs h in
      let x : length (take k xs) ≡ k = length-take-le k xs l in
      let e : own_lists p xs (take k cs) ≡ own_lists p (take k xs) (take k cs) =
      ap₂ (own_lists p) (sym (take-append-drop k xs)) (sym (append-nil (take k cs)))
      ∙ own-apart (take k xs) (drop k xs) (take k cs) [] (x ∙ sym a) ∙ ap (λ (l : List (List ℤ)). own_lists p (take k xs) (take k cs) ++ l) (own-none (drop k xs)) ∙ append-nil (own_lists p (take k xs) (take k cs)) in
      ap length e ∙ own-long (take k xs) (take k cs) (x ∙ sym a)

  -- the list of one piece, unless a pack has it
  abbrev pub own_one : Bool → List ℤ → List (List ℤ)
  own_one packed c = cond packed [] (c ∷ [])

  pub own-more : (k : ℕ) (xs : List Piece) (cs : List (List ℤ)) (d : Piece) → k < length cs → k < length xs
      → own_lists p xs (take (k + 1) cs) ≡ own_lists p xs (take k cs) ++ own_one (is_packed p (get_or xs k d)) (get_or cs k [])
  own-more k xs cs d h l =
      ap (own_lists p xs) (take_more cs k [] h)
      ∙ own-behind xs (take k cs) (get_or cs k [] ∷ [])
      ∙ ap (λ (n : ℕ). own_lists p xs (take k cs) ++ own_lists p (drop n xs) (get_or cs k [] ∷ [])) (length-take-le k cs (omega arith))
      ∙ ap (λ (ys : List Piece). own_lists p xs (take k cs) ++ own_lists p ys (get_or cs k [] ∷ [])) (drop_more xs k d l)
      ∙ ap (λ (ys : List (List ℤ)). own_lists p xs (take k cs) ++ cond (is_packed p (get_or xs k d)) ys (get_or cs k [] ∷ ys)) (own-none (drop (k + 1) xs))

  -- ---- a walk through the lists

  -- what stands before the list k, where the lists before `first` don't differ
  pub record AreOwn (base : ℕ) (xs : List Piece) (cs bufs : List (List ℤ)) (first k place : ℕ) : Type 0 where
    pub counted : place ≡ base + length (own_lists p xs (take k cs))
    pub same : lists_difference base (own_lists p xs (take first cs)) bufs ≡ None → lists_difference base (own_lists p xs (take k cs)) bufs ≡ None

  module _ (base : ℕ) (xs : List Piece) (cs bufs : List (List ℤ)) (first k place : ℕ) (d : Piece) (h : k < length cs) (l : k < length xs) (o : AreOwn base xs cs bufs first k place) where
    pub own-passed : is_packed p (get_or xs k d) ≡ true → AreOwn base xs cs bufs first (k + 1) place
    own-passed b =
        let e : own_lists p xs (take (k + 1) cs) ≡ own_lists p xs (take k cs) =
        own-more k xs cs d h l ∙ ap (λ (b : Bool). own_lists p xs (take k cs) ++ own_one b (get_or cs k [])) b ∙ append-nil (own_lists p xs (take k cs)) in
        record { counted = omega (arith, o.counted, ap length e); same = λ n. ap (λ (ls : List (List ℤ)). lists_difference base ls bufs) e ∙ o.same n }

    module _ (b : is_packed p (get_or xs k d) ≡ false) (found : Option Difference) (f : found ≡ list_difference place (get_or cs k []) (nth bufs place)) where
      longer : own_lists p xs (take (k + 1) cs) ≡ own_lists p xs (take k cs) ++ get_or cs k [] ∷ []
      longer = own-more k xs cs d h l ∙ ap (λ (b : Bool). own_lists p xs (take k cs) ++ own_one b (get_or cs k [])) b

      next : lists_difference base (own_lists p xs (take first cs)) bufs ≡ None → lists_difference base (own_lists p xs (take (k + 1) cs)) bufs ≡ found
      next n =
          ap (λ (ls : List (List ℤ)). lists_difference base ls bufs) longer
          ∙ differences-behind base (own_lists p xs (take k cs)) (get_or cs k [] ∷ []) bufs (o.same n)
          ∙ ap (λ (i : ℕ). lists_difference i (get_or cs k [] ∷ []) bufs) (omega (arith, o.counted))
          ∙ go (list_difference place (get_or cs k []) (nth bufs place)) f
        where
          go : (r : Option Difference) → found ≡ r → or_else r None ≡ found
          go None q = sym q
          go (Some x) q = sym q

      pub own-equal : is_some found ≡ false → AreOwn base xs cs bufs first (k + 1) (place + 1)
      own-equal s = record {
        counted = omega (arith, o.counted, ap length longer, length-append (own_lists p xs (take k cs)) (get_or cs k [] ∷ []));
        same = λ n. next n ∙ none found s;
      }
        where
          none : (r : Option Difference) → is_some r ≡ false → r ≡ None
          none None q = refl
          none (Some x) q = absurd (false≢true (sym q))

      pub own-found : is_some found ≡ true → lists_difference base (own_lists p xs (take first cs)) bufs ≡ None → found ≡ lists_difference base (own_lists p xs cs) bufs
      own-found s n =
          let e : own_lists p xs cs ≡ own_lists p xs (take (k + 1) cs) ++ own_lists p (drop (length (take (k + 1) cs)) xs) (drop (k + 1) cs) =
          ap (own_lists p xs) (sym (take-append-drop (k + 1) cs)) ∙ own-behind xs (take (k + 1) cs) (drop (k + 1) cs) in
          go found s (next n) e
        where
          go : (r : Option Difference) → is_some r ≡ true → lists_difference base (own_lists p xs (take (k + 1) cs)) bufs ≡ r
              → own_lists p xs cs ≡ own_lists p xs (take (k + 1) cs) ++ own_lists p (drop (length (take (k + 1) cs)) xs) (drop (k + 1) cs)
              → r ≡ lists_difference base (own_lists p xs cs) bufs
          go None s q e = absurd (false≢true s)
          go (Some x) s q e =
              sym (ap (λ (ls : List (List ℤ)). lists_difference base ls bufs) e
              ∙ differences-found base (own_lists p xs (take (k + 1) cs)) (own_lists p (drop (length (take (k + 1) cs)) xs) (drop (k + 1) cs)) bufs x q)

  pub own-start : (base : ℕ) (xs : List Piece) (cs bufs : List (List ℤ)) (first place : ℕ) → first ≤ length cs → first ≤ length xs → place ≡ base + length (filter is_own (take first xs)) → AreOwn base xs cs bufs first first place
  own-start base xs cs bufs first place h l e = record { counted = omega (arith, e, own-first first xs cs h l); same = λ n. n }

  pub own-end : (base : ℕ) (xs : List Piece) (cs bufs : List (List ℤ)) (first k place : ℕ) → length cs ≤ k → AreOwn base xs cs bufs first k place
      → lists_difference base (own_lists p xs (take first cs)) bufs ≡ None → None ≡ lists_difference base (own_lists p xs cs) bufs
  own-end base xs cs bufs first k place h o n = sym (o.same n) ∙ ap (λ (ls : List (List ℤ)). lists_difference base (own_lists p xs ls) bufs) (take_all k cs h)

  -- ---- how many there are

  -- the test of a piece of the program
  pub packed-at : (names : List code.Piece) (k : ℕ) (d : code.Piece) (e : Piece) (b : Bool) → k < length names → b ≡ is_packed p (plain_piece (get_or names k d)) → is_packed p (get_or (map plain_piece names) k e) ≡ b
  packed-at names k d e b h q = ap (is_packed p) (get_or-map plain_piece names k d e h) ∙ sym q

  pub count-more : (xs : List Piece) (k count : ℕ) (d : Piece) → k < length xs → count ≡ length (filter is_own (take k xs)) → is_packed p (get_or xs k d) ≡ false → count + 1 ≡ length (filter is_own (take (k + 1) xs))
  count-more xs k count d h e b = omega (arith, e, length-filter_more is_own xs k d h, ap {B = ℕ} (λ (b : Bool). cond (not b) 1 0) b)

  pub count-same : (xs : List Piece) (k count : ℕ) (d : Piece) → k < length xs → count ≡ length (filter is_own (take k xs)) → is_packed p (get_or xs k d) ≡ true → count ≡ length (filter is_own (take (k + 1) xs))
  count-same xs k count d h e b = omega (arith, e, length-filter_more is_own xs k d h, ap {B = ℕ} (λ (b : Bool). cond (not b) 1 0) b)

  pub count-least : (xs : List Piece) → length (filter is_own xs) ≤ length xs
  count-least [] = omega arith
  count-least (x ∷ xs) = go (is_own x) (count-least xs)
    where
      go : (b : Bool) → length (filter is_own xs) ≤ length xs → length (cond b (x ∷ filter is_own xs) (filter is_own xs)) ≤ suc (length xs)
      go true ih = omega (arith, ih)
      go false ih = omega (arith, ih)

  pub count-below : (xs : List Piece) (k count : ℕ) → k ≤ length xs → count ≡ length (filter is_own (take k xs)) → count ≤ k
  count-below xs k count h e = omega (arith, e, count-least (take k xs), length-take-le k xs h)

  pub place-below : (base : ℕ) (xs : List Piece) (cs bufs : List (List ℤ)) (first k place : ℕ) → k ≤ length cs → k ≤ length xs → AreOwn base xs cs bufs first k place → place ≤ base + k
  place-below base xs cs bufs first k place h l o = omega (arith, o.counted, count-below xs k (length (own_lists p xs (take k cs))) l (own-first k xs cs h l))
