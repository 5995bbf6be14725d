-- The first condition that holds decides: the parts of a declaration by the numbers of their entries.
use Rattle.std.proofs.Common.{◌≡◌, ℕ, zero, suc, ◌+◌, ◌<◌, ◌⊎◌, List, [], ◌∷◌, map, length, get_or, Bool, true, false, not, cond, eqb, pos, sym, refl, ap, ap₂, ◌∙◌, subst, inl, inr, arith, All, eq-eqb}
use Rattle.std.specs.List.{filter, position_or_len, range_with_len}
use Rattle.std.proofs.lemmas.Bool.{cases_eq, ne_eqb}
use Rattle.std.proofs.lemmas.List.{ext_get_or, get_or-map, length-map}
use Rattle.std.proofs.lemmas.List.FromFn.{get_or-map-range_with_len, length-map-range_with_len}
use Rattle.std.proofs.lemmas.Simd.{map-map}
use Rattle.us_expr.specs.declared.queries.Cond.{Cond}
use Rattle.us_matrix.specs.Map.{Map}
use Rattle.us_format.specs.Buffers.{meets, parts_of, shares}
use Rattle.us_format.specs.Declaration.{Query, Part, Declaration}
use Rattle.us_format.specs.Matrix.{Entry, Shape}
use Rattle.us_format.specs.Program.{entries_in, plain_entries, shape_in}
use Rattle.us_format.specs.Queries.{variable_at}
use Rattle.us_variables.specs.declared.variables.Variables.{Variables}
use Rattle.us_variables.specs.Counted.{AreVariables, value_in}
use Rattle.us_layout.specs.Splitting.{AreShares, share_in, share_of}
use Rattle.us_layout.proofs.Shared.{share-filter}

-- ---- filters

filter-same : {A : Type 0} (f g : A → Bool) (xs : List A) → ((x : A) → f x ≡ g x) → filter f xs ≡ filter g xs
filter-same f g [] e = refl
filter-same {A} f g (x ∷ xs) e = ap₂ (λ (b : Bool) (ys : List A). cond b (x ∷ ys) ys) (e x) (filter-same f g xs e)

filter-all : {A : Type 0} (f : A → Bool) (xs : List A) → ((x : A) → f x ≡ true) → filter f xs ≡ xs
filter-all f [] e = refl
filter-all {A} f (x ∷ xs) e = ap₂ (λ (b : Bool) (ys : List A). cond b (x ∷ ys) ys) (e x) (filter-all f xs e)

-- what passes two filters
filter-both : {A : Type 0} (f g h : A → Bool) (xs : List A) → ((x : A) → h x ≡ cond (g x) (f x) false) → filter f (filter g xs) ≡ filter h xs
filter-both f g h [] e = refl
filter-both {A} f g h (x ∷ xs) e = go (g x) (e x) (filter-both f g h xs e)
  where
    go : (b : Bool) → h x ≡ cond b (f x) false → filter f (filter g xs) ≡ filter h xs → filter f (cond b (x ∷ filter g xs) (filter g xs)) ≡ cond (h x) (x ∷ filter h xs) (filter h xs)
    go true q ih = ap₂ (λ (b : Bool) (ys : List A). cond b (x ∷ ys) ys) (sym q) ih
    go false q ih = ih ∙ ap (λ (b : Bool). cond b (x ∷ filter h xs) (filter h xs)) (sym q)

range-next : (a n : ℕ) → range_with_len (a + 1) n ≡ map (λ p. p + 1) (range_with_len a n)
range-next a zero = refl
range-next a (suc n) = ap (λ (xs : List ℕ). (a + 1) ∷ xs) (range-next (a + 1) n)

shifted : (n p : ℕ) → eqb (1 + n) (p + 1) ≡ eqb n p
shifted n p = go (cases_eq n p)
  where
    go : ((n ≡ p) ⊎ (n ≡ p → ⊥)) → eqb (1 + n) (p + 1) ≡ eqb n p
    go (inl e) = eq-eqb (1 + n) (p + 1) (omega (arith, e)) ∙ sym (eq-eqb n p e)
    go (inr f) = ne_eqb (1 + n) (p + 1) (λ e. f (omega (arith, e))) ∙ sym (ne_eqb n p f)

-- ---- the first condition decides

module _ (test : Cond → Entry → Bool) where
  -- the number of the part of an entry
  abbrev pub number : List Cond → Entry → ℕ
  number cs x = position_or_len (λ c. test c x) cs

  -- the entries of each part
  abbrev pub divided : List Cond → List Entry → List (List Entry)
  divided [] m = m ∷ []
  divided (c ∷ cs) m = filter (test c) m ∷ divided cs (filter (λ x. not (test c x)) m)

  first-decides : (c : Cond) (cs : List Cond) (x : Entry) → test c x ≡ eqb (number (c ∷ cs) x) 0
  first-decides c cs x = go (test c x)
    where
      go : (b : Bool) → b ≡ eqb (cond (not b) (1 + number cs x) 0) 0
      go true = refl
      go false = sym (ne_eqb (1 + number cs x) 0 (λ e. absurd (omega (arith, e))))

  others-decide : (c : Cond) (cs : List Cond) (p : ℕ) (x : Entry) → eqb (number (c ∷ cs) x) (p + 1) ≡ cond (not (test c x)) (eqb (number cs x) p) false
  others-decide c cs p x = go (test c x)
    where
      go : (b : Bool) → eqb (cond (not b) (1 + number cs x) 0) (p + 1) ≡ cond (not b) (eqb (number cs x) p) false
      go true = ne_eqb 0 (p + 1) (λ e. absurd (omega (arith, e)))
      go false = shifted (number cs x) p

  divided-is : (cs : List Cond) (m : List Entry) → divided cs m ≡ map (λ p. filter (λ x. eqb (number cs x) p) m) (range_with_len 0 (suc (length cs)))
  divided-is [] m = ap (λ (xs : List Entry). xs ∷ []) (sym (filter-all (λ x. eqb (number [] x) 0) m (λ x. refl)))
  divided-is (c ∷ cs) m =
      ap₂ (λ (x : List Entry) (xs : List (List Entry)). x ∷ xs) (filter-same (test c) (λ x. eqb (number (c ∷ cs) x) 0) m (first-decides c cs))
      (divided-is cs (filter (λ x. not (test c x)) m)
      ∙ same-map (λ p. filter (λ x. eqb (number cs x) p) (filter (λ x. not (test c x)) m)) (λ p. filter (λ x. eqb (number (c ∷ cs) x) (p + 1)) m) (range_with_len 0 (suc (length cs)))
      (λ p. filter-both (λ x. eqb (number cs x) p) (λ x. not (test c x)) (λ x. eqb (number (c ∷ cs) x) (p + 1)) m (others-decide c cs p))
      ∙ sym (ap (map (λ p. filter (λ x. eqb (number (c ∷ cs) x) p) m)) (range-next 0 (suc (length cs)))
      ∙ map-map (λ p. filter (λ x. eqb (number (c ∷ cs) x) p) m) (λ p. p + 1) (range_with_len 0 (suc (length cs)))))
    where
      same-map : (f g : ℕ → List Entry) (xs : List ℕ) → ((p : ℕ) → f p ≡ g p) → map f xs ≡ map g xs
      same-map f g [] e = refl
      same-map f g (x ∷ xs) e = ap₂ (λ (y : List Entry) (ys : List (List Entry)). y ∷ ys) (e x) (same-map f g xs e)

  shares-divided : (cs : List Cond) (ps : List Part) (m : List Entry) → length ps ≡ suc (length cs) → map (λ part. part.1) (shares test cs ps m) ≡ divided cs m
  shares-divided [] [] m l = absurd (omega (arith, l))
  shares-divided [] (p ∷ ps) m l = refl
  shares-divided (c ∷ cs) [] m l = absurd (omega (arith, l))
  shares-divided (c ∷ cs) (p ∷ ps) m l = ap (λ (xs : List (List Entry)). filter (test c) m ∷ xs) (shares-divided cs ps (filter (λ x. not (test c x)) m) (omega (arith, l)))

-- ---- the parts that are counted

-- the condition by the value of its variable
abbrev pub test_of : List Entry → Shape → List Query → Cond → Entry → Bool
test_of m s qs c x = meets c (variable_at m s qs c.var x)

position-same : (f g : Cond → Bool) (cs : List Cond) → ((c : Cond) → f c ≡ g c) → position_or_len f cs ≡ position_or_len g cs
position-same f g [] e = refl
position-same f g (c ∷ cs) e = ap₂ (λ (b : Bool) (n : ℕ). cond (not b) (1 + n) 0) (e c) (position-same f g cs e)

pub parts-are : (m : List Entry) (s : Shape) (qs : List Query) (n : ℕ) (t : Variables) (cs : List Cond) (count : ℕ) → AreVariables m s qs n t → count ≡ length m
    → map (λ k. position_or_len (λ c. meets c (value_in t c.var k)) cs) (range_with_len 0 count) ≡ map (number (test_of m s qs) cs) m
parts-are m s qs n t cs count h e =
    ext_get_or 0 _ _ (length-map-range_with_len at 0 count ∙ e ∙ sym (length-map m (number (test_of m s qs) cs)))
    (λ k l. here k (omega (arith, l, length-map-range_with_len at 0 count)))
  where
    none : Entry
    none = record { i = 0; j = 0; v = pos 0 }

    at : ℕ → ℕ
    at k = position_or_len (λ c. meets c (value_in t c.var k)) cs

    here : (k : ℕ) → k < count → get_or (map at (range_with_len 0 count)) k 0 ≡ get_or (map (number (test_of m s qs) cs) m) k 0
    here k l =
        get_or-map-range_with_len at 0 count k k 0 l (omega arith)
        ∙ position-same (λ c. meets c (value_in t c.var k)) (λ c. test_of m s qs c (get_or m k none)) cs (λ c. ap (meets c) (h.values c.var k none (omega (arith, l, e))))
        ∙ sym (get_or-map (number (test_of m s qs) cs) m k none 0 (omega (arith, l, e)))

pub shares-are : (m : Map) (qs : List Query) (cs : List Cond) (ns : List ℕ) (count : ℕ) (ms : List Map) → ns ≡ map (number (test_of (entries_in m) (shape_in m) qs) cs) (entries_in m) → count ≡ suc (length cs)
    → ms ≡ map (share_in m ns) (range_with_len 0 count) → AreShares m qs cs ms
shares-are m qs cs ns count ms e n q = record {
  shapes = subst (λ (xs : List Map). All (λ share. shape_in share ≡ shape_in m) xs) (sym q) (shaped (range_with_len 0 count));
  entries = λ d h k l. split d h k l ∙ sym (ap (map entries_in) q ∙ map-map entries_in (share_in m ns) (range_with_len 0 count) ∙ filtered);
}
  where
    test : Cond → Entry → Bool
    test = test_of (entries_in m) (shape_in m) qs

    shaped : (xs : List ℕ) → All (λ share. shape_in share ≡ shape_in m) (map (share_in m ns) xs)
    shaped [] k d l = absurd (omega (arith, l))
    shaped (x ∷ xs) zero d l = refl
    shaped (x ∷ xs) (suc k) d l = shaped xs k d (omega (arith, l))

    split : (d : Declaration) → d.head ≡ qs → d.conds ≡ cs → length d.parts ≡ suc (length cs)
        → map (λ part. part.1) (parts_of (shape_in m) d (entries_in m)) ≡ map (λ p. filter (λ x. eqb (number test cs x) p) (entries_in m)) (range_with_len 0 (suc (length cs)))
    split d h k l =
        ap (λ (xs : List Query). map (λ part. part.1) (shares (test_of (entries_in m) (shape_in m) xs) d.conds d.parts (entries_in m))) h
        ∙ ap (λ (xs : List Cond). map (λ part. part.1) (shares test xs d.parts (entries_in m))) k
        ∙ shares-divided test cs d.parts (entries_in m) l
        ∙ divided-is test cs (entries_in m)

    filtered : map (λ p. entries_in (share_in m ns p)) (range_with_len 0 count) ≡ map (λ p. filter (λ x. eqb (number test cs x) p) (entries_in m)) (range_with_len 0 (suc (length cs)))
    filtered =
        same-map (range_with_len 0 count) ∙ ap (λ (k : ℕ). map (λ p. filter (λ x. eqb (number test cs x) p) (entries_in m)) (range_with_len 0 k)) n
      where
        each : (p : ℕ) → entries_in (share_in m ns p) ≡ filter (λ x. eqb (number test cs x) p) (entries_in m)
        each p = ap (λ (xs : List ℕ). plain_entries (share_of p xs m.entries)) e ∙ share-filter (number test cs) p m.entries

        same-map : (xs : List ℕ) → map (λ p. entries_in (share_in m ns p)) xs ≡ map (λ p. filter (λ x. eqb (number test cs x) p) (entries_in m)) xs
        same-map [] = refl
        same-map (x ∷ xs) = ap₂ (λ (y : List Entry) (ys : List (List Entry)). y ∷ ys) (each x) (same-map xs)
