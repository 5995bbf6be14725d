-- The meaning of the buffers of a part is its entries.
use Rattle.std.specs.Prelude.{Ok}
use Rattle.us_format.specs.Coordinates.{coordinates}
use Rattle.std.proofs.Common.{filter, eqb, eqb-true, eq-eqb, ◌≡◌, ℕ, ◌<◌, ◌⊎◌, List, [], ◌∷◌, map, length, Bool, true, false, ℤ, sym, refl, ap, ◌∙◌, subst, inl, inr, arith, Some, lt-ltb}
use Rattle.std.proofs.lemmas.Bool.{cases_eq}
use Rattle.std.specs.List.{range_with_len}
use Rattle.us_format.proofs.Order.{Mem, Mem-map, Mem-of_map}
use Rattle.us_format.proofs.Agree.{Sound, all-tell}
use Rattle.us_format.proofs.PartLaw.{top-placed, top-slots, part-climb, take-whole, coords}
use Rattle.us_format.proofs.RecoverLaw.{IsFound, recovered-is}
use Rattle.us_format.proofs.Values.{last_count, values-length, last-below, value-there, no-value}
use Rattle.us_format.proofs.Collect.{RowMajor, collect-is, filter-none, range-distinct, Mem-range, range-Mem, Mem-among, filter-all}
use Rattle.us_format.specs.Buffers.{level_buffers}
use Rattle.us_format.specs.Climb.{climb, values}
use Rattle.us_format.specs.Declaration.{Part}
use Rattle.us_format.specs.Kinds.{Level, levels_of}
use Rattle.us_format.specs.Lists.{among, cell}
use Rattle.us_format.specs.Matrix.{Entry, Shape, is_zero}
use Rattle.us_format.specs.Meaning.{collect, entry_at, part_meaning, entries_of}
use Rattle.us_format.specs.Packs.{written}
use Rattle.us_format.specs.Positions.{last_place, row_of, rows_of}
use Rattle.us_format.specs.Queries.{extents_of}
use Rattle.us_format.specs.Recover.{Found}
use Rattle.us_format.specs.Reading.{Contents}

module _ (m : List Entry) (s : Shape) (p : Part) (so : Sound m s p) (tables : List (List ℤ)) where
  -- what a climb from x leaves
  abbrev pub found_of : Entry → Found
  found_of x = record { coords = coordinates m s p x; extents = extents_of m s p; tables = tables }

  -- a matrix of the shape, with right tables
  pub record IsMatrix : Type 0 where
    pub sorted : RowMajor m
    pub rows : (x : Entry) → Mem x m → x.i < s.rows
    pub cols : (x : Entry) → Mem x m → x.j < s.cols
    pub nonzero : (x : Entry) → Mem x m → is_zero x.v ≡ false
    pub found : (x : Entry) (mx : Mem x m) → IsFound m s p so x mx (found_of x)

  abbrev pub ls : List Level
  ls = levels_of s (extents_of m s p) p

  abbrev pub bufs : List (List ℤ)
  bufs = map written (level_buffers ls 1 (rows_of m s p))

  -- what the part's buffers hold, with these tables
  abbrev pub held : Contents
  held = record { extents = extents_of m s p; tables = tables; cells = bufs }

  abbrev pub place_of : Entry → ℕ
  place_of x = last_place ls (rows_of m s p) (row_of m s p x)

  pub row-in : (x : Entry) → Mem x m → Mem (row_of m s p x) (rows_of m s p)
  row-in x mx = Mem-map (row_of m s p) x m mx

  pub one-place : (a b : Entry) → Mem a m → Mem b m → place_of a ≡ place_of b → a ≡ b
  one-place a b ma mb e =
      let q : Some (0, coords m s p so a p.levels) ≡ Some (0, coords m s p so b p.levels) = sym (part-climb m s p so a ma) ∙ ap (climb ls bufs) e ∙ part-climb m s p so b mb in
      let h : coords m s p so a p.levels ≡ coords m s p so b p.levels = second (0, coords m s p so a p.levels) (0, coords m s p so b p.levels) q in
      all-tell m s p so a b ma mb (ap (coords m s p so a) (take-whole m s p so p.levels) ∙ h ∙ sym (ap (coords m s p so b) (take-whole m s p so p.levels)))
    where
      second : (u v : ℕ × List ℕ) → Some u ≡ Some v → u.1 ≡ v.1
      second u v h = let e : u ≡ v = cc in ap (λ (z : ℕ × List ℕ). z.1) e

  pub look : (es : List Entry) (y : ℕ) → ((e : Entry) × Mem e es × (place_of e ≡ y)) ⊎ ((e : Entry) → Mem e es → place_of e ≡ y → ⊥)
  look [] y = inr (λ e me q. me)
  look (a ∷ es) y = go (cases_eq (place_of a) y) (look es y)
    where
      go : ((place_of a ≡ y) ⊎ (place_of a ≡ y → ⊥)) → (((e : Entry) × Mem e es × (place_of e ≡ y)) ⊎ ((e : Entry) → Mem e es → place_of e ≡ y → ⊥))
          → ((e : Entry) × Mem e (a ∷ es) × (place_of e ≡ y)) ⊎ ((e : Entry) → Mem e (a ∷ es) → place_of e ≡ y → ⊥)
      go (inl q) r = inl (a, inl refl, q)
      go (inr n) (inl r) = inl (r.0, inr r.1, r.2)
      go (inr n) (inr r) = inr none
        where
          none : (e : Entry) → Mem e (a ∷ es) → place_of e ≡ y → ⊥
          none e (inl w) q = n (ap place_of w ∙ q)
          none e (inr k) q = r e k q

  pub reads : IsMatrix → (e : Entry) → Mem e m → entry_at s p held (place_of e) ≡ Some e
  reads im e me =
      rw (
        part-climb m s p so e me,
        recovered-is m s p so e me (found_of e) (im.found e me),
        value-there ls 1 (rows_of m s p) (row_of m s p e) (top-placed m s p so) (top-slots m s p so) (row-in e me),
        lt-ltb e.i s.rows (im.rows e me),
        lt-ltb e.j s.cols (im.cols e me),
      ) refl

  -- the positions of entries are below the number of values
  pub place-below : (y : Entry) → Mem y m → place_of y < length (values ls bufs)
  place-below y my = rw (values-length ls 1 (rows_of m s p)) (last-below ls 1 (rows_of m s p) (row_of m s p y) (top-placed m s p so) (top-slots m s p so) (row-in y my))

  -- at a position either nothing is read and no entry stands there, or the one entry is read
  abbrev pub ReadsAt : ℕ → Type 0
  ReadsAt y =
      ((is_zero (cell (values ls bufs) y) ≡ true) × ((e : Entry) → Mem e m → place_of e ≡ y → ⊥))
      ⊎ ((is_zero (cell (values ls bufs) y) ≡ false) × ((e : Entry) × Mem e m × (place_of e ≡ y) × (entry_at s p held y ≡ Some e)))

  pub reads-at : IsMatrix → (y : ℕ) → y < length (values ls bufs) → ReadsAt y
  reads-at im y h = at (look m y)
    where
      at : (((e : Entry) × Mem e m × (place_of e ≡ y)) ⊎ ((e : Entry) → Mem e m → place_of e ≡ y → ⊥)) → ReadsAt y
      at (inl f) =
          inr (
            subst (λ (z : ℕ). is_zero (cell (values ls bufs) z) ≡ false) f.2
                (ap is_zero (value-there ls 1 (rows_of m s p) (row_of m s p f.0) (top-placed m s p so) (top-slots m s p so) (row-in f.0 f.1)) ∙ im.nonzero f.0 f.1),
            (f.0, f.1, f.2, subst (λ (z : ℕ). entry_at s p held z ≡ Some f.0) f.2 (reads im f.0 f.1)),
          )
      at (inr n) =
          let l : y < last_count ls 1 (rows_of m s p) = omega (arith, h, values-length ls 1 (rows_of m s p)) in
          inl (ap is_zero (no-value ls 1 (rows_of m s p) y l (λ r mr q. let a = Mem-of_map (row_of m s p) r m mr in n a.0 a.1 (ap (last_place ls (rows_of m s p)) a.2 ∙ q))), n)

  pub part-meaning : IsMatrix → part_meaning s p held ≡ Some m
  part-meaning im =
      ap entries_of
      (subst (λ (l : List Entry). collect skip (entry_at s p held) xs l ≡ Ok (filter (λ y. among (place_of y) xs) m)) (filter-none m)
      (collect-is eqb (λ a b h. eqb-true a b h) (λ a. eq-eqb a a refl) skip (entry_at s p held) place_of m im.sorted one-place xs (λ _. false)
      (λ y my. reads-at im y (omega (arith, (Mem-range 0 (length (values ls bufs)) y my).1))) (range-distinct 0 (length (values ls bufs))) (λ y my k. refl)))
      ∙ ap Some (filter-all (λ y. among (place_of y) xs) m (λ y my. Mem-among (place_of y) xs (range-Mem 0 (length (values ls bufs)) (place_of y) (omega arith) (omega (arith, place-below y my)))))
    where
      skip : ℕ → Bool
      skip x = is_zero (cell (values ls bufs) x)

      xs : List ℕ
      xs = range_with_len 0 (length (values ls bufs))
