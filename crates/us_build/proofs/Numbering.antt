-- The steps of the loop that numbers the nodes of a compressed level.
use Rattle.std.proofs.Common.{◌≡◌, ℕ, zero, suc, ◌+◌, ◌-◌, ◌<◌, ◌≤◌, ◌⊎◌, List, [], ◌∷◌, ◌++◌, map, length, get_or, take, drop, set, sym, refl, ap, ◌∙◌, inl, inr, arith, add-sub_cancel}
use Rattle.std.proofs.lemmas.Bool.{cases_eq}
use Rattle.std.proofs.lemmas.List.{get_or-map, get_or_default, length-map}
use Rattle.us_format.specs.Lists.{head, rank}
use Rattle.us_format.specs.Positions.{node_of, nodes}
use Rattle.us_format.specs.declared.Kind.TheVariants.{Compressed}
use Rattle.us_build.specs.declared.items.Item.{Item}
use Rattle.us_build.specs.Items.{row_at, rows_at, stepped, IsAscending}
use Rattle.us_build.proofs.Ranks.{number-first, number-last, number-next}
use Rattle.us_build.proofs.Stepping.{head-drop, step_over, untouched}

-- the node of an item at a compressed level
abbrev pub node_at : ℕ → Item → List ℕ
node_at level x = node_of Compressed (row_at level x)

abbrev pub rank_at : ℕ → List Item → List ℕ → ℕ
rank_at level xs n = rank (nodes Compressed (rows_at level xs)) n

-- what stands after the first i items: the last of them has this parent and this coordinate, and its node is the last of `count`
pub record IsNumbered (level : ℕ) (xs ys : List Item) (i count parent coordinate : ℕ) : Type 0 where
  pub items : ys ≡ map (stepped Compressed 0 level (rows_at level xs)) (take i xs) ++ drop i xs
  pub start : i ≡ 0 → count ≡ 0
  pub node : 0 < i → (d : Item) → parent ∷ coordinate ∷ [] ≡ node_at level (get_or xs (i - 1) d)
  pub ranked : 0 < i → count ≡ rank_at level xs (parent ∷ coordinate ∷ []) + 1
  pub few : count ≤ i

module _ (level : ℕ) (xs : List Item) (up : IsAscending (rows_at level xs)) where
  pub node-is : (i : ℕ) (d : Item) → i < length xs → node_of Compressed (get_or (rows_at level xs) i (row_at level d)) ≡ node_at level (get_or xs i d)
  node-is i d h = ap (node_of Compressed) (get_or-map (row_at level) xs i d (row_at level d) h)

  pub first-rank : (d : Item) → 0 < length xs → rank_at level xs (node_at level (get_or xs 0 d)) ≡ 0
  first-rank d h =
      ap (rank_at level xs) (sym (node-is 0 d h)) ∙ number-first (rows_at level xs) up (row_at level d) (omega (arith, length-map xs (row_at level)))

  pub next-rank : (i : ℕ) (d : Item) → i + 1 < length xs → (node_at level (get_or xs i d) ≡ node_at level (get_or xs (i + 1) d) → ⊥)
      → rank_at level xs (node_at level (get_or xs (i + 1) d)) ≡ rank_at level xs (node_at level (get_or xs i d)) + 1
  next-rank i d h new =
      ap (rank_at level xs) (sym (node-is (i + 1) d h))
      ∙ number-next (rows_at level xs) up (row_at level d) i (omega (arith, length-map xs (row_at level))) (λ e. new (sym (node-is i d (omega arith)) ∙ e ∙ node-is (i + 1) d h))
      ∙ ap (λ (n : List ℕ). rank_at level xs n + 1) (node-is i d (omega arith))

  pub last-rank : (i : ℕ) (d : Item) → i + 1 ≡ length xs → length (nodes Compressed (rows_at level xs)) ≡ rank_at level xs (node_at level (get_or xs i d)) + 1
  last-rank i d h =
      number-last (rows_at level xs) up (row_at level d) i (omega (arith, length-map xs (row_at level))) ∙ ap (λ (n : List ℕ). rank_at level xs n + 1) (node-is i d (omega arith))

  -- the count with the item i
  pub counted-next : (ys : List Item) (i count parent coordinate result : ℕ) (d : Item) → IsNumbered level xs ys i count parent coordinate → i < length xs
      → (count ≡ 0 → result ≡ 1)
      → (0 < count → parent ≡ (get_or xs i d).at → coordinate ≡ get_or (get_or xs i d).coordinates level 0 → result ≡ count)
      → (0 < count → (parent ≡ (get_or xs i d).at → coordinate ≡ get_or (get_or xs i d).coordinates level 0 → ⊥) → result ≡ count + 1)
      → (result ≡ rank_at level xs (node_at level (get_or xs i d)) + 1) × (result ≤ i + 1)
  counted-next ys i count parent coordinate result d p h first old new = go i refl
    where
      x : Item
      x = get_or xs i d

      coordinate-is : head (drop level x.coordinates) ≡ get_or x.coordinates level 0
      coordinate-is = head-drop level x.coordinates

      here : parent ≡ x.at → coordinate ≡ get_or x.coordinates level 0 → parent ∷ coordinate ∷ [] ≡ node_at level x
      here e f = let g : coordinate ≡ head (drop level x.coordinates) = f ∙ sym coordinate-is in cc

      parts : parent ∷ coordinate ∷ [] ≡ node_at level x → (parent ≡ x.at) × (coordinate ≡ get_or x.coordinates level 0)
      parts e = (ap head e, ap (λ (l : List ℕ). get_or l 1 0) e ∙ coordinate-is)

      after : (k : ℕ) → i ≡ suc k → (result ≡ rank_at level xs (node_at level x) + 1) × (result ≤ i + 1)
      after k e = by (cases_eq parent x.at) (cases_eq coordinate (get_or x.coordinates level 0))
        where
          some : 0 < i
          some = omega (arith, e)

          some-count : 0 < count
          some-count = omega (arith, p.ranked some)

          same : parent ≡ x.at → coordinate ≡ get_or x.coordinates level 0 → (result ≡ rank_at level xs (node_at level x) + 1) × (result ≤ i + 1)
          same f g = (old some-count f g ∙ p.ranked some ∙ ap (λ (n : List ℕ). rank_at level xs n + 1) (here f g), omega (arith, old some-count f g, p.few))

          back : i - 1 ≡ k
          back = omega (arith, e)

          last : parent ∷ coordinate ∷ [] ≡ node_at level (get_or xs k d)
          last = p.node some d ∙ ap (λ (n : ℕ). node_at level (get_or xs n d)) back

          up-one : k + 1 ≡ i
          up-one = omega (arith, e)

          other : (parent ≡ x.at → coordinate ≡ get_or x.coordinates level 0 → ⊥) → (result ≡ rank_at level xs (node_at level x) + 1) × (result ≤ i + 1)
          other ne =
              let r : result ≡ count + 1 = new some-count ne in
              let differs : node_at level (get_or xs k d) ≡ node_at level (get_or xs (k + 1) d) → ⊥ = λ q. let z = parts (last ∙ q ∙ ap (λ (n : ℕ). node_at level (get_or xs n d)) up-one) in ne z.0 z.1 in
              let n : rank_at level xs (node_at level (get_or xs (k + 1) d)) ≡ rank_at level xs (node_at level (get_or xs k d)) + 1 = next-rank k d (omega arith) differs in
              let m : rank_at level xs (node_at level (get_or xs (k + 1) d)) ≡ rank_at level xs (node_at level x) = ap (λ (j : ℕ). rank_at level xs (node_at level (get_or xs j d))) up-one in
              let l : rank_at level xs (parent ∷ coordinate ∷ []) ≡ rank_at level xs (node_at level (get_or xs k d)) = ap (rank_at level xs) last in
              (omega (arith, r, n, m, l, p.ranked some), omega (arith, r, p.few))

          by : (parent ≡ x.at) ⊎ (parent ≡ x.at → ⊥) → (coordinate ≡ get_or x.coordinates level 0) ⊎ (coordinate ≡ get_or x.coordinates level 0 → ⊥)
              → (result ≡ rank_at level xs (node_at level x) + 1) × (result ≤ i + 1)
          by (inl f) (inl g) = same f g
          by (inl f) (inr n) = other (λ a b. n b)
          by (inr n) g = other (λ a b. n a)

      go : (k : ℕ) → i ≡ k → (result ≡ rank_at level xs (node_at level x) + 1) × (result ≤ i + 1)
      go zero e =
          let r : rank_at level xs (node_at level x) ≡ 0 = ap (λ (n : ℕ). rank_at level xs (node_at level (get_or xs n d))) e ∙ first-rank d (omega arith) in
          (omega (arith, first (p.start e), r), omega (arith, first (p.start e)))
      go (suc k) e = after k e

  -- one more item
  pub numbered-next : (ys : List Item) (i count parent coordinate result : ℕ) (d : Item) → IsNumbered level xs ys i count parent coordinate → i < length xs
      → (result ≡ rank_at level xs (node_at level (get_or xs i d)) + 1) × (result ≤ i + 1)
      → IsNumbered level xs (set ys i (record { above = (get_or ys i d).at; at = result - 1; coordinates = (get_or ys i d).coordinates; value = (get_or ys i d).value })) (i + 1)
      result (get_or ys i d).at (get_or (get_or ys i d).coordinates level 0)
  numbered-next ys i count parent coordinate result d p h r = record {
    items =
        step_over (stepped Compressed 0 level (rows_at level xs)) (λ (y : Item). record { above = y.at; at = result - 1; coordinates = y.coordinates; value = y.value }) xs ys i d h p.items
        (ap (λ (n : ℕ). record { above = (get_or xs i d).at; at = n; coordinates = (get_or xs i d).coordinates; value = (get_or xs i d).value }) place);
    start = λ e. absurd (omega (arith, e));
    node = λ s e. node-here ∙ ap (node_at level) (read e) ∙ ap (λ (n : ℕ). node_at level (get_or xs n e)) (sym (add-sub_cancel i 1));
    ranked = λ s. r.0 ∙ ap (λ (n : List ℕ). rank_at level xs n + 1) (sym node-here);
    few = r.1;
  }
    where
      is : get_or ys i d ≡ get_or xs i d
      is = untouched (stepped Compressed 0 level (rows_at level xs)) xs ys i d h p.items

      place : result - 1 ≡ rank_at level xs (node_at level (get_or xs i d))
      place = omega (arith, r.0)

      node-here : (get_or ys i d).at ∷ get_or (get_or ys i d).coordinates level 0 ∷ [] ≡ node_at level (get_or xs i d)
      node-here =
          ap (λ (y : Item). y.at ∷ get_or y.coordinates level 0 ∷ []) is
          ∙ ap (λ (n : ℕ). (get_or xs i d).at ∷ n ∷ []) (sym (head-drop level (get_or xs i d).coordinates))

      read : (e : Item) → get_or xs i d ≡ get_or xs i e
      read e = get_or_default xs i d e h

  -- the step of the loop, by what `counted` ensures of the item read
  pub number-step : (ys : List Item) (i count parent coordinate result : ℕ) (d : Item) → IsNumbered level xs ys i count parent coordinate → i < length xs
      → (count ≡ 0 → result ≡ 1)
      → (0 < count → parent ≡ (get_or ys i d).at → coordinate ≡ get_or (get_or ys i d).coordinates level 0 → result ≡ count)
      → (0 < count → (parent ≡ (get_or ys i d).at → coordinate ≡ get_or (get_or ys i d).coordinates level 0 → ⊥) → result ≡ count + 1)
      → IsNumbered level xs (set ys i (record { above = (get_or ys i d).at; at = result - 1; coordinates = (get_or ys i d).coordinates; value = (get_or ys i d).value })) (i + 1)
      result (get_or ys i d).at (get_or (get_or ys i d).coordinates level 0)
  number-step ys i count parent coordinate result d p h first old new =
      numbered-next ys i count parent coordinate result d p h
      (counted-next ys i count parent coordinate result d p h first (λ s a b. old s (a ∙ sym at-is) (b ∙ sym coordinate-is)) (λ s n. new s (λ a b. n (a ∙ at-is) (b ∙ coordinate-is))))
    where
      is : get_or ys i d ≡ get_or xs i d
      is = untouched (stepped Compressed 0 level (rows_at level xs)) xs ys i d h p.items

      at-is : (get_or ys i d).at ≡ (get_or xs i d).at
      at-is = ap (λ (y : Item). y.at) is

      coordinate-is : get_or (get_or ys i d).coordinates level 0 ≡ get_or (get_or xs i d).coordinates level 0
      coordinate-is = ap (λ (y : Item). get_or y.coordinates level 0) is

  -- at the end the count is the number of nodes
  pub numbered-all : (ys : List Item) (i count parent coordinate : ℕ) (d : Item) → IsNumbered level xs ys i count parent coordinate → i ≡ length xs → count ≡ length (nodes Compressed (rows_at level xs))
  numbered-all ys i count parent coordinate d p h = go i refl
    where
      none : (zs : List Item) → length zs ≡ 0 → length (nodes Compressed (rows_at level zs)) ≡ 0
      none [] e = refl
      none (z ∷ zs) e = absurd (omega (arith, e))

      go : (k : ℕ) → i ≡ k → count ≡ length (nodes Compressed (rows_at level xs))
      go zero e = p.start e ∙ sym (none xs (sym h ∙ e))
      go (suc k) e =
          let back : i - 1 ≡ k = omega (arith, e) in
          let last : parent ∷ coordinate ∷ [] ≡ node_at level (get_or xs k d) = p.node (omega (arith, e)) d ∙ ap (λ (n : ℕ). node_at level (get_or xs n d)) back in
          p.ranked (omega (arith, e)) ∙ ap (λ (n : List ℕ). rank_at level xs n + 1) last ∙ sym (last-rank k d (omega (arith, e, h)))
