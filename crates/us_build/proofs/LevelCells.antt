-- What the loops over items write are the buffers of the level.
use Rattle.std.proofs.Common.{◌≡◌, ℕ, zero, suc, ◌+◌, ◌<◌, ◌≤◌, ◌⊎◌, List, [], ◌∷◌, ◌++◌, append_assoc, map, length, get_or, true, false, ltb, sym, refl, ap, ◌∙◌, subst, inl, inr, arith, count_by, ℤ, pos, All, AllPairs, lt-ltb, le-ltb, le-leb}
use Rattle.std.specs.List.{range_with_len}
use Rattle.std.proofs.Math.Path.{fun_ext}
use Rattle.std.proofs.lemmas.Bool.{cases_eq, cases_lt, lt-leb}
use Rattle.std.proofs.lemmas.List.{get_or-map, length-map}
use Rattle.us_format.specs.Buffers.{buffers_at, cell_of, crd_buffer, pos_buffer}
use Rattle.us_format.specs.Lists.{head, lower, rank}
use Rattle.us_format.specs.Packs.{Buffer, written}
use Rattle.us_format.specs.Positions.{Row, count_below, node_of, nodes, place}
use Rattle.us_format.specs.declared.Kind.{Kind}
use Rattle.us_format.specs.declared.Kind.TheVariants.{Compressed, Listed, Slot}
use Rattle.us_format.proofs.Order.{Mem, Mem-map, Mem-of_map, lower-irrefl}
use Rattle.us_format.proofs.Ascending.{lower-first}
use Rattle.us_format.proofs.Climb.{Tells, place-bound, same_place}
use Rattle.us_format.proofs.Members.{Mem-contains, all-Mem}
use Rattle.us_build.specs.declared.items.Item.{Item}
use Rattle.us_build.specs.Items.{IsAscending, key, row_above, row_at, rows_above, rows_at}
use Rattle.us_build.specs.Cells.{IsBelow, first_position}
use Rattle.us_build.proofs.Counts.{Mem-at, Mem-place, count-all, count-same, not_lower}
use Rattle.us_build.proofs.Mapped.{all-mapped}
use Rattle.us_build.proofs.Ranks.{lower-heads, node-found, node-rises}
use Rattle.us_build.proofs.Scattering.{cell-of_items}
use Rattle.us_build.proofs.Stepping.{head-drop}

-- ---- the first position from x on

-- either the item i is the first from x on, or there is none
abbrev pub Cases : ℕ → ℕ → List Item → Item → Type 0
Cases count x xs d =
    ((i : ℕ) × (i < length xs) × ((k : ℕ) → k < i → (get_or xs k d).above < x) × (x ≤ (get_or xs i d).above) × (first_position count x xs ≡ (get_or xs i d).at))
    ⊎ (((k : ℕ) → k < length xs → (get_or xs k d).above < x) × (first_position count x xs ≡ count))

pub first-cases : (count x : ℕ) (xs : List Item) (d : Item) → Cases count x xs d
first-cases count x [] d = inr ((λ k h. absurd (omega arith)), refl)
first-cases count x (r ∷ rs) d = go (cases_lt r.above x) (first-cases count x rs d)
  where
    go : (r.above < x) ⊎ (x ≤ r.above) → Cases count x rs d → Cases count x (r ∷ rs) d
    go (inr h) ih = inl (0, omega arith, (λ k l. absurd (omega arith)), h, rw (le-leb x r.above h) refl)
    go (inl h) (inl c) = inl (suc c.0, omega (arith, c.1), early, c.3, rw (lt-leb x r.above h) c.4)
      where
        early : (k : ℕ) → k < suc c.0 → (get_or (r ∷ rs) k d).above < x
        early zero l = h
        early (suc k) l = c.2 k (omega (arith, l))
    go (inl h) (inr c) = inr (all, rw (lt-leb x r.above h) c.1)
      where
        all : (k : ℕ) → k < suc (length rs) → (get_or (r ∷ rs) k d).above < x
        all zero l = h
        all (suc k) l = c.0 k (omega (arith, l))

-- ---- nodes in ascending order

pub ascending-at : (rows : List Row) (i j : ℕ) (d : Row) → IsAscending rows → i ≤ j → j < length rows → (get_or rows i d).at ≤ (get_or rows j d).at
ascending-at rows i j d up l h = go (cases_eq i j)
  where
    go : (i ≡ j) ⊎ (i ≡ j → ⊥) → (get_or rows i d).at ≤ (get_or rows j d).at
    go (inl e) = omega (arith, ap (λ (n : ℕ). (get_or rows n d).at) e)
    go (inr n) = lower-heads (key (get_or rows i d)) (key (get_or rows j d)) (up i j d (omega arith) h)

-- the nodes of a level that numbers them, one for each row at least
pub record AreNodes (kind : Kind) (rows : List Row) (d : Row) : Type 0 where
  pub found : (m : List ℕ) → Mem m (nodes kind rows) → (j : ℕ) × (j < length rows) × (node_of kind (get_or rows j d) ≡ m)
  pub rises : (i j : ℕ) → j ≤ i → i < length rows → lower (node_of kind (get_or rows i d)) (node_of kind (get_or rows j d)) ≡ false
  pub parent : (r : Row) → head (node_of kind r) ≡ r.at
  pub first : (r s : Row) → r.at < s.at → lower (node_of kind r) (node_of kind s) ≡ true

pub compressed-nodes : (rows : List Row) (d : Row) → IsAscending rows → AreNodes Compressed rows d
compressed-nodes rows d up = record {
  found = node-found rows up d;
  rises = node-rises rows up d;
  parent = λ r. refl;
  first = λ r s h. lower-first r.at s.at (head r.rest ∷ []) (head s.rest ∷ []) h;
}

pub listed-nodes : (rows : List Row) (d : Row) → IsAscending rows → AreNodes Listed rows d
listed-nodes rows d up = record {
  found = λ m h. let a = Mem-of_map (node_of Listed) m rows h in let b = Mem-place a.0 rows d a.1 in (b.0, b.1, ap (node_of Listed) b.2 ∙ a.2);
  rises = λ i j l h. rises i j l h (cases_eq i j);
  parent = λ r. refl;
  first = λ r s h. lower-first r.at s.at r.rest s.rest h;
}
  where
    rises : (i j : ℕ) → j ≤ i → i < length rows → (i ≡ j) ⊎ (i ≡ j → ⊥) → lower (key (get_or rows i d)) (key (get_or rows j d)) ≡ false
    rises i j l h (inl e) = subst (λ (k : ℕ). lower (key (get_or rows i d)) (key (get_or rows k d)) ≡ false) e (lower-irrefl (key (get_or rows i d)))
    rises i j l h (inr n) = not_lower (key (get_or rows j d)) (key (get_or rows i d)) (up j i d (omega arith) h)

module _ (kind : Kind) (rows : List Row) (d : Row) (up : IsAscending rows) (ns : AreNodes kind rows d) where
  -- where the row i is the first with a position from x on, the nodes with a parent below x are those that are lower than its node
  pub parents-below : (i x : ℕ) → i < length rows → ((k : ℕ) → k < i → (get_or rows k d).at < x) → x ≤ (get_or rows i d).at
      → count_by (λ m. ltb (head m) x) (nodes kind rows) ≡ rank (nodes kind rows) (node_of kind (get_or rows i d))
  parents-below i x h low high =
      count-same (λ m. ltb (head m) x) (λ m. lower m (node_of kind (get_or rows i d))) (nodes kind rows)
      (λ m mem. let f = ns.found m mem in subst (λ (z : List ℕ). ltb (head z) x ≡ lower z (node_of kind (get_or rows i d))) f.2 (go f.0 f.1 (cases_lt f.0 i)))
    where
      go : (j : ℕ) → j < length rows → (j < i) ⊎ (i ≤ j) → ltb (head (node_of kind (get_or rows j d))) x ≡ lower (node_of kind (get_or rows j d)) (node_of kind (get_or rows i d))
      go j l (inl a) =
          let b : (get_or rows j d).at < x = low j a in
          lt-ltb (head (node_of kind (get_or rows j d))) x (omega (arith, b, ns.parent (get_or rows j d))) ∙ sym (ns.first (get_or rows j d) (get_or rows i d) (omega (arith, b, high)))
      go j l (inr a) =
          let b : (get_or rows i d).at ≤ (get_or rows j d).at = ascending-at rows i j d up a l in
          le-ltb (head (node_of kind (get_or rows j d))) x (omega (arith, b, high, ns.parent (get_or rows j d))) ∙ sym (ns.rises j i a l)

  pub all-parents : (x : ℕ) → ((k : ℕ) → k < length rows → (get_or rows k d).at < x) → count_by (λ m. ltb (head m) x) (nodes kind rows) ≡ length (nodes kind rows)
  all-parents x low =
      count-all (λ m. ltb (head m) x) (nodes kind rows)
      (λ m mem. let f = ns.found m mem in subst (λ (z : List ℕ). ltb (head z) x ≡ true) f.2
      (let b : (get_or rows f.0 d).at < x = low f.0 f.1 in lt-ltb (head (node_of kind (get_or rows f.0 d))) x (omega (arith, b, ns.parent (get_or rows f.0 d)))))

-- ---- the buffers of a level

module _ (kind : Kind) (size n level : ℕ) (xs : List Item) (b : IsBelow kind size n level xs) where
  abbrev pub above : List Row
  above = rows_above level xs

  pub above-at : (i : ℕ) (d : Item) → i < length xs → get_or above i (row_above level d) ≡ row_above level (get_or xs i d)
  above-at i d h = get_or-map (row_above level) xs i d (row_above level d) h

  pub parents-at : (i : ℕ) (d : Item) → i < length xs → (get_or above i (row_above level d)).at ≡ (get_or xs i d).above
  parents-at i d h = ap (λ (r : Row). r.at) (above-at i d h)

  pub first-is_count : (d : Item) → AreNodes kind above (row_above level d) → ((r : Row) → place kind size above r ≡ rank (nodes kind above) (node_of kind r)) → (count x : ℕ) → count ≡ length (nodes kind above)
      → first_position count x xs ≡ count_by (λ m. ltb (head m) x) (nodes kind above)
  first-is_count d ns is count x len = go (first-cases count x xs d)
    where
      long : length above ≡ length xs
      long = length-map xs (row_above level)

      go : Cases count x xs d → first_position count x xs ≡ count_by (λ m. ltb (head m) x) (nodes kind above)
      go (inl c) =
          c.4 ∙ b.placed c.0 d c.1 ∙ is (row_above level (get_or xs c.0 d)) ∙ ap (λ (r : Row). rank (nodes kind above) (node_of kind r)) (sym (above-at c.0 d c.1))
          ∙ sym (parents-below kind above (row_above level d) b.ready.ascending ns c.0 x (omega (arith, c.1, long))
          (λ k l. let q : (get_or xs k d).above < x = c.2 k l in omega (arith, q, parents-at k d (omega (arith, l, c.1)))) (omega (arith, c.3, parents-at c.0 d c.1)))
      go (inr c) =
          c.1 ∙ len
          ∙ sym (all-parents kind above (row_above level d) b.ready.ascending ns x (λ k l. let q : (get_or xs k d).above < x = c.0 k (omega (arith, l, long)) in omega (arith, q, parents-at k d (omega (arith, l, long)))))

  pub starts-are : (d : Item) → AreNodes kind above (row_above level d) → ((r : Row) → place kind size above r ≡ rank (nodes kind above) (node_of kind r)) → (count : ℕ) → count ≡ length (nodes kind above)
      → map (λ x. pos (first_position count x xs)) (range_with_len 0 (n + 1)) ≡ written (pos_buffer (nodes kind above) n)
  starts-are d ns is count len =
      let e : (λ (x : ℕ). pos (first_position count x xs)) ≡ (λ (x : ℕ). pos (count_by (λ m. ltb (head m) x) (nodes kind above))) = fun_ext (λ x. ap pos (first-is_count d ns is count x len)) in
      ap (λ (f : ℕ → ℤ). map f (range_with_len 0 (n + 1))) e

  pub member : (x : Item) → Mem x xs → Mem (row_above level x) above
  member x m = Mem-map (row_above level) x xs m

  pub told : kind ≡ Slot → Tells above
  told e r s mr ms q = b.ready.tells e r s (Mem-contains above r mr) (Mem-contains above s ms) q

  pub head-small : (x : Item) → Mem x xs → head (row_above level x).rest < size
  head-small x m = all-Mem (λ (r : Row). head r.rest < size) above (row_above level x) b.ready.small (member x m)

  pub place-is : (x : Item) → Mem x xs → x.at ≡ place kind size above (row_above level x)
  place-is x m = all-Mem (λ (y : Item). y.at ≡ place kind size above (row_above level y)) xs x b.placed m

  pub all-within : (count : ℕ) → count ≡ count_below kind size n above → All (λ x. x.at < count) xs
  all-within count e k d l =
      let x : Item = get_or xs k d in
      let m : Mem x xs = Mem-at xs k d l in
      let r : place kind size above (row_above level x) < count_below kind size n above =
      place-bound kind size n above (row_above level x) (member x m) (head-small x m) (all-Mem (λ (r : Row). r.at < n) above (row_above level x) b.ready.below (member x m)) in
      omega (arith, r, e, place-is x m)

  pub all-fit : (most : ℕ) → size ≤ most → All (λ x. get_or x.coordinates level 0 < most) xs
  all-fit most h k d l = let x : Item = get_or xs k d in let q : head (row_above level x).rest < size = head-small x (Mem-at xs k d l) in omega (arith, q, h, head-drop level x.coordinates)

  pub all-above : All (λ x. x.above < n) xs
  all-above k d l = all-mapped (λ (r : Row). r.at < n) (row_above level) xs b.ready.below k d l

  pub coordinates-alike : AllPairs (λ x y. x.at ≡ y.at → get_or x.coordinates level 0 ≡ get_or y.coordinates level 0) xs
  coordinates-alike i j d l h e =
      let x : Item = get_or xs i d in
      let y : Item = get_or xs j d in
      let mx : Mem x xs = Mem-at xs i d (omega arith) in
      let my : Mem y xs = Mem-at xs j d h in
      sym (head-drop level x.coordinates)
      ∙ (same_place kind size above (row_above level x) (row_above level y) told (member x mx) (member y my) (head-small x mx) (head-small y my) (sym (place-is x mx) ∙ e ∙ place-is y my)).1
      ∙ head-drop level y.coordinates

  pub coordinates-are : (count : ℕ) → count ≡ count_below kind size n above
      → map (cell_of (λ r. r.at) (λ r. pos (head r.rest)) (rows_at level xs)) (range_with_len 0 count) ≡ written (crd_buffer kind size n above)
  coordinates-are count e =
      let f = λ (x : Item). pos (head (row_above level x).rest) in
      let g = λ (r : Row). pos (head r.rest) in
      let q : cell_of (λ r. r.at) g (rows_at level xs) ≡ cell_of (place kind size above) g above =
      fun_ext (λ x. sym (cell-of_items (row_at level) g f (λ r. r.at) xs (λ y m. refl) (λ y. refl) x) ∙ cell-of_items (row_above level) g f (place kind size above) xs place-is (λ y. refl) x) in
      ap (λ (c : ℕ → ℤ). map c (range_with_len 0 count)) q ∙ ap (λ (k : ℕ). map (cell_of (place kind size above) g above) (range_with_len 0 k)) e

-- the lists that a level which numbers its nodes adds
abbrev pub Adds : Kind → Type 0
Adds kind =
    (size n level : ℕ) (xs : List Item) (count : ℕ) (lists : List (List ℤ)) (starts cells : List ℤ) → IsBelow kind size n level xs → count ≡ count_below kind size n (rows_above level xs)
    → starts ≡ map (λ x. pos (first_position count x xs)) (range_with_len 0 (n + 1))
    → cells ≡ map (cell_of (λ r. r.at) (λ r. pos (head r.rest)) (rows_at level xs)) (range_with_len 0 count)
    → (lists ++ starts ∷ []) ++ cells ∷ [] ≡ lists ++ map written (buffers_at kind size n (rows_above level xs))

pub pair-added : (lists : List (List ℤ)) (starts cells a c : List ℤ) → starts ≡ a → cells ≡ c → (lists ++ starts ∷ []) ++ cells ∷ [] ≡ lists ++ a ∷ c ∷ []
pair-added lists starts cells a c p q =
    let r : starts ∷ cells ∷ [] ≡ a ∷ c ∷ [] = cc in
    append_assoc lists (starts ∷ []) (cells ∷ []) ∙ ap (λ (l : List (List ℤ)). lists ++ l) r

abbrev pub no_item : Item
no_item = record { above = 0; at = 0; coordinates = []; value = pos 0 }

pub compressed-lists : Adds Compressed
compressed-lists size n level xs count lists starts cells b e hs hc =
    pair-added lists starts cells (written (pos_buffer (nodes Compressed (rows_above level xs)) n)) (written (crd_buffer Compressed size n (rows_above level xs)))
    (hs ∙ starts-are Compressed size n level xs b no_item (compressed-nodes (rows_above level xs) (row_above level no_item) b.ready.ascending) (λ r. refl) count e)
    (hc ∙ coordinates-are Compressed size n level xs b count e)

pub listed-lists : Adds Listed
listed-lists size n level xs count lists starts cells b e hs hc =
    pair-added lists starts cells (written (pos_buffer (nodes Listed (rows_above level xs)) n)) (written (crd_buffer Listed size n (rows_above level xs)))
    (hs ∙ starts-are Listed size n level xs b no_item (listed-nodes (rows_above level xs) (row_above level no_item) b.ready.ascending) (λ r. refl) count e)
    (hc ∙ coordinates-are Listed size n level xs b count e)

pub numbered-lists : (kind : Kind) → (kind ≡ Compressed) ⊎ (kind ≡ Listed) → Adds kind
numbered-lists kind (inl q) = subst Adds (sym q) compressed-lists
numbered-lists kind (inr q) = subst Adds (sym q) listed-lists

-- the list that a slot level adds
pub slot-list : (kind : Kind) (size n level : ℕ) (xs : List Item) (count : ℕ) (lists : List (List ℤ)) (cells : List ℤ) → kind ≡ Slot → IsBelow kind size n level xs
    → count ≡ count_below kind size n (rows_above level xs)
    → cells ≡ map (cell_of (λ r. r.at) (λ r. pos (head r.rest)) (rows_at level xs)) (range_with_len 0 count)
    → lists ++ cells ∷ [] ≡ lists ++ map written (buffers_at kind size n (rows_above level xs))
slot-list kind size n level xs count lists cells q b e hc =
    ap (λ (c : List ℤ). lists ++ c ∷ []) (hc ∙ coordinates-are kind size n level xs b count e)
    ∙ ap (λ (bs : List Buffer). lists ++ map written bs)
    (subst (λ (k : Kind). crd_buffer k size n (rows_above level xs) ∷ [] ≡ buffers_at k size n (rows_above level xs)) (sym q) refl)
