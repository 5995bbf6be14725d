-- The steps of the passes over the levels.
use Rattle.std.proofs.Common.{◌≡◌, ℕ, ◌+◌, ◌-◌, ◌*◌, ◌<◌, ◌≤◌, List, [], ◌∷◌, ◌++◌, map, length, get_or, take, drop, min, sym, refl, ap, ◌∙◌, subst, arith, ℤ, All, AllPairs, append_assoc}
use Rattle.std.specs.List.{range_with_len, sum, sum_by}
use Rattle.std.proofs.lemmas.List.{append-nil, drop_all, drop_more, take_all, get_or-map, length-map, map-append}
use Rattle.std.proofs.lemmas.List.Elements.{All-map}
use Rattle.std.proofs.lemmas.List.Sums.{sum_by-append, sum_by-cons}
use Rattle.us_format.specs.Buffers.{buffers_at, cell_of, level_buffers}
use Rattle.us_format.specs.Kinds as plain
use Rattle.us_format.specs.Packs.{Buffer, written}
use Rattle.us_format.specs.Positions.{Row, count_below, counts, down, moved, place}
use Rattle.us_format.specs.declared.Kind.{Kind}
use Rattle.us_format.specs.declared.Kind.TheVariants.{Compressed, Full, Listed, Slot}
use Rattle.us_format.proofs.PartLaw.{map-map}
use Rattle.us_build.specs.declared.items.Item.{Item}
use Rattle.us_build.specs.declared.levels.Level.{Level}
use Rattle.us_build.specs.Cells.{IsBelow}
use Rattle.us_build.specs.Items.{row_above, row_at, row_first, rows_above, rows_at, rows_first, stepped}
use Rattle.us_build.specs.Ready.{AreReady, IsAtEnd, IsReady, size_from}
use Rattle.us_build.specs.Sizes.{level_size, plain_level, plain_levels}
use Rattle.us_build.proofs.Mapped.{all-mapped}
use Rattle.us_build.proofs.Stepping.{tail-drop}

-- ---- items one level down

module _ (kind : Kind) (size level : ℕ) (xs : List Item) where
  abbrev pub moved_items : List Item
  moved_items = map (stepped kind size level (rows_at level xs)) xs

  pub moved-above : rows_above level moved_items ≡ rows_at level xs
  moved-above = map-map (row_above level) (stepped kind size level (rows_at level xs)) xs

  pub moved-first : (first : ℕ) → rows_first first moved_items ≡ rows_first first xs
  moved-first first = map-map (row_first first) (stepped kind size level (rows_at level xs)) xs

  pub moved-down : rows_at (level + 1) moved_items ≡ down kind size (rows_at level xs)
  moved-down = go xs (rows_at level xs)
    where
      go : (ys : List Item) (rows : List Row) → rows_at (level + 1) (map (stepped kind size level rows) ys) ≡ map (moved kind size rows) (rows_at level ys)
      go [] rows = refl
      go (y ∷ ys) rows =
          ap (λ (l : List ℕ). record { at = place kind size rows (row_at level y); rest = l; value = y.value } ∷ rows_at (level + 1) (map (stepped kind size level rows) ys)) (sym (tail-drop level y.coordinates))
          ∙ ap (λ (l : List Row). moved kind size rows (row_at level y) ∷ l) (go ys rows)

  pub moved-below : (n : ℕ) → IsReady kind size n (rows_at level xs) → IsBelow kind size n level moved_items
  moved-below n r = record {
    ready = subst (λ (rows : List Row). IsReady kind size n rows) (sym moved-above) r;
    placed =
        All-map (λ x. x.at ≡ place kind size (rows_above level moved_items) (row_above level x)) (stepped kind size level (rows_at level xs)) xs
        (λ k d l. ap (λ (rows : List Row). place kind size rows (row_at level (get_or xs k d))) (sym moved-above));
  }

-- ---- sizes

pub level-size-is : (kind : Kind) (size n : ℕ) (rows : List Row) → sum_by (λ b. b.len) (buffers_at kind size n rows) + count_below kind size n rows ≡ level_size kind n (count_below kind size n rows)
level-size-is Full size n rows = omega arith
level-size-is Compressed size n rows = omega arith
level-size-is Listed size n rows = omega arith
level-size-is Slot size n rows = omega arith

pub size-next : (l : plain.Level) (ls : List plain.Level) (n : ℕ) (rows : List Row)
    → size_from (l ∷ ls) n rows ≡ level_size l.kind n (count_below l.kind l.size n rows) + size_from ls (count_below l.kind l.size n rows) (down l.kind l.size rows)
size-next l ls n rows =
    let m : ℕ = count_below l.kind l.size n rows in
    let a : sum_by (λ b. b.len) (buffers_at l.kind l.size n rows ++ level_buffers ls m (down l.kind l.size rows))
    ≡ sum_by (λ b. b.len) (buffers_at l.kind l.size n rows) + sum_by (λ b. b.len) (level_buffers ls m (down l.kind l.size rows)) =
    sum_by-append (λ (b : Buffer). b.len) (buffers_at l.kind l.size n rows) (level_buffers ls m (down l.kind l.size rows)) in
    let b : sum (m ∷ counts ls m (down l.kind l.size rows)) ≡ m + sum (counts ls m (down l.kind l.size rows)) = sum_by-cons (λ (x : ℕ). x) m (counts ls m (down l.kind l.size rows)) in
    omega (arith, a, b, level-size-is l.kind l.size n rows)

pub size-end : (n : ℕ) (rows : List Row) → size_from [] n rows ≡ n
size-end n rows = omega arith

-- ---- one level of a pass

module _ (levels : List Level) (k n : ℕ) (d : Level) (xs : List Item) (h : k < length levels) where
  abbrev pub level_here : Level
  level_here = get_or levels k d

  abbrev pub index_here : ℕ
  index_here = (6 - length levels) + k

  abbrev pub rows_here : List Row
  rows_here = rows_at index_here xs

  abbrev pub count_here : ℕ
  count_here = count_below level_here.kind level_here.size n rows_here

  abbrev pub levels_next : List plain.Level
  levels_next = plain_levels (drop (k + 1) levels)

  pub levels-split : plain_levels (drop k levels) ≡ plain_level level_here ∷ levels_next
  levels-split = ap plain_levels (drop_more levels k d h)

  pub ready-split : AreReady (plain_levels (drop k levels)) n rows_here
      → IsReady level_here.kind level_here.size n rows_here × AreReady levels_next count_here (down level_here.kind level_here.size rows_here)
  ready-split r = subst (λ (ls : List plain.Level). AreReady ls n rows_here) levels-split r

  module _ (ys : List Item) (e : ys ≡ map (stepped level_here.kind level_here.size index_here rows_here) xs) where
    abbrev pub rows_next : List Row
    rows_next = rows_at ((6 - length levels) + (k + 1)) ys

    pub rows-next : rows_next ≡ down level_here.kind level_here.size rows_here
    rows-next =
        let q : (6 - length levels) + (k + 1) ≡ index_here + 1 = omega arith in
        ap (λ (i : ℕ). rows_at i ys) q ∙ ap (rows_at (index_here + 1)) e ∙ moved-down level_here.kind level_here.size index_here xs

    pub rows-above : rows_above index_here ys ≡ rows_here
    rows-above = ap (rows_above index_here) e ∙ moved-above level_here.kind level_here.size index_here xs

    pub ready-next : AreReady (plain_levels (drop k levels)) n rows_here → AreReady levels_next count_here rows_next
    ready-next r = subst (λ (rows : List Row). AreReady levels_next count_here rows) (sym rows-next) (ready-split r).1

    pub size-split : size_from (plain_levels (drop k levels)) n rows_here ≡ level_size level_here.kind n count_here + size_from levels_next count_here rows_next
    size-split =
        ap (λ (ls : List plain.Level). size_from ls n rows_here) levels-split ∙ size-next (plain_level level_here) levels_next n rows_here
        ∙ ap (λ (rows : List Row). level_size level_here.kind n count_here + size_from levels_next count_here rows) (sym rows-next)

    pub lists-split : map written (level_buffers (plain_levels (drop k levels)) n rows_here)
        ≡ map written (buffers_at level_here.kind level_here.size n (rows_above index_here ys)) ++ map written (level_buffers levels_next count_here rows_next)
    lists-split =
        ap (λ (ls : List plain.Level). map written (level_buffers ls n rows_here)) levels-split
        ∙ map-append written (buffers_at level_here.kind level_here.size n rows_here) (level_buffers levels_next count_here (down level_here.kind level_here.size rows_here))
        ∙ ap (λ (rows : List Row). map written (buffers_at level_here.kind level_here.size n rows) ++ map written (level_buffers levels_next count_here (down level_here.kind level_here.size rows_here))) (sym rows-above)
        ∙ ap (λ (rows : List Row). map written (buffers_at level_here.kind level_here.size n (rows_above index_here ys)) ++ map written (level_buffers levels_next count_here rows)) (sym rows-next)

    pub below-next : AreReady (plain_levels (drop k levels)) n rows_here → IsBelow level_here.kind level_here.size n index_here ys
    below-next r = subst (λ (zs : List Item). IsBelow level_here.kind level_here.size n index_here zs) (sym e) (moved-below level_here.kind level_here.size index_here xs n (ready-split r).0)

    pub count-next : count_here ≡ count_below level_here.kind level_here.size n (rows_above index_here ys)
    count-next = ap (λ (rows : List Row). count_below level_here.kind level_here.size n rows) (sym rows-above)

    pub first-next : (first : ℕ) → rows_first first ys ≡ rows_first first xs
    first-next first = ap (rows_first first) e ∙ moved-first level_here.kind level_here.size index_here xs first

    pub long-next : length ys ≡ length xs
    long-next = ap length e ∙ length-map xs (stepped level_here.kind level_here.size index_here rows_here)

-- ---- the first pass

-- what stands before level k, where there are n positions
pub record IsMeasured (levels : List Level) (start items : List Item) (k n total : ℕ) : Type 0 where
  pub ready : AreReady (plain_levels (drop k levels)) n (rows_at ((6 - length levels) + k) items)
  pub sum : total + size_from (plain_levels (drop k levels)) n (rows_at ((6 - length levels) + k) items) ≡ size_from (plain_levels levels) 1 (rows_at (6 - length levels) start)
  pub kept : rows_first (6 - length levels) items ≡ rows_first (6 - length levels) start
  pub long : length items ≡ length start
  pub few : n ≤ 67108864
  pub small : total ≤ 67108864

module _ (levels : List Level) (start : List Item) where
  abbrev pub whole_size : ℕ
  whole_size = size_from (plain_levels levels) 1 (rows_at (6 - length levels) start)

  abbrev pub first_index : ℕ
  first_index = 6 - length levels

  pub index-start : first_index ≡ first_index + 0
  index-start = omega arith

  pub measured-none : AreReady (plain_levels levels) 1 (rows_at first_index start) → IsMeasured levels start start 0 1 0
  measured-none r = record {
    ready = subst (λ (i : ℕ). AreReady (plain_levels levels) 1 (rows_at i start)) index-start r;
    sum = subst (λ (i : ℕ). 0 + size_from (plain_levels levels) 1 (rows_at i start) ≡ whole_size) index-start (omega arith);
    kept = refl;
    long = refl;
    few = omega arith;
    small = omega arith;
  }

  module _ (k n total m : ℕ) (d : Level) (xs ys : List Item) (h : k < length levels) (p : IsMeasured levels start xs k n total)
      (e : ys ≡ map (stepped (level_here levels k n d xs h).kind (level_here levels k n d xs h).size (first_index + k) (rows_at (first_index + k) xs)) xs)
      (c : m ≡ count_below (level_here levels k n d xs h).kind (level_here levels k n d xs h).size n (rows_at (first_index + k) xs)) where
    pub whole-next : total + level_size (get_or levels k d).kind n m + size_from (plain_levels (drop (k + 1) levels)) m (rows_at (first_index + (k + 1)) ys) ≡ whole_size
    whole-next =
        subst (λ (x : ℕ). total + level_size (get_or levels k d).kind n x + size_from (plain_levels (drop (k + 1) levels)) x (rows_at (first_index + (k + 1)) ys) ≡ whole_size) (sym c)
        (omega (arith, p.sum, size-split levels k n d xs h ys e))

    pub measured-next : m ≤ 67108864 → total + level_size (get_or levels k d).kind n m ≤ 67108864 → IsMeasured levels start ys (k + 1) m (total + level_size (get_or levels k d).kind n m)
    measured-next few small = record {
      ready = subst (λ (x : ℕ). AreReady (plain_levels (drop (k + 1) levels)) x (rows_at (first_index + (k + 1)) ys)) (sym c) (ready-next levels k n d xs h ys e p.ready);
      sum = whole-next;
      kept = first-next levels k n d xs h ys e first_index ∙ p.kept;
      long = long-next levels k n d xs h ys e ∙ p.long;
      few = few;
      small = small;
    }

    -- the size is above the limit
    pub measured-above : 67108864 < total + level_size (get_or levels k d).kind n m → 67108865 ≡ min whole_size 67108865
    measured-above l = omega (arith, whole-next)

    pub kept-next : rows_first first_index ys ≡ rows_first first_index start
    kept-next = first-next levels k n d xs h ys e first_index ∙ p.kept

  -- a full level is too long
  pub measured-long : (k n total : ℕ) (d : Level) (xs : List Item) → k < length levels → IsMeasured levels start xs k n total → (get_or levels k d).kind ≡ Full → 67108864 < n * (get_or levels k d).size
      → 67108865 ≡ min whole_size 67108865
  measured-long k n total d xs h p full l =
      let ys : List Item = map (stepped (get_or levels k d).kind (get_or levels k d).size (first_index + k) (rows_at (first_index + k) xs)) xs in
      let m : ℕ = count_below (get_or levels k d).kind (get_or levels k d).size n (rows_at (first_index + k) xs) in
      let s : size_from (plain_levels (drop k levels)) n (rows_at (first_index + k) xs) ≡ level_size (get_or levels k d).kind n m + size_from (plain_levels (drop (k + 1) levels)) m (rows_at (first_index + (k + 1)) ys) =
      size-split levels k n d xs h ys refl in
      let f : level_size (get_or levels k d).kind n m ≡ n * (get_or levels k d).size =
      subst (λ (kind : Kind). level_size kind n (count_below kind (get_or levels k d).size n (rows_at (first_index + k) xs)) ≡ n * (get_or levels k d).size) (sym full) refl in
      omega (arith, p.sum, s, f)

  pub measured-end : (k n total : ℕ) (xs : List Item) → length levels ≤ k → IsMeasured levels start xs k n total → total + n ≡ whole_size
  measured-end k n total xs h p =
      let e : size_from (plain_levels (drop k levels)) n (rows_at (first_index + k) xs) ≡ n =
      ap (λ (ls : List Level). size_from (plain_levels ls) n (rows_at (first_index + k) xs)) (drop_all k levels h) ∙ size-end n (rows_at (first_index + k) xs) in
      omega (arith, p.sum, e)

-- ---- back above the first level

abbrev pub restarted : Item → Item
restarted x = record { above = x.above; at = 0; coordinates = x.coordinates; value = x.value }

pub restarted-all : (first : ℕ) (xs ys : List Item) (i : ℕ) → length xs ≤ i → ys ≡ map restarted (take i xs) ++ drop i xs → rows_at first ys ≡ rows_first first xs
restarted-all first xs ys i h e =
    ap (rows_at first) e ∙ ap (λ (l : List Item). rows_at first (map restarted l ++ drop i xs)) (take_all i xs h) ∙ ap (λ (l : List Item). rows_at first (map restarted xs ++ l)) (drop_all i xs h)
    ∙ ap (rows_at first) (append-nil (map restarted xs)) ∙ map-map (row_at first) restarted xs

-- ---- the second pass

-- what stands before level k, where there are n positions: the lists so far and those of the levels that are left are the front and the whole
pub record IsWritten (front : List (List ℤ)) (levels : List Level) (start items : List Item) (k n : ℕ) (lists : List (List ℤ)) : Type 0 where
  pub ready : AreReady (plain_levels (drop k levels)) n (rows_at ((6 - length levels) + k) items)
  pub whole : lists ++ map written (level_buffers (plain_levels (drop k levels)) n (rows_at ((6 - length levels) + k) items)) ≡ front ++ map written (level_buffers (plain_levels levels) 1 (rows_at (6 - length levels) start))
  pub long : length items ≡ length start
  pub few : n ≤ 67108864
  pub small : size_from (plain_levels (drop k levels)) n (rows_at ((6 - length levels) + k) items) ≤ 67108864

module _ (front : List (List ℤ)) (levels : List Level) (start : List Item) where
  pub written-none : AreReady (plain_levels levels) 1 (rows_at (6 - length levels) start) → size_from (plain_levels levels) 1 (rows_at (6 - length levels) start) ≤ 67108864 → IsWritten front levels start start 0 1 front
  written-none r s =
      let i : 6 - length levels ≡ (6 - length levels) + 0 = omega arith in
      record {
        ready = subst (λ (i : ℕ). AreReady (plain_levels levels) 1 (rows_at i start)) i r;
        whole = ap (λ (i : ℕ). front ++ map written (level_buffers (plain_levels levels) 1 (rows_at i start))) (sym i);
        long = refl;
        few = omega arith;
        small = subst (λ (i : ℕ). size_from (plain_levels levels) 1 (rows_at i start) ≤ 67108864) i s;
      }

  module _ (k n : ℕ) (lists : List (List ℤ)) (d : Level) (xs : List Item) (h : k < length levels) (p : IsWritten front levels start xs k n lists) where
    pub written-ready : IsReady (get_or levels k d).kind (get_or levels k d).size n (rows_at ((6 - length levels) + k) xs)
    written-ready = (ready-split levels k n d xs h p.ready).0

    pub written-full : (get_or levels k d).kind ≡ Full → n * (get_or levels k d).size ≤ 67108864
    written-full full =
        let s = size-split levels k n d xs h (map (stepped (get_or levels k d).kind (get_or levels k d).size ((6 - length levels) + k) (rows_at ((6 - length levels) + k) xs)) xs) refl in
        let f : level_size (get_or levels k d).kind n (count_here levels k n d xs h) ≡ n * (get_or levels k d).size =
        subst (λ (kind : Kind). level_size kind n (count_below kind (get_or levels k d).size n (rows_at ((6 - length levels) + k) xs)) ≡ n * (get_or levels k d).size) (sym full) refl in
        omega (arith, p.small, s, f)

    module _ (m : ℕ) (ys : List Item) (e : ys ≡ map (stepped (level_here levels k n d xs h).kind (level_here levels k n d xs h).size ((6 - length levels) + k) (rows_at ((6 - length levels) + k) xs)) xs)
        (c : m ≡ count_below (level_here levels k n d xs h).kind (level_here levels k n d xs h).size n (rows_at ((6 - length levels) + k) xs)) where
      pub written-below : IsBelow (get_or levels k d).kind (get_or levels k d).size n ((6 - length levels) + k) ys
      written-below = below-next levels k n d xs h ys e p.ready

      pub written-count : m ≡ count_below (get_or levels k d).kind (get_or levels k d).size n (rows_above ((6 - length levels) + k) ys)
      written-count = c ∙ count-next levels k n d xs h ys e

      pub written-next : (new : List (List ℤ)) → m ≤ 67108864 → new ≡ lists ++ map written (buffers_at (get_or levels k d).kind (get_or levels k d).size n (rows_above ((6 - length levels) + k) ys))
          → IsWritten front levels start ys (k + 1) m new
      written-next new few q = record {
        ready = subst (λ (x : ℕ). AreReady (plain_levels (drop (k + 1) levels)) x rows) (sym c) (ready-next levels k n d xs h ys e p.ready);
        whole =
            ap (λ (x : ℕ). new ++ map written (level_buffers (plain_levels (drop (k + 1) levels)) x rows)) c ∙ ap (λ (l : List (List ℤ)). l ++ more) q
            ∙ append_assoc lists (map written (buffers_at (get_or levels k d).kind (get_or levels k d).size n (rows_above ((6 - length levels) + k) ys))) more
            ∙ ap (λ (l : List (List ℤ)). lists ++ l) (sym (lists-split levels k n d xs h ys e)) ∙ p.whole;
        long = long-next levels k n d xs h ys e ∙ p.long;
        few = few;
        small = subst (λ (x : ℕ). size_from (plain_levels (drop (k + 1) levels)) x rows ≤ 67108864) (sym c) (omega (arith, p.small, size-split levels k n d xs h ys e));
      }
        where
          rows : List Row
          rows = rows_at ((6 - length levels) + (k + 1)) ys

          more : List (List ℤ)
          more = map written (level_buffers (plain_levels (drop (k + 1) levels)) (count_here levels k n d xs h) rows)

  module _ (k n : ℕ) (lists : List (List ℤ)) (xs : List Item) (full : k ≡ length levels) (six : length levels ≤ 6) (p : IsWritten front levels start xs k n lists) where
    pub index-end : (6 - length levels) + k ≡ 6
    index-end = omega arith

    pub none-left : plain_levels (drop k levels) ≡ []
    none-left = ap plain_levels (drop_all k levels (omega arith))

    pub end-ready : IsAtEnd n (rows_at 6 xs)
    end-ready =
        subst (λ (ls : List plain.Level). AreReady ls n (rows_at 6 xs)) none-left (subst (λ (i : ℕ). AreReady (plain_levels (drop k levels)) n (rows_at i xs)) index-end p.ready)

    pub end-within : All (λ x. x.at < n) xs
    end-within = all-mapped (λ (r : Row). r.at < n) (row_at 6) xs end-ready.below

    pub end-alike : AllPairs (λ x y. x.at ≡ y.at → x.value ≡ y.value) xs
    end-alike i j d l b q =
        let x : get_or (rows_at 6 xs) i (row_at 6 d) ≡ row_at 6 (get_or xs i d) = get_or-map (row_at 6) xs i d (row_at 6 d) (omega arith) in
        let y : get_or (rows_at 6 xs) j (row_at 6 d) ≡ row_at 6 (get_or xs j d) = get_or-map (row_at 6) xs j d (row_at 6 d) b in
        let at : (get_or (rows_at 6 xs) i (row_at 6 d)).at ≡ (get_or (rows_at 6 xs) j (row_at 6 d)).at = ap (λ (r : Row). r.at) x ∙ q ∙ sym (ap (λ (r : Row). r.at) y) in
        sym (ap (λ (r : Row). r.value) x) ∙ end-ready.alike i j (row_at 6 d) l (omega (arith, b, length-map xs (row_at 6))) at ∙ ap (λ (r : Row). r.value) y

    pub written-end : (cells : List ℤ) → cells ≡ map (cell_of (λ r. r.at) (λ r. r.value) (rows_at 6 xs)) (range_with_len 0 n)
        → lists ++ cells ∷ [] ≡ front ++ map written (level_buffers (plain_levels levels) 1 (rows_at (6 - length levels) start))
    written-end cells e =
        ap (λ (c : List ℤ). lists ++ c ∷ []) e
        ∙ ap (λ (i : ℕ). lists ++ map written (level_buffers [] n (rows_at i xs))) (sym index-end)
        ∙ ap (λ (ls : List plain.Level). lists ++ map written (level_buffers ls n (rows_at ((6 - length levels) + k) xs))) (sym none-left)
        ∙ p.whole
