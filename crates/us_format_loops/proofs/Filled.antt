-- The laws of positions in a lawful part.
use Rattle.std.specs.Prelude.{Contains}
use Rattle.std.proofs.Common.{◌≡◌, ℕ, ◌<◌, ◌⊎◌, List, [], ◌∷◌, map, length, take, drop, true, ltb, sym, refl, ap, ◌∙◌, subst, inl, inr, arith, count_by, lt-ltb, ltb-true}
use Rattle.std.proofs.Math.ListN.{length-map}
use Rattle.std.proofs.lemmas.List.{take_all}
use Rattle.us_format.proofs.Order.{Mem, Mem-map, Mem-of_map, lower-cases}
use Rattle.us_format.proofs.Counting.{count-le}
use Rattle.us_format.proofs.Collect.{Distinct}
use Rattle.us_format.proofs.Members.{contains-Mem, Mem-contains}
use Rattle.us_format.proofs.PartLaw.{top-placed, top-slots}
use Rattle.us_format.proofs.PartMeaning.{one-place}
use Rattle.us_format.proofs.Values.{last_count, values-length}
use Rattle.us_format.proofs.Ascending.{lower-next}
use Rattle.us_format.proofs.Lawful.{tables, row-major, positions-ascend}
use Rattle.us_format.specs.Coordinates.{coordinates}
use Rattle.us_format.specs.Declaration.{Part}
use Rattle.us_format.specs.Kinds.{Level}
use Rattle.us_format.specs.Lists.{lower, rank}
use Rattle.us_format.specs.Matrix.{Entry, Shape, IsMatrixOf}
use Rattle.us_format.specs.Positions.{Row, count_below, down, last_place, row_of, rows_of}
use Rattle.us_format.specs.Rules.{IsLawful}
use Rattle.us_format.specs.Laws.{position_of}
use Rattle.us_format_loops.proofs.Counts.{count-all, count-lower, count-map, distinct-map, distinct-entries}
use Rattle.us_format_loops.proofs.Lawful.{so, row-there}
use Rattle.us_format_loops.proofs.Prefixes.{place-kept, count-kept, prefix-below, prefix-apart, prefix-same, prefix-ascends}
use Rattle.us_format_loops.proofs.Tight.{tight-filled}
use Rattle.us_format_loops.specs.Nodes.{are_slots, is_tight, count_after}
use Rattle.us_format_loops.specs.Laws.{levels_on, values_on, position_after, SlotsFollow, SlotsKeepPositions, IsFilled, TightPartsAreFilled, InOrder, PositionsFollowCoordinates}

pub counts-same : (ls : List Level) (n : ℕ) (rows : List Row) → count_after ls n rows ≡ last_count ls n rows
counts-same [] n rows = refl
counts-same (l ∷ ls) n rows = counts-same ls (count_below l.kind l.size n rows) (down l.kind l.size rows)

module _ (s : Shape) (p : Part) (m : List Entry) (la : IsLawful p) (im : IsMatrixOf s m) where
  pub values-number : length (values_on s p m) ≡ count_after (levels_on s p m) 1 (rows_of m s p)
  values-number = values-length (levels_on s p m) 1 (rows_of m s p) ∙ sym (counts-same (levels_on s p m) 1 (rows_of m s p))

  pub positions-tell : (x y : Entry) → Mem x m → Mem y m → position_of s p m x ≡ position_of s p m y → x ≡ y
  positions-tell = one-place m s p (so s p m la im) (tables s p m la im)

  pub last-below : (x : Entry) → Contains m x → position_of s p m x < length (values_on s p m)
  last-below x cx =
      subst (λ (z : ℕ). position_of s p m x < z) (sym values-number)
      (whole (prefix-below (length (levels_on s p m)) (levels_on s p m) 1 (rows_of m s p) (row_of m s p x) (top-placed m s p (so s p m la im)) (top-slots m s p (so s p m la im)) (row-there s p m la im x cx)))
    where
      whole : last_place (take (length (levels_on s p m)) (levels_on s p m)) (rows_of m s p) (row_of m s p x) < count_after (take (length (levels_on s p m)) (levels_on s p m)) 1 (rows_of m s p)
          → position_of s p m x < count_after (levels_on s p m) 1 (rows_of m s p)
      whole h = subst (λ (ls : List Level). last_place ls (rows_of m s p) (row_of m s p x) < count_after ls 1 (rows_of m s p)) (take_all (length (levels_on s p m)) (levels_on s p m) (omega arith)) h

  pub slots-follow : (k : ℕ) → are_slots (drop k (levels_on s p m)) ≡ true → SlotsFollow s p m k
  slots-follow k h = record {
    position = kept;
    number = count-kept k (levels_on s p m) 1 (rows_of m s p) h ∙ sym values-number;
    apart = λ x y cx cy e. positions-tell x y (contains-Mem m x cx) (contains-Mem m y cy) (sym (kept x) ∙ e ∙ kept y);
  }
    where
      kept : (x : Entry) → position_after s p m k x ≡ position_of s p m x
      kept x = place-kept k (levels_on s p m) (rows_of m s p) (row_of m s p x) h

  pub in-order : (k : ℕ) (x y : Entry) → Contains m x → Contains m y → InOrder s p m k x y
  in-order k x y cx cy = record {
    below = prefix-below k (levels_on s p m) 1 (rows_of m s p) (row_of m s p x) (top-placed m s p (so s p m la im)) (top-slots m s p (so s p m la im)) (row-there s p m la im x cx);
    apart = λ e.
        (prefix-apart k (levels_on s p m) 1 (rows_of m s p) (row_of m s p x) (row_of m s p y) (top-placed m s p (so s p m la im)) (top-slots m s p (so s p m la im)) (row-there s p m la im x cx) (row-there s p m la im y cy) e).1;
    same = λ g e. prefix-same k (levels_on s p m) (rows_of m s p) (row_of m s p x) (row_of m s p y) g refl e;
    rises = λ g h.
        prefix-ascends k (levels_on s p m) 1 (rows_of m s p) (row_of m s p x) (row_of m s p y) (top-placed m s p (so s p m la im)) (top-slots m s p (so s p m la im)) (row-there s p m la im x cx) (row-there s p m la im y cy) g
        (lower-next 0 0 (take k (coordinates m s p x)) (take k (coordinates m s p y)) refl h);
  }

  -- ---- tight parts

  pub rows-distinct : Distinct (rows_of m s p)
  rows-distinct =
      distinct-map (row_of m s p) m (λ x y mx my e. positions-ascend.apart s p m la im x y (Mem-contains m x mx) (Mem-contains m y my) (ap (λ (z : Row). z.rest) e)) (distinct-entries m (row-major m im.sorted))

  module _ (tight : is_tight (levels_on s p m) ≡ true) where
    pub entry-of : (y : ℕ) → y < length (values_on s p m) → (x : Entry) × Mem x m × (position_of s p m x ≡ y)
    entry-of y l =
        let r = tight-filled (levels_on s p m) 1 (rows_of m s p) (top-placed m s p (so s p m la im)) (top-slots m s p (so s p m la im)) rows-distinct tight y (subst (λ (z : ℕ). y < z) values-number l) in
        let f = Mem-of_map (row_of m s p) r.0 m r.1 in
        (f.0, f.1, ap (last_place (levels_on s p m) (rows_of m s p)) f.2 ∙ r.2)

    abbrev pub positions : List ℕ
    positions = map (position_of s p m) m

    pub positions-distinct : Distinct positions
    positions-distinct = distinct-map (position_of s p m) m positions-tell (distinct-entries m (row-major m im.sorted))

    -- as many positions are below k as there are numbers
    pub positions-below : (k : ℕ) → ((y : ℕ) → y < k → y < length (values_on s p m)) → count_by (λ y. ltb y k) positions ≡ k
    positions-below k h =
        count-lower positions positions-distinct k
        (λ y l. let x = entry-of y (h y l) in subst (λ (z : ℕ). Mem z positions) x.2 (Mem-map (position_of s p m) x.0 m x.1))

    pub as-many : length (values_on s p m) ≡ length m
    as-many =
        sym (positions-below (length (values_on s p m)) (λ y l. l))
        ∙ count-all (λ y. ltb y (length (values_on s p m))) positions
        (λ y my. let x = Mem-of_map (position_of s p m) y m my in lt-ltb y _ (subst (λ (z : ℕ). z < length (values_on s p m)) x.2 (last-below x.0 (Mem-contains m x.0 x.1))))
        ∙ length-map m (position_of s p m)

    pub rank-is : (x : Entry) → Contains m x → position_of s p m x ≡ rank (map (coordinates m s p) m) (coordinates m s p x)
    rank-is x cx =
        sym (positions-below (position_of s p m x) (λ y l. omega (arith, l, last-below x cx)))
        ∙ count-map (λ y. ltb y (position_of s p m x)) (position_of s p m) m
        ∙ same-count
        ∙ sym (count-map (λ cs. lower cs (coordinates m s p x)) (coordinates m s p) m)
      where
        up : (y : Entry) → Mem y m → lower (coordinates m s p y) (coordinates m s p x) ≡ true → position_of s p m y < position_of s p m x
        up y my h = positions-ascend.ascending s p m la im y x (Mem-contains m y my) cx h

        back : (y : Entry) → Mem y m → position_of s p m y < position_of s p m x → lower (coordinates m s p y) (coordinates m s p x) ≡ true
        back y my l = go (lower-cases (coordinates m s p y) (coordinates m s p x))
          where
            go : ((lower (coordinates m s p y) (coordinates m s p x) ≡ true) ⊎ ((coordinates m s p y ≡ coordinates m s p x) ⊎ (lower (coordinates m s p x) (coordinates m s p y) ≡ true)))
                → lower (coordinates m s p y) (coordinates m s p x) ≡ true
            go (inl h) = h
            go (inr (inl e)) = absurd (omega (arith, l, ap (position_of s p m) (positions-ascend.apart s p m la im y x (Mem-contains m y my) cx e)))
            go (inr (inr h)) = absurd (omega (arith, l, positions-ascend.ascending s p m la im x y cx (Mem-contains m y my) h))

        same-count : count_by (λ y. ltb (position_of s p m y) (position_of s p m x)) m ≡ count_by (λ y. lower (coordinates m s p y) (coordinates m s p x)) m
        same-count =
            omega (
              arith,
              count-le (λ y. ltb (position_of s p m y) (position_of s p m x)) (λ y. lower (coordinates m s p y) (coordinates m s p x)) m (λ y my h. back y my (ltb-true (position_of s p m y) (position_of s p m x) h)),
              count-le (λ y. lower (coordinates m s p y) (coordinates m s p x)) (λ y. ltb (position_of s p m y) (position_of s p m x)) m (λ y my h. lt-ltb (position_of s p m y) (position_of s p m x) (up y my h)),
            )

    pub is-filled : IsFilled s p m
    is-filled = record { entry = λ y l. let x = entry-of y l in (x.0, Mem-contains m x.0 x.1, x.2); number = as-many; rank = rank-is }

pub slots-keep-positions : SlotsKeepPositions
slots-keep-positions s p m la im k h = slots-follow s p m la im k h

pub tight-parts-are-filled : TightPartsAreFilled
tight-parts-are-filled s p m la im h = is-filled s p m la im h

pub positions-follow-coordinates : PositionsFollowCoordinates
positions-follow-coordinates s p m la im k x y cx cy = in-order s p m la im k x y cx cy
