-- The steps of a walk down the levels.
use Rattle.std.proofs.Common.{◌≡◌, ℕ, ◌+◌, ◌-◌, ◌<◌, ◌≤◌, List, [], ◌++◌, map, length, get_or, take, drop, sym, ap, ◌∙◌, subst, arith, All, AllPairs}
use Rattle.std.proofs.lemmas.List.{get_or-map, length-drop, length-map, take_at}
use Rattle.us_format.specs.Kinds as plain
use Rattle.us_format.specs.Buffers.{buffers_at}
use Rattle.us_format.specs.Packs.{written}
use Rattle.us_format.specs.Positions.{Row, count_below}
use Rattle.us_format.specs.Reading.{limit}
use Rattle.us_build.specs.declared.items.Item.{Item}
use Rattle.us_build.specs.declared.levels.Level.{Level}
use Rattle.us_build.specs.Cells.{IsBelow}
use Rattle.us_build.specs.Items.{row_at, rows_above, rows_at, stepped}
use Rattle.us_build.specs.Ready.{AreReady, IsAtEnd}
use Rattle.us_build.specs.Sizes.{plain_level, plain_levels}
use Rattle.us_build.specs.Ways.{Way, IsOnWay, first_buffers, way_below, way_of}
use Rattle.us_build.proofs.Mapped.{all-mapped}
use Rattle.us_build.proofs.Passing.{below-next, count-next, levels-split, long-next, ready-next, rows-above, rows-next}

way : List plain.Level → ℕ → List Row → Way
way ls n rows = record { levels = ls; positions = n; rows = rows }

-- what a vector keeps of items that it lent
pub lent : {A : Type 0} (new old : List A) (n : ℕ) → length new ≡ n → take n (new ++ drop (length new) old) ≡ new
lent new old n e = take_at new (drop (length new) old) n e

pub below-length : (levels : List Level) (k : ℕ) → 0 < length (plain_levels (drop k levels)) → k < length levels
below-length levels k h =
    let a : length (plain_levels (drop k levels)) ≡ length (drop k levels) = length-map (drop k levels) plain_level in
    let d : length (drop k levels) ≡ length levels - k = length-drop k levels in
    omega arith

module _ (levels : List Level) (k n i m : ℕ) (l : Level) (xs ys : List Item) (h : k < length levels) (o : IsOnWay levels k n xs) (iq : i ≡ (6 - length levels) + k) (lq : l ≡ get_or levels k l)
    (e : ys ≡ map (stepped l.kind l.size i (rows_at i xs)) xs) (c : m ≡ count_below l.kind l.size n (rows_at i xs)) where
  abbrev index : ℕ
  index = (6 - length levels) + k

  abbrev here : Level
  here = get_or levels k l

  all-stepped : ys ≡ map (stepped here.kind here.size index (rows_at index xs)) xs
  all-stepped =
      subst (λ (j : ℕ). ys ≡ map (stepped here.kind here.size j (rows_at j xs)) xs) iq
      (subst (λ (z : Level). ys ≡ map (stepped z.kind z.size i (rows_at i xs)) xs) lq e)

  count-is : m ≡ count_below here.kind here.size n (rows_at index xs)
  count-is =
      subst (λ (j : ℕ). m ≡ count_below here.kind here.size n (rows_at j xs)) iq (subst (λ (z : Level). m ≡ count_below z.kind z.size n (rows_at i xs)) lq c)

  pub step-below : IsBelow l.kind l.size n i ys
  step-below =
      subst (λ (j : ℕ). IsBelow l.kind l.size n j ys) (sym iq)
      (subst (λ (z : Level). IsBelow z.kind z.size n index ys) (sym lq) (below-next levels k n l xs h ys all-stepped o.ready))

  pub step-count : m ≡ count_below l.kind l.size n (rows_above i ys)
  step-count =
      subst (λ (j : ℕ). m ≡ count_below l.kind l.size n (rows_above j ys)) (sym iq)
      (subst (λ (z : Level). m ≡ count_below z.kind z.size n (rows_above index ys)) (sym lq) (count-is ∙ count-next levels k n l xs h ys all-stepped))

  pub step-long : length ys ≡ length xs
  step-long = long-next levels k n l xs h ys all-stepped

  pub step-on : m ≤ limit → IsOnWay levels (k + 1) m ys
  step-on few = record {
    few_levels = o.few_levels;
    gone = omega (arith, h);
    sizes = o.sizes;
    few = omega (arith, step-long, o.few);
    positions = few;
    ready = subst (λ (x : ℕ). AreReady (plain_levels (drop (k + 1) levels)) x (rows_at ((6 - length levels) + (k + 1)) ys)) (sym count-is) (ready-next levels k n l xs h ys all-stepped o.ready);
  }

  pub step-lists : map written (buffers_at l.kind l.size n (rows_above i ys)) ≡ map written (first_buffers (plain_levels (drop k levels)) n (rows_at ((6 - length levels) + k) xs))
  step-lists =
      ap (λ (j : ℕ). map written (buffers_at l.kind l.size n (rows_above j ys))) iq
      ∙ ap (λ (z : Level). map written (buffers_at z.kind z.size n (rows_above index ys))) lq
      ∙ ap (λ (rows : List Row). map written (buffers_at here.kind here.size n rows)) (rows-above levels k n l xs h ys all-stepped)
      ∙ ap (λ (ls : List plain.Level). map written (first_buffers ls n (rows_at index xs))) (sym (levels-split levels k n l xs h))

  pub step-way : way_of levels (k + 1) m ys ≡ way_below (plain_levels (drop k levels)) n (rows_at ((6 - length levels) + k) xs)
  unfolding way
  step-way =
      ap (λ (x : ℕ). way (plain_levels (drop (k + 1) levels)) x (rows_at ((6 - length levels) + (k + 1)) ys)) count-is
      ∙ ap (λ (rows : List Row). way (plain_levels (drop (k + 1) levels)) (count_below here.kind here.size n (rows_at index xs)) rows) (rows-next levels k n l xs h ys all-stepped)
      ∙ ap (λ (ls : List plain.Level). way_below ls n (rows_at index xs)) (sym (levels-split levels k n l xs h))

-- ---- the end

module _ (levels : List Level) (k n : ℕ) (xs : List Item) (o : IsOnWay levels k n xs) (none : plain_levels (drop k levels) ≡ []) where
  none-left : (6 - length levels) + k ≡ 6
  none-left =
      let a : length (plain_levels (drop k levels)) ≡ length (drop k levels) = length-map (drop k levels) plain_level in
      let b : length (plain_levels (drop k levels)) ≡ 0 = ap length none in
      let d : length (drop k levels) ≡ length levels - k = length-drop k levels in
      omega (arith, o.few_levels, o.gone)

  at-end : IsAtEnd n (rows_at 6 xs)
  at-end = subst (λ (i : ℕ). IsAtEnd n (rows_at i xs)) none-left (subst (λ (ls : List plain.Level). AreReady ls n (rows_at ((6 - length levels) + k) xs)) none o.ready)

  pub end-within : All (λ x. x.at < n) xs
  end-within = all-mapped (λ (r : Row). r.at < n) (row_at 6) xs at-end.below

  pub end-alike : AllPairs (λ x y. x.at ≡ y.at → x.value ≡ y.value) xs
  end-alike i j d l b q =
      let x : get_or (rows_at 6 xs) i (row_at 6 d) ≡ row_at 6 (get_or xs i d) = get_or-map (row_at 6) xs i d (row_at 6 d) (omega arith) in
      let y : get_or (rows_at 6 xs) j (row_at 6 d) ≡ row_at 6 (get_or xs j d) = get_or-map (row_at 6) xs j d (row_at 6 d) b in
      let at : (get_or (rows_at 6 xs) i (row_at 6 d)).at ≡ (get_or (rows_at 6 xs) j (row_at 6 d)).at = ap (λ (r : Row). r.at) x ∙ q ∙ sym (ap (λ (r : Row). r.at) y) in
      sym (ap (λ (r : Row). r.value) x) ∙ at-end.alike i j (row_at 6 d) l (omega (arith, b, length-map xs (row_at 6))) at ∙ ap (λ (r : Row). r.value) y

  pub end-rows : rows_at 6 xs ≡ rows_at ((6 - length levels) + k) xs
  end-rows = ap (λ (i : ℕ). rows_at i xs) (sym none-left)
