-- What a part's loops and columns keep from world to world, and in another order of rows.
use Rattle.std.specs.List.Sorted.{IsPermutation}
use Rattle.std.proofs.Common.{◌≡◌, ℕ, zero, suc, ◌<◌, ◌≤◌, List, [], ◌∷◌, ◌++◌, map, take, length, sym, ap, ◌∙◌, subst, arith, ℤ, Option, Some, None}
use Rattle.us_code.specs.Runs.{World}
use Rattle.us_format.specs.Kinds.{Level}
use Rattle.us_format.specs.Lists.{cell, tail}
use Rattle.us_format.specs.Matrix.{Shape, Entry}
use Rattle.us_format.specs.Declaration.{Part}
use Rattle.us_format.specs.Positions.{Row, count_below, down}
use Rattle.us_format.proofs.Shuffled.{shuffled-count_below, shuffled-down}
use Rattle.us_gen.specs.Goes.{Keeps}
use Rattle.us_gen_build.specs.Loops.{Picks, Columns}
use Rattle.us_gen_build.proofs.LoopRun.{columns_stay}
use Rattle.us_gen_build_laws.specs.Rows.{row}
use Rattle.us_build_loops.specs.Orders.{HoldKeys}
use Rattle.us_gen_building.specs.declared.part.PartLevel.{PartLevel}
use Rattle.us_gen_building.specs.declared.part.PartLoops.{PartLoops}
use Rattle.us_gen_building.specs.Levels.{columns}
use Rattle.us_gen_building.specs.Phases.{all_columns}
use Rattle.us_gen_building.specs.Runs.{AreSmall, HoldRows, AreLoopsOf}
use Rattle.us_gen_building.proofs.Lines.{sizes_kept, sizes_self, levels_same}

pub small_shuffled : (ls : List Level) (n : ℕ) (rows shuffled : List Row) → IsPermutation rows shuffled → AreSmall ls n rows → AreSmall ls n shuffled
small_shuffled [] n rows shuffled h s = s
small_shuffled (l ∷ ls) n rows shuffled h s = (
  s.0,
  subst (λ (c : ℕ). AreSmall ls c (down l.kind l.size shuffled)) (sym (shuffled-count_below l.kind l.size n rows shuffled h))
      (small_shuffled ls (count_below l.kind l.size n rows) (down l.kind l.size rows) (down l.kind l.size shuffled) (shuffled-down l.kind l.size rows shuffled h) s.1),
)

-- ---- columns

pub columns_higher : (low high n : ℕ) (bufs : ℕ → List ℤ) (cs : List ℕ) → low ≤ high → Columns low n bufs cs → Columns high n bufs cs
columns_higher low high n bufs [] le c = tt
columns_higher low high n bufs (b ∷ bs) le c = (omega (arith, c.0, le), c.1, columns_higher low high n bufs bs le c.2)

pub columns_front : (low n : ℕ) (bufs : ℕ → List ℤ) (xs ys : List ℕ) → Columns low n bufs (xs ++ ys) → Columns low n bufs xs
columns_front low n bufs [] bs c = tt
columns_front low n bufs (a ∷ xs) bs c = (c.0, c.1, columns_front low n bufs xs bs c.2)

pub columns_take : (low n : ℕ) (bufs : ℕ → List ℤ) (ls : List PartLevel) (k : ℕ) → Columns low n bufs (columns ls) → Columns low n bufs (columns (take k ls))
columns_take low n bufs [] zero c = tt
columns_take low n bufs [] (suc k) c = tt
columns_take low n bufs (l ∷ ls) zero c = tt
columns_take low n bufs (l ∷ ls) (suc k) c = (c.0, c.1, columns_take low n bufs ls k c.2)

pub column_last : (low n : ℕ) (bufs : ℕ → List ℤ) (xs : List ℕ) (b : ℕ) → Columns low n bufs (xs ++ b ∷ []) → b < low
column_last low n bufs [] b c = c.0
column_last low n bufs (a ∷ xs) b c = column_last low n bufs xs b c.2

pub keys_stay : (low n m : ℕ) (bufs other : ℕ → List ℤ) (cs : List ℕ) (given : ℕ → List ℕ) → Columns low m bufs cs → ((b : ℕ) → b < low → other b ≡ bufs b) → HoldKeys (map bufs cs) n given → HoldKeys (map other cs) n given
keys_stay low n m bufs other [] given c same h = tt
keys_stay low n m bufs other (b ∷ bs) given c same h = (
  (λ x lt. ap (λ (xs : List ℤ). cell xs x) (same b c.0) ∙ h.0 x lt),
  keys_stay low n m bufs other bs (λ x. tail (given x)) c.2 same h.1,
)

pub picks_higher : (order : Option ℕ) (low high n : ℕ) (bufs : ℕ → List ℤ) (place : ℕ → ℕ) → low ≤ high → Picks order low n bufs place → Picks order high n bufs place
picks_higher None low high n bufs place le p = p
picks_higher (Some b) low high n bufs place le p = (omega (arith, p.0, le), p.1, p.2)

-- ---- worlds

pub loops_kept : (x : PartLoops) (f : ℕ) (s : Shape) (p : Part) (m : List Entry) (rows : List Row) (w u : World) → Keeps f w u → AreLoopsOf x f s p m rows w → AreLoopsOf x f s p m rows u
loops_kept x f s p m rows w u k l = record {
  lawful = l.lawful;
  matrix = l.matrix;
  shuffled = l.shuffled;
  levels = levels_same w.env u.env x.levels.items (sizes_kept f w.env w u x.levels.items k l.below (sizes_self w.env x.levels.items)) ∙ l.levels;
  below = l.below;
  count_below = l.count_below;
  few = l.few;
  small = l.small;
}

pub hold_kept : (x : PartLoops) (f : ℕ) (rows : List Row) (w u : World) → x.count < f → Keeps f w u → HoldRows x f rows w → HoldRows x f rows u
hold_kept x f rows w u low k h = record {
  count = k.dims x.count low ∙ h.count;
  long = columns_stay f (length rows) w.bufs u.bufs (all_columns x) k.bufs h.long;
  coordinates = keys_stay f (length rows) (length rows) w.bufs u.bufs (columns x.levels.items) (λ y. (row rows y).rest) (columns_front f (length rows) w.bufs (columns x.levels.items) (x.values ∷ []) h.long) k.bufs h.coordinates;
  values = λ y lt. ap (λ (xs : List ℤ). cell xs y) (k.bufs x.values (column_last f (length rows) w.bufs (columns x.levels.items) x.values h.long)) ∙ h.values y lt;
}
