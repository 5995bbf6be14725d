-- In front of the phases that build, the loops of a part can build it.
use Rattle.std.proofs.Common.{◌≡◌, ℕ, suc, ◌+◌, ◌^◌, ◌<◌, ◌≤◌, List, [], ◌∷◌, map, length, true, false, Bool, ℤ, pos, Option, sym, refl, ap, ap₂, ◌∙◌, subst, arith, inl, inr, filter}
use Rattle.std.specs.List.Sorted.{IsPermutation}
use Rattle.std.proofs.lemmas.List.{length-map, get_or-map}
use Rattle.std.proofs.lemmas.List.Sums.{count_by-le-length, length-filter}
use Rattle.us_expr.specs.Tree.{Tree}
use Rattle.us_expr.specs.Value.{IsWithin}
use Rattle.us_format.specs.Kinds.{Level, kind}
use Rattle.us_format.specs.Kinds as format
use Rattle.us_format.specs.Matrix.{Shape, Entry}
use Rattle.us_format.specs.Declaration.{Part, has_extent}
use Rattle.us_format.specs.Queries.{extent_of, extents_of}
use Rattle.us_format.specs.Coordinates.{level_range, span}
use Rattle.us_format.specs.Positions.{Row, row_of, rows_of}
use Rattle.us_format.specs.Reading.{limit}
use Rattle.us_format.proofs.Order.{Mem}
use Rattle.us_format.proofs.Members.{all-Mem}
use Rattle.us_format.proofs.PackSizes.{part-size}
use Rattle.us_format_loops.specs.Laws.{levels_on}
use Rattle.us_code.specs.declared.pieces.Columns.{Columns}
use Rattle.us_code.specs.Runs.{World}
use Rattle.us_pack_loops.specs.Standing.{count_behind}
use Rattle.us_gen_build_laws.specs.Rows.{no_row, row}
use Rattle.us_gen_places.specs.Holds.{IsOrderly, IsWhole}
use Rattle.us_gen_places.specs.Places.{range_without}
use Rattle.us_gen_places.proofs.SizesHold.{low-holds}
use Rattle.us_gen_counting.specs.Entries.{HoldEntries}
use Rattle.us_gen_coordinates.specs.Held as held
use Rattle.us_gen_coordinates.specs.Held.{HoldLevels}
use Rattle.us_gen_extents.specs.Extents.{AreDims}
use Rattle.us_gen_building.specs.declared.part.PartLevel.{PartLevel}
use Rattle.us_gen_building.specs.Entries.{HoldCoordinates, rows_in}
use Rattle.us_gen_building.specs.Keys.{order_keys}
use Rattle.us_gen_building.specs.Runs.{levels_of, AreOrderly, AllBelow, IsOrder, AreSmall, HoldRows}
use Rattle.us_gen_building.specs.Shares.{AreNarrow, share_of}
use Rattle.us_gen_building.proofs.Enough.{keys_enough}
use Rattle.us_gen_building.proofs.Rows.{entries_are_rows}
use Rattle.us_gen_building.proofs.Sharing.{shares_are_small}
use Rattle.us_gen_pack_building.specs.declared.part.PackRun.{PackRun}
use Rattle.us_gen_pack_building.specs.declared.part.PackedLoops.{PackedLoops}
use Rattle.us_gen_pack_building.specs.Levels.{FitRuns}
use Rattle.us_gen_pack_building.specs.Runs.{columns_of, AreLast, AreApart, AreCellsSmall, IsPackable}
use Rattle.us_gen_parts_build.specs.Parts.{levels_from, lows_of, level_columns, part_levels, keys_of, run_of, AreLoops}
use Rattle.us_gen_parts_build.specs.Meaning.{NamesQueries, share, HoldsQueries, MayStand}
use Rattle.us_gen_parts_build.proofs.Making.{columns-many}
use Rattle.us_gen_parts_build.proofs.Orderly.{orderly-levels, many-levels, levels-below}
use Rattle.us_gen_parts_build.proofs.Sizes.{part-levels}

-- ---- low ends and columns

lows-from : (s : Shape) (p : Part) (m : List Entry) → IsOrderly p → (es : List Tree) → ((e : Tree) → Mem e es → Mem e p.levels)
    → map (λ e. (range_without s p e).lo) es ≡ map (λ e. (level_range s (extents_of m s p) p e).lo) es
lows-from s p m o [] among = refl
lows-from s p m o (e ∷ es) among =
    ap₂ (λ (z : ℤ) (zs : List ℤ). z ∷ zs)
    (low-holds s p m o.few e (all-Mem (IsWhole p.queries) p.levels e o.whole (among e (inl refl))) (all-Mem (IsWithin p.names) p.levels e o.lawful.levels_valid (among e (inl refl))))
    (lows-from s p m o es (λ x i. among x (inr i)))

-- no extent changes the low ends
pub lows-same : (s : Shape) (p : Part) (m : List Entry) → IsOrderly p → lows_of s p ≡ held.lows_of s p m
lows-same s p m o = lows-from s p m o p.levels (λ e i. i)

pub columns-number : (s : Shape) (p : Part) (cs : Columns) (c : ℕ) → length (level_columns s p cs c) ≡ length p.levels
columns-number s p cs c = columns-many cs p.levels (lows_of s p) c (length-map p.levels (λ e. (range_without s p e).lo))

-- the columns of the levels hold the coordinates
coordinates-from : (bufs : ℕ → List ℤ) (low high : ℕ) (s : Shape) (p : Part) (m es : List Entry) (d k : ℕ) (names : List ℕ) (exprs : List Tree) → low ≤ high
    → HoldLevels bufs low s p m es names exprs → HoldCoordinates bufs high m s p es (levels_from s p d k exprs names) exprs
coordinates-from bufs low high s p m es d k [] [] le h = tt
coordinates-from bufs low high s p m es d k [] (e ∷ exprs) le h = absurd h
coordinates-from bufs low high s p m es d k (c ∷ names) [] le h = absurd h
coordinates-from bufs low high s p m es d k (c ∷ names) (e ∷ exprs) le h = (omega (arith, h.0, le), h.1, coordinates-from bufs low high s p m es d (suc k) names exprs le h.2)

-- ---- sizes

narrow-from : (s : Shape) (ns : List ℕ) (p : Part) (k : ℕ) (es : List Tree) → ((e : Tree) → Mem e es → span (level_range s ns p e) < 2 ^ 38) → AreNarrow (format.levels_from s ns p k es)
narrow-from s ns p k [] h = tt
narrow-from s ns p k (e ∷ es) h = ((λ q. omega (arith, h e (inl refl))), narrow-from s ns p (suc k) es (λ x i. h x (inr i)))

-- the share of a part has the cells before packing
pub cells-within : (s : Shape) (p : Part) (m : List Entry) → IsOrderly p → share_of s p m ≤ share s p m
cells-within s p m o = omega (arith, part-size s p m o.packs)

-- ---- packs of a part, as runs of columns

pub record ArePacked (p : Part) : Type 0 where
  pub runs : FitRuns (length p.levels + 1) (map (run_of (length p.levels)) p.packs)
  pub apart : AreApart (map (run_of (length p.levels)) p.packs)
  pub columns : map (columns_of (length p.levels)) (map (run_of (length p.levels)) p.packs) ≡ p.packs
  pub few : length p.packs ≤ length p.levels + 1
  pub last : (s : Shape) (d : ℕ) (cs : List ℕ) → length cs ≡ length p.levels → AreLast (map (run_of (length p.levels)) p.packs) 0 (levels_from s p d 0 p.levels cs)
  pub small : (s : Shape) (m : List Entry) → share s p m ≤ limit → AreCellsSmall (count_behind (levels_on s p m) 1 (rows_of m s p)) (map (run_of (length p.levels)) p.packs)

-- ---- the loops

-- dims, columns and coordinates that stand in front of the phases that build
pub record IsReady (s : Shape) (p : Part) (cs : Columns) (n c f : ℕ) (m es : List Entry) (u : World) : Type 0 where
  pub dims : AreDims u.env n (map (extent_of m s) (filter has_extent p.queries))
  pub levels : HoldLevels u.bufs f s p m es (level_columns s p cs c) p.levels
  pub entries : HoldEntries u.env u.bufs cs m es

no_entry : Entry
no_entry = record { i = 0; j = 0; v = pos 0 }

module _ (sorts : Bool) (s : Shape) (p : Part) (cs : Columns) (bs : List ℕ) (n c f : ℕ) (x : PackedLoops) (orderly : IsOrderly p) (packed : ArePacked p)
    (names : NamesQueries p cs bs n) (loops : AreLoops sorts s p cs n c x) (low : n + 16 ≤ f) where
  abbrev ls : List PartLevel
  ls = part_levels s p cs n c

  many : length x.part.levels.items ≡ length p.levels
  many = ap (λ (ys : List PartLevel). length ys) loops.levels ∙ many-levels s p n (level_columns s p cs c) (columns-number s p cs c)

  pub is-orderly : AreOrderly x.part.levels.items
  is-orderly = subst AreOrderly (sym loops.levels) (orderly-levels s p n orderly.loose (level_columns s p cs c) (columns-number s p cs c))

  pub runs-fit : FitRuns (length x.part.levels.items + 1) x.packs.items
  runs-fit = subst (λ (k : ℕ). FitRuns (k + 1) x.packs.items) (sym many) (subst (FitRuns (length p.levels + 1)) (sym loops.packs) packed.runs)

  pub level-number : length x.part.levels.items ≡ length p.levels
  level-number = many

  pub pack-number : length x.packs.items ≡ length p.packs
  pack-number = ap (λ (rs : List PackRun). length rs) loops.packs ∙ length-map p.packs (run_of (length p.levels))

  module _ (m es : List Entry) (w u : World) (given : HoldsQueries w s p cs bs m es) (stand : MayStand sorts s p m es) (ready : IsReady s p cs n c f m es u)
      (narrow : (e : Tree) → Mem e p.levels → span (level_range s (extents_of m s p) p e) < 2 ^ 38) where
    long : length (rows_in m s p es) ≡ length es
    long = length-map es (row_of m s p)

    levels-are : levels_of u.env ls ≡ levels_on s p m
    levels-are = part-levels u.env s p m n ready.dims orderly (level_columns s p cs c) (columns-number s p cs c)

    tops : (y : ℕ) → y < length (rows_in m s p es) → (row (rows_in m s p es) y).at ≡ 0
    tops y lt = ap (λ (r : Row). r.at) (get_or-map (row_of m s p) es y no_entry no_row (omega (arith, lt, long)))

    order-by : (b : Bool) → MayStand b s p m es → IsOrder (keys_of b ls) (levels_on s p m) (rows_in m s p es)
    order-by true h =
        subst (λ (ks : List Level). IsOrder (order_keys ls) ks (rows_in m s p es)) levels-are
        (keys_enough u.env ls (rows_in m s p es) (orderly-levels s p n orderly.loose (level_columns s p cs c) (columns-number s p cs c)) tops)
    order-by false h = inl h

    hold : IsPermutation (rows_of m s p) (rows_in m s p es) × HoldRows x.part f (rows_in m s p es) u
    hold =
        entries_are_rows x.part f s p m es u record {
          shuffled = ready.entries.shuffled;
          count = ap u.env.dims loops.count ∙ ready.entries.count;
          coordinates =
              subst (λ (ys : List PartLevel). HoldCoordinates u.bufs f m s p es ys p.levels) (sym loops.levels)
              (coordinates-from u.bufs f f s p m es n 0 (level_columns s p cs c) p.levels (omega arith) ready.levels);
          values = ap u.bufs loops.values ∙ ready.entries.values;
          values_below = subst (λ (b : ℕ). b < f) (sym loops.values) (omega (arith, names.values, low));
        }

    small : AreSmall (levels_on s p m) 1 (rows_of m s p)
    small =
        shares_are_small s p m (narrow-from s (extents_of m s p) p 0 p.levels narrow) (omega (arith, cells-within s p m orderly, given.small))

    pub packable : IsPackable x f s p m (rows_in m s p es) u
    packable = record {
      buildable = record {
        loops = record {
          lawful = orderly.lawful;
          matrix = given.matrix;
          shuffled = hold.0;
          levels = ap (λ (ys : List PartLevel). levels_of u.env ys) loops.levels ∙ levels-are;
          below =
              subst (AllBelow f) (sym loops.levels)
              (levels-below s p n f 0 p.levels (level_columns s p cs c) (λ j lt. omega (arith, lt, low, few-extents)));
          count_below = subst (λ (b : ℕ). b < f) (sym loops.count) (omega (arith, names.count, low));
          few = omega (arith, long, given.few);
          small = small;
        };
        orderly = is-orderly;
        order = subst (λ (k : Option ℕ). IsOrder k (levels_on s p m) (rows_in m s p es)) (sym loops.keys) (order-by sorts stand);
        hold = hold.1;
      };
      packs = record {
        lawful = orderly.packs;
        packs =
            ap (λ (k : ℕ). map (columns_of k) x.packs.items) many ∙ ap (λ (rs : List PackRun). map (columns_of (length p.levels)) rs) loops.packs ∙ packed.columns;
        runs = runs-fit;
        last =
            subst (λ (rs : List PackRun). AreLast rs 0 x.part.levels.items) (sym loops.packs)
            (subst (AreLast (map (run_of (length p.levels)) p.packs) 0) (sym loops.levels) (packed.last s n (level_columns s p cs c) (columns-number s p cs c)));
        apart = subst AreApart (sym loops.packs) packed.apart;
        small = subst (AreCellsSmall (count_behind (levels_on s p m) 1 (rows_of m s p))) (sym loops.packs) (packed.small s m given.small);
      };
    }
      where
        few-extents : length (filter has_extent p.queries) ≤ 16
        few-extents = omega (arith, length-filter has_extent p.queries, count_by-le-length has_extent p.queries, orderly.few)
