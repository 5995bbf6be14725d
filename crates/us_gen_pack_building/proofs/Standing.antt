-- The levels of the loop stand for the levels of the format, and what is below all of them.
use Rattle.std.proofs.Common.{◌≡◌, ℕ, ◌+◌, ◌<◌, List, [], ◌∷◌, Bool, true, false, refl, sym, ap, ◌∙◌, arith, ℤ, pos}
use Rattle.us_code.specs.Run.{Env, size_of}
use Rattle.us_format.specs.Lists.{tail}
use Rattle.us_format.specs.Positions.{Row, count_below, down}
use Rattle.us_gen_build.specs.Levels.{LevelTree}
use Rattle.us_gen_build.specs.Turns.{Turns, position_of, inside}
use Rattle.us_build_loops.specs.Standing.{StandsFor, AllStand}
use Rattle.us_gen_packs.specs.Turns.{last_at}
use Rattle.us_pack_loops.specs.Standing.{count_behind}
use Rattle.us_pack_loops.specs.Names.{CoverLevels}
use Rattle.us_gen_building.specs.declared.part.PartLevel.{PartLevel}
use Rattle.us_gen_building.specs.declared.part.Descent.{Descent}
use Rattle.us_gen_building.specs.Levels.{are_last, positions, deeper, slot_role, built_level, built_values}
use Rattle.us_gen_building.specs.Runs.{level_of, levels_of, HaveDims}
use Rattle.us_gen_building.proofs.Standing.{slots_same, size_is, small_here, row_down, length_down, above_is, ByTerms, Way, built_stand}
use Rattle.us_gen_pack_building.specs.declared.part.PackRun.{PackRun}
use Rattle.us_gen_pack_building.specs.Levels.{is_packed, value_levels, packed_level, packed_levels, bottom}
use Rattle.us_gen_pack_building.proofs.Roles.{here_suits, here_last, here_rank, here_starts, here_inside, here_counts, here_pair}

module _ (T : Turns) (by : ByTerms T) (count : ℕ) where
  values_stand : (b : Bool) (x : Descent) (n : ℕ) (rows : List Row) (at : ℕ → ℕ) (rest : ℕ → List ℕ) (val : ℕ → ℤ) → Way T by count [] x n rows at rest val → AllStand T x.first (value_levels b x) [] n rows at
  values_stand true x n rows at rest val w = tt
  values_stand false x n rows at rest val w = built_stand T by count [] x n rows at rest val w

  level_stands : (b : Bool) (l : PartLevel) (ls : List PartLevel) (x : Descent) (n : ℕ) (rows : List Row) (at : ℕ → ℕ) (rest : ℕ → List ℕ) (val : ℕ → ℤ) → Way T by count (l ∷ ls) x n rows at rest val
      → StandsFor T (packed_level count b l (are_last ls) x) (level_of T.env l) (levels_of T.env ls) n rows at
  level_stands b l ls x n rows at rest val w =
      let last : Bool = are_last ls in
      let t : LevelTree = built_level count l last x in
      let z : LevelTree = packed_level count b l last x in
      let m : ℕ = size_of T.env l.size in
      let below : ℕ = count_below l.kind m n rows in
      let under : List Row = down l.kind m rows in
      let h : StandsFor T t (level_of T.env l) (levels_of T.env ls) n rows at = (built_stand T by count (l ∷ ls) x n rows at rest val w).1 in
      let same : (y : ℕ) → T.coord z y ≡ T.coord t y = λ y. by.coord z y ∙ sym (by.coord t y) in
      let width : T.wide z ≡ m = by.wide z ∙ (sym (by.wide t) ∙ h.width) in
      record {
        suits = here_suits b l.kind last x.is_rank;
        last = λ e f. slots_same T.env ls ∙ here_last b l.kind last x.is_rank e f;
        rank = λ y lt e. w.ranked (here_rank b l.kind last x.is_rank e) y lt;
        room = h.room;
        reads_coord = h.reads_coord;
        reads_size = h.reads_size;
        coordinates = λ y lt. same y ∙ h.coordinates y lt;
        is_coord = λ y lt. h.is_coord y lt ∙ ap pos (sym (same y));
        width = width;
        is_size = λ y lt e. size_is T.env (T.held y) l.size ∙ ap pos (sym width);
        pos_length = λ e. w.dims.1 (here_starts b l.kind last x.is_rank e);
        top = w.top;
        crd_length = λ e. above_is T.env count ls (levels_of T.env ls) false (positions l.kind last count x.above (x.dims + 1)) (x.dims + 2) below under w.dims.2;
        few = h.few;
        fits = λ e q c hq hc. here_pair b l.kind last x.is_rank m n rows w.small.0 (small_here (levels_of T.env ls) below under w.small.1) e q c hq hc;
      }

  pub packed_stand : (rs : List PackRun) (k : ℕ) (ls : List PartLevel) (x : Descent) (n : ℕ) (rows : List Row) (at : ℕ → ℕ) (rest : ℕ → List ℕ) (val : ℕ → ℤ) → Way T by count ls x n rows at rest val
      → AllStand T x.first (packed_levels count rs k ls x) (levels_of T.env ls) n rows at
  packed_stand rs k [] x n rows at rest val w = values_stand (is_packed rs k) x n rows at rest val w
  packed_stand rs k (l ∷ ls) x n rows at rest val w =
      let b : Bool = is_packed rs k in
      let last : Bool = are_last ls in
      let t : LevelTree = packed_level count b l last x in
      let m : ℕ = size_of T.env l.size in (
        omega arith,
        level_stands b l ls x n rows at rest val w,
        packed_stand rs (k + 1) ls (deeper count l last x) (count_below l.kind m n rows) (down l.kind m rows) (inside T t at) (λ y. tail (rest y)) val record {
          room = omega (arith, w.room);
          entries = length_down l.kind m rows ∙ w.entries;
          reads = w.reads.2;
          end = omega (arith, w.end);
          reads_value = λ y h. ap (T.held y) (omega arith) ∙ w.reads_value y h;
          rest_is = λ y h. ap (λ (r : Row). r.rest) (row_down l.kind m rows y (omega (arith, h, w.entries))) ∙ ap tail (w.rest_is y h);
          value_is = λ y h. ap (λ (r : Row). r.value) (row_down l.kind m rows y (omega (arith, h, w.entries))) ∙ w.value_is y h;
          dims = w.dims.2;
          small = w.small.1;
          ranked = λ e y h. here_inside b l.kind last x.is_rank (T.wide t) at (T.coord t) y (λ q. w.ranked q y h) e;
          top = λ e. absurd cc;
        },
      )

-- ---- below all levels

slot_stays : (ranked : Bool) (w : ℕ) (at c : ℕ → ℕ) (y : ℕ) → position_of (slot_role ranked) w at c y ≡ at y
slot_stays true w at c y = refl
slot_stays false w at c y = refl

values_stay : (T : Turns) (b : Bool) (x : Descent) (at : ℕ → ℕ) (y : ℕ) → last_at T (value_levels b x) at y ≡ at y
values_stay T true x at y = refl
values_stay T false x at y = slot_stays x.is_rank (T.wide (built_values x)) at (T.coord (built_values x)) y

-- the position of each entry there is its rank, if it says so
pub last_rank : (T : Turns) (count : ℕ) (rs : List PackRun) (k : ℕ) (ls : List PartLevel) (x : Descent) (at : ℕ → ℕ) → (x.is_rank ≡ true → (y : ℕ) → y < T.count → at y ≡ y)
    → (bottom count ls x).is_rank ≡ true → (y : ℕ) → y < T.count → last_at T (packed_levels count rs k ls x) at y ≡ y
last_rank T count rs k [] x at h e y lt = values_stay T (is_packed rs k) x at y ∙ h e y lt
last_rank T count rs k (l ∷ ls) x at h e y lt =
    let b : Bool = is_packed rs k in
    let last : Bool = are_last ls in
    let t : LevelTree = packed_level count b l last x in
    last_rank T count rs (k + 1) ls (deeper count l last x) (inside T t at) (λ q z g. here_inside b l.kind last x.is_rank (T.wide t) at (T.coord t) z (λ r. h r z g) q) e y lt

-- the dim there is the number of positions
pub bottom_is : (env : Env) (count : ℕ) (ls : List PartLevel) (x : Descent) (n : ℕ) (rows : List Row) → HaveDims env count ls (levels_of env ls) x.is_top x.above x.dims n rows → size_of env (bottom count ls x).above ≡ count_behind (levels_of env ls) n rows
bottom_is env count [] x n rows h = h
bottom_is env count (l ∷ ls) x n rows h = bottom_is env count ls (deeper count l (are_last ls) x) (count_below l.kind (size_of env l.size) n rows) (down l.kind (size_of env l.size) rows) h.2

-- ---- each level of the format has one

values_cover : (b : Bool) (x : Descent) → CoverLevels (value_levels b x) []
values_cover true x = tt
values_cover false x = tt

pub packed_cover : (env : Env) (count : ℕ) (rs : List PackRun) (k : ℕ) (ls : List PartLevel) (x : Descent) → CoverLevels (packed_levels count rs k ls x) (levels_of env ls)
packed_cover env count rs k [] x = values_cover (is_packed rs k) x
packed_cover env count rs k (l ∷ ls) x = (
  (λ e. here_counts (is_packed rs k) l.kind (are_last ls) x.is_rank e),
  packed_cover env count rs (k + 1) ls (deeper count l (are_last ls) x),
)
