-- The levels of the loops stand for the levels of the format.
use Rattle.std.proofs.Common.{◌≡◌, ℕ, zero, suc, ◌+◌, ◌*◌, ◌^◌, ◌<◌, ◌≤◌, List, [], ◌∷◌, take, length, Bool, true, false, ◌&&◌, refl, sym, ap, ◌∙◌, arith, ℤ, pos}
use Rattle.std.proofs.lemmas.List.{get_or-map, length-map}
use Rattle.std.proofs.lemmas.Nat.{mul-add-lt}
use Rattle.us_code.specs.declared.program.Dim.{Dim}
use Rattle.us_code.specs.declared.program.Dim.TheVariants as dim
use Rattle.us_code.specs.Plain.{TermTree, Reg}
use Rattle.us_code.specs.Run.{Env, size_of, value}
use Rattle.us_code.specs.Runs.{whole}
use Rattle.us_gen.specs.Levels.{size_term}
use Rattle.us_format.specs.declared.Kind.{Kind}
use Rattle.us_format.specs.declared.Kind.TheVariants.{Full, Compressed, Listed, Slot}
use Rattle.us_format.specs.Kinds.{Level}
use Rattle.us_format.specs.Lists.{head, tail}
use Rattle.us_format.specs.Positions.{Row, count_below, moved, down}
use Rattle.us_format.specs.Reading.{limit}
use Rattle.us_format_loops.specs.Nodes.{is_slot, has_nodes, are_slots}
use Rattle.us_gen_build.specs.declared.levels.Role.{Role}
use Rattle.us_gen_build.specs.declared.levels.Role.TheVariants as role
use Rattle.us_gen_build.specs.Levels.{LevelTree}
use Rattle.us_gen_build.specs.Turns.{Turns, Reads, has_key, is_at_rank, position_of, inside}
use Rattle.us_gen_build_laws.specs.Rows.{no_row, row}
use Rattle.us_gen_build_laws.specs.Numbering.{Ranked, Suits}
use Rattle.us_build_loops.specs.Standing.{numbering_of, has_starts, has_number, Spreads, StandsFor, AllStand}
use Rattle.us_gen_building.specs.declared.part.PartLevel.{PartLevel}
use Rattle.us_gen_building.specs.declared.part.Descent.{Descent}
use Rattle.us_gen_building.specs.Levels.{are_last, ranks_below, positions, deeper, slot_role, role_of, built_level, built_levels, raised, group_at, group_count, counting_role, counted_level, counted_levels}
use Rattle.us_gen_building.specs.Runs.{level_of, levels_of, IsSmall, AreSmall, HaveDims}
use Rattle.us_gen_building.proofs.Registers.{ReadRows}

-- ---- slot levels

pub slots_same : (env : Env) (ls : List PartLevel) → are_slots (levels_of env ls) ≡ are_last ls
slots_same env [] = refl
slots_same env (l ∷ ls) = ap (λ (b : Bool). is_slot l.kind && b) (slots_same env ls)

pub length_levels : (env : Env) (ls : List PartLevel) → length (levels_of env ls) ≡ length ls
length_levels env [] = refl
length_levels env (l ∷ ls) = ap (λ (n : ℕ). suc n) (length_levels env ls)

-- ---- terms

size_reads : (b : ℕ) (d : Dim) → Reads b (size_term d)
size_reads b (dim.Number n) = tt
size_reads b (dim.Name d) = tt
size_reads b (dim.Len k) = tt

pub size_is : (env : Env) (regs : ℕ → ℤ) (d : Dim) → value env regs (size_term d) ≡ pos (size_of env d)
size_is env regs (dim.Number n) = refl
size_is env regs (dim.Name d) = refl
size_is env regs (dim.Len k) = refl

-- ---- roles

role_suits : (k : Kind) (last ranked : Bool) → Suits (numbering_of (role_of k last ranked)) k
role_suits Full last ranked = tt
role_suits Compressed true ranked = tt
role_suits Compressed false ranked = tt
role_suits Listed last ranked = tt
role_suits Slot last true = tt
role_suits Slot last false = tt

role_last : (k : Kind) (last ranked : Bool) → numbering_of (role_of k last ranked) ≡ Ranked → k ≡ Compressed → last ≡ true
role_last Full last ranked e f = absurd cc
role_last Compressed true ranked e f = refl
role_last Compressed false ranked e f = absurd cc
role_last Listed last ranked e f = absurd cc
role_last Slot last ranked e f = absurd cc

role_rank : (k : Kind) (last ranked : Bool) → is_at_rank (role_of k last ranked) ≡ true → ranked ≡ true
role_rank Full last ranked e = absurd cc
role_rank Compressed true ranked e = absurd cc
role_rank Compressed false ranked e = absurd cc
role_rank Listed last ranked e = absurd cc
role_rank Slot last true e = refl
role_rank Slot last false e = absurd cc

role_starts : (k : Kind) (last ranked : Bool) → has_starts (role_of k last ranked) ≡ true → has_nodes k ≡ true
role_starts Full last ranked e = absurd cc
role_starts Compressed last ranked e = refl
role_starts Listed last ranked e = refl
role_starts Slot last true e = absurd cc
role_starts Slot last false e = absurd cc

-- where the position of each entry above is its rank, or the level makes it so
role_inside : (k : Kind) (last ranked : Bool) (w : ℕ) (at c : ℕ → ℕ) (y : ℕ) → (ranked ≡ true → at y ≡ y) → ranks_below k last ranked ≡ true → position_of (role_of k last ranked) w at c y ≡ y
role_inside Full last ranked w at c y h e = absurd cc
role_inside Compressed true ranked w at c y h e = refl
role_inside Compressed false ranked w at c y h e = absurd cc
role_inside Listed last ranked w at c y h e = refl
role_inside Slot last true w at c y h e = h refl
role_inside Slot last false w at c y h e = absurd cc

slot_spreads : (ranked : Bool) → Spreads (slot_role ranked)
slot_spreads true = tt
slot_spreads false = tt

slot_rank : (ranked : Bool) → is_at_rank (slot_role ranked) ≡ true → ranked ≡ true
slot_rank true e = refl
slot_rank false e = absurd cc

-- ---- numbers

pub small_here : (ls : List Level) (n : ℕ) (rows : List Row) → AreSmall ls n rows → n ≤ limit
small_here [] n rows s = s
small_here (l ∷ ls) n rows s = s.0.number

-- a position and a coordinate of a full level are below the number of positions
full_pair : (n w q c : ℕ) → n * w ≤ limit → q < n → c < w → q * w + c < 2 ^ 63
full_pair n w q c le hq hc = omega (arith, mul-add-lt q w c n hq hc, le)

pair_fits : (k : Kind) (w n : ℕ) (rows : List Row) → IsSmall record { kind = k; size = w } n → count_below k w n rows ≤ limit → (r : Role) → has_key r ≡ true → Suits (numbering_of r) k → (q c : ℕ) → q < n → c < w → q * w + c < 2 ^ 63
pair_fits Full w n rows s le r e u q c hq hc = full_pair n w q c le hq hc
pair_fits Compressed w n rows s le r e u q c hq hc = s.pairs refl q c hq hc
pair_fits Listed w n rows s le role.Full e u q c hq hc = absurd u
pair_fits Listed w n rows s le role.Shared e u q c hq hc = absurd u
pair_fits Listed w n rows s le role.Single e u q c hq hc = absurd cc
pair_fits Listed w n rows s le role.AtPosition e u q c hq hc = absurd u
pair_fits Listed w n rows s le role.AtRank e u q c hq hc = absurd u
pair_fits Listed w n rows s le role.Counted e u q c hq hc = absurd u
pair_fits Listed w n rows s le role.Marked e u q c hq hc = absurd cc
pair_fits Listed w n rows s le role.Kept e u q c hq hc = absurd u
pair_fits Slot w n rows s le role.Full e u q c hq hc = absurd u
pair_fits Slot w n rows s le role.Shared e u q c hq hc = absurd u
pair_fits Slot w n rows s le role.Single e u q c hq hc = absurd u
pair_fits Slot w n rows s le role.AtPosition e u q c hq hc = absurd cc
pair_fits Slot w n rows s le role.AtRank e u q c hq hc = absurd cc
pair_fits Slot w n rows s le role.Counted e u q c hq hc = absurd u
pair_fits Slot w n rows s le role.Marked e u q c hq hc = absurd u
pair_fits Slot w n rows s le role.Kept e u q c hq hc = absurd cc

-- ---- rows one level down

pub row_down : (k : Kind) (w : ℕ) (rows : List Row) (y : ℕ) → y < length rows → row (down k w rows) y ≡ moved k w rows (row rows y)
row_down k w rows y h = get_or-map (moved k w rows) rows y no_row no_row h

pub length_down : (k : Kind) (w : ℕ) (rows : List Row) → length (down k w rows) ≡ length rows
length_down k w rows = length-map rows (moved k w rows)

pub above_is : (env : Env) (count : ℕ) (ls : List PartLevel) (ks : List Level) (top : Bool) (above : Dim) (name n : ℕ) (rows : List Row) → HaveDims env count ls ks top above name n rows → size_of env above ≡ n
above_is env count [] [] top above name n rows h = h
above_is env count (l ∷ ls) (k ∷ ks) top above name n rows h = h.0
above_is env count [] (k ∷ ks) top above name n rows h = absurd h
above_is env count (l ∷ ls) [] top above name n rows h = absurd h

-- the coordinates and the sizes of a level are the values of its terms
pub record ByTerms (T : Turns) : Type 0 where
  pub coord : (l : LevelTree) (y : ℕ) → T.coord l y ≡ whole (value T.env (T.held y) l.coord)
  pub wide : (l : LevelTree) → T.wide l ≡ whole (value T.env (λ r. pos 0) l.size)

module _ (T : Turns) (by : ByTerms T) (count : ℕ) where
  -- ---- the loop that builds

  pub record Way (ls : List PartLevel) (x : Descent) (n : ℕ) (rows : List Row) (at : ℕ → ℕ) (rest : ℕ → List ℕ) (val : ℕ → ℤ) : Type 0 where
    pub room : T.base ≤ x.first
    pub entries : length rows ≡ T.count
    pub reads : ReadRows T.held T.base T.count x.register ls rest
    pub end : x.register + length ls < T.base
    pub reads_value : (y : ℕ) → y < T.count → T.held y (x.register + length ls) ≡ val y
    pub rest_is : (y : ℕ) → y < T.count → (row rows y).rest ≡ rest y
    pub value_is : (y : ℕ) → y < T.count → (row rows y).value ≡ val y
    pub dims : HaveDims T.env count ls (levels_of T.env ls) x.is_top x.above x.dims n rows
    pub small : AreSmall (levels_of T.env ls) n rows
    pub ranked : x.is_rank ≡ true → (y : ℕ) → y < T.count → at y ≡ y
    pub top : x.is_top ≡ true → n ≡ 1

  coordinate_is : (l : LevelTree) (r : ℕ) (rest : ℕ → List ℕ) (y : ℕ) → l.coord ≡ Reg r → T.held y r ≡ pos (head (rest y)) → T.coord l y ≡ head (rest y)
  coordinate_is l r rest y e h = by.coord l y ∙ (ap (λ (t : TermTree). whole (value T.env (T.held y) t)) e ∙ ap whole h)

  pub built_stand : (ls : List PartLevel) (x : Descent) (n : ℕ) (rows : List Row) (at : ℕ → ℕ) (rest : ℕ → List ℕ) (val : ℕ → ℤ) → Way ls x n rows at rest val → AllStand T x.first (built_levels count ls x) (levels_of T.env ls) n rows at
  built_stand [] x n rows at rest val w = (
    omega arith,
    record {
      spreads = slot_spreads x.is_rank;
      rank = λ y h e. w.ranked (slot_rank x.is_rank e) y h;
      room = w.room;
      reads_coord = omega (arith, w.end);
      reads_size = tt;
      values = λ y h. ap (T.held y) (omega arith) ∙ (w.reads_value y h ∙ sym (w.value_is y h));
      crd_length = w.dims;
      few = omega (arith, w.small);
    },
  )
  built_stand (l ∷ ls) x n rows at rest val w =
      let last : Bool = are_last ls in
      let t : LevelTree = built_level count l last x in
      let m : ℕ = size_of T.env l.size in
      let below : ℕ = count_below l.kind m n rows in
      let under : List Row = down l.kind m rows in
      let coords : (y : ℕ) → y < T.count → T.coord t y ≡ head (row rows y).rest = λ y h. coordinate_is t x.register rest y refl (w.reads.1 y h) ∙ ap head (sym (w.rest_is y h)) in
      let width : T.wide t ≡ m = by.wide t ∙ ap whole (size_is T.env (λ r. pos 0) l.size) in
      let here : size_of T.env (positions l.kind last count x.above (x.dims + 1)) ≡ below = above_is T.env count ls (levels_of T.env ls) false (positions l.kind last count x.above (x.dims + 1)) (x.dims + 2) below under w.dims.2 in (
        omega arith,
        record {
          suits = role_suits l.kind last x.is_rank;
          last = λ e f. slots_same T.env ls ∙ role_last l.kind last x.is_rank e f;
          rank = λ y h e. w.ranked (role_rank l.kind last x.is_rank e) y h;
          room = w.room;
          reads_coord = w.reads.0;
          reads_size = size_reads T.base l.size;
          coordinates = coords;
          is_coord = λ y h. w.reads.1 y h ∙ ap pos (sym (coordinate_is t x.register rest y refl (w.reads.1 y h)));
          width = width;
          is_size = λ y h e. size_is T.env (T.held y) l.size ∙ ap pos (sym width);
          pos_length = λ e. w.dims.1 (role_starts l.kind last x.is_rank e);
          top = w.top;
          crd_length = λ e. here;
          few = omega (arith, w.small.0.number);
          fits = λ e q c hq hc. pair_fits l.kind m n rows w.small.0 (small_here (levels_of T.env ls) below under w.small.1) (role_of l.kind last x.is_rank) e (role_suits l.kind last x.is_rank) q c hq hc;
        },
        built_stand ls (deeper count l last x) below under (inside T t at) (λ y. tail (rest y)) val record {
          room = omega (arith, w.room);
          entries = length_down l.kind m rows ∙ w.entries;
          reads = w.reads.2;
          end = omega (arith, w.end);
          reads_value = λ y h. ap (T.held y) (omega arith) ∙ w.reads_value y h;
          rest_is = λ y h. ap (λ (r : Row). r.rest) (row_down l.kind m rows y (omega (arith, h, w.entries))) ∙ ap tail (w.rest_is y h);
          value_is = λ y h. ap (λ (r : Row). r.value) (row_down l.kind m rows y (omega (arith, h, w.entries))) ∙ w.value_is y h;
          dims = w.dims.2;
          small = w.small.1;
          ranked = λ e y h. role_inside l.kind last x.is_rank (T.wide t) at (T.coord t) y (λ q. w.ranked q y h) e;
          top = λ e. absurd cc;
        },
      )

  -- ---- the loop that counts

  pub record Front (ls : List PartLevel) (first r n : ℕ) (rows : List Row) (rest : ℕ → List ℕ) : Type 0 where
    pub room : T.base ≤ first
    pub entries : length rows ≡ T.count
    pub reads : ReadRows T.held T.base T.count r (take (group_count ls) ls) rest
    pub rest_is : (y : ℕ) → y < T.count → (row rows y).rest ≡ rest y
    pub small : AreSmall (levels_of T.env ls) n rows

  -- a level whose nodes are counted, or a full one
  abbrev IsCounted : Kind → Type 0
  IsCounted Full = Unit {0}
  IsCounted Compressed = Unit {0}
  IsCounted Listed = ⊥
  IsCounted Slot = ⊥

  count_suits : (k : Kind) → IsCounted k → Suits (numbering_of (counting_role k)) k
  count_suits Full i = tt
  count_suits Compressed i = tt
  count_suits Listed i = absurd i
  count_suits Slot i = absurd i

  not_ranked : (k : Kind) → numbering_of (counting_role k) ≡ Ranked → ⊥
  not_ranked Full e = cc
  not_ranked Compressed e = cc
  not_ranked Listed e = cc
  not_ranked Slot e = cc

  not_at_rank : (k : Kind) → is_at_rank (counting_role k) ≡ true → ⊥
  not_at_rank Full e = cc
  not_at_rank Compressed e = cc
  not_at_rank Listed e = cc
  not_at_rank Slot e = cc

  no_starts : (k : Kind) → has_starts (counting_role k) ≡ true → ⊥
  no_starts Full e = cc
  no_starts Compressed e = cc
  no_starts Listed e = cc
  no_starts Slot e = cc

  no_crd : (k : Kind) → has_number (counting_role k) ≡ true → ⊥
  no_crd Full e = cc
  no_crd Compressed e = cc
  no_crd Listed e = cc
  no_crd Slot e = cc

  count_stands : (l : PartLevel) (behind : List Level) (first r n : ℕ) (rows : List Row) (at : ℕ → ℕ) (rest : ℕ → List ℕ) → IsCounted l.kind → T.base ≤ first → r < T.base
      → ((y : ℕ) → y < T.count → T.held y r ≡ pos (head (rest y))) → ((y : ℕ) → y < T.count → (row rows y).rest ≡ rest y) → IsSmall (level_of T.env l) n → count_below l.kind (size_of T.env l.size) n rows ≤ limit
      → StandsFor T (counted_level l first r) (level_of T.env l) behind n rows at
  count_stands l behind first r n rows at rest i room low reads rest_is small less =
      let t : LevelTree = counted_level l first r in
      let width : T.wide t ≡ size_of T.env l.size = by.wide t ∙ ap whole (size_is T.env (λ r. pos 0) l.size) in
      record {
        suits = count_suits l.kind i;
        last = λ e f. absurd (not_ranked l.kind e);
        rank = λ y h e. absurd (not_at_rank l.kind e);
        room = room;
        reads_coord = low;
        reads_size = size_reads T.base l.size;
        coordinates = λ y h. coordinate_is t r rest y refl (reads y h) ∙ ap head (sym (rest_is y h));
        is_coord = λ y h. reads y h ∙ ap pos (sym (coordinate_is t r rest y refl (reads y h)));
        width = width;
        is_size = λ y h e. size_is T.env (T.held y) l.size ∙ ap pos (sym width);
        pos_length = λ e. absurd (no_starts l.kind e);
        top = λ e. absurd cc;
        crd_length = λ e. absurd (no_crd l.kind e);
        few = omega (arith, small.number);
        fits = λ e q c hq hc. pair_fits l.kind (size_of T.env l.size) n rows small less (counting_role l.kind) e (count_suits l.kind i) q c hq hc;
      }

  -- what is behind a level: the first g levels there stand
  abbrev Behind : ℕ → PartLevel → List PartLevel → ℕ → ℕ → ℕ → List Row → (ℕ → ℕ) → (ℕ → List ℕ) → Type 0
  Behind g l ls first r n rows at rest =
      ReadRows T.held T.base T.count (r + 1) (take g ls) (λ y. tail (rest y))
      → AllStand T (first + 4) (counted_levels (take g ls) (first + 4) (r + 1)) (levels_of T.env ls) (count_below l.kind (size_of T.env l.size) n rows) (down l.kind (size_of T.env l.size) rows) (inside T (counted_level l first r) at)

  record Here (l : PartLevel) (ls : List PartLevel) (first n : ℕ) (rows : List Row) (rest : ℕ → List ℕ) : Type 0 where
    pub room : T.base ≤ first
    pub rest_is : (y : ℕ) → y < T.count → (row rows y).rest ≡ rest y
    pub small : AreSmall (levels_of T.env (l ∷ ls)) n rows

  with_level : (l : PartLevel) (ls : List PartLevel) (g first r n : ℕ) (rows : List Row) (at : ℕ → ℕ) (rest : ℕ → List ℕ) → IsCounted l.kind → Here l ls first n rows rest → Behind g l ls first r n rows at rest
      → ReadRows T.held T.base T.count r (l ∷ take g ls) rest → AllStand T first (counted_levels (l ∷ take g ls) first r) (levels_of T.env (l ∷ ls)) n rows at
  with_level l ls g first r n rows at rest i h behind reads = (
    omega arith,
    count_stands l (levels_of T.env ls) first r n rows at rest i h.room reads.0 reads.1 h.rest_is h.small.0 (small_here (levels_of T.env ls) (count_below l.kind (size_of T.env l.size) n rows) (down l.kind (size_of T.env l.size) rows) h.small.1),
    behind reads.2,
  )

  full_level : (l : PartLevel) (ls : List PartLevel) (g first r n : ℕ) (rows : List Row) (at : ℕ → ℕ) (rest : ℕ → List ℕ) → IsCounted l.kind → Here l ls first n rows rest → Behind g l ls first r n rows at rest
      → ReadRows T.held T.base T.count r (take (raised g) (l ∷ ls)) rest → AllStand T first (counted_levels (take (raised g) (l ∷ ls)) first r) (levels_of T.env (l ∷ ls)) n rows at
  full_level l ls zero first r n rows at rest i h behind reads = tt
  full_level l ls (suc g) first r n rows at rest i h behind reads = with_level l ls (suc g) first r n rows at rest i h behind reads

  level_stands : (k : Kind) (last : Bool) (size : Dim) (col : ℕ) (ls : List PartLevel) (g first r n : ℕ) (rows : List Row) (at : ℕ → ℕ) (rest : ℕ → List ℕ) → Here record { kind = k; size = size; column = col } ls first n rows rest
      → Behind g record { kind = k; size = size; column = col } ls first r n rows at rest
      → ReadRows T.held T.base T.count r (take (group_at k last g) (record { kind = k; size = size; column = col } ∷ ls)) rest
      → AllStand T first (counted_levels (take (group_at k last g) (record { kind = k; size = size; column = col } ∷ ls)) first r) (levels_of T.env (record { kind = k; size = size; column = col } ∷ ls)) n rows at
  level_stands Full last size col ls g first r n rows at rest h behind reads = full_level record { kind = Full; size = size; column = col } ls g first r n rows at rest tt h behind reads
  level_stands Compressed true size col ls g first r n rows at rest h behind reads = tt
  level_stands Compressed false size col ls g first r n rows at rest h behind reads = with_level record { kind = Compressed; size = size; column = col } ls g first r n rows at rest tt h behind reads
  level_stands Listed last size col ls g first r n rows at rest h behind reads = tt
  level_stands Slot last size col ls g first r n rows at rest h behind reads = tt

  pub counted_stand : (ls : List PartLevel) (first r n : ℕ) (rows : List Row) (at : ℕ → ℕ) (rest : ℕ → List ℕ) → Front ls first r n rows rest → AllStand T first (counted_levels (take (group_count ls) ls) first r) (levels_of T.env ls) n rows at
  counted_stand [] first r n rows at rest w = tt
  counted_stand (l ∷ ls) first r n rows at rest w =
      level_stands l.kind (are_last ls) l.size l.column ls (group_count ls) first r n rows at rest record { room = w.room; rest_is = w.rest_is; small = w.small }
      (λ reads. counted_stand ls (first + 4) (r + 1) (count_below l.kind (size_of T.env l.size) n rows) (down l.kind (size_of T.env l.size) rows) (inside T (counted_level l first r) at) (λ y. tail (rest y)) record {
        room = omega (arith, w.room);
        entries = length_down l.kind (size_of T.env l.size) rows ∙ w.entries;
        reads = reads;
        rest_is = λ y h. ap (λ (r : Row). r.rest) (row_down l.kind (size_of T.env l.size) rows y (omega (arith, h, w.entries))) ∙ ap tail (w.rest_is y h);
        small = w.small.1;
      })
      w.reads
