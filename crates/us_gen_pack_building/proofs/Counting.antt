-- The first phase: what that of a part without packs leaves, and the packs' cells.
use Rattle.std.specs.List.Sorted.{IsPermutation}
use Rattle.std.proofs.Common.{◌≡◌, ℕ, ◌+◌, ◌*◌, ◌<◌, ◌≤◌, List, [], ◌∷◌, length, Bool, true, false, refl, sym, ap, ◌∙◌, subst, arith}
use Rattle.us_code.specs.declared.program.Dim.{Dim}
use Rattle.us_code.specs.declared.program.Dim.TheVariants as dim
use Rattle.us_code.specs.Run.{size_of}
use Rattle.us_code.specs.Runs.{World}
use Rattle.us_format.specs.declared.Kind.{Kind}
use Rattle.us_format.specs.declared.Kind.TheVariants.{Full, Compressed, Listed, Slot}
use Rattle.us_format.specs.Kinds.{Level}
use Rattle.us_format.specs.Matrix.{Shape, Entry}
use Rattle.us_format.specs.Declaration.{Part}
use Rattle.us_format.specs.Positions.{Row, rows_of, count_below, down}
use Rattle.us_format.proofs.Shuffled.{shuffled-count_below, shuffled-down}
use Rattle.us_format_loops.specs.Laws.{levels_on}
use Rattle.us_gen.specs.Goes.{Keeps}
use Rattle.us_gen.proofs.Going.{keeps_both}
use Rattle.us_gen_build.proofs.LoopRun.{picks_stay}
use Rattle.us_pack_loops.specs.Standing.{count_behind}
use Rattle.us_gen_building.specs.declared.part.PartLevel.{PartLevel}
use Rattle.us_gen_building.specs.declared.part.PartLoops.{PartLoops}
use Rattle.us_gen_building.specs.declared.part.Descent.{Descent}
use Rattle.us_gen_building.specs.Levels.{are_last, positions, starts, deeper}
use Rattle.us_gen_building.specs.Phases as plain
use Rattle.us_gen_building.specs.Phases.{order_of, dims_from, ends_from}
use Rattle.us_gen_building.specs.Runs.{levels_of, IsBelow, HaveDims, IsCounted}
use Rattle.us_gen_building.proofs.Lines.{size_kept}
use Rattle.us_gen_building.proofs.Keeping.{loops_kept, hold_kept}
use Rattle.us_gen_building.proofs.Counting.{counting_counts}
use Rattle.us_gen_pack_building.specs.Levels.{bottom, pack_lines}
use Rattle.us_gen_pack_building.specs.Phases.{level_count, packing_top, all_packs}
use Rattle.us_gen_pack_building.specs.Runs.{PackingCounts}
use Rattle.us_gen_pack_building.proofs.Standing.{bottom_is}
use Rattle.us_gen_pack_building.proofs.Lines.{phase_more, packs_lead}

-- ---- dims

positions_below : (k : Kind) (last : Bool) (count : ℕ) (above : Dim) (name low : ℕ) → IsBelow low above → count < low → name < low → IsBelow low (positions k last count above name)
positions_below Full last count above name low b c h = h
positions_below Compressed true count above name low b c h = c
positions_below Compressed false count above name low b c h = h
positions_below Listed last count above name low b c h = c
positions_below Slot last count above name low b c h = b

starts_below : (top : Bool) (name low : ℕ) → name < low → IsBelow low (starts top name)
starts_below true name low h = tt
starts_below false name low h = h

pub bottom_below : (count : ℕ) (ls : List PartLevel) (x : Descent) (low : ℕ) → count < low → IsBelow low x.above → x.dims + 2 * length ls ≤ low → IsBelow low (bottom count ls x).above
bottom_below count [] x low c b h = b
bottom_below count (l ∷ ls) x low c b h =
    bottom_below count ls (deeper count l (are_last ls) x) low c (positions_below l.kind (are_last ls) count x.above (x.dims + 1) low b c (omega (arith, h))) (omega (arith, h))

dims_kept : (low count : ℕ) (w u : World) (ls : List PartLevel) (ks : List Level) (top : Bool) (above : Dim) (name n : ℕ) (rows : List Row) → Keeps low w u → IsBelow low above → count < low → name + 2 * length ls ≤ low
    → HaveDims w.env count ls ks top above name n rows → HaveDims u.env count ls ks top above name n rows
dims_kept low count w u [] [] top above name n rows k b c le h = size_kept low w u above k b ∙ h
dims_kept low count w u (l ∷ ls) (z ∷ zs) top above name n rows k b c le h = (
  size_kept low w u above k b ∙ h.0,
  (λ q. size_kept low w u (starts top name) k (starts_below top name low (omega (arith, le))) ∙ h.1 q),
  dims_kept low count w u ls zs false (positions l.kind (are_last ls) count above (name + 1)) (name + 2) (count_below z.kind z.size n rows) (down z.kind z.size rows) k
      (positions_below l.kind (are_last ls) count above (name + 1) low b c (omega (arith, le))) c (omega (arith, le)) h.2,
)
dims_kept low count w u [] (z ∷ zs) top above name n rows k b c le h = absurd h
dims_kept low count w u (l ∷ ls) [] top above name n rows k b c le h = absurd h

-- ---- worlds

keeps_low : (low lower : ℕ) (w u : World) → lower ≤ low → Keeps low w u → Keeps lower w u
keeps_low low lower w u le k = record {
  sources = k.sources;
  dims = λ d h. k.dims d (omega (arith, h, le));
  factors = λ d h. k.factors d (omega (arith, h, le));
  bufs = λ b h. k.bufs b (omega (arith, h, le));
}

counted_kept : (low : ℕ) (x : PartLoops) (f : ℕ) (s : Shape) (p : Part) (m : List Entry) (rows : List Row) (w u : World) → Keeps low w u → ends_from f (length x.levels.items) ≤ low → IsCounted x f s p m rows w → IsCounted x f s p m rows u
counted_kept low x f s p m rows w u k le c =
    let low_f : Keeps f w u = keeps_low low f w u (omega (arith, le)) k in
    record {
      loops = loops_kept x f s p m rows w u low_f c.loops;
      hold = hold_kept x f rows w u c.loops.count_below low_f c.hold;
      turns = c.turns;
      place = c.place;
      shuffled = c.shuffled;
      sorted = c.sorted;
      number = c.number;
      within = c.within;
      turn = c.turn;
      picks = picks_stay (order_of x.keys f) (f + 1) (length rows) w.bufs u.bufs c.place (λ i g. k.bufs i (omega (arith, g, le))) c.picks;
      dims =
          dims_kept low x.count w u x.levels.items (levels_on s p m) true (dim.Number 1) (dims_from f (length x.levels.items)) 1 c.turns k tt (omega (arith, c.loops.count_below, le))
          (omega (arith, le)) c.dims;
    }

-- ---- positions in any order of the rows

pub behind_shuffled : (ls : List Level) (n : ℕ) (rows shuffled : List Row) → IsPermutation rows shuffled → count_behind ls n shuffled ≡ count_behind ls n rows
behind_shuffled [] n rows shuffled h = refl
behind_shuffled (l ∷ ls) n rows shuffled h =
    ap (λ (c : ℕ). count_behind ls c (down l.kind l.size shuffled)) (shuffled-count_below l.kind l.size n rows shuffled h)
    ∙ behind_shuffled ls (count_below l.kind l.size n rows) (down l.kind l.size rows) (down l.kind l.size shuffled) (shuffled-down l.kind l.size rows shuffled h)

-- the dim below all levels of the loop
pub cells_above : (x : PartLoops) (f : ℕ) (s : Shape) (p : Part) (m : List Entry) (rows : List Row) (u : World) (y : Descent) → y.is_top ≡ true → y.above ≡ dim.Number 1 → y.dims ≡ dims_from f (length x.levels.items)
    → (c : IsCounted x f s p m rows u) → size_of u.env (bottom x.count x.levels.items y).above ≡ count_behind (levels_on s p m) 1 (rows_of m s p)
cells_above x f s p m rows u y top above dims c =
    let here : HaveDims u.env x.count x.levels.items (levels_of u.env x.levels.items) true (dim.Number 1) (dims_from f (length x.levels.items)) 1 c.turns =
    subst (λ (ls : List Level). HaveDims u.env x.count x.levels.items ls true (dim.Number 1) (dims_from f (length x.levels.items)) 1 c.turns) (sym c.loops.levels) c.dims in
    let at_y : HaveDims u.env x.count x.levels.items (levels_of u.env x.levels.items) y.is_top y.above y.dims 1 c.turns =
    subst (λ (b : Bool). HaveDims u.env x.count x.levels.items (levels_of u.env x.levels.items) b y.above y.dims 1 c.turns) (sym top)
    (subst (λ (a : Dim). HaveDims u.env x.count x.levels.items (levels_of u.env x.levels.items) true a y.dims 1 c.turns) (sym above)
    (subst (λ (d : ℕ). HaveDims u.env x.count x.levels.items (levels_of u.env x.levels.items) true (dim.Number 1) d 1 c.turns) (sym dims) here)) in
    bottom_is u.env x.count x.levels.items y 1 c.turns at_y
    ∙ (ap (λ (ls : List Level). count_behind ls 1 c.turns) c.loops.levels ∙ behind_shuffled (levels_on s p m) 1 (rows_of m s p) c.turns c.shuffled)

-- ---- the phase

pub packing_counts : PackingCounts
packing_counts x f s p m rows w b =
    let L : ℕ = level_count x in
    let name : ℕ = ends_from f L in
    let top : Descent = packing_top x f in
    let c = counting_counts x.part f s p m rows w b.buildable in
    let e : World = c.end in
    let lines = pack_lines (all_packs x f) in
    let more = phase_more (plain.counting_phase x.part f) lines w e c.arrives.is in
    let l =
    packs_lead more.0 x.packs.items name top.register (bottom x.part.count x.part.levels.items top) (count_behind (levels_on s p m) 1 (rows_of m s p)) e
    (cells_above x.part f s p m rows e top refl refl refl c.post)
    (bottom_below x.part.count x.part.levels.items top name (omega (arith, c.post.loops.count_below)) tt (omega arith))
    b.packs.small in
    record {
      end = l.end;
      arrives = record {
        is = more.1 ∙ l.arrives.is;
        steps = omega (arith, c.arrives.steps, l.arrives.steps);
        keeps = keeps_both f name w e l.end (omega arith) c.arrives.keeps l.arrives.keeps;
      };
      post = record {
        counted = counted_kept name x.part f s p m rows e l.end l.arrives.keeps (omega arith) c.post;
        packs = b.packs;
        cells = l.post;
      };
    }
