-- The dim lines of the levels tell the numbers of positions.
use Rattle.std.proofs.Common.{◌≡◌, ◌≢◌, ℕ, zero, suc, ◌+◌, ◌*◌, ◌<◌, ◌≤◌, List, [], ◌∷◌, take, length, Bool, true, false, refl, sym, ap, ◌∙◌, subst, arith, ℤ}
use Rattle.us_code.specs.declared.program.Dim.{Dim}
use Rattle.us_code.specs.declared.program.Dim.TheVariants as dim
use Rattle.us_code.specs.Plain.{LineTree, Of}
use Rattle.us_code.specs.Run.{Env, State, size_of}
use Rattle.us_code.specs.Runs.{World, Ran, line_all}
use Rattle.us_code_laws.proofs.Sequence.{put_same, put_other}
use Rattle.us_format.specs.declared.Kind.{Kind}
use Rattle.us_format.specs.declared.Kind.TheVariants.{Full, Compressed, Listed, Slot}
use Rattle.us_format.specs.Kinds.{Level}
use Rattle.us_format.specs.Lists.{head}
use Rattle.us_format.specs.Positions.{Row, count_below, down}
use Rattle.us_format.specs.Reading.{limit}
use Rattle.us_format_loops.specs.Nodes.{is_slot, are_slots, has_nodes}
use Rattle.us_running.specs.Running.{less_one}
use Rattle.us_gen.specs.Goes.{Keeps, Leads, lined}
use Rattle.us_gen.proofs.Going.{keeps_both, leads_none, leads_weaker, line_leads, product_leads, successor_leads}
use Rattle.us_gen_build.specs.Levels.{one_more}
use Rattle.us_gen_build.proofs.Terms.{step_up}
use Rattle.us_code_laws.proofs.Sound.{and_left, and_right}
use Rattle.us_gen_build_laws.specs.Rows.{row}
use Rattle.us_gen_build_laws.specs.Ready.{IsReady, AreReady}
use Rattle.us_gen_build_laws.specs.Numbering.{Ranked, Suits, Taken}
use Rattle.us_gen_build_laws.proofs.Levels.{positions-here}
use Rattle.us_build_loops.specs.Finished.{AllCounted}
use Rattle.us_gen_building.specs.declared.part.PartLevel.{PartLevel}
use Rattle.us_gen_building.specs.declared.part.Descent.{Descent}
use Rattle.us_gen_building.specs.Levels.{are_last, positions, starts, deeper, raised, group_at, group_count, counted_levels, start_line, level_lines, dim_lines}
use Rattle.us_gen_building.specs.Runs.{levels_of, FollowsWell, AreOrderly, IsBelow, AllBelow, IsSmall, AreSmall, HaveDims}
use Rattle.us_gen_building.proofs.Standing.{slots_same, length_down}

-- ---- runs with looser bounds

pub leads_looser : (low lower m n : ℕ) (w : World) (r : Ran) (Q : World → Type 0) → lower ≤ low → m ≤ n → Leads low m w r Q → Leads lower n w r Q
leads_looser low lower m n w r Q le few x = record {
  end = x.end;
  arrives = record {
    is = x.arrives.is;
    steps = omega (arith, x.arrives.steps, few);
    keeps = record { sources = x.arrives.keeps.sources; dims = λ d h. x.arrives.keeps.dims d (omega (arith, h, le)); factors = λ d h. x.arrives.keeps.factors d (omega (arith, h, le)); bufs = λ b h. x.arrives.keeps.bufs b (omega (arith, h, le)) };
  };
  post = x.post;
}

-- ---- dims that stay

pub size_kept : (low : ℕ) (w u : World) (d : Dim) → Keeps low w u → IsBelow low d → size_of u.env d ≡ size_of w.env d
size_kept low w u (dim.Number n) k b = refl
size_kept low w u (dim.Name d) k b = k.dims d b
size_kept low w u (dim.Len s) k b = ap (λ (f : ℕ → List ℤ). length (f s)) k.sources

pub below_up : (low high : ℕ) (d : Dim) → low ≤ high → IsBelow low d → IsBelow high d
below_up low high (dim.Number n) le b = tt
below_up low high (dim.Name d) le b = omega (arith, b, le)
below_up low high (dim.Len s) le b = tt

pub all_below_up : (low high : ℕ) (ls : List PartLevel) → low ≤ high → AllBelow low ls → AllBelow high ls
all_below_up low high [] le b = tt
all_below_up low high (l ∷ ls) le b = (below_up low high l.size le b.0, all_below_up low high ls le b.1)

-- the sizes of levels are the same in two worlds
abbrev pub SameSizes : Env → Env → List PartLevel → Type 0
SameSizes z env [] = Unit {0}
SameSizes z env (l ∷ ls) = (size_of env l.size ≡ size_of z l.size) × SameSizes z env ls

pub sizes_kept : (low : ℕ) (z : Env) (w u : World) (ls : List PartLevel) → Keeps low w u → AllBelow low ls → SameSizes z w.env ls → SameSizes z u.env ls
sizes_kept low z w u [] k b s = tt
sizes_kept low z w u (l ∷ ls) k b s = (size_kept low w u l.size k b.0 ∙ s.0, sizes_kept low z w u ls k b.1 s.1)

pub sizes_self : (z : Env) (ls : List PartLevel) → SameSizes z z ls
sizes_self z [] = tt
sizes_self z (l ∷ ls) = (refl, sizes_self z ls)

pub levels_same : (z env : Env) (ls : List PartLevel) → SameSizes z env ls → levels_of env ls ≡ levels_of z ls
levels_same z env [] s = refl
levels_same z env (l ∷ ls) s =
    ap (λ (n : ℕ). record { kind = l.kind; size = n } ∷ levels_of env ls) s.0 ∙ ap (λ (ks : List Level). record { kind = l.kind; size = size_of z l.size } ∷ ks) (levels_same z env ls s.1)

lined_keeps : (low d n f : ℕ) (w : World) → low ≤ d → Keeps low w (lined d n f w)
lined_keeps low d n f w le = record {
  sources = refl;
  dims = λ x h. put_other w.env.dims d _ x (λ e. omega (arith, e, h, le));
  factors = λ x h. put_other w.env.factors d _ x (λ e. omega (arith, e, h, le));
  bufs = λ b h. refl;
}

-- ---- registers of counted levels

-- one less than the number of positions stands in the register of a level whose nodes were counted
abbrev pub NodeIs : Kind → Bool → (ℕ → ℤ) → ℕ → ℕ → Type 0
NodeIs Full last regs r m = Unit {0}
NodeIs Compressed true regs r m = Unit {0}
NodeIs Compressed false regs r m = regs r ≡ less_one m
NodeIs Listed last regs r m = Unit {0}
NodeIs Slot last regs r m = Unit {0}

abbrev pub NodesAre : (ℕ → ℤ) → Env → List PartLevel → ℕ → ℕ → List Row → Type 0
NodesAre regs z [] first n rows = Unit {0}
NodesAre regs z (l ∷ ls) first n rows =
    NodeIs l.kind (are_last ls) regs (first + 1) (count_below l.kind (size_of z l.size) n rows)
    × NodesAre regs z ls (first + 4) (count_below l.kind (size_of z l.size) n rows) (down l.kind (size_of z l.size) rows)

slot_node : (k : Kind) (last : Bool) (regs : ℕ → ℤ) (r m : ℕ) → is_slot k ≡ true → NodeIs k last regs r m
slot_node Full last regs r m e = tt
slot_node Compressed last regs r m e = absurd cc
slot_node Listed last regs r m e = tt
slot_node Slot last regs r m e = tt

slots_nodes : (regs : ℕ → ℤ) (z : Env) (ls : List PartLevel) (first n : ℕ) (rows : List Row) → are_last ls ≡ true → NodesAre regs z ls first n rows
slots_nodes regs z [] first n rows e = tt
slots_nodes regs z (l ∷ ls) first n rows e = (
  slot_node l.kind (are_last ls) regs (first + 1) _ (and_left (is_slot l.kind) (are_last ls) e),
  slots_nodes regs z ls (first + 4) (count_below l.kind (size_of z l.size) n rows) (down l.kind (size_of z l.size) rows) (and_right (is_slot l.kind) (are_last ls) e),
)

module _ (z : Env) (u : State) where
  -- what the first g levels behind a level tell
  abbrev NodesBehind : ℕ → PartLevel → List PartLevel → ℕ → ℕ → ℕ → List Row → Type 0
  NodesBehind g l ls first r n rows =
      AllCounted (counted_levels (take g ls) (first + 4) (r + 1)) (levels_of z ls) (count_below l.kind (size_of z l.size) n rows) (down l.kind (size_of z l.size) rows) u
      → NodesAre u.regs z ls (first + 4) (count_below l.kind (size_of z l.size) n rows) (down l.kind (size_of z l.size) rows)

  full_nodes : (size : Dim) (col : ℕ) (ls : List PartLevel) (g first r n : ℕ) (rows : List Row) → NodesBehind g record { kind = Full; size = size; column = col } ls first r n rows
      → AllCounted (counted_levels (take (raised g) (record { kind = Full; size = size; column = col } ∷ ls)) first r) (levels_of z (record { kind = Full; size = size; column = col } ∷ ls)) n rows u
      → NodesAre u.regs z ls (first + 4) (count_below Full (size_of z size) n rows) (down Full (size_of z size) rows)
  full_nodes size col ls zero first r n rows behind c = behind tt
  full_nodes size col ls (suc g) first r n rows behind c = behind c.1

  level_nodes : (k : Kind) (last : Bool) (size : Dim) (col : ℕ) (ls : List PartLevel) (g first r n : ℕ) (rows : List Row) → are_last ls ≡ last → FollowsWell k last
      → NodesBehind g record { kind = k; size = size; column = col } ls first r n rows
      → AllCounted (counted_levels (take (group_at k last g) (record { kind = k; size = size; column = col } ∷ ls)) first r) (levels_of z (record { kind = k; size = size; column = col } ∷ ls)) n rows u
      → NodeIs k last u.regs (first + 1) (count_below k (size_of z size) n rows) × NodesAre u.regs z ls (first + 4) (count_below k (size_of z size) n rows) (down k (size_of z size) rows)
  level_nodes Full last size col ls g first r n rows e f behind c = (tt, full_nodes size col ls g first r n rows behind c)
  level_nodes Compressed true size col ls g first r n rows e f behind c = (tt, slots_nodes u.regs z ls (first + 4) _ _ e)
  level_nodes Compressed false size col ls g first r n rows e f behind c = (c.0 refl, behind c.1)
  level_nodes Listed last size col ls g first r n rows e f behind c = (tt, slots_nodes u.regs z ls (first + 4) _ _ (e ∙ f))
  level_nodes Slot last size col ls g first r n rows e f behind c = (tt, slots_nodes u.regs z ls (first + 4) _ _ (e ∙ f))

  pub nodes_are : (ls : List PartLevel) (first r n : ℕ) (rows : List Row) → AreOrderly ls → AllCounted (counted_levels (take (group_count ls) ls) first r) (levels_of z ls) n rows u → NodesAre u.regs z ls first n rows
  nodes_are [] first r n rows o c = tt
  nodes_are (l ∷ ls) first r n rows o c =
      level_nodes l.kind (are_last ls) l.size l.column ls (group_count ls) first r n rows refl o.0
      (λ d. nodes_are ls (first + 4) (r + 1) (count_below l.kind (size_of z l.size) n rows) (down l.kind (size_of z l.size) rows) o.1 d)
      c

-- ---- the lines

-- where a level numbers its positions by rank, there are as many as rows
ranked_number : (l : Level) (behind : List Level) (n : ℕ) (rows : List Row) → IsReady l behind n rows → (k : Kind) → l.kind ≡ k → (k ≡ Compressed → are_slots behind ≡ true) → has_nodes k ≡ true → length rows ≡ count_below l.kind l.size n rows
ranked_number l behind n rows ready Full e s h = absurd cc
ranked_number l behind n rows ready Compressed e s h =
    let t : Taken = record { numbering = Ranked; coordinate = λ x. head (row rows x).rest } in
    (positions-here t l behind n rows (λ x. (row rows x).at) ready record { suits = subst (Suits Ranked) (sym e) tt; coordinates = λ x h. refl; last = λ a b. s refl } (λ x h. refl)).ranked refl
ranked_number l behind n rows ready Listed e s h =
    let t : Taken = record { numbering = Ranked; coordinate = λ x. head (row rows x).rest } in
    (positions-here t l behind n rows (λ x. (row rows x).at) ready record { suits = subst (Suits Ranked) (sym e) tt; coordinates = λ x h. refl; last = λ a b. absurd (kinds_apart (sym e ∙ b)) } (λ x h. refl)).ranked refl
  where
    kinds_apart : Listed ≡ Compressed → ⊥
    kinds_apart q = cc
ranked_number l behind n rows ready Slot e s h = absurd cc

small_now : (ls : List Level) (n : ℕ) (rows : List Row) → AreSmall ls n rows → n ≤ limit
small_now [] n rows s = s
small_now (l ∷ ls) n rows s = s.0.number

module _ (z : Env) (count : ℕ) (regs : ℕ → ℤ) where
  -- in front of the lines of levels
  pub record Stage (ls : List PartLevel) (x : Descent) (n : ℕ) (rows : List Row) (w : World) : Type 0 where
    pub above : size_of w.env x.above ≡ n
    pub above_low : IsBelow x.dims x.above
    pub entries : w.env.dims count ≡ length rows
    pub count_low : count < x.dims
    pub sizes : SameSizes z w.env ls
    pub named : AllBelow x.dims ls
    pub ready : AreReady (levels_of z ls) n rows
    pub small : AreSmall (levels_of z ls) n rows
    pub nodes : NodesAre regs z ls x.first n rows
    pub top : x.is_top ≡ true → n ≡ 1

  abbrev pub Tells : List PartLevel → Descent → ℕ → List Row → World → Type 0
  Tells ls x n rows u = HaveDims u.env count ls (levels_of z ls) x.is_top x.above x.dims n rows

  -- one level, behind which only slot levels follow where `last` says so
  module _ (k : Kind) (last : Bool) (size : Dim) (ls : List PartLevel) (x : Descent) (n : ℕ) (rows : List Row) where
    abbrev below : ℕ
    below = count_below k (size_of z size) n rows

    abbrev under : List Row
    under = down k (size_of z size) rows

    abbrev name : Dim
    name = positions k last count x.above (x.dims + 1)

    abbrev next : Descent
    next = deeper count record { kind = k; size = size; column = 0 } last x

    record Here (w : World) : Type 0 where
      above : size_of w.env x.above ≡ n
      above_low : IsBelow x.dims x.above
      entries : w.env.dims count ≡ length rows
      count_low : count < x.dims
      size_same : size_of w.env size ≡ size_of z size
      size_low : IsBelow x.dims size
      sizes : SameSizes z w.env ls
      named : AllBelow x.dims ls
      level_ready : IsReady record { kind = k; size = size_of z size } (levels_of z ls) n rows
      ready : AreReady (levels_of z ls) below under
      level_small : IsSmall record { kind = k; size = size_of z size } n
      small : AreSmall (levels_of z ls) below under
      node : NodeIs k last regs (x.first + 1) below
      nodes : NodesAre regs z ls (x.first + 4) below under
      top : x.is_top ≡ true → n ≡ 1
      lasts : last ≡ true → are_slots (levels_of z ls) ≡ true

    -- what the lines behind the level do
    abbrev Rest : Type 0
    Rest = (w : World) → Stage ls next below under w → Leads (x.dims + 2) (2 * length ls) w (line_all regs (dim_lines count ls next) w) (Tells ls next below under)

    abbrev Told : World → Type 0
    Told u = (size_of u.env x.above ≡ n) × (has_nodes k ≡ true → size_of u.env (starts x.is_top x.dims) ≡ n + 1) × HaveDims u.env count ls (levels_of z ls) false name (x.dims + 2) below under

    -- a world in which the level's dims are right
    record IsRight (w v : World) : Type 0 where
      keeps : Keeps x.dims w v
      number : size_of v.env name ≡ below
      low : IsBelow (x.dims + 2) name
      starts_are : has_nodes k ≡ true → size_of v.env (starts x.is_top x.dims) ≡ n + 1
      starts_low : has_nodes k ≡ true → IsBelow (x.dims + 1) (starts x.is_top x.dims)

    go_on : (w v : World) → Here w → Rest → IsRight w v → Leads x.dims (2 * length ls) v (line_all regs (dim_lines count ls next) v) Told
    go_on w v s rest i =
        let r : Ran = line_all regs (dim_lines count ls next) v in
        leads_looser (x.dims + 2) x.dims (2 * length ls) (2 * length ls) v r Told (omega arith) (omega arith)
        (leads_weaker (x.dims + 2) (2 * length ls) v r (Tells ls next below under) Told
        (λ u d q. (
          size_kept (x.dims + 2) v u x.above q (below_up x.dims (x.dims + 2) x.above (omega arith) s.above_low) ∙ (size_kept x.dims w v x.above i.keeps s.above_low ∙ s.above),
          (λ h. size_kept (x.dims + 2) v u (starts x.is_top x.dims) q (below_up (x.dims + 1) (x.dims + 2) (starts x.is_top x.dims) (omega arith) (i.starts_low h)) ∙ i.starts_are h),
          d,
        ))
        (rest v record {
          above = i.number;
          above_low = i.low;
          entries = i.keeps.dims count s.count_low ∙ (s.entries ∙ sym (length_down k (size_of z size) rows));
          count_low = omega (arith, s.count_low);
          sizes = sizes_kept x.dims z w v ls i.keeps s.named s.sizes;
          named = all_below_up x.dims (x.dims + 2) ls (omega arith) s.named;
          ready = s.ready;
          small = s.small;
          nodes = s.nodes;
          top = λ e. absurd cc;
        }))

    -- behind the line of one more than the positions above
    record Started (w v : World) : Type 0 where
      keeps : Keeps x.dims w v
      free : (d : ℕ) → d ≢ x.dims → v.env.dims d ≡ w.env.dims d
      starts_are : size_of v.env (starts x.is_top x.dims) ≡ n + 1
      starts_low : IsBelow (x.dims + 1) (starts x.is_top x.dims)

    start_leads : (top : Bool) (lines : List LineTree) (cost : ℕ) (w : World) (Q : World → Type 0) → x.is_top ≡ top → Here w → n + 1 ≤ limit → ((v : World) → Started w v → Leads x.dims cost v (line_all regs lines v) Q)
        → Leads x.dims (cost + 1) w (line_all regs (start_line top x lines) w) Q
    start_leads true lines cost w Q e s small go =
        leads_looser x.dims x.dims cost (cost + 1) w (line_all regs lines w) Q (omega arith) (omega arith)
        (go w record {
          keeps = record { sources = refl; dims = λ d h. refl; factors = λ d h. refl; bufs = λ b h. refl };
          free = λ d h. refl;
          starts_are = ap (λ (b : Bool). size_of w.env (starts b x.dims)) e ∙ omega (arith, s.top e);
          starts_low = subst (λ (b : Bool). IsBelow (x.dims + 1) (starts b x.dims)) (sym e) tt;
        })
    start_leads false lines cost w Q e s small go =
        let v : World = lined x.dims (size_of w.env x.above + 1) 0 w in
        successor_leads x.dims cost regs x.dims x.above lines w Q (omega arith) (omega (arith, s.above, small))
        (go v record {
          keeps = lined_keeps x.dims x.dims (size_of w.env x.above + 1) 0 w (omega arith);
          free = λ d h. put_other w.env.dims x.dims _ d (λ q. h (sym q));
          starts_are = ap (λ (b : Bool). size_of v.env (starts b x.dims)) e ∙ (put_same w.env.dims x.dims _ ∙ ap (λ (y : ℕ). y + 1) s.above);
          starts_low = subst (λ (b : Bool). IsBelow (x.dims + 1) (starts b x.dims)) (sym e) (omega arith);
        })

  abbrev Level_leads : Kind → Bool → Dim → List PartLevel → Descent → ℕ → List Row → World → Type 0
  Level_leads k last size ls x n rows w =
      Here k last size ls x n rows w → Rest k last size ls x n rows
      → Leads x.dims (2 * length ls + 2) w (line_all regs (level_lines k last size x (dim_lines count ls (next k last size ls x n rows))) w) (Told k last size ls x n rows)

  -- a level whose positions are the ranks of the entries
  ranked_leads : (k : Kind) (last : Bool) (size : Dim) (ls : List PartLevel) (x : Descent) (n : ℕ) (rows : List Row) (w : World) → has_nodes k ≡ true → positions k last count x.above (x.dims + 1) ≡ dim.Name count
      → length rows ≡ count_below k (size_of z size) n rows → Here k last size ls x n rows w → Rest k last size ls x n rows
      → Leads x.dims (2 * length ls + 2) w (line_all regs (start_line x.is_top x (dim_lines count ls (next k last size ls x n rows))) w) (Told k last size ls x n rows)
  ranked_leads k last size ls x n rows w h p e s rest =
      leads_looser x.dims x.dims (2 * length ls + 1) (2 * length ls + 2) w _ (Told k last size ls x n rows) (omega arith) (omega arith)
      (start_leads k last size ls x n rows x.is_top (dim_lines count ls (next k last size ls x n rows)) (2 * length ls) w (Told k last size ls x n rows) refl s (s.level_small.starts h)
      (λ v g. go_on k last size ls x n rows w v s rest record {
        keeps = g.keeps;
        number = ap (λ (d : Dim). size_of v.env d) p ∙ (g.keeps.dims count s.count_low ∙ (s.entries ∙ e));
        low = subst (λ (d : Dim). IsBelow (x.dims + 2) d) (sym p) (omega (arith, s.count_low));
        starts_are = λ q. g.starts_are;
        starts_low = λ q. g.starts_low;
      }))

  level_leads : (k : Kind) (last : Bool) (size : Dim) (ls : List PartLevel) (x : Descent) (n : ℕ) (rows : List Row) (w : World) → Level_leads k last size ls x n rows w
  level_leads Full last size ls x n rows w s rest =
      let v : World = lined (x.dims + 1) (size_of w.env x.above * size_of w.env size) (size_of w.env size) w in
      let is : size_of w.env x.above * size_of w.env size ≡ n * size_of z size = ap (λ (y : ℕ). y * size_of w.env size) s.above ∙ ap (λ (y : ℕ). n * y) s.size_same in
      leads_looser x.dims x.dims (2 * length ls + 1) (2 * length ls + 2) w _ (Told Full last size ls x n rows) (omega arith) (omega arith)
      (product_leads x.dims (2 * length ls) regs (x.dims + 1) x.above size (dim_lines count ls (next Full last size ls x n rows)) w (Told Full last size ls x n rows) (omega arith)
      (omega (arith, is, small_now (levels_of z ls) (n * size_of z size) (down Full (size_of z size) rows) s.small))
      (go_on Full last size ls x n rows w v s rest record {
        keeps = lined_keeps x.dims (x.dims + 1) (size_of w.env x.above * size_of w.env size) (size_of w.env size) w (omega arith);
        number = put_same w.env.dims (x.dims + 1) _ ∙ is;
        low = omega arith;
        starts_are = λ q. absurd cc;
        starts_low = λ q. absurd cc;
      }))
  level_leads Compressed true size ls x n rows w s rest =
      ranked_leads Compressed true size ls x n rows w refl refl (ranked_number record { kind = Compressed; size = size_of z size } (levels_of z ls) n rows s.level_ready Compressed refl (λ q. s.lasts refl) refl) s rest
  level_leads Compressed false size ls x n rows w s rest =
      let m : ℕ = count_below Compressed (size_of z size) n rows in
      let le : m ≤ limit = small_now (levels_of z ls) m (down Compressed (size_of z size) rows) s.small in
      leads_looser x.dims x.dims (2 * length ls + 1 + 1) (2 * length ls + 2) w _ (Told Compressed false size ls x n rows) (omega arith) (omega arith)
      (start_leads Compressed false size ls x n rows x.is_top (Of (x.dims + 1) (one_more (x.first + 1)) ∷ dim_lines count ls (next Compressed false size ls x n rows)) (2 * length ls + 1) w (Told Compressed false size ls x n rows) refl s (s.level_small.starts refl)
      (λ v g.
      let u : World = lined (x.dims + 1) m 0 v in
      line_leads x.dims (2 * length ls) regs (x.dims + 1) m (one_more (x.first + 1)) (dim_lines count ls (next Compressed false size ls x n rows)) v (Told Compressed false size ls x n rows) (omega arith)
      (step_up (regs (x.first + 1)) m s.node (omega (arith, le))) (omega (arith, le))
      (go_on Compressed false size ls x n rows w u s rest record {
        keeps = keeps_both x.dims x.dims w v u (omega arith) g.keeps (lined_keeps x.dims (x.dims + 1) m 0 v (omega arith));
        number = put_same v.env.dims (x.dims + 1) _;
        low = omega arith;
        starts_are = λ q. size_kept (x.dims + 1) v u (starts x.is_top x.dims) (lined_keeps (x.dims + 1) (x.dims + 1) m 0 v (omega arith)) g.starts_low ∙ g.starts_are;
        starts_low = λ q. g.starts_low;
      })))
  level_leads Listed last size ls x n rows w s rest =
      ranked_leads Listed last size ls x n rows w refl refl (ranked_number record { kind = Listed; size = size_of z size } (levels_of z ls) n rows s.level_ready Listed refl (λ q. absurd cc) refl) s rest
  level_leads Slot last size ls x n rows w s rest =
      leads_looser x.dims x.dims (2 * length ls) (2 * length ls + 2) w _ (Told Slot last size ls x n rows) (omega arith) (omega arith)
      (go_on Slot last size ls x n rows w w s rest record {
        keeps = record { sources = refl; dims = λ d h. refl; factors = λ d h. refl; bufs = λ b h. refl };
        number = s.above;
        low = below_up x.dims (x.dims + 2) x.above (omega arith) s.above_low;
        starts_are = λ q. absurd cc;
        starts_low = λ q. absurd cc;
      })

  pub lines_lead : (ls : List PartLevel) (x : Descent) (n : ℕ) (rows : List Row) (w : World) → Stage ls x n rows w → Leads x.dims (2 * length ls) w (line_all regs (dim_lines count ls x) w) (Tells ls x n rows)
  lines_lead [] x n rows w s = leads_none x.dims w (Tells [] x n rows) s.above
  lines_lead (l ∷ ls) x n rows w s =
      leads_looser x.dims x.dims (2 * length ls + 2) (2 * length (l ∷ ls)) w (line_all regs (dim_lines count (l ∷ ls) x) w) (Tells (l ∷ ls) x n rows) (omega arith) (omega arith)
      (level_leads l.kind (are_last ls) l.size ls x n rows w record {
        above = s.above;
        above_low = s.above_low;
        entries = s.entries;
        count_low = s.count_low;
        size_same = s.sizes.0;
        size_low = s.named.0;
        sizes = s.sizes.1;
        named = s.named.1;
        level_ready = s.ready.0;
        ready = s.ready.1;
        level_small = s.small.0;
        small = s.small.1;
        node = s.nodes.0;
        nodes = s.nodes.1;
        top = s.top;
        lasts = λ e. slots_same z ls ∙ e;
      }
      (λ v t. lines_lead ls (deeper count l (are_last ls) x) (count_below l.kind (size_of z l.size) n rows) (down l.kind (size_of z l.size) rows) v t))
