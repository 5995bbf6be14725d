-- The first phase orders the entries and counts the positions.
use Rattle.std.specs.List.Sorted.{IsPermutation}
use Rattle.std.proofs.Common.{◌≡◌, ◌≢◌, ℕ, zero, suc, ◌+◌, ◌*◌, ◌<◌, ◌≤◌, List, [], ◌∷◌, map, take, length, true, nat_eq, refl, sym, ap, ◌∙◌, subst, arith, ℤ, pos, Option, Some, None}
use Rattle.std.proofs.Math.Nat.{mul-le-mul_left}
use Rattle.std.proofs.lemmas.Bool.Decides.{nat_tests}
use Rattle.std.proofs.lemmas.List.{length-map, length-replicate}
use Rattle.us_code.specs.declared.program.Dim.TheVariants as dim
use Rattle.us_code.specs.Run.{Env, State, all_long}
use Rattle.us_code.specs.Runs.{World, make_all, begin, line_all}
use Rattle.us_code_laws.specs.Does.{Does}
use Rattle.us_code_laws.proofs.Does.{do_end, do_weaker, do_append}
use Rattle.us_code_laws.proofs.Sequence.{put_same}
use Rattle.us_code_laws.proofs.Sound.{both_true}
use Rattle.us_format.specs.declared.Kind.{Kind}
use Rattle.us_format.specs.declared.Kind.TheVariants.{Full, Compressed, Listed, Slot}
use Rattle.us_format.specs.Kinds.{Level}
use Rattle.us_format.specs.Matrix.{Shape, Entry}
use Rattle.us_format.specs.Declaration.{Part}
use Rattle.us_format.specs.Positions.{Row, rows_of}
use Rattle.us_format.specs.Reading.{limit}
use Rattle.us_format_loops.specs.Laws.{levels_on}
use Rattle.us_gen.specs.Goes.{Keeps, Leads, after, made}
use Rattle.us_gen.proofs.Going.{leads_none, leads_weaker, new_leads, Body, phase_leads}
use Rattle.us_gen_build.specs.Levels.{LevelTree}
use Rattle.us_gen_build.specs.Turns.{Turns, names_end, costs}
use Rattle.us_gen_build.specs.Loops.{levels_from, turned, Picks, Columns, at_top, LoopNeeds, Zero, AllZero}
use Rattle.us_gen_build.specs.Blocks.{close_cost, close_costs}
use Rattle.us_gen_build.specs.Orders.{order_block}
use Rattle.us_gen_build.proofs.LoopRun.{columns_stay, picks_stay, entry_low, entry_high}
use Rattle.us_gen_build.proofs.Closing.{blocks_build}
use Rattle.us_gen_build.proofs.Ordering.{orders_sort}
use Rattle.us_gen_build_laws.specs.Rows.{row}
use Rattle.us_gen_build_laws.specs.Ready.{AreReady, AreSorted}
use Rattle.us_gen_build_laws.specs.Numbering.{AreAt}
use Rattle.us_gen_build_laws.proofs.Part.{sorted-ready, at-top}
use Rattle.us_build_loops.specs.Standing.{AllStand}
use Rattle.us_build_loops.specs.Finished.{AllCounted}
use Rattle.us_build_loops.specs.Orders.{AreEnough, place_of, in_order, AreInOrder}
use Rattle.us_build_loops.specs.Laws.{TakeRows}
use Rattle.us_build_loops.proofs.AllLevels.{all-need, all-close, positions-counted, loop-cost}
use Rattle.us_build_loops.proofs.Orders.{orders-sort}
use Rattle.us_gen_building.specs.declared.part.PartLevel.{PartLevel}
use Rattle.us_gen_building.specs.declared.part.PartLoops.{PartLoops}
use Rattle.us_gen_building.specs.Levels.{columns, group_count, counting_role, counted_level, counted_levels, dim_lines}
use Rattle.us_gen_building.specs.Phases.{order_of, first_column, counted_from, dims_from, places, order_makes, order_code, count_code, groups, counting_top, counting_phase}
use Rattle.us_gen_building.specs.Runs.{levels_of, AreSmall, HaveDims, HoldRows, AreLoopsOf, IsOrder, IsBuildable, IsCounted, CountingCounts}
use Rattle.us_gen_building.proofs.Registers.{turns_of, loads_hold, hold_nil, ReadRows, rows_read, keys_front}
use Rattle.us_gen_building.proofs.Standing.{length_levels, counted_stand}
use Rattle.us_gen_building.proofs.Lines.{leads_looser, all_below_up, sizes_self, nodes_are, lines_lead}
use Rattle.us_gen_building.proofs.Keeping.{small_shuffled, columns_higher, columns_front, columns_take, keys_stay, picks_higher, loops_kept, hold_kept}

-- ---- the order

-- rows in the order of turns, and a code that leaves it in buffer f
record Orders (x : PartLoops) (f : ℕ) (s : Shape) (p : Part) (m : List Entry) (rows : List Row) (u : World) : Type 0 where
  turns : List Row
  place : ℕ → ℕ
  shuffled : IsPermutation (rows_of m s p) turns
  sorted : AreSorted (levels_on s p m) turns
  number : length turns ≡ length rows
  within : (y : ℕ) → y < length rows → place y < length rows
  turn : (y : ℕ) → y < length rows → row turns y ≡ row rows (place y)
  does : Does u.env (order_code x.keys x.levels.items f) (begin u) (λ v. Picks (order_of x.keys f) (f + 1) (length rows) v.bufs place × ((b : ℕ) → f ≢ b → v.bufs b ≡ u.bufs b) × (v.steps ≤ u.steps + (length rows * length x.levels.items + 1)))

keys_long : (low n : ℕ) (bufs : ℕ → List ℤ) (cs : List ℕ) → Columns low n bufs cs → all_long n (map bufs cs) ≡ true
keys_long low n bufs [] c = refl
keys_long low n bufs (b ∷ bs) c = both_true _ _ (same_nat (length (bufs b)) n c.1) (keys_long low n bufs bs c.2)
  where
    same_nat : (a k : ℕ) → a ≡ k → nat_eq a k ≡ true
    same_nat a k e = grind (arith, nat_tests)

-- an order's buffer has a cell for each entry
abbrev IsMade : Option ℕ → ℕ → ℕ → World → Type 0
IsMade None f n u = Unit {0}
IsMade (Some k) f n u = length (u.bufs f) ≡ n

take_few : {A : Type 0} (k : ℕ) (xs : List A) → length (take k xs) ≤ length xs
take_few zero xs = omega arith
take_few (suc k) [] = omega arith
take_few (suc k) (x ∷ xs) = omega (arith, take_few k xs)

length_take : {A : Type 0} (k : ℕ) (xs : List A) → k ≤ length xs → length (take k xs) ≡ k
length_take zero xs h = refl
length_take (suc k) [] h = absurd (omega (arith, h))
length_take (suc k) (x ∷ xs) h = ap (λ (n : ℕ). suc n) (length_take k xs (omega (arith, h)))

pub enough_keys : (k n : ℕ) (ls : List Level) → k ≡ n → AreEnough k ls → AreEnough n ls
enough_keys k n ls e h = subst (λ (c : ℕ). AreEnough c ls) e h

order_gives : (x : PartLoops) (f : ℕ) (s : Shape) (p : Part) (m : List Entry) (rows : List Row) (u : World) (keys : Option ℕ) → AreLoopsOf x f s p m rows u → HoldRows x f rows u → x.keys ≡ keys → IsOrder keys (levels_on s p m) rows → IsMade keys f (length rows) u
    → Orders x f s p m rows u
order_gives x f s p m rows u None l h e o i = record {
  turns = rows;
  place = λ y. y;
  shuffled = l.shuffled;
  sorted = o;
  number = refl;
  within = λ y lt. lt;
  turn = λ y lt. refl;
  does =
      subst (λ (keys : Option ℕ). Does u.env (order_code keys x.levels.items f) (begin u) (λ v. Picks (order_of keys f) (f + 1) (length rows) v.bufs (λ y. y) × ((b : ℕ) → f ≢ b → v.bufs b ≡ u.bufs b) × (v.steps ≤ u.steps + (length rows * length x.levels.items + 1)))) (sym e)
      (do_end u.env (begin u) _ ((λ y lt. refl), (λ b ne. refl), omega arith));
}
order_gives x f s p m rows u (Some k) l h e o i =
    let n : ℕ = length rows in
    let front : List PartLevel = take k x.levels.items in
    let cs : List ℕ = columns front in
    let keys : List (List ℤ) = map u.bufs cs in
    let long : Columns f n u.bufs cs = columns_take f n u.bufs x.levels.items k (columns_front f n u.bufs (columns x.levels.items) (x.values ∷ []) h.long) in
    let levels : length (levels_on s p m) ≡ length x.levels.items = sym (ap (λ (ls : List Level). length ls) l.levels) ∙ length_levels u.env x.levels.items in
    let few : length front ≡ k = length_take k x.levels.items (omega (arith, o.0, levels)) in
    let number : length cs ≡ k = length-map front (λ c. c.column) ∙ few in
    let number_of_keys : length keys ≡ k = length-map cs u.bufs ∙ number in
    let few_keys : length cs ≤ length x.levels.items = omega (arith, number, o.0, levels) in
    let number_steps : n * length cs ≤ n * length x.levels.items = mul-le-mul_left n few_keys in
    let a : AreInOrder s p m keys rows = orders-sort s p m rows keys l.lawful l.matrix l.shuffled (keys_front u.bufs x.levels.items k n (λ y. (row rows y).rest) h.coordinates) (enough_keys k (length keys) (levels_on s p m) (sym number_of_keys) o.1) in
    record {
      turns = in_order keys rows;
      place = place_of keys n;
      shuffled = a.permutation;
      sorted = a.sorted;
      number = a.count;
      within = a.within;
      turn = a.turn;
      does =
          subst (λ (keys' : Option ℕ). Does u.env (order_code keys' x.levels.items f) (begin u) (λ v. Picks (order_of keys' f) (f + 1) n v.bufs (place_of keys n) × ((b : ℕ) → f ≢ b → v.bufs b ≡ u.bufs b) × (v.steps ≤ u.steps + (n * length x.levels.items + 1)))) (sym e)
          (do_weaker u.env (order_block f cs) (begin u) _ _
          (λ v d. (
            d.picks (f + 1) (omega arith),
            d.bufs,
            omega (arith, d.steps, number_steps),
          ))
          (orders_sort u.env f n cs (begin u) i (keys_long f n u.bufs cs long)));
    }

-- ---- the loop

counted_zero : (env : Env) (ls : List PartLevel) (first r : ℕ) (v : State) → AllZero env (counted_levels ls first r) v
counted_zero env [] first r v = tt
counted_zero env (l ∷ ls) first r v = (zero l.kind, counted_zero env ls (first + 4) (r + 1) v)
  where
    zero : (k : Kind) → Zero env (counting_role k) (counted_level l first r) v
    zero Full = tt
    zero Compressed = tt
    zero Listed = tt
    zero Slot = tt

counted_closes : (T : Turns) (ls : List PartLevel) (first r : ℕ) → close_costs T (counted_levels ls first r) ≡ 0
counted_closes T [] first r = refl
counted_closes T (l ∷ ls) first r = omega (arith, free l.kind, counted_closes T ls (first + 4) (r + 1))
  where
    free : (k : Kind) → close_cost T (counting_role k) (counted_level l first r) ≡ 0
    free Full = refl
    free Compressed = refl
    free Listed = refl
    free Slot = refl

counted_end : (ls : List PartLevel) (lo first r e : ℕ) → lo ≤ e → first + 4 * length ls ≤ e → names_end lo (counted_levels ls first r) ≤ e
counted_end [] lo first r e h g = h
counted_end (l ∷ ls) lo first r e h g = counted_end ls (first + 4) (first + 4) (r + 1) e (omega (arith, g)) (omega (arith, g))

pub length_counted : (ls : List PartLevel) (first r : ℕ) → length (counted_levels ls first r) ≡ length ls
length_counted [] first r = refl
length_counted (l ∷ ls) first r = ap (λ (n : ℕ). suc n) (length_counted ls (first + 4) (r + 1))

pub stand_lower : (T : Turns) (lo lower : ℕ) (ls : List LevelTree) (ks : List Level) (n : ℕ) (rows : List Row) (at : ℕ → ℕ) → lower ≤ lo → AllStand T lo ls ks n rows at → AllStand T lower ls ks n rows at
stand_lower T lo lower [] ks n rows at le h = tt
stand_lower T lo lower (l ∷ ls) (k ∷ ks) n rows at le h = (omega (arith, le, h.0), h.1, h.2)
stand_lower T lo lower (l ∷ []) [] n rows at le h = (omega (arith, le, h.0), h.1)
stand_lower T lo lower (l ∷ j ∷ ls) [] n rows at le h = absurd h

pub base_high : (order : Option ℕ) (cols : List ℕ) (a : ℕ) → levels_from order cols a ≤ a + 2 + length cols
base_high order cols a = omega (arith, entry_high order a)

pub base_low : (order : Option ℕ) (cols : List ℕ) (a : ℕ) → a < levels_from order cols a
base_low order cols a = omega (arith, entry_low order a)

-- what the loop needs of rows in the order of its turns
record Looping (x : PartLoops) (f : ℕ) (order : Option ℕ) (place : ℕ → ℕ) (n a first end : ℕ) (env : Env) (z : State) : Type 0 where
  count : env.dims x.count ≡ n
  few : n ≤ limit
  picks : Picks order (f + 1) n z.bufs place
  within : (y : ℕ) → y < n → place y < n
  columns : Columns f n z.bufs (columns x.levels.items)
  above : f < a

-- from z to v the nodes of levels were counted
record CountsNodes (gs : List PartLevel) (ks : List Level) (first r : ℕ) (turns : List Row) (f n l : ℕ) (z v : State) : Type 0 where
  counted : AllCounted (counted_levels gs first r) ks 1 turns v
  bufs : (b : ℕ) → b < f + 1 → v.bufs b ≡ z.bufs b
  steps : v.steps ≤ z.steps + (1 + 2 * l + n * (2 + l) + l * (7 * n))

counts_do :
    (x : PartLoops) (f : ℕ) (order : Option ℕ) (place : ℕ → ℕ) (n a first end : ℕ) (env : Env) (z : State) (gs : List PartLevel) (ks : List Level) (turns : List Row) → Looping x f order place n a first end env z
    → Columns f n z.bufs (columns gs) → length gs ≤ length x.levels.items → a + 2 + length gs ≤ first → first + 4 * length gs ≤ end → length turns ≡ n → AreReady ks 1 turns → AreAt turns at_top
    → AllStand (turns_of env n a order (columns gs) place z) first (counted_levels gs first (first_column order a)) ks 1 turns at_top
    → Does env (count_code x.count order gs a first end) z (CountsNodes gs ks first (first_column order a) turns f n (length x.levels.items) z)
counts_do x f order place n a first end env z [] ks turns w c few low high e ready at stand = do_end env z _ record { counted = none ks; bufs = λ b h. refl; steps = omega arith }
  where
    none : (ks : List Level) → AllCounted [] ks 1 turns z
    none [] = tt
    none (k ∷ ks) = tt
counts_do x f order place n a first end env z (g ∷ gs) ks turns w c few low high e ready at stand =
    let cols : List ℕ = columns (g ∷ gs) in
    let T : Turns = turns_of env n a order cols place z in
    let ls : List LevelTree = counted_levels (g ∷ gs) first (first_column order a) in
    let number : length cols ≡ length (g ∷ gs) = length-map (g ∷ gs) (λ l. l.column) in
    let base : T.base ≤ first = omega (arith, base_high order cols a, number, low) in
    let room : f + 1 ≤ T.base = omega (arith, base_low order cols a, w.above) in
    let stands : AllStand T T.base ls ks 1 turns at_top = stand_lower T first T.base ls ks 1 turns at_top base stand in
    let takes : TakeRows T T.base ls ks 1 turns at_top = record { entries = e; ready = ready; positions = at; stand = stands } in
    let needs : LoopNeeds T (dim.Name x.count) order cols ls place z = record {
      count = sym w.count;
      base = refl;
      held = λ y r h k. refl;
      few = omega (arith, w.few);
      picks = picks_higher order (f + 1) T.base n z.bufs place room w.picks;
      within = w.within;
      columns = columns_higher f T.base n z.bufs cols (omega (arith, room)) c;
      need = all-need T T.base ls ks 1 turns at_top takes;
    } in
    let high_end : names_end T.base ls ≤ end = counted_end (g ∷ gs) T.base first (first_column order a) end (omega (arith, base, high)) high in
    let length_ls : length ls ≡ length (g ∷ gs) = length_counted (g ∷ gs) first (first_column order a) in
    let loop_steps : n * length (g ∷ gs) ≤ n * length x.levels.items = mul-le-mul_left n few in
    do_weaker env _ z _ (CountsNodes (g ∷ gs) ks first (first_column order a) turns f n (length x.levels.items) z)
    (λ v b. record {
      counted = positions-counted T T.base ls ks 1 turns at_top v takes b.built;
      bufs = λ i h. b.bufs i (λ q. absurd (omega (arith, q, h, room)));
      steps = steps v (length ls) (length cols) (costs T ls at_top n) (close_costs T ls) length_ls number (loop-cost T ls at_top n) (counted_closes T (g ∷ gs) first (first_column order a)) loop_steps b.steps;
    })
    (blocks_build T (dim.Name x.count) order cols ls place end z needs (counted_zero env (g ∷ gs) first (first_column order a) z) (all-close T T.base ls ks 1 turns at_top takes) high_end)
  where
    steps : (v : State) (a b cost close : ℕ) → a ≡ length (g ∷ gs) → b ≡ length (g ∷ gs) → cost ≤ a * (7 * n) → close ≡ 0 → n * length (g ∷ gs) ≤ n * length x.levels.items → v.steps ≤ z.steps + 1 + 2 * a + n * (2 + b) + cost + close
        → v.steps ≤ z.steps + (1 + 2 * length x.levels.items + n * (2 + length x.levels.items) + length x.levels.items * (7 * n))
    steps v a b cost close ea eb hc hz hn h =
        let ca : cost ≤ length (g ∷ gs) * (7 * n) = subst (λ (q : ℕ). cost ≤ q * (7 * n)) ea hc in
        let cb : v.steps ≤ z.steps + 1 + 2 * length (g ∷ gs) + n * (2 + length (g ∷ gs)) + cost + close = subst (λ (q : ℕ). v.steps ≤ z.steps + 1 + 2 * length (g ∷ gs) + n * (2 + q) + cost + close) eb (subst (λ (q : ℕ). v.steps ≤ z.steps + 1 + 2 * q + n * (2 + b) + cost + close) ea h) in
        omega (arith, ca, cb, hz, hn, few)

-- ---- the phase

record Made (keys : Option ℕ) (f n : ℕ) (w u : World) : Type 0 where
  env_is : u.env ≡ w.env
  made : IsMade keys f n u

makes_lead : (keys : Option ℕ) (f count n : ℕ) (w : World) → w.env.dims count ≡ n → n ≤ limit → Leads f 1 w (make_all (order_makes keys f count) w) (Made keys f n w)
makes_lead None f count n w e le = leads_looser f f 0 1 w _ (Made None f n w) (omega arith) (omega arith) (leads_none f w (Made None f n w) record { env_is = refl; made = tt })
makes_lead (Some k) f count n w e le =
    new_leads f 0 (places f count) [] w (Made (Some k) f n w) (omega arith) (omega (arith, e, le))
    (leads_none f (made (places f count) w) (Made (Some k) f n w) record { env_is = refl; made = ap (λ (xs : List ℤ). length xs) (put_same w.bufs f _) ∙ (length-replicate (w.env.dims count) (pos 0) ∙ e) })

module _ (x : PartLoops) (f : ℕ) (s : Shape) (p : Part) (m : List Entry) (rows : List Row) (w u : World) (b : IsBuildable x f s p m rows w) (k : Keeps f w u) (o : Orders x f s p m rows u) where
  abbrev L : ℕ
  L = length x.levels.items

  abbrev N : ℕ
  N = length rows

  abbrev order : Option ℕ
  order = order_of x.keys f

  abbrev first : ℕ
  first = counted_from f L

  abbrev r : ℕ
  r = first_column order (f + 1)

  abbrev gs : List PartLevel
  gs = groups x.levels.items

  loops : AreLoopsOf x f s p m rows u
  loops = loops_kept x f s p m rows w u k b.loops

  hold : HoldRows x f rows u
  hold = hold_kept x f rows w u b.loops.count_below k b.hold

  columns_there : Columns f N u.bufs (columns x.levels.items)
  columns_there = columns_front f N u.bufs (columns x.levels.items) (x.values ∷ []) hold.long

  abbrev ks : List Level
  ks = levels_of u.env x.levels.items

  ready : AreReady ks 1 o.turns
  ready = subst (λ (ls : List Level). AreReady ls 1 o.turns) (sym loops.levels) (sorted-ready s p m o.turns loops.lawful loops.matrix o.shuffled o.sorted)

  small : AreSmall ks 1 o.turns
  small = subst (λ (ls : List Level). AreSmall ls 1 o.turns) (sym loops.levels) (small_shuffled (levels_on s p m) 1 (rows_of m s p) o.turns o.shuffled loops.small)

  few_groups : length gs ≤ L
  few_groups = take_few (group_count x.levels.items) x.levels.items

  -- behind the order
  record Ordered (z : State) : Type 0 where
    picks : Picks order (f + 1) N z.bufs o.place
    bufs : (c : ℕ) → f ≢ c → z.bufs c ≡ u.bufs c
    steps : z.steps ≤ u.steps + (N * L + 1)

  module _ (z : State) (d : Ordered z) where
    low : (c : ℕ) → c < f → z.bufs c ≡ u.bufs c
    low c h = d.bufs c (λ e. omega (arith, e, h))

    columns_here : Columns f N z.bufs (columns gs)
    columns_here = columns_take f N z.bufs x.levels.items (group_count x.levels.items) (columns_stay f N u.bufs z.bufs (columns x.levels.items) low columns_there)

    abbrev T : Turns
    T = turns_of u.env N (f + 1) order (columns gs) o.place z

    length_cols : length (columns gs) ≡ length gs
    length_cols = length-map gs (λ l. l.column)

    reads : ReadRows T.held T.base N r gs (λ y. (row o.turns y).rest)
    reads =
        rows_read T.held T.base N z.bufs o.place gs [] r (λ y. (row rows y).rest) (λ y. (row o.turns y).rest) o.within (λ y h. ap (λ (q : Row). q.rest) (o.turn y h)) (omega (arith, length_cols))
        (hold_nil T.held z.bufs o.place r (columns gs) (loads_hold z.bufs o.place (columns gs) r (λ y. turned order z.regs (f + 1) y (o.place y))))
        (keys_front z.bufs x.levels.items (group_count x.levels.items) N (λ y. (row rows y).rest) (keys_stay f N N u.bufs z.bufs (columns x.levels.items) (λ y. (row rows y).rest) columns_there low hold.coordinates))

    stand : AllStand T first (counted_levels gs first r) ks 1 o.turns at_top
    stand = counted_stand T record { coord = λ l y. refl; wide = λ l. refl } x.count x.levels.items first r 1 o.turns at_top (λ y. (row o.turns y).rest) record {
      room = omega (arith, base_high order (columns gs) (f + 1), length_cols, few_groups);
      entries = o.number;
      reads = reads;
      rest_is = λ y h. refl;
      small = small;
    }

    counts : Does u.env (count_code x.count order gs (f + 1) first (dims_from f L)) z (CountsNodes gs ks first r o.turns f N L z)
    counts =
        counts_do x f order o.place N (f + 1) first (dims_from f L) u.env z gs ks o.turns record {
          count = hold.count;
          few = loops.few;
          picks = d.picks;
          within = o.within;
          columns = columns_stay f N u.bufs z.bufs (columns x.levels.items) low columns_there;
          above = omega arith;
        }
        columns_here few_groups (omega (arith, few_groups)) (omega (arith, few_groups)) o.number ready (at-top s p m loops.lawful loops.matrix o.turns o.shuffled) stand

    abbrev cost : ℕ
    cost = N * L + 1 + (1 + 2 * L + N * (2 + L) + L * (7 * N))

    ends : (v : State) → CountsNodes gs ks first r o.turns f N L z v → Body f cost (2 * L) (dim_lines x.count x.levels.items (counting_top x f)) (IsCounted x f s p m rows) u v
    ends v c = record {
      steps = omega (arith, c.steps, d.steps);
      bufs = λ i h. c.bufs i (omega (arith, h)) ∙ low i h;
      then =
          leads_looser (dims_from f L) f (2 * L) (2 * L) (after u v) (line_all v.regs (dim_lines x.count x.levels.items (counting_top x f)) (after u v)) (IsCounted x f s p m rows) (omega arith) (omega arith)
          (leads_weaker (dims_from f L) (2 * L) (after u v) (line_all v.regs (dim_lines x.count x.levels.items (counting_top x f)) (after u v)) _ (IsCounted x f s p m rows)
          (λ e h q.
          let keeps : Keeps f u e = record {
            sources = q.sources;
            dims = λ i g. q.dims i (omega (arith, g));
            factors = λ i g. q.factors i (omega (arith, g));
            bufs = λ i g. q.bufs i (omega (arith, g)) ∙ (c.bufs i (omega (arith, g)) ∙ low i g);
          } in
          record {
            loops = loops_kept x f s p m rows u e keeps loops;
            hold = hold_kept x f rows u e loops.count_below keeps hold;
            turns = o.turns;
            place = o.place;
            shuffled = o.shuffled;
            sorted = o.sorted;
            number = o.number;
            within = o.within;
            turn = o.turn;
            picks = picks_stay order (f + 1) N z.bufs e.bufs o.place (λ i g. q.bufs i (omega (arith, g)) ∙ c.bufs i g) d.picks;
            dims = subst (λ (ls : List Level). HaveDims e.env x.count x.levels.items ls true (dim.Number 1) (dims_from f L) 1 o.turns) loops.levels h;
          })
          (lines_lead u.env x.count v.regs x.levels.items (counting_top x f) 1 o.turns (after u v) record {
            above = refl;
            above_low = tt;
            entries = hold.count ∙ sym o.number;
            count_low = omega (arith, loops.count_below);
            sizes = sizes_self u.env x.levels.items;
            named = all_below_up f (dims_from f L) x.levels.items (omega arith) loops.below;
            ready = ready;
            small = small;
            nodes = nodes_are u.env v x.levels.items first r 1 o.turns b.orderly c.counted;
            top = λ e. refl;
          }));
    }

  body : Does u.env (counting_phase x f).body (begin u) (Body f (N * L + 1 + (1 + 2 * L + N * (2 + L) + L * (7 * N))) (2 * L) (counting_phase x f).lines (IsCounted x f s p m rows) u)
  body =
      do_append u.env (order_code x.keys x.levels.items f) (count_code x.count order gs (f + 1) first (dims_from f L)) (begin u) _
      (do_weaker u.env (order_code x.keys x.levels.items f) (begin u) _ _
      (λ z d.
      let od : Ordered z = record { picks = d.0; bufs = d.1; steps = d.2 } in
      do_weaker u.env (count_code x.count order gs (f + 1) first (dims_from f L)) z _ _ (λ v c. ends z od v c) (counts z od))
      o.does)

pub counting_counts : CountingCounts
counting_counts x f s p m rows w b =
    phase_leads f 1 (length rows * length x.levels.items + 1 + (1 + 2 * length x.levels.items + length rows * (2 + length x.levels.items) + length x.levels.items * (7 * length rows))) (2 * length x.levels.items)
    (counting_phase x f) w (Made x.keys f (length rows) w) (IsCounted x f s p m rows) (makes_lead x.keys f x.count (length rows) w b.hold.count b.loops.few)
    (λ u h k.
    body x f s p m rows w u b k
    (order_gives x f s p m rows u x.keys (loops_kept x f s p m rows w u k b.loops) (hold_kept x f rows w u b.loops.count_below k b.hold) refl b.order h.made))
