-- The columns hold the entries of all parts, part by part and by position.
use Rattle.std.specs.Prelude.{Contains, slice_set}
use Rattle.std.proofs.Common.{◌≡◌, ◌≢◌, ℕ, ◌+◌, ◌<◌, ◌≤◌, true, false, cond, nat_eq, refl, sym, ap, ◌∙◌, subst, arith, List, [], ◌∷◌, map, length, replicate, pos, ℤ, ◌⊎◌, inl, inr}
use Rattle.std.proofs.lemmas.Bool.{cases_eq}
use Rattle.std.proofs.lemmas.Bool.Decides.{nat_tests}
use Rattle.std.proofs.lemmas.List.{length-set, length-replicate, get_or-set_other}
use Rattle.std.proofs.lemmas.Grind.{get_or-set_at}
use Rattle.us_code.specs.declared.program.Dim.TheVariants as dim
use Rattle.us_code.specs.declared.pieces.Columns.{Columns}
use Rattle.us_code.specs.Plain.{Number}
use Rattle.us_code.specs.Run.{Env, State, put, exec, tick, set_reg}
use Rattle.us_code.specs.Runs.{World, phases, make_all, begin}
use Rattle.us_code_laws.specs.Does.{Does}
use Rattle.us_code_laws.proofs.Does.{do_end, do_weaker, do_append, do_var}
use Rattle.us_code_laws.proofs.Sequence.{put_same, put_other}
use Rattle.us_format.specs.Lists.{cell}
use Rattle.us_format.specs.Matrix.{Shape, Entry}
use Rattle.us_format.specs.Reading.{limit}
use Rattle.us_format_loops.specs.Laws.{values_on}
use Rattle.us_gen.specs.Nest.{Same}
use Rattle.us_gen.specs.Goes.{Leads, after, made}
use Rattle.us_gen.specs.Columns.{append, are_apart, Appended}
use Rattle.us_gen.proofs.Appending.{appends}
use Rattle.us_gen.proofs.Going.{leads_none, Body, phase_leads, new_leads}
use Rattle.us_gen_walk.specs.Walk.{loop_levels, value_register, end}
use Rattle.us_gen_walk.specs.Runs.{rank_of, Shows, walk_cost}
use Rattle.us_gen_walk.proofs.Around.{end_after}
use Rattle.us_gen_walk.proofs.Ranks.{entries_have_ranks}
use Rattle.us_gen_walk.proofs.WalkRuns.{walk_does}
use Rattle.us_gen_unpack.specs.Listing.{entry_of, list_part, end_of_part, list_parts, words, listing, listing_phase}
use Rattle.us_gen_unpack.specs.Runs.{Listed, IsListable, AreListable, total, AllStand, HoldParts, list_cost, AreApart, ListingLists}

same_nat : (k : ℕ) → nat_eq k k ≡ true
same_nat k = grind (arith, nat_tests)

other_nat : (a b : ℕ) → a ≢ b → nat_eq a b ≡ false
other_nat a b n = grind (arith, nat_tests)

-- ---- one column

module _ (s : Shape) (x : Listed) (at : ℕ) where
  abbrev rank : Entry → ℕ
  rank y = rank_of s x.part x.entries y

  -- the first t entries stand there
  abbrev Front : (Entry → ℤ) → ℕ → List ℤ → Type 0
  Front val t cells = (y : Entry) → Contains x.entries y → rank y < t → cell cells (at + rank y) ≡ val y

  front_more : (val : Entry → ℤ) (y : Entry) (xs ys : List ℤ) (v : ℤ) → ((a b : Entry) → Contains x.entries a → Contains x.entries b → rank a ≡ rank b → a ≡ b) → Contains x.entries y
      → ys ≡ slice_set xs (at + rank y) v → v ≡ val y → at + rank y < length xs → Front val (rank y) xs → Front val (rank y + 1) ys
  front_more val y xs ys v apart cy e ev lt front = λ a ca la. ap (λ (zs : List ℤ). cell zs (at + rank a)) e ∙ by a ca la (cases_eq (rank a) (rank y))
    where
      by : (a : Entry) → Contains x.entries a → rank a < rank y + 1 → (rank a ≡ rank y) ⊎ (rank a ≢ rank y) → cell (slice_set xs (at + rank y) v) (at + rank a) ≡ val a
      by a ca la (inl q) = get_or-set_at xs (at + rank y) (at + rank a) v (pos 0) (omega (arith, q)) lt ∙ (ev ∙ ap val (sym (apart a y ca cy q)))
      by a ca la (inr q) = get_or-set_other xs (at + rank y) (at + rank a) v (pos 0) (λ h. q (omega (arith, h))) ∙ front a ca (omega (arith, la, q))

  kept_front : (y : Entry) (xs ys : List ℤ) (v : ℤ) (q : ℕ) → ys ≡ slice_set xs (at + rank y) v → q < at → cell ys q ≡ cell xs q
  kept_front y xs ys v q e lt = ap (λ (zs : List ℤ). cell zs q) e ∙ get_or-set_other xs (at + rank y) q v (pos 0) (λ h. omega (arith, h, lt))

-- ---- the parts

module _ (env : Env) (s : Shape) (c : Columns) (k N : ℕ) (three : AreApart c) (dim_is : env.dims c.count ≡ N) (small : N ≤ limit) where
  -- columns of N cells
  record Long (bufs : ℕ → List ℤ) : Type 0 where
    i : length (bufs c.i) ≡ N
    j : length (bufs c.j) ≡ N
    v : length (bufs c.v) ≡ N

  -- the cells in front of `at`, and the other buffers, are those of before
  record Kept (at : ℕ) (before now : ℕ → List ℤ) : Type 0 where
    i : (q : ℕ) → q < at → cell (now c.i) q ≡ cell (before c.i) q
    j : (q : ℕ) → q < at → cell (now c.j) q ≡ cell (before c.j) q
    v : (q : ℕ) → q < at → cell (now c.v) q ≡ cell (before c.v) q
    others : (b : ℕ) → c.i ≢ b → c.j ≢ b → c.v ≢ b → now b ≡ before b

  kept_both : (at more : ℕ) (a b d : ℕ → List ℤ) → Kept at a b → Kept (at + more) b d → Kept at a d
  kept_both at more a b d x y = record {
    i = λ q lt. y.i q (omega (arith, lt)) ∙ x.i q lt;
    j = λ q lt. y.j q (omega (arith, lt)) ∙ x.j q lt;
    v = λ q lt. y.v q (omega (arith, lt)) ∙ x.v q lt;
    others = λ z p q r. y.others z p q r ∙ x.others z p q r;
  }

  -- t entries of a part stand in the columns, and as many are counted
  record Filled (x : Listed) (at : ℕ) (z : State) (t : ℕ) (u : State) : Type 0 where
    counter : u.regs k ≡ pos (at + t)
    long : Long u.bufs
    kept : Kept at z.bufs u.bufs
    row : Front s x at (λ y. pos y.i) t (u.bufs c.i)
    col : Front s x at (λ y. pos y.j) t (u.bufs c.j)
    value : Front s x at (λ y. y.v) t (u.bufs c.v)

  -- what an entry puts into a buffer
  abbrev puts : Entry → ℕ → ℤ
  puts y b = cond (nat_eq b c.i) (pos y.i) (cond (nat_eq b c.j) (pos y.j) y.v)

  puts_i : (y : Entry) → puts y c.i ≡ pos y.i
  puts_i y = rw (same_nat c.i) refl

  puts_j : (y : Entry) → puts y c.j ≡ pos y.j
  puts_j y = rw (other_nat c.j c.i (λ e. three.i_j (sym e)), same_nat c.j) refl

  puts_v : (y : Entry) → puts y c.v ≡ y.v
  puts_v y = rw (other_nat c.v c.i (λ e. three.i_v (sym e)), other_nat c.v c.j (λ e. three.j_v (sym e))) refl

  module _ (x : Listed) (at n : ℕ) (z : State) (ok : IsListable env s x) (later : k < n) (room : at + length x.entries ≤ N) where
    abbrev e : ℕ
    e = end x.loops.places x.loops.steps.items n

    above : n ≤ e
    above = omega (arith, end_after (loop_levels x.loops.places.loops.items) n)

    stable : (t : ℕ) (u v : State) → v.bufs ≡ u.bufs → ((r : ℕ) → r < n → v.regs r ≡ u.regs r) → Filled x at z t u → Filled x at z t v
    stable t u v eb er f =
        record {
          counter = er k later ∙ f.counter;
          long = subst Long (sym eb) f.long;
          kept = subst (Kept at z.bufs) (sym eb) f.kept;
          row = subst (λ (bs : ℕ → List ℤ). Front s x at (λ y. pos y.i) t (bs c.i)) (sym eb) f.row;
          col = subst (λ (bs : ℕ → List ℤ). Front s x at (λ y. pos y.j) t (bs c.j)) (sym eb) f.col;
          value = subst (λ (bs : ℕ → List ℤ). Front s x at (λ y. y.v) t (bs c.v)) (sym eb) f.value;
        }

    takes : (y : Entry) (u : State) → Contains x.entries y → Shows env x.loops.places x.loops.steps.items x.loops.row x.loops.col n y u.regs → Filled x at z (rank_of s x.part x.entries y) u
        → Does env (append k (dim.Name c.count) (end x.loops.places x.loops.steps.items n) (entry_of c x.loops n)) u
        (λ v. Filled x at z (rank_of s x.part x.entries y + 1) v × (v.steps ≤ u.steps + 5) × Same (λ r. k ≢ r) (end x.loops.places x.loops.steps.items n) u.regs v.regs)
    takes y u cy shows f =
        let ranks = entries_have_ranks s x.part x.entries ok.lawful ok.matrix in
        let t : ℕ = rank_of s x.part x.entries y in
        let m : ℕ = at + rank_of s x.part x.entries y in
        let below : m < N = omega (arith, ranks.below y cy, room) in
        let i_j : nat_eq c.j c.i ≡ false = other_nat c.j c.i (λ q. three.i_j (sym q)) in
        let i_v : nat_eq c.v c.i ≡ false = other_nat c.v c.i (λ q. three.i_v (sym q)) in
        let j_v : nat_eq c.v c.j ≡ false = other_nat c.v c.j (λ q. three.j_v (sym q)) in
        let apart : are_apart (entry_of c x.loops n) ≡ true = rw (i_j, i_v, j_v) refl in
        let a : Appended k e m (puts y) (entry_of c x.loops n) u (exec env (append k (dim.Name c.count) e (entry_of c x.loops n)) u)
        = appends env k e m (dim.Name c.count) (puts y) (entry_of c x.loops n) u (λ q. omega (arith, q, above, later)) f.counter (omega (arith, below, dim_is)) (omega (arith, below, small)) apart (
          shows.row_is (put u.regs e (pos m)) (λ r lt. put_other u.regs e (pos m) r (λ q. omega (arith, q, lt))) ∙ sym (puts_i y),
          omega (arith, below, f.long.i),
          (
            shows.col_is (put u.regs e (pos m)) (λ r lt. put_other u.regs e (pos m) r (λ q. omega (arith, q, lt))) ∙ sym (puts_j y),
            omega (arith, below, f.long.j),
            (put_other u.regs e (pos m) (value_register x.loops.places n) (λ q. omega (arith, q)) ∙ (shows.value_is ∙ sym (puts_v y)), omega (arith, below, f.long.v), tt),
          ),
        ) in
        let v : State = exec env (append k (dim.Name c.count) e (entry_of c x.loops n)) u in
        let si : v.bufs c.i ≡ slice_set (u.bufs c.i) m (puts y c.i) = a.filled c.i (rw (same_nat c.i) refl) in
        let sj : v.bufs c.j ≡ slice_set (u.bufs c.j) m (puts y c.j) = a.filled c.j (rw (other_nat c.i c.j three.i_j, same_nat c.j) refl) in
        let sv : v.bufs c.v ≡ slice_set (u.bufs c.v) m (puts y c.v) = a.filled c.v (rw (other_nat c.i c.v three.i_v, other_nat c.j c.v three.j_v, same_nat c.v) refl) in
        let next : Filled x at z (t + 1) v = record {
          counter = a.counter ∙ ap pos (omega arith);
          long = record {
            i = ap (λ (xs : List ℤ). length xs) si ∙ (length-set (u.bufs c.i) m (puts y c.i) ∙ f.long.i);
            j = ap (λ (xs : List ℤ). length xs) sj ∙ (length-set (u.bufs c.j) m (puts y c.j) ∙ f.long.j);
            v = ap (λ (xs : List ℤ). length xs) sv ∙ (length-set (u.bufs c.v) m (puts y c.v) ∙ f.long.v);
          };
          kept = record {
            i = λ q lt. kept_front s x at y (u.bufs c.i) (v.bufs c.i) (puts y c.i) q si lt ∙ f.kept.i q lt;
            j = λ q lt. kept_front s x at y (u.bufs c.j) (v.bufs c.j) (puts y c.j) q sj lt ∙ f.kept.j q lt;
            v = λ q lt. kept_front s x at y (u.bufs c.v) (v.bufs c.v) (puts y c.v) q sv lt ∙ f.kept.v q lt;
            others = λ b p q r. a.others b (rw (other_nat c.i b p, other_nat c.j b q, other_nat c.v b r) refl) ∙ f.kept.others b p q r;
          };
          row = front_more s x at (λ y. pos y.i) y (u.bufs c.i) (v.bufs c.i) (puts y c.i) ranks.apart cy si (puts_i y) (omega (arith, below, f.long.i)) f.row;
          col = front_more s x at (λ y. pos y.j) y (u.bufs c.j) (v.bufs c.j) (puts y c.j) ranks.apart cy sj (puts_j y) (omega (arith, below, f.long.j)) f.col;
          value = front_more s x at (λ y. y.v) y (u.bufs c.v) (v.bufs c.v) (puts y c.v) ranks.apart cy sv (puts_v y) (omega (arith, below, f.long.v)) f.value;
        } in
        record { post = (next, omega (arith, a.steps), λ r kr lr. a.regs r kr (λ q. omega (arith, q, lr))); calm = a.stuck }

    part_does : z.regs k ≡ pos at → Long z.bufs
        → Does env (list_part c k x.loops n) z (λ v. Filled x at z (length x.entries) v × (v.steps ≤ z.steps + walk_cost env x.loops.places x.loops.steps.items 5 (length (values_on s x.part x.entries)) (length x.entries)) × Same (λ r. k ≢ r) n z.regs v.regs)
    part_does at_counter long =
        walk_does env (λ r. k ≢ r) x.loops.places s x.part x.entries x.exprs x.loops.steps.items x.loops.row x.loops.col n (append k (dim.Name c.count) (end x.loops.places x.loops.steps.items n) (entry_of c x.loops n)) (Filled x at z) 5
        ok.lawful ok.matrix ok.places (ok.recovers n) (λ r le q. omega (arith, q, le, later)) stable takes z record {
          counter = at_counter ∙ ap pos (omega arith);
          long = long;
          kept = record { i = λ q lt. refl; j = λ q lt. refl; v = λ q lt. refl; others = λ b p q r. refl };
          row = λ y cy lt. absurd (omega (arith, lt));
          col = λ y cy lt. absurd (omega (arith, lt));
          value = λ y cy lt. absurd (omega (arith, lt));
        }

  -- behind the loops of parts
  record Done (xs : List Listed) (at : ℕ) (z v : State) : Type 0 where
    stand : AllStand s xs at (v.bufs c.i) (v.bufs c.j) (v.bufs c.v)
    long : Long v.bufs
    kept : Kept at z.bufs v.bufs

  parts_do : (xs : List Listed) (at n : ℕ) (z : State) → AreListable env s xs → k < n → at + total xs ≤ N → z.regs k ≡ pos at → Long z.bufs
      → Does env (list_parts c k (map (λ x. x.loops) xs) n) z (λ v. Done xs at z v × (v.steps ≤ z.steps + list_cost env s xs))
  parts_do [] at n z ok later room at_counter long =
      do_end env z _ (record { stand = tt; long = long; kept = record { i = λ q lt. refl; j = λ q lt. refl; v = λ q lt. refl; others = λ b p q r. refl } }, omega arith)
  parts_do (x ∷ xs) at n z ok later room at_counter long =
      do_append env (list_part c k x.loops n) (list_parts c k (map (λ x. x.loops) xs) (end_of_part x.loops n)) z _
      (do_weaker env (list_part c k x.loops n) z _ _
      (λ u d.
      do_weaker env (list_parts c k (map (λ x. x.loops) xs) (end_of_part x.loops n)) u _ _
      (λ v g. (
        record {
          stand = (
            record {
              row = λ y cy. let lt = (entries_have_ranks s x.part x.entries ok.0.lawful ok.0.matrix).below y cy in g.0.kept.i (at + rank_of s x.part x.entries y) (omega (arith, lt)) ∙ d.0.row y cy lt;
              col = λ y cy. let lt = (entries_have_ranks s x.part x.entries ok.0.lawful ok.0.matrix).below y cy in g.0.kept.j (at + rank_of s x.part x.entries y) (omega (arith, lt)) ∙ d.0.col y cy lt;
              value = λ y cy. let lt = (entries_have_ranks s x.part x.entries ok.0.lawful ok.0.matrix).below y cy in g.0.kept.v (at + rank_of s x.part x.entries y) (omega (arith, lt)) ∙ d.0.value y cy lt;
            },
            g.0.stand,
          );
          long = g.0.long;
          kept = kept_both at (length x.entries) z.bufs u.bufs v.bufs d.0.kept g.0.kept;
        },
        omega (arith, g.1, d.1),
      ))
      (parts_do xs (at + length x.entries) (end_of_part x.loops n) u ok.1 (omega (arith, later, end_after (loop_levels x.loops.places.loops.items) n)) (omega (arith, room)) d.0.counter d.0.long))
      (part_does x at n z ok.0 later (omega (arith, room)) at_counter long))

  listing_does : (xs : List Listed) (z : State) → AreListable env s xs → total xs ≡ N → Long z.bufs
      → Does env (listing c k (map (λ x. x.loops) xs)) z (λ v. Done xs 0 z v × (v.steps ≤ z.steps + (1 + list_cost env s xs)))
  listing_does xs z ok all long =
      do_var env k (Number 0) (list_parts c k (map (λ x. x.loops) xs) (k + 1)) z _
      (do_weaker env (list_parts c k (map (λ x. x.loops) xs) (k + 1)) (set_reg k (pos 0) (tick 1 z)) _ _
      (λ v d. (record { stand = d.0.stand; long = d.0.long; kept = d.0.kept }, omega (arith, d.1)))
      (parts_do xs 0 (k + 1) (set_reg k (pos 0) (tick 1 z)) ok (omega arith) (omega (arith, all)) (put_same z.regs k (pos 0)) long))

-- ---- the phase

-- the new columns
record Made (c : Columns) (N : ℕ) (w u : World) : Type 0 where
  env_is : u.env ≡ w.env
  i : length (u.bufs c.i) ≡ N
  j : length (u.bufs c.j) ≡ N
  v : length (u.bufs c.v) ≡ N

pub listing_lists : ListingLists
listing_lists w s xs c k low ok three li lj lv count small =
    let N = total xs in
    let size : w.env.dims c.count ≤ 67108865 = omega (arith, count, small) in
    let w1 = made (words c.i c.count) w in
    let w2 = made (words c.j c.count) w1 in
    let w3 = made (words c.v c.count) w2 in
    let zeros : List ℤ = replicate (w.env.dims c.count) (pos 0) in
    let long : length zeros ≡ N = length-replicate (w.env.dims c.count) (pos 0) ∙ count in
    let makes : Leads low 3 w (make_all (words c.i c.count ∷ words c.j c.count ∷ words c.v c.count ∷ []) w) (Made c N w)
    = new_leads low 2 (words c.i c.count) (words c.j c.count ∷ words c.v c.count ∷ []) w (Made c N w) li size
    (new_leads low 1 (words c.j c.count) (words c.v c.count ∷ []) w1 (Made c N w) lj size
    (new_leads low 0 (words c.v c.count) [] w2 (Made c N w) lv size
    (leads_none low w3 (Made c N w) record {
      env_is = refl;
      i = ap (λ (ys : List ℤ). length ys) (put_other w2.bufs c.v zeros c.i (λ q. three.i_v (sym q)) ∙ (put_other w1.bufs c.j zeros c.i (λ q. three.i_j (sym q)) ∙ put_same w.bufs c.i zeros)) ∙ long;
      j = ap (λ (ys : List ℤ). length ys) (put_other w2.bufs c.v zeros c.j (λ q. three.j_v (sym q)) ∙ put_same w1.bufs c.j zeros) ∙ long;
      v = ap (λ (ys : List ℤ). length ys) (put_same w2.bufs c.v zeros) ∙ long;
    }))) in
    let costs : 3 + (1 + list_cost w.env s xs) + 0 ≡ 4 + list_cost w.env s xs = omega arith in
    subst (λ (n : ℕ). Leads low n w (phases (listing_phase c k (map (λ x. x.loops) xs) ∷ []) w) (λ u. HoldParts s xs (u.bufs c.i) (u.bufs c.j) (u.bufs c.v))) costs
    (phase_leads low 3 (1 + list_cost w.env s xs) 0 (listing_phase c k (map (λ x. x.loops) xs)) w (Made c N w) (λ u. HoldParts s xs (u.bufs c.i) (u.bufs c.j) (u.bufs c.v)) makes
    (λ u h keeps.
    subst (λ (env : Env). Does env (listing c k (map (λ x. x.loops) xs)) (begin u) (Body low (1 + list_cost w.env s xs) 0 [] (λ u. HoldParts s xs (u.bufs c.i) (u.bufs c.j) (u.bufs c.v)) u)) (sym h.env_is)
    (do_weaker w.env (listing c k (map (λ x. x.loops) xs)) (begin u) _ _
    (λ v d. record {
      steps = d.1;
      bufs = λ b lt. d.0.kept.others b (λ q. omega (arith, q, lt, li)) (λ q. omega (arith, q, lt, lj)) (λ q. omega (arith, q, lt, lv));
      then = leads_none low (after u v) (λ u. HoldParts s xs (u.bufs c.i) (u.bufs c.j) (u.bufs c.v)) record { rows = d.0.long.i; cols = d.0.long.j; values = d.0.long.v; stand = d.0.stand };
    })
    (listing_does w.env s c k N three count small xs (begin u) ok refl record { i = h.i; j = h.j; v = h.v }))))
