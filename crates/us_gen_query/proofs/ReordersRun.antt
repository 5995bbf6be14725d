-- What the loops that rank the rows or the columns do.
use Rattle.std.proofs.Common.{◌≡◌, ◌≢◌, ℕ, zero, suc, ◌+◌, ◌*◌, ◌^◌, ◌<◌, ◌≤◌, Bool, true, false, nat_eq, refl, sym, ap, ◌∙◌, subst, arith, List, [], ◌∷◌, map, length, ℤ, pos, negsuc, ◌-ℤ◌, w64, if◌then◌else◌}
use Rattle.std.specs.Prelude.{slice_index_or, slice_set}
use Rattle.std.specs.Int.{int_wrap}
use Rattle.std.proofs.lemmas.Bool.Decides.{nat_tests}
use Rattle.std.proofs.lemmas.Int.{ints, int_wrap_fits}
use Rattle.std.proofs.lemmas.List.{length-set, get_or-set_same, get_or-set_other, get_or_default, same_lists}
use Rattle.std.proofs.lemmas.List.FromFn.{length-map-range_with_len, get_or-map-range_with_len}
use Rattle.us_code.specs.declared.program.Dim.{Dim}
use Rattle.us_code.specs.declared.program.Buf.TheVariants as buf
use Rattle.us_code.specs.declared.pieces.Columns.{Columns}
use Rattle.us_code.specs.Plain.{Number, Reg, Sub, Code, End, Load, Set, Order, ◌+++◌}
use Rattle.us_code.specs.Run.{Env, State, tick, set_reg, set_buf, size_of, all_long}
use Rattle.us_code.specs.Sort.{ordered}
use Rattle.us_code_laws.specs.Does.{Does}
use Rattle.us_code_laws.proofs.Sequence.{put_same, put_other}
use Rattle.us_code_laws.proofs.Sorts.{length_ordered, ordered_cell, ordered_lt}
use Rattle.us_code_laws.proofs.Does.{do_end, do_append, do_weaker, do_set, do_load, do_for, do_order}
use Rattle.us_query_loops.specs.Ranks.{downwards}
use Rattle.us_query_loops.specs.Sorted.{place_at}
use Rattle.us_query_loops.specs.Runs.{filled_at}
use Rattle.us_gen_query.specs.Counting.{IsZeros}
use Rattle.us_gen_query.specs.Reordering.{at_index, one_less, looked_up, invert, reorder, passed, counted_down, by_count, AreIndices, Reorders}
use Rattle.us_gen_query.proofs.AtIndex.{Passing, Inner, at_index_does}
use Rattle.us_gen_query.proofs.FillsRun.{set_more}
use Rattle.us_gen_query.proofs.CountsRun.{set_cell}

-- ---- counts

pub passed_few : (index : ℕ → ℕ) (x a : ℕ) → passed index x a ≤ x
passed_few index zero a = omega arith
passed_few index (suc x) a = case (nat_eq (index x) a) (passed_few index x a)
  where
    case : (b : Bool) → passed index x a ≤ x → (if b then suc (passed index x a) else passed index x a) ≤ suc x
    case true h = omega (arith, h)
    case false h = omega (arith, h)

less_one : (c : ℕ) → c < 2 ^ 62 → int_wrap w64 (downwards c -ℤ pos 1) ≡ downwards (suc c)
less_one zero small = int_wrap_fits w64 (negsuc 0) record { sfits = omega arith }
less_one (suc c) small = ap (int_wrap w64) (under c) ∙ int_wrap_fits w64 (negsuc (suc c)) record { sfits = omega (arith, small) }
  where
    under : (c : ℕ) → negsuc c -ℤ pos 1 ≡ negsuc (suc c)
    under c = omega (arith, ints)

-- the counts after t entries, where the other buffers are as they were
record Down (a : State) (m size i b : ℕ) (index : ℕ → ℕ) (t : ℕ) (bufs : ℕ → List ℤ) : Type 0 where
  pub given : AreIndices (bufs i) m size index
  pub long : length (bufs b) ≡ size
  pub cells : (y : ℕ) → y < size → slice_index_or (bufs b) y (pos 0) ≡ downwards (passed index t y)
  pub others : (c : ℕ) → c ≢ b → bufs c ≡ a.bufs c

down_cell : (xs : List ℤ) (size t : ℕ) (index : ℕ → ℕ) (v : ℤ) → index t < length xs → v ≡ downwards (suc (passed index t (index t))) → ((y : ℕ) → y < size → slice_index_or xs y (pos 0) ≡ downwards (passed index t y))
    → (y : ℕ) → y < size → slice_index_or (slice_set xs (index t) v) y (pos 0) ≡ downwards (passed index (suc t) y)
down_cell xs size t index v lt is old y ly = case (nat_eq (index t) y) refl
  where
    case : (q : Bool) → nat_eq (index t) y ≡ q → slice_index_or (slice_set xs (index t) v) y (pos 0) ≡ downwards (if q then suc (passed index t y) else passed index t y)
    case true e = let at : index t ≡ y = grind (arith, nat_tests) in subst (λ (x : ℕ). slice_index_or (slice_set xs (index t) v) x (pos 0) ≡ downwards (suc (passed index t x))) at (get_or-set_same xs (index t) v (pos 0) lt ∙ is)
    case false e = let ne : y ≢ index t = grind (arith, nat_tests) in get_or-set_other xs (index t) y v (pos 0) ne ∙ old y ly

down_turns : (env : Env) (a : State) (m size i b n : ℕ) (index : ℕ → ℕ) → m < 2 ^ 62 → i ≢ b → (t : ℕ) → t < m → Inner env n 2 (Down a m size i b index) (one_less b n) t (index t)
down_turns env a m size i b n index small ib t lt s at hg d =
    let g = index t in
    let Q : State → Type 0 = λ u. Down a m size i b index (suc t) u.bufs × ((r : ℕ) → r < n → u.regs r ≡ s.regs r) × (u.steps ≡ s.steps + 2) in
    let lg : g < size = d.given.below t lt in
    let room : g < length (s.bufs b) = omega (arith, lg, d.long) in
    let s1 = set_reg (n + 3) (slice_index_or (s.bufs b) g (pos 0)) (tick 1 s) in
    let v = int_wrap w64 (s1.regs (n + 3) -ℤ pos 1) in
    let s2 = set_buf b (slice_set (s1.bufs b) g v) (tick 1 s1) in
    let few = passed_few index t g in
    let is : v ≡ downwards (suc (passed index t g)) = ap (λ (z : ℤ). int_wrap w64 (z -ℤ pos 1)) (put_same s.regs (n + 3) _ ∙ d.cells g lg) ∙ less_one (passed index t g) (omega (arith, few, lt, small)) in
    let now : s2.bufs b ≡ slice_set (s.bufs b) g v = put_same s1.bufs b _ in
    let same : s2.bufs i ≡ s.bufs i = put_other s1.bufs b _ i (λ q. ib (sym q)) in
    let down : Down a m size i b index (suc t) s2.bufs = record {
      given = subst (λ (xs : List ℤ). AreIndices xs m size index) (sym same) d.given;
      long = ap (λ (xs : List ℤ). length xs) now ∙ (length-set (s.bufs b) g v ∙ d.long);
      cells = λ y ly. ap (λ (xs : List ℤ). slice_index_or xs y (pos 0)) now ∙ down_cell (s.bufs b) size t index v room is d.cells y ly;
      others = λ c h. put_other s1.bufs b _ c (λ q. h (sym q)) ∙ d.others c h;
    } in
    let low : (r : ℕ) → r < n → s2.regs r ≡ s.regs r = λ r h. put_other s.regs (n + 3) _ r (omega (arith, h)) in
    let cost : s2.steps ≡ s.steps + 2 = omega arith in
    do_load env (n + 3) (buf.New b) (Reg (n + 2)) (Set (buf.New b) (Reg (n + 2)) (Sub (Reg (n + 3)) (Number 1)) End) s Q g hg room
    (do_set env b (Reg (n + 2)) (Sub (Reg (n + 3)) (Number 1)) End s1 Q g (put_other s.regs (n + 3) _ (n + 2) (omega arith) ∙ hg) room (do_end env s2 Q (down, low, cost)))

-- the cells of a list are those of the counts
counts_are : (xs : List ℤ) (index : ℕ → ℕ) (m size : ℕ) → length xs ≡ size → ((y : ℕ) → y < size → slice_index_or xs y (pos 0) ≡ downwards (passed index m y)) → xs ≡ counted_down index m size
counts_are xs index m size long each =
    let f : ℕ → ℤ = λ a. downwards (passed index m a) in
    same_lists xs (counted_down index m size) (long ∙ sym (length-map-range_with_len f 0 size))
    (λ k d lt. let lk : k < size = omega (arith, lt, long) in get_or_default xs k d (pos 0) lt ∙ (each k lk ∙ sym (get_or-map-range_with_len f 0 size k k d lk (omega arith))))

-- ---- the inverse of the order

record Inverted (a : State) (size q n : ℕ) (order : List ℕ) (t : ℕ) (u : State) : Type 0 where
  pub long : length (u.bufs q) ≡ size
  pub cells : (y : ℕ) → y < size → slice_index_or (u.bufs q) y (pos 0) ≡ pos (filled_at order (λ x. x) t y)
  pub others : (c : ℕ) → c ≢ q → u.bufs c ≡ a.bufs c
  pub regs : (r : ℕ) → r < n → u.regs r ≡ a.regs r
  pub steps : u.steps ≤ a.steps + 1 + t * 3

invert_does : (env : Env) (size : Dim) (o q n : ℕ) (order : List ℕ) (a : State) → o ≢ q → length (a.bufs o) ≡ size_of env size → ((x : ℕ) → slice_index_or (a.bufs o) x (pos 0) ≡ pos (place_at order x))
    → ((x : ℕ) → x < size_of env size → place_at order x < size_of env size) → IsZeros (a.bufs q) (size_of env size) → Does env (invert size o q n) a (Inverted a (size_of env size) q n order (size_of env size))
invert_does env size o q n order a oq long places below zeros =
    do_for env n size (Load (n + 1) (buf.New o) (Reg n) (Set (buf.New q) (Reg (n + 1)) (Reg n) End)) End a (Inverted a (size_of env size) q n order (size_of env size)) (λ t u. Inverted a (size_of env size) q n order t u)
    (record { long = zeros.long; cells = zeros.cells; others = λ c h. refl; regs = λ r h. refl; steps = omega arith }) turn (λ u p. do_end env u (Inverted a (size_of env size) q n order (size_of env size)) p)
  where
    turn : (t : ℕ) (u : State) → t < size_of env size → Inverted a (size_of env size) q n order t u → Does env (Load (n + 1) (buf.New o) (Reg n) (Set (buf.New q) (Reg (n + 1)) (Reg n) End)) (set_reg n (pos t) (tick 1 u)) (Inverted a (size_of env size) q n order (suc t))
    turn t u lt p =
        let Q = Inverted a (size_of env size) q n order (suc t) in
        let y = place_at order t in
        let os : u.bufs o ≡ a.bufs o = p.others o oq in
        let u1 = set_reg n (pos t) (tick 1 u) in
        let u2 = set_reg (n + 1) (slice_index_or (u1.bufs o) t (pos 0)) (tick 1 u1) in
        let at : u2.regs n ≡ pos t = put_other u1.regs (n + 1) _ n (omega arith) ∙ put_same u.regs n _ in
        let to : u2.regs (n + 1) ≡ pos y = put_same u1.regs (n + 1) _ ∙ (ap (λ (xs : List ℤ). slice_index_or xs t (pos 0)) os ∙ places t) in
        let room : y < length (u.bufs q) = let ly = below t lt in omega (arith, ly, p.long) in
        let u3 = set_buf q (slice_set (u2.bufs q) y (u2.regs n)) (tick 1 u2) in
        let now : u3.bufs q ≡ slice_set (u.bufs q) y (u2.regs n) = put_same u2.bufs q _ in
        let done : Inverted a (size_of env size) q n order (suc t) u3 = record {
          long = ap (λ (xs : List ℤ). length xs) now ∙ (length-set (u.bufs q) y _ ∙ p.long);
          cells = λ c lc. ap (λ (xs : List ℤ). slice_index_or xs c (pos 0)) now ∙ set_cell (u.bufs q) (size_of env size) y t _ (filled_at order (λ x. x) t) room at p.cells c lc;
          others = λ c h. put_other u2.bufs q _ c (λ e. h (sym e)) ∙ p.others c h;
          regs = λ r h. put_other u1.regs (n + 1) _ r (omega (arith, h)) ∙ (put_other u.regs n _ r (omega (arith, h)) ∙ p.regs r h);
          steps = omega (arith, p.steps);
        } in
        do_load env (n + 1) (buf.New o) (Reg n) (Set (buf.New q) (Reg (n + 1)) (Reg n) End) u1 Q t (put_same u.regs n _) (subst (λ (xs : List ℤ). t < length xs) (sym os) (omega (arith, lt, long)))
        (do_set env q (Reg (n + 1)) (Reg n) End u2 Q y to room (do_end env u3 Q done))

-- ---- the rank of each entry's index

record Looking (a : State) (m size i q z : ℕ) (index R : ℕ → ℕ) (t : ℕ) (bufs : ℕ → List ℤ) : Type 0 where
  pub given : AreIndices (bufs i) m size index
  pub wide : length (bufs q) ≡ size
  pub ranks : (y : ℕ) → y < size → slice_index_or (bufs q) y (pos 0) ≡ pos (R y)
  pub long : length (bufs z) ≡ m
  pub cells : (y : ℕ) → y < t → slice_index_or (bufs z) y (pos 0) ≡ pos (R (index y))
  pub others : (c : ℕ) → c ≢ z → bufs c ≡ a.bufs c

look_turns : (env : Env) (a : State) (m size i q z n : ℕ) (index R : ℕ → ℕ) → i ≢ z → q ≢ z → (t : ℕ) → t < m → Inner env n 2 (Looking a m size i q z index R) (looked_up q z n) t (index t)
look_turns env a m size i q z n index R iz qz t lt s at hg d =
    let g = index t in
    let Q : State → Type 0 = λ u. Looking a m size i q z index R (suc t) u.bufs × ((r : ℕ) → r < n → u.regs r ≡ s.regs r) × (u.steps ≡ s.steps + 2) in
    let lg : g < size = d.given.below t lt in
    let room : t < length (s.bufs z) = omega (arith, lt, d.long) in
    let s1 = set_reg (n + 3) (slice_index_or (s.bufs q) g (pos 0)) (tick 1 s) in
    let s2 = set_buf z (slice_set (s1.bufs z) t (s1.regs (n + 3))) (tick 1 s1) in
    let is : s1.regs (n + 3) ≡ pos (R g) = put_same s.regs (n + 3) _ ∙ d.ranks g lg in
    let now : s2.bufs z ≡ slice_set (s.bufs z) t (s1.regs (n + 3)) = put_same s1.bufs z _ in
    let same : s2.bufs i ≡ s.bufs i = put_other s1.bufs z _ i (λ e. iz (sym e)) in
    let rest : s2.bufs q ≡ s.bufs q = put_other s1.bufs z _ q (λ e. qz (sym e)) in
    let looking : Looking a m size i q z index R (suc t) s2.bufs = record {
      given = subst (λ (xs : List ℤ). AreIndices xs m size index) (sym same) d.given;
      wide = ap (λ (xs : List ℤ). length xs) rest ∙ d.wide;
      ranks = λ y ly. ap (λ (xs : List ℤ). slice_index_or xs y (pos 0)) rest ∙ d.ranks y ly;
      long = ap (λ (xs : List ℤ). length xs) now ∙ (length-set (s.bufs z) t _ ∙ d.long);
      cells = λ y ly. ap (λ (xs : List ℤ). slice_index_or xs y (pos 0)) now ∙ set_more (s.bufs z) (λ y. pos (R (index y))) t _ room is d.cells y ly;
      others = λ c h. put_other s1.bufs z _ c (λ e. h (sym e)) ∙ d.others c h;
    } in
    let low : (r : ℕ) → r < n → s2.regs r ≡ s.regs r = λ r h. put_other s.regs (n + 3) _ r (omega (arith, h)) in
    let cost : s2.steps ≡ s.steps + 2 = omega arith in
    do_load env (n + 3) (buf.New q) (Reg (n + 2)) (Set (buf.New z) (Reg n) (Reg (n + 3)) End) s Q g hg (omega (arith, lg, d.wide))
    (do_set env z (Reg n) (Reg (n + 3)) End s1 Q t (put_other s.regs (n + 3) _ n (omega arith) ∙ at) room (do_end env s2 Q (looking, low, cost)))

-- ---- the whole

record Ended (n m size b o q z : ℕ) (index : ℕ → ℕ) (order : List ℕ) (s u : State) : Type 0 where
  pub table : u.bufs o ≡ map pos order
  pub long : length (u.bufs z) ≡ m
  pub ranks : (y : ℕ) → y < m → slice_index_or (u.bufs z) y (pos 0) ≡ pos (filled_at order (λ x. x) size (index y))
  pub others : (c : ℕ) → c ≢ b → c ≢ o → c ≢ q → c ≢ z → u.bufs c ≡ s.bufs c
  pub regs : (r : ℕ) → r < n → u.regs r ≡ s.regs r
  pub steps : u.steps ≤ s.steps + m * 10 + size * 4 + 4

module _ (env : Env) (cs : Columns) (i : ℕ) (size : Dim) (b o q z n m : ℕ) (index : ℕ → ℕ) (s : State) (count : env.dims cs.count ≡ m) (small : m < 2 ^ 62) (given : AreIndices (s.bufs i) m (size_of env size) index) (zb : IsZeros (s.bufs b) (size_of env size)) (lo : length (s.bufs o) ≡ size_of env size) (zq : IsZeros (s.bufs q) (size_of env size)) (lz : length (s.bufs z) ≡ m) (ib : i ≢ b) (io : i ≢ o) (iq : i ≢ q) (iz : i ≢ z) (bo : b ≢ o) (bq : b ≢ q) (bz : b ≢ z) (oq : o ≢ q) (oz : o ≢ z) (qz : q ≢ z) where
  abbrev A : ℕ
  A = size_of env size

  abbrev order : List ℕ
  order = by_count index m (size_of env size)

  abbrev Q : State → Type 0
  Q = Ended n m (size_of env size) b o q z index (by_count index m (size_of env size)) s

  abbrev back : Code
  back = at_index cs i size (n + 6) (looked_up q z (n + 6))

  abbrev middle : Code
  middle = invert size o q (n + 4) +++ at_index cs i size (n + 6) (looked_up q z (n + 6))

  after_order : (u : State) → Passing n 5 (Down s m A i b index) m s u → Does env (Order (buf.New o) (buf.New b ∷ []) End +++ middle) u Q
  after_order u p =
      let d = p.holds in
      let os : u.bufs o ≡ s.bufs o = d.others o (λ e. bo (sym e)) in
      let n_o : length (u.bufs o) ≡ A = ap (λ (xs : List ℤ). length xs) os ∙ lo in
      let counts : u.bufs b ≡ counted_down index m A = counts_are (u.bufs b) index m A d.long d.cells in
      let same : length (u.bufs b) ≡ length (u.bufs o) = d.long ∙ sym n_o in
      let ready : all_long (length (u.bufs o)) (u.bufs b ∷ []) ≡ true = grind (arith, nat_tests) in
      let xs = map pos (ordered (u.bufs b ∷ []) (length (u.bufs o))) in
      let u1 = set_buf o xs (tick (length (u.bufs o) * 1 + 1) u) in
      let is : ordered (u.bufs b ∷ []) (length (u.bufs o)) ≡ order = ap (λ (x : ℕ). ordered (u.bufs b ∷ []) x) n_o ∙ ap (λ (ys : List ℤ). ordered (ys ∷ []) A) counts in
      let table : u1.bufs o ≡ map pos order = put_same u.bufs o _ ∙ ap (map pos) is in
      let q1 : u1.bufs q ≡ s.bufs q = put_other u.bufs o _ q oq ∙ d.others q (λ e. bq (sym e)) in
      let zeros : IsZeros (u1.bufs q) A = subst (λ (ys : List ℤ). IsZeros ys A) (sym q1) zq in
      let long1 : length (u1.bufs o) ≡ A = ap (λ (ys : List ℤ). length ys) table ∙ length_ordered (counted_down index m A ∷ []) A in
      let places : (x : ℕ) → slice_index_or (u1.bufs o) x (pos 0) ≡ pos (place_at order x) = λ x. ap (λ (ys : List ℤ). slice_index_or ys x (pos 0)) table ∙ ordered_cell (counted_down index m A ∷ []) A x in
      let inverse = invert_does env size o q (n + 4) order u1 oq long1 places (λ x lx. ordered_lt (counted_down index m A ∷ []) A x lx) zeros in
      let steps1 : u1.steps ≤ s.steps + 1 + m * 5 + (A * 1 + 1) = let cost : length (u.bufs o) * 1 ≡ A * 1 = ap (λ (x : ℕ). x * 1) n_o in omega (arith, p.steps, cost) in
      do_order env o (buf.New b ∷ []) middle u Q ready
      (do_append env (invert size o q (n + 4)) back u1 Q
      (do_weaker env (invert size o q (n + 4)) u1 (Inverted u1 A q (n + 4) order A) (λ w. Does env back w Q) (λ w v. last u d u1 steps1 p.regs table (λ c h. put_other u.bufs o _ c (λ e. h (sym e))) w v) inverse))
    where
      last : (u : State) → Down s m A i b index m u.bufs → (u1 : State) → u1.steps ≤ s.steps + 1 + m * 5 + (A * 1 + 1) → ((r : ℕ) → r < n → u1.regs r ≡ s.regs r) → u1.bufs o ≡ map pos order → ((c : ℕ) → c ≢ o → u1.bufs c ≡ u.bufs c)
          → (w : State) → Inverted u1 A q (n + 4) order A w → Does env back w Q
      last u d u1 steps1 regs1 table same w v =
          let R : ℕ → ℕ = filled_at order (λ x. x) A in
          let iw : w.bufs i ≡ s.bufs i = v.others i iq ∙ (same i io ∙ d.others i ib) in
          let zw : w.bufs z ≡ s.bufs z = v.others z (λ e. qz (sym e)) ∙ (same z (λ e. oz (sym e)) ∙ d.others z (λ e. bz (sym e))) in
          let begin : Looking w m A i q z index R 0 w.bufs = record {
            given = subst (λ (ys : List ℤ). AreIndices ys m A index) (sym iw) given;
            wide = v.long;
            ranks = v.cells;
            long = ap (λ (ys : List ℤ). length ys) zw ∙ lz;
            cells = λ y ly. absurd (omega (arith, ly));
            others = λ c h. refl;
          } in
          let looks = at_index_does env cs i size (n + 6) m 2 (looked_up q z (n + 6)) index (Looking w m A i q z index R) w count (λ t bufs x. x.given) begin (look_turns env w m A i q z (n + 6) index R iz qz) in
          do_weaker env back w (Passing (n + 6) 5 (Looking w m A i q z index R) m w) Q
          (λ x y. record {
            table = y.holds.others o oz ∙ (v.others o oq ∙ table);
            long = y.holds.long;
            ranks = y.holds.cells;
            others = λ c hb ho hq hz. y.holds.others c hz ∙ (v.others c hq ∙ (same c ho ∙ d.others c hb));
            regs = λ r h. y.regs r (omega (arith, h)) ∙ (v.regs r (omega (arith, h)) ∙ regs1 r h);
            steps = omega (arith, y.steps, v.steps, steps1);
          }) looks

  reorder_does : Does env (reorder cs i size b o q z n) s (Ended n m (size_of env size) b o q z index (by_count index m (size_of env size)) s)
  reorder_does =
      let begin : Down s m A i b index 0 s.bufs = record { given = given; long = zb.long; cells = zb.cells; others = λ c h. refl } in
      let downs = at_index_does env cs i size n m 2 (one_less b n) index (Down s m A i b index) s count (λ t bufs x. x.given) begin (down_turns env s m A i b n index small ib) in
      do_append env (at_index cs i size n (one_less b n)) (Order (buf.New o) (buf.New b ∷ []) End +++ middle) s Q
      (do_weaker env (at_index cs i size n (one_less b n)) s (Passing n 5 (Down s m A i b index) m s) (λ u. Does env (Order (buf.New o) (buf.New b ∷ []) End +++ middle) u Q) after_order downs)

pub reorders : Reorders
reorders env cs i size b o q z n m index s count small given zb lo zq lz ib io iq iz bo bq bz oq oz qz =
    let d = reorder_does env cs i size b o q z n m index s count small given zb lo zq lz ib io iq iz bo bq bz oq oz qz in
    let e = d.post in
    record { table = e.table; long = e.long; ranks = e.ranks; others = e.others; regs = e.regs; steps = e.steps; stuck = d.calm }
