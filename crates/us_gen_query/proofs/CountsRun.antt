-- What the loops that count do.
use Rattle.std.proofs.Common.{◌≡◌, ◌≢◌, ℕ, zero, suc, ◌+◌, ◌-◌, ◌*◌, ◌^◌, ◌<◌, ◌≤◌, Bool, true, false, nat_lt, nat_eq, max, refl, sym, ap, ap₂, ◌∙◌, subst, arith, List, map, length, ℤ, pos, negsuc, ◌+ℤ◌, ◌-ℤ◌, w64, if◌then◌else◌}
use Rattle.std.specs.Prelude.{slice_index_or, slice_set}
use Rattle.std.specs.Int.{int_wrap}
use Rattle.std.specs.Ordering.{int_eq}
use Rattle.std.proofs.lemmas.Bool.Decides.{nat_tests, Decides-int_eq}
use Rattle.std.proofs.lemmas.Int.{ints}
use Rattle.std.proofs.lemmas.List.{length-set, get_or-set_same, get_or-set_other}
use lib.Signed.{lt_z}
use Rattle.us_code.specs.declared.program.Dim.TheVariants as dim
use Rattle.us_code.specs.declared.program.Buf.{Buf}
use Rattle.us_code.specs.declared.program.Buf.TheVariants as buf
use Rattle.us_code.specs.declared.pieces.Columns.{Columns}
use Rattle.us_code.specs.Plain.{TermTree, Number, Reg, Code, End, Load, Var, Put, Set, For, If}
use Rattle.us_code.specs.Run.{Env, State, exec, put, tick, set_reg, set_buf, test, cells, value, all_long}
use Rattle.us_code.specs.Sort.{ordered}
use Rattle.us_code_laws.specs.Does.{Does}
use Rattle.us_code_laws.proofs.Rules.{statement_rules}
use Rattle.us_code_laws.proofs.Sequence.{put_same, put_other}
use Rattle.us_code_laws.proofs.Sorts.{length_ordered, ordered_cell, ordered_lt}
use Rattle.us_code_laws.proofs.Does.{do_end, do_weaker, do_set, do_for, do_var, do_put, do_order, do_if_yes, do_if_no}
use Rattle.us_gen.proofs.LevelRuns.{wrap_small}
use Rattle.us_query_loops.specs.Sorted.{place_at}
use Rattle.us_query_loops.specs.Runs.{last_at, start_at, most_at, filled_at}
use Rattle.us_gen_query.specs.Counting.{no_value, row_major, run_step, run_place, run_length, longest, enumerate_turn, enumerate, order_by, value_by, IsZeros, Enumerates}

-- ---- tests

test_same : (a : ℤ) → test true a a ≡ true
test_same (pos a) = grind (arith, nat_tests)
test_same (negsuc a) = grind (arith, nat_tests)

test_other : (a b : ℤ) → a ≢ b → test true a b ≡ false
test_other (pos a) (pos b) h = let ne : a ≢ b = λ e. h (ap pos e) in grind (arith, nat_tests)
test_other (negsuc a) (negsuc b) h = let ne : a ≢ b = λ e. h (ap negsuc e) in grind (arith, nat_tests)
test_other (pos a) (negsuc b) h = refl
test_other (negsuc a) (pos b) h = refl

true_is_not_false : {P : Type 0} (b : Bool) → b ≡ true → b ≡ false → P
true_is_not_false b h k = let z : ◌≡◌ {A = Bool} true false = sym h ∙ k in absurd cc

test_is : (a b : ℤ) (q : Bool) → int_eq a b ≡ q → test true a b ≡ q
test_is a b true e = subst (λ (z : ℤ). test true a z ≡ true) ((Decides-int_eq a b).0 e) (test_same a)
test_is a b false e = test_other a b (λ h. true_is_not_false (int_eq a b) ((Decides-int_eq a b).1 h) e)

pub does_from : (env : Env) (a b : Code) (s u : State) (Q : State → Type 0) → exec env a s ≡ exec env b u → u.stuck ≡ s.stuck → Does env b u Q → Does env a s Q
does_from env a b s u Q e k d = record { post = subst Q (sym e) d.post; calm = ap (λ (x : State). x.stuck) e ∙ (d.calm ∙ k) }

-- ---- a step along the runs

record Branched (n x st : ℕ) (v before : ℤ) (s u : State) : Type 0 where
  pub last : u.regs n ≡ v
  pub start : u.regs (n + 1) ≡ pos (if int_eq v before then st else x)
  pub regs : (r : ℕ) → r ≢ n → r ≢ n + 1 → u.regs r ≡ s.regs r
  pub bufs : u.bufs ≡ s.bufs
  pub steps : u.steps ≤ s.steps + 3
  pub stuck : u.stuck ≡ s.stuck

abbrev branch : ℕ → Code → Code
branch n inner = If (Reg (n + 5)) true (Reg n) End true (Put n (Reg (n + 5)) (Put (n + 1) (Reg (n + 3)) End)) inner

branches : (env : Env) (n : ℕ) (inner : Code) (s : State) (x st : ℕ) (v last : ℤ) → s.regs n ≡ last → s.regs (n + 1) ≡ pos st → s.regs (n + 3) ≡ pos x → s.regs (n + 5) ≡ v → (b : Bool) → int_eq v last ≡ b
    → (u : State) × (exec env (branch n inner) s ≡ exec env inner u) × Branched n x st v last s u
branches env n inner s x st v last hl hs hx hv true e =
    let same : v ≡ last = (Decides-int_eq v last).0 e in
    let yes_ : test true (s.regs (n + 5)) (s.regs n) ≡ true = ap₂ (test true) hv hl ∙ test_is v last true e in (
      tick 1 s,
      statement_rules.after_if env (Reg (n + 5)) true (Reg n) End true (Put n (Reg (n + 5)) (Put (n + 1) (Reg (n + 3)) End)) inner s yes_,
      record {
        last = hl ∙ sym same;
        start = subst (λ (b : Bool). s.regs (n + 1) ≡ pos (if b then st else x)) (sym e) hs;
        regs = λ r a b. refl;
        bufs = refl;
        steps = omega arith;
        stuck = refl;
      },
    )
branches env n inner s x st v last hl hs hx hv false e =
    let no_ : test true (s.regs (n + 5)) (s.regs n) ≡ false = ap₂ (test true) hv hl ∙ test_is v last false e in
    let s1 = set_reg n (s.regs (n + 5)) (tick 1 (tick 1 s)) in
    let u = set_reg (n + 1) (s1.regs (n + 3)) (tick 1 s1) in
    let started : u.regs (n + 1) ≡ pos x = put_same s1.regs (n + 1) _ ∙ (put_other s.regs n _ (n + 3) (omega arith) ∙ hx) in (
      u,
      statement_rules.after_else env (Reg (n + 5)) true (Reg n) End true (Put n (Reg (n + 5)) (Put (n + 1) (Reg (n + 3)) End)) inner s no_,
      record {
        last = put_other s1.regs (n + 1) _ n (omega arith) ∙ (put_same s.regs n _ ∙ hv);
        start = subst (λ (b : Bool). u.regs (n + 1) ≡ pos (if b then st else x)) (sym e) started;
        regs = λ r a b. put_other s1.regs (n + 1) _ r (λ q. b (sym q)) ∙ put_other s.regs n _ r (λ q. a (sym q));
        bufs = refl;
        steps = omega arith;
        stuck = refl;
      },
    )

pub record Moved (n x y st : ℕ) (v before : ℤ) (s u : State) : Type 0 where
  pub last : u.regs n ≡ v
  pub start : u.regs (n + 1) ≡ pos (if int_eq v before then st else x)
  pub most : u.regs (n + 2) ≡ s.regs (n + 2)
  pub rank : u.regs (n + 3) ≡ pos x
  pub place : u.regs (n + 4) ≡ pos y
  pub regs : (r : ℕ) → r < n → u.regs r ≡ s.regs r
  pub bufs : u.bufs ≡ s.bufs
  pub steps : u.steps ≤ s.steps + 5
  pub stuck : u.stuck ≡ s.stuck

pub step_moves : (env : Env) (p k n : ℕ) (inner : Code) (s : State) (x y st : ℕ) (v last : ℤ) → s.regs n ≡ last → s.regs (n + 1) ≡ pos st → s.regs (n + 3) ≡ pos x → x < length (s.bufs p)
    → slice_index_or (s.bufs p) x (pos 0) ≡ pos y → y < length (s.bufs k) → slice_index_or (s.bufs k) y (pos 0) ≡ v → (u : State) × (exec env (run_step p k n inner) s ≡ exec env inner u) × Moved n x y st v last s u
step_moves env p k n inner s x y st v last hl hs hx lp at lk hv =
    let s1 = set_reg (n + 4) (slice_index_or (s.bufs p) x (pos 0)) (tick 1 s) in
    let s2 = set_reg (n + 5) (slice_index_or (s.bufs k) y (pos 0)) (tick 1 s1) in
    let place1 : s1.regs (n + 4) ≡ pos y = put_same s.regs (n + 4) _ ∙ at in
    let run1 : exec env (run_step p k n inner) s ≡ exec env (Load (n + 5) (buf.New k) (Reg (n + 4)) (branch n inner)) s1 =
    statement_rules.after_load env (n + 4) (buf.New p) (Reg (n + 3)) (Load (n + 5) (buf.New k) (Reg (n + 4)) (branch n inner)) s x hx lp in
    let run2 : exec env (Load (n + 5) (buf.New k) (Reg (n + 4)) (branch n inner)) s1 ≡ exec env (branch n inner) s2 = statement_rules.after_load env (n + 5) (buf.New k) (Reg (n + 4)) (branch n inner) s1 y place1 lk in
    let low : (r : ℕ) → r < n + 4 → s2.regs r ≡ s.regs r = λ r h. put_other s1.regs (n + 5) _ r (omega (arith, h)) ∙ put_other s.regs (n + 4) _ r (omega (arith, h)) in
    let w = branches env n inner s2 x st v last (low n (omega arith) ∙ hl) (low (n + 1) (omega arith) ∙ hs) (low (n + 3) (omega arith) ∙ hx) (put_same s1.regs (n + 5) _ ∙ hv) (int_eq v last) refl in
    let u = w.0 in
    let b : Branched n x st v last s2 u = w.2 in (
      u,
      run1 ∙ (run2 ∙ w.1),
      record {
        last = b.last;
        start = b.start;
        most = b.regs (n + 2) (omega arith) (omega arith) ∙ low (n + 2) (omega arith);
        rank = b.regs (n + 3) (omega arith) (omega arith) ∙ (low (n + 3) (omega arith) ∙ hx);
        place = b.regs (n + 4) (omega arith) (omega arith) ∙ (put_other s1.regs (n + 5) _ (n + 4) (omega arith) ∙ place1);
        regs = λ r h. b.regs r (omega (arith, h)) (omega (arith, h)) ∙ low r (omega (arith, h));
        bufs = b.bufs;
        steps = omega (arith, b.steps);
        stuck = b.stuck;
      },
    )

-- ---- places in runs

minus : (x st : ℕ) → st ≤ x → pos x -ℤ pos st ≡ pos (x - st)
minus x st le = omega (arith, ints, le)

place_value : (env : Env) (regs : ℕ → ℤ) (n x st : ℕ) → regs (n + 3) ≡ pos x → regs (n + 1) ≡ pos st → st ≤ x → x < 2 ^ 62 → value env regs (run_place n) ≡ pos (x - st)
place_value env regs n x st hx hs le small =
    ap₂ (λ (a b : ℤ). int_wrap w64 (a -ℤ b)) hx hs ∙ (ap (int_wrap w64) (minus x st le) ∙ wrap_small (x - st) (omega (arith, small)))

pub length_value : (env : Env) (regs : ℕ → ℤ) (n x st : ℕ) → regs (n + 3) ≡ pos x → regs (n + 1) ≡ pos st → st ≤ x → x < 2 ^ 62 → value env regs (run_length n) ≡ pos (suc x - st)
length_value env regs n x st hx hs le small =
    let one : x - st + 1 ≡ suc x - st = omega (arith, le) in
    ap (λ (z : ℤ). int_wrap w64 (z +ℤ pos 1)) (place_value env regs n x st hx hs le small) ∙ (wrap_small (x - st + 1) (omega (arith, small)) ∙ ap pos one)

pub record Kept (r k : ℕ) (s u : State) : Type 0 where
  pub most : u.regs r ≡ pos k
  pub regs : (x : ℕ) → x ≢ r → u.regs x ≡ s.regs x
  pub bufs : u.bufs ≡ s.bufs
  pub steps : u.steps ≤ s.steps + 2

-- register r keeps the greater of its number and a term's
pub keep_does : (env : Env) (r : ℕ) (e : TermTree) (s : State) (a l : ℕ) → s.regs r ≡ pos a → value env s.regs e ≡ pos l → Does env (If (Reg r) false e (Put r e End) false End End) s (Kept r (max a l) s)
keep_does env r e s a l hm hl = case (nat_lt a l) refl
  where
    more : nat_lt a l ≡ true → max a l ≡ l
    more q = let lt : a < l = grind (arith, nat_tests) in omega (arith, lt)

    same : nat_lt a l ≡ false → max a l ≡ a
    same q = let le : l ≤ a = grind (arith, nat_tests) in omega (arith, le)

    case : (b : Bool) → nat_lt a l ≡ b → Does env (If (Reg r) false e (Put r e End) false End End) s (Kept r (max a l) s)
    case true q =
        let u = set_reg r (value env s.regs e) (tick 1 (tick 1 s)) in
        let k : Kept r (max a l) s u = record { most = put_same s.regs r _ ∙ (hl ∙ ap pos (sym (more q))); regs = λ x h. put_other s.regs r _ x (λ z. h (sym z)); bufs = refl; steps = omega arith } in
        do_if_yes env (Reg r) false e (Put r e End) false End End s (Kept r (max a l) s) (ap₂ lt_z hm hl ∙ q)
        (do_put env r e End (tick 1 s) (λ u. Does env End u (Kept r (max a l) s)) (do_end env u (λ u. Does env End u (Kept r (max a l) s)) (do_end env u (Kept r (max a l) s) k)))
    case false q =
        let u = tick 1 s in
        let k : Kept r (max a l) s u = record { most = hm ∙ ap pos (sym (same q)); regs = λ x h. refl; bufs = refl; steps = omega arith } in
        do_if_no env (Reg r) false e (Put r e End) false End End s (Kept r (max a l) s) (ap₂ lt_z hm hl ∙ q)
        (do_end env u (λ u. Does env End u (Kept r (max a l) s)) (do_end env u (Kept r (max a l) s) k))

pub start_below : (none : ℤ) (v : ℕ → ℤ) (x : ℕ) → start_at none v x ≤ x
start_below none v zero = omega arith
start_below none v (suc x) = case (int_eq (v x) (last_at none v x)) (start_below none v x)
  where
    case : (b : Bool) → start_at none v x ≤ x → (if b then start_at none v x else x) ≤ suc x
    case true h = omega (arith, h)
    case false h = omega arith

pub start_le : (none : ℤ) (v : ℕ → ℤ) (x : ℕ) → start_at none v (suc x) ≤ x
start_le none v x = case (int_eq (v x) (last_at none v x)) (start_below none v x)
  where
    case : (b : Bool) → start_at none v x ≤ x → (if b then start_at none v x else x) ≤ x
    case true h = h
    case false h = omega arith

-- a cell of a column of numbers gets b
pub set_cell : (xs : List ℤ) (m c b : ℕ) (v : ℤ) (f : ℕ → ℕ) → c < length xs → v ≡ pos b → ((y : ℕ) → y < m → slice_index_or xs y (pos 0) ≡ pos (f y))
    → (y : ℕ) → y < m → slice_index_or (slice_set xs c v) y (pos 0) ≡ pos (if nat_eq c y then b else f y)
set_cell xs m c b v f lt is old y ly = case (nat_eq c y) refl
  where
    case : (q : Bool) → nat_eq c y ≡ q → slice_index_or (slice_set xs c v) y (pos 0) ≡ pos (if q then b else f y)
    case true e = let at : c ≡ y = grind (arith, nat_tests) in subst (λ (x : ℕ). slice_index_or (slice_set xs c v) x (pos 0) ≡ pos b) at (get_or-set_same xs c v (pos 0) lt ∙ is)
    case false e = let ne : y ≢ c = grind (arith, nat_tests) in get_or-set_other xs c y v (pos 0) ne ∙ old y ly

-- ---- enumerate

-- what stands in the buffers that the loops read
pub record Ordered (p k m : ℕ) (order : List ℕ) (v : ℕ → ℤ) (a : State) : Type 0 where
  pub long : length (a.bufs p) ≡ m
  pub places : (x : ℕ) → slice_index_or (a.bufs p) x (pos 0) ≡ pos (place_at order x)
  pub below : (x : ℕ) → x < m → place_at order x < m
  pub keys : length (a.bufs k) ≡ m
  pub values : (x : ℕ) → slice_index_or (a.bufs k) (place_at order x) (pos 0) ≡ v x

record Enumerating (n m z : ℕ) (order : List ℕ) (v : ℕ → ℤ) (t : ℕ) (a u : State) : Type 0 where
  pub last : u.regs n ≡ last_at (pos no_value) v t
  pub start : u.regs (n + 1) ≡ pos (start_at (pos no_value) v t)
  pub most : u.regs (n + 2) ≡ pos (most_at (pos no_value) v t)
  pub long : length (u.bufs z) ≡ m
  pub ranks : (y : ℕ) → y < m → slice_index_or (u.bufs z) y (pos 0) ≡ pos (filled_at order (λ x. x - start_at (pos no_value) v (suc x)) t y)
  pub others : (b : ℕ) → b ≢ z → u.bufs b ≡ a.bufs b
  pub regs : (r : ℕ) → r < n → u.regs r ≡ a.regs r
  pub steps : u.steps ≤ a.steps + 1 + t * 9

enumerate_turns : (env : Env) (k p z n m : ℕ) (order : List ℕ) (v : ℕ → ℤ) (a : State) → m < 2 ^ 62 → k ≢ z → p ≢ z → Ordered p k m order v a → (t : ℕ) (u : State) → t < m → Enumerating n m z order v t a u
    → Does env (enumerate_turn p k z n) (set_reg (n + 3) (pos t) (tick 1 u)) (Enumerating n m z order v (suc t) a)
enumerate_turns env k p z n m order v a small kz pz o t u lt i =
    let none = pos no_value in
    let y = place_at order t in
    let u1 = set_reg (n + 3) (pos t) (tick 1 u) in
    let ps : u.bufs p ≡ a.bufs p = i.others p pz in
    let ks : u.bufs k ≡ a.bufs k = i.others k kz in
    let ly : y < m = o.below t lt in
    let w = step_moves env p k n (Set (buf.New z) (Reg (n + 4)) (run_place n) (longest n)) u1 t y (start_at none v t) (v t) (last_at none v t) (put_other u.regs (n + 3) _ n (omega arith) ∙ i.last) (put_other u.regs (n + 3) _ (n + 1) (omega arith) ∙ i.start) (put_same u.regs (n + 3) _)
    (subst (λ (xs : List ℤ). t < length xs) (sym ps) (omega (arith, lt, o.long))) (ap (λ (xs : List ℤ). slice_index_or xs t (pos 0)) ps ∙ o.places t) (subst (λ (xs : List ℤ). y < length xs) (sym ks) (omega (arith, ly, o.keys)))
    (ap (λ (xs : List ℤ). slice_index_or xs y (pos 0)) ks ∙ o.values t) in
    let u2 = w.0 in
    let mv : Moved n t y (start_at none v t) (v t) (last_at none v t) u1 u2 = w.2 in
    let st = start_at none v (suc t) in
    let le : st ≤ t = start_le none v t in
    let pv : value env u2.regs (run_place n) ≡ pos (t - st) = place_value env u2.regs n t st mv.rank mv.start le (omega (arith, lt, small)) in
    let lv : value env u2.regs (run_length n) ≡ pos (suc t - st) = length_value env u2.regs n t st mv.rank mv.start le (omega (arith, lt, small)) in
    let u3 = set_buf z (slice_set (u2.bufs z) y (value env u2.regs (run_place n))) (tick 1 u2) in
    let long2 : length (u2.bufs z) ≡ m = ap (λ (f : ℕ → List ℤ). length (f z)) mv.bufs ∙ i.long in
    let room : y < length (u2.bufs z) = omega (arith, ly, long2) in
    let now : u3.bufs z ≡ slice_set (u2.bufs z) y (value env u2.regs (run_place n)) = put_same u2.bufs z _ in
    let old : (c : ℕ) → c < m → slice_index_or (u2.bufs z) c (pos 0) ≡ pos (filled_at order (λ x. x - start_at none v (suc x)) t c) = λ c lc. ap (λ (f : ℕ → List ℤ). slice_index_or (f z) c (pos 0)) mv.bufs ∙ i.ranks c lc in
    let most3 : u3.regs (n + 2) ≡ pos (most_at none v t) = mv.most ∙ (put_other u.regs (n + 3) _ (n + 2) (omega arith) ∙ i.most) in
    let done : (x : State) → Kept (n + 2) (max (most_at none v t) (suc t - st)) u3 x → Enumerating n m z order v (suc t) a x = λ x l. record {
      last = l.regs n (omega arith) ∙ mv.last;
      start = l.regs (n + 1) (omega arith) ∙ mv.start;
      most = l.most;
      long = ap (λ (f : ℕ → List ℤ). length (f z)) l.bufs ∙ (ap (λ (xs : List ℤ). length xs) now ∙ (length-set (u2.bufs z) y _ ∙ long2));
      ranks = λ c lc. ap (λ (f : ℕ → List ℤ). slice_index_or (f z) c (pos 0)) l.bufs ∙ (ap (λ (xs : List ℤ). slice_index_or xs c (pos 0)) now ∙ set_cell (u2.bufs z) m y (t - st) _ (filled_at order (λ x. x - start_at none v (suc x)) t) room pv old c lc);
      others = λ b h. ap (λ (f : ℕ → List ℤ). f b) l.bufs ∙ (put_other u2.bufs z _ b (λ q. h (sym q)) ∙ (ap (λ (f : ℕ → List ℤ). f b) mv.bufs ∙ i.others b h));
      regs = λ r h. l.regs r (omega (arith, h)) ∙ (mv.regs r h ∙ (put_other u.regs (n + 3) _ r (omega (arith, h)) ∙ i.regs r h));
      steps = omega (arith, l.steps, mv.steps, i.steps);
    } in
    does_from env (enumerate_turn p k z n) (Set (buf.New z) (Reg (n + 4)) (run_place n) (longest n)) u1 u2 (Enumerating n m z order v (suc t) a) w.1 mv.stuck
    (do_set env z (Reg (n + 4)) (run_place n) (longest n) u2 (Enumerating n m z order v (suc t) a) y mv.place room
    (do_weaker env (longest n) u3 (Kept (n + 2) (max (most_at none v t) (suc t - st)) u3) (Enumerating n m z order v (suc t) a) done (keep_does env (n + 2) (run_length n) u3 (most_at none v t) (suc t - st) most3 lv)))

-- behind the order, and behind the variables
abbrev behind_order : ℕ → List ℤ → ℕ → State → State
behind_order p xs cost s = set_buf p xs (tick cost s)

abbrev behind_var : ℕ → ℕ → State → State
behind_var r x s = set_reg r (pos x) (tick 1 s)

record Ended (n m k p z w : ℕ) (order : List ℕ) (v : ℕ → ℤ) (keys : ℕ) (s u : State) : Type 0 where
  pub long : length (u.bufs z) ≡ m
  pub ranks : (y : ℕ) → y < m → slice_index_or (u.bufs z) y (pos 0) ≡ pos (filled_at order (λ x. x - start_at (pos no_value) v (suc x)) m y)
  pub wide : length (u.bufs w) ≡ 1
  pub extent : slice_index_or (u.bufs w) 0 (pos 0) ≡ pos (most_at (pos no_value) v m)
  pub others : (b : ℕ) → b ≢ p → b ≢ z → b ≢ w → u.bufs b ≡ s.bufs b
  pub regs : (r : ℕ) → r < n → u.regs r ≡ s.regs r
  pub steps : u.steps ≤ s.steps + m * keys + m * 9 + 6

-- what the order leaves
pub ordered_ok : (env : Env) (keys : List Buf) (p k m : ℕ) (s : State) → length (s.bufs p) ≡ m → length (s.bufs k) ≡ m → k ≢ p
    → Ordered p k m (order_by env s keys m) (value_by s k (order_by env s keys m)) (set_buf p (map pos (ordered (map (cells env s) keys) (length (s.bufs p)))) (tick (length (s.bufs p) * length keys + 1) s))
ordered_ok env keys p k m s hp hk kp =
    let lists = map (cells env s) keys in
    let order = ordered lists m in
    let at : put s.bufs p (map pos (ordered lists (length (s.bufs p)))) p ≡ map pos order = put_same s.bufs p _ ∙ ap (λ (x : ℕ). map pos (ordered lists x)) hp in
    let other : put s.bufs p (map pos (ordered lists (length (s.bufs p)))) k ≡ s.bufs k = put_other s.bufs p _ k (λ q. kp (sym q)) in
    record {
      long = ap (λ (xs : List ℤ). length xs) at ∙ length_ordered lists m;
      places = λ x. ap (λ (xs : List ℤ). slice_index_or xs x (pos 0)) at ∙ ordered_cell lists m x;
      below = λ x lt. ordered_lt lists m x lt;
      keys = ap (λ (xs : List ℤ). length xs) other ∙ hk;
      values = λ x. ap (λ (xs : List ℤ). slice_index_or xs (place_at order x) (pos 0)) other;
    }

enumerate_does : (env : Env) (cs : Columns) (k p z w n m : ℕ) (s : State) → env.dims cs.count ≡ m → m < 2 ^ 62 → length (s.bufs p) ≡ m → all_long m (map (cells env s) (row_major cs k)) ≡ true
    → length (s.bufs k) ≡ m → IsZeros (s.bufs z) m → length (s.bufs w) ≡ 1 → k ≢ p → k ≢ z → p ≢ z → w ≢ z → w ≢ p
    → Does env (enumerate cs k p z w n) s (Ended n m k p z w (order_by env s (row_major cs k) m) (value_by s k (order_by env s (row_major cs k) m)) (length (row_major cs k)) s)
enumerate_does env cs k p z w n m s count small hp al hk hz hw kp kz pz wz wp =
    let keys = row_major cs k in
    let order = order_by env s keys m in
    let v = value_by s k order in
    let Q = Ended n m k p z w order v (length keys) s in
    let s1 = set_buf p (map pos (ordered (map (cells env s) keys) (length (s.bufs p)))) (tick (length (s.bufs p) * length keys + 1) s) in
    let s2 = set_reg n (pos no_value) (tick 1 s1) in
    let s3 = set_reg (n + 1) (pos 0) (tick 1 s2) in
    let a = set_reg (n + 2) (pos 0) (tick 1 s3) in
    let o1 = ordered_ok env keys p k m s hp hk kp in
    let o : Ordered p k m order v a = record { long = o1.long; places = o1.places; below = o1.below; keys = o1.keys; values = o1.values } in
    let zs : a.bufs z ≡ s.bufs z = put_other s.bufs p _ z pz in
    let ws : a.bufs w ≡ s.bufs w = put_other s.bufs p _ w (λ q. wp (sym q)) in
    let base : Enumerating n m z order v 0 a (tick 1 a) = record {
      last = put_other s3.regs (n + 2) _ n (omega arith) ∙ (put_other s2.regs (n + 1) _ n (omega arith) ∙ put_same s1.regs n _);
      start = put_other s3.regs (n + 2) _ (n + 1) (omega arith) ∙ put_same s2.regs (n + 1) _;
      most = put_same s3.regs (n + 2) _;
      long = ap (λ (xs : List ℤ). length xs) zs ∙ hz.long;
      ranks = λ y ly. ap (λ (xs : List ℤ). slice_index_or xs y (pos 0)) zs ∙ hz.cells y ly;
      others = λ b h. refl;
      regs = λ r h. refl;
      steps = omega arith;
    } in
    let long : all_long (length (s.bufs p)) (map (cells env s) keys) ≡ true = ap (λ (x : ℕ). all_long x (map (cells env s) keys)) hp ∙ al in
    let cost : length (s.bufs p) * length keys ≡ m * length keys = ap (λ (x : ℕ). x * length keys) hp in
    let end : (u : State) → Enumerating n m z order v (env.dims cs.count) a u → Does env (Set (buf.New w) (Number 0) (Reg (n + 2)) End) u Q = λ u i0.
    let i : Enumerating n m z order v m a u = subst (λ (x : ℕ). Enumerating n m z order v x a u) count i0 in
    let wide : length (u.bufs w) ≡ 1 = ap (λ (xs : List ℤ). length xs) (i.others w wz ∙ ws) ∙ hw in
    let u1 = set_buf w (slice_set (u.bufs w) 0 (u.regs (n + 2))) (tick 1 u) in
    let now : u1.bufs w ≡ slice_set (u.bufs w) 0 (u.regs (n + 2)) = put_same u.bufs w _ in
    let zz : u1.bufs z ≡ u.bufs z = put_other u.bufs w _ z wz in
    let q : Ended n m k p z w order v (length keys) s u1 = record {
      long = ap (λ (xs : List ℤ). length xs) zz ∙ i.long;
      ranks = λ y ly. ap (λ (xs : List ℤ). slice_index_or xs y (pos 0)) zz ∙ i.ranks y ly;
      wide = ap (λ (xs : List ℤ). length xs) now ∙ (length-set (u.bufs w) 0 _ ∙ wide);
      extent = ap (λ (xs : List ℤ). slice_index_or xs 0 (pos 0)) now ∙ (get_or-set_same (u.bufs w) 0 _ (pos 0) (omega (arith, wide)) ∙ i.most);
      others = λ b hp hz hw. put_other u.bufs w _ b (λ q. hw (sym q)) ∙ (i.others b hz ∙ put_other s.bufs p _ b (λ q. hp (sym q)));
      regs = λ r h. i.regs r h ∙ (put_other s3.regs (n + 2) _ r (omega (arith, h)) ∙ (put_other s2.regs (n + 1) _ r (omega (arith, h)) ∙ put_other s1.regs n _ r (omega (arith, h))));
      steps = omega (arith, i.steps, cost);
    } in
    do_set env w (Number 0) (Reg (n + 2)) End u Q 0 refl (omega (arith, wide)) (do_end env u1 Q q) in
    do_order env p keys (Var n (Number no_value) (Var (n + 1) (Number 0) (Var (n + 2) (Number 0) (For (n + 3) (dim.Name cs.count) (enumerate_turn p k z n) (Set (buf.New w) (Number 0) (Reg (n + 2)) End))))) s Q long
    (do_var env n (Number no_value) (Var (n + 1) (Number 0) (Var (n + 2) (Number 0) (For (n + 3) (dim.Name cs.count) (enumerate_turn p k z n) (Set (buf.New w) (Number 0) (Reg (n + 2)) End)))) s1 Q
    (do_var env (n + 1) (Number 0) (Var (n + 2) (Number 0) (For (n + 3) (dim.Name cs.count) (enumerate_turn p k z n) (Set (buf.New w) (Number 0) (Reg (n + 2)) End))) s2 Q
    (do_var env (n + 2) (Number 0) (For (n + 3) (dim.Name cs.count) (enumerate_turn p k z n) (Set (buf.New w) (Number 0) (Reg (n + 2)) End)) s3 Q
    (do_for env (n + 3) (dim.Name cs.count) (enumerate_turn p k z n) (Set (buf.New w) (Number 0) (Reg (n + 2)) End) a Q (λ t u. Enumerating n m z order v t a u) base
    (λ t u lt i. enumerate_turns env k p z n m order v a small kz pz o t u (omega (arith, lt, count)) i) end))))

pub enumerates : Enumerates
enumerates env cs k p z w n m s count small hp al hk hz hw kp kz pz wz wp =
    let d = enumerate_does env cs k p z w n m s count small hp al hk hz hw kp kz pz wz wp in
    let q = d.post in
    record { long = q.long; ranks = q.ranks; wide = q.wide; extent = q.extent; others = q.others; regs = q.regs; steps = q.steps; stuck = d.calm }
