-- What the loops that sum do.
use Rattle.std.proofs.Common.{◌≡◌, ◌≢◌, ℕ, zero, suc, ◌+◌, ◌-◌, ◌*◌, ◌^◌, ◌<◌, ◌≤◌, Bool, true, false, nat_eq, refl, sym, ap, ◌∙◌, subst, arith, List, [], ◌∷◌, map, length, ℤ, pos, ◌⊎◌, inl, inr, if◌then◌else◌}
use Rattle.std.specs.Prelude.{slice_index_or, slice_set}
use Rattle.std.proofs.lemmas.Bool.{cases_eq}
use Rattle.std.proofs.lemmas.Bool.Decides.{nat_tests}
use Rattle.std.proofs.lemmas.List.{length-set, get_or-set_same, get_or-set_other}
use Rattle.us_code.specs.declared.program.Dim.TheVariants as dim
use Rattle.us_code.specs.declared.program.Buf.TheVariants as buf
use Rattle.us_code.specs.declared.pieces.Columns.{Columns}
use Rattle.us_code.specs.Plain.{Number, Reg, End, Load, Var, Set, For, When}
use Rattle.us_code.specs.Run.{Env, State, tick, set_reg, set_buf, cells, value, all_long}
use Rattle.us_code.specs.Sort.{ordered}
use Rattle.us_code_laws.specs.Does.{Does}
use Rattle.us_code_laws.proofs.Sequence.{put_same, put_other}
use Rattle.us_code_laws.proofs.Does.{do_end, do_set, do_load, do_for, do_when, do_var, do_order}
use Rattle.us_query_loops.specs.Sorted.{place_at}
use Rattle.us_query_loops.specs.Runs.{last_at, start_at, length_at, filled_at}
use Rattle.us_gen_query.specs.Counting.{no_value, run_length, sum_turn, look_up, sum, order_by, value_by, IsZeros, Sums}
use Rattle.us_gen_query.proofs.CountsRun.{Moved, step_moves, does_from, set_cell, start_le, length_value, Ordered, ordered_ok}

-- ---- the starts of the runs, and their lengths at the starts

record Summing (n m z t : ℕ) (order : List ℕ) (v : ℕ → ℤ) (x : ℕ) (a u : State) : Type 0 where
  pub last : u.regs n ≡ last_at (pos no_value) v x
  pub start : u.regs (n + 1) ≡ pos (start_at (pos no_value) v x)
  pub long : length (u.bufs z) ≡ m
  pub starts : (y : ℕ) → y < m → slice_index_or (u.bufs z) y (pos 0) ≡ pos (filled_at order (λ q. start_at (pos no_value) v (suc q)) x y)
  pub wide : length (u.bufs t) ≡ m
  pub lengths : (g : ℕ) → g < m → slice_index_or (u.bufs t) g (pos 0) ≡ pos (length_at (pos no_value) v x g)
  pub others : (b : ℕ) → b ≢ z → b ≢ t → u.bufs b ≡ a.bufs b
  pub regs : (r : ℕ) → r < n → u.regs r ≡ a.regs r
  pub steps : u.steps ≤ a.steps + 1 + x * 9

sum_turns : (env : Env) (cs : Columns) (k p z t n m : ℕ) (order : List ℕ) (v : ℕ → ℤ) (a : State) → env.dims cs.count ≡ m → m < 2 ^ 62 → k ≢ z → k ≢ t → p ≢ z → p ≢ t → t ≢ z → Ordered p k m order v a → (x : ℕ) (u : State) → x < m → Summing n m z t order v x a u
    → Does env (sum_turn cs p k z t n) (set_reg (n + 3) (pos x) (tick 1 u)) (Summing n m z t order v (suc x) a)
sum_turns env cs k p z t n m order v a count small kz kt pz pt tz o x u lt i =
    let none = pos no_value in
    let y = place_at order x in
    let u1 = set_reg (n + 3) (pos x) (tick 1 u) in
    let ps : u.bufs p ≡ a.bufs p = i.others p pz pt in
    let ks : u.bufs k ≡ a.bufs k = i.others k kz kt in
    let ly : y < m = o.below x lt in
    let body = Set (buf.New t) (Reg (n + 6)) (run_length n) End in
    let inner = Set (buf.New z) (Reg (n + 4)) (Reg (n + 1)) (When (Reg (n + 1)) (dim.Name cs.count) (n + 6) body false End End) in
    let Q = Summing n m z t order v (suc x) a in
    let w = step_moves env p k n inner u1 x y (start_at none v x) (v x) (last_at none v x) (put_other u.regs (n + 3) _ n (omega arith) ∙ i.last) (put_other u.regs (n + 3) _ (n + 1) (omega arith) ∙ i.start) (put_same u.regs (n + 3) _)
    (subst (λ (xs : List ℤ). x < length xs) (sym ps) (omega (arith, lt, o.long))) (ap (λ (xs : List ℤ). slice_index_or xs x (pos 0)) ps ∙ o.places x) (subst (λ (xs : List ℤ). y < length xs) (sym ks) (omega (arith, ly, o.keys)))
    (ap (λ (xs : List ℤ). slice_index_or xs y (pos 0)) ks ∙ o.values x) in
    let u2 = w.0 in
    let mv : Moved n x y (start_at none v x) (v x) (last_at none v x) u1 u2 = w.2 in
    let st = start_at none v (suc x) in
    let le : st ≤ x = start_le none v x in
    let u3 = set_buf z (slice_set (u2.bufs z) y (u2.regs (n + 1))) (tick 1 u2) in
    let u4 = set_reg (n + 6) (pos st) (tick 1 u3) in
    let rank4 : u4.regs (n + 3) ≡ pos x = put_other u3.regs (n + 6) _ (n + 3) (omega arith) ∙ mv.rank in
    let start4 : u4.regs (n + 1) ≡ pos st = put_other u3.regs (n + 6) _ (n + 1) (omega arith) ∙ mv.start in
    let lv : value env u4.regs (run_length n) ≡ pos (suc x - st) = length_value env u4.regs n x st rank4 start4 le (omega (arith, lt, small)) in
    let u5 = set_buf t (slice_set (u4.bufs t) st (value env u4.regs (run_length n))) (tick 1 u4) in
    let long2 : length (u2.bufs z) ≡ m = ap (λ (f : ℕ → List ℤ). length (f z)) mv.bufs ∙ i.long in
    let ts : u4.bufs t ≡ u2.bufs t = put_other u2.bufs z _ t (λ q. tz (sym q)) in
    let wide4 : length (u4.bufs t) ≡ m = ap (λ (xs : List ℤ). length xs) ts ∙ (ap (λ (f : ℕ → List ℤ). length (f t)) mv.bufs ∙ i.wide) in
    let room : y < length (u2.bufs z) = omega (arith, ly, long2) in
    let room4 : st < length (u4.bufs t) = omega (arith, le, lt, wide4) in
    let now : u4.bufs z ≡ slice_set (u2.bufs z) y (u2.regs (n + 1)) = put_same u2.bufs z _ in
    let z5 : u5.bufs z ≡ slice_set (u2.bufs z) y (u2.regs (n + 1)) = put_other u4.bufs t _ z tz ∙ now in
    let t5 : u5.bufs t ≡ slice_set (u4.bufs t) st (value env u4.regs (run_length n)) = put_same u4.bufs t _ in
    let old_z : (c : ℕ) → c < m → slice_index_or (u2.bufs z) c (pos 0) ≡ pos (filled_at order (λ q. start_at none v (suc q)) x c) = λ c lc. ap (λ (f : ℕ → List ℤ). slice_index_or (f z) c (pos 0)) mv.bufs ∙ i.starts c lc in
    let old_t : (c : ℕ) → c < m → slice_index_or (u4.bufs t) c (pos 0) ≡ pos (length_at none v x c) = λ c lc. ap (λ (xs : List ℤ). slice_index_or xs c (pos 0)) ts ∙ (ap (λ (f : ℕ → List ℤ). slice_index_or (f t) c (pos 0)) mv.bufs ∙ i.lengths c lc) in
    let done : Summing n m z t order v (suc x) a u5 = record {
      last = put_other u3.regs (n + 6) _ n (omega arith) ∙ mv.last;
      start = start4;
      long = ap (λ (xs : List ℤ). length xs) z5 ∙ (length-set (u2.bufs z) y _ ∙ long2);
      starts = λ c lc. ap (λ (xs : List ℤ). slice_index_or xs c (pos 0)) z5 ∙ set_cell (u2.bufs z) m y st _ (filled_at order (λ q. start_at none v (suc q)) x) room mv.start old_z c lc;
      wide = ap (λ (xs : List ℤ). length xs) t5 ∙ (length-set (u4.bufs t) st _ ∙ wide4);
      lengths = λ c lc. ap (λ (xs : List ℤ). slice_index_or xs c (pos 0)) t5 ∙ set_cell (u4.bufs t) m st (suc x - st) _ (length_at none v x) room4 lv old_t c lc;
      others = λ b hz ht. put_other u4.bufs t _ b (λ q. ht (sym q)) ∙ (put_other u2.bufs z _ b (λ q. hz (sym q)) ∙ (ap (λ (f : ℕ → List ℤ). f b) mv.bufs ∙ i.others b hz ht));
      regs = λ r h. put_other u3.regs (n + 6) _ r (omega (arith, h)) ∙ (mv.regs r h ∙ (put_other u.regs (n + 3) _ r (omega (arith, h)) ∙ i.regs r h));
      steps = omega (arith, mv.steps, i.steps);
    } in
    does_from env (sum_turn cs p k z t n) inner u1 u2 Q w.1 mv.stuck
    (do_set env z (Reg (n + 4)) (Reg (n + 1)) (When (Reg (n + 1)) (dim.Name cs.count) (n + 6) body false End End) u2 Q y mv.place room
    (do_when env (Reg (n + 1)) (dim.Name cs.count) (n + 6) body false End End u3 Q st mv.start (omega (arith, le, lt, count))
    (do_set env t (Reg (n + 6)) (run_length n) End u4 (λ u. Does env End u Q) st (put_same u3.regs (n + 6) _) room4
    (do_end env u5 (λ u. Does env End u Q) (do_end env u5 Q done)))))

-- ---- what stands at the starts

record Looked (n m z t : ℕ) (F L : ℕ → ℕ) (x : ℕ) (a u : State) : Type 0 where
  pub long : length (u.bufs z) ≡ m
  pub early : (y : ℕ) → y < x → slice_index_or (u.bufs z) y (pos 0) ≡ pos (L (F y))
  pub late : (y : ℕ) → x ≤ y → y < m → slice_index_or (u.bufs z) y (pos 0) ≡ pos (F y)
  pub others : (b : ℕ) → b ≢ z → u.bufs b ≡ a.bufs b
  pub regs : (r : ℕ) → r < n → u.regs r ≡ a.regs r
  pub steps : u.steps ≤ a.steps + 1 + x * 5

look_turns : (env : Env) (cs : Columns) (z t n m : ℕ) (F L : ℕ → ℕ) (a : State) → env.dims cs.count ≡ m → t ≢ z → length (a.bufs t) ≡ m → ((y : ℕ) → y < m → F y < m) → ((g : ℕ) → g < m → slice_index_or (a.bufs t) g (pos 0) ≡ pos (L g)) → (x : ℕ) (u : State) → x < m → Looked n m z t F L x a u
    → Does env (Load (n + 1) (buf.New z) (Reg n) (When (Reg (n + 1)) (dim.Name cs.count) (n + 2) (Load (n + 3) (buf.New t) (Reg (n + 2)) (Set (buf.New z) (Reg n) (Reg (n + 3)) End)) false End End)) (set_reg n (pos x) (tick 1 u)) (Looked n m z t F L (suc x) a)
look_turns env cs z t n m F L a count tz wide below at x u lt i =
    let Q = Looked n m z t F L (suc x) a in
    let g = F x in
    let lg : g < m = below x lt in
    let body = Load (n + 3) (buf.New t) (Reg (n + 2)) (Set (buf.New z) (Reg n) (Reg (n + 3)) End) in
    let rest = When (Reg (n + 1)) (dim.Name cs.count) (n + 2) body false End End in
    let u1 = set_reg n (pos x) (tick 1 u) in
    let u2 = set_reg (n + 1) (slice_index_or (u1.bufs z) x (pos 0)) (tick 1 u1) in
    let u3 = set_reg (n + 2) (pos g) (tick 1 u2) in
    let u4 = set_reg (n + 3) (slice_index_or (u3.bufs t) g (pos 0)) (tick 1 u3) in
    let u5 = set_buf z (slice_set (u4.bufs z) x (u4.regs (n + 3))) (tick 1 u4) in
    let read : u2.regs (n + 1) ≡ pos g = put_same u1.regs (n + 1) _ ∙ i.late x (omega arith) lt in
    let place4 : u4.regs n ≡ pos x = put_other u3.regs (n + 3) _ n (omega arith) ∙ (put_other u2.regs (n + 2) _ n (omega arith) ∙ (put_other u1.regs (n + 1) _ n (omega arith) ∙ put_same u.regs n _)) in
    let ts : u.bufs t ≡ a.bufs t = i.others t tz in
    let room3 : g < length (u3.bufs t) = subst (λ (xs : List ℤ). g < length xs) (sym ts) (omega (arith, lg, wide)) in
    let value4 : u4.regs (n + 3) ≡ pos (L g) = put_same u3.regs (n + 3) _ ∙ (ap (λ (xs : List ℤ). slice_index_or xs g (pos 0)) ts ∙ at g lg) in
    let room : x < length (u.bufs z) = omega (arith, lt, i.long) in
    let now : u5.bufs z ≡ slice_set (u.bufs z) x (u4.regs (n + 3)) = put_same u4.bufs z _ in
    let done : Looked n m z t F L (suc x) a u5 = record {
      long = ap (λ (xs : List ℤ). length xs) now ∙ (length-set (u.bufs z) x _ ∙ i.long);
      early = λ y ly. ap (λ (xs : List ℤ). slice_index_or xs y (pos 0)) now ∙ early y ly (u4.regs (n + 3)) value4 room (cases_eq y x);
      late = λ y ly lm. ap (λ (xs : List ℤ). slice_index_or xs y (pos 0)) now ∙ (get_or-set_other (u.bufs z) x y _ (pos 0) (omega (arith, ly)) ∙ i.late y (omega (arith, ly)) lm);
      others = λ b h. put_other u4.bufs z _ b (λ q. h (sym q)) ∙ i.others b h;
      regs = λ r h. put_other u3.regs (n + 3) _ r (omega (arith, h)) ∙ (put_other u2.regs (n + 2) _ r (omega (arith, h)) ∙ (put_other u1.regs (n + 1) _ r (omega (arith, h)) ∙ (put_other u.regs n _ r (omega (arith, h)) ∙ i.regs r h)));
      steps = omega (arith, i.steps);
    } in
    do_load env (n + 1) (buf.New z) (Reg n) rest u1 Q x (put_same u.regs n _) room
    (do_when env (Reg (n + 1)) (dim.Name cs.count) (n + 2) body false End End u2 Q g read (omega (arith, lg, count))
    (do_load env (n + 3) (buf.New t) (Reg (n + 2)) (Set (buf.New z) (Reg n) (Reg (n + 3)) End) u3 (λ u. Does env End u Q) g (put_same u2.regs (n + 2) _) room3
    (do_set env z (Reg n) (Reg (n + 3)) End u4 (λ u. Does env End u Q) x place4 room
    (do_end env u5 (λ u. Does env End u Q) (do_end env u5 Q done)))))
  where
    early : (y : ℕ) → y < suc x → (v : ℤ) → v ≡ pos (L (F x)) → x < length (u.bufs z) → (y ≡ x) ⊎ (y ≢ x) → slice_index_or (slice_set (u.bufs z) x v) y (pos 0) ≡ pos (L (F y))
    early y ly v is room (inl q) = subst (λ (c : ℕ). slice_index_or (slice_set (u.bufs z) x v) c (pos 0) ≡ pos (L (F c))) (sym q) (get_or-set_same (u.bufs z) x v (pos 0) room ∙ is)
    early y ly v is room (inr q) = get_or-set_other (u.bufs z) x y v (pos 0) q ∙ i.early y (omega (arith, ly, q))

-- numbers that are no greater than their rank stay below the number of entries
filled_below : (order : List ℕ) (f : ℕ → ℕ) (m x y : ℕ) → ((q : ℕ) → f q ≤ q) → x ≤ m → 0 < m → filled_at order f x y < m
filled_below order f m zero y le lm some = some
filled_below order f m (suc x) y le lm some = case (nat_eq (place_at order x) y) (filled_below order f m x y le (omega (arith, lm)) some) (le x)
  where
    case : (b : Bool) → filled_at order f x y < m → f x ≤ x → (if b then f x else filled_at order f x y) < m
    case true h k = omega (arith, k, lm)
    case false h k = h

-- ---- the whole

record Ended (n m p z t : ℕ) (order : List ℕ) (v : ℕ → ℤ) (s u : State) : Type 0 where
  pub long : length (u.bufs z) ≡ m
  pub lengths : (y : ℕ) → y < m → slice_index_or (u.bufs z) y (pos 0) ≡ pos (length_at (pos no_value) v m (filled_at order (λ x. start_at (pos no_value) v (suc x)) m y))
  pub others : (b : ℕ) → b ≢ p → b ≢ z → b ≢ t → u.bufs b ≡ s.bufs b
  pub regs : (r : ℕ) → r < n → u.regs r ≡ s.regs r
  pub steps : u.steps ≤ s.steps + m * 15 + 5

sum_does : (env : Env) (cs : Columns) (k p z t n m : ℕ) (s : State) → env.dims cs.count ≡ m → m < 2 ^ 62 → length (s.bufs p) ≡ m → length (s.bufs k) ≡ m
    → IsZeros (s.bufs z) m → IsZeros (s.bufs t) m → k ≢ p → k ≢ z → k ≢ t → p ≢ z → p ≢ t → t ≢ z
    → Does env (sum cs k p z t n) s (Ended n m p z t (order_by env s (buf.New k ∷ []) m) (value_by s k (order_by env s (buf.New k ∷ []) m)) s)
sum_does env cs k p z t n m s count small hp hk hz ht kp kz kt pz pt tz =
    let none = pos no_value in
    let keys = buf.New k ∷ [] in
    let order = order_by env s keys m in
    let v = value_by s k order in
    let F : ℕ → ℕ = λ y. filled_at order (λ x. start_at none v (suc x)) m y in
    let L : ℕ → ℕ = λ g. length_at none v m g in
    let Q = Ended n m p z t order v s in
    let s1 = set_buf p (map pos (ordered (map (cells env s) keys) (length (s.bufs p)))) (tick (length (s.bufs p) * length keys + 1) s) in
    let s2 = set_reg n (pos no_value) (tick 1 s1) in
    let a = set_reg (n + 1) (pos 0) (tick 1 s2) in
    let o1 = ordered_ok env keys p k m s hp hk kp in
    let o : Ordered p k m order v a = record { long = o1.long; places = o1.places; below = o1.below; keys = o1.keys; values = o1.values } in
    let zs : a.bufs z ≡ s.bufs z = put_other s.bufs p _ z pz in
    let ts : a.bufs t ≡ s.bufs t = put_other s.bufs p _ t pt in
    let base : Summing n m z t order v 0 a (tick 1 a) = record {
      last = put_other s2.regs (n + 1) _ n (omega arith) ∙ put_same s1.regs n _;
      start = put_same s2.regs (n + 1) _;
      long = ap (λ (xs : List ℤ). length xs) zs ∙ hz.long;
      starts = λ y ly. ap (λ (xs : List ℤ). slice_index_or xs y (pos 0)) zs ∙ hz.cells y ly;
      wide = ap (λ (xs : List ℤ). length xs) ts ∙ ht.long;
      lengths = λ y ly. ap (λ (xs : List ℤ). slice_index_or xs y (pos 0)) ts ∙ ht.cells y ly;
      others = λ b h k. refl;
      regs = λ r h. refl;
      steps = omega arith;
    } in
    let long : all_long (length (s.bufs p)) (map (cells env s) keys) ≡ true = let same : length (s.bufs k) ≡ length (s.bufs p) = omega (arith, hk, hp) in grind (arith, nat_tests) in
    let cost : length (s.bufs p) * length keys ≡ m = ap (λ (x : ℕ). x * 1) hp ∙ omega arith in
    let N = n + 7 in
    let end : (e : State) → Summing n m z t order v (env.dims cs.count) a e → Does env (look_up cs z t N) e Q = λ e i0.
    let i : Summing n m z t order v m a e = subst (λ (x : ℕ). Summing n m z t order v x a e) count i0 in
    let below : (y : ℕ) → y < m → F y < m = λ y ly. filled_below order (λ x. start_at none v (suc x)) m m y (start_le none v) (omega arith) (omega (arith, ly)) in
    let first : Looked N m z t F L 0 e (tick 1 e) = record { long = i.long; early = λ y ly. absurd (omega (arith, ly)); late = λ y ly lm. i.starts y lm; others = λ b h. refl; regs = λ r h. refl; steps = omega arith } in
    let last : (u : State) → Looked N m z t F L (env.dims cs.count) e u → Does env End u Q = λ u j0.
    let j : Looked N m z t F L m e u = subst (λ (x : ℕ). Looked N m z t F L x e u) count j0 in
    do_end env u Q record {
      long = j.long;
      lengths = j.early;
      others = λ b hp hz ht. j.others b hz ∙ (i.others b hz ht ∙ put_other s.bufs p _ b (λ q. hp (sym q)));
      regs = λ r h. j.regs r (omega (arith, h)) ∙ (i.regs r h ∙ (put_other s2.regs (n + 1) _ r (omega (arith, h)) ∙ put_other s1.regs n _ r (omega (arith, h))));
      steps = omega (arith, i.steps, j.steps, cost);
    } in
    do_for env N (dim.Name cs.count) (Load (N + 1) (buf.New z) (Reg N) (When (Reg (N + 1)) (dim.Name cs.count) (N + 2) (Load (N + 3) (buf.New t) (Reg (N + 2)) (Set (buf.New z) (Reg N) (Reg (N + 3)) End)) false End End)) End e Q (λ x u. Looked N m z t F L x e u) first
    (λ x u lt j. look_turns env cs z t N m F L e count tz i.wide below i.lengths x u (omega (arith, lt, count)) j) last in
    do_order env p keys (Var n (Number no_value) (Var (n + 1) (Number 0) (For (n + 3) (dim.Name cs.count) (sum_turn cs p k z t n) (look_up cs z t N)))) s Q long
    (do_var env n (Number no_value) (Var (n + 1) (Number 0) (For (n + 3) (dim.Name cs.count) (sum_turn cs p k z t n) (look_up cs z t N))) s1 Q
    (do_var env (n + 1) (Number 0) (For (n + 3) (dim.Name cs.count) (sum_turn cs p k z t n) (look_up cs z t N)) s2 Q
    (do_for env (n + 3) (dim.Name cs.count) (sum_turn cs p k z t n) (look_up cs z t N) a Q (λ x u. Summing n m z t order v x a u) base
    (λ x u lt i. sum_turns env cs k p z t n m order v a count small kz kt pz pt tz o x u (omega (arith, lt, count)) i) end)))

pub sums : Sums
sums env cs k p z t n m s count small hp hk hz ht kp kz kt pz pt tz =
    let d = sum_does env cs k p z t n m s count small hp hk hz ht kp kz kt pz pt tz in
    let q = d.post in
    record { long = q.long; lengths = q.lengths; others = q.others; regs = q.regs; steps = q.steps; stuck = d.calm }
