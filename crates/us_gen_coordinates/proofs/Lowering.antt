-- The loop by which the cells of a buffer become less by a low end.
use Rattle.std.proofs.Common.{◌≡◌, ◌≢◌, ℕ, suc, ◌+◌, ◌*◌, ◌^◌, ◌<◌, ◌≤◌, ◌⊎◌, inl, inr, refl, sym, ap, ◌∙◌, subst, arith, List, length, pos, negsuc, ℤ, ◌+ℤ◌, ◌-ℤ◌}
use Rattle.std.specs.Prelude.{slice_index_or, slice_set}
use Rattle.std.specs.Int.{int_wrap}
use Rattle.std.proofs.lemmas.Bool.{cases_eq}
use Rattle.std.proofs.lemmas.Int.{ints}
use Rattle.std.proofs.lemmas.List.{length-set, get_or-set_same, get_or-set_other}
use mir.Syntax.{w64}
use Rattle.us_code.specs.declared.program.Dim.TheVariants as dim
use Rattle.us_code.specs.declared.program.Buf.TheVariants as buf
use Rattle.us_code.specs.declared.pieces.Columns.{Columns}
use Rattle.us_code.specs.Plain.{Reg, End, Load, Set}
use Rattle.us_code.specs.Run.{Env, State, value, tick, set_reg, set_buf}
use Rattle.us_code_laws.specs.Does.{Does}
use Rattle.us_code_laws.proofs.Sequence.{put_same, put_other}
use Rattle.us_code_laws.proofs.Does.{do_end, do_load, do_set, do_for}
use Rattle.us_gen.proofs.LevelRuns.{wrap_small}
use Rattle.us_gen_coordinates.specs.Phase.{lowered, lower}

lowered_value : (env : Env) (g : ℕ → ℤ) (r c : ℕ) (low : ℤ) → g r ≡ pos c +ℤ low → c < 2 ^ 63 → value env g (lowered r low) ≡ pos c
lowered_value env g r c (pos k) h lt = ap (λ (y : ℤ). int_wrap w64 (y -ℤ pos k)) h ∙ (ap (int_wrap w64) (back (pos c) (pos k)) ∙ wrap_small c lt)
  where
    back : (a b : ℤ) → (a +ℤ b) -ℤ b ≡ a
    back a b = omega (arith, ints)
lowered_value env g r c (negsuc k) h lt = ap (λ (y : ℤ). int_wrap w64 (y +ℤ pos (suc k))) h ∙ (ap (int_wrap w64) (back (pos c) k) ∙ wrap_small c lt)
  where
    back : (a : ℤ) (k : ℕ) → (a +ℤ negsuc k) +ℤ pos (suc k) ≡ a
    back a k = omega (arith, ints)

module _ (env : Env) (cs : Columns) (low : ℤ) (b n m : ℕ) (c : ℕ → ℕ) (s : State) where
  -- the first t cells are less, the others not yet
  pub record Lowered (t : ℕ) (u : State) : Type 0 where
    pub long : length (u.bufs b) ≡ m
    pub done : (x : ℕ) → x < t → slice_index_or (u.bufs b) x (pos 0) ≡ pos (c x)
    pub left : (x : ℕ) → t ≤ x → x < m → slice_index_or (u.bufs b) x (pos 0) ≡ pos (c x) +ℤ low
    pub others : (k : ℕ) → k ≢ b → u.bufs k ≡ s.bufs k
    pub steps : u.steps ≡ s.steps + 1 + t * 3

  turn : ((x : ℕ) → x < m → c x < 2 ^ 63) → (t : ℕ) (u : State) → t < m → Lowered t u → Does env (Load (n + 1) (buf.New b) (Reg n) (Set (buf.New b) (Reg n) (lowered (n + 1) low) End)) (set_reg n (pos t) (tick 1 u)) (Lowered (suc t))
  turn small t u lt i =
      let u1 = set_reg n (pos t) (tick 1 u) in
      let v = slice_index_or (u.bufs b) t (pos 0) in
      let u2 = set_reg (n + 1) v (tick 1 u1) in
      let w = value env u2.regs (lowered (n + 1) low) in
      let is : w ≡ pos (c t) = lowered_value env u2.regs (n + 1) (c t) low (put_same u1.regs (n + 1) v ∙ i.left t (omega arith) lt) (small t lt) in
      let xs = slice_set (u.bufs b) t w in
      let u3 = set_buf b xs (tick 1 u2) in
      let now : u3.bufs b ≡ xs = put_same u2.bufs b xs in
      do_load env (n + 1) (buf.New b) (Reg n) (Set (buf.New b) (Reg n) (lowered (n + 1) low) End) u1 (Lowered (suc t)) t (put_same u.regs n (pos t)) (omega (arith, lt, i.long))
      (do_set env b (Reg n) (lowered (n + 1) low) End u2 (Lowered (suc t)) t (put_other u1.regs (n + 1) v n (omega arith) ∙ put_same u.regs n (pos t)) (omega (arith, lt, i.long))
      (do_end env u3 (Lowered (suc t)) record {
        long = ap (λ (ys : List ℤ). length ys) now ∙ (length-set (u.bufs b) t w ∙ i.long);
        done = λ x lx. ap (λ (ys : List ℤ). slice_index_or ys x (pos 0)) now ∙ case x lx w is (cases_eq x t);
        left = λ x lx lm. ap (λ (ys : List ℤ). slice_index_or ys x (pos 0)) now ∙ (get_or-set_other (u.bufs b) t x w (pos 0) (omega (arith, lx)) ∙ i.left x (omega (arith, lx)) lm);
        others = λ k h. put_other u2.bufs b xs k (λ q. h (sym q)) ∙ i.others k h;
        steps = omega (arith, i.steps);
      }))
    where
      case : (x : ℕ) → x < suc t → (w : ℤ) → w ≡ pos (c t) → (x ≡ t) ⊎ (x ≢ t) → slice_index_or (slice_set (u.bufs b) t w) x (pos 0) ≡ pos (c x)
      case x lx w is (inl q) = subst (λ (y : ℕ). slice_index_or (slice_set (u.bufs b) t w) y (pos 0) ≡ pos (c y)) (sym q) (get_or-set_same (u.bufs b) t w (pos 0) (omega (arith, lt, i.long)) ∙ is)
      case x lx w is (inr q) = get_or-set_other (u.bufs b) t x w (pos 0) q ∙ i.done x (omega (arith, lx, q))

  pub lower_does : env.dims cs.count ≡ m → ((x : ℕ) → x < m → c x < 2 ^ 63) → length (s.bufs b) ≡ m → ((x : ℕ) → x < m → slice_index_or (s.bufs b) x (pos 0) ≡ pos (c x) +ℤ low) → Does env (lower cs low b n) s (Lowered m)
  lower_does count small long cells =
      do_for env n (dim.Name cs.count) (Load (n + 1) (buf.New b) (Reg n) (Set (buf.New b) (Reg n) (lowered (n + 1) low) End)) End s (Lowered m) Lowered
      record { long = long; done = λ x lx. absurd (omega (arith, lx)); left = λ x lx lm. cells x lm; others = λ k h. refl; steps = omega arith }
      (λ t u lt i. turn small t u (omega (arith, lt, count)) i)
      (λ u i. do_end env u (Lowered m) (subst (λ (k : ℕ). Lowered k u) count i))
