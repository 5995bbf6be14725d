-- Each cell becomes the greatest of those up to it.
use Rattle.std.proofs.Common.{◌≡◌, ◌≢◌, ℕ, zero, suc, ◌+◌, ◌-◌, ◌*◌, ◌^◌, ◌<◌, ◌≤◌, ◌⊎◌, inl, inr, Bool, true, false, cond, nat_lt, nat_eq, refl, sym, ap, ap₂, ◌∙◌, subst, arith, List, length, pos, ℤ}
use Rattle.std.specs.Prelude.{slice_index_or, slice_set}
use Rattle.std.proofs.lemmas.Bool.{cases_eq, cases_lt}
use Rattle.std.proofs.lemmas.Bool.Decides.{nat_tests}
use Rattle.us_code.specs.declared.program.Dim.{Dim}
use Rattle.us_code.specs.declared.program.Buf.TheVariants as buf
use Rattle.us_code.specs.Plain.{Number, Reg, Code, End, Load, If, Put, Set}
use Rattle.us_code.specs.Run.{Env, State, size_of, tick, set_reg, test}
use Rattle.us_code_laws.specs.Does.{Does}
use Rattle.us_code_laws.proofs.Sequence.{put_same, put_other}
use Rattle.us_code_laws.proofs.Does.{do_end, do_var, do_put, do_load, do_set, do_for, do_if_yes, do_if_no}
use Rattle.us_running.specs.Running.{top, Table}
use Rattle.us_running.proofs.Running.{table_set, table_same, table_moved}
use Rattle.us_gen_build.specs.Loops.{fill_up, FilledUp, BuffersFillUp}

module _ (env : Env) (b n m : ℕ) (d : Dim) (f : ℕ → ℕ) where
  -- the cells before t are filled
  abbrev part : ℕ → ℕ → ℤ
  part t y = cond (nat_lt y t) (pos (top f (suc y))) (pos (f y))

  record Filling (start t : ℕ) (s u : State) : Type 0 where
    run : u.regs n ≡ pos (top f t)
    cells : Table (u.bufs b) m (part t)
    steps : u.steps ≤ start + 2 + 4 * t
    regs : (r : ℕ) → (n ≤ r → n + 3 ≤ r) → u.regs r ≡ s.regs r
    bufs : (c : ℕ) → b ≢ c → u.bufs c ≡ s.bufs c

  at_t : (t y : ℕ) → cond (nat_eq t y) (pos (top f (suc t))) (part t y) ≡ part (suc t) y
  at_t t y = case (cases_eq t y)
    where
      case : (t ≡ y) ⊎ (t ≢ y) → cond (nat_eq t y) (pos (top f (suc t))) (part t y) ≡ part (suc t) y
      case (inl e) = subst (λ (z : ℕ). cond (nat_eq t z) (pos (top f (suc t))) (part t z) ≡ part (suc t) z) e (let a : nat_eq t t ≡ true = grind (arith, nat_tests) in let l : nat_lt t (suc t) ≡ true = grind (arith, nat_tests) in ap (λ q. cond q (pos (top f (suc t))) (part t t)) a ∙ sym (ap (λ q. cond q (pos (top f (suc t))) (pos (f t))) l))
      case (inr e) = let a : nat_eq t y ≡ false = grind (arith, nat_tests) in let l : nat_lt y (suc t) ≡ nat_lt y t = case2 (cases_lt y t) in ap (λ q. cond q (pos (top f (suc t))) (part t y)) a ∙ sym (ap (λ q. cond q (pos (top f (suc y))) (pos (f y))) l)
        where
          case2 : (y < t) ⊎ (t ≤ y) → nat_lt y (suc t) ≡ nat_lt y t
          case2 (inl h) = let p : nat_lt y (suc t) ≡ true = grind (arith, nat_tests) in let q : nat_lt y t ≡ true = grind (arith, nat_tests) in p ∙ sym q
          case2 (inr h) = let p : nat_lt y (suc t) ≡ false = grind (arith, nat_tests) in let q : nat_lt y t ≡ false = grind (arith, nat_tests) in p ∙ sym q

  here : (t : ℕ) → part t t ≡ pos (f t)
  here t = let l : nat_lt t t ≡ false = grind (arith, nat_tests) in ap (λ q. cond q (pos (top f (suc t))) (pos (f t))) l

  fill_up_does : (s : State) → size_of env d ≡ m → Table (s.bufs b) m (λ y. pos (f y)) → Does env (fill_up b d n) s (FilledUp b m n f s)
  fill_up_does s em table =
      let s1 = set_reg n (pos 0) (tick 1 s) in
      do_var env n (Number 0) _ s _
      (do_for env (n + 1) d _ End s1 _ (λ t u. Filling s.steps t s u)
      record { run = put_same s.regs n _; cells = table_same _ _ _ _ (λ y. let l : nat_lt y 0 ≡ false = grind (arith, nat_tests) in ap (λ q. cond q (pos (top f (suc y))) (pos (f y))) l) table; steps = omega arith; regs = λ r h. put_other s.regs n _ r (λ e. let z = h (omega (arith, e)) in absurd (omega (arith, z, e))); bufs = λ c h. refl }
      (λ t u lt i. turn s t u (omega (arith, em, lt)) i)
      (λ u i. do_end env u _ record { cells = done u (size_of env d) em i.cells; steps = omega (arith, em, i.steps); regs = i.regs; bufs = i.bufs }))
    where
      done : (u : State) (k : ℕ) → k ≡ m → Table (u.bufs b) m (part k) → Table (u.bufs b) m (λ y. pos (top f (suc y)))
      done u k e t = record { long = t.long; each = λ y h. t.each y h ∙ (let l : nat_lt y k ≡ true = grind (arith, nat_tests) in ap (λ q. cond q (pos (top f (suc y))) (pos (f y))) l) }

      turn : (s : State) (t : ℕ) (u : State) → t < m → Filling s.steps t s u → Does env (Load (n + 2) (buf.New b) (Reg (n + 1)) (If (Reg (n + 2)) false (Reg n) (Set (buf.New b) (Reg (n + 1)) (Reg n) End) true (Put n (Reg (n + 2)) End) End)) (set_reg (n + 1) (pos t) (tick 1 u)) (Filling s.steps (suc t) s)
      turn s t u lt i =
          let u1 = set_reg (n + 1) (pos t) (tick 1 u) in
          let v = slice_index_or (u.bufs b) t (pos 0) in
          let u2 = set_reg (n + 2) v (tick 1 u1) in
          let ev : v ≡ pos (f t) = i.cells.each t lt ∙ here t in
          let e1 : u2.regs (n + 1) ≡ pos t = put_other u1.regs (n + 2) _ (n + 1) (omega arith) ∙ put_same u.regs (n + 1) _ in
          let e2 : u2.regs (n + 2) ≡ pos (f t) = put_same u1.regs (n + 2) _ ∙ ev in
          let low : (r : ℕ) → n + 1 ≢ r → n + 2 ≢ r → u2.regs r ≡ u.regs r = λ r p q. put_other u1.regs (n + 2) _ r q ∙ put_other u.regs (n + 1) _ r p in
          let e0 : u2.regs n ≡ pos (top f t) = low n (omega arith) (omega arith) ∙ i.run in
          do_load env (n + 2) (buf.New b) (Reg (n + 1)) _ u1 _ t (put_same u.regs (n + 1) _) (omega (arith, lt, i.cells.long))
          (branch s t u u2 v lt i refl refl (λ r h. low r (λ e. let z = h (omega (arith, e)) in absurd (omega (arith, z, e))) (λ e. let z = h (omega (arith, e)) in absurd (omega (arith, z, e)))) e0 e1 e2 (nat_lt (f t) (top f t)) refl)
        where
          branch : (s : State) (t : ℕ) (u u2 : State) (v : ℤ) → t < m → Filling s.steps t s u → u2.bufs ≡ u.bufs → u2.steps ≡ u.steps + 1 + 1 → ((r : ℕ) → (n ≤ r → n + 3 ≤ r) → u2.regs r ≡ u.regs r) → u2.regs n ≡ pos (top f t) → u2.regs (n + 1) ≡ pos t → u2.regs (n + 2) ≡ pos (f t) → (q : Bool) → nat_lt (f t) (top f t) ≡ q → Does env (If (Reg (n + 2)) false (Reg n) (Set (buf.New b) (Reg (n + 1)) (Reg n) End) true (Put n (Reg (n + 2)) End) End) u2 (Filling s.steps (suc t) s)
          branch s t u u2 v lt i eb es low e0 e1 e2 true h =
              let c2 : Table (u2.bufs b) m (part t) = table_moved _ _ _ _ (ap (λ (g : ℕ → List ℤ). g b) eb) i.cells in
              let tp : top f (suc t) ≡ top f t = ap (λ q. cond q (top f t) (f t)) h in
              do_if_yes env _ _ _ _ _ _ _ u2 _ (ap₂ (test false) e2 e0 ∙ h)
              (do_set env b _ _ _ (tick 1 u2) _ t e1 (omega (arith, lt, c2.long))
              (do_end env _ _ (do_end env _ _ record {
                run = e0 ∙ ap pos (sym tp);
                cells = table_moved _ _ _ _ (put_same u2.bufs b _ ∙ ap (slice_set (u2.bufs b) t) (e0 ∙ ap pos (sym tp))) (table_same _ _ _ _ (λ y. sym (at_t t y)) (table_set (u2.bufs b) m t (pos (top f (suc t))) (part t) lt c2));
                steps = omega (arith, es, i.steps);
                regs = λ r g. low r g ∙ i.regs r g;
                bufs = λ c g. put_other u2.bufs b _ c g ∙ (ap (λ (k : ℕ → List ℤ). k c) eb ∙ i.bufs c g);
              })))
          branch s t u u2 v lt i eb es low e0 e1 e2 false h =
              let c2 : Table (u2.bufs b) m (part t) = table_moved _ _ _ _ (ap (λ (g : ℕ → List ℤ). g b) eb) i.cells in
              let tp : top f (suc t) ≡ f t = ap (λ q. cond q (top f t) (f t)) h in
              do_if_no env _ _ _ _ _ _ _ u2 _ (ap₂ (test false) e2 e0 ∙ h)
              (do_put env n _ _ (tick 1 u2) _
              (do_end env _ _ (do_end env _ _ record {
                run = put_same u2.regs n _ ∙ (e2 ∙ ap pos (sym tp));
                cells = table_same _ _ _ _ (λ y. sym (at_t t y) ∙ stay t y (ap pos tp) (cases_eq t y)) c2;
                steps = omega (arith, es, i.steps);
                regs = λ r g. put_other u2.regs n _ r (λ e. let z = g (omega (arith, e)) in absurd (omega (arith, z, e))) ∙ (low r g ∙ i.regs r g);
                bufs = λ c g. ap (λ (k : ℕ → List ℤ). k c) eb ∙ i.bufs c g;
              })))
            where
              stay : (t y : ℕ) → pos (top f (suc t)) ≡ pos (f t) → (t ≡ y) ⊎ (t ≢ y) → cond (nat_eq t y) (pos (top f (suc t))) (part t y) ≡ part t y
              stay t y e (inl q) = subst (λ (z : ℕ). cond (nat_eq t z) (pos (top f (suc t))) (part t z) ≡ part t z) q (let a : nat_eq t t ≡ true = grind (arith, nat_tests) in ap (λ w. cond w (pos (top f (suc t))) (part t t)) a ∙ (e ∙ sym (here t)))
              stay t y e (inr q) = let a : nat_eq t y ≡ false = grind (arith, nat_tests) in ap (λ w. cond w (pos (top f (suc t))) (part t y)) a

pub buffers_fill_up : BuffersFillUp
buffers_fill_up env b m n d f s = fill_up_does env b n m d f s
