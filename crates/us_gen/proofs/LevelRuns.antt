-- What a level does around any inner block.
use Rattle.std.proofs.Common.{◌≡◌, ℕ, suc, ◌+◌, ◌-◌, ◌*◌, ◌^◌, ◌<◌, ◌≤◌, Bool, true, false, cond, nat_eq, refl, sym, ap, ap₂, ◌∙◌, subst, arith, length, pos, ℤ, ◌+ℤ◌, ◌*ℤ◌, mul-le-mul_right}
use Rattle.std.specs.Prelude.{slice_index_or}
use Rattle.std.specs.Int.{int_wrap}
use Rattle.std.proofs.lemmas.Bool.Decides.{nat_tests}
use Rattle.std.proofs.lemmas.Int.{int_wrap_fits}
use mir.Syntax.{w64}
use Rattle.us_code.specs.declared.program.Dim.{Dim}
use Rattle.us_code.specs.declared.program.Buf.TheVariants as buf
use Rattle.us_code.specs.Plain.{TermTree, Number, Reg, Size, Flat, Next, Up, Add, Sub, Mul, Div, Rem, Code, End}
use Rattle.us_code.specs.Run.{Env, State, size_of, value, tick, set_reg}
use Rattle.us_code_laws.specs.Does.{Does}
use Rattle.us_code_laws.proofs.Sequence.{put_same, put_other}
use Rattle.us_code_laws.proofs.Does.{do_end, do_weaker, do_load, do_for, do_span, do_when}
use Rattle.us_gen.specs.Nest.{is_origin, under, full_level, node_level, crd_level, cell_level, Same, Visits, Below, Starts, InFull, InNodes, InCell, At}

pub wrap_small : (n : ℕ) → n < 2 ^ 63 → int_wrap w64 (pos n) ≡ pos n
wrap_small n h = int_wrap_fits w64 (pos n) record { sfits = h }

module _ (env : Env) (kept : ℕ → Type 0) where
  pub full_visits : (n N size : ℕ) (D : Dim) (inner : Code) (K : ℕ → (ℕ → ℤ) → Type 0) (J : ℕ → State → Type 0) (C : ℕ → ℕ) → Below kept n K J → size_of env D ≡ size → Visits env kept inner (n + 1) (N * size) (InFull K N size n) J C → Visits env kept (full_level D n inner) n N K (λ q. J (q * size)) (λ q. C (q * size) + (q + q * size))
  full_visits n N size D inner K J C stable eD v = record {
    does = λ base q s lq k j cost.
        do_for env n D inner End s _
        (λ t u. J (q * size + t) u × (u.steps ≤ base + (C (q * size + t) + (q + 1) + (q * size + t))) × Same kept n s.regs u.regs)
        (first base q s j cost)
        (λ t u lt i. turn base q s k lq t u (omega (arith, lt, eD)) i)
        (λ u i. do_end env u _ (last base q s u (subst (λ (x : ℕ). J (q * size + x) u × (u.steps ≤ base + (C (q * size + x) + (q + 1) + (q * size + x))) × Same kept n s.regs u.regs) eD i)));
  }
    where
      first : (base q : ℕ) (s : State) → J (q * size) s → s.steps ≤ base + (C (q * size) + (q + q * size)) → J (q * size + 0) (tick 1 s) × (s.steps + 1 ≤ base + (C (q * size + 0) + (q + 1) + (q * size + 0))) × Same kept n s.regs s.regs
      first base q s j cost =
          let e : q * size ≡ q * size + 0 = omega arith in
          (subst (λ (x : ℕ). J x (tick 1 s)) e (stable.state (q * size) s (tick 1 s) refl (λ r h. refl) j), omega (arith, cost, ap C e), λ r h l. refl)

      last : (base q : ℕ) (s u : State) → J (q * size + size) u × (u.steps ≤ base + (C (q * size + size) + (q + 1) + (q * size + size))) × Same kept n s.regs u.regs → J ((q + 1) * size) u × (u.steps ≤ base + (C ((q + 1) * size) + ((q + 1) + (q + 1) * size))) × Same kept n s.regs u.regs
      last base q s u i =
          let e : q * size + size ≡ (q + 1) * size = omega arith in
          (subst (λ (x : ℕ). J x u) e i.0, omega (arith, i.1, e, ap C e), i.2)

      turn : (base q : ℕ) (s : State) → K q s.regs → q < N → (t : ℕ) (u : State) → t < size → J (q * size + t) u × (u.steps ≤ base + (C (q * size + t) + (q + 1) + (q * size + t))) × Same kept n s.regs u.regs → Does env inner (set_reg n (pos t) (tick 1 u)) (λ w. J (q * size + suc t) w × (w.steps ≤ base + (C (q * size + suc t) + (q + 1) + (q * size + suc t))) × Same kept n s.regs w.regs)
      turn base q s k lq t u lt i =
          let x = q * size + t in
          let u1 = set_reg n (pos t) (tick 1 u) in
          let lx : x < N * size = omega (arith, mul-le-mul_right size lq) in
          let same : (r : ℕ) → r < n → u1.regs r ≡ u.regs r = λ r h. put_other u.regs n (pos t) r (omega arith) in
          let inside : InFull K N size n x u1.regs = record { parent = q; exists = lq; coordinate = t; in_size = lt; place = refl; above = stable.regs q s.regs u1.regs (λ r h l. same r l ∙ i.2 r h l) k; held = put_same u.regs n (pos t) } in
          let e : x + 1 ≡ q * size + suc t = omega arith in
          do_weaker env inner u1 _ _
          (λ w h. (subst (λ (y : ℕ). J y w) e h.0, omega (arith, h.1, e, ap C e), λ r a l. h.2 r a (omega arith) ∙ (same r l ∙ i.2 r a l)))
          (v.does (base + (q + 1) + (x + 1)) x u1 lx inside (stable.state x u u1 refl same i.0) (omega (arith, i.1)))

  pub node_visits : (e : TermTree) (n R N k : ℕ) (more D : Dim) (first : ℕ → ℕ) (inner : Code) (K : ℕ → (ℕ → ℤ) → Type 0) (J : ℕ → State → Type 0) (C : ℕ → ℕ) → At env e R K (λ q. q) → Below kept n K J → Starts (env.sources k) R N first → size_of env more ≡ N + 1 → Visits env kept inner (n + 7) N (InNodes K R first n) J C → Visits env kept (node_level e k more D n inner) n R K (λ q. J (first q)) (λ q. C (first q) + (7 * q + first q))
  node_visits e n R N k more D first inner K J C at stable st one_more v = record {
    does = λ base q s lq kq j cost.
        let P = env.sources k in
        let one = st.each q (omega arith) in
        let two = st.each (q + 1) (omega arith) in
        let leN : first (q + 1) ≤ N = omega (arith, st.rises (q + 1) R (omega arith) (omega arith), st.last) in
        let le : first q ≤ first (q + 1) = st.rises q (q + 1) (omega arith) (omega arith) in
        let e0 : value env s.regs e ≡ pos q = at q s.regs lq kq in
        let s0 = set_reg n (pos q) (tick 1 s) in
        let s1 = set_reg (n + 1) (slice_index_or P q (pos 0)) (tick 1 s0) in
        let s2 = set_reg (n + 2) (pos (q + 1)) (tick 1 s1) in
        let s3 = set_reg (n + 3) (slice_index_or P (q + 1) (pos 0)) (tick 1 s2) in
        let s4 = set_reg (n + 4) (pos (first q)) (tick 1 s3) in
        let s5 = set_reg (n + 5) (pos (first (q + 1))) (tick 1 s4) in
        let same1 : (r : ℕ) → r < n → s1.regs r ≡ s.regs r = λ r h. grind (arith, put_same, put_other) in
        let same5 : (r : ℕ) → r < n → s5.regs r ≡ s.regs r = λ r h. grind (arith, put_same, put_other) in
        let k1 : K q s1.regs = stable.regs q s.regs s1.regs (λ r h l. same1 r l) kq in
        let e1 : int_wrap w64 (value env s1.regs e +ℤ pos 1) ≡ pos (q + 1) = ap (λ (z : ℤ). int_wrap w64 (z +ℤ pos 1)) (at q s1.regs lq k1) ∙ wrap_small (q + 1) (omega (arith, st.small)) in
        let e2 : s2.regs (n + 2) ≡ pos (q + 1) = put_same s1.regs (n + 2) _ in
        let e3 : s3.regs (n + 1) ≡ slice_index_or P q (pos 0) = grind (arith, put_same, put_other) in
        let e4 : s4.regs (n + 3) ≡ slice_index_or P (q + 1) (pos 0) = grind (arith, put_same, put_other) in
        let e5 : s5.regs (n + 4) ≡ pos (first q) = grind (arith, put_same, put_other) in
        let e6 : s5.regs (n + 5) ≡ pos (first (q + 1)) = grind (arith, put_same, put_other) in
        let z0 : first q ≡ first q + 0 = omega arith in
        let z1 : first q + (first (q + 1) - first q) ≡ first (q + 1) = omega arith in
        do_when env _ _ n _ _ _ _ s _ q e0 (omega (arith, st.long))
        (do_load env (n + 1) (buf.Source k) (Reg n) _ s0 _ q (put_same s.regs n _) (omega (arith, st.long))
        (do_when env _ _ (n + 2) _ _ _ _ s1 _ (q + 1) e1 (omega (arith, st.long))
        (do_load env (n + 3) (buf.Source k) (Reg (n + 2)) _ s2 _ (q + 1) e2 (omega (arith, st.long))
        (do_when env _ _ (n + 4) _ _ _ _ s3 _ (first q) (e3 ∙ one) (omega (arith, one_more))
        (do_when env _ _ (n + 5) _ _ _ _ s4 _ (first (q + 1)) (e4 ∙ two) (omega (arith, one_more))
        (do_span env (n + 6) _ _ _ _ _ s5 _ (λ t u. J (first q + t) u × (u.steps ≤ base + (C (first q + t) + 7 * (q + 1) + (first q + t))) × Same kept n s.regs u.regs) (first q) (first (q + 1)) e5 e6
        (subst (λ (x : ℕ). J x (tick 1 s5)) z0 (stable.state (first q) s (tick 1 s5) refl same5 j), omega (arith, cost, ap C z0), λ r a h. same5 r h)
        (λ t u lt i. turn base q s kq lq t u (omega arith) i)
        (λ u i. do_end env u _ (do_end env u _ (do_end env u _ (do_end env u _ (do_end env u _ (last base q s u z1 i))))))))))));
  }
    where
      last : (base q : ℕ) (s u : State) → first q + (first (q + 1) - first q) ≡ first (q + 1) → J (first q + (first (q + 1) - first q)) u × (u.steps ≤ base + (C (first q + (first (q + 1) - first q)) + 7 * (q + 1) + (first q + (first (q + 1) - first q)))) × Same kept n s.regs u.regs → J (first (q + 1)) u × (u.steps ≤ base + (C (first (q + 1)) + (7 * (q + 1) + first (q + 1)))) × Same kept n s.regs u.regs
      last base q s u e i = (subst (λ (x : ℕ). J x u) e i.0, omega (arith, i.1, e, ap C e), i.2)

      turn : (base q : ℕ) (s : State) → K q s.regs → q < R → (t : ℕ) (u : State) → first q + t < first (q + 1) → J (first q + t) u × (u.steps ≤ base + (C (first q + t) + 7 * (q + 1) + (first q + t))) × Same kept n s.regs u.regs → Does env inner (set_reg (n + 6) (pos (first q + t)) (tick 1 u)) (λ w. J (first q + suc t) w × (w.steps ≤ base + (C (first q + suc t) + 7 * (q + 1) + (first q + suc t))) × Same kept n s.regs w.regs)
      turn base q s kq lq t u lt i =
          let x = first q + t in
          let lN : x < N = omega (arith, st.rises (q + 1) R (omega arith) (omega arith), st.last) in
          let u1 = set_reg (n + 6) (pos x) (tick 1 u) in
          let same : (r : ℕ) → r < n → u1.regs r ≡ u.regs r = λ r h. put_other u.regs (n + 6) _ r (omega arith) in
          let inside : InNodes K R first n x u1.regs = record { parent = q; exists = lq; from = omega arith; to = lt; above = stable.regs q s.regs u1.regs (λ r h l. same r l ∙ i.2 r h l) kq; held = put_same u.regs (n + 6) _ } in
          let e : x + 1 ≡ first q + suc t = omega arith in
          do_weaker env inner u1 _ _
          (λ w h. (subst (λ (y : ℕ). J y w) e h.0, omega (arith, h.1, e, ap C e), λ r a l. h.2 r a (omega arith) ∙ (same r l ∙ i.2 r a l)))
          (v.does (base + 7 * (q + 1) + (x + 1)) x u1 lN inside (stable.state x u u1 refl same i.0) (omega (arith, i.1)))

  pub crd_visits : (e : TermTree) (n N k : ℕ) (place : ℕ → ℕ) (inner : Code) (K : ℕ → (ℕ → ℤ) → Type 0) (J : ℕ → State → Type 0) (C : ℕ → ℕ) → At env e N K place → Below kept n K J → ((q : ℕ) → q < N → place q < length (env.sources k)) → Visits env kept inner (n + 1) N (InCell K (λ q. slice_index_or (env.sources k) (place q) (pos 0)) n) J C → Visits env kept (crd_level e k n inner) n N K J (λ q. C q + q)
  crd_visits e n N k place inner K J C at stable room v = record {
    does = λ base q s lq kq j cost.
        let c = slice_index_or (env.sources k) (place q) (pos 0) in
        let s1 = set_reg n c (tick 1 s) in
        let same : (r : ℕ) → r < n → s1.regs r ≡ s.regs r = λ r h. put_other s.regs n _ r (omega arith) in
        do_load env n (buf.Source k) e inner s _ (place q) (at q s.regs lq kq) (room q lq)
        (do_weaker env inner s1 _ _
        (λ w h. (h.0, omega (arith, h.1), λ r a l. h.2 r a (omega arith) ∙ same r l))
        (v.does (base + (q + 1)) q s1 lq record { above = stable.regs q s.regs s1.regs (λ r h l. same r l) kq; held = put_same s.regs n _ } (stable.state q s s1 refl same j) (omega (arith, cost))));
  }

  pub cell_visits : (e : TermTree) (n N k : ℕ) (place : ℕ → ℕ) (inner : Code) (K : ℕ → (ℕ → ℤ) → Type 0) (J : ℕ → State → Type 0) (C : ℕ → ℕ) → At env e N K place → Below kept n K J → ((q : ℕ) → q < N → place q < length (env.sources k)) → Visits env kept inner (n + 2) N (InCell K (λ q. slice_index_or (env.sources k) (place q) (pos 0)) (n + 1)) J C → Visits env kept (cell_level e k n inner) n N K J (λ q. C q + 2 * q)
  cell_visits e n N k place inner K J C at stable room v = record {
    does = λ base q s lq kq j cost.
        let c = slice_index_or (env.sources k) (place q) (pos 0) in
        let s1 = set_reg n (pos (place q)) (tick 1 s) in
        let s2 = set_reg (n + 1) c (tick 1 s1) in
        let same : (r : ℕ) → r < n → s2.regs r ≡ s.regs r = λ r h. put_other s1.regs (n + 1) _ r (omega arith) ∙ put_other s.regs n _ r (omega arith) in
        do_when env e _ n _ _ _ _ s _ (place q) (at q s.regs lq kq) (room q lq)
        (do_load env (n + 1) (buf.Source k) (Reg n) inner s1 _ (place q) (put_same s.regs n _) (room q lq)
        (do_weaker env inner s2 _ _
        (λ w h. do_end env w _ (h.0, omega (arith, h.1), λ r a l. h.2 r a (omega arith) ∙ same r l))
        (v.does (base + 2 * (q + 1)) q s2 lq record { above = stable.regs q s.regs s2.regs (λ r h l. same r l) kq; held = put_same s1.regs (n + 1) _ } (stable.state q s s2 refl same j) (omega (arith, cost)))));
  }

  origin_value : (e : TermTree) (f : ℕ → ℤ) → is_origin e ≡ true → value env f e ≡ pos 0
  origin_value (Number n) f h = ap pos (zero_is n h)
    where
      zero_is : (n : ℕ) → nat_eq n 0 ≡ true → n ≡ 0
      zero_is n h = grind (arith, nat_tests)
  origin_value (Reg r) f h = absurd cc
  origin_value (Size d) f h = absurd cc
  origin_value (Flat d p c) f h = absurd cc
  origin_value (Next d x) f h = absurd cc
  origin_value (Up d x) f h = absurd cc
  origin_value (Add a b) f h = absurd cc
  origin_value (Sub a b) f h = absurd cc
  origin_value (Mul a b) f h = absurd cc
  origin_value (Div a k) f h = absurd cc
  origin_value (Rem a k) f h = absurd cc

  -- the value of the term of a position under another
  pub under_value : (e z : TermTree) (c q size t : ℕ) (f : ℕ → ℤ) → value env f e ≡ pos q → value env f z ≡ pos size → f c ≡ pos t → q * size + t < 2 ^ 63 → value env f (under e z c) ≡ pos (q * size + t)
  under_value e z c q size t f he hz hc small = case (is_origin e) refl
    where
      zero_pos : (n : ℕ) → pos n ≡ pos 0 → n ≡ 0
      zero_pos n h = cc

      case : (b : Bool) → is_origin e ≡ b → value env f (cond b (Reg c) (Add (Mul e z) (Reg c))) ≡ pos (q * size + t)
      case true h =
          let q0 : q ≡ 0 = zero_pos q (sym he ∙ origin_value e f h) in
          let n0 : 0 * size + t ≡ t = omega arith in
          hc ∙ ap pos (sym n0 ∙ ap (λ (x : ℕ). x * size + t) (sym q0))
      case false h =
          ap₂ (λ (x y : ℤ). int_wrap w64 (int_wrap w64 (x *ℤ y) +ℤ f c)) he hz
          ∙ (ap (λ (x : ℤ). int_wrap w64 (x +ℤ f c)) (wrap_small (q * size) (omega arith))
          ∙ (ap (λ (x : ℤ). int_wrap w64 (pos (q * size) +ℤ x)) hc ∙ wrap_small (q * size + t) small))
