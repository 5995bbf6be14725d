-- A block's effect and steps depend on nothing that it doesn't name.
use Rattle.std.proofs.Common.{◌≡◌, ℕ, zero, suc, ◌+◌, ◌*◌, Bool, true, false, cond, eqb, refl, sym, ap, ap₂, ◌∙◌, subst, arith, List, [], ◌∷◌, map, length, pos, ℤ, ◌+ℤ◌, ◌-ℤ◌, ◌*ℤ◌, Option, Some, None}
use Rattle.std.specs.Int.{int_wrap, int_div_euclid, int_rem_euclid}
use mir.Syntax.{w64}
use Rattle.us_code.specs.declared.program.Dim.{Dim}
use Rattle.us_code.specs.declared.program.Dim.TheVariants as dim
use Rattle.us_code.specs.declared.program.Buf.{Buf}
use Rattle.us_code.specs.declared.program.Buf.TheVariants as buf
use Rattle.us_code.specs.Plain.{TermTree, Number, Reg, Size, Flat, Next, Up, Add, Sub, Mul, Div, Rem, Code, End, Let, Load, Var, Put, Set, For, Span, If, When, Order}
use Rattle.us_code.specs.Run.{Env, State, put, exec, turns, size_of, cells, value, place, gap, tick, set_reg, set_buf, fail, loaded, stored, entered, test, all_long, sorted, sorted_if}
use Rattle.us_code.specs.Sort.{ordered}
use Rattle.us_code_laws.specs.Agree.{AlikeOn, AgreeOn}
use Rattle.us_code_laws.specs.Laws.{among, DependsOnNames}
use Rattle.us_code.specs.Names.{UsesDim, UsesTerm, UsesBuf, UsesBufs, Uses}

module _ (R B D : ℕ → Type 0) (env env' : Env) (k : ℕ) where
  abbrev Alike : Type 0
  Alike = AlikeOn D env env'

  abbrev Agree : State → State → Type 0
  Agree s u = AgreeOn R B k s u

  module _ (e : Alike) where
    size_same : (d : Dim) → UsesDim D d → size_of env' d ≡ size_of env d
    size_same (dim.Number n) h = refl
    size_same (dim.Name d) h = e.dims d h
    size_same (dim.Len x) h = ap (λ (f : ℕ → List ℤ). length (f x)) e.sources

    value_same : (x : TermTree) (f g : ℕ → ℤ) → ((r : ℕ) → R r → g r ≡ f r) → UsesTerm R D x → value env' g x ≡ value env f x
    value_same (Number n) f g a h = refl
    value_same (Reg r) f g a h = a r h
    value_same (Size d) f g a h = ap pos (size_same d h)
    value_same (Flat d p c) f g a h = ap₂ (λ (x y : ℤ). x *ℤ pos (env'.factors d) +ℤ y) (value_same p f g a h.1) (value_same c f g a h.2) ∙ ap (λ (n : ℕ). value env f p *ℤ pos n +ℤ value env f c) (e.factors d h.0)
    value_same (Next d x) f g a h = ap (λ (z : ℤ). z +ℤ pos 1) (value_same x f g a h)
    value_same (Up d x) f g a h = value_same x f g a h
    value_same (Add x y) f g a h = ap₂ (λ (p q : ℤ). int_wrap w64 (p +ℤ q)) (value_same x f g a h.0) (value_same y f g a h.1)
    value_same (Sub x y) f g a h = ap₂ (λ (p q : ℤ). int_wrap w64 (p -ℤ q)) (value_same x f g a h.0) (value_same y f g a h.1)
    value_same (Mul x y) f g a h = ap₂ (λ (p q : ℤ). int_wrap w64 (p *ℤ q)) (value_same x f g a h.0) (value_same y f g a h.1)
    value_same (Div x n) f g a h = ap (λ (z : ℤ). int_div_euclid z (pos n)) (value_same x f g a h)
    value_same (Rem x n) f g a h = ap (λ (z : ℤ). int_rem_euclid z (pos n)) (value_same x f g a h)

    cells_same : (b : Buf) (s u : State) → Agree s u → UsesBuf B b → cells env' u b ≡ cells env s b
    cells_same (buf.New b) s u a h = a.bufs b h
    cells_same (buf.Source x) s u a h = ap (λ (f : ℕ → List ℤ). f x) e.sources

    all_same : (bs : List Buf) (s u : State) → Agree s u → UsesBufs B bs → map (cells env' u) bs ≡ map (cells env s) bs
    all_same [] s u a h = refl
    all_same (b ∷ bs) s u a h = ap₂ (λ x xs. x ∷ xs) (cells_same b s u a h.0) (all_same bs s u a h.1)

    agree_ticks : (s u : State) (n m : ℕ) → m ≡ n → Agree s u → Agree (tick n s) (tick m u)
    agree_ticks s u n m e a = record { regs = a.regs; bufs = a.bufs; steps = omega (arith, a.steps, e); stuck = a.stuck }

    agree_tick : (s u : State) → Agree s u → Agree (tick 1 s) (tick 1 u)
    agree_tick s u a = record { regs = a.regs; bufs = a.bufs; steps = omega (arith, a.steps); stuck = a.stuck }

    at_reg : (s u : State) (r : ℕ) (v w : ℤ) → w ≡ v → Agree s u → (x : ℕ) → R x → (b : Bool) → cond b w (u.regs x) ≡ cond b v (s.regs x)
    at_reg s u r v w p a x h true = p
    at_reg s u r v w p a x h false = a.regs x h

    agree_reg : (s u : State) (r : ℕ) (v w : ℤ) → w ≡ v → Agree s u → Agree (set_reg r v s) (set_reg r w u)
    unfolding put
    agree_reg s u r v w p a = record { regs = λ x h. at_reg s u r v w p a x h (eqb r x); bufs = a.bufs; steps = a.steps; stuck = a.stuck }

    at_buf : (s u : State) (v w : List ℤ) → w ≡ v → Agree s u → (x : ℕ) → B x → (b : Bool) → cond b w (u.bufs x) ≡ cond b v (s.bufs x)
    at_buf s u v w p a x h true = p
    at_buf s u v w p a x h false = a.bufs x h

    agree_buf : (s u : State) (b : ℕ) (v w : List ℤ) → w ≡ v → Agree s u → Agree (set_buf b v s) (set_buf b w u)
    unfolding put
    agree_buf s u b v w p a = record { regs = a.regs; bufs = λ x h. at_buf s u v w p a x h (eqb b x); steps = a.steps; stuck = a.stuck }

    agree_fail : (s u : State) → Agree s u → Agree (fail s) (fail u)
    agree_fail s u a = record { regs = a.regs; bufs = a.bufs; steps = a.steps; stuck = refl }

    agree_loaded : (s u : State) (r : ℕ) (xs ys : List ℤ) (o p : Option ℕ) → ys ≡ xs → p ≡ o → Agree s u → Agree (loaded r xs o s) (loaded r ys p u)
    agree_loaded s u r xs ys o p e1 e2 a = subst (λ (q : Option ℕ). Agree (loaded r xs o s) (loaded r ys q u)) (sym e2) (subst (λ (zs : List ℤ). Agree (loaded r xs o s) (loaded r zs o u)) (sym e1) (same o))
      where
        same : (q : Option ℕ) → Agree (loaded r xs q s) (loaded r xs q u)
        same None = agree_fail _ _ (agree_reg s u r (pos 0) (pos 0) refl a)
        same (Some j) = agree_reg s u r _ _ refl a

    agree_stored : (s u : State) (b : Buf) (xs ys : List ℤ) (o p : Option ℕ) (v w : ℤ) → ys ≡ xs → p ≡ o → w ≡ v → Agree s u → Agree (stored b xs o v s) (stored b ys p w u)
    agree_stored s u b xs ys o p v w e1 e2 e3 a = subst (λ (z : ℤ). Agree (stored b xs o v s) (stored b ys p z u)) (sym e3) (subst (λ (q : Option ℕ). Agree (stored b xs o v s) (stored b ys q v u)) (sym e2) (subst (λ (zs : List ℤ). Agree (stored b xs o v s) (stored b zs o v u)) (sym e1) (same b o)))
      where
        same : (c : Buf) (q : Option ℕ) → Agree (stored c xs q v s) (stored c xs q v u)
        same c None = agree_fail s u a
        same (buf.New c) (Some j) = agree_buf s u c _ _ refl a
        same (buf.Source c) (Some j) = agree_fail s u a

    agree_sorted : (s u : State) (b : Buf) (n m : ℕ) (ks ls : List (List ℤ)) → m ≡ n → ls ≡ ks → Agree s u → Agree (sorted b n ks s) (sorted b m ls u)
    agree_sorted s u b n m ks ls e1 e2 a = subst (λ (x : ℕ). Agree (sorted b n ks s) (sorted b x ls u)) (sym e1) (subst (λ (zs : List (List ℤ)). Agree (sorted b n ks s) (sorted b n zs u)) (sym e2) (same b))
      where
        by_test : (c : ℕ) (q : Bool) → Agree (sorted_if q c (map pos (ordered ks n)) s) (sorted_if q c (map pos (ordered ks n)) u)
        by_test c true = agree_buf s u c _ _ refl a
        by_test c false = agree_fail s u a

        same : (c : Buf) → Agree (sorted c n ks s) (sorted c n ks u)
        same (buf.New c) = by_test c (all_long n ks)
        same (buf.Source c) = agree_fail s u a

    agree_turns : (f g : ℕ → State → State) → ((t : ℕ) (s u : State) → Agree s u → Agree (f t s) (g t u)) → (n m : ℕ) → m ≡ n → (s u : State) → Agree s u → Agree (turns n f s) (turns m g u)
    agree_turns f g step n m e s u a = subst (λ (x : ℕ). Agree (turns n f s) (turns x g u)) (sym e) (go n)
      where
        go : (x : ℕ) → Agree (turns x f s) (turns x g u)
        go zero = a
        go (suc x) = step x _ _ (go x)

    pub depends : (c : Code) (s u : State) → Uses R B D c → Agree s u → Agree (exec env c s) (exec env' c u)
    depends End s u h a = a
    depends (Let r x rest) s u h a = depends rest _ _ h.1 (agree_reg _ _ r _ _ (value_same x s.regs u.regs a.regs h.0) (agree_tick s u a))
    depends (Var r x rest) s u h a = depends rest _ _ h.1 (agree_reg _ _ r _ _ (value_same x s.regs u.regs a.regs h.0) (agree_tick s u a))
    depends (Put r x rest) s u h a = depends rest _ _ h.1 (agree_reg _ _ r _ _ (value_same x s.regs u.regs a.regs h.0) (agree_tick s u a))
    depends (Load r b at rest) s u h a =
        let c = cells_same b s u a h.0 in
        depends rest _ _ h.2 (agree_loaded _ _ r _ _ _ _ c (ap₂ place (value_same at s.regs u.regs a.regs h.1) (ap length c)) (agree_tick s u a))
    depends (Set b at x rest) s u h a =
        let c = cells_same b s u a h.0 in
        depends rest _ _ h.3 (agree_stored _ _ b _ _ _ _ _ _ c (ap₂ place (value_same at s.regs u.regs a.regs h.1) (ap length c)) (value_same x s.regs u.regs a.regs h.2) (agree_tick s u a))
    depends (For r d body rest) s u h a =
        depends rest _ _ h.2 (agree_turns _ _ (λ t v w b. depends body _ _ h.1 (agree_reg _ _ r _ _ refl (agree_tick v w b))) _ _ (size_same d h.0) _ _ (agree_tick s u a))
    depends (Span r x y d body rest) s u h a =
        let p = value_same x s.regs u.regs a.regs h.0 in
        depends rest _ _ h.3 (agree_turns _ _ (λ t v w b. depends body _ _ h.2 (agree_reg _ _ r _ _ (ap (λ (z : ℤ). z +ℤ pos t) p) (agree_tick v w b))) _ _ (ap₂ gap p (value_same y s.regs u.regs a.regs h.1)) _ _ (agree_tick s u a))
    depends (If l eq r body given other rest) s u h a =
        let x = depends body _ _ h.2 (agree_tick s u a) in
        let y = depends other _ _ h.3 (agree_tick s u a) in
        let m : (q p : Bool) → p ≡ q → Agree (cond q (exec env body (tick 1 s)) (exec env other (tick 1 s))) (cond p (exec env' body (tick 1 u)) (exec env' other (tick 1 u))) = λ q p e. subst (λ (b : Bool). Agree (cond q (exec env body (tick 1 s)) (exec env other (tick 1 s))) (cond b (exec env' body (tick 1 u)) (exec env' other (tick 1 u)))) (sym e) (elim q as (λ b. Agree (cond b (exec env body (tick 1 s)) (exec env other (tick 1 s))) (cond b (exec env' body (tick 1 u)) (exec env' other (tick 1 u)))) [ true ↦ x | false ↦ y ]) in
        depends rest _ _ h.4 (m _ _ (ap₂ (test eq) (value_same l s.regs u.regs a.regs h.0) (value_same r s.regs u.regs a.regs h.1)))
    depends (When x d r body given other rest) s u h a =
        let y = depends other _ _ h.3 (agree_tick s u a) in
        let go : (o : Option ℕ) → Agree (entered o (λ j. exec env body (set_reg r (pos j) (tick 1 s))) (exec env other (tick 1 s))) (entered o (λ j. exec env' body (set_reg r (pos j) (tick 1 u))) (exec env' other (tick 1 u))) = elim [ None ↦ y | Some j ↦ depends body _ _ h.2 (agree_reg _ _ r _ _ refl (agree_tick s u a)) ] in
        let m : (o p : Option ℕ) → p ≡ o → Agree (entered o (λ j. exec env body (set_reg r (pos j) (tick 1 s))) (exec env other (tick 1 s))) (entered p (λ j. exec env' body (set_reg r (pos j) (tick 1 u))) (exec env' other (tick 1 u))) = λ o p e. subst (λ (q : Option ℕ). Agree (entered o (λ j. exec env body (set_reg r (pos j) (tick 1 s))) (exec env other (tick 1 s))) (entered q (λ j. exec env' body (set_reg r (pos j) (tick 1 u))) (exec env' other (tick 1 u)))) (sym e) (go o) in
        depends rest _ _ h.4 (m _ _ (ap₂ place (value_same x s.regs u.regs a.regs h.0) (size_same d h.1)))
    depends (Order b keys rest) s u h a =
        let c = ap length (cells_same b s u a h.0) in
        let ks = all_same keys s u a h.1 in
        depends rest _ _ h.2 (agree_sorted _ _ b _ _ _ _ c ks (agree_ticks s u _ _ (ap (λ n. n * length keys + 1) c) a))

pub depends_on_names : DependsOnNames
depends_on_names regs bufs dims env env' k c s u alike uses agree = depends (among regs) (among bufs) (among dims) env env' k alike c s u uses agree
