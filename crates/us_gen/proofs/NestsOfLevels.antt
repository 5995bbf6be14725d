-- What a nest over a list of levels does around any inner block.
use Rattle.std.proofs.Common.{◌≡◌, ℕ, ◌+◌, ◌*◌, ◌^◌, ◌<◌, ◌≤◌, Bool, true, false, refl, sym, ap, ◌∙◌, arith, List, [], ◌∷◌, length, pos, ℤ, ◌+ℤ◌, ◌*ℤ◌, mul-le-mul_right, ◌⊎◌, inl, inr}
use Rattle.std.specs.Int.{int_wrap}
use Rattle.std.proofs.lemmas.Bool.{cases_lt}
use mir.Syntax.{w64}
use Rattle.us_code.specs.declared.program.Dim.{Dim}
use Rattle.us_code.specs.declared.program.Dim.TheVariants as dim
use Rattle.us_code.specs.Plain.{TermTree, Code}
use Rattle.us_code.specs.Run.{Env, State, size_of, value}
use Rattle.us_code.specs.Runs.{whole}
use Rattle.us_gen.specs.Nest.{Same, Visits, Below, At}
use Rattle.us_gen.specs.declared.nests.Level.{Level}
use Rattle.us_gen.specs.declared.nests.Level.TheVariants.{Full, Nodes, Crd, Cell, Packed}
use Rattle.us_gen.specs.Levels.{size_term, in_pack, level, names, position, cell, first, inside, work, Fits, Inside, nest, end_of, position_in, first_in, all_inside, work_in, AllFit, AllInside, Running, stays, Held, NestsVisit, NestsPlace}
use Rattle.us_gen.proofs.LevelRuns.{wrap_small, full_visits, node_visits, crd_visits, cell_visits, under_value}

module _ (env : Env) (kept : ℕ → Type 0) where
  size_value : (d : Dim) (f : ℕ → ℤ) → value env f (size_term d) ≡ pos (size_of env d)
  size_value (dim.Number n) f = refl
  size_value (dim.Name d) f = refl
  size_value (dim.Len k) f = refl

  -- place q * w + digit is in the pack
  in_range : (N w digit q m : ℕ) → digit < w → N * w ≤ m → q < N → q * w + digit < m
  in_range N w digit q m d le lq = omega (arith, mul-le-mul_right w lq)

  pack_value : (e : TermTree) (w digit q : ℕ) (f : ℕ → ℤ) → value env f e ≡ pos q → q * w + digit < 2 ^ 63 → value env f (in_pack e w digit) ≡ pos (q * w + digit)
  pack_value e w digit q f he small =
      ap (λ (x : ℤ). int_wrap w64 (int_wrap w64 (x *ℤ pos w) +ℤ pos digit)) he
      ∙ (ap (λ (x : ℤ). int_wrap w64 (x +ℤ pos digit)) (wrap_small (q * w) (omega arith)) ∙ wrap_small (q * w + digit) small)

  -- a level around any inner block
  level_visits : (l : Level) (e : TermTree) (n N : ℕ) (inner : Code) (K : ℕ → (ℕ → ℤ) → Type 0) (J : ℕ → State → Type 0) (C : ℕ → ℕ) → At env e N K (λ q. q) → Below kept n K J → Fits env l N → Visits env kept inner (n + names l) (inside env l N) (Inside env l n N K) J C → Visits env kept (level l e n inner) n N K (λ q. J (first env l q)) (λ q. C (first env l q) + work env l q)
  level_visits (Full size) e n N inner K J C at below fit v = full_visits env kept n N (size_of env size) size inner K J C below refl v
  level_visits (Nodes k more nodes) e n N inner K J C at below fit v = node_visits env kept e n N (size_of env nodes) k more nodes (λ p. whole (cell (env.sources k) p)) inner K J C at below fit.0 fit.1 v
  level_visits (Crd k) e n N inner K J C at below fit v = crd_visits env kept e n N k (λ q. q) inner K J C at below (λ q lq. omega (arith, fit, lq)) v
  level_visits (Cell k) e n N inner K J C at below fit v = cell_visits env kept e n N k (λ q. q) inner K J C at below (λ q lq. omega (arith, fit, lq)) v
  level_visits (Packed k w digit) e n N inner K J C at below fit v =
      let room : (q : ℕ) → q < N → q * w + digit < length (env.sources k) = λ q lq. in_range N w digit q (length (env.sources k)) fit.0 fit.1 lq in
      cell_visits env kept (in_pack e w digit) n N k (λ q. q * w + digit) inner K J C (λ q f lq kq. pack_value e w digit q f (at q f lq kq) (omega (arith, room q lq, fit.2))) below room v

  -- the position inside a level is its term's value
  level_at : (l : Level) (e : TermTree) (n N : ℕ) (K : ℕ → (ℕ → ℤ) → Type 0) → At env e N K (λ q. q) → Fits env l N → At env (position l e n) (inside env l N) (Inside env l n N K) (λ q. q)
  level_at (Full size) e n N K at fit = λ q f lq k.
      under_value env kept e (size_term size) n k.parent (size_of env size) k.coordinate f (at k.parent f k.exists k.above) (size_value size f) k.held (omega (arith, k.place, lq, fit)) ∙ ap pos (sym k.place)
  level_at (Nodes k more nodes) e n N K at fit = λ q f lq k. k.held
  level_at (Crd k) e n N K at fit = λ q f lq k. at q f lq k.above
  level_at (Cell k) e n N K at fit = λ q f lq k. at q f lq k.above
  level_at (Packed k w digit) e n N K at fit = λ q f lq k. at q f lq k.above

  fewer : (n m : ℕ) (f g : ℕ → ℤ) → n ≤ m → Same kept m f g → Same kept n f g
  fewer n m f g le s = λ r h l. s r h (omega arith)

  level_below : (l : Level) (n N : ℕ) (K : ℕ → (ℕ → ℤ) → Type 0) (J : ℕ → State → Type 0) → ((r : ℕ) → n ≤ r → kept r) → Below kept n K J → Below kept (n + names l) (Inside env l n N K) J
  level_below (Full size) n N K J free b = record {
    regs = λ q f g s k. record { parent = k.parent; exists = k.exists; coordinate = k.coordinate; in_size = k.in_size; place = k.place; above = b.regs k.parent f g (fewer n (n + 1) f g (omega arith) s) k.above; held = s n (free n (omega arith)) (omega arith) ∙ k.held };
    state = λ q s u e h j. b.state q s u e (λ r l. h r (omega arith)) j;
  }
  level_below (Nodes x more nodes) n N K J free b = record {
    regs = λ q f g s k. record { parent = k.parent; exists = k.exists; from = k.from; to = k.to; above = b.regs k.parent f g (fewer n (n + 7) f g (omega arith) s) k.above; held = s (n + 6) (free (n + 6) (omega arith)) (omega arith) ∙ k.held };
    state = λ q s u e h j. b.state q s u e (λ r l. h r (omega arith)) j;
  }
  level_below (Crd x) n N K J free b = record {
    regs = λ q f g s k. record { above = b.regs q f g (fewer n (n + 1) f g (omega arith) s) k.above; held = s n (free n (omega arith)) (omega arith) ∙ k.held };
    state = λ q s u e h j. b.state q s u e (λ r l. h r (omega arith)) j;
  }
  level_below (Cell x) n N K J free b = record {
    regs = λ q f g s k. record { above = b.regs q f g (fewer n (n + 2) f g (omega arith) s) k.above; held = s (n + 1) (free (n + 1) (omega arith)) (omega arith) ∙ k.held };
    state = λ q s u e h j. b.state q s u e (λ r l. h r (omega arith)) j;
  }
  level_below (Packed x w digit) n N K J free b = record {
    regs = λ q f g s k. record { above = b.regs q f g (fewer n (n + 2) f g (omega arith) s) k.above; held = s (n + 1) (free (n + 1) (omega arith)) (omega arith) ∙ k.held };
    state = λ q s u e h j. b.state q s u e (λ r l. h r (omega arith)) j;
  }

  below_at : (n : ℕ) (K : ℕ → (ℕ → ℤ) → Type 0) (J : ℕ → State → Type 0) (to : ℕ → ℕ) → Below kept n K J → Below kept n K (λ q. J (to q))
  below_at n K J to b = record { regs = b.regs; state = λ q s u e h j. b.state (to q) s u e h j }

  -- a nest around any inner block
  pub nest_visits : (ls : List Level) (e : TermTree) (n N : ℕ) (inner : Code) (K : ℕ → (ℕ → ℤ) → Type 0) (J : ℕ → State → Type 0) (C : ℕ → ℕ) → ((r : ℕ) → n ≤ r → kept r) → At env e N K (λ q. q) → Below kept n K J → AllFit env ls N → Visits env kept inner (end_of ls n) (all_inside env ls N) (AllInside env ls n N K) J C → Visits env kept (nest ls e n inner) n N K (λ q. J (first_in env ls q)) (work_in env ls C)
  nest_visits [] e n N inner K J C free at below fit v = v
  nest_visits (l ∷ ls) e n N inner K J C free at below fit v =
      level_visits l e n N (nest ls (position l e n) (n + names l) inner) K (λ q. J (first_in env ls q)) (work_in env ls C) at (below_at n K J (first_in env ls) below) fit.0
      (nest_visits ls (position l e n) (n + names l) (inside env l N) inner (Inside env l n N K) J C (λ r h. free r (omega arith)) (level_at l e n N K at fit.0) (level_below l n N K J free below) fit.1 v)

  -- inside a nest the position is its term's value
  pub nest_at : (ls : List Level) (e : TermTree) (n N : ℕ) (K : ℕ → (ℕ → ℤ) → Type 0) → At env e N K (λ q. q) → AllFit env ls N → At env (position_in ls e n) (all_inside env ls N) (AllInside env ls n N K) (λ q. q)
  nest_at [] e n N K at fit = at
  nest_at (l ∷ ls) e n N K at fit = nest_at ls (position l e n) (n + names l) (inside env l N) (Inside env l n N K) (level_at l e n N K at fit.0) fit.1

held_below : (runs : ℕ → Bool) (n : ℕ) (top : ℕ → ℕ → ℤ) (bufs : ℕ → ℕ → List ℤ) (held : ℕ → ℕ → ℤ) → ((r : ℕ) → n ≤ r → runs r ≡ false) → Below (stays runs) n (Held runs n top) (Running runs bufs held)
held_below runs n top bufs held free = record {
  regs = λ q f g s k r h l. s r h l ∙ k r h l;
  state = λ q s u e h j. (e ∙ j.0, λ r t. h r (low r t (cases_lt r n)) ∙ j.1 r t);
}
  where
    low : (r : ℕ) → runs r ≡ true → (r < n) ⊎ (n ≤ r) → r < n
    low r t (inl x) = x
    low r t (inr x) = let f = free r x in absurd cc

pub nests_visit : NestsVisit
nests_visit env runs ls e n N inner top bufs held C free at fit v = nest_visits env (stays runs) ls e n N inner (Held runs n top) (Running runs bufs held) C free at (held_below runs n top bufs held free) fit v

pub nests_place : NestsPlace
nests_place env runs ls e n N top at fit = nest_at env (stays runs) ls e n N (Held runs n top) at fit
