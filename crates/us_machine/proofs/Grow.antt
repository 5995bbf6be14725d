-- Steps only grow.
use Rattle.std.proofs.Common.{◌≡◌, ℕ, zero, suc, ◌+◌, ◌*◌, ◌≤◌, Bool, true, false, cond, refl, arith, List, map, length, pos, ℤ, ◌+ℤ◌, Option, Some, None}
use Rattle.us_code.specs.declared.program.Buf.{Buf}
use Rattle.us_code.specs.declared.program.Buf.TheVariants as buf
use Rattle.us_code.specs.Plain.{Code, End, Let, Load, Var, Put, Set, For, Span, If, When, Order}
use Rattle.us_code.specs.Run.{Env, State, exec, size_of, cells, value, place, gap, tick, set_reg, loaded, stored, turns, entered, all_long, sorted_if, sorted, test}
use Rattle.us_code.specs.Sort.{ordered}

turns_grow : (f : ℕ → State → State) (n : ℕ) (s : State) → ((t : ℕ) (u : State) → u.steps ≤ (f t u).steps) → s.steps ≤ (turns n f s).steps
turns_grow f zero s h = omega arith
turns_grow f (suc n) s h = omega (arith, turns_grow f n s h, h n (turns n f s))

load_steps : (r : ℕ) (xs : List ℤ) (o : Option ℕ) (s : State) → (loaded r xs o s).steps ≡ s.steps
load_steps r xs None s = refl
load_steps r xs (Some k) s = refl

store_steps : (b : Buf) (xs : List ℤ) (o : Option ℕ) (v : ℤ) (s : State) → (stored b xs o v s).steps ≡ s.steps
store_steps b xs None v s = refl
store_steps (buf.New b) xs (Some k) v s = refl
store_steps (buf.Source b) xs (Some k) v s = refl

if_steps : (q : Bool) (b : ℕ) (xs : List ℤ) (s : State) → (sorted_if q b xs s).steps ≡ s.steps
if_steps true b xs s = refl
if_steps false b xs s = refl

sort_steps : (b : Buf) (n : ℕ) (keys : List (List ℤ)) (s : State) → (sorted b n keys s).steps ≡ s.steps
sort_steps (buf.New b) n keys s = if_steps (all_long n keys) b (map pos (ordered keys n)) s
sort_steps (buf.Source k) n keys s = refl

either : (m : ℕ) (q : Bool) (x y : State) → m ≤ x.steps → m ≤ y.steps → m ≤ (cond q x y).steps
either m true x y h k = h
either m false x y h k = k

enter : (m : ℕ) (o : Option ℕ) (f : ℕ → State) (y : State) → ((k : ℕ) → m ≤ (f k).steps) → m ≤ y.steps → m ≤ (entered o f y).steps
enter m None f y h k = k
enter m (Some x) f y h k = h x

pub grows : (env : Env) (c : Code) (s : State) → s.steps ≤ (exec env c s).steps
grows env End s = omega arith
grows env (Let r e rest) s = let i = grows env rest (set_reg r (value env s.regs e) (tick 1 s)) in omega (arith, i)
grows env (Var r e rest) s = let i = grows env rest (set_reg r (value env s.regs e) (tick 1 s)) in omega (arith, i)
grows env (Put r e rest) s = let i = grows env rest (set_reg r (value env s.regs e) (tick 1 s)) in omega (arith, i)
grows env (Load r b at rest) s =
    let o = place (value env s.regs at) (length (cells env s b)) in
    let i = grows env rest (loaded r (cells env s b) o (tick 1 s)) in
    omega (arith, i, load_steps r (cells env s b) o (tick 1 s))
grows env (Set b at e rest) s =
    let o = place (value env s.regs at) (length (cells env s b)) in
    let i = grows env rest (stored b (cells env s b) o (value env s.regs e) (tick 1 s)) in
    omega (arith, i, store_steps b (cells env s b) o (value env s.regs e) (tick 1 s))
grows env (For r d body rest) s =
    let f : ℕ → State → State = λ t u. exec env body (set_reg r (pos t) (tick 1 u)) in
    let l = turns_grow f (size_of env d) (tick 1 s) (λ t u. let i = grows env body (set_reg r (pos t) (tick 1 u)) in omega (arith, i)) in
    let i = grows env rest (turns (size_of env d) f (tick 1 s)) in
    omega (arith, l, i)
grows env (Span r a b d body rest) s =
    let f : ℕ → State → State = λ t u. exec env body (set_reg r (value env s.regs a +ℤ pos t) (tick 1 u)) in
    let n = gap (value env s.regs a) (value env s.regs b) in
    let l = turns_grow f n (tick 1 s) (λ t u. let i = grows env body (set_reg r (value env s.regs a +ℤ pos t) (tick 1 u)) in omega (arith, i)) in
    let i = grows env rest (turns n f (tick 1 s)) in
    omega (arith, l, i)
grows env (If l eq r body given other rest) s =
    let q = test eq (value env s.regs l) (value env s.regs r) in
    let x = exec env body (tick 1 s) in
    let y = exec env other (tick 1 s) in
    let e = either (s.steps + 1) q x y (grows env body (tick 1 s)) (grows env other (tick 1 s)) in
    let i = grows env rest (cond q x y) in
    omega (arith, e, i)
grows env (When e d r body given other rest) s =
    let o = place (value env s.regs e) (size_of env d) in
    let f : ℕ → State = λ k. exec env body (set_reg r (pos k) (tick 1 s)) in
    let y = exec env other (tick 1 s) in
    let l = enter (s.steps + 1) o f y (λ k. grows env body (set_reg r (pos k) (tick 1 s))) (grows env other (tick 1 s)) in
    let i = grows env rest (entered o f y) in
    omega (arith, l, i)
grows env (Order b keys rest) s =
    let n = length (cells env s b) in
    let u = tick (n * length keys + 1) s in
    let i = grows env rest (sorted b n (map (cells env s) keys) u) in
    omega (arith, i, sort_steps b n (map (cells env s) keys) u)

-- a loop's turns
pub turns_from : (env : Env) (reg x : ℕ) (c : Code) (n : ℕ) (s : State) → s.steps ≤ (turns n (λ t u. exec env c (set_reg reg (pos (x + t)) (tick 1 u))) s).steps
turns_from env reg x c n s = turns_grow (λ t u. exec env c (set_reg reg (pos (x + t)) (tick 1 u))) n s (λ t u. let i = grows env c (set_reg reg (pos (x + t)) (tick 1 u)) in omega (arith, i))

-- a block that isn't empty
abbrev pub Begins : Code → Type 0
Begins End = ⊥
Begins (Let r e rest) = Unit {0}
Begins (Load r b at rest) = Unit {0}
Begins (Var r e rest) = Unit {0}
Begins (Put r e rest) = Unit {0}
Begins (Set b at e rest) = Unit {0}
Begins (For r d body rest) = Unit {0}
Begins (Span r a b d body rest) = Unit {0}
Begins (If l eq r body given other rest) = Unit {0}
Begins (When e d r body given other rest) = Unit {0}
Begins (Order b keys rest) = Unit {0}

-- it costs a step at least
pub costs : (env : Env) (c : Code) (s : State) → Begins c → s.steps + 1 ≤ (exec env c s).steps
costs env End s h = absurd h
costs env (Let r e rest) s h = grows env rest (set_reg r (value env s.regs e) (tick 1 s))
costs env (Var r e rest) s h = grows env rest (set_reg r (value env s.regs e) (tick 1 s))
costs env (Put r e rest) s h = grows env rest (set_reg r (value env s.regs e) (tick 1 s))
costs env (Load r b at rest) s h =
    let o = place (value env s.regs at) (length (cells env s b)) in
    let i = grows env rest (loaded r (cells env s b) o (tick 1 s)) in
    omega (arith, i, load_steps r (cells env s b) o (tick 1 s))
costs env (Set b at e rest) s h =
    let o = place (value env s.regs at) (length (cells env s b)) in
    let i = grows env rest (stored b (cells env s b) o (value env s.regs e) (tick 1 s)) in
    omega (arith, i, store_steps b (cells env s b) o (value env s.regs e) (tick 1 s))
costs env (For r d body rest) s h =
    let f : ℕ → State → State = λ t u. exec env body (set_reg r (pos t) (tick 1 u)) in
    let l = turns_grow f (size_of env d) (tick 1 s) (λ t u. let i = grows env body (set_reg r (pos t) (tick 1 u)) in omega (arith, i)) in
    let i = grows env rest (turns (size_of env d) f (tick 1 s)) in
    omega (arith, l, i)
costs env (Span r a b d body rest) s h =
    let f : ℕ → State → State = λ t u. exec env body (set_reg r (value env s.regs a +ℤ pos t) (tick 1 u)) in
    let n = gap (value env s.regs a) (value env s.regs b) in
    let l = turns_grow f n (tick 1 s) (λ t u. let i = grows env body (set_reg r (value env s.regs a +ℤ pos t) (tick 1 u)) in omega (arith, i)) in
    let i = grows env rest (turns n f (tick 1 s)) in
    omega (arith, l, i)
costs env (If l eq r body given other rest) s h =
    let q = test eq (value env s.regs l) (value env s.regs r) in
    let x = exec env body (tick 1 s) in
    let y = exec env other (tick 1 s) in
    let e = either (s.steps + 1) q x y (grows env body (tick 1 s)) (grows env other (tick 1 s)) in
    let i = grows env rest (cond q x y) in
    omega (arith, e, i)
costs env (When e d r body given other rest) s h =
    let o = place (value env s.regs e) (size_of env d) in
    let f : ℕ → State = λ k. exec env body (set_reg r (pos k) (tick 1 s)) in
    let y = exec env other (tick 1 s) in
    let l = enter (s.steps + 1) o f y (λ k. grows env body (set_reg r (pos k) (tick 1 s))) (grows env other (tick 1 s)) in
    let i = grows env rest (entered o f y) in
    omega (arith, l, i)
costs env (Order b keys rest) s h =
    let n = length (cells env s b) in
    let u = tick (n * length keys + 1) s in
    let i = grows env rest (sorted b n (map (cells env s) keys) u) in
    omega (arith, i, sort_steps b n (map (cells env s) keys) u)
