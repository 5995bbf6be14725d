-- What each statement does to a state, from a few facts about it.
use Rattle.std.specs.Prelude.{◌≡◌, ℕ, ◌+◌, ◌-◌, ◌*◌, ◌<◌, ◌≤◌, Bool, true, false, List, length, map, pos, negsuc, slice_index_or, slice_set}
use Rattle.us_code.specs.declared.program.Dim.{Dim}
use Rattle.us_code.specs.declared.program.Buf.{Buf}
use Rattle.us_code.specs.declared.program.Buf.TheVariants as buf
use Rattle.us_code.specs.Plain.{TermTree, Code, Let, Load, Var, Put, Set, Span, If, When, Order}
use Rattle.us_code.specs.Run.{Env, State, exec, turns, size_of, cells, value, tick, set_reg, set_buf, test, all_long}
use Rattle.us_code.specs.Sort.{ordered}

-- how a block goes on after its first statement
pub record StatementRules : Type 0 where
  pub after_let : (env : Env) (r : ℕ) (e : TermTree) (rest : Code) (s : State) → exec env (Let r e rest) s ≡ exec env rest (set_reg r (value env s.regs e) (tick 1 s))
  pub after_var : (env : Env) (r : ℕ) (e : TermTree) (rest : Code) (s : State) → exec env (Var r e rest) s ≡ exec env rest (set_reg r (value env s.regs e) (tick 1 s))
  pub after_put : (env : Env) (r : ℕ) (e : TermTree) (rest : Code) (s : State) → exec env (Put r e rest) s ≡ exec env rest (set_reg r (value env s.regs e) (tick 1 s))
  pub after_load : (env : Env) (r : ℕ) (b : Buf) (at : TermTree) (rest : Code) (s : State) (k : ℕ) → value env s.regs at ≡ pos k → k < length (cells env s b) → exec env (Load r b at rest) s ≡ exec env rest (set_reg r (slice_index_or (cells env s b) k (pos 0)) (tick 1 s))
  pub after_set : (env : Env) (b : ℕ) (at e : TermTree) (rest : Code) (s : State) (k : ℕ) → value env s.regs at ≡ pos k → k < length (s.bufs b) → exec env (Set (buf.New b) at e rest) s ≡ exec env rest (set_buf b (slice_set (s.bufs b) k (value env s.regs e)) (tick 1 s))
  pub after_span : (env : Env) (r : ℕ) (a b : TermTree) (d : Dim) (body rest : Code) (s : State) (x y : ℕ) → value env s.regs a ≡ pos x → value env s.regs b ≡ pos y → exec env (Span r a b d body rest) s ≡ exec env rest (turns (y - x) (λ t u. exec env body (set_reg r (pos (x + t)) (tick 1 u))) (tick 1 s))
  pub after_if : (env : Env) (l : TermTree) (eq : Bool) (r : TermTree) (body : Code) (given : Bool) (other rest : Code) (s : State) → test eq (value env s.regs l) (value env s.regs r) ≡ true → exec env (If l eq r body given other rest) s ≡ exec env rest (exec env body (tick 1 s))
  pub after_else : (env : Env) (l : TermTree) (eq : Bool) (r : TermTree) (body : Code) (given : Bool) (other rest : Code) (s : State) → test eq (value env s.regs l) (value env s.regs r) ≡ false → exec env (If l eq r body given other rest) s ≡ exec env rest (exec env other (tick 1 s))
  pub after_when : (env : Env) (e : TermTree) (d : Dim) (r : ℕ) (body : Code) (given : Bool) (other rest : Code) (s : State) (k : ℕ) → value env s.regs e ≡ pos k → k < size_of env d → exec env (When e d r body given other rest) s ≡ exec env rest (exec env body (set_reg r (pos k) (tick 1 s)))
  pub after_large : (env : Env) (e : TermTree) (d : Dim) (r : ℕ) (body : Code) (given : Bool) (other rest : Code) (s : State) (k : ℕ) → value env s.regs e ≡ pos k → size_of env d ≤ k → exec env (When e d r body given other rest) s ≡ exec env rest (exec env other (tick 1 s))
  pub after_negative : (env : Env) (e : TermTree) (d : Dim) (r : ℕ) (body : Code) (given : Bool) (other rest : Code) (s : State) (k : ℕ) → value env s.regs e ≡ negsuc k → exec env (When e d r body given other rest) s ≡ exec env rest (exec env other (tick 1 s))
  pub after_order : (env : Env) (b : ℕ) (keys : List Buf) (rest : Code) (s : State) → all_long (length (s.bufs b)) (map (cells env s) keys) ≡ true → exec env (Order (buf.New b) keys rest) s ≡ exec env rest (set_buf b (map pos (ordered (map (cells env s) keys) (length (s.bufs b)))) (tick (length (s.bufs b) * length keys + 1) s))
