-- The laws of blocks, for every block.
use Rattle.std.specs.Prelude.{◌≡◌, ℕ, suc, Bool, true, false, pos, List, ◌++◌, None}
use Rattle.us_code.specs.declared.program.Dim.{Dim}
use Rattle.us_code.specs.Plain.{Code, For, ◌+++◌, PhaseTree, ProgramTree}
use Rattle.us_code.specs.Run.{Env, State, exec, turns, size_of, tick, set_reg}
use Rattle.us_code.specs.Runs.{World, phases, ◌>>=◌}
use Rattle.us_code_laws.specs.Agree.{AlikeOn, AgreeOn}
use Rattle.us_code.specs.Names.{writes, assigns, Uses}
use Rattle.us_code.specs.Typing.{Context, Typed, outer, TypedProgram}
use Rattle.us_code.specs.Unbound.{first_unbound}
use Rattle.us_code_laws.specs.Wider.{Wider, Spares}
use Rattle.us_code_laws.specs.Fits.{Fits, Sound}

-- two blocks are the second after the first
abbrev pub Sequence : Type 0
Sequence = (env : Env) (a b : Code) (s : State) → exec env (a +++ b) s ≡ exec env b (exec env a s)

-- a turn of a `for`
abbrev pub turn_of : Env → ℕ → Code → ℕ → State → State
turn_of env r body t u = exec env body (set_reg r (pos t) (tick 1 u))

-- a `for` is its turns, and t + 1 turns are t turns and one more
pub record Loop : Type 0 where
  pub runs : (env : Env) (r : ℕ) (d : Dim) (body rest : Code) (s : State) → exec env (For r d body rest) s ≡ exec env rest (turns (size_of env d) (turn_of env r body) (tick 1 s))
  pub one_more : (env : Env) (r : ℕ) (body : Code) (t : ℕ) (s : State) → turns (suc t) (turn_of env r body) s ≡ turn_of env r body t (turns t (turn_of env r body) s)

-- two lists of phases, one after the other, are the second after the first
abbrev pub PhasesInSequence : Type 0
PhasesInSequence = (a b : List PhaseTree) (w : World) → phases (a ++ b) w ≡ phases a w >>= phases b

-- a block changes no buffer that it neither sets nor orders, and no register that it gives no value
abbrev pub KeepsBuffers : Type 0
KeepsBuffers = (env : Env) (c : Code) (s : State) (b : ℕ) → writes b c ≡ false → (exec env c s).bufs b ≡ s.bufs b

abbrev pub KeepsRegisters : Type 0
KeepsRegisters = (env : Env) (c : Code) (s : State) (r : ℕ) → assigns r c ≡ false → (exec env c s).regs r ≡ s.regs r

-- the names in a set
abbrev pub among : (ℕ → Bool) → ℕ → Type 0
among names x = names x ≡ true

-- a block's effect and steps depend on no register, buffer or dim that it doesn't name
abbrev pub DependsOnNames : Type 0
DependsOnNames =
    (regs bufs dims : ℕ → Bool) (env env' : Env) (k : ℕ) (c : Code) (s u : State) → AlikeOn (among dims) env env'
    → Uses (among regs) (among bufs) (among dims) c → AgreeOn (among regs) (among bufs) k s u → AgreeOn (among regs) (among bufs) k (exec env c s) (exec env' c u)

-- a typed block, from a state that fits, is never stuck, and leaves a state that fits
abbrev pub TypedIsSound : Type 0
TypedIsSound = (env : Env) (g : Context) (c : Code) (s : State) → Typed g c → Fits g env s → Sound (outer g c) env s (exec env c s)

-- a program is typed exactly where no item breaks a rule
pub record UnboundMeansUntyped : Type 0 where
  pub typed : (p : ProgramTree) → first_unbound p ≡ None → TypedProgram p
  pub unbroken : (p : ProgramTree) → TypedProgram p → first_unbound p ≡ None

-- a block that is typed behind a typed one
abbrev pub TypedInSequence : Type 0
TypedInSequence = (g : Context) (a b : Code) → Typed g a → Typed (outer g a) b → Typed g (a +++ b)

-- a typed block stays typed where more is visible, none of which it introduces
abbrev pub TypedWhereMoreIsVisible : Type 0
TypedWhereMoreIsVisible = (g h : Context) (c : Code) → Wider g h → Spares g h c → Typed g c → Typed h c
