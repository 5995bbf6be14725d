-- A loop over the indices of the entries.
use Rattle.std.proofs.Common.{◌≡◌, ℕ, suc, ◌+◌, ◌*◌, ◌<◌, ◌≤◌, false, refl, ◌∙◌, subst, arith, List, ℤ, pos}
use Rattle.std.specs.Prelude.{slice_index_or}
use Rattle.us_code.specs.declared.program.Dim.{Dim}
use Rattle.us_code.specs.declared.program.Dim.TheVariants as dim
use Rattle.us_code.specs.declared.program.Buf.TheVariants as buf
use Rattle.us_code.specs.declared.pieces.Columns.{Columns}
use Rattle.us_code.specs.Plain.{Reg, Code, End, Load, When}
use Rattle.us_code.specs.Run.{Env, State, tick, set_reg, size_of}
use Rattle.us_code_laws.specs.Does.{Does}
use Rattle.us_code_laws.proofs.Sequence.{put_same, put_other}
use Rattle.us_code_laws.proofs.Does.{do_end, do_weaker, do_load, do_for, do_when}
use Rattle.us_gen_query.specs.Reordering.{at_index, AreIndices}

-- what holds after t entries, with the registers below n as they were, at so many steps an entry
pub record Passing (n cost : ℕ) (I : ℕ → (ℕ → List ℤ) → Type 0) (t : ℕ) (a u : State) : Type 0 where
  pub holds : I t u.bufs
  pub regs : (r : ℕ) → r < n → u.regs r ≡ a.regs r
  pub steps : u.steps ≤ a.steps + 1 + t * cost

-- what the inner block does at the entry t of the index g, in so many steps
abbrev pub Inner : Env → ℕ → ℕ → (ℕ → (ℕ → List ℤ) → Type 0) → Code → ℕ → ℕ → Type 0
Inner env n cost I inner t g =
    (s : State) → s.regs n ≡ pos t → s.regs (n + 2) ≡ pos g → I t s.bufs → Does env inner s (λ u. I (suc t) u.bufs × ((r : ℕ) → r < n → u.regs r ≡ s.regs r) × (u.steps ≡ s.steps + cost))

pub at_index_does : (env : Env) (cs : Columns) (i : ℕ) (size : Dim) (n m cost : ℕ) (inner : Code) (index : ℕ → ℕ) (I : ℕ → (ℕ → List ℤ) → Type 0) (a : State) → env.dims cs.count ≡ m
    → ((t : ℕ) (bufs : ℕ → List ℤ) → I t bufs → AreIndices (bufs i) m (size_of env size) index) → I 0 a.bufs → ((t : ℕ) → t < m → Inner env n cost I inner t (index t))
    → Does env (at_index cs i size n inner) a (Passing n (cost + 3) I m a)
at_index_does env cs i size n m cost inner index I a count held base step =
    do_for env n (dim.Name cs.count) (Load (n + 1) (buf.New i) (Reg n) (When (Reg (n + 1)) size (n + 2) inner false End End)) End a (Passing n (cost + 3) I m a) (λ t u. Passing n (cost + 3) I t a u)
    (record { holds = base; regs = λ r h. refl; steps = omega arith })
    (λ t u lt p. turn t u (omega (arith, lt, count)) p)
    (λ u p. do_end env u (Passing n (cost + 3) I m a) (subst (λ (x : ℕ). Passing n (cost + 3) I x a u) count p))
  where
    turn : (t : ℕ) (u : State) → t < m → Passing n (cost + 3) I t a u → Does env (Load (n + 1) (buf.New i) (Reg n) (When (Reg (n + 1)) size (n + 2) inner false End End)) (set_reg n (pos t) (tick 1 u)) (Passing n (cost + 3) I (suc t) a)
    turn t u lt p =
        let Q = Passing n (cost + 3) I (suc t) a in
        let x = held t u.bufs p.holds in
        let g = index t in
        let u1 = set_reg n (pos t) (tick 1 u) in
        let u2 = set_reg (n + 1) (slice_index_or (u1.bufs i) t (pos 0)) (tick 1 u1) in
        let u3 = set_reg (n + 2) (pos g) (tick 1 u2) in
        let at : u3.regs n ≡ pos t = put_other u2.regs (n + 2) _ n (omega arith) ∙ (put_other u1.regs (n + 1) _ n (omega arith) ∙ put_same u.regs n _) in
        let low : (r : ℕ) → r < n → u3.regs r ≡ u.regs r = λ r h. put_other u2.regs (n + 2) _ r (omega (arith, h)) ∙ (put_other u1.regs (n + 1) _ r (omega (arith, h)) ∙ put_other u.regs n _ r (omega (arith, h))) in
        do_load env (n + 1) (buf.New i) (Reg n) (When (Reg (n + 1)) size (n + 2) inner false End End) u1 Q t (put_same u.regs n _) (omega (arith, lt, x.long))
        (do_when env (Reg (n + 1)) size (n + 2) inner false End End u2 Q g (put_same u1.regs (n + 1) _ ∙ x.cells t lt) (x.below t lt)
        (do_weaker env inner u3 (λ w. I (suc t) w.bufs × ((r : ℕ) → r < n → w.regs r ≡ u3.regs r) × (w.steps ≡ u3.steps + cost)) (λ w. Does env End w Q)
        (λ w q. do_end env w Q record { holds = q.0; regs = λ r h. q.1 r h ∙ (low r h ∙ p.regs r h); steps = omega (arith, q.2, p.steps) })
        (step t lt u3 at (put_same u2.regs (n + 2) _) p.holds)))
