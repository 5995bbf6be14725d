-- How a cell of a column is read.
use Rattle.std.proofs.Common.{◌≡◌, ℕ, ◌+◌, ◌*◌, ◌^◌, ◌<◌, ◌≤◌, refl, ap, ◌∙◌, arith, List, length, pos, negsuc, ℤ, ◌+ℤ◌, ◌*ℤ◌, mul-le-mul_right}
use Rattle.std.specs.Int.{int_wrap}
use mir.Syntax.{w64}
use Rattle.us_code.specs.declared.program.Buf.TheVariants as buf
use Rattle.us_code.specs.Plain.{TermTree, Reg, Code}
use Rattle.us_code.specs.Run.{Env, State, value, tick, set_reg}
use Rattle.us_code.specs.Runs.{whole}
use Rattle.us_code_laws.specs.Does.{Does}
use Rattle.us_code_laws.proofs.Sequence.{put_same, put_other}
use Rattle.us_code_laws.proofs.Does.{do_end, do_weaker, do_load, do_when}
use Rattle.us_format.specs.Lists.{cell, nat_of}
use Rattle.us_gen.specs.Nest.{cell_level}
use Rattle.us_gen.specs.Levels.{in_pack, level, Fits}
use Rattle.us_gen.proofs.LevelRuns.{wrap_small}
use Rattle.us_gen_walk.specs.declared.places.Column.{Column}
use Rattle.us_gen_walk.specs.declared.places.Column.TheVariants as column
use Rattle.us_gen_walk.specs.Walk.{tested, at_node}
use Rattle.us_gen_walk.specs.Runs.{HasColumn}

pub whole_nat : (z : ℤ) → whole z ≡ nat_of z
whole_nat (pos n) = refl
whole_nat (negsuc n) = refl

-- from s to u the register behind the first got a value
pub record Read (n : ℕ) (v : ℤ) (s u : State) : Type 0 where
  pub made : u.regs (n + 1) ≡ v
  pub regs : (r : ℕ) → r < n → u.regs r ≡ s.regs r
  pub bufs : u.bufs ≡ s.bufs
  pub steps : u.steps ≡ s.steps + 2

-- place q * w + digit is in the pack
pub in_range : (N w digit q m : ℕ) → digit < w → N * w ≤ m → q < N → q * w + digit < m
in_range N w digit q m d le lq = omega (arith, mul-le-mul_right w lq)

module _ (env : Env) where
  pub pack_value : (e : TermTree) (w digit q : ℕ) (f : ℕ → ℤ) → value env f e ≡ pos q → q * w + digit < 2 ^ 63 → value env f (in_pack e w digit) ≡ pos (q * w + digit)
  pack_value e w digit q f he small =
      ap (λ (x : ℤ). int_wrap w64 (int_wrap w64 (x *ℤ pos w) +ℤ pos digit)) he
      ∙ (ap (λ (x : ℤ). int_wrap w64 (x +ℤ pos digit)) (wrap_small (q * w) (omega arith)) ∙ wrap_small (q * w + digit) small)

  cell_do : (k place : ℕ) (at : TermTree) (n : ℕ) (inner : Code) (s : State) (Q : State → Type 0) → value env s.regs at ≡ pos place → place < length (env.sources k)
      → ((u : State) → Read n (cell (env.sources k) place) s u → Does env inner u Q) → Does env (cell_level at k n inner) s Q
  cell_do k place at n inner s Q e lt then =
      let s1 = set_reg n (pos place) (tick 1 s) in
      let s2 = set_reg (n + 1) (cell (env.sources k) place) (tick 1 s1) in
      do_when env at _ n _ _ _ _ s _ place e lt
      (do_load env (n + 1) (buf.Source k) (Reg n) inner s1 _ place (put_same s.regs n _) lt
      (do_weaker env inner s2 _ _ (λ v h. do_end env v _ h)
      (then s2 record { made = put_same s1.regs (n + 1) _; regs = λ r l. put_other s1.regs (n + 1) _ r (omega arith) ∙ put_other s.regs n _ r (omega arith); bufs = refl; steps = omega arith })))

  read_as : (n : ℕ) (v w : ℤ) (s u : State) → v ≡ w → Read n v s u → Read n w s u
  read_as n v w s u e r = record { made = r.made ∙ e; regs = r.regs; bufs = r.bufs; steps = r.steps }

  -- a cell of a column
  pub column_do : (c : Column) (cells : List ℤ) (e : TermTree) (n q : ℕ) (inner : Code) (s : State) (Q : State → Type 0) → HasColumn env c cells → q < length cells → value env s.regs e ≡ pos q
      → ((u : State) → Read n (cell cells q) s u → Does env inner u Q) → Does env (level (tested c) e n inner) s Q
  column_do (column.Own k) cells e n q inner s Q h lt v then =
      cell_do k q e n inner s Q v (omega (arith, lt, ap (λ (xs : List ℤ). length xs) h)) (λ u r. then u (read_as n _ _ s u (ap (λ (xs : List ℤ). cell xs q) h) r))
  column_do (column.Packed k w digit) cells e n q inner s Q h lt v then =
      let room : q * w + digit < length (env.sources k) = in_range (length cells) w digit q (length (env.sources k)) h.digit_is (omega (arith, h.long)) lt in
      cell_do k (q * w + digit) (in_pack e w digit) n inner s Q (pack_value e w digit q s.regs v (omega (arith, room, h.small))) room (λ u r. then u (read_as n _ _ s u (h.each q lt) r))

  -- as many cells as there are positions
  pub node_column_fits : (c : Column) (cells : List ℤ) (N : ℕ) → HasColumn env c cells → length cells ≡ N → Fits env (at_node c) N
  node_column_fits (column.Own k) cells N h e = omega (arith, e, ap (λ (xs : List ℤ). length xs) h)
  node_column_fits (column.Packed k w digit) cells N h e = (h.digit_is, omega (arith, h.long, ap (λ (x : ℕ). x * w) e), h.small)
