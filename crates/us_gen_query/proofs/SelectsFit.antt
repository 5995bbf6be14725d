-- The loops that select are typed.
use Rattle.std.proofs.Common.{◌≡◌, ℕ, ◌+◌, ◌<◌, Bool, true, false, cond, refl, ap, ap₂, ◌∙◌, arith, List, [], ◌∷◌, length, Option, Some, None}
use Rattle.us_code.specs.declared.program.Dim.{Dim}
use Rattle.us_code.specs.declared.program.Dim.TheVariants as dim
use Rattle.us_code.specs.declared.program.CellKind.{CellKind}
use Rattle.us_code.specs.declared.program.CellKind.TheVariants as kind
use Rattle.us_code.specs.declared.pieces.Columns.{Columns}
use Rattle.us_code.specs.Plain.{Number, Reg, Add, Code, End, Put, If}
use Rattle.us_code.specs.Typing.{Context, Form, RegKind, BufKind, is_some, is_put, reg_kind, buf_len, buf_cell, with_reg, fits, Typed}
use Rattle.us_code_laws.proofs.Sequence.{put_same, put_other}
use Rattle.us_code_laws.proofs.Sound.{both_true}
use Rattle.us_gen.specs.Rooms.{FreshFrom}
use Rattle.us_gen.specs.Columns.{entry}
use Rattle.us_gen.proofs.Appending.{appends_typed}
use Rattle.us_gen_query.specs.declared.selecting.Test.{Test}
use Rattle.us_gen_query.specs.Filling.{words}
use Rattle.us_gen_query.specs.Selecting.{guard, copied, AreTests, CountChosenTyped, CopyChosenTyped}
use Rattle.us_gen_query.proofs.FillsFit.{fits_same}

-- a place of the entries, and a register that may change
abbrev a_place : Columns → RegKind
a_place cs = record { is_var = false; kind = kind.Below (dim.Name cs.count) }

abbrev a_var : RegKind
a_var = record { is_var = true; kind = kind.Word }

placed : (o : Option RegKind) (b : Option BufKind) (cs : Columns) → o ≡ Some (a_place cs) → b ≡ Some (words cs) → fits (reg_kind o) (buf_len b) ≡ true
placed o b cs ho hb = ap₂ (λ (x : Option RegKind) (e : Dim). fits (reg_kind x) e) ho (ap buf_len hb) ∙ fits_same (dim.Name cs.count)

-- what is visible where the tests hold
abbrev in_guard : Context → List Test → ℕ → Context
in_guard g [] n = g
in_guard g (t ∷ ts) n = in_guard (with_reg g n false (buf_cell (g.bufs t.buf))) ts (n + 1)

record Guarded (g h : Context) (n w : ℕ) : Type 0 where
  pub bufs : h.bufs ≡ g.bufs
  pub dims : h.dims ≡ g.dims
  pub low : (r : ℕ) → r < n → h.regs r ≡ g.regs r
  pub fresh : FreshFrom h (n + w)

guarded : (g : Context) (ts : List Test) (n : ℕ) → FreshFrom g n → Guarded g (in_guard g ts n) n (length ts)
guarded g [] n f = record { bufs = refl; dims = refl; low = λ r h. refl; fresh = record { none = λ x h. f.none x (omega (arith, h)) } }
guarded g (t ∷ ts) n f =
    let g1 = with_reg g n false (buf_cell (g.bufs t.buf)) in
    let f1 : FreshFrom g1 (n + 1) = record { none = λ x h. put_other g.regs n _ x (omega (arith, h)) ∙ f.none x (omega (arith, h)) } in
    let w : Guarded g1 (in_guard g1 ts (n + 1)) (n + 1) (length ts) = guarded g1 ts (n + 1) f1 in
    record {
      bufs = w.bufs;
      dims = w.dims;
      low = λ r h. w.low r (omega (arith, h)) ∙ put_other g.regs n _ r (omega (arith, h));
      fresh = record { none = λ x h. w.fresh.none x (omega (arith, h)) };
    }

tests_more : (g : Context) (cs : Columns) (ts : List Test) (r : ℕ) (v : Bool) (k : CellKind) → AreTests g cs ts → AreTests (with_reg g r v k) cs ts
tests_more g cs [] r v k h = tt
tests_more g cs (t ∷ ts) r v k h = (h.0, tests_more g cs ts r v k h.1)

branch_typed : (g : Context) (n bound : ℕ) (inner : Code) (less : Bool) → is_some (g.regs n) ≡ true → Typed g inner → Typed g (cond less (If (Reg n) false (Number bound) inner false End End) (If (Reg n) false (Number bound) End true inner End))
branch_typed g n bound inner true h t = (h, refl, t, tt, tt)
branch_typed g n bound inner false h t = (h, refl, tt, t, tt)

guard_typed : (g : Context) (cs : Columns) (ts : List Test) (x n : ℕ) (inner : Code) → FreshFrom g n → x < n → g.regs x ≡ Some (a_place cs) → AreTests g cs ts → Typed (in_guard g ts n) inner → Typed g (guard ts x n inner)
guard_typed g cs [] x n inner f lt at h t = t
guard_typed g cs (c ∷ ts) x n inner f lt at h t =
    let g1 = with_reg g n false (buf_cell (g.bufs c.buf)) in
    let f1 : FreshFrom g1 (n + 1) = record { none = λ y le. put_other g.regs n _ y (omega (arith, le)) ∙ f.none y (omega (arith, le)) } in
    let at1 : g1.regs x ≡ Some (a_place cs) = put_other g.regs n _ x (omega (arith, lt)) ∙ at in
    let inside : Typed g1 (guard ts x (n + 1) inner) = guard_typed g1 cs ts x (n + 1) inner f1 (omega (arith, lt)) at1 (tests_more g cs ts n false (buf_cell (g.bufs c.buf)) h.1) t in
    (f.none n (omega arith), ap is_some h.0, ap is_some at, placed (g.regs x) (g.bufs c.buf) cs at h.0, branch_typed g1 n c.bound (guard ts x (n + 1) inner) c.less (ap is_some (put_same g.regs n _)) inside)

-- what is visible in front of the tests
abbrev in_loop : Context → Columns → ℕ → Context
in_loop g cs n = with_reg (with_reg g n true kind.Word) (n + 1) false (kind.Below (dim.Name cs.count))

loop_typed : (g : Context) (cs : Columns) (ts : List Test) (n : ℕ) (inner : Code) → FreshFrom g n → is_some (g.dims cs.count) ≡ true → AreTests g cs ts
    → ((h : Context) → Guarded (in_loop g cs n) h (n + 2) (length ts) → h.regs n ≡ Some a_var → h.regs (n + 1) ≡ Some (a_place cs) → Typed h inner)
    → (g.regs n ≡ None) × ((with_reg g n true kind.Word).regs (n + 1) ≡ None) × (Typed (in_loop g cs n) (guard ts (n + 1) (n + 2) inner))
loop_typed g cs ts n inner f d tests t =
    let g1 = with_reg g n true kind.Word in
    let g2 = in_loop g cs n in
    let f2 : FreshFrom g2 (n + 2) = record { none = λ x h. put_other g1.regs (n + 1) _ x (omega (arith, h)) ∙ (put_other g.regs n _ x (omega (arith, h)) ∙ f.none x (omega (arith, h))) } in
    let at : g2.regs (n + 1) ≡ Some (a_place cs) = put_same g1.regs (n + 1) _ in
    let var : g2.regs n ≡ Some a_var = put_other g1.regs (n + 1) _ n (omega arith) ∙ put_same g.regs n _ in
    let tests2 = tests_more g1 cs ts (n + 1) false (kind.Below (dim.Name cs.count)) (tests_more g cs ts n true kind.Word tests) in
    let w : Guarded g2 (in_guard g2 ts (n + 2)) (n + 2) (length ts) = guarded g2 ts (n + 2) f2 in
    let inside : Typed (in_guard g2 ts (n + 2)) inner = t (in_guard g2 ts (n + 2)) w (w.low n (omega arith) ∙ var) (w.low (n + 1) (omega arith) ∙ at) in
    (f.none n (omega arith), put_other g.regs n _ (n + 1) (omega arith) ∙ f.none (n + 1) (omega arith), guard_typed g2 cs ts (n + 1) (n + 2) inner f2 (omega arith) at tests2 inside)

pub count_chosen_typed : CountChosenTyped
count_chosen_typed g cs ts n f d tests =
    let w = loop_typed g cs ts n (Put n (Add (Reg n) (Number 1)) End) f d tests (λ h x var at. (ap is_put var, both_true (is_some (h.regs n)) true (ap is_some var) refl, tt)) in
    (w.0, refl, (w.1, d, w.2, tt))

-- the entry's row, column and value, and the append
copied_typed : (h : Context) (cs to : Columns) (n r : ℕ) → FreshFrom h r → n + 1 < r → h.regs n ≡ Some a_var → h.regs (n + 1) ≡ Some (a_place cs) → is_some (h.dims to.count) ≡ true
    → h.bufs cs.i ≡ Some (words cs) → h.bufs cs.j ≡ Some (words cs) → h.bufs cs.v ≡ Some (words cs) → h.bufs to.i ≡ Some (words to) → h.bufs to.j ≡ Some (words to) → h.bufs to.v ≡ Some (words to)
    → Typed h (copied cs to n (n + 1) r)
copied_typed h cs to n r f lt var at d hi hj hv ti tj tv =
    let h1 = with_reg h r false (buf_cell (h.bufs cs.i)) in
    let h2 = with_reg h1 (r + 1) false (buf_cell (h.bufs cs.j)) in
    let h3 = with_reg h2 (r + 2) false (buf_cell (h.bufs cs.v)) in
    let h4 = with_reg h3 (r + 3) false (kind.Below (dim.Name to.count)) in
    let at1 : h1.regs (n + 1) ≡ Some (a_place cs) = put_other h.regs r _ (n + 1) (omega (arith, lt)) ∙ at in
    let at2 : h2.regs (n + 1) ≡ Some (a_place cs) = put_other h1.regs (r + 1) _ (n + 1) (omega (arith, lt)) ∙ at1 in
    let var3 : h3.regs n ≡ Some a_var = put_other h2.regs (r + 2) _ n (omega (arith, lt)) ∙ (put_other h1.regs (r + 1) _ n (omega (arith, lt)) ∙ (put_other h.regs r _ n (omega (arith, lt)) ∙ var)) in
    let f3 : FreshFrom h3 (r + 3) = record { none = λ x le. put_other h2.regs (r + 2) _ x (omega (arith, le)) ∙ (put_other h1.regs (r + 1) _ x (omega (arith, le)) ∙ (put_other h.regs r _ x (omega (arith, le)) ∙ f.none x (omega (arith, le)))) } in
    let row : is_some (h4.regs r) ≡ true = ap is_some (put_other h3.regs (r + 3) _ r (omega arith) ∙ (put_other h2.regs (r + 2) _ r (omega arith) ∙ (put_other h1.regs (r + 1) _ r (omega arith) ∙ put_same h.regs r _))) in
    let col : is_some (h4.regs (r + 1)) ≡ true = ap is_some (put_other h3.regs (r + 3) _ (r + 1) (omega arith) ∙ (put_other h2.regs (r + 2) _ (r + 1) (omega arith) ∙ put_same h1.regs (r + 1) _)) in
    let value : is_some (h4.regs (r + 2)) ≡ true = ap is_some (put_other h3.regs (r + 3) _ (r + 2) (omega arith) ∙ put_same h2.regs (r + 2) _) in
    let free1 : h1.regs (r + 1) ≡ None = put_other h.regs r _ (r + 1) (omega arith) ∙ f.none (r + 1) (omega arith) in
    let free2 : h2.regs (r + 2) ≡ None = put_other h1.regs (r + 1) _ (r + 2) (omega arith) ∙ (put_other h.regs r _ (r + 2) (omega arith) ∙ f.none (r + 2) (omega arith)) in
    let appended = appends_typed h3 n (r + 3) (dim.Name to.count) (entry to.i to.j to.v (Reg r) (Reg (r + 1)) (Reg (r + 2))) f3 d var3 (ti, row, (tj, col, (tv, value, tt))) in (
      f.none r (omega arith),
      ap is_some hi,
      ap is_some at,
      placed (h.regs (n + 1)) (h.bufs cs.i) cs at hi,
      (
        free1,
        ap is_some hj,
        ap is_some at1,
        placed (h1.regs (n + 1)) (h.bufs cs.j) cs at1 hj,
        (free2, ap is_some hv, ap is_some at2, placed (h2.regs (n + 1)) (h.bufs cs.v) cs at2 hv, appended),
      ),
    )

pub copy_chosen_typed : CopyChosenTyped
copy_chosen_typed g cs ts to n f d dt tests hi hj hv ti tj tv =
    let w = loop_typed g cs ts n (copied cs to n (n + 1) (n + 2 + length ts)) f d tests (λ h x var at.
    let has : (b : ℕ) (k : BufKind) → g.bufs b ≡ Some k → h.bufs b ≡ Some k = λ b k e. ap (λ (y : ℕ → Option BufKind). y b) x.bufs ∙ e in
    copied_typed h cs to n (n + 2 + length ts) x.fresh (omega arith) var at (ap (λ (y : ℕ → Option Form). is_some (y to.count)) x.dims ∙ dt)
    (has cs.i (words cs) hi) (has cs.j (words cs) hj) (has cs.v (words cs) hv) (has to.i (words to) ti) (has to.j (words to) tj) (has to.v (words to) tv)) in
    (w.0, refl, (w.1, d, w.2, tt))
