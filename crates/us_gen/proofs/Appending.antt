-- What an append does to its columns.
use Rattle.std.proofs.Common.{◌≡◌, ◌≢◌, ℕ, ◌+◌, ◌<◌, Bool, true, false, not, ◌||◌, nat_eq, refl, sym, ap, ap₂, ◌∙◌, subst, arith, List, [], ◌∷◌, ◌++◌, length, length-append, take, pos, ℤ, ◌+ℤ◌, Option, Some, None}
use Rattle.std.specs.Prelude.{slice_set}
use Rattle.std.specs.Int.{int_wrap}
use Rattle.std.proofs.lemmas.List.{take_more_set, length-set}
use Rattle.std.proofs.lemmas.Bool.Decides.{nat_tests}
use mir.Syntax.{w64}
use Rattle.us_code.specs.declared.program.Dim.{Dim}
use Rattle.us_code.specs.declared.program.Dim.TheVariants as dim
use Rattle.us_code.specs.declared.program.CellKind.TheVariants as kind
use Rattle.us_code.specs.Plain.{Number, Reg, Add, Code, End, Put}
use Rattle.us_code.specs.Run.{Env, State, put, exec, value, tick, set_reg, set_buf}
use Rattle.us_code.specs.Typing.{Context, RegKind, is_some, reg_kind, is_put, buf_len, buf_cell, with_reg, fits, fits_cell, kind_of, Typed}
use Rattle.us_code_laws.proofs.Rules.{statement_rules}
use Rattle.us_code_laws.proofs.Sequence.{put_same, put_other}
use Rattle.us_code_laws.proofs.Sound.{and_left, and_right, both_true}
use Rattle.us_gen.specs.Columns.{Column, sets, append, fills, are_apart, Ready, Appended, Appends, HoldsMore, ColumnsTyped, AppendsTyped}
use Rattle.us_gen.proofs.LevelRuns.{wrap_small}

pub holds_more : HoldsMore
holds_more xs cells m k v e lt h =
    let len : length (xs ++ v ∷ []) ≡ k + 1 = length-append xs (v ∷ []) ∙ omega (arith, e) in
    record {
      long = length-set cells k v ∙ h.long;
      front = ap (λ (n : ℕ). take n (slice_set cells k v)) len ∙ take_more_set cells k v (omega (arith, h.long)) ∙ ap (λ (ys : List ℤ). ys ++ v ∷ []) (ap (λ (n : ℕ). take n cells) (sym e) ∙ h.front);
    }

false_of : (b : Bool) → not b ≡ true → b ≡ false
false_of true h = absurd cc
false_of false h = refl

-- what the sets leave
record Written (m : ℕ) (f : ℕ → ℤ) (cs : List Column) (s u : State) : Type 0 where
  pub regs : u.regs ≡ s.regs
  pub filled : (b : ℕ) → fills b cs ≡ true → u.bufs b ≡ slice_set (s.bufs b) m (f b)
  pub others : (b : ℕ) → fills b cs ≡ false → u.bufs b ≡ s.bufs b
  pub steps : u.steps ≡ s.steps + length cs
  pub stuck : u.stuck ≡ s.stuck

-- the columns behind the first are ready where only the first changed
still_ready : (env : Env) (regs : ℕ → ℤ) (bufs other : ℕ → List ℤ) (m : ℕ) (f : ℕ → ℤ) (cs : List Column) → ((b : ℕ) → fills b cs ≡ true → other b ≡ bufs b) → Ready env regs bufs m f cs → Ready env regs other m f cs
still_ready env regs bufs other m f [] same r = tt
still_ready env regs bufs other m f (c ∷ cs) same r =
    let here : fills c.buf (c ∷ cs) ≡ true = grind (arith, nat_tests) in
    (r.0, subst (λ (xs : List ℤ). m < length xs) (sym (same c.buf here)) r.1, still_ready env regs bufs other m f cs (λ b h. same b (later b h)) r.2)
  where
    later : (b : ℕ) → fills b cs ≡ true → nat_eq c.buf b || fills b cs ≡ true
    later b h = case (nat_eq c.buf b)
      where
        case : (q : Bool) → q || fills b cs ≡ true
        case true = refl
        case false = h

-- the sets, and the state from which the rest goes on
sets_write : (env : Env) (n m : ℕ) (f : ℕ → ℤ) (cs : List Column) (rest : Code) (s : State) → s.regs n ≡ pos m → are_apart cs ≡ true → Ready env s.regs s.bufs m f cs → (u : State) × (exec env (sets n cs rest) s ≡ exec env rest u) × Written m f cs s u
sets_write env n m f [] rest s at ap_ r = (s, refl, record { regs = refl; filled = λ b h. absurd cc; others = λ b h. refl; steps = omega arith; stuck = refl })
sets_write env n m f (c ∷ cs) rest s at ap_ r =
    let out : fills c.buf cs ≡ false = false_of (fills c.buf cs) (and_left (not (fills c.buf cs)) (are_apart cs) ap_) in
    let s1 = set_buf c.buf (slice_set (s.bufs c.buf) m (value env s.regs c.value)) (tick 1 s) in
    let same : (b : ℕ) → fills b cs ≡ true → s1.bufs b ≡ s.bufs b = λ b h. put_other s.bufs c.buf _ b (differs out h) in
    let go = sets_write env n m f cs rest s1 at (and_right (not (fills c.buf cs)) (are_apart cs) ap_) (still_ready env s.regs s.bufs s1.bufs m f cs same r.2) in (
      go.0,
      statement_rules.after_set env c.buf (Reg n) c.value (sets n cs rest) s m at r.1 ∙ go.1,
      record {
        regs = go.2.regs;
        filled = λ b h. here b (nat_eq c.buf b) refl h go.2;
        others = λ b h. go.2.others b (or_right (nat_eq c.buf b) (fills b cs) h) ∙ put_other s.bufs c.buf _ b (not_same b (or_left (nat_eq c.buf b) (fills b cs) h));
        steps = go.2.steps ∙ omega arith;
        stuck = go.2.stuck;
      },
    )
  where
    differs : {b : ℕ} → fills c.buf cs ≡ false → fills b cs ≡ true → c.buf ≢ b
    differs out h e = let z = ap (λ (x : ℕ). fills x cs) e in absurd cc

    or_left : (a b : Bool) → a || b ≡ false → a ≡ false
    or_left true b h = absurd cc
    or_left false b h = refl

    or_right : (a b : Bool) → a || b ≡ false → b ≡ false
    or_right true b h = absurd cc
    or_right false b h = h

    not_same : (b : ℕ) → nat_eq c.buf b ≡ false → c.buf ≢ b
    not_same b h = grind (arith, nat_tests)

    is_same : (b : ℕ) → nat_eq c.buf b ≡ true → c.buf ≡ b
    is_same b h = grind (arith, nat_tests)

    here : (b : ℕ) (q : Bool) → nat_eq c.buf b ≡ q → nat_eq c.buf b || fills b cs ≡ true → {u : State} → Written m f cs (set_buf c.buf (slice_set (s.bufs c.buf) m (value env s.regs c.value)) (tick 1 s)) u → u.bufs b ≡ slice_set (s.bufs b) m (f b)
    here b true e h {u = u} w =
        let out : fills b cs ≡ false = subst (λ (x : ℕ). fills x cs ≡ false) (is_same b e) (false_of (fills c.buf cs) (and_left (not (fills c.buf cs)) (are_apart cs) ap_)) in
        w.others b out ∙ subst (λ (x : ℕ). put s.bufs c.buf (slice_set (s.bufs c.buf) m (value env s.regs c.value)) x ≡ slice_set (s.bufs x) m (f x)) (is_same b e) (put_same s.bufs c.buf _ ∙ ap (slice_set (s.bufs c.buf) m) r.0)
    here b false e h {u = u} w =
        let deep : fills b cs ≡ true = subst (λ (q : Bool). q || fills b cs ≡ true) e h in
        w.filled b deep ∙ ap (λ (xs : List ℤ). slice_set xs m (f b)) (put_other s.bufs c.buf _ b (not_same b e))

pub appends : Appends
appends env k n m long f cs s ne at lt small ap_ r =
    let s1 = set_reg n (pos m) (tick 1 s) in
    let rest = Put k (Add (Reg k) (Number 1)) End in
    let go = sets_write env n m f cs rest s1 (put_same s.regs n _) ap_ r in
    let u = go.0 in
    let w = go.2 in
    let e : exec env (append k long n cs) s ≡ set_reg k (int_wrap w64 (u.regs k +ℤ pos 1)) (tick 1 u) = statement_rules.after_when env (Reg k) long n (sets n cs rest) false End End s m at lt ∙ go.1 in
    let held : u.regs k ≡ pos m = ap (λ (g : ℕ → ℤ). g k) w.regs ∙ (put_other s.regs n _ k ne ∙ at) in
    subst (λ (v : State). Appended k n m f cs s v) (sym e) record {
      counter = put_same u.regs k _ ∙ (ap (λ (z : ℤ). int_wrap w64 (z +ℤ pos 1)) held ∙ wrap_small (m + 1) small);
      filled = w.filled;
      others = w.others;
      regs = λ x a b. put_other u.regs k _ x a ∙ (ap (λ (g : ℕ → ℤ). g x) w.regs ∙ put_other s.regs n _ x b);
      steps = omega (arith, w.steps);
      stuck = w.stuck;
    }

fits_same : (d : Dim) → fits (kind.Below d) d ≡ true
fits_same (dim.Number n) = grind (arith, nat_tests)
fits_same (dim.Name d) = grind (arith, nat_tests)
fits_same (dim.Len k) = grind (arith, nat_tests)

sets_typed : (h : Context) (n : ℕ) (long : Dim) (cs : List Column) (rest : Code) → h.regs n ≡ Some record { is_var = false; kind = kind.Below long } → ColumnsTyped h h long cs → Typed h rest → Typed h (sets n cs rest)
sets_typed h n long [] rest at cols t = t
sets_typed h n long (c ∷ cs) rest at cols t =
    let len : buf_len (h.bufs c.buf) ≡ long = ap buf_len cols.0 in
    let cell : buf_cell (h.bufs c.buf) ≡ kind.Word = ap buf_cell cols.0 in
    let placed : fits (reg_kind (h.regs n)) (buf_len (h.bufs c.buf)) ≡ true = ap₂ (λ (o : Option RegKind) (d : Dim). fits (reg_kind o) d) at len ∙ fits_same long in
    let stored : fits_cell (kind_of h c.value) (buf_cell (h.bufs c.buf)) ≡ true = ap (fits_cell (kind_of h c.value)) cell in
    (refl, ap is_some cols.0, ap is_some at, cols.1, placed, stored, sets_typed h n long cs rest at cols.2 t)

pub appends_typed : AppendsTyped
appends_typed g k n long cs f sees var cols =
    let h = with_reg g n false (kind.Below long) in
    let free = f.none n (omega arith) in
    let at : h.regs k ≡ Some record { is_var = true; kind = kind.Word } = put_other g.regs n _ k (λ e. clash e free) ∙ var in
    (free, sees, ap is_some var, sets_typed h n long cs (Put k (Add (Reg k) (Number 1)) End) (put_same g.regs n _) (moved cs cols) (ap is_put at, both_true (is_some (h.regs k)) true (ap is_some at) refl, tt), tt, tt)
  where
    clash : n ≡ k → g.regs n ≡ None → ⊥
    clash e free = let z : ◌≡◌ {A = Option RegKind} None (Some record { is_var = true; kind = kind.Word }) = sym free ∙ (ap g.regs e ∙ var) in absurd cc

    moved : (xs : List Column) → ColumnsTyped g (with_reg g n false (kind.Below long)) long xs → ColumnsTyped (with_reg g n false (kind.Below long)) (with_reg g n false (kind.Below long)) long xs
    moved [] h = tt
    moved (x ∷ xs) h = (h.0, h.1, moved xs h.2)
