-- What the loops that select do.
use Rattle.std.proofs.Common.{◌≡◌, ◌≢◌, ℕ, zero, suc, ◌+◌, ◌*◌, ◌^◌, ◌<◌, ◌≤◌, Bool, true, false, cond, not, ◌&&◌, nat_eq, refl, sym, ap, ap₂, ◌∙◌, subst, arith, List, [], ◌∷◌, ◌++◌, length, length-append, ℤ, pos, ◌+ℤ◌, ◌⊎◌, inl, inr, w64, if◌then◌else◌}
use Rattle.std.specs.Prelude.{slice_index_or, slice_set}
use Rattle.std.specs.Int.{int_wrap}
use Rattle.std.proofs.lemmas.Bool.{cases_eq}
use Rattle.std.proofs.lemmas.Bool.Decides.{nat_tests}
use Rattle.std.proofs.lemmas.List.{take_all}
use lib.Signed.{lt_z}
use Rattle.us_code.specs.declared.program.Dim.TheVariants as dim
use Rattle.us_code.specs.declared.program.Buf.TheVariants as buf
use Rattle.us_code.specs.declared.pieces.Columns.{Columns}
use Rattle.us_code.specs.Plain.{Number, Reg, Add, Code, End, Load, Put, For, If}
use Rattle.us_code.specs.Run.{Env, State, exec, put, tick, set_reg}
use Rattle.us_code_laws.specs.Does.{Does}
use Rattle.us_code_laws.proofs.Rules.{statement_rules}
use Rattle.us_code_laws.proofs.Sequence.{put_same, put_other}
use Rattle.us_code_laws.proofs.Does.{do_end, do_load, do_for, do_var, do_put}
use Rattle.us_gen.specs.Columns.{append, entry, fills, are_apart, Ready, Appended, Holds}
use Rattle.us_gen.proofs.Appending.{appends, holds_more}
use Rattle.us_gen.proofs.LevelRuns.{wrap_small}
use Rattle.us_gen_query.specs.declared.selecting.Test.{Test}
use Rattle.us_gen_query.specs.Selecting.{guard, copied, passes, passes_all, AreLong, Lacks, chosen, kept, CountsChosen, IsSource, CopiesChosen}
use Rattle.us_gen_query.proofs.CountsRun.{does_from}

-- ---- tests

record Read (n w : ℕ) (s u : State) : Type 0 where
  pub regs : (r : ℕ) → r < n → u.regs r ≡ s.regs r
  pub bufs : u.bufs ≡ s.bufs
  pub steps : u.steps ≤ s.steps + 2 * w
  pub stuck : u.stuck ≡ s.stuck

branch_runs : (env : Env) (n bound : ℕ) (inner : Code) (s : State) (z : ℤ) → s.regs n ≡ z → (less q : Bool) → lt_z z (pos bound) ≡ q
    → exec env (cond less (If (Reg n) false (Number bound) inner false End End) (If (Reg n) false (Number bound) End true inner End)) s ≡ cond (cond less q (not q)) (exec env inner (tick 1 s)) (tick 1 s)
branch_runs env n bound inner s z hz true true h = statement_rules.after_if env (Reg n) false (Number bound) inner false End End s (ap (λ (y : ℤ). lt_z y (pos bound)) hz ∙ h)
branch_runs env n bound inner s z hz true false h = statement_rules.after_else env (Reg n) false (Number bound) inner false End End s (ap (λ (y : ℤ). lt_z y (pos bound)) hz ∙ h)
branch_runs env n bound inner s z hz false true h = statement_rules.after_if env (Reg n) false (Number bound) End true inner End s (ap (λ (y : ℤ). lt_z y (pos bound)) hz ∙ h)
branch_runs env n bound inner s z hz false false h = statement_rules.after_else env (Reg n) false (Number bound) End true inner End s (ap (λ (y : ℤ). lt_z y (pos bound)) hz ∙ h)

-- the entry at place k, in register x: where it passes, the block goes on inside, else it ends
abbrev Runs : Env → List Test → ℕ → ℕ → ℕ → Code → State → Type 0
Runs env ts x n k inner s = (u : State) × (exec env (guard ts x n inner) s ≡ cond (passes_all ts s.bufs k) (exec env inner u) u) × Read n (length ts) s u

guard_runs : (env : Env) (ts : List Test) (x n m k : ℕ) (inner : Code) (s : State) → s.regs x ≡ pos k → x < n → k < m → AreLong ts s.bufs m → Runs env ts x n k inner s
guard_runs env [] x n m k inner s at lt lk long = (s, refl, record { regs = λ r h. refl; bufs = refl; steps = omega arith; stuck = refl })
guard_runs env (t ∷ ts) x n m k inner s at lt lk long =
    let z = slice_index_or (s.bufs t.buf) k (pos 0) in
    let s1 = set_reg n z (tick 1 s) in
    let room : k < length (s.bufs t.buf) = let l = long.0 in omega (arith, lk, l) in
    let load : exec env (guard (t ∷ ts) x n inner) s ≡ exec env (cond t.less (If (Reg n) false (Number t.bound) (guard ts x (n + 1) inner) false End End) (If (Reg n) false (Number t.bound) End true (guard ts x (n + 1) inner) End)) s1 =
    statement_rules.after_load env n (buf.New t.buf) (Reg x) (cond t.less (If (Reg n) false (Number t.bound) (guard ts x (n + 1) inner) false End End) (If (Reg n) false (Number t.bound) End true (guard ts x (n + 1) inner) End)) s k at room in
    let branch = branch_runs env n t.bound (guard ts x (n + 1) inner) s1 z (put_same s.regs n _) t.less (lt_z z (pos t.bound)) refl in
    let inside = guard_runs env ts x (n + 1) m k inner (tick 1 s1) (put_other s.regs n _ x (omega (arith, lt)) ∙ at) (omega (arith, lt)) lk long.1 in
    join (passes t z) (load ∙ branch) inside
  where
    join : (p : Bool) → exec env (guard (t ∷ ts) x n inner) s ≡ cond p (exec env (guard ts x (n + 1) inner) (tick 1 (set_reg n (slice_index_or (s.bufs t.buf) k (pos 0)) (tick 1 s)))) (tick 1 (set_reg n (slice_index_or (s.bufs t.buf) k (pos 0)) (tick 1 s)))
        → Runs env ts x (n + 1) k inner (tick 1 (set_reg n (slice_index_or (s.bufs t.buf) k (pos 0)) (tick 1 s)))
        → (u : State) × (exec env (guard (t ∷ ts) x n inner) s ≡ cond (p && passes_all ts s.bufs k) (exec env inner u) u) × Read n (suc (length ts)) s u
    join true run r =
        let w : Read (n + 1) (length ts) (tick 1 (set_reg n (slice_index_or (s.bufs t.buf) k (pos 0)) (tick 1 s))) r.0 = r.2 in
        (r.0, run ∙ r.1, record { regs = λ y h. w.regs y (omega (arith, h)) ∙ put_other s.regs n _ y (omega (arith, h)); bufs = w.bufs; steps = omega (arith, w.steps); stuck = w.stuck })
    join false run r = (tick 1 (set_reg n (slice_index_or (s.bufs t.buf) k (pos 0)) (tick 1 s)), run, record { regs = λ y h. put_other s.regs n _ y (omega (arith, h)); bufs = refl; steps = omega arith; stuck = refl })

-- ---- a loop over the entries that pass

-- the tests read what they read at the beginning
record Same (ts : List Test) (m : ℕ) (p : ℕ → Bool) (u : State) : Type 0 where
  pub long : AreLong ts u.bufs m
  pub passes : (x : ℕ) → passes_all ts u.bufs x ≡ p x

for_chosen : (env : Env) (cs : Columns) (ts : List Test) (n m : ℕ) (inner : Code) (p : ℕ → Bool) (a : State) (I : ℕ → State → Type 0) → env.dims cs.count ≡ m → ((t : ℕ) (u : State) → I t u → Same ts m p u) → I 0 (tick 1 a)
    → ((t : ℕ) (u w : State) → t < m → I t u → p t ≡ false → Read (n + 2) (length ts) (set_reg (n + 1) (pos t) (tick 1 u)) w → I (suc t) w)
    → ((t : ℕ) (u w : State) → t < m → I t u → p t ≡ true → Read (n + 2) (length ts) (set_reg (n + 1) (pos t) (tick 1 u)) w → Does env inner w (I (suc t)))
    → Does env (For (n + 1) (dim.Name cs.count) (guard ts (n + 1) (n + 2) inner) End) a (I m)
for_chosen env cs ts n m inner p a I count same base skip take_ =
    do_for env (n + 1) (dim.Name cs.count) (guard ts (n + 1) (n + 2) inner) End a (I m) I base (λ t u lt i. turn t u (omega (arith, lt, count)) i (p t) refl) (λ u i. do_end env u (I m) (subst (λ (x : ℕ). I x u) count i))
  where
    turn : (t : ℕ) (u : State) → t < m → I t u → (b : Bool) → p t ≡ b → Does env (guard ts (n + 1) (n + 2) inner) (set_reg (n + 1) (pos t) (tick 1 u)) (I (suc t))
    turn t u lt i b h =
        let s = same t u i in
        let g = guard_runs env ts (n + 1) (n + 2) m t inner (set_reg (n + 1) (pos t) (tick 1 u)) (put_same u.regs (n + 1) _) (omega arith) lt s.long in
        split b h g (s.passes t ∙ h)
      where
        split : (b : Bool) → p t ≡ b → Runs env ts (n + 1) (n + 2) t inner (set_reg (n + 1) (pos t) (tick 1 u)) → passes_all ts u.bufs t ≡ b → Does env (guard ts (n + 1) (n + 2) inner) (set_reg (n + 1) (pos t) (tick 1 u)) (I (suc t))
        split true h g e =
            let w : Read (n + 2) (length ts) (set_reg (n + 1) (pos t) (tick 1 u)) g.0 = g.2 in
            does_from env (guard ts (n + 1) (n + 2) inner) inner (set_reg (n + 1) (pos t) (tick 1 u)) g.0 (I (suc t)) (g.1 ∙ ap (λ (q : Bool). cond q (exec env inner g.0) g.0) e) w.stuck (take_ t u g.0 lt i h w)
        split false h g e =
            let w : Read (n + 2) (length ts) (set_reg (n + 1) (pos t) (tick 1 u)) g.0 = g.2 in
            does_from env (guard ts (n + 1) (n + 2) inner) End (set_reg (n + 1) (pos t) (tick 1 u)) g.0 (I (suc t)) (g.1 ∙ ap (λ (q : Bool). cond q (exec env inner g.0) g.0) e) w.stuck (do_end env g.0 (I (suc t)) (skip t u g.0 lt i h w))

-- ---- counting

chosen_yes : (p : ℕ → Bool) (t : ℕ) → p t ≡ true → chosen p (suc t) ≡ suc (chosen p t)
chosen_yes p t h = ap (λ (b : Bool). if b then suc (chosen p t) else chosen p t) h

chosen_no : (p : ℕ → Bool) (t : ℕ) → p t ≡ false → chosen p (suc t) ≡ chosen p t
chosen_no p t h = ap (λ (b : Bool). if b then suc (chosen p t) else chosen p t) h

chosen_few : (p : ℕ → Bool) (t : ℕ) → chosen p t ≤ t
chosen_few p zero = omega arith
chosen_few p (suc t) = case (p t) (chosen_few p t)
  where
    case : (b : Bool) → chosen p t ≤ t → (if b then suc (chosen p t) else chosen p t) ≤ suc t
    case true h = omega (arith, h)
    case false h = omega (arith, h)

-- one that is chosen comes before the end
chosen_more : (p : ℕ → Bool) (m t : ℕ) → t < m → p t ≡ true → chosen p t < chosen p m
chosen_more p zero t lt h = absurd (omega (arith, lt))
chosen_more p (suc m) t lt h = case (cases_eq t m) (p m) refl (λ l. chosen_more p m t l h)
  where
    case : (t ≡ m) ⊎ (t ≢ m) → (b : Bool) → p m ≡ b → (t < m → chosen p t < chosen p m) → chosen p t < (if b then suc (chosen p m) else chosen p m)
    case (inl q) true e f = let s : chosen p t ≡ chosen p m = ap (chosen p) q in omega (arith, s)
    case (inl q) false e f = let z : ◌≡◌ {A = Bool} true false = sym h ∙ (ap p q ∙ e) in absurd cc
    case (inr q) true e f = let l = f (omega (arith, lt, q)) in omega (arith, l)
    case (inr q) false e f = f (omega (arith, lt, q))

record Counting (n m w : ℕ) (p : ℕ → Bool) (t : ℕ) (a u : State) : Type 0 where
  pub count : u.regs n ≡ pos (chosen p t)
  pub regs : (r : ℕ) → r < n → u.regs r ≡ a.regs r
  pub bufs : u.bufs ≡ a.bufs
  pub steps : u.steps ≤ a.steps + 1 + t * (2 * w + 2)

-- the tests where the buffers are the same
same_tests : (ts : List Test) (m : ℕ) (a u : State) → AreLong ts a.bufs m → u.bufs ≡ a.bufs → Same ts m (passes_all ts a.bufs) u
same_tests ts m a u long e = record { long = subst (λ (f : ℕ → List ℤ). AreLong ts f m) (sym e) long; passes = λ x. ap (λ (f : ℕ → List ℤ). passes_all ts f x) e }

count_does : (env : Env) (cs : Columns) (ts : List Test) (n m : ℕ) (a : State) → env.dims cs.count ≡ m → m < 2 ^ 62 → AreLong ts a.bufs m → a.regs n ≡ pos 0
    → Does env (For (n + 1) (dim.Name cs.count) (guard ts (n + 1) (n + 2) (Put n (Add (Reg n) (Number 1)) End)) End) a (Counting n m (length ts) (passes_all ts a.bufs) m a)
count_does env cs ts n m a count small long start =
    for_chosen env cs ts n m (Put n (Add (Reg n) (Number 1)) End) (passes_all ts a.bufs) a (λ t u. Counting n m (length ts) (passes_all ts a.bufs) t a u) count (λ t u i. same_tests ts m a u long i.bufs)
    (record { count = start; regs = λ r h. refl; bufs = refl; steps = omega arith }) skip take_
  where
    skip : (t : ℕ) (u w : State) → t < m → Counting n m (length ts) (passes_all ts a.bufs) t a u → passes_all ts a.bufs t ≡ false → Read (n + 2) (length ts) (set_reg (n + 1) (pos t) (tick 1 u)) w → Counting n m (length ts) (passes_all ts a.bufs) (suc t) a w
    skip t u w lt i h r = record {
      count = r.regs n (omega arith) ∙ (put_other u.regs (n + 1) _ n (omega arith) ∙ (i.count ∙ ap pos (sym (chosen_no (passes_all ts a.bufs) t h))));
      regs = λ x l. r.regs x (omega (arith, l)) ∙ (put_other u.regs (n + 1) _ x (omega (arith, l)) ∙ i.regs x l);
      bufs = r.bufs ∙ i.bufs;
      steps = let one : suc t * (2 * length ts + 2) ≡ t * (2 * length ts + 2) + (2 * length ts + 2) = omega arith in omega (arith, r.steps, i.steps, one);
    }

    take_ : (t : ℕ) (u w : State) → t < m → Counting n m (length ts) (passes_all ts a.bufs) t a u → passes_all ts a.bufs t ≡ true → Read (n + 2) (length ts) (set_reg (n + 1) (pos t) (tick 1 u)) w
        → Does env (Put n (Add (Reg n) (Number 1)) End) w (Counting n m (length ts) (passes_all ts a.bufs) (suc t) a)
    take_ t u w lt i h r =
        let Q : State → Type 0 = Counting n m (length ts) (passes_all ts a.bufs) (suc t) a in
        let c = chosen (passes_all ts a.bufs) t in
        let few = chosen_few (passes_all ts a.bufs) t in
        let more : suc c ≡ c + 1 = omega arith in
        let held : w.regs n ≡ pos c = r.regs n (omega arith) ∙ (put_other u.regs (n + 1) _ n (omega arith) ∙ i.count) in
        let raised : int_wrap w64 (w.regs n +ℤ pos 1) ≡ pos (suc c) = ap (λ (z : ℤ). int_wrap w64 (z +ℤ pos 1)) held ∙ (wrap_small (c + 1) (omega (arith, few, lt, small)) ∙ ap pos (sym more)) in
        let v = set_reg n (int_wrap w64 (w.regs n +ℤ pos 1)) (tick 1 w) in
        do_put env n (Add (Reg n) (Number 1)) End w Q
        (do_end env v Q record {
          count = put_same w.regs n _ ∙ (raised ∙ ap pos (sym (chosen_yes (passes_all ts a.bufs) t h)));
          regs = λ x l. put_other w.regs n _ x (omega (arith, l)) ∙ (r.regs x (omega (arith, l)) ∙ (put_other u.regs (n + 1) _ x (omega (arith, l)) ∙ i.regs x l));
          bufs = r.bufs ∙ i.bufs;
          steps = let one : suc t * (2 * length ts + 2) ≡ t * (2 * length ts + 2) + (2 * length ts + 2) = omega arith in omega (arith, r.steps, i.steps, one);
        })

pub counts_chosen : CountsChosen
counts_chosen env cs ts n m s count small long =
    let a = set_reg n (pos 0) (tick 1 s) in
    let Q : State → Type 0 = Counting n m (length ts) (passes_all ts s.bufs) m a in
    let d = do_var env n (Number 0) (For (n + 1) (dim.Name cs.count) (guard ts (n + 1) (n + 2) (Put n (Add (Reg n) (Number 1)) End)) End) s Q (count_does env cs ts n m a count small long (put_same s.regs n _)) in
    let q = d.post in
    record { count = q.count; regs = λ r h. q.regs r h ∙ put_other s.regs n _ r (omega (arith, h)); bufs = q.bufs; steps = omega (arith, q.steps); stuck = d.calm }

-- ---- copying

kept_long : (p : ℕ → Bool) (f : ℕ → ℤ) (t : ℕ) → length (kept p f t) ≡ chosen p t
kept_long p f zero = refl
kept_long p f (suc t) = case (p t) (kept_long p f t)
  where
    case : (b : Bool) → length (kept p f t) ≡ chosen p t → length (if b then kept p f t ++ f t ∷ [] else kept p f t) ≡ (if b then suc (chosen p t) else chosen p t)
    case true h = length-append (kept p f t) (f t ∷ []) ∙ omega (arith, h)
    case false h = h

kept_yes : (p : ℕ → Bool) (f : ℕ → ℤ) (t : ℕ) → p t ≡ true → kept p f (suc t) ≡ kept p f t ++ f t ∷ []
kept_yes p f t h = ap (λ (b : Bool). if b then kept p f t ++ f t ∷ [] else kept p f t) h

kept_no : (p : ℕ → Bool) (f : ℕ → ℤ) (t : ℕ) → p t ≡ false → kept p f (suc t) ≡ kept p f t
kept_no p f t h = ap (λ (b : Bool). if b then kept p f t ++ f t ∷ [] else kept p f t) h

-- a column that holds all that is kept
held_all : (p : ℕ → Bool) (f : ℕ → ℤ) (m : ℕ) (cells : List ℤ) → Holds (kept p f m) cells (chosen p m) → cells ≡ kept p f m
held_all p f m cells h = sym (take_all (length (kept p f m)) cells (let l = kept_long p f m in omega (arith, l, h.long))) ∙ h.front

-- tests whose buffers are none of three read the same where only these three changed
module _ (to : Columns) (f g : ℕ → List ℤ) (e : (c : ℕ) → c ≢ to.i → c ≢ to.j → c ≢ to.v → g c ≡ f c) where
  still_long : (ts : List Test) (m : ℕ) → Lacks ts to.i → Lacks ts to.j → Lacks ts to.v → AreLong ts f m → AreLong ts g m
  still_long [] m i j v h = tt
  still_long (t ∷ ts) m i j v h = (ap (λ (xs : List ℤ). length xs) (e t.buf i.0 j.0 v.0) ∙ h.0, still_long ts m i.1 j.1 v.1 h.1)

  still_pass : (ts : List Test) (x : ℕ) → Lacks ts to.i → Lacks ts to.j → Lacks ts to.v → passes_all ts g x ≡ passes_all ts f x
  still_pass [] x i j v = refl
  still_pass (t ∷ ts) x i j v = ap₂ (λ (xs : List ℤ) (b : Bool). passes t (slice_index_or xs x (pos 0)) && b) (e t.buf i.0 j.0 v.0) (still_pass ts x i.1 j.1 v.1)

record Copying (n w : ℕ) (p : ℕ → Bool) (M : ℕ) (cs to : Columns) (t : ℕ) (a u : State) : Type 0 where
  pub count : u.regs n ≡ pos (chosen p t)
  pub rows : Holds (kept p (λ x. slice_index_or (a.bufs cs.i) x (pos 0)) t) (u.bufs to.i) M
  pub cols : Holds (kept p (λ x. slice_index_or (a.bufs cs.j) x (pos 0)) t) (u.bufs to.j) M
  pub values : Holds (kept p (λ x. slice_index_or (a.bufs cs.v) x (pos 0)) t) (u.bufs to.v) M
  pub others : (b : ℕ) → b ≢ to.i → b ≢ to.j → b ≢ to.v → u.bufs b ≡ a.bufs b
  pub regs : (r : ℕ) → r < n → u.regs r ≡ a.regs r
  pub steps : u.steps ≤ a.steps + 1 + t * (2 * w + 9)

module _ (env : Env) (cs : Columns) (ts : List Test) (to : Columns) (n m : ℕ) (a : State) (count : env.dims cs.count ≡ m) (small : m < 2 ^ 62) (long : AreLong ts a.bufs m) (li : Lacks ts to.i) (lj : Lacks ts to.j) (lv : Lacks ts to.v) (si : IsSource to a.bufs m cs.i) (sj : IsSource to a.bufs m cs.j) (sv : IsSource to a.bufs m cs.v) (ij : to.i ≢ to.j) (iv : to.i ≢ to.v) (jv : to.j ≢ to.v) (M : ℕ) (total : M ≡ chosen (passes_all ts a.bufs) m) (size : env.dims to.count ≡ M) where
  abbrev p : ℕ → Bool
  p = passes_all ts a.bufs

  abbrev I : ℕ → State → Type 0
  I t u = Copying n (length ts) (passes_all ts a.bufs) M cs to t a u

  abbrev r : ℕ
  r = n + 2 + length ts

  skips : (t : ℕ) (u w : State) → t < m → I t u → p t ≡ false → Read (n + 2) (length ts) (set_reg (n + 1) (pos t) (tick 1 u)) w → I (suc t) w
  skips t u w lt i h x =
      let as_before : (b : ℕ) (f : ℕ → ℤ) → Holds (kept p f t) (u.bufs b) M → Holds (kept p f (suc t)) (w.bufs b) M = λ b f e.
      subst (λ (xs : List ℤ). Holds xs (w.bufs b) M) (sym (kept_no p f t h)) (subst (λ (g : ℕ → List ℤ). Holds (kept p f t) (g b) M) (sym x.bufs) e) in
      record {
        count = x.regs n (omega arith) ∙ (put_other u.regs (n + 1) _ n (omega arith) ∙ (i.count ∙ ap pos (sym (chosen_no p t h))));
        rows = as_before to.i (λ x. slice_index_or (a.bufs cs.i) x (pos 0)) i.rows;
        cols = as_before to.j (λ x. slice_index_or (a.bufs cs.j) x (pos 0)) i.cols;
        values = as_before to.v (λ x. slice_index_or (a.bufs cs.v) x (pos 0)) i.values;
        others = λ b hi hj hv. ap (λ (g : ℕ → List ℤ). g b) x.bufs ∙ i.others b hi hj hv;
        regs = λ y l. x.regs y (omega (arith, l)) ∙ (put_other u.regs (n + 1) _ y (omega (arith, l)) ∙ i.regs y l);
        steps = let one : suc t * (2 * length ts + 9) ≡ t * (2 * length ts + 9) + (2 * length ts + 9) = omega arith in omega (arith, x.steps, i.steps, one);
      }

  takes : (t : ℕ) (u w : State) → t < m → I t u → p t ≡ true → Read (n + 2) (length ts) (set_reg (n + 1) (pos t) (tick 1 u)) w → Does env (copied cs to n (n + 1) (n + 2 + length ts)) w (I (suc t))
  takes t u w lt i h x =
      let c = chosen p t in
      let cols = entry to.i to.j to.v (Reg r) (Reg (r + 1)) (Reg (r + 2)) in
      let source : (b : ℕ) → IsSource to a.bufs m b → w.bufs b ≡ a.bufs b = λ b y. ap (λ (g : ℕ → List ℤ). g b) x.bufs ∙ i.others b y.not_row y.not_col y.not_value in
      let wi = source cs.i si in
      let wj = source cs.j sj in
      let wv = source cs.v sv in
      let vi = slice_index_or (w.bufs cs.i) t (pos 0) in
      let vj = slice_index_or (w.bufs cs.j) t (pos 0) in
      let vv = slice_index_or (w.bufs cs.v) t (pos 0) in
      let at : w.regs (n + 1) ≡ pos t = x.regs (n + 1) (omega arith) ∙ put_same u.regs (n + 1) _ in
      let s1 = set_reg r vi (tick 1 w) in
      let s2 = set_reg (r + 1) vj (tick 1 s1) in
      let s3 = set_reg (r + 2) vv (tick 1 s2) in
      let at1 : s1.regs (n + 1) ≡ pos t = put_other w.regs r _ (n + 1) (omega arith) ∙ at in
      let at2 : s2.regs (n + 1) ≡ pos t = put_other s1.regs (r + 1) _ (n + 1) (omega arith) ∙ at1 in
      let low : (y : ℕ) → y < n + 1 → s3.regs y ≡ u.regs y = λ y l. put_other s2.regs (r + 2) _ y (omega (arith, l)) ∙ (put_other s1.regs (r + 1) _ y (omega (arith, l)) ∙ (put_other w.regs r _ y (omega (arith, l)) ∙ (x.regs y (omega (arith, l)) ∙ put_other u.regs (n + 1) _ y (omega (arith, l))))) in
      let counter : s3.regs n ≡ pos c = low n (omega arith) ∙ i.count in
      let f : ℕ → ℤ = λ b. cond (nat_eq b to.i) vi (cond (nat_eq b to.j) vj vv) in
      let fi : f to.i ≡ vi = grind (arith, nat_tests) in
      let fj : f to.j ≡ vj = grind (arith, nat_tests, ij) in
      let fv : f to.v ≡ vv = grind (arith, nat_tests, iv, jv) in
      let room : c < M = let l = chosen_more p m t lt h in omega (arith, l, total) in
      let long_of : (b : ℕ) (g : ℕ → ℤ) → Holds (kept p g t) (u.bufs b) M → c < length (s3.bufs b) = λ b g e. subst (λ (k : ℕ → List ℤ). c < length (k b)) (sym x.bufs) (omega (arith, room, e.long)) in
      let gi : ℕ → ℤ = λ x. slice_index_or (a.bufs cs.i) x (pos 0) in
      let gj : ℕ → ℤ = λ x. slice_index_or (a.bufs cs.j) x (pos 0) in
      let gv : ℕ → ℤ = λ x. slice_index_or (a.bufs cs.v) x (pos 0) in
      let few = chosen_few p t in
      let regs4 = put s3.regs (r + 3) (pos c) in
      let ri : regs4 r ≡ f to.i = put_other s3.regs (r + 3) _ r (omega arith) ∙ (put_other s2.regs (r + 2) _ r (omega arith) ∙ (put_other s1.regs (r + 1) _ r (omega arith) ∙ (put_same w.regs r _ ∙ sym fi))) in
      let rj : regs4 (r + 1) ≡ f to.j = put_other s3.regs (r + 3) _ (r + 1) (omega arith) ∙ (put_other s2.regs (r + 2) _ (r + 1) (omega arith) ∙ (put_same s1.regs (r + 1) _ ∙ sym fj)) in
      let rv : regs4 (r + 2) ≡ f to.v = put_other s3.regs (r + 3) _ (r + 2) (omega arith) ∙ (put_same s2.regs (r + 2) _ ∙ sym fv) in
      let ready : Ready env regs4 s3.bufs c f cols = (ri, long_of to.i gi i.rows, (rj, long_of to.j gj i.cols, (rv, long_of to.v gv i.values, tt))) in
      let apart : are_apart cols ≡ true = grind (arith, nat_tests, ij, iv, jv) in
      let y : Appended n (r + 3) c f cols s3 (exec env (append n (dim.Name to.count) (r + 3) cols) s3) = appends env n (r + 3) c (dim.Name to.count) f cols s3 (omega arith) counter (omega (arith, room, size)) (omega (arith, few, lt, small)) apart ready in
      let e = exec env (append n (dim.Name to.count) (r + 3) cols) s3 in
      let in_i : fills to.i cols ≡ true = grind (arith, nat_tests) in
      let in_j : fills to.j cols ≡ true = grind (arith, nat_tests) in
      let in_v : fills to.v cols ≡ true = grind (arith, nat_tests) in
      let out : (b : ℕ) → b ≢ to.i → b ≢ to.j → b ≢ to.v → fills b cols ≡ false = λ b hi hj hv. grind (arith, nat_tests) in
      let one_more : (b : ℕ) (g : ℕ → ℤ) → fills b cols ≡ true → f b ≡ g t → Holds (kept p g t) (u.bufs b) M → Holds (kept p g (suc t)) (e.bufs b) M = λ b g fb is o.
      let now : e.bufs b ≡ slice_set (u.bufs b) c (g t) = y.filled b fb ∙ ap₂ (λ (xs : List ℤ) (z : ℤ). slice_set xs c z) (ap (λ (k : ℕ → List ℤ). k b) x.bufs) is in
      let more : Holds (kept p g t ++ g t ∷ []) (slice_set (u.bufs b) c (g t)) M = holds_more (kept p g t) (u.bufs b) M c (g t) (kept_long p g t) room o in
      subst (λ (xs : List ℤ). Holds xs (e.bufs b) M) (sym (kept_yes p g t h)) (subst (λ (xs : List ℤ). Holds (kept p g t ++ g t ∷ []) xs M) (sym now) more) in
      let next : suc c ≡ c + 1 = omega arith in
      let Q : State → Type 0 = I (suc t) in
      let done : I (suc t) e = record {
        count = y.counter ∙ ap pos (sym (chosen_yes p t h ∙ next));
        rows = one_more to.i gi in_i (fi ∙ ap (λ (xs : List ℤ). slice_index_or xs t (pos 0)) wi) i.rows;
        cols = one_more to.j gj in_j (fj ∙ ap (λ (xs : List ℤ). slice_index_or xs t (pos 0)) wj) i.cols;
        values = one_more to.v gv in_v (fv ∙ ap (λ (xs : List ℤ). slice_index_or xs t (pos 0)) wv) i.values;
        others = λ b hi hj hv. y.others b (out b hi hj hv) ∙ (ap (λ (k : ℕ → List ℤ). k b) x.bufs ∙ i.others b hi hj hv);
        regs = λ q l. y.regs q (omega (arith, l)) (omega (arith, l)) ∙ (low q (omega (arith, l)) ∙ i.regs q l);
        steps = let one : suc t * (2 * length ts + 9) ≡ t * (2 * length ts + 9) + (2 * length ts + 9) = omega arith in omega (arith, y.steps, x.steps, i.steps, one);
      } in
      let room_of : (b : ℕ) → IsSource to a.bufs m b → w.bufs b ≡ a.bufs b → t < length (w.bufs b) = λ b q e. subst (λ (xs : List ℤ). t < length xs) (sym e) (omega (arith, lt, q.long)) in
      do_load env r (buf.New cs.i) (Reg (n + 1)) (Load (r + 1) (buf.New cs.j) (Reg (n + 1)) (Load (r + 2) (buf.New cs.v) (Reg (n + 1)) (append n (dim.Name to.count) (r + 3) cols))) w Q t at (room_of cs.i si wi)
      (do_load env (r + 1) (buf.New cs.j) (Reg (n + 1)) (Load (r + 2) (buf.New cs.v) (Reg (n + 1)) (append n (dim.Name to.count) (r + 3) cols)) s1 Q t at1 (room_of cs.j sj wj)
      (do_load env (r + 2) (buf.New cs.v) (Reg (n + 1)) (append n (dim.Name to.count) (r + 3) cols) s2 Q t at2 (room_of cs.v sv wv) (record { post = done; calm = y.stuck })))

  copy_does : a.regs n ≡ pos 0 → length (a.bufs to.i) ≡ M → length (a.bufs to.j) ≡ M → length (a.bufs to.v) ≡ M
      → Does env (For (n + 1) (dim.Name cs.count) (guard ts (n + 1) (n + 2) (copied cs to n (n + 1) (n + 2 + length ts))) End) a (λ u. Copying n (length ts) (passes_all ts a.bufs) M cs to m a u)
  copy_does start mi mj mv =
      for_chosen env cs ts n m (copied cs to n (n + 1) (n + 2 + length ts)) p a I count
      (λ t u i. record { long = still_long to a.bufs u.bufs i.others ts m li lj lv long; passes = λ x. still_pass to a.bufs u.bufs i.others ts x li lj lv })
      (record { count = start; rows = record { long = mi; front = refl }; cols = record { long = mj; front = refl }; values = record { long = mv; front = refl }; others = λ b hi hj hv. refl; regs = λ r h. refl; steps = omega arith })
      skips takes

pub copies_chosen : CopiesChosen
copies_chosen env cs ts to n m s count small long li lj lv si sj sv ij iv jv size mi mj mv =
    let a = set_reg n (pos 0) (tick 1 s) in
    let p = passes_all ts s.bufs in
    let M = chosen p m in
    let source : (b : ℕ) → IsSource to s.bufs m b → IsSource to a.bufs m b = λ b q. record { long = q.long; not_row = q.not_row; not_col = q.not_col; not_value = q.not_value } in
    let Q : State → Type 0 = λ u. Copying n (length ts) p M cs to m a u in
    let d = do_var env n (Number 0) (For (n + 1) (dim.Name cs.count) (guard ts (n + 1) (n + 2) (copied cs to n (n + 1) (n + 2 + length ts))) End) s Q
    (copy_does env cs ts to n m a count small long li lj lv (source cs.i si) (source cs.j sj) (source cs.v sv) ij iv jv M refl size (put_same s.regs n _) mi mj mv) in
    let q = d.post in
    record {
      rows = held_all p (λ x. slice_index_or (s.bufs cs.i) x (pos 0)) m _ q.rows;
      cols = held_all p (λ x. slice_index_or (s.bufs cs.j) x (pos 0)) m _ q.cols;
      values = held_all p (λ x. slice_index_or (s.bufs cs.v) x (pos 0)) m _ q.values;
      others = q.others;
      regs = λ r h. q.regs r h ∙ put_other s.regs n _ r (omega (arith, h));
      steps = omega (arith, q.steps);
      stuck = d.calm;
    }
