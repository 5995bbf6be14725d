-- What the loop that fills a column does.
use Rattle.std.proofs.Common.{◌≡◌, ◌≢◌, ℕ, zero, suc, ◌+◌, ◌<◌, ◌≤◌, Bool, true, false, cond, refl, sym, ap, ◌∙◌, subst, arith, List, length, ℤ, pos, ◌⊎◌, inl, inr}
use Rattle.std.specs.Prelude.{slice_index_or, slice_set}
use Rattle.std.proofs.lemmas.Bool.{cases_eq}
use Rattle.std.proofs.lemmas.List.{length-set, get_or-set_same, get_or-set_other}
use Rattle.us_code.specs.declared.program.Dim.TheVariants as dim
use Rattle.us_code.specs.declared.program.Buf.TheVariants as buf
use Rattle.us_code.specs.declared.pieces.Columns.{Columns}
use Rattle.us_code.specs.Plain.{Reg, End, Load, Set, ◌+++◌}
use Rattle.us_code.specs.Run.{Env, State, exec, put, tick, set_reg, set_buf}
use Rattle.us_code.specs.Run as run
use Rattle.us_code_laws.specs.Does.{Does}
use Rattle.us_code_laws.proofs.Rules.{statement_rules}
use Rattle.us_code_laws.proofs.Sequence.{put_same, put_other, exec_append}
use Rattle.us_code_laws.proofs.Does.{do_end, do_append, do_set, do_for}
use Rattle.us_expr.specs.Tree.{Tree, node_count}
use Rattle.us_expr.specs.Value.{IsWithin, IsValid, value}
use Rattle.us_gen_query.specs.Terms.{reads, reading, term_of, point}
use Rattle.us_gen_query.specs.Filling.{column, width, loads, fill, Entries, Filled, Fills}
use Rattle.us_gen_query.proofs.TermValues.{terms_have_values, reads_within}

-- from s to u the columns among the first c that e reads were read at place x
record Loaded (cs : Columns) (e : Tree) (n x c : ℕ) (s u : State) : Type 0 where
  pub values : (k : ℕ) → k < c → reads e k ≡ true → u.regs (n + 1 + k) ≡ slice_index_or (s.bufs (column cs k)) x (pos 0)
  pub regs : (r : ℕ) → r < n + 1 → u.regs r ≡ s.regs r
  pub bufs : u.bufs ≡ s.bufs
  pub steps : u.steps ≡ s.steps + reading e c
  pub stuck : u.stuck ≡ s.stuck

one_more : (env : Env) (cs : Columns) (e : Tree) (n m x c : ℕ) (s : State) → s.regs n ≡ pos x → x < m → length (s.bufs (column cs c)) ≡ m → (b : Bool) → reads e c ≡ b → Loaded cs e n x c s (exec env (loads cs e n c) s)
    → Loaded cs e n x (suc c) s (exec env (cond b (loads cs e n c +++ Load (n + 1 + c) (buf.New (column cs c)) (Reg n) End) (loads cs e n c)) s)
one_more env cs e n m x c s at lt long true is w =
    let u = exec env (loads cs e n c) s in
    let b = column cs c in
    let r = n + 1 + c in
    let v = slice_index_or (u.bufs b) x (pos 0) in
    let here : u.regs n ≡ pos x = w.regs n (omega arith) ∙ at in
    let room : x < length (u.bufs b) = subst (λ (f : ℕ → List ℤ). x < length (f b)) (sym w.bufs) (omega (arith, lt, long)) in
    let run : exec env (loads cs e n c +++ Load r (buf.New b) (Reg n) End) s ≡ set_reg r v (tick 1 u) =
    exec_append env (loads cs e n c) (Load r (buf.New b) (Reg n) End) s ∙ statement_rules.after_load env r (buf.New b) (Reg n) End u x here room in
    let count : reading e (suc c) ≡ reading e c + 1 = ap (λ (q : Bool). cond q (reading e c + 1) (reading e c)) is in
    subst (λ (z : State). Loaded cs e n x (suc c) s z) (sym run) record {
      values = λ k lk t. later u w k lk t (cases_eq k c);
      regs = λ y ly. put_other u.regs r v y (omega (arith, ly)) ∙ w.regs y ly;
      bufs = w.bufs;
      steps = omega (arith, w.steps, count);
      stuck = w.stuck;
    }
  where
    later : (u : State) → Loaded cs e n x c s u → (k : ℕ) → k < suc c → reads e k ≡ true → (k ≡ c) ⊎ (k ≢ c) → put u.regs (n + 1 + c) (slice_index_or (u.bufs (column cs c)) x (pos 0)) (n + 1 + k) ≡ slice_index_or (s.bufs (column cs k)) x (pos 0)
    later u w k lk t (inl q) = subst (λ (y : ℕ). put u.regs (n + 1 + c) (slice_index_or (u.bufs (column cs c)) x (pos 0)) (n + 1 + y) ≡ slice_index_or (s.bufs (column cs y)) x (pos 0)) (sym q) (put_same u.regs (n + 1 + c) _ ∙ ap (λ (f : ℕ → List ℤ). slice_index_or (f (column cs c)) x (pos 0)) w.bufs)
    later u w k lk t (inr q) = put_other u.regs (n + 1 + c) _ (n + 1 + k) (omega (arith, q)) ∙ w.values k (omega (arith, lk, q)) t
one_more env cs e n m x c s at lt long false is w =
    let count : reading e (suc c) ≡ reading e c = ap (λ (q : Bool). cond q (reading e c + 1) (reading e c)) is in
    record { values = λ k lk t. w.values k (below k lk t (cases_eq k c)) t; regs = w.regs; bufs = w.bufs; steps = omega (arith, w.steps, count); stuck = w.stuck }
  where
    clash : {P : Type 0} (y : ℕ) → y ≡ c → reads e y ≡ true → P
    clash y q t = let z : ◌≡◌ {A = Bool} true false = sym t ∙ (ap (reads e) q ∙ is) in absurd cc

    below : (y : ℕ) → y < suc c → reads e y ≡ true → (y ≡ c) ⊎ (y ≢ c) → y < c
    below y lt t (inl q) = clash y q t
    below y lt t (inr q) = omega (arith, lt, q)

loads_run : (env : Env) (cs : Columns) (e : Tree) (n m x c : ℕ) (s : State) → s.regs n ≡ pos x → x < m → ((k : ℕ) → k < c → length (s.bufs (column cs k)) ≡ m) → Loaded cs e n x c s (exec env (loads cs e n c) s)
loads_run env cs e n m x zero s at lt long = record { values = λ k lk t. absurd (omega (arith, lk)); regs = λ r h. refl; bufs = refl; steps = omega arith; stuck = refl }
loads_run env cs e n m x (suc c) s at lt long = one_more env cs e n m x c s at lt (long c (omega arith)) (reads e c) refl (loads_run env cs e n m x c s at lt (λ k lk. long k (omega (arith, lk))))

-- one more cell of a column
pub set_more : (xs : List ℤ) (f : ℕ → ℤ) (t : ℕ) (v : ℤ) → t < length xs → v ≡ f t → ((x : ℕ) → x < t → slice_index_or xs x (pos 0) ≡ f x) → (x : ℕ) → x < suc t → slice_index_or (slice_set xs t v) x (pos 0) ≡ f x
set_more xs f t v lt is old x lx = case (cases_eq x t)
  where
    case : (x ≡ t) ⊎ (x ≢ t) → slice_index_or (slice_set xs t v) x (pos 0) ≡ f x
    case (inl q) = subst (λ (y : ℕ). slice_index_or (slice_set xs t v) y (pos 0) ≡ f y) (sym q) (get_or-set_same xs t v (pos 0) lt ∙ is)
    case (inr q) = get_or-set_other xs t x v (pos 0) q ∙ old x (omega (arith, lx, q))

module _ (env : Env) (cs : Columns) (e : Tree) (b n m : ℕ) (row col : ℕ → ℤ) (vars : ℕ → List ℤ) (s : State) (en : Entries env cs s.bufs m row col vars) (apart : (c : ℕ) → c < width cs → column cs c ≢ b) (within : IsWithin (length cs.vars.items) e) (small : node_count e ≤ 32) where
  abbrev cost : ℕ
  cost = 2 + reading e (width cs)

  abbrev value_at : ℕ → ℤ
  value_at x = value (row x) (col x) (vars x) e

  turn : (t : ℕ) (u : State) → t < m → Filled b n m cost value_at t s u → Does env (loads cs e n (width cs) +++ Set (buf.New b) (Reg n) (term_of e (n + 1)) End) (set_reg n (pos t) (tick 1 u)) (Filled b n m cost value_at (suc t) s)
  turn t u lt i =
      let u1 = set_reg n (pos t) (tick 1 u) in
      let a = loads cs e n (width cs) in
      let same : (c : ℕ) → c < width cs → u.bufs (column cs c) ≡ s.bufs (column cs c) = λ c lc. i.others (column cs c) (apart c lc) in
      let w : Loaded cs e n t (width cs) u1 (exec env a u1) = loads_run env cs e n m t (width cs) u1 (put_same u.regs n (pos t)) lt (λ c lc. ap (λ (xs : List ℤ). length xs) (same c lc) ∙ en.long c lc) in
      let u2 = exec env a u1 in
      let at : u2.regs n ≡ pos t = w.regs n (omega arith) ∙ put_same u.regs n (pos t) in
      let long : length (u2.bufs b) ≡ m = ap (λ (f : ℕ → List ℤ). length (f b)) w.bufs ∙ i.long in
      let valid : IsValid (vars t) e = record { small = small; within = subst (λ (k : ℕ). IsWithin k e) (sym (en.variables t lt)) within } in
      let read : (c : ℕ) → reads e c ≡ true → u2.regs (n + 1 + c) ≡ point (row t) (col t) (vars t) c =
      λ c h. let lc = reads_within (length cs.vars.items) e c within h in
      w.values c lc h ∙ (ap (λ (xs : List ℤ). slice_index_or xs t (pos 0)) (same c lc) ∙ en.cells c t lc lt) in
      let is : run.value env u2.regs (term_of e (n + 1)) ≡ value_at t = terms_have_values env u2.regs (n + 1) (row t) (col t) (vars t) e (en.points t lt) valid read in
      let v = run.value env u2.regs (term_of e (n + 1)) in
      let u3 = set_buf b (slice_set (u2.bufs b) t v) (tick 1 u2) in
      let old : (x : ℕ) → x < t → slice_index_or (u2.bufs b) x (pos 0) ≡ value_at x = λ x lx. ap (λ (f : ℕ → List ℤ). slice_index_or (f b) x (pos 0)) w.bufs ∙ i.cells x lx in
      let now : u3.bufs b ≡ slice_set (u2.bufs b) t v = put_same u2.bufs b _ in
      let done : Filled b n m cost value_at (suc t) s u3 = record {
        long = ap (λ (xs : List ℤ). length xs) now ∙ (length-set (u2.bufs b) t v ∙ long);
        cells = λ x lx. ap (λ (xs : List ℤ). slice_index_or xs x (pos 0)) now ∙ set_more (u2.bufs b) value_at t v (omega (arith, lt, long)) is old x lx;
        others = λ k h. put_other u2.bufs b _ k (λ q. h (sym q)) ∙ (ap (λ (f : ℕ → List ℤ). f k) w.bufs ∙ i.others k h);
        regs = λ r h. w.regs r (omega (arith, h)) ∙ (put_other u.regs n _ r (omega (arith, h)) ∙ i.regs r h);
        steps = omega (arith, w.steps, i.steps);
      } in
      do_append env a (Set (buf.New b) (Reg n) (term_of e (n + 1)) End) u1 (Filled b n m cost value_at (suc t) s)
      record { post = do_set env b (Reg n) (term_of e (n + 1)) End u2 (Filled b n m cost value_at (suc t) s) t at (omega (arith, lt, long)) (do_end env u3 (Filled b n m cost value_at (suc t) s) done); calm = w.stuck }

  all : length (s.bufs b) ≡ m → Does env (fill cs e b n) s (Filled b n m cost value_at m s)
  all long =
      do_for env n (dim.Name cs.count) (loads cs e n (width cs) +++ Set (buf.New b) (Reg n) (term_of e (n + 1)) End) End s (Filled b n m cost value_at m s) (λ t u. Filled b n m cost value_at t s u)
      (record { long = long; cells = λ x lx. absurd (omega (arith, lx)); others = λ k h. refl; regs = λ r h. refl; steps = omega arith })
      (λ t u lt i. turn t u (omega (arith, lt, en.count)) i)
      (λ u i. do_end env u (Filled b n m cost value_at m s) (subst (λ (k : ℕ). Filled b n m cost value_at k s u) en.count i))

pub fills : Fills
fills env cs e b n m row col vars s en apart long within small =
    let d = all env cs e b n m row col vars s en apart within small long in
    record { filled = d.post; stuck = d.calm }
