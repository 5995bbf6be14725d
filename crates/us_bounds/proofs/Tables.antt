-- A map that gains, loses or keeps a key, as a function from keys.
use Rattle.std.specs.BTreeMap.{BTreeMap, get, is_at}
use Rattle.std.specs.Map.{lookup}
use Rattle.std.specs.Ordering.{nat_cmp, is_eq}
use Rattle.std.proofs.Common.{◌≡◌, ℕ, Bool, true, false, cond, eqb, [], Option, Some, None, refl, ap, ◌∙◌, arith}
use mathlib.Core.Path.{fun_ext}
use Rattle.std.proofs.lemmas.Bool.Decides.{nat_tests}
use Rattle.us_code.specs.declared.program.Make.{Make}
use Rattle.us_code.specs.Run.{put}
use Rattle.us_code.specs.Typing.{Form, RegKind, BufKind, Context, before, with_reg, with_buf, with_form, without_regs}
use Rattle.us_bounds.specs.declared.table.Register.{Register}
use Rattle.us_bounds.specs.declared.table.Buffer.{Buffer}
use Rattle.us_bounds.specs.declared.table.DimForm.{DimForm}
use Rattle.us_bounds.specs.declared.table.Table.{Table}
use Rattle.us_bounds.specs.Seen.{plain_form, seen_form, seen_reg, seen_buf, context_of, without_reg}

same_key : (r q : ℕ) → is_eq (nat_cmp r q) ≡ eqb r q
same_key r q = grind (arith, nat_tests)

choice : {A B : Type 0} (f : A → B) (b : Bool) (x y : A) → f (cond b x y) ≡ cond b (f x) (f y)
choice f true x y = refl
choice f false x y = refl

put_in : {X A : Type 0} (f : Option X → Option A) (old new : ℕ → Option X) (r : ℕ) (w : Option X) → ((q : ℕ) → new q ≡ cond (is_at (nat_cmp r) q) w (old q)) → (λ (q : ℕ). f (new q)) ≡ put (λ (q : ℕ). f (old q)) r (f w)
unfolding put
put_in f old new r w h = fun_ext (λ q. ap f (h q) ∙ (choice f (is_eq (nat_cmp r q)) w (old q) ∙ ap (λ (b : Bool). cond b (f w) (f (old q))) (same_key r q)))

nothing : {X A : Type 0} (f : Option X → Option A) (m : BTreeMap ℕ X) → f None ≡ None → m.entries ≡ [] → ◌≡◌ {A = ℕ → Option A} (λ q. f (get nat_cmp m q)) (λ q. None)
nothing f m n e = fun_ext (λ q. ap (λ es. f (lookup (is_at (nat_cmp q)) es)) e ∙ n)

pub starts : (t : Table) → t.regs.entries ≡ [] → t.bufs.entries ≡ [] → t.dims.entries ≡ [] → context_of t ≡ before t.sources
unfolding context_of
starts t r b d =
    ap (λ (f : ℕ → Option RegKind). record { sources = t.sources; regs = f; bufs = λ x. seen_buf (get nat_cmp t.bufs x); dims = λ x. seen_form (get nat_cmp t.dims x) }) (nothing seen_reg t.regs refl r)
    ∙ (ap (λ (f : ℕ → Option BufKind). record { sources = t.sources; regs = λ _. None; bufs = f; dims = λ x. seen_form (get nat_cmp t.dims x) }) (nothing seen_buf t.bufs refl b)
    ∙ ap (λ (f : ℕ → Option Form). record { sources = t.sources; regs = λ _. None; bufs = λ _. None; dims = f }) (nothing seen_form t.dims refl d))

-- with other registers, buffers, dims
regs_as : Table → (ℕ → Option RegKind) → Context
regs_as t f = record { sources = t.sources; regs = f; bufs = λ b. seen_buf (get nat_cmp t.bufs b); dims = λ d. seen_form (get nat_cmp t.dims d) }

bufs_as : Table → (ℕ → Option BufKind) → Context
bufs_as t f = record { sources = t.sources; regs = λ r. seen_reg (get nat_cmp t.regs r); bufs = f; dims = λ d. seen_form (get nat_cmp t.dims d) }

dims_as : Table → (ℕ → Option Form) → Context
dims_as t f = record { sources = t.sources; regs = λ r. seen_reg (get nat_cmp t.regs r); bufs = λ b. seen_buf (get nat_cmp t.bufs b); dims = f }

pub reg_added : (t : Table) (m : BTreeMap ℕ Register) (r : ℕ) (x : Register) → ((q : ℕ) → get nat_cmp m q ≡ cond (is_at (nat_cmp r) q) (Some x) (get nat_cmp t.regs q)) → context_of (record t { regs = m }) ≡ with_reg (context_of t) r x.is_var x.kind
unfolding context_of regs_as
reg_added t m r x h = ap (regs_as t) (put_in seen_reg (get nat_cmp t.regs) (get nat_cmp m) r (Some x) h)

pub reg_removed : (t : Table) (m : BTreeMap ℕ Register) (r : ℕ) → ((q : ℕ) → get nat_cmp m q ≡ cond (is_at (nat_cmp r) q) None (get nat_cmp t.regs q)) → context_of (record t { regs = m }) ≡ without_reg (context_of t) r
unfolding context_of regs_as
reg_removed t m r h = ap (regs_as t) (put_in seen_reg (get nat_cmp t.regs) (get nat_cmp m) r None h)

pub regs_cleared : (t : Table) (m : BTreeMap ℕ Register) → m.entries ≡ [] → context_of (record t { regs = m }) ≡ without_regs (context_of t)
unfolding context_of regs_as
regs_cleared t m h = ap (regs_as t) (nothing seen_reg m refl h)

pub buf_added : (t : Table) (m : BTreeMap ℕ Buffer) (make : Make) → ((q : ℕ) → get nat_cmp m q ≡ cond (is_at (nat_cmp make.buf) q) (Some record { len = make.len; cell = make.cell }) (get nat_cmp t.bufs q)) → context_of (record t { bufs = m }) ≡ with_buf (context_of t) make
unfolding context_of bufs_as
buf_added t m make h = ap (bufs_as t) (put_in seen_buf (get nat_cmp t.bufs) (get nat_cmp m) make.buf (Some record { len = make.len; cell = make.cell }) h)

pub dim_added : (t : Table) (m : BTreeMap ℕ DimForm) (d : ℕ) (f : DimForm) → ((q : ℕ) → get nat_cmp m q ≡ cond (is_at (nat_cmp d) q) (Some f) (get nat_cmp t.dims q)) → context_of (record t { dims = m }) ≡ with_form (context_of t) d (plain_form f)
unfolding context_of dims_as
dim_added t m d f h = ap (dims_as t) (put_in seen_form (get nat_cmp t.dims) (get nat_cmp m) d (Some f) h)
