-- A typed program is never stuck.
use Rattle.std.proofs.Common.{◌≡◌, ◌≢◌, ℕ, zero, suc, ◌+◌, ◌*◌, ◌<◌, Bool, true, false, cond, eqb, ◌&&◌, ◌||◌, nat_lt, refl, sym, ap, ap₂, ◌∙◌, subst, arith, List, [], ◌∷◌, length, replicate, pos, ℤ, Option, Some, None}
use Rattle.std.specs.Prelude.{slice_index_or}
use Rattle.std.proofs.lemmas.Bool.Decides.{nat_tests}
use Rattle.us_code.specs.declared.program.Dim.{Dim}
use Rattle.us_code.specs.declared.program.Dim.TheVariants as dim
use Rattle.us_code.specs.declared.program.Buf.{Buf}
use Rattle.us_code.specs.declared.program.Buf.TheVariants as buf
use Rattle.us_code.specs.declared.program.CellKind.{CellKind}
use Rattle.us_code.specs.declared.program.CellKind.TheVariants as kind
use Rattle.us_code.specs.declared.program.Make.{Make}
use Rattle.us_code.specs.Plain.{TermTree, Number, Reg, Size, Flat, Next, Up, Add, Sub, Mul, Div, Rem, Code, End, Let, Load, Var, Put, Set, For, Span, If, When, Order, LineTree, PhaseTree, ProgramTree}
use Rattle.us_code.specs.Plain as plain
use Rattle.us_code.specs.Run.{Env, State, put, exec, size_of, value}
use Rattle.us_code.specs.Runs.{World, Ran, Went, TooLarge, Stuck, ◌>>=◌, within, make, with_dim, whole, line, make_all, line_all, after_body, begin, phase, phases, start, GotStuck, outcome}
use Rattle.us_code.specs.Typing.{Form, Of, Product, Successor, RegKind, BufKind, Context, is_some, with_reg, reg_kind, kind_of, sees_dim, sees_cell, buf_cell, cell_of, same_dim, fine, Typed, outer, with_buf, with_form, without_regs, is_successor, has_room, cell_has_room, TypedMakes, with_bufs, with_line, TypedLine, TypedLines, with_lines, in_body, in_lines, after_phase, TypedPhases, before}
use Rattle.us_code_laws.specs.Fits.{InKind, RegOk, BufOk, FormOk, Fits}
use Rattle.us_code_laws.specs.Programs.{RegCloses, BufCloses, FormCloses, Closed, TypedProgramsRun}
use Rattle.us_code_laws.proofs.Sound.{sound, and_right, lt_means, same_size}
use Rattle.us_code_laws.proofs.Sequence.{put_same}
use Rattle.us_code_laws.proofs.Unbounds.{flat_some, next_some}

abbrev pub state_of : (ℕ → ℤ) → World → State
state_of regs w = record { regs = regs; bufs = w.bufs; steps = w.steps; stuck = false }

-- what holds between the lines of a phase
pub record Ready (g : Context) (regs : ℕ → ℤ) (w : World) : Type 0 where
  pub closed : Closed g
  pub fits : Fits g w.env (state_of regs w)

-- nothing is stuck, and what goes on has P
abbrev pub Goes : (World → Type 0) → Ran → Type 0
Goes P (Went w) = P w
Goes P (TooLarge n) = Unit {0}
Goes P Stuck = ⊥

pub goes_bind : (P Q : World → Type 0) (r : Ran) (f : World → Ran) → Goes P r → ((w : World) → P w → Goes Q (f w)) → Goes Q (r >>= f)
goes_bind P Q (Went w) f p k = k w p
goes_bind P Q (TooLarge n) f p k = tt
goes_bind P Q Stuck f p k = absurd p

-- a length or a dim, and where it is too large
pub goes_within : (P : World → Type 0) (n : ℕ) (old new : World) → P record { env = new.env; bufs = new.bufs; steps = old.steps + 1 } → Goes P (within n old new)
goes_within P n old new p = case (nat_lt 67108865 n)
  where
    case : (b : Bool) → Goes P (cond b (TooLarge (old.steps + 1)) (Went record { env = new.env; bufs = new.bufs; steps = old.steps + 1 }))
    case true = tt
    case false = p

eq_of : (a b : ℕ) → eqb a b ≡ true → a ≡ b
eq_of a b h = grind (arith, nat_tests)

-- where more is visible, what is closed stays so
module _ (g h : Context) (sources : h.sources ≡ g.sources) (more : (d : ℕ) → is_some (g.dims d) ≡ true → is_some (h.dims d) ≡ true) where
  dim_more : (d : Dim) → sees_dim g d ≡ true → sees_dim h d ≡ true
  dim_more (dim.Number n) s = refl
  dim_more (dim.Name d) s = more d s
  dim_more (dim.Len k) s = ap (nat_lt k) sources ∙ s

  cell_more : (k : CellKind) → sees_cell g k ≡ true → sees_cell h k ≡ true
  cell_more kind.Word s = refl
  cell_more (kind.Below d) s = dim_more d s

  reg_more : (o : Option RegKind) → RegCloses g o → RegCloses h o
  reg_more None c = tt
  reg_more (Some k) c = cell_more k.kind c

  buf_more : (o : Option BufKind) → BufCloses g o → BufCloses h o
  buf_more None c = tt
  buf_more (Some k) c = (dim_more k.len c.0, cell_more k.cell c.1)

  form_more : (o : Option Form) → FormCloses g o → FormCloses h o
  form_more None c = tt
  form_more (Some Of) c = tt
  form_more (Some (Product a b)) c = (dim_more a c.0, dim_more b c.1)
  form_more (Some (Successor a)) c = dim_more a c

-- one more register
closed_reg : (g : Context) (r : ℕ) (v : Bool) (k : CellKind) → sees_cell g k ≡ true → Closed g → Closed (with_reg g r v k)
unfolding put
closed_reg g r v k see c =
    let h = with_reg g r v k in
    let at : (x : ℕ) (b : Bool) → RegCloses h (cond b (Some record { is_var = v; kind = k }) (g.regs x)) = λ x. elim [ true ↦ cell_more g h refl (λ d s. s) k see | false ↦ reg_more g h refl (λ d s. s) (g.regs x) (c.regs x) ] in
    record { regs = λ x. at x (eqb r x); bufs = λ x. buf_more g h refl (λ d s. s) (g.bufs x) (c.bufs x); dims = λ x. form_more g h refl (λ d s. s) (g.dims x) (c.dims x) }

reg_seen : (g : Context) (o : Option RegKind) → RegCloses g o → sees_cell g (reg_kind o) ≡ true
reg_seen g None c = refl
reg_seen g (Some k) c = c

number_seen : (g : Context) (n : ℕ) (b : Bool) → sees_cell g (cond b (kind.Below (dim.Number n)) kind.Word) ≡ true
number_seen g n true = refl
number_seen g n false = refl

kind_seen : (g : Context) (e : TermTree) → Closed g → fine g e ≡ true → sees_cell g (kind_of g e) ≡ true
kind_seen g (Number n) c h = number_seen g (n + 1) _
kind_seen g (Reg r) c h = reg_seen g (g.regs r) (c.regs r)
kind_seen g (Size d) c h = refl
kind_seen g (Flat d p x) c h = flat_some (g.dims d) (kind_of g p) (kind_of g x) (and_right (fine g p && fine g x) _ h)
kind_seen g (Next d x) c h = next_some (g.dims d) (kind_of g x) (and_right (fine g x) _ h)
kind_seen g (Up d x) c h = next_some (g.dims d) (kind_of g x) (and_right (fine g x) _ h)
kind_seen g (Add a b) c h = refl
kind_seen g (Sub a b) c h = refl
kind_seen g (Mul a b) c h = refl
kind_seen g (Div a k) c h = refl
kind_seen g (Rem a k) c h = refl

cell_seen : (g : Context) (b : Buf) → Closed g → sees_cell g (cell_of g b) ≡ true
cell_seen g (buf.Source k) c = refl
cell_seen g (buf.New b) c = of (g.bufs b) (c.bufs b)
  where
    of : (o : Option BufKind) → BufCloses g o → sees_cell g (buf_cell o) ≡ true
    of None d = refl
    of (Some k) d = d.1

pub closed_outer : (g : Context) (c : Code) → Typed g c → Closed g → Closed (outer g c)
closed_outer g End t c = c
closed_outer g (Let r e rest) t c = closed_outer (with_reg g r false (kind_of g e)) rest t.2 (closed_reg g r false (kind_of g e) (kind_seen g e c t.1) c)
closed_outer g (Load r b at rest) t c = closed_outer (with_reg g r false (cell_of g b)) rest t.4 (closed_reg g r false (cell_of g b) (cell_seen g b c) c)
closed_outer g (Var r e rest) t c = closed_outer (with_reg g r true kind.Word) rest t.2 (closed_reg g r true kind.Word refl c)
closed_outer g (Put r e rest) t c = closed_outer g rest t.2 c
closed_outer g (Set b at e rest) t c = closed_outer g rest t.6 c
closed_outer g (For r d body rest) t c = closed_outer g rest t.3 c
closed_outer g (Span r a b d body rest) t c = closed_outer g rest t.6 c
closed_outer g (If l eq r body given other rest) t c = closed_outer g rest t.4 c
closed_outer g (When e d r body given other rest) t c = closed_outer g rest t.5 c
closed_outer g (Order b keys rest) t c = closed_outer g rest t.5 c

-- a `new` line: its cells are 0
zeros : (n x : ℕ) → slice_index_or (replicate n (pos 0)) x (pos 0) ≡ pos 0
zeros zero x = refl
zeros (suc n) zero = refl
zeros (suc n) (suc x) = zeros n x

zeros_long : (n : ℕ) → length (replicate n (pos 0)) ≡ n
zeros_long zero = refl
zeros_long (suc n) = ap suc (zeros_long n)

successor_room : (env : Env) (o : Option Form) (d : ℕ) → FormOk env o d → is_successor o ≡ true → 0 < env.dims d
successor_room env None d f h = absurd cc
successor_room env (Some Of) d f h = absurd cc
successor_room env (Some (Product a b)) d f h = absurd cc
successor_room env (Some (Successor a)) d f h = omega (arith, f)

either : (a b : Bool) {P : Type 0} → a || b ≡ true → (a ≡ true → P) → (b ≡ true → P) → P
either true b h p q = p refl
either false b h p q = q h

room : (g : Context) (env : Env) (regs : ℕ → ℤ) (s : State) (d len : Dim) (x : ℕ) → Fits g env s → has_room g d len ≡ true → x < size_of env len → 0 < size_of env d
room g env regs s (dim.Number n) len x f h lt = either (nat_lt 0 n) (same_dim (dim.Number n) len) h (λ e. lt_means 0 n e) (λ e. omega (arith, lt, same_size env (dim.Number n) len e))
room g env regs s (dim.Name d) len x f h lt = either (is_successor (g.dims d)) (same_dim (dim.Name d) len) h (λ e. successor_room env (g.dims d) d (f.dims d) e) (λ e. omega (arith, lt, same_size env (dim.Name d) len e))
room g env regs s (dim.Len k) len x f h lt = omega (arith, lt, same_size env (dim.Len k) len h)

zero_in : (g : Context) (env : Env) (regs : ℕ → ℤ) (s : State) (k : CellKind) (len : Dim) (x : ℕ) (v : ℤ) → Fits g env s → cell_has_room g k len ≡ true → x < size_of env len → v ≡ pos 0 → InKind env k v
zero_in g env regs s kind.Word len x v f h lt e = tt
zero_in g env regs s (kind.Below d) len x v f h lt e = (0, e, room g env regs s d len x f h lt)

pub make_goes : (g : Context) (regs : ℕ → ℤ) (m : Make) (w : World) → sees_dim g m.len ≡ true → sees_cell g m.cell ≡ true → cell_has_room g m.cell m.len ≡ true → Ready g regs w → Goes (Ready (with_buf g m) regs) (make m w)
unfolding put
make_goes g regs m w see_len see_cell has r =
    let h = with_buf g m in
    let n = size_of w.env m.len in
    let xs = replicate n (pos 0) in
    let new : BufOk w.env (Some record { len = m.len; cell = m.cell }) xs = (zeros_long n, λ x lt. zero_in g w.env regs (state_of regs w) m.cell m.len x _ r.fits has (omega (arith, lt, zeros_long n)) (zeros n x)) in
    let bufs : (x : ℕ) (b : Bool) → BufOk w.env (cond b (Some record { len = m.len; cell = m.cell }) (g.bufs x)) (cond b xs (w.bufs x)) = λ x. elim [ true ↦ new | false ↦ r.fits.bufs x ] in
    let closes : (x : ℕ) (b : Bool) → BufCloses h (cond b (Some record { len = m.len; cell = m.cell }) (g.bufs x)) = λ x. elim [ true ↦ (dim_more g h refl (λ d s. s) m.len see_len, cell_more g h refl (λ d s. s) m.cell see_cell) | false ↦ buf_more g h refl (λ d s. s) (g.bufs x) (r.closed.bufs x) ] in
    goes_within (Ready h regs) n w record { env = w.env; bufs = put w.bufs m.buf xs; steps = w.steps } record {
      closed = record { regs = λ x. reg_more g h refl (λ d s. s) (g.regs x) (r.closed.regs x); bufs = λ x. closes x (eqb m.buf x); dims = λ x. form_more g h refl (λ d s. s) (g.dims x) (r.closed.dims x) };
      fits = record { regs = r.fits.regs; bufs = λ x. bufs x (eqb m.buf x); dims = r.fits.dims };
    }

pub makes_go : (g : Context) (regs : ℕ → ℤ) (ms : List Make) (w : World) → TypedMakes g ms → Ready g regs w → Goes (Ready (with_bufs g ms) regs) (make_all ms w)
makes_go g regs [] w t r = r
makes_go g regs (m ∷ ms) w t r = goes_bind (Ready (with_buf g m) regs) (Ready (with_bufs (with_buf g m) ms) regs) (make m w) (make_all ms) (make_goes g regs m w t.1 t.2 t.3 r) (λ u k. makes_go (with_buf g m) regs ms u t.4 k)

-- a dim line: what is visible names other dims alone
abbrev env_with : Env → ℕ → ℕ → ℕ → Env
env_with env d n f = record { dims = put env.dims d n; factors = put env.factors d f; sources = env.sources }

module _ (g : Context) (env : Env) (d n f : ℕ) (none : g.dims d ≡ None) where
  pub size_kept : (e : Dim) → sees_dim g e ≡ true → size_of (env_with env d n f) e ≡ size_of env e
  unfolding put
  size_kept (dim.Number k) see = refl
  size_kept (dim.Len k) see = refl
  size_kept (dim.Name x) see = at (eqb d x) (eq_of d x)
    where
      bad : d ≡ x → true ≡ false
      bad e = sym see ∙ (ap (λ (y : ℕ). is_some (g.dims y)) (sym e) ∙ ap is_some none)

      at : (b : Bool) → (b ≡ true → d ≡ x) → cond b n (env.dims x) ≡ env.dims x
      at true e = absurd (let c : true ≡ false = bad (e refl) in cc)
      at false e = refl

  kind_kept : (k : CellKind) (v : ℤ) → sees_cell g k ≡ true → InKind env k v → InKind (env_with env d n f) k v
  kind_kept kind.Word v see i = tt
  kind_kept (kind.Below e) v see i = (i.0, i.1, omega (arith, i.2, size_kept e see))

  reg_kept : (o : Option RegKind) (v : ℤ) → RegCloses g o → RegOk env o v → RegOk (env_with env d n f) o v
  reg_kept None v c i = tt
  reg_kept (Some k) v c i = (i.0, kind_kept k.kind v c i.1)

  buf_kept : (o : Option BufKind) (xs : List ℤ) → BufCloses g o → BufOk env o xs → BufOk (env_with env d n f) o xs
  buf_kept None xs c i = tt
  buf_kept (Some k) xs c i = (i.0 ∙ sym (size_kept k.len c.0), λ x lt. kind_kept k.cell _ c.1 (i.1 x lt))

  form_kept : (o : Option Form) (x : ℕ) → (env_with env d n f).dims x ≡ env.dims x → (env_with env d n f).factors x ≡ env.factors x → FormCloses g o → FormOk env o x → FormOk (env_with env d n f) o x
  form_kept None x e1 e2 c i = tt
  form_kept (Some Of) x e1 e2 c i = tt
  form_kept (Some (Product a b)) x e1 e2 c i = (e1 ∙ (i.0 ∙ ap₂ (λ p q. p * q) (sym (size_kept a c.0)) (sym (size_kept b c.1))), e2 ∙ (i.1 ∙ sym (size_kept b c.1)))
  form_kept (Some (Successor a)) x e1 e2 c i = e1 ∙ (i ∙ ap (λ p. p + 1) (sym (size_kept a c)))

  -- the context with the new dim
  dim_goes : (regs : ℕ → ℤ) (w : World) (F : Form) → w.env ≡ env → FormCloses g (Some F) → FormOk (env_with env d n f) (Some F) d → Fits g env (state_of regs w) → Closed g → (steps : ℕ) → Ready (with_form g d F) regs record { env = env_with env d n f; bufs = w.bufs; steps = steps }
  unfolding put
  dim_goes regs w F same closes new fits closed steps =
      let h = with_form g d F in
      let seen : (x : ℕ) (b : Bool) → is_some (g.dims x) ≡ true → is_some (cond b (Some F) (g.dims x)) ≡ true = λ x. elim [ true ↦ λ s. refl | false ↦ λ s. s ] in
      let more : (x : ℕ) → is_some (g.dims x) ≡ true → is_some (h.dims x) ≡ true = λ x s. seen x (eqb d x) s in
      let forms : (x : ℕ) (b : Bool) → FormCloses h (cond b (Some F) (g.dims x)) = λ x. elim [ true ↦ form_more g h refl more (Some F) closes | false ↦ form_more g h refl more (g.dims x) (closed.dims x) ] in
      record {
        closed = record { regs = λ x. reg_more g h refl more (g.regs x) (closed.regs x); bufs = λ x. buf_more g h refl more (g.bufs x) (closed.bufs x); dims = λ x. forms x (eqb d x) };
        fits = record {
          regs = λ x. reg_kept (g.regs x) (regs x) (closed.regs x) (fits.regs x);
          bufs = λ x. buf_kept (g.bufs x) (w.bufs x) (closed.bufs x) (fits.bufs x);
          dims = λ x. at x (eqb d x) (eq_of d x) refl;
        };
      }
    where
      at : (x : ℕ) (b : Bool) → (b ≡ true → d ≡ x) → eqb d x ≡ b → FormOk (env_with env d n f) (cond b (Some F) (g.dims x)) x
      at x true e q = subst (λ (y : ℕ). FormOk (env_with env d n f) (Some F) y) (e refl) new
      at x false e q = form_kept (g.dims x) x (ap (λ b. cond b n (env.dims x)) q) (ap (λ b. cond b f (env.factors x)) q) (closed.dims x) (fits.dims x)

  here : (env_with env d n f).dims d ≡ n
  here = put_same env.dims d n

  factor_here : (env_with env d n f).factors d ≡ f
  factor_here = put_same env.factors d f

pub line_goes : (g : Context) (regs : ℕ → ℤ) (l : LineTree) (w : World) → TypedLine g l → Ready g regs w → Goes (Ready (with_line g l) regs) (line regs l w)
line_goes g regs (plain.Of d e) w t r =
    let n = whole (value w.env regs e) in
    goes_within (Ready (with_form g d Of) regs) n w (with_dim d n 0 w) (dim_goes g w.env d n 0 t.0 regs w Of refl tt tt r.fits r.closed (w.steps + 1))
line_goes g regs (plain.Product d a b) w t r =
    let n = size_of w.env a * size_of w.env b in
    let f = size_of w.env b in
    let new : FormOk (env_with w.env d n f) (Some (Product a b)) d = (here g w.env d n f t.0 ∙ ap₂ (λ p q. p * q) (sym (size_kept g w.env d n f t.0 a t.1)) (sym (size_kept g w.env d n f t.0 b t.2)), factor_here g w.env d n f t.0 ∙ sym (size_kept g w.env d n f t.0 b t.2)) in
    goes_within (Ready (with_form g d (Product a b)) regs) n w (with_dim d n f w) (dim_goes g w.env d n f t.0 regs w (Product a b) refl (t.1, t.2) new r.fits r.closed (w.steps + 1))
line_goes g regs (plain.Successor d a) w t r =
    let n = size_of w.env a + 1 in
    let new : FormOk (env_with w.env d n 0) (Some (Successor a)) d = here g w.env d n 0 t.0 ∙ ap (λ p. p + 1) (sym (size_kept g w.env d n 0 t.0 a t.1)) in
    goes_within (Ready (with_form g d (Successor a)) regs) n w (with_dim d n 0 w) (dim_goes g w.env d n 0 t.0 regs w (Successor a) refl t.1 new r.fits r.closed (w.steps + 1))

pub lines_go : (g : Context) (regs : ℕ → ℤ) (ls : List LineTree) (w : World) → TypedLines g ls → Ready g regs w → Goes (Ready (with_lines g ls) regs) (line_all regs ls w)
lines_go g regs [] w t r = r
lines_go g regs (l ∷ ls) w t r = goes_bind (Ready (with_line g l) regs) (Ready (with_lines (with_line g l) ls) regs) (line regs l w) (line_all regs ls) (line_goes g regs l w t.0 r) (λ u k. lines_go (with_line g l) regs ls u t.1 k)

-- a phase
pub forget : (g : Context) (regs : ℕ → ℤ) (w : World) → Ready g regs w → Ready (without_regs g) (λ r. pos 0) w
forget g regs w r =
    let h = without_regs g in
    record {
      closed = record { regs = λ x. tt; bufs = λ x. buf_more g h refl (λ d s. s) (g.bufs x) (r.closed.bufs x); dims = λ x. form_more g h refl (λ d s. s) (g.dims x) (r.closed.dims x) };
      fits = record { regs = λ x. tt; bufs = r.fits.bufs; dims = r.fits.dims };
    }

goes_weaker : (P Q : World → Type 0) (r : Ran) → ((w : World) → P w → Q w) → Goes P r → Goes Q r
goes_weaker P Q (Went w) k p = k w p
goes_weaker P Q (TooLarge n) k p = tt
goes_weaker P Q Stuck k p = p

pub body_goes : (g : Context) (c : Code) (ls : List LineTree) (u : World) → Typed g c → TypedLines (outer g c) ls → Ready g (λ r. pos 0) u → Goes (Ready (without_regs (with_lines (outer g c) ls)) (λ r. pos 0)) (after_body (exec u.env c (begin u)) ls u)
body_goes g c ls u t tl r =
    let s = exec u.env c (begin u) in
    let w : World = record { env = u.env; bufs = s.bufs; steps = s.steps } in
    let done = sound u.env g c (begin u) t r.fits in
    let ready : Ready (outer g c) s.regs w = record { closed = closed_outer g c t r.closed; fits = record { regs = done.fits.regs; bufs = done.fits.bufs; dims = done.fits.dims } } in
    let gone = goes_weaker (Ready (with_lines (outer g c) ls) s.regs) (Ready (without_regs (with_lines (outer g c) ls)) (λ r. pos 0)) (line_all s.regs ls w) (λ v k. forget (with_lines (outer g c) ls) s.regs v k) (lines_go (outer g c) s.regs ls w tl ready) in
    subst (λ (b : Bool). Goes (Ready (without_regs (with_lines (outer g c) ls)) (λ r. pos 0)) (cond b Stuck (line_all s.regs ls w))) (sym done.stuck) gone

pub phase_goes : (g : Context) (p : PhaseTree) (w : World) → TypedMakes g p.makes → Typed (in_body g p) p.body → TypedLines (in_lines g p) p.lines → Ready g (λ r. pos 0) w → Goes (Ready (after_phase g p) (λ r. pos 0)) (phase p w)
phase_goes g p w tm tb tl r =
    goes_bind (Ready (in_body g p) (λ r. pos 0)) (Ready (after_phase g p) (λ r. pos 0)) (make_all p.makes w) (λ u. after_body (exec u.env p.body (begin u)) p.lines u) (makes_go g (λ r. pos 0) p.makes w tm r) (λ u k. body_goes (in_body g p) p.body p.lines u tb tl k)

phases_go : (g : Context) (ps : List PhaseTree) (w : World) → TypedPhases g ps → Ready g (λ r. pos 0) w → Goes (λ u. Unit {0}) (phases ps w)
phases_go g [] w t r = tt
phases_go g (p ∷ ps) w t r = goes_bind (Ready (after_phase g p) (λ r. pos 0)) (λ u. Unit {0}) (phase p w) (phases ps) (phase_goes g p w t.0 t.1 t.2 r) (λ u k. phases_go (after_phase g p) ps u t.3 k)

not_stuck : (give : List ℕ) (r : Ran) → Goes (λ u. Unit {0}) r → outcome give r ≢ GotStuck
not_stuck give (Went w) h e = absurd cc
not_stuck give (TooLarge n) h e = absurd cc
not_stuck give Stuck h e = absurd h

pub typed_programs_run : TypedProgramsRun
typed_programs_run p sources t = not_stuck p.give (phases p.phases (start sources)) (phases_go (before p.sources) p.phases (start sources) t.0 record {
  closed = record { regs = λ x. tt; bufs = λ x. tt; dims = λ x. tt };
  fits = record { regs = λ x. tt; bufs = λ x. tt; dims = λ x. tt };
})
