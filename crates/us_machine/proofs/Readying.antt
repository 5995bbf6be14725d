-- What a block that is ready to run gives its parts.
use Rattle.std.proofs.Common.{◌≡◌, ℕ, ◌<◌, ◌≤◌, ◌^◌, Bool, true, ◌&&◌, nat_lt, List, pos, ℤ, w64, FitsSigned, sym, ap, ◌∙◌, subst, arith, Option}
use Rattle.std.proofs.lemmas.Bool.Decides.{nat_tests}
use Rattle.us_raw.specs.Region.{Lists}
use Rattle.us_code.specs.declared.program.Dim.{Dim}
use Rattle.us_code.specs.declared.program.Dim.TheVariants as dim
use Rattle.us_code.specs.declared.program.CellKind.{CellKind}
use Rattle.us_code.specs.Plain.{TermTree, Number, Reg, Size, Flat, Next, Up, Add, Sub, Mul, Div, Rem, Code, ◌+++◌}
use Rattle.us_code.specs.Limits.{FitsDim, FitsNumbers}
use Rattle.us_code.specs.Run.{State, exec}
use Rattle.us_code.specs.Typing.{Context, BufKind, with_reg, buf_cell, is_some, kind_of, sees_dim, fine, is_flat, is_next, outer}
use Rattle.us_code_laws.specs.Fits.{InKind, Fits}
use Rattle.us_code_laws.proofs.Sound.{and_left, and_right, value_ok, sound}
use Rattle.us_machine.specs.declared.tables.Tables.{Tables}
use Rattle.us_machine.specs.Tables.{held, env_of, IsSized, IsEvaluable}
use Rattle.us_machine.specs.Walks.{Stands, Sized, Ready, state_of}
use Rattle.us_machine.proofs.Parts.{typed_parts, terms_parts, outer_sources, outer_bufs}

lt_of : (a b : ℕ) → nat_lt a b ≡ true → a < b
lt_of a b h = grind (arith, nat_tests)

pub dim_sized : (t : Tables) (sources : List (List ℤ)) (g : Context) (d : Dim) → Sized t sources g → FitsDim d → sees_dim g d ≡ true → IsSized t sources d
dim_sized t sources g (dim.Number n) z k h = k
dim_sized t sources g (dim.Name d) z k h = omega (arith, z.dims d)
dim_sized t sources g (dim.Len d) z k h = (omega (arith, lt_of d g.sources h, z.count), omega (arith, z.short d))

natural_fits : (v : ℤ) (n m : ℕ) → v ≡ pos n → n < m → m ≤ 67108865 → FitsSigned w64 v
natural_fits v n m e lt le = let small : n < 2 ^ 63 = omega arith in subst (λ (z : ℤ). FitsSigned w64 z) (sym e) record { sfits = small }

pub evaluable : (t : Tables) (sources : List (List ℤ)) (r : Lists) (regs : ℕ → ℤ) (g : Context) (e : TermTree) → Fits g (env_of t sources) (state_of t r regs 0) → Sized t sources g → FitsNumbers e → fine g e ≡ true → IsEvaluable t sources regs e
evaluable t sources r regs g (Number n) f z k h = k
evaluable t sources r regs g (Reg x) f z k h = tt
evaluable t sources r regs g (Size d) f z k h = dim_sized t sources g d z k h
evaluable t sources r regs g (Flat d p c) f z k h =
    let pc = and_left (fine g p && fine g c) (is_flat (g.dims d) (kind_of g p) (kind_of g c)) h in
    let v = value_ok g (env_of t sources) (state_of t r regs 0) (Flat d p c) f h in
    (evaluable t sources r regs g p f z k.0 (and_left (fine g p) (fine g c) pc), evaluable t sources r regs g c f z k.1 (and_right (fine g p) (fine g c) pc), z.factors d, natural_fits _ v.0 (held t.dims d) v.1 v.2 (z.dims d))
evaluable t sources r regs g (Next d x) f z k h =
    let v = value_ok g (env_of t sources) (state_of t r regs 0) (Next d x) f h in
    (evaluable t sources r regs g x f z k (and_left (fine g x) (is_next (g.dims d) (kind_of g x)) h), natural_fits _ v.0 (held t.dims d) v.1 v.2 (z.dims d))
evaluable t sources r regs g (Up d x) f z k h = evaluable t sources r regs g x f z k (and_left (fine g x) (is_next (g.dims d) (kind_of g x)) h)
evaluable t sources r regs g (Add a b) f z k h = (evaluable t sources r regs g a f z k.0 (and_left (fine g a) (fine g b) h), evaluable t sources r regs g b f z k.1 (and_right (fine g a) (fine g b) h))
evaluable t sources r regs g (Sub a b) f z k h = (evaluable t sources r regs g a f z k.0 (and_left (fine g a) (fine g b) h), evaluable t sources r regs g b f z k.1 (and_right (fine g a) (fine g b) h))
evaluable t sources r regs g (Mul a b) f z k h = (evaluable t sources r regs g a f z k.0 (and_left (fine g a) (fine g b) h), evaluable t sources r regs g b f z k.1 (and_right (fine g a) (fine g b) h))
evaluable t sources r regs g (Div a m) f z k h = (evaluable t sources r regs g a f z k.0 h, k.1, k.2)
evaluable t sources r regs g (Rem a m) f z k h = (evaluable t sources r regs g a f z k.0 h, k.1, k.2)

-- kinds don't speak of steps
pub fits_at : (t : Tables) (sources : List (List ℤ)) (g : Context) (r : Lists) (regs : ℕ → ℤ) (n m : ℕ) → Fits g (env_of t sources) (state_of t r regs n) → Fits g (env_of t sources) (state_of t r regs m)
fits_at t sources g r regs n m f = record { regs = f.regs; bufs = f.bufs; dims = f.dims }

pub sized_reg : (t : Tables) (sources : List (List ℤ)) (g : Context) (x : ℕ) (v : Bool) (k : CellKind) → Sized t sources g → Sized t sources (with_reg g x v k)
sized_reg t sources g x v k z = record { count = z.count; dims = z.dims; factors = z.factors; short = z.short; wide = z.wide }

pub sized_outer : (t : Tables) (sources : List (List ℤ)) (g : Context) (c : Code) → Sized t sources g → Sized t sources (outer g c)
sized_outer t sources g c z = record {
  count = outer_sources g c ∙ z.count;
  dims = z.dims;
  factors = z.factors;
  short = z.short;
  wide = λ b v h i.
      let same : (outer g c).bufs b ≡ g.bufs b = ap (λ (f : ℕ → Option BufKind). f b) (outer_bufs g c) in
      z.wide b v (sym (ap (λ (o : Option BufKind). is_some o) same) ∙ h) (subst (λ (o : Option BufKind). InKind (env_of t sources) (buf_cell o) v) same i);
}

pub ready_first : (t : Tables) (sources : List (List ℤ)) (r : Lists) (regs : ℕ → ℤ) (g : Context) (a b : Code) → Ready t sources r regs g (a +++ b) → Ready t sources r regs g a
ready_first t sources r regs g a b y = record { typed = (typed_parts g a b y.typed).0; terms = (terms_parts a b y.terms).0; fits = y.fits; stands = y.stands; sized = y.sized }

-- a block behind one that has run
pub ready_after : (t : Tables) (sources : List (List ℤ)) (r s : Lists) (regs us : ℕ → ℤ) (g : Context) (a b : Code) (n m : ℕ) → exec (env_of t sources) a (state_of t r regs n) ≡ state_of t s us m → Stands t sources s → Ready t sources r regs g (a +++ b) → Ready t sources s us (outer g a) b
ready_after t sources r s regs us g a b n m e st y =
    let p = typed_parts g a b y.typed in
    let done = sound (env_of t sources) g a (state_of t r regs n) p.0 (fits_at t sources g r regs 0 n y.fits) in
    record {
      typed = p.1;
      terms = (terms_parts a b y.terms).1;
      fits = fits_at t sources (outer g a) s us m 0 (subst (λ (u : State). Fits (outer g a) (env_of t sources) u) e done.fits);
      stands = st;
      sized = sized_outer t sources g a y.sized;
    }
