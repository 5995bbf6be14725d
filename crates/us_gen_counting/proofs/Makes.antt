-- New buffers whose numbers rise: what is visible behind them, and the zeros that they hold.
use Rattle.std.proofs.Common.{◌≡◌, ℕ, suc, ◌+◌, ◌<◌, ◌≤◌, Bool, true, false, cond, nat_lt, ◌||◌, refl, ap, ◌∙◌, subst, arith, List, [], ◌∷◌, length, replicate, pos, ℤ, Option, Some, None}
use Rattle.us_code.specs.declared.program.Dim.{Dim}
use Rattle.us_code.specs.declared.program.Dim.TheVariants as dim
use Rattle.us_code.specs.declared.program.CellKind.{CellKind}
use Rattle.us_code.specs.declared.program.CellKind.TheVariants as kind
use Rattle.us_code.specs.declared.program.Make.{Make}
use Rattle.us_code.specs.Run.{Env, size_of}
use Rattle.us_code.specs.Runs.{World, make_all}
use Rattle.us_code.specs.Typing.{Context, BufKind, Form, is_some, is_successor, same_dim, sees_dim, sees_cell, has_room, cell_has_room, with_buf, with_bufs, TypedMakes}
use Rattle.us_code_laws.proofs.Sequence.{put_same, put_other}
use Rattle.us_gen.specs.Goes.{Leads, made}
use Rattle.us_gen.proofs.Going.{leads_none, leads_weaker, new_leads}

-- the numbers rise from low on, and are below high
abbrev pub Rising : ℕ → List Make → Type 0
Rising low [] = Unit {0}
Rising low (m ∷ ms) = (low ≤ m.buf) × Rising (suc m.buf) ms

abbrev pub Under : ℕ → List Make → Type 0
Under high [] = Unit {0}
Under high (m ∷ ms) = (m.buf < high) × Under high ms

pub rising_lower : (low lower : ℕ) (ms : List Make) → lower ≤ low → Rising low ms → Rising lower ms
rising_lower low lower [] le r = tt
rising_lower low lower (m ∷ ms) le r = (omega (arith, le, r.0), r.1)

-- ---- what is visible

-- their lengths and the bounds of their cells are visible, and there is room for a 0
abbrev pub FitMakes : Context → List Make → Type 0
FitMakes g [] = Unit {0}
FitMakes g (m ∷ ms) = (sees_dim g m.len ≡ true) × (sees_cell g m.cell ≡ true) × (cell_has_room g m.cell m.len ≡ true) × FitMakes g ms

-- each buffer has its kind
abbrev pub Kinds : (ℕ → Option BufKind) → List Make → Type 0
Kinds bufs [] = Unit {0}
Kinds bufs (m ∷ ms) = (bufs m.buf ≡ Some record { len = m.len; cell = m.cell }) × Kinds bufs ms

-- behind them there are these buffers more
pub record Made (g : Context) (low high : ℕ) (ms : List Make) (h : Context) : Type 0 where
  pub regs : h.regs ≡ g.regs
  pub dims : h.dims ≡ g.dims
  pub sources : h.sources ≡ g.sources
  pub kinds : Kinds h.bufs ms
  pub below : (b : ℕ) → b < low → h.bufs b ≡ g.bufs b
  pub above : (b : ℕ) → high ≤ b → h.bufs b ≡ g.bufs b

module _ (g h : Context) (ds : h.dims ≡ g.dims) (ss : h.sources ≡ g.sources) where
  pub dim_as : (d : Dim) → sees_dim g d ≡ true → sees_dim h d ≡ true
  dim_as (dim.Number n) s = refl
  dim_as (dim.Name d) s = ap (λ (f : ℕ → Option Form). is_some (f d)) ds ∙ s
  dim_as (dim.Len k) s = ap (λ (x : ℕ). nat_lt k x) ss ∙ s

  cell_as : (c : CellKind) → sees_cell g c ≡ true → sees_cell h c ≡ true
  cell_as kind.Word s = refl
  cell_as (kind.Below d) s = dim_as d s

  room_as : (d len : Dim) → has_room g d len ≡ true → has_room h d len ≡ true
  room_as (dim.Number n) len s = s
  room_as (dim.Name d) len s = ap (λ (f : ℕ → Option Form). is_successor (f d) || same_dim (dim.Name d) len) ds ∙ s
  room_as (dim.Len k) len s = s

  cell_room_as : (c : CellKind) (len : Dim) → cell_has_room g c len ≡ true → cell_has_room h c len ≡ true
  cell_room_as kind.Word len s = refl
  cell_room_as (kind.Below d) len s = room_as d len s

  fit_as : (ms : List Make) → FitMakes g ms → FitMakes h ms
  fit_as [] f = tt
  fit_as (m ∷ ms) f = (dim_as m.len f.0, cell_as m.cell f.1, cell_room_as m.cell m.len f.2, fit_as ms f.3)

pub makes_fit : (g : Context) (low high : ℕ) (ms : List Make) → Rising low ms → Under high ms → ((b : ℕ) → low ≤ b → g.bufs b ≡ None) → FitMakes g ms → TypedMakes g ms × Made g low high ms (with_bufs g ms)
makes_fit g low high [] r u free f = (tt, record { regs = refl; dims = refl; sources = refl; kinds = tt; below = λ b lt. refl; above = λ b le. refl })
makes_fit g low high (m ∷ ms) r u free f =
    let g1 = with_buf g m in
    let k : Option BufKind = Some record { len = m.len; cell = m.cell } in
    let later : (b : ℕ) → suc m.buf ≤ b → g1.bufs b ≡ None = λ b le. put_other g.bufs m.buf k b (omega (arith, le)) ∙ free b (omega (arith, le, r.0)) in
    let t = makes_fit g1 (suc m.buf) high ms r.1 u.1 later (fit_as g g1 refl refl ms f.3) in
    let x : Made g1 (suc m.buf) high ms (with_bufs g1 ms) = t.1 in (
      (free m.buf r.0, f.0, f.1, f.2, t.0),
      record {
        regs = x.regs;
        dims = x.dims;
        sources = x.sources;
        kinds = (x.below m.buf (omega arith) ∙ put_same g.bufs m.buf k, x.kinds);
        below = λ b lt. x.below b (omega (arith, lt, r.0)) ∙ put_other g.bufs m.buf k b (omega (arith, lt, r.0));
        above = λ b le. x.above b le ∙ put_other g.bufs m.buf k b (omega (arith, le, u.0));
      },
    )

-- ---- what they hold

-- their lengths are within the limit
abbrev pub Small : Env → List Make → Type 0
Small env [] = Unit {0}
Small env (m ∷ ms) = (size_of env m.len ≤ 67108865) × Small env ms

-- each is a list of zeros
abbrev pub Zeros : Env → (ℕ → List ℤ) → List Make → Type 0
Zeros env bufs [] = Unit {0}
Zeros env bufs (m ∷ ms) = (bufs m.buf ≡ replicate (size_of env m.len) (pos 0)) × Zeros env bufs ms

pub record Zeroed (low : ℕ) (ms : List Make) (w u : World) : Type 0 where
  pub env : u.env ≡ w.env
  pub zeros : Zeros w.env u.bufs ms
  pub below : (b : ℕ) → b < low → u.bufs b ≡ w.bufs b

pub makes_zero : (first low : ℕ) (ms : List Make) (w : World) → first ≤ low → Rising low ms → Small w.env ms → Leads first (length ms) w (make_all ms w) (Zeroed low ms w)
makes_zero first low [] w le r s = leads_none first w (Zeroed low [] w) record { env = refl; zeros = tt; below = λ b lt. refl }
makes_zero first low (m ∷ ms) w le r s =
    let w1 = made m w in
    let zs : List ℤ = replicate (size_of w.env m.len) (pos 0) in
    let more : Leads first (length ms) w1 (make_all ms w1) (Zeroed (suc m.buf) ms w1) = makes_zero first (suc m.buf) ms w1 (omega (arith, le, r.0)) r.1 s.1 in
    let all : Leads first (length ms) w1 (make_all ms w1) (Zeroed low (m ∷ ms) w)
    = leads_weaker first (length ms) w1 (make_all ms w1) (Zeroed (suc m.buf) ms w1) (Zeroed low (m ∷ ms) w)
    (λ u z k. record {
      env = z.env;
      zeros = (z.below m.buf (omega arith) ∙ put_same w.bufs m.buf zs, z.zeros);
      below = λ b lt. z.below b (omega (arith, lt, r.0)) ∙ put_other w.bufs m.buf zs b (omega (arith, lt, r.0));
    }) more in
    let cost : length ms + 1 ≡ suc (length ms) = omega arith in
    subst (λ (n : ℕ). Leads first n w (make_all (m ∷ ms) w) (Zeroed low (m ∷ ms) w)) cost (new_leads first (length ms) m ms w (Zeroed low (m ∷ ms) w) (omega (arith, le, r.0)) s.0 all)

-- ---- a first buffer that is made only in one case

module _ (m : Make) (ms : List Make) where
  pub rising_if : (b : Bool) (low : ℕ) → low ≤ m.buf → Rising (suc m.buf) ms → Rising low (cond b ms (m ∷ ms))
  rising_if true low le r = rising_lower (suc m.buf) low ms (omega (arith, le)) r
  rising_if false low le r = (le, r)

  pub under_if : (b : Bool) (high : ℕ) → m.buf < high → Under high ms → Under high (cond b ms (m ∷ ms))
  under_if true high lt u = u
  under_if false high lt u = (lt, u)

  pub fit_if : (b : Bool) (g : Context) → FitMakes g (m ∷ ms) → FitMakes g (cond b ms (m ∷ ms))
  fit_if true g f = f.3
  fit_if false g f = f

  pub small_if : (b : Bool) (env : Env) → Small env (m ∷ ms) → Small env (cond b ms (m ∷ ms))
  small_if true env s = s.1
  small_if false env s = s

  pub kinds_if : (b : Bool) (bufs : ℕ → Option BufKind) → Kinds bufs (cond b ms (m ∷ ms)) → Kinds bufs ms
  kinds_if true bufs k = k
  kinds_if false bufs k = k.1

  pub kind_if : (b : Bool) (bufs : ℕ → Option BufKind) → b ≡ false → Kinds bufs (cond b ms (m ∷ ms)) → bufs m.buf ≡ Some record { len = m.len; cell = m.cell }
  kind_if true bufs e k = absurd cc
  kind_if false bufs e k = k.0

  pub zeros_if : (b : Bool) (env : Env) (bufs : ℕ → List ℤ) → Zeros env bufs (cond b ms (m ∷ ms)) → Zeros env bufs ms
  zeros_if true env bufs z = z
  zeros_if false env bufs z = z.1

  pub zero_if : (b : Bool) (env : Env) (bufs : ℕ → List ℤ) → b ≡ false → Zeros env bufs (cond b ms (m ∷ ms)) → bufs m.buf ≡ replicate (size_of env m.len) (pos 0)
  zero_if true env bufs e z = absurd cc
  zero_if false env bufs e z = z.0

  pub length_if : (b : Bool) → length (cond b ms (m ∷ ms)) ≤ suc (length ms)
  length_if true = omega arith
  length_if false = omega arith
