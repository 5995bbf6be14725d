-- The phase keeps the rules.
use Rattle.std.proofs.Common.{◌≡◌, ℕ, ◌+◌, ◌*◌, ◌<◌, ◌≤◌, true, false, refl, ap, ap₂, ◌∙◌, arith, List, [], ◌∷◌, length, pos, negsuc, ℤ, Option, Some, None}
use Rattle.us_code.specs.declared.program.Dim.TheVariants as dim
use Rattle.us_code.specs.declared.program.CellKind.TheVariants as kind
use Rattle.us_code.specs.declared.pieces.Columns.{Columns}
use Rattle.us_code.specs.Plain.{◌+++◌}
use Rattle.us_code.specs.Typing.{Context, after_phases, Form, RegKind, BufKind, Typed, with_reg, fits, fits_cell, fine, kind_of, is_some, reg_kind, buf_len, buf_cell}
use Rattle.us_code_laws.proofs.Sequence.{put_same, put_other}
use Rattle.us_code_laws.proofs.Sound.{both_true}
use Rattle.us_code_laws.proofs.Typings.{typed_append}
use Rattle.us_expr.specs.Tree.{Tree}
use Rattle.us_gen.specs.Rooms.{FreshFrom}
use Rattle.us_gen_query.specs.Filling.{column, width, fill, Visible}
use Rattle.us_gen_query.specs.Filling as filling
use Rattle.us_gen_query.proofs.FillsFit.{fill_typed, fits_same}
use Rattle.us_gen_counting.proofs.Makes.{Under, FitMakes, Kinds, Made}
use Rattle.us_gen_counting.proofs.PhaseFits.{PhaseFits, seen_below, phase_fits}
use Rattle.us_gen_coordinates.specs.Phase.{given, or_new, columns_for, lowered, lower, made_for, filled_for, makes, body, coordinates_phase}
use Rattle.us_gen_coordinates.specs.Laws.{AreLevels, SeesWords, CoordinatesTyped}
use Rattle.us_gen_coordinates.proofs.Filled.{given_seen}
use Rattle.us_gen_coordinates.proofs.Leading.{rising_makes}

-- ---- the loop by which the cells become less

lowered_fine : (g : Context) (r : ℕ) (low : ℤ) → is_some (g.regs r) ≡ true → fine g (lowered r low) ≡ true
lowered_fine g r (pos k) h = both_true (is_some (g.regs r)) true h refl
lowered_fine g r (negsuc k) h = both_true (is_some (g.regs r)) true h refl

lower_typed : (g : Context) (cs : Columns) (low : ℤ) (b n : ℕ) → FreshFrom g n → is_some (g.dims cs.count) ≡ true → g.bufs b ≡ Some (filling.words cs) → Typed g (lower cs low b n)
lower_typed g cs low b n f count here =
    let d = dim.Name cs.count in
    let g1 = with_reg g n false (kind.Below d) in
    let g2 = with_reg g1 (n + 1) false (buf_cell (g.bufs b)) in
    let turn : Option RegKind = Some record { is_var = false; kind = kind.Below d } in
    let at1 : g1.regs n ≡ turn = put_same g.regs n turn in
    let at2 : g2.regs n ≡ turn = put_other g1.regs (n + 1) _ n (omega arith) ∙ at1 in
    let within : (h : Context) → h.regs n ≡ turn → h.bufs b ≡ Some (filling.words cs) → fits (reg_kind (h.regs n)) (buf_len (h.bufs b)) ≡ true =
    λ h p q. ap₂ (λ (r : Option RegKind) (z : Option BufKind). fits (reg_kind r) (buf_len z)) p q ∙ fits_same d in (
      f.none n (omega arith),
      count,
      (
        put_other g.regs n turn (n + 1) (omega arith) ∙ f.none (n + 1) (omega arith),
        ap is_some here,
        ap is_some at1,
        within g1 at1 here,
        (
          refl,
          ap is_some here,
          ap is_some at2,
          lowered_fine g2 (n + 1) low (ap is_some (put_same g1.regs (n + 1) _)),
          within g2 at2 here,
          ap (λ (z : Option BufKind). fits_cell (kind_of g2 (lowered (n + 1) low)) (buf_cell z)) here,
          tt,
        ),
      ),
      tt,
    )

-- ---- all levels

body_typed : (g : Context) (cs : Columns) (es : List Tree) (lows : List ℤ) (n : ℕ) → FreshFrom g 0 → Visible g cs → AreLevels cs es lows → Kinds g.bufs (makes cs es lows n) → Typed g (body cs es lows n)
body_typed g cs [] lows n f v ls k = tt
body_typed g cs (e ∷ es) [] n f v ls k = tt
body_typed g cs (e ∷ es) (low ∷ lows) n f v ls k = go (given cs e low) k (λ r. body_typed g cs es lows (n + 40) f v ls.2 r)
  where
    fresh : (x : ℕ) → FreshFrom g x
    fresh x = record { none = λ y ly. f.none y (omega arith) }

    go : (o : Option ℕ) → Kinds g.bufs (made_for o cs n (makes cs es lows (n + 40))) → (Kinds g.bufs (makes cs es lows (n + 40)) → Typed g (body cs es lows (n + 40))) → Typed g (filled_for o cs e low n (body cs es lows (n + 40)))
    go (Some c) r more = more r
    go None r more =
        typed_append g (fill cs e n (n + 1)) (lower cs low n (n + 37) +++ body cs es lows (n + 40)) (fill_typed g cs e n (n + 1) (fresh (n + 1)) v r.0 ls.0)
        (typed_append g (lower cs low n (n + 37)) (body cs es lows (n + 40)) (lower_typed g cs low n (n + 37) (fresh (n + 37)) v.count r.0) (more r.1))

under_makes : (cs : Columns) (es : List Tree) (lows : List ℤ) (n high : ℕ) → n + 40 * length es ≤ high → Under high (makes cs es lows n)
under_makes cs [] lows n high le = tt
under_makes cs (e ∷ es) [] n high le = tt
under_makes cs (e ∷ es) (low ∷ lows) n high le = go (given cs e low) (under_makes cs es lows (n + 40) high (omega (arith, le)))
  where
    go : (o : Option ℕ) → Under high (makes cs es lows (n + 40)) → Under high (made_for o cs n (makes cs es lows (n + 40)))
    go None u = (omega (arith, le), u)
    go (Some c) u = u

fit_makes : (g : Context) (cs : Columns) (es : List Tree) (lows : List ℤ) (n : ℕ) → is_some (g.dims cs.count) ≡ true → FitMakes g (makes cs es lows n)
fit_makes g cs [] lows n count = tt
fit_makes g cs (e ∷ es) [] n count = tt
fit_makes g cs (e ∷ es) (low ∷ lows) n count = go (given cs e low) (fit_makes g cs es lows (n + 40) count)
  where
    go : (o : Option ℕ) → FitMakes g (makes cs es lows (n + 40)) → FitMakes g (made_for o cs n (makes cs es lows (n + 40)))
    go None f = (count, refl, refl, f)
    go (Some c) f = f

-- the columns of the levels have their kind
levels_seen : (bufs : ℕ → Option BufKind) (cs : Columns) (es : List Tree) (lows : List ℤ) (n : ℕ) → ((k : ℕ) → k < width cs → bufs (column cs k) ≡ Some (filling.words cs)) → AreLevels cs es lows → Kinds bufs (makes cs es lows n) → SeesWords bufs cs (columns_for cs es lows n)
levels_seen bufs cs [] lows n seen ls k = tt
levels_seen bufs cs (e ∷ es) [] n seen ls k = absurd ls
levels_seen bufs cs (e ∷ es) (low ∷ lows) n seen ls k = go (given cs e low) refl k (λ r. levels_seen bufs cs es lows (n + 40) seen ls.2 r)
  where
    go : (o : Option ℕ) → given cs e low ≡ o → Kinds bufs (made_for o cs n (makes cs es lows (n + 40))) → (Kinds bufs (makes cs es lows (n + 40)) → SeesWords bufs cs (columns_for cs es lows (n + 40)))
        → (bufs (or_new (given cs e low) n) ≡ Some (filling.words cs)) × SeesWords bufs cs (columns_for cs es lows (n + 40))
    go None q r more = (ap (λ (o : Option ℕ). bufs (or_new o n)) q ∙ r.0, more r.1)
    go (Some c) q r more = (ap (λ (o : Option ℕ). bufs (or_new o n)) q ∙ given_seen bufs cs e low c seen ls.0 q, more r)

pub coordinates_typed : CoordinatesTyped
coordinates_typed g cs es lows n room v ls =
    let fits : PhaseFits g (makes cs es lows n) (coordinates_phase cs es lows n) n (n + 40 * length es)
    = phase_fits g (makes cs es lows n) (body cs es lows n) n (n + 40 * length es) room (omega arith) (rising_makes cs es lows n) (under_makes cs es lows n (n + 40 * length es) (omega arith)) (fit_makes g cs es lows n v.count)
    (λ h x fresh. body_typed h cs es lows n fresh (seen h x) ls x.kinds) in (
      fits.fit,
      levels_seen (after_phases g (coordinates_phase cs es lows n ∷ [])).bufs cs es lows n (λ c lc. fits.fit.more.bufs (column cs c) (seen_below g n (column cs c) (filling.words cs) room (v.columns c lc)) ∙ v.columns c lc) ls fits.kinds,
    )
  where
    seen : (h : Context) → Made g n (n + 40 * length es) (makes cs es lows n) h → Visible h cs
    seen h x = record {
      count = ap (λ (f : ℕ → Option Form). is_some (f cs.count)) x.dims ∙ v.count;
      columns = λ c lc. x.below (column cs c) (seen_below g n (column cs c) (filling.words cs) room (v.columns c lc)) ∙ v.columns c lc;
    }
