-- What each statement needs and does.
use Rattle.std.proofs.Common.{◌≡◌, ℕ, ◌+◌, ◌-◌, ◌<◌, ◌^◌, Bool, true, false, List, ℤ, pos, negsuc, refl, sym, ap, ◌∙◌, subst, arith, Result, Ok, Err, Option, Some, None, zero-add, w64, FitsSigned, nat_lt, cond}
use Rattle.std.specs.Prelude.{OnOk, IfErr}
use Rattle.std.specs.Int.{cast_unsigned}
use Rattle.std.proofs.Math.Path.{fun_ext}
use Rattle.std.proofs.lemmas.Bool.Decides.{nat_tests}
use Rattle.us_raw.specs.Region.{Lists}
use Rattle.us_code.specs.declared.program.Dim.{Dim}
use Rattle.us_code.specs.declared.program.Dim.TheVariants as dim
use Rattle.us_code.specs.declared.program.CellKind.TheVariants as kind
use Rattle.us_code.specs.Plain.{TermTree, Code, End, For, Span, If, When}
use Rattle.us_code.specs.Run.{Env, State, put, exec, value, turns, set_reg, tick, size_of, place, test, entered}
use Rattle.us_code.specs.Typing.{Context, with_reg, kind_of}
use Rattle.us_code_laws.specs.Fits.{Fits}
use Rattle.us_code_laws.proofs.Sound.{EndsOk, spans_ok, value_ok, fits_reg}
use Rattle.us_code_laws.proofs.Rules.{statement_rules}
use Rattle.us_machine.specs.declared.stop.RunStop.{RunStop}
use Rattle.us_machine.specs.declared.stop.RunStop.TheVariants.{TooLarge, OutOfSteps, Memory}
use Rattle.us_machine.specs.declared.tables.Tables.{Tables}
use Rattle.us_machine.specs.Steps.{Shows}
use Rattle.us_machine.specs.Tables.{env_of, IsSized}
use Rattle.us_machine.specs.Walks.{Stands, Ready, Turning, Leads, state_of, turn_from}
use Rattle.us_machine.proofs.Readying.{dim_sized, sized_reg}

lt_of : (a b : ℕ) → nat_lt a b ≡ true → a < b
lt_of a b h = grind (arith, nat_tests)

module _ (t : Tables) (sources : List (List ℤ)) (r : Lists) (regs : ℕ → ℤ) where
  abbrev S : ℕ → State
  S n = state_of t r regs n

  -- a statement that sets a register
  pub assigned : (res : Result (Unit {0}) RunStop) (c : Code) (reg : ℕ) (v : ℤ) (us : ℕ → ℤ) (k n : ℕ) → exec (env_of t sources) c (S n) ≡ set_reg reg v (tick 1 (S n)) → OnOk res (us ≡ put regs reg v) → IfErr res (λ e. e ≡ Memory) → Shows t.budget k (n + 1) → Stands t sources r
      → Leads t sources res (exec (env_of t sources) c (S n)) r us k
  assigned (Ok x) c reg v us k n is ok mem h st = record { count = n + 1; is = is ∙ ap (λ (p : ℕ → ℤ). state_of t r p (n + 1)) (sym ok); shows = h; stands = st }
  assigned (Err Memory) c reg v us k n is ok mem h st = tt
  assigned (Err OutOfSteps) c reg v us k n is ok mem h st = absurd cc
  assigned (Err TooLarge) c reg v us k n is ok mem h st = absurd cc

  -- a statement that is run as another one
  pub ran_as : (res : Result (Unit {0}) RunStop) (c d : Code) (us : ℕ → ℤ) (k n : ℕ) → c ≡ d → OnOk res ((m : ℕ) → exec (env_of t sources) d (S m) ≡ state_of t r us (m + 1)) → IfErr res (λ e. e ≡ Memory) → Shows t.budget k (n + 1) → Stands t sources r
      → Leads t sources res (exec (env_of t sources) c (S n)) r us k
  ran_as (Ok x) c d us k n e ok mem h st = record { count = n + 1; is = ap (λ (b : Code). exec (env_of t sources) b (S n)) e ∙ ok n; shows = h; stands = st }
  ran_as (Err Memory) c d us k n e ok mem h st = tt
  ran_as (Err OutOfSteps) c d us k n e ok mem h st = absurd cc
  ran_as (Err TooLarge) c d us k n e ok mem h st = absurd cc

  -- what leads to a state leads to an equal one
  pub leads_as : (res : Result (Unit {0}) RunStop) (u v : State) (q : Lists) (us : ℕ → ℤ) (k : ℕ) → v ≡ u → Leads t sources res u q us k → Leads t sources res v q us k
  leads_as res u v q us k e l = subst (λ (w : State). Leads t sources res w q us k) (sym e) l

  from_zero : (env : Env) (reg : ℕ) (c : Code) → (λ (i : ℕ) (u : State). exec env c (set_reg reg (pos i) (tick 1 u))) ≡ turn_from env reg 0 c
  from_zero env reg c = fun_ext (λ i. fun_ext (λ u. ap (λ (j : ℕ). exec env c (set_reg reg (pos j) (tick 1 u))) (sym (zero-add i))))

  pub for_is : (reg : ℕ) (d : Dim) (c : Code) (end n : ℕ) → end ≡ size_of (env_of t sources) d → exec (env_of t sources) (For reg d c End) (S n) ≡ turns (end - 0) (turn_from (env_of t sources) reg 0 c) (S (n + 1))
  for_is reg d c end n e =
      let same : end - 0 ≡ size_of (env_of t sources) d = omega (arith, e) in
      ap (λ (f : ℕ → State → State). turns (size_of (env_of t sources) d) f (S (n + 1))) (from_zero (env_of t sources) reg c)
      ∙ ap (λ (j : ℕ). turns j (turn_from (env_of t sources) reg 0 c) (S (n + 1))) (sym same)

  pub span_is : (reg : ℕ) (a b : TermTree) (d : Dim) (c : Code) (x y n : ℕ) → value (env_of t sources) regs a ≡ pos x → value (env_of t sources) regs b ≡ pos y → exec (env_of t sources) (Span reg a b d c End) (S n) ≡ turns (y - x) (turn_from (env_of t sources) reg x c) (S (n + 1))
  span_is reg a b d c x y n e f = statement_rules.after_span (env_of t sources) reg a b d c End (S n) x y e f

  pub then_is : (l : TermTree) (eq : Bool) (q : TermTree) (body : Code) (given : Bool) (other : Code) (x y : ℤ) (b : Bool) (n : ℕ) → x ≡ value (env_of t sources) regs l → y ≡ value (env_of t sources) regs q → b ≡ test eq x y → b ≡ true
      → exec (env_of t sources) (If l eq q body given other End) (S n) ≡ exec (env_of t sources) body (S (n + 1))
  then_is l eq q body given other x y b n e f h k =
      statement_rules.after_if (env_of t sources) l eq q body given other End (S n) (ap (λ (z : ℤ). test eq z (value (env_of t sources) regs q)) (sym e) ∙ (ap (test eq x) (sym f) ∙ (sym h ∙ k)))

  pub else_is : (l : TermTree) (eq : Bool) (q : TermTree) (body : Code) (given : Bool) (other : Code) (x y : ℤ) (b : Bool) (n : ℕ) → x ≡ value (env_of t sources) regs l → y ≡ value (env_of t sources) regs q → b ≡ test eq x y → b ≡ false
      → exec (env_of t sources) (If l eq q body given other End) (S n) ≡ exec (env_of t sources) other (S (n + 1))
  else_is l eq q body given other x y b n e f h k =
      statement_rules.after_else (env_of t sources) l eq q body given other End (S n) (ap (λ (z : ℤ). test eq z (value (env_of t sources) regs q)) (sym e) ∙ (ap (test eq x) (sym f) ∙ (sym h ∙ k)))

  -- a place, found by the code
  pub placed : (v : ℤ) (n k : ℕ) → place v n ≡ Some k → (v ≡ pos k) × (k < n)
  placed (pos x) n k h = below (nat_lt x n) (lt_of x n) h
    where
      below : (b : Bool) → (b ≡ true → x < n) → cond b (Some x) None ≡ Some k → (pos x ≡ pos k) × (k < n)
      below true lt e = let same : x ≡ k = cc in (ap pos same, subst (λ (y : ℕ). y < n) same (lt refl))
      below false lt e = absurd cc
  placed (negsuc x) n k h = absurd cc

  pub when_is : (e : TermTree) (d : Dim) (reg : ℕ) (body : Code) (given : Bool) (other : Code) (v : ℤ) (bound k n : ℕ) (us : ℕ → ℤ) → v ≡ value (env_of t sources) regs e → bound ≡ size_of (env_of t sources) d → place v bound ≡ Some k → us ≡ put regs reg v
      → exec (env_of t sources) (When e d reg body given other End) (S n) ≡ exec (env_of t sources) body (state_of t r us (n + 1))
  when_is e d reg body given other v bound k n us is at found set =
      let p = placed v bound k found in
      statement_rules.after_when (env_of t sources) e d reg body given other End (S n) k (sym is ∙ p.0) (omega (arith, p.1, at))
      ∙ ap (λ (f : ℕ → ℤ). exec (env_of t sources) body (state_of t r f (n + 1))) (sym (set ∙ ap (put regs reg) p.0))

  pub when_not_is : (e : TermTree) (d : Dim) (reg : ℕ) (body : Code) (given : Bool) (other : Code) (v : ℤ) (bound n : ℕ) → v ≡ value (env_of t sources) regs e → bound ≡ size_of (env_of t sources) d → place v bound ≡ None
      → exec (env_of t sources) (When e d reg body given other End) (S n) ≡ exec (env_of t sources) other (S (n + 1))
  when_not_is e d reg body given other v bound n is at none =
      let f : place (value (env_of t sources) regs e) (size_of (env_of t sources) d) ≡ None = ap (λ (z : ℤ). place z (size_of (env_of t sources) d)) (sym is) ∙ (ap (place v) (sym at) ∙ none) in
      ap (λ (o : Option ℕ). entered o (λ k. exec (env_of t sources) body (set_reg reg (pos k) (tick 1 (S n)))) (exec (env_of t sources) other (tick 1 (S n)))) f

  module _ (g : Context) where
    pub for_turning : (reg : ℕ) (d : Dim) (c : Code) (end : ℕ) → Ready t sources r regs g (For reg d c End) → end ≡ size_of (env_of t sources) d → end < 2 ^ 63 → Turning t sources r regs g reg end c
    for_turning reg d c end y e small = record { below = d; within = omega (arith, e); small = small; fresh = y.typed.0; typed = y.typed.2; terms = y.terms.1; fits = y.fits; stands = y.stands; sized = y.sized }

    pub span_ends : (reg : ℕ) (a b : TermTree) (d : Dim) (c : Code) → Ready t sources r regs g (Span reg a b d c End) → EndsOk (env_of t sources) d (value (env_of t sources) regs a) (value (env_of t sources) regs b)
    span_ends reg a b d c y =
        spans_ok g (env_of t sources) (S 0) (kind_of g a) (kind_of g b) d (value (env_of t sources) regs a) (value (env_of t sources) regs b) y.fits y.typed.4 (value_ok g (env_of t sources) (S 0) a y.fits y.typed.2) (value_ok g (env_of t sources) (S 0) b y.fits y.typed.3)

    -- an end of a span, as the code has it
    pub end_is : (v w : ℤ) (x k : ℕ) → FitsSigned w64 v → v ≡ w → w ≡ pos k → x ≡ cast_unsigned w64 v → w ≡ pos x
    end_is v w x k fits e f h = f ∙ ap pos (sym (h ∙ ap (cast_unsigned w64) (e ∙ f)))

    size_small : (d : Dim) → IsSized t sources d → size_of (env_of t sources) d < 2 ^ 63
    size_small (dim.Number n) h = h
    size_small (dim.Name d) h = h
    size_small (dim.Len k) h = h.1

    pub span_turning : (reg : ℕ) (a b : TermTree) (d : Dim) (c : Code) (end : ℕ) → Ready t sources r regs g (Span reg a b d c End) → value (env_of t sources) regs b ≡ pos end → Turning t sources r regs g reg end c
    span_turning reg a b d c end y e =
        let p = span_ends reg a b d c y in
        let same : p.end ≡ end = let h : pos p.end ≡ pos end = sym p.end_is ∙ e in cc in
        let z = size_small d (dim_sized t sources g d y.sized y.terms.2 y.typed.1) in
        record { below = d; within = omega (arith, p.within, same); small = omega (arith, p.within, same, z); fresh = y.typed.0; typed = y.typed.5; terms = y.terms.3; fits = y.fits; stands = y.stands; sized = y.sized }

    pub then_ready : (l : TermTree) (eq : Bool) (q : TermTree) (body : Code) (given : Bool) (other : Code) → Ready t sources r regs g (If l eq q body given other End) → Ready t sources r regs g body
    then_ready l eq q body given other y = record { typed = y.typed.2; terms = y.terms.2; fits = y.fits; stands = y.stands; sized = y.sized }

    pub else_ready : (l : TermTree) (eq : Bool) (q : TermTree) (body : Code) (given : Bool) (other : Code) → Ready t sources r regs g (If l eq q body given other End) → Ready t sources r regs g other
    else_ready l eq q body given other y = record { typed = y.typed.3; terms = y.terms.3; fits = y.fits; stands = y.stands; sized = y.sized }

    pub when_ready : (e : TermTree) (d : Dim) (reg : ℕ) (body : Code) (given : Bool) (other : Code) (v : ℤ) (bound k : ℕ) (us : ℕ → ℤ) → Ready t sources r regs g (When e d reg body given other End) → bound ≡ size_of (env_of t sources) d → place v bound ≡ Some k → us ≡ put regs reg v
        → Ready t sources r us (with_reg g reg false (kind.Below d)) body
    when_ready e d reg body given other v bound k us y at found set =
        let p = placed v bound k found in
        let h = with_reg g reg false (kind.Below d) in
        let f = fits_reg g (env_of t sources) (S 0) reg false (kind.Below d) v (not_var, (k, p.0, omega (arith, p.1, at))) y.fits in
        record {
          typed = y.typed.3;
          terms = y.terms.2;
          fits = subst (λ (q : ℕ → ℤ). Fits h (env_of t sources) (state_of t r q 0)) (sym set) record { regs = f.regs; bufs = f.bufs; dims = f.dims };
          stands = y.stands;
          sized = sized_reg t sources g reg false (kind.Below d) y.sized;
        }
      where
        not_var : {P : Type 0} → false ≡ true → P
        not_var h = absurd cc

    pub when_not_ready : (e : TermTree) (d : Dim) (reg : ℕ) (body : Code) (given : Bool) (other : Code) → Ready t sources r regs g (When e d reg body given other End) → Ready t sources r regs g other
    when_not_ready e d reg body given other y = record { typed = y.typed.4; terms = y.terms.3; fits = y.fits; stands = y.stands; sized = y.sized }
