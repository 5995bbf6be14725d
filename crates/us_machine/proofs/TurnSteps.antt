-- A loop that runs turn by turn.
use Rattle.std.proofs.Common.{◌≡◌, ℕ, zero, suc, ◌+◌, ◌-◌, ◌<◌, ◌≤◌, true, false, List, ℤ, pos, refl, sym, ap, ◌∙◌, subst, arith, Err, add-one}
use Rattle.us_raw.specs.Region.{Lists}
use Rattle.us_code.specs.declared.program.CellKind.TheVariants as kind
use Rattle.us_code.specs.Plain.{Code}
use Rattle.us_code.specs.Run.{Env, State, put, exec, turns, set_reg, tick}
use Rattle.us_code.specs.Typing.{Context, with_reg, outer}
use Rattle.us_code_laws.specs.Fits.{Fits}
use Rattle.us_code_laws.proofs.Sound.{fits_reg, fits_less, outer_less, sound}
use Rattle.us_machine.specs.declared.stop.RunStop.{RunStop}
use Rattle.us_machine.specs.declared.stop.RunStop.TheVariants.{OutOfSteps}
use Rattle.us_machine.specs.declared.tables.Tables.{Tables}
use Rattle.us_machine.specs.Steps.{Shows, IsOver}
use Rattle.us_machine.specs.Tables.{env_of}
use Rattle.us_machine.specs.Walks.{Stands, Ready, Turning, Reaches, Leads, state_of, turn_from}
use Rattle.us_machine.proofs.Grow.{grows}
use Rattle.us_machine.proofs.Leading.{shows_self, worse, no_steps}
use Rattle.us_machine.proofs.Readying.{fits_at, sized_reg}

-- the turns up to one of them cost no more than all
turns_plus : (env : Env) (reg x : ℕ) (c : Code) (m k : ℕ) (s : State) → (turns m (turn_from env reg x c) s).steps ≤ (turns (m + k) (turn_from env reg x c) s).steps
turns_plus env reg x c m zero s =
    let e : m + 0 ≡ m = omega arith in
    subst (λ (j : ℕ). (turns m (turn_from env reg x c) s).steps ≤ (turns j (turn_from env reg x c) s).steps) (sym e) (omega arith)
turns_plus env reg x c m (suc k) s =
    let e : m + suc k ≡ suc (m + k) = omega arith in
    let u = turns (m + k) (turn_from env reg x c) s in
    subst (λ (j : ℕ). (turns m (turn_from env reg x c) s).steps ≤ (turns j (turn_from env reg x c) s).steps) (sym e)
    (omega (arith, turns_plus env reg x c m k s, grows env c (set_reg reg (pos (x + (m + k))) (tick 1 u))))

turns_less : (env : Env) (reg x : ℕ) (c : Code) (m n : ℕ) (s : State) → m ≤ n → (turns m (turn_from env reg x c) s).steps ≤ (turns n (turn_from env reg x c) s).steps
turns_less env reg x c m n s le =
    let e : m + (n - m) ≡ n = omega arith in
    subst (λ (j : ℕ). (turns m (turn_from env reg x c) s).steps ≤ (turns j (turn_from env reg x c) s).steps) e (turns_plus env reg x c m (n - m) s)

module _ (t : Tables) (sources : List (List ℤ)) (r : Lists) (regs : ℕ → ℤ) (steps : ℕ) (reg first end : ℕ) (c : Code) where
  abbrev S : ℕ → State
  S n = state_of t r regs n

  abbrev F : ℕ → State → State
  F = turn_from (env_of t sources) reg first c

  pub turns_begin : Stands t sources r → (n : ℕ) → Shows t.budget steps n → Reaches t sources (turns 0 F (S n)) r regs steps
  turns_begin st n h = record { count = n; is = refl; shows = h; stands = st }

  module _ (i : ℕ) (q : Lists) (us : ℕ → ℤ) (k : ℕ) (lt : i < end - first) (reached : (n : ℕ) → Shows t.budget steps n → Reaches t sources (turns i F (S n)) q us k) where
    -- the turn costs a step more than what was before it
    pub turn_charge_stops : (e : RunStop) (k' : ℕ) → e ≡ OutOfSteps → ((m : ℕ) → Shows t.budget k m → IsOver t.budget (m + 1)) → (n : ℕ) → Shows t.budget steps n → Leads t sources (Err e) (turns (end - first) F (S n)) q us k'
    turn_charge_stops e k' out o n h =
        let re = reached n h in
        let v = set_reg reg (pos (first + i)) (tick 1 (turns i F (S n))) in
        let later : (turns (suc i) F (S n)).steps ≤ (turns (end - first) F (S n)).steps = turns_less (env_of t sources) reg first c (suc i) (end - first) (S n) (omega arith) in
        no_steps t sources e (turns (end - first) F (S n)) q us k' out record {
          bounded = (o re.count re.shows).bounded;
          over = omega (arith, (o re.count re.shows).over, later, grows (env_of t sources) c v, ap (λ (u : State). u.steps) re.is);
        }

    module _ (k1 : ℕ) (us1 : ℕ → ℤ) (charged : (m : ℕ) → Shows t.budget k m → Shows t.budget k1 (m + 1)) (set : us1 ≡ put us reg (pos (first + i))) where
      -- the body's state
      body_from : (m : ℕ) → state_of t q us1 (m + 1) ≡ set_reg reg (pos (first + i)) (tick 1 (state_of t q us m))
      body_from m = ap (λ (p : ℕ → ℤ). state_of t q p (m + 1)) set

      pub body_ready : (g : Context) → Turning t sources q us g reg end c → (h : Context) × Ready t sources q us1 h c
      body_ready g y =
          let h = with_reg g reg false (kind.Below y.below) in
          let f = fits_reg g (env_of t sources) (state_of t q us 0) reg false (kind.Below y.below) (pos (first + i)) (not_var, (first + i, refl, omega (arith, lt, y.within))) y.fits in (
            h,
            record {
              typed = y.typed;
              terms = y.terms;
              fits = subst (λ (p : ℕ → ℤ). Fits h (env_of t sources) (state_of t q p 0)) (sym set) record { regs = f.regs; bufs = f.bufs; dims = f.dims };
              stands = y.stands;
              sized = sized_reg t sources g reg false (kind.Below y.below) y.sized;
            },
          )
        where
          not_var : {P : Type 0} → false ≡ true → P
          not_var h = absurd cc

      turn_is : (n : ℕ) (h : Shows t.budget steps n) → turns (suc i) F (S n) ≡ exec (env_of t sources) c (state_of t q us1 ((reached n h).count + 1))
      turn_is n h = ap (F i) (reached n h).is ∙ ap (exec (env_of t sources) c) (sym (body_from (reached n h).count))

      pub turn_stops : (e : RunStop) (q' : Lists) (us' : ℕ → ℤ) (k' : ℕ) → ((m : ℕ) → Shows t.budget k1 m → Leads t sources (Err e) (exec (env_of t sources) c (state_of t q us1 m)) q' us' k')
          → (n : ℕ) → Shows t.budget steps n → Leads t sources (Err e) (turns (end - first) F (S n)) q' us' k'
      turn_stops e q' us' k' l n h =
          let re = reached n h in
          let u = exec (env_of t sources) c (state_of t q us1 (re.count + 1)) in
          let later : (turns (suc i) F (S n)).steps ≤ (turns (end - first) F (S n)).steps = turns_less (env_of t sources) reg first c (suc i) (end - first) (S n) (omega arith) in
          worse t sources e u (turns (end - first) F (S n)) q' q' us' us' k' k' (omega (arith, later, ap (λ (v : State). v.steps) (turn_is n h))) (l (re.count + 1) (charged re.count re.shows))

      module _ (q' : Lists) (us' : ℕ → ℤ) (k' : ℕ) (l : (m : ℕ) → Shows t.budget k1 m → Reaches t sources (exec (env_of t sources) c (state_of t q us1 m)) q' us' k') where
        pub turns_more : (n : ℕ) → Shows t.budget steps n → Reaches t sources (turns (i + 1) F (S n)) q' us' k'
        turns_more n h =
            let re = reached n h in
            let d = l (re.count + 1) (charged re.count re.shows) in
            record { count = d.count; is = ap (λ (j : ℕ). turns j F (S n)) (add-one i) ∙ (turn_is n h ∙ d.is); shows = d.shows; stands = d.stands }

        pub still_turning : (g : Context) → Turning t sources q us g reg end c → Turning t sources q' us' g reg end c
        unfolding body_ready
        still_turning g y =
            let b = body_ready g y in
            let d = l k1 (shows_self t.budget k1) in
            let h = with_reg g reg false (kind.Below y.below) in
            let s = sound (env_of t sources) h c (state_of t q us1 k1) y.typed (fits_at t sources h q us1 0 k1 b.1.fits) in
            let f : Fits (outer h c) (env_of t sources) (state_of t q' us' d.count) = subst (λ (u : State). Fits (outer h c) (env_of t sources) u) d.is s.fits in
            record {
              below = y.below;
              within = y.within;
              small = y.small;
              fresh = y.fresh;
              typed = y.typed;
              terms = y.terms;
              fits = fits_at t sources g q' us' d.count 0 (fits_less g (env_of t sources) (state_of t q' us' d.count) reg false (kind.Below y.below) y.fresh (outer_less (env_of t sources) h c (state_of t q' us' d.count) y.typed f));
              stands = d.stands;
              sized = y.sized;
            }
