-- Lines that run one after the other.
use Rattle.std.proofs.Common.{◌≡◌, ℕ, ◌+◌, ◌<◌, ◌≤◌, Bool, true, false, cond, nat_lt, List, [], ◌∷◌, ◌++◌, take, drop, length, get_or, ℤ, pos, replicate, ◌*◌, refl, sym, ap, ◌∙◌, subst, arith, Ok, Err, take-append-drop}
use Rattle.std.proofs.lemmas.List.{take_more}
use Rattle.us_code.specs.declared.program.Make.{Make}
use Rattle.us_code.specs.Plain.{LineTree, Of, Product, Successor, PhaseTree}
use Rattle.us_code.specs.Run.{State, exec, put, size_of, value}
use Rattle.us_code.specs.Runs.{World, Ran, Went, Stuck, ◌>>=◌, within, make, line, whole, with_dim, make_all, line_all, after_body, begin, phase, phases}
use Rattle.us_code.specs.Runs as runs
use Rattle.us_machine.specs.declared.budget.Budget.{Budget}
use Rattle.us_machine.specs.declared.stop.RunStop.{RunStop}
use Rattle.us_machine.specs.declared.stop.RunStop.TheVariants.{TooLarge, OutOfSteps, Memory}
use Rattle.us_machine.specs.Phases.{Ends}
use Rattle.us_machine.proofs.Grow.{grows}

-- the steps of a run, which are no fewer than n
abbrev pub Later : ℕ → Ran → Type 0
Later n (Went w) = n ≤ w.steps
Later n (runs.TooLarge k) = n ≤ k
Later n Stuck = Unit {0}

pub later_bind : (n : ℕ) (r : Ran) (f : World → Ran) → Later n r → ((w : World) → Later w.steps (f w)) → Later n (r >>= f)
later_bind n (Went w) f h k = further (f w) (k w)
  where
    further : (q : Ran) → Later w.steps q → Later n q
    further (Went v) i = omega (arith, h, i)
    further (runs.TooLarge m) i = omega (arith, h, i)
    further Stuck i = tt
later_bind n (runs.TooLarge m) f h k = h
later_bind n Stuck f h k = tt

later_within : (n : ℕ) (old new : World) → Later old.steps (within n old new)
later_within n old new = case (nat_lt 67108865 n)
  where
    case : (b : Bool) → Later old.steps (cond b (runs.TooLarge (old.steps + 1)) (Went record { env = new.env; bufs = new.bufs; steps = old.steps + 1 }))
    case true = omega arith
    case false = omega arith

pub later_makes : (ms : List Make) (w : World) → Later w.steps (make_all ms w)
later_makes [] w = omega arith
later_makes (m ∷ ms) w = later_bind w.steps (make m w) (make_all ms) (later_within (size_of w.env m.len) w record { env = w.env; bufs = put w.bufs m.buf (replicate (size_of w.env m.len) (pos 0)); steps = w.steps }) (later_makes ms)

later_line : (regs : ℕ → ℤ) (l : LineTree) (w : World) → Later w.steps (line regs l w)
later_line regs (Of d e) w = later_within (whole (value w.env regs e)) w (with_dim d (whole (value w.env regs e)) 0 w)
later_line regs (Product d a b) w = later_within (size_of w.env a * size_of w.env b) w (with_dim d (size_of w.env a * size_of w.env b) (size_of w.env b) w)
later_line regs (Successor d a) w = later_within (size_of w.env a + 1) w (with_dim d (size_of w.env a + 1) 0 w)

pub later_lines : (regs : ℕ → ℤ) (ls : List LineTree) (w : World) → Later w.steps (line_all regs ls w)
later_lines regs [] w = omega arith
later_lines regs (l ∷ ls) w = later_bind w.steps (line regs l w) (line_all regs ls) (later_line regs l w) (later_lines regs ls)

later_body : (s : State) (ls : List LineTree) (w : World) (n : ℕ) → n ≤ s.steps → Later n (after_body s ls w)
later_body s ls w n h = case s.stuck
  where
    case : (b : Bool) → Later n (cond b Stuck (line_all s.regs ls record { env = w.env; bufs = s.bufs; steps = s.steps }))
    case true = tt
    case false = later_bind n (Went record { env = w.env; bufs = s.bufs; steps = s.steps }) (line_all s.regs ls) h (later_lines s.regs ls)

pub later_phase : (p : PhaseTree) (w : World) → Later w.steps (phase p w)
later_phase p w = later_bind w.steps (make_all p.makes w) (λ u. after_body (exec u.env p.body (begin u)) p.lines u) (later_makes p.makes w) (λ u. later_body (exec u.env p.body (begin u)) p.lines u u.steps (grows u.env p.body (begin u)))

pub later_after : (p : PhaseTree) (u : World) → Later u.steps (after_body (exec u.env p.body (begin u)) p.lines u)
later_after p u = later_body (exec u.env p.body (begin u)) p.lines u u.steps (grows u.env p.body (begin u))

pub later_phases : (ps : List PhaseTree) (w : World) → Later w.steps (phases ps w)
later_phases [] w = omega arith
later_phases (p ∷ ps) w = later_bind w.steps (phase p w) (phases ps) (later_phase p w) (later_phases ps)

-- a part that was answered by Ok has come to its end
pub ended : (b : Budget) (x : Unit {0}) (r : Ran) (P : World → Type 0) → Ends b (Ok x) r P → (w : World) × (r ≡ Went w) × P w
ended b x (Went w) P h = (w, refl, h)
ended b x (runs.TooLarge n) P h = absurd h
ended b x Stuck P h = absurd h

-- a part that was stopped stops the whole
pub stopped : (b : Budget) (e : RunStop) (r : Ran) (f : World → Ran) (P Q : World → Type 0) → Ends b (Err e) r P → ((w : World) → Later w.steps (f w)) → Ends b (Err e) (r >>= f) Q
stopped b TooLarge (Went w) f P Q h k = absurd h
stopped b TooLarge (runs.TooLarge n) f P Q h k = h
stopped b TooLarge Stuck f P Q h k = absurd h
stopped b Memory (Went w) f P Q h k = any (f w)
  where
    any : (q : Ran) → Ends b (Err Memory) q Q
    any (Went v) = tt
    any (runs.TooLarge n) = tt
    any Stuck = tt
stopped b Memory (runs.TooLarge n) f P Q h k = tt
stopped b Memory Stuck f P Q h k = tt
stopped b OutOfSteps (Went w) f P Q h k = further (f w) (k w)
  where
    further : (q : Ran) → Later w.steps q → Ends b (Err OutOfSteps) q Q
    further (Went v) i = record { bounded = h.bounded; over = omega (arith, i, h.over) }
    further (runs.TooLarge n) i = record { bounded = h.bounded; over = omega (arith, i, h.over) }
    further Stuck i = tt
stopped b OutOfSteps (runs.TooLarge n) f P Q h k = h
stopped b OutOfSteps Stuck f P Q h k = tt

pub no_room : (b : Budget) (e : RunStop) (r : Ran) (P : World → Type 0) → e ≡ Memory → Ends b (Err e) r P
no_room b e r P h = subst (λ (x : RunStop). Ends b (Err x) r P) (sym h) (any r)
  where
    any : (q : Ran) → Ends b (Err Memory) q P
    any (Went v) = tt
    any (runs.TooLarge n) = tt
    any Stuck = tt

bind_bind : (r : Ran) (f g : World → Ran) → (r >>= f) >>= g ≡ r >>= (λ w. f w >>= g)
bind_bind (Went w) f g = refl
bind_bind (runs.TooLarge n) f g = refl
bind_bind Stuck f g = refl

bind_same : (r : Ran) (f g : World → Ran) → ((w : World) → f w ≡ g w) → r >>= f ≡ r >>= g
bind_same (Went w) f g h = h w
bind_same (runs.TooLarge n) f g h = refl
bind_same Stuck f g h = refl

-- items, each of which is a step
module _ {X : Type 0} (all : List X → World → Ran) (step : X → World → Ran) (nil : (w : World) → all [] w ≡ Went w) (cons : (x : X) (xs : List X) (w : World) → all (x ∷ xs) w ≡ step x w >>= all xs) (later : (xs : List X) (w : World) → Later w.steps (all xs w)) where
  pub all_append : (xs ys : List X) (w : World) → all (xs ++ ys) w ≡ all xs w >>= all ys
  all_append [] ys w = sym (ap (λ (r : Ran). r >>= all ys) (nil w))
  all_append (x ∷ xs) ys w = cons x (xs ++ ys) w ∙ (bind_same (step x w) (all (xs ++ ys)) (λ u. all xs u >>= all ys) (all_append xs ys) ∙ (sym (bind_bind (step x w) (all xs) (all ys)) ∙ ap (λ (r : Ran). r >>= all ys) (sym (cons x xs w))))

  module _ (xs : List X) (i : ℕ) (x : X) (w u : World) (lt : i < length xs) (at : x ≡ get_or xs i x) (front : all (take i xs) w ≡ Went u) where
    one_is : take (i + 1) xs ≡ take i xs ++ x ∷ []
    one_is = take_more xs i x lt ∙ ap (λ (y : X). take i xs ++ y ∷ []) (sym at)

    pub all_more : all (take (i + 1) xs) w ≡ all (x ∷ []) u
    all_more = ap (λ (ys : List X). all ys w) one_is ∙ (all_append (take i xs) (x ∷ []) w ∙ ap (λ (r : Ran). r >>= all (x ∷ [])) front)

    pub all_stopped : (b : Budget) (e : RunStop) (P Q : World → Type 0) → Ends b (Err e) (all (x ∷ []) u) P → Ends b (Err e) (all xs w) Q
    all_stopped b e P Q h =
        let whole : all xs w ≡ all (x ∷ []) u >>= all (drop (i + 1) xs) =
        ap (λ (ys : List X). all ys w) (sym (take-append-drop (i + 1) xs)) ∙ (all_append (take (i + 1) xs) (drop (i + 1) xs) w ∙ ap (λ (r : Ran). r >>= all (drop (i + 1) xs)) all_more) in
        subst (λ (r : Ran). Ends b (Err e) r Q) (sym whole) (stopped b e (all (x ∷ []) u) (all (drop (i + 1) xs)) P Q h (later (drop (i + 1) xs)))
