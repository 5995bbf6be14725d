-- The phase leaves the coordinates.
use Rattle.std.proofs.Common.{◌≡◌, ℕ, suc, ◌+◌, ◌*◌, ◌≤◌, refl, sym, ap, ◌∙◌, subst, arith, List, [], ◌∷◌, length, pos, ℤ, Option, Some, None}
use Rattle.std.proofs.lemmas.List.{length-replicate}
use Rattle.us_code.specs.declared.pieces.Columns.{Columns}
use Rattle.us_code.specs.Run.{Env}
use Rattle.us_code.specs.Runs.{begin}
use Rattle.us_code_laws.proofs.Does.{do_weaker}
use Rattle.us_expr.specs.Tree.{Tree}
use Rattle.us_gen_query.specs.Filling.{column, Entries}
use Rattle.us_gen_counting.proofs.Makes.{Rising, Small, Zeros, rising_lower}
use Rattle.us_gen_counting.proofs.PhaseRuns.{Leaves, phase_leaves}
use Rattle.us_gen_coordinates.specs.Phase.{given, made_for, makes, body}
use Rattle.us_gen_coordinates.specs.Laws.{HoldCoordinates, CoordinatesLead}
use Rattle.us_gen_coordinates.proofs.Filled.{NewLong, LevelsFilled, entries_stay, body_does}

few_makes : (cs : Columns) (es : List Tree) (lows : List ℤ) (n : ℕ) → length (makes cs es lows n) ≤ length es
few_makes cs [] lows n = omega arith
few_makes cs (e ∷ es) [] n = omega arith
few_makes cs (e ∷ es) (low ∷ lows) n = go (given cs e low) (few_makes cs es lows (n + 40))
  where
    go : (o : Option ℕ) → length (makes cs es lows (n + 40)) ≤ length es → length (made_for o cs n (makes cs es lows (n + 40))) ≤ length (e ∷ es)
    go None le = omega (arith, le)
    go (Some c) le = omega (arith, le)

pub rising_makes : (cs : Columns) (es : List Tree) (lows : List ℤ) (n : ℕ) → Rising n (makes cs es lows n)
rising_makes cs [] lows n = tt
rising_makes cs (e ∷ es) [] n = tt
rising_makes cs (e ∷ es) (low ∷ lows) n = go (given cs e low) (rising_makes cs es lows (n + 40))
  where
    go : (o : Option ℕ) → Rising (n + 40) (makes cs es lows (n + 40)) → Rising n (made_for o cs n (makes cs es lows (n + 40)))
    go None r = (omega arith, rising_lower (n + 40) (suc n) (makes cs es lows (n + 40)) (omega arith) r)
    go (Some c) r = rising_lower (n + 40) n (makes cs es lows (n + 40)) (omega arith) r

small_makes : (env : Env) (cs : Columns) (es : List Tree) (lows : List ℤ) (n : ℕ) → env.dims cs.count ≤ 67108865 → Small env (makes cs es lows n)
small_makes env cs [] lows n le = tt
small_makes env cs (e ∷ es) [] n le = tt
small_makes env cs (e ∷ es) (low ∷ lows) n le = go (given cs e low) (small_makes env cs es lows (n + 40) le)
  where
    go : (o : Option ℕ) → Small env (makes cs es lows (n + 40)) → Small env (made_for o cs n (makes cs es lows (n + 40)))
    go None s = (le, s)
    go (Some c) s = s

new_long : (env : Env) (bufs : ℕ → List ℤ) (cs : Columns) (es : List Tree) (lows : List ℤ) (n m : ℕ) → env.dims cs.count ≡ m → Zeros env bufs (makes cs es lows n) → NewLong bufs cs es lows n m
new_long env bufs cs [] lows n m count z = tt
new_long env bufs cs (e ∷ es) [] n m count z = tt
new_long env bufs cs (e ∷ es) (low ∷ lows) n m count z = go (given cs e low) refl z (λ y. new_long env bufs cs es lows (n + 40) m count y)
  where
    go : (o : Option ℕ) → given cs e low ≡ o → Zeros env bufs (made_for o cs n (makes cs es lows (n + 40))) → (Zeros env bufs (makes cs es lows (n + 40)) → NewLong bufs cs es lows (n + 40) m)
        → (given cs e low ≡ None → length (bufs n) ≡ m) × NewLong bufs cs es lows (n + 40) m
    go None q y more = (λ h. ap (λ (xs : List ℤ). length xs) y.0 ∙ (length-replicate (env.dims cs.count) (pos 0) ∙ count), more y.1)
    go (Some c) q y more = (λ h. let w : Some c ≡ None = sym q ∙ h in absurd cc, more y)

pub coordinates_lead : CoordinatesLead
coordinates_lead w cs es lows n m row col vars rest en few below ls at =
    phase_leaves n (length es) (length es * (2 + 21 * m)) (makes cs es lows n) (body cs es lows n) w (λ bufs. HoldCoordinates bufs cs es lows n m rest) (few_makes cs es lows n) (rising_makes cs es lows n)
    (small_makes w.env cs es lows n (omega (arith, few, en.count)))
    (λ u z keeps.
    let here : Entries u.env cs u.bufs m row col vars =
    subst (λ (env : Env). Entries env cs u.bufs m row col vars) (sym z.env) (entries_stay w.env cs w.bufs u.bufs m row col vars (λ c lc. z.below (column cs c) (below c lc)) en) in
    do_weaker u.env (body cs es lows n) (begin u) (LevelsFilled cs es lows n m rest (begin u)) (Leaves n (length es * (2 + 21 * m)) (λ bufs. HoldCoordinates bufs cs es lows n m rest) (begin u))
    (λ v f. record { holds = f.held; below = f.others; steps = f.steps })
    (body_does u.env cs m row col vars n below es lows n rest (begin u) here (omega arith) ls at (new_long w.env u.bufs cs es lows n m en.count z.zeros)))
