-- The code of a plan's steps keeps the limits.
use Rattle.std.proofs.Common.{◌≡◌, ℕ, zero, suc, ◌+◌, ◌*◌, ◌^◌, ◌<◌, ◌≤◌, Bool, true, false, cond, eqb, List, [], ◌∷◌, ◌++◌, length, ℤ, pos, negsuc, refl, arith}
use Rattle.us_code.specs.declared.program.Dim.{Dim}
use Rattle.us_code.specs.Plain.{TermTree, Number, Reg, Add, Code}
use Rattle.us_code.specs.Limits.{FitsDim}
use Rattle.us_limits.specs.Small.{SmallTerm, Small}
use Rattle.us_limits.specs.Orders.{has_order}
use Rattle.us_limits.proofs.Terms.{term-fits, term-looser, number-small, register-small, sum-small, difference-small, product-small, quotient-small, remainder-small, size-small}
use Rattle.us_limits.proofs.Blocks.{block-looser, let-small}
use Rattle.us_limits.proofs.Nests.{cell-small}
use Rattle.us_invert.specs.declared.steps.PlanStep.{PlanStep}
use Rattle.us_invert.specs.declared.steps.PlanStep.TheVariants as plan
use Rattle.us_gen_recover.specs.declared.places.Coordinate.{Coordinate}
use Rattle.us_gen_recover.specs.declared.places.Table.{Table}
use Rattle.us_gen_recover.specs.Recovery.{coordinate, table, shifted, names, names_in, step_term, terms, operand, term_at, place_in, WorkTree, Nothing, Value, Cell, work, in_front, recovery}
use Rattle.us_listing_limits.specs.Fitting.{FitsLow, FitTables, FitsStep, FitSteps, reads, reads_in}

-- ---- lists of small terms

abbrev pub AllSmall : List TermTree → Type 0
AllSmall [] = Unit {0}
AllSmall (t ∷ ts) = SmallTerm 3 t × AllSmall ts

pub one-more : (known : List TermTree) (t : TermTree) → AllSmall known → SmallTerm 3 t → AllSmall (known ++ t ∷ [])
one-more [] t h s = (s, tt)
one-more (x ∷ known) t h s = (h.0, one-more known t h.1 s)

pub operand-small : (known : List TermTree) (k : ℕ) → AllSmall known → SmallTerm 3 (operand known k)
operand-small [] k h = term-looser (omega arith) (number-small (omega arith))
operand-small (t ∷ known) zero h = h.0
operand-small (t ∷ known) (suc k) h = operand-small known k h.1

-- ---- the terms of steps

abbrev pub LowFit : List Coordinate → Type 0
LowFit [] = Unit {0}
LowFit (x ∷ xs) = FitsLow x.low × LowFit xs

low-fits : (levels : List Coordinate) (k : ℕ) → LowFit levels → FitsLow (coordinate levels k).low
low-fits [] k h = omega arith
low-fits (x ∷ levels) zero h = h.0
low-fits (x ∷ levels) (suc k) h = low-fits levels k h.1

shifted-small : (r : ℕ) (low : ℤ) → FitsLow low → SmallTerm 3 (shifted r low)
shifted-small r (pos k) h = either (eqb k 0)
  where
    either : (origin : Bool) → SmallTerm 3 (cond origin (Reg r) (Add (Reg r) (Number k)))
    either true = term-looser (omega arith) register-small
    either false = sum-small register-small (number-small h)
shifted-small r (negsuc k) h = difference-small register-small (number-small h)

step-small : (levels : List Coordinate) (x : PlanStep) (n : ℕ) → LowFit levels → FitsStep x → SmallTerm 3 (step_term levels x n)
step-small levels (plan.Const c) n low h = term-looser (omega arith) (number-small h)
step-small levels (plan.Level k) n low h = shifted-small (coordinate levels k).reg (coordinate levels k).low (low-fits levels k low)
step-small levels (plan.Add a b) n low h = term-looser (omega arith) register-small
step-small levels (plan.Sub a b) n low h = term-looser (omega arith) register-small
step-small levels (plan.Join q r k) n low h = term-looser (omega arith) register-small
step-small levels (plan.Div a k) n low h = term-looser (omega arith) register-small
step-small levels (plan.Rem a k) n low h = term-looser (omega arith) register-small
step-small levels (plan.Order q v) n low h = term-looser (omega arith) register-small
step-small levels (plan.Rows q l t) n low h = difference-small register-small (number-small (omega arith))

terms-small : (levels : List Coordinate) (steps : List PlanStep) (n : ℕ) → LowFit levels → FitSteps steps → AllSmall (terms levels steps n)
terms-small levels [] n low h = tt
terms-small levels (x ∷ steps) n low h = (step-small levels x n low h.0, terms-small levels steps (n + names x) low h.1)

pub term_at-small : (levels : List Coordinate) (steps : List PlanStep) (n k : ℕ) → LowFit levels → FitSteps steps → SmallTerm 3 (term_at levels steps n k)
term_at-small levels steps n k low h = operand-small (terms levels steps n) k (terms-small levels steps n low h)

-- ---- their work

source-fits : (tables : List Table) (q : ℕ) → FitTables tables → (table tables q).source < 2 ^ 32
source-fits [] q h = omega arith
source-fits (t ∷ tables) zero h = h.0
source-fits (t ∷ tables) (suc q) h = source-fits tables q h.2

extent-fits : (tables : List Table) (q : ℕ) → FitTables tables → FitsDim (table tables q).extent
extent-fits [] q h = omega arith
extent-fits (t ∷ tables) zero h = h.1
extent-fits (t ∷ tables) (suc q) h = extent-fits tables q h.2

place-small : (known : List TermTree) (extent : Dim) (l t : ℕ) → AllSmall known → FitsDim extent → SmallTerm 9 (place_in known extent l t)
place-small known extent l t h f = term-looser (omega arith) (sum-small (product-small (operand-small known l h) (size-small extent f)) (operand-small known t h))

front-small : {m d : ℕ} (tables : List Table) (x : PlanStep) (known : List TermTree) (n : ℕ) {rest : Code} → FitTables tables → FitsStep x → AllSmall known → 1 ≤ d → Small m d rest
    → Small (names x + m) (reads x + d) (in_front (work tables x known) n rest)
front-small tables (plan.Const c) known n f s h deep t = block-looser (omega arith) (omega arith) t
front-small tables (plan.Level k) known n f s h deep t = block-looser (omega arith) (omega arith) t
front-small tables (plan.Add a b) known n f s h deep t =
    block-looser (omega arith) (omega arith) (let-small (term-fits {n = 7} (omega arith) (sum-small (operand-small known a h) (operand-small known b h))) t)
front-small tables (plan.Sub a b) known n f s h deep t =
    block-looser (omega arith) (omega arith) (let-small (term-fits {n = 7} (omega arith) (difference-small (operand-small known a h) (operand-small known b h))) t)
front-small tables (plan.Join q r k) known n f s h deep t =
    block-looser (omega arith) (omega arith) (let-small (term-fits {n = 9} (omega arith) (sum-small (product-small (operand-small known q h) (number-small s)) (operand-small known r h))) t)
front-small tables (plan.Div a k) known n f s h deep t =
    block-looser (omega arith) (omega arith) (let-small (term-fits {n = 4} (omega arith) (quotient-small s.0 s.1 (operand-small known a h))) t)
front-small tables (plan.Rem a k) known n f s h deep t =
    block-looser (omega arith) (omega arith) (let-small (term-fits {n = 4} (omega arith) (remainder-small s.0 s.1 (operand-small known a h))) t)
front-small tables (plan.Order q v) known n f s h deep t = cell-small (source-fits tables q f) (term-fits (omega arith) (operand-small known v h)) deep t
front-small tables (plan.Rows q l u) known n f s h deep t =
    cell-small (source-fits tables q f) (term-fits (omega arith) (place-small known (table tables q).extent l u h (extent-fits tables q f))) deep t

pub recovery-small : (levels : List Coordinate) (tables : List Table) (steps : List PlanStep) (known : List TermTree) (n m d : ℕ) (inner : Code) → LowFit levels → FitTables tables → FitSteps steps → AllSmall known
    → 1 ≤ d → Small m d inner → Small (names_in steps + m) (reads_in steps + d) (recovery levels tables steps known n inner)
recovery-small levels tables [] known n m d inner low f s h deep t = block-looser (omega arith) (omega arith) t
recovery-small levels tables (x ∷ steps) known n m d inner low f s h deep t =
    block-looser (omega arith) (omega arith)
    (front-small tables x known n f s.0 h (omega (arith, deep))
    (recovery-small levels tables steps (known ++ step_term levels x n ∷ []) (n + names x) m d inner low f s.1 (one-more known (step_term levels x n) h (step-small levels x n low s.0)) deep t))

front-without : (w : WorkTree) (n : ℕ) (rest : Code) → has_order rest ≡ false → has_order (in_front w n rest) ≡ false
front-without Nothing n rest h = h
front-without (Value e) n rest h = h
front-without (Cell k at) n rest h = rw h refl

pub recovery-without : (levels : List Coordinate) (tables : List Table) (steps : List PlanStep) (known : List TermTree) (n : ℕ) (inner : Code) → has_order inner ≡ false
    → has_order (recovery levels tables steps known n inner) ≡ false
recovery-without levels tables [] known n inner h = h
recovery-without levels tables (x ∷ steps) known n inner h =
    front-without (work tables x known) n _ (recovery-without levels tables steps (known ++ step_term levels x n ∷ []) (n + names x) inner h)

pub names-few : (steps : List PlanStep) → names_in steps ≤ 2 * length steps
names-few [] = omega arith
names-few (x ∷ steps) = omega (arith, names-few steps, one x)
  where
    one : (x : PlanStep) → names x ≤ 2
    one (plan.Const c) = omega arith
    one (plan.Level k) = omega arith
    one (plan.Add a b) = omega arith
    one (plan.Sub a b) = omega arith
    one (plan.Join q r k) = omega arith
    one (plan.Div a k) = omega arith
    one (plan.Rem a k) = omega arith
    one (plan.Order q v) = omega arith
    one (plan.Rows q l t) = omega arith
