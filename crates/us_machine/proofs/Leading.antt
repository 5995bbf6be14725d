-- How a walk's answers join.
use Rattle.std.proofs.Common.{◌≡◌, ℕ, suc, ◌+◌, ◌<◌, ◌≤◌, List, [], ◌∷◌, ◌++◌, take, drop, length, get_or, ℤ, refl, sym, ap, ◌∙◌, subst, arith, Err, take-append-drop, drop-cons, add-one}
use Rattle.std.proofs.lemmas.List.{take_more}
use Rattle.us_raw.specs.Region.{Lists}
use Rattle.us_code.specs.declared.program.Stmt.{Stmt}
use Rattle.us_code.specs.declared.program.Stmt.TheVariants as stmt
use Rattle.us_code.specs.Plain.{◌+++◌, plain_stmt, plain_list, alone}
use Rattle.us_code.specs.Run.{Env, State, exec}
use Rattle.us_code.proofs.Trees.{list_append, list_more}
use Rattle.us_machine.specs.declared.budget.Budget.{Budget}
use Rattle.us_machine.specs.declared.stop.RunStop.{RunStop}
use Rattle.us_machine.specs.declared.stop.RunStop.TheVariants.{TooLarge, OutOfSteps, Memory}
use Rattle.us_machine.specs.declared.tables.Tables.{Tables}
use Rattle.us_machine.specs.Steps.{Shows, IsOver}
use Rattle.us_machine.specs.Walks.{Leads}
use Rattle.us_machine.proofs.Grow.{Begins, costs}

-- a list of statements, around one of them
cons_is : (x : Stmt) (ys : List Stmt) → plain_list (x ∷ ys) ≡ alone x +++ plain_list ys
unfolding plain_list alone
cons_is x ys = list_append (x ∷ []) ys

drop_step : (xs : List Stmt) (i : ℕ) (x : Stmt) → i < length xs → x ≡ get_or xs i x → drop i xs ≡ x ∷ drop (i + 1) xs
drop_step xs i x lt e = rw (add-one, drop-cons xs i x lt) (ap (λ (y : Stmt). y ∷ drop (suc i) xs) (sym e))

pub drop_is : (xs : List Stmt) (i : ℕ) (x : Stmt) → i < length xs → x ≡ get_or xs i x → plain_list (drop i xs) ≡ alone x +++ plain_list (drop (i + 1) xs)
drop_is xs i x lt e = ap plain_list (drop_step xs i x lt e) ∙ cons_is x (drop (i + 1) xs)

pub take_is : (xs : List Stmt) (i : ℕ) (x : Stmt) → i < length xs → x ≡ get_or xs i x → plain_list (take (i + 1) xs) ≡ plain_list (take i xs) +++ alone x
take_is xs i x lt e = ap plain_list (take_more xs i x lt ∙ ap (λ (y : Stmt). take i xs ++ y ∷ []) (sym e)) ∙ list_more (take i xs) x

pub parts_are : (xs : List Stmt) (i : ℕ) → plain_list xs ≡ plain_list (take i xs) +++ plain_list (drop i xs)
parts_are xs i = ap plain_list (sym (take-append-drop i xs)) ∙ list_append (take i xs) (drop i xs)

-- a count that is shown for itself
pub shows_self : (b : Budget) (n : ℕ) → Shows b n n
shows_self b n = record { shown = refl; exact = λ h. refl }

-- a stop stays a stop where there is more to run
pub worse : (t : Tables) (sources : List (List ℤ)) (e : RunStop) (u v : State) (r s : Lists) (regs us : ℕ → ℤ) (i j : ℕ) → u.steps ≤ v.steps → Leads t sources (Err e) u r regs i → Leads t sources (Err e) v s us j
worse t sources OutOfSteps u v r s regs us i j le h = record { bounded = h.bounded; over = omega (arith, le, h.over) }
worse t sources Memory u v r s regs us i j le h = tt
worse t sources TooLarge u v r s regs us i j le h = absurd h

pub no_memory : (t : Tables) (sources : List (List ℤ)) (e : RunStop) (u : State) (r : Lists) (regs : ℕ → ℤ) (i : ℕ) → e ≡ Memory → Leads t sources (Err e) u r regs i
no_memory t sources e u r regs i h = subst (λ (x : RunStop). Leads t sources (Err x) u r regs i) (sym h) tt

pub no_steps : (t : Tables) (sources : List (List ℤ)) (e : RunStop) (u : State) (r : Lists) (regs : ℕ → ℤ) (i : ℕ) → e ≡ OutOfSteps → IsOver t.budget u.steps → Leads t sources (Err e) u r regs i
no_steps t sources e u r regs i h o = subst (λ (x : RunStop). Leads t sources (Err x) u r regs i) (sym h) o

begins : (a : Stmt) → Begins (alone a)
unfolding alone plain_stmt
begins (stmt.Let r e) = tt
begins (stmt.Load r b at) = tt
begins (stmt.Var r e) = tt
begins (stmt.Put r e) = tt
begins (stmt.Set b at e) = tt
begins (stmt.For' r d shape body) = tt
begins (stmt.Span' r a b d shape body) = tt
begins (stmt.If' l eq r shape body other) = tt
begins (stmt.When' e d r shape body other) = tt
begins (stmt.Order b keys) = tt

-- each statement costs a step at least
pub costs_one : (env : Env) (a : Stmt) (s : State) → s.steps + 1 ≤ (exec env (alone a) s).steps
costs_one env a s = costs env (alone a) s (begins a)
