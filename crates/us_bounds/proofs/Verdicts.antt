-- The check of a program, a phase at a time.
use Rattle.std.proofs.Common.{◌≡◌, ℕ, ◌+◌, ◌<◌, ◌≤◌, List, [], ◌∷◌, Option, Some, None, Result, Ok, Err, sym, ap, ◌∙◌, subst, length, get_or, drop, map, arith}
use Rattle.std.proofs.lemmas.List.{at_drop_all, drop_more, length-map}
use Rattle.std.specs.Result.{IsErrAnd, OnOk}
use Rattle.us_code.specs.declared.program.Phase.{Phase}
use Rattle.us_code.specs.declared.program.Program.{Program}
use Rattle.us_code.specs.Plain.{PhaseTree, phase_tree, program_tree, tree_of, line_tree}
use Rattle.us_code.specs.Names.{count}
use Rattle.us_code.specs.Limits.{items}
use Rattle.us_code.specs.Typing.{Context, after_phase, sees_all, are_distinct, TypedProgram}
use Rattle.us_code.specs.Unbound.{Break, ◌or◌, broken, rule, broken_phase, in_phase, unbound_from, first_unbound}
use Rattle.us_code.specs.Unbound as unbound
use Rattle.us_code_laws.proofs.Unbounds.{unbound_means_untyped}
use Rattle.us_bounds.specs.declared.stop.Stop.{Stop}
use Rattle.us_bounds.specs.declared.stop.Stop.TheVariants.{Broken}
use Rattle.us_bounds.specs.declared.stop.Stop.TheVariants as stop
use Rattle.us_bounds.specs.declared.fault.VerifyFault.{VerifyFault}
use Rattle.us_bounds.specs.declared.fault.VerifyFault.TheVariants.{Unbound, Memory}
use Rattle.us_bounds.specs.Steps.{IsStep}
use Rattle.us_bounds.specs.Verdict.{verdict_at, IsVerdict, IsVerified}

-- a step of a phase is a verdict
pub verdict_of_step : {A : Type 0} (n : ℕ) (r : Result A Stop) (o : Option Break) → IsStep r o → IsVerdict (verdict_at n r) (in_phase n o)
verdict_of_step n (Ok x) o s = record { verdict = ap (in_phase n) s.step }
verdict_of_step n (Err (Broken i k)) o s = record { verdict = ap (in_phase n) s.step }
verdict_of_step n (Err stop.Memory) o s = record { verdict = tt }

pub verdict_as : {A : Type 0} {o o' : Option unbound.Unbound} (r : Result A VerifyFault) → o ≡ o' → IsVerdict r o → IsVerdict r o'
verdict_as r e v = subst (λ (x : Option unbound.Unbound). IsVerdict r x) e v

pub verdict_memory : {A : Type 0} (r : Result A VerifyFault) (o : Option unbound.Unbound) → IsErrAnd r (λ e. e ≡ Memory) → IsVerdict r o
verdict_memory (Ok x) o h = absurd h
verdict_memory {A} (Err e) o h = subst (λ (x : VerifyFault). IsVerdict {A = A} (Err x) o) (sym h) record { verdict = tt }

-- a phase whose check stops
pub phase_stops : {A : Type 0} {o : Option unbound.Unbound} (rest : Option unbound.Unbound) (r : Result A VerifyFault) {e : VerifyFault} → IsErrAnd r (λ y. y ≡ e) → IsVerdict {A = A} (Err e) o → IsVerdict r (o or rest)
phase_stops rest (Ok x) h v = absurd h
phase_stops {A} {o} rest (Err y) {e} h v = subst (λ (x : VerifyFault). IsVerdict {A = A} (Err x) (o or rest)) (sym h) (stopped e v)
  where
    stopped : (e : VerifyFault) → IsVerdict {A = A} (Err e) o → IsVerdict {A = A} (Err e) (o or rest)
    stopped (Unbound u) v = record { verdict = ap (λ (x : Option unbound.Unbound). x or rest) v.verdict }
    stopped Memory v = record { verdict = tt }

-- a phase whose check goes well
step_of_ok : {A : Type 0} (n : ℕ) (r : Result A Stop) (o : Option Break) (x : A) → IsStep r o → Ok x ≡ verdict_at n r → o ≡ None
step_of_ok n (Ok y) o x s e = s.step
step_of_ok n (Err (Broken i k)) o x s e = absurd cc
step_of_ok n (Err stop.Memory) o x s e = absurd cc

seen_of_ok : {A P : Type 0} (n : ℕ) (r : Result A Stop) (x : A) → OnOk r P → Ok x ≡ verdict_at n r → P
seen_of_ok n (Ok y) x h e = h
seen_of_ok n (Err (Broken i k)) x h e = absurd cc
seen_of_ok n (Err stop.Memory) x h e = absurd cc

module _ (ps : List Phase) (k : ℕ) (p : Phase) (lt : k < length ps) (same : p ≡ get_or ps k p) where
  cut : map phase_tree (drop k ps) ≡ phase_tree p ∷ map phase_tree (drop (k + 1) ps)
  cut = ap (map phase_tree) (drop_more ps k p lt ∙ ap (λ (x : Phase). x ∷ drop (k + 1) ps) (sym same))

  -- the room for a phase
  pub phase_room : items (map phase_tree (drop k ps)) ≤ 65536 → length p.makes + count (tree_of p.body) + length p.dims ≤ 65536
  phase_room h =
      let e = ap items cut in
      let l = length-map p.dims line_tree in
      omega (arith, e, l)

  pub rest_room : items (map phase_tree (drop k ps)) ≤ 65536 → items (map phase_tree (drop (k + 1) ps)) ≤ 65536
  rest_room h = let e = ap items cut in omega (arith, e)

  module _ {o : Option unbound.Unbound} (g : Context) (n : ℕ) (give : List ℕ) (a : o ≡ unbound_from g n (map phase_tree (drop k ps)) give) where
    others : Option unbound.Unbound
    others = unbound_from (after_phase g (phase_tree p)) (n + 1) (map phase_tree (drop (k + 1) ps)) give

    split : o ≡ in_phase n (broken_phase g (phase_tree p)) or others
    unfolding others
    split = a ∙ ap (λ (x : List PhaseTree). unbound_from g n x give) cut

    pub phase_more : {A : Type 0} (new : Context) (r : Result A Stop) (x : A) → IsStep r (broken_phase g (phase_tree p)) → OnOk r (new ≡ after_phase g (phase_tree p)) → Ok x ≡ verdict_at n r → o ≡ unbound_from new (n + 1) (map phase_tree (drop (k + 1) ps)) give
    unfolding others
    phase_more new r x s h e =
        split ∙ (ap (λ (y : Option Break). in_phase n y or others) (step_of_ok n r (broken_phase g (phase_tree p)) x s e)
        ∙ ap (λ (y : Context). unbound_from y (n + 1) (map phase_tree (drop (k + 1) ps)) give) (sym (seen_of_ok n r x h e)))

    pub phase_stop : {A : Type 0} (r : Result A VerifyFault) (step : Result A Stop) {e : VerifyFault} → IsErrAnd r (λ y. y ≡ e) → IsStep step (broken_phase g (phase_tree p)) → Err e ≡ verdict_at n step → IsVerdict r o
    phase_stop {A} r step {e} h s q =
        verdict_as r (sym split) (phase_stops others r h (subst (λ (x : Result A VerifyFault). IsVerdict x (in_phase n (broken_phase g (phase_tree p)))) (sym q) (verdict_of_step n step (broken_phase g (phase_tree p)) s)))

-- the phases end
pub phases_end : {A : Type 0} (ps : List Phase) (k : ℕ) {o : Option unbound.Unbound} (g : Context) (give : List ℕ) (r : Result A VerifyFault) → length ps ≤ k → k ≤ length ps → o ≡ unbound_from g k (map phase_tree (drop k ps)) give
    → IsVerdict r (in_phase (length ps) (broken 0 (rule 1 (sees_all g give) ∷ rule 10 (are_distinct give) ∷ []))) → IsVerdict r o
phases_end ps k g give r a b q v =
    let same : length ps ≡ k = omega (arith, a, b) in
    verdict_as r
    (ap (λ (n : ℕ). in_phase n (broken 0 (rule 1 (sees_all g give) ∷ rule 10 (are_distinct give) ∷ []))) same
    ∙ (sym (at_drop_all (λ (l : List Phase). unbound_from g k (map phase_tree l) give) ps k a) ∙ sym q)) v

-- a fault is the first item that breaks a rule, so the program isn't typed
pub faulty : {A : Type 0} (p : Program) (e : VerifyFault) → IsVerdict {A = A} (Err e) (first_unbound (program_tree p)) → IsVerified p (Err e)
faulty p (Unbound u) v = (v.verdict, λ (t : TypedProgram (program_tree p)). some_none (first_unbound (program_tree p)) _ v.verdict (unbound_means_untyped.unbroken (program_tree p) t))
  where
    some_none : (o : Option unbound.Unbound) (x : unbound.Unbound) → o ≡ Some x → o ≡ None → ⊥
    some_none o x a b = cc
faulty p Memory v = tt

pub typed_by_verdict : {A : Type 0} (x : A) (p : Program) → IsVerdict (Ok x) (first_unbound (program_tree p)) → TypedProgram (program_tree p)
typed_by_verdict x p v = unbound_means_untyped.typed (program_tree p) v.verdict
