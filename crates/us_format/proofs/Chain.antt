-- Each step is justified by the steps before it.
use Rattle.std.specs.Prelude.{slice_get}
use Rattle.std.proofs.Common.{◌≡◌, ℕ, zero, suc, ◌+◌, ◌⊎◌, List, [], ◌∷◌, ◌++◌, length, take, Bool, true, false, cond, sym, refl, ap, ◌∙◌, subst, inl, inr, Option, Some, None, append_assoc, append-nil, arith}
use Rattle.us_format.proofs.Trees.{same_tree-true}
use Rattle.us_format.proofs.Order.{Mem}
use Rattle.us_format.proofs.Rules.{Justified, Fine, fine-rule}
use Rattle.us_expr.specs.Tree.{Number, Tree}
use Rattle.us_format.specs.Declaration.{Query}
use Rattle.us_format.specs.Known.{Give, Itself, OfLevel, Steps, at_start, expressions, given_steps, has, known_of, level_of, one_pass, passes, rule, same_tree, start, step_for, with_step}
use Rattle.us_format.specs.Lists.{then_do}

-- what stands at the start: a constant, or a level
abbrev pub Starts : List Tree → Tree → Give → Type 0
Starts given e (Itself c) = e ≡ Number c
Starts given e (OfLevel k) = slice_get given k ≡ Some e
Starts given e _ = ⊥

abbrev pub StepOk : List Query → List Tree → List Tree → Tree → Give → Type 0
StepOk qs given known e g = Starts given e g ⊎ Justified qs known e g

-- V holds of each step's expression, and each step is justified by those before it
abbrev pub Chain : (V : Tree → Type 0) → List Query → List Tree → List Tree → Steps → Type 0
Chain V qs given known [] = Unit {0}
Chain V qs given known (x ∷ steps) = V x.0 × StepOk qs given known x.0 x.1 × Chain V qs given (known ++ x.0 ∷ []) steps

pub chain-snoc : (V : Tree → Type 0) (qs : List Query) (given known : List Tree) (steps : Steps) (e : Tree) (g : Give) → Chain V qs given known steps → V e → StepOk qs given (known ++ known_of steps) e g
    → Chain V qs given known (steps ++ (e, g) ∷ [])
chain-snoc V qs given known [] e g c v ok = (v, subst (λ (l : List Tree). StepOk qs given l e g) (append-nil known) ok, tt)
chain-snoc V qs given known (x ∷ steps) e g c v ok =
    (c.0, c.1, chain-snoc V qs given (known ++ x.0 ∷ []) steps e g c.2 v (subst (λ (l : List Tree). StepOk qs given l e g) (sym (append_assoc known (x.0 ∷ []) (known_of steps))) ok))

pub chain-rule : (V : Tree → Type 0) (qs : List Query) (given : List Tree) (steps : Steps) (e : Tree) (o : Option Give) → V e → Fine qs (known_of steps) e o → Chain V qs given [] steps → Chain V qs given [] (with_step steps e o)
chain-rule V qs given steps e None v f c = c
chain-rule V qs given steps e (Some g) v f c = chain-snoc V qs given [] steps e g c v (inr f)

pub chain-step : (V : Tree → Type 0) (es : List Tree) (qs : List Query) (given : List Tree) (steps : Steps) (e : Tree) → V e → Chain V qs given [] steps → Chain V qs given [] (step_for es qs steps e)
chain-step V es qs given steps e v c = go (has (known_of steps) e) (chain-rule V qs given steps e (rule es qs (known_of steps) e) v (fine-rule es qs (known_of steps) e) c)
  where
    go : (b : Bool) → Chain V qs given [] (with_step steps e (rule es qs (known_of steps) e)) → Chain V qs given [] (cond b steps (with_step steps e (rule es qs (known_of steps) e)))
    go true h = c
    go false h = h

pub chain-pass : (V : Tree → Type 0) (all_es : List Tree) (qs : List Query) (given es : List Tree) (steps : Steps) → ((e : Tree) → Mem e es → V e) → Chain V qs given [] steps → Chain V qs given [] (one_pass all_es qs es steps)
chain-pass V all_es qs given [] steps v c = c
chain-pass V all_es qs given (e ∷ es) steps v c = chain-pass V all_es qs given es (step_for all_es qs steps e) (λ x m. v x (inr m)) (chain-step V all_es qs given steps e (v e (inl refl)) c)

pub chain-passes : (V : Tree → Type 0) (n : ℕ) (es : List Tree) (qs : List Query) (given : List Tree) (steps : Steps) → ((e : Tree) → Mem e es → V e) → Chain V qs given [] steps → Chain V qs given [] (passes n es qs steps)
chain-passes V zero es qs given steps v c = c
chain-passes V (suc n) es qs given steps v c = chain-passes V n es qs given (one_pass es qs es steps) v (chain-pass V es qs given es steps v c)

pub level_of-at : (k : ℕ) (all given : List Tree) (e : Tree) (m : ℕ) → ((j : ℕ) → slice_get given j ≡ slice_get all (k + j)) → level_of k given e ≡ Some m → slice_get all m ≡ Some e
level_of-at k all [] e m at h = absurd (cc)
level_of-at k all (l ∷ given) e m at h = go (same_tree l e) refl h (level_of-at (suc k) all given e m (λ j. at (suc j) ∙ ap (slice_get all) (omega arith)))
  where
    go : (b : Bool) → same_tree l e ≡ b → cond b (Some k) (level_of (suc k) given e) ≡ Some m → (level_of (suc k) given e ≡ Some m → slice_get all m ≡ Some e) → slice_get all m ≡ Some e
    go true q h ih = let km : k ≡ m = cc in ap (slice_get all) (sym km) ∙ sym (at 0 ∙ ap (slice_get all) (omega arith)) ∙ ap Some (same_tree-true l e q)
    go false q h ih = ih h

pub chain-level : (V : Tree → Type 0) (qs : List Query) (given : List Tree) (steps : Steps) (e : Tree) (o : Option ℕ) → level_of 0 given e ≡ o → V e → Chain V qs given [] steps
    → Chain V qs given [] (with_step steps e (then_do o (λ k. Some (OfLevel k))))
chain-level V qs given steps e None h v c = c
chain-level V qs given steps e (Some m) h v c = chain-snoc V qs given [] steps e (OfLevel m) c v (inl (level_of-at 0 given given e m (λ j. ap (slice_get given) (omega arith)) h))

pub chain-start_one : (V : Tree → Type 0) (qs : List Query) (given : List Tree) (steps : Steps) (e : Tree) → V e → Chain V qs given [] steps → Chain V qs given [] (with_step steps e (at_start given e))
chain-start_one V qs given steps (Number n) v c = chain-snoc V qs given [] steps (Number n) (Itself n) c v (inl refl)
chain-start_one V qs given steps e v c = chain-level V qs given steps e (level_of 0 given e) refl v c

pub chain-start : (V : Tree → Type 0) (qs : List Query) (given es : List Tree) (steps : Steps) → ((e : Tree) → Mem e es → V e) → Chain V qs given [] steps → Chain V qs given [] (start given es steps)
chain-start V qs given [] steps v c = c
chain-start V qs given (e ∷ es) steps v c = chain-start V qs given es (with_step steps e (at_start given e)) (λ x m. v x (inr m)) (chain-start_one V qs given steps e (v e (inl refl)) c)

pub chain-given : (V : Tree → Type 0) (levels : List Tree) (qs : List Query) (count : ℕ) → ((e : Tree) → Mem e (expressions levels qs) → V e) → Chain V qs (take count levels) [] (given_steps levels qs count)
chain-given V levels qs count v =
    chain-passes V (length (expressions levels qs)) (expressions levels qs) qs (take count levels) (start (take count levels) (expressions levels qs) []) v
    (chain-start V qs (take count levels) (expressions levels qs) [] v tt)
