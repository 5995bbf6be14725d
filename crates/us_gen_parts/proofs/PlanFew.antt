-- A plan has no more steps than there are expressions, so the loops over a part name few registers.
use Rattle.std.proofs.Common.{◌≡◌, ℕ, zero, suc, ◌+◌, ◌*◌, ◌≤◌, List, [], ◌∷◌, ◌++◌, length, Bool, true, false, cond, not, ◌&&◌, Option, Some, None, sym, refl, ap, subst, ◌∙◌, inl, inr, arith, count_by, length-append, take}
use Rattle.std.proofs.lemmas.Bool.{false≢true}
use Rattle.std.proofs.lemmas.List.{map-append}
use Rattle.us_expr.specs.Tree.{Tree, RowIndex, ColIndex}
use Rattle.us_format.specs.Declaration.{Query}
use Rattle.us_format.specs.Known.{Give, Steps, has, known_of, expressions, at_start, with_step, start, rule, step_for, one_pass, passes, given_steps}
use Rattle.us_format.specs.Recover.{until_both, plan_of}
use Rattle.us_format.proofs.Counting.{count-cons, count-le}
use Rattle.us_format.proofs.Members.{Mem-left, Mem-right}
use Rattle.us_format.proofs.Order.{Mem}
use Rattle.us_format.proofs.Trees.{has-Mem, Mem-has}
use Rattle.us_invert.specs.Plan.{AreSmall}
use Rattle.us_invert.proofs.Ending.{expressions-few}

-- ---- counts

at_most_one : (b : Bool) → cond b 1 0 ≤ 1
at_most_one true = omega arith
at_most_one false = omega arith

implied : (a b : Bool) → (a ≡ true → b ≡ true) → cond a 1 0 ≤ cond b 1 0
implied true true h = omega arith
implied true false h = absurd (false≢true (h refl))
implied false b h = omega arith

-- where the second test holds less often, and not at one of the list at which the first holds
fewer : (f g : Tree → Bool) (xs : List Tree) (e : Tree) → ((y : Tree) → g y ≡ true → f y ≡ true) → Mem e xs → f e ≡ true → g e ≡ false → count_by g xs + 1 ≤ count_by f xs
fewer f g [] e h m p q = absurd m
fewer f g (x ∷ xs) e h (inl s) p q =
    let here : count_by g (x ∷ xs) ≡ count_by g xs = count-cons g x xs ∙ ap (λ b. cond b 1 0 + count_by g xs) (ap g s ∙ q) ∙ omega arith in
    let there : count_by f (x ∷ xs) ≡ 1 + count_by f xs = count-cons f x xs ∙ ap (λ b. cond b 1 0 + count_by f xs) (ap f s ∙ p) in
    omega (arith, here, there, count-le g f xs (λ y m. h y))
fewer f g (x ∷ xs) e h (inr m) p q =
    omega (arith, count-cons g x xs, count-cons f x xs, implied (g x) (f x) (h x), fewer f g xs e h m p q)

-- ---- expressions without a value

abbrev no_value : Steps → Tree → Bool
no_value steps e = not (has (known_of steps) e)

abbrev unknown : Steps → List Tree → ℕ
unknown steps es = count_by (no_value steps) es

known_more : (steps : Steps) (e : Tree) (g : Give) → known_of (steps ++ (e, g) ∷ []) ≡ known_of steps ++ e ∷ []
known_more steps e g = map-append (λ (x : Tree × Give). x.0) steps ((e, g) ∷ [])

-- what has a value keeps it
kept : (steps : Steps) (e : Tree) (o : Option Give) (x : Tree) → Mem x (known_of steps) → Mem x (known_of (with_step steps e o))
kept steps e None x m = m
kept steps e (Some g) x m = subst (λ (ts : List Tree). Mem x ts) (sym (known_more steps e g)) (Mem-left x (known_of steps) (e ∷ []) m)

gained : (steps : Steps) (e : Tree) (g : Give) → Mem e (known_of (steps ++ (e, g) ∷ []))
gained steps e g = subst (λ (ts : List Tree). Mem e ts) (sym (known_more steps e g)) (Mem-right e (known_of steps) (e ∷ []) (inl refl))

start_keeps : (given es : List Tree) (steps : Steps) (x : Tree) → Mem x (known_of steps) → Mem x (known_of (start given es steps))
start_keeps given [] steps x m = m
start_keeps given (e ∷ es) steps x m = start_keeps given es (with_step steps e (at_start given e)) x (kept steps e (at_start given e) x m)

valued : (steps : Steps) (x : Tree) → Mem x (known_of steps) → no_value steps x ≡ false
valued steps x m = ap not (has-Mem (known_of steps) x m)

-- ---- the start

start_few : (given es : List Tree) (steps : Steps) → length (start given es steps) + unknown (start given es steps) es ≤ length steps + length es
start_few given [] steps = omega arith
start_few given (e ∷ es) steps = go (at_start given e) (start_few given es (with_step steps e (at_start given e))) (λ x m. start_keeps given es (with_step steps e (at_start given e)) x m)
  where
    go : (o : Option Give) → length (start given es (with_step steps e o)) + unknown (start given es (with_step steps e o)) es ≤ length (with_step steps e o) + length es
        → ((x : Tree) → Mem x (known_of (with_step steps e o)) → Mem x (known_of (start given es (with_step steps e o))))
        → length (start given es (with_step steps e o)) + unknown (start given es (with_step steps e o)) (e ∷ es) ≤ length steps + suc (length es)
    go None ih keeps =
        omega (arith, ih, count-cons (no_value (start given es steps)) e es, at_most_one (no_value (start given es steps) e))
    go (Some g) ih keeps =
        let here : unknown (start given es (steps ++ (e, g) ∷ [])) (e ∷ es) ≡ unknown (start given es (steps ++ (e, g) ∷ [])) es =
        count-cons (no_value (start given es (steps ++ (e, g) ∷ []))) e es
        ∙ ap (λ b. cond b 1 0 + unknown (start given es (steps ++ (e, g) ∷ [])) es) (valued (start given es (steps ++ (e, g) ∷ [])) e (keeps e (gained steps e g))) ∙ omega arith in
        omega (arith, ih, here, length-append steps ((e, g) ∷ []))

-- ---- passes

module _ (all : List Tree) (qs : List Query) where
  one_few : (steps : Steps) (e : Tree) (o : Option Give) → Mem e all → has (known_of steps) e ≡ false
      → length (with_step steps e o) + unknown (with_step steps e o) all ≤ length steps + unknown steps all
  one_few steps e None m h = omega arith
  one_few steps e (Some g) m h =
      omega (
        arith,
        length-append steps ((e, g) ∷ []),
        fewer (no_value steps) (no_value (steps ++ (e, g) ∷ [])) all e less m (ap not h) (valued (steps ++ (e, g) ∷ []) e (gained steps e g)),
      )
    where
      less : (y : Tree) → no_value (steps ++ (e, g) ∷ []) y ≡ true → no_value steps y ≡ true
      less y n = by (has (known_of steps) y) refl
        where
          by : (b : Bool) → has (known_of steps) y ≡ b → not b ≡ true
          by false q = refl
          by true q = absurd (false≢true (sym (valued (steps ++ (e, g) ∷ []) y (kept steps e (Some g) y (Mem-has (known_of steps) y q))) ∙ n))

  step_few : (steps : Steps) (e : Tree) → Mem e all → length (step_for all qs steps e) + unknown (step_for all qs steps e) all ≤ length steps + unknown steps all
  step_few steps e m = go (has (known_of steps) e) refl
    where
      go : (b : Bool) → has (known_of steps) e ≡ b
          → length (cond b steps (with_step steps e (rule all qs (known_of steps) e))) + unknown (cond b steps (with_step steps e (rule all qs (known_of steps) e))) all ≤ length steps + unknown steps all
      go true h = omega arith
      go false h = one_few steps e (rule all qs (known_of steps) e) m h

  pass_few : (es : List Tree) (steps : Steps) → ((e : Tree) → Mem e es → Mem e all) → length (one_pass all qs es steps) + unknown (one_pass all qs es steps) all ≤ length steps + unknown steps all
  pass_few [] steps h = omega arith
  pass_few (e ∷ es) steps h = omega (arith, pass_few es (step_for all qs steps e) (λ x m. h x (inr m)), step_few steps e (h e (inl refl)))

  passes_few : (n : ℕ) (steps : Steps) → length (passes n all qs steps) + unknown (passes n all qs steps) all ≤ length steps + unknown steps all
  passes_few zero steps = omega arith
  passes_few (suc n) steps = omega (arith, passes_few n (one_pass all qs all steps), pass_few all steps (λ e m. m))

-- ---- the plan

until_few : (known : List Tree) (steps : Steps) → length (until_both known steps) ≤ length steps
until_few known [] = omega arith
until_few known (x ∷ steps) = go (has known RowIndex && has known ColIndex) (until_few (x.0 ∷ known) steps)
  where
    go : (b : Bool) → length (until_both (x.0 ∷ known) steps) ≤ length steps → length (cond b [] (x ∷ until_both (x.0 ∷ known) steps)) ≤ suc (length steps)
    go true ih = omega arith
    go false ih = omega (arith, ih)

pub plan-few : (levels : List Tree) (qs : List Query) → AreSmall levels qs → length (plan_of levels qs) ≤ 32 * (length levels + length qs) + 2
plan-few levels qs small =
    omega (
      arith,
      until_few [] (given_steps levels qs (length levels)),
      passes_few (expressions levels qs) qs (length (expressions levels qs)) (start (take (length levels) levels) (expressions levels qs) []),
      start_few (take (length levels) levels) (expressions levels qs) [],
      expressions-few levels qs small,
    )
