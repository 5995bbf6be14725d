-- Recovery by the numbered steps of a plan.
use Rattle.std.proofs.Common.{◌≡◌, ℕ, zero, suc, ◌+◌, ◌<◌, List, [], ◌∷◌, ◌++◌, drop, drop-cons, length, get_or, sym, refl, ap, ap₂, ◌∙◌, subst, arith, Option, Some, None, ℤ, pos}
use Rattle.std.proofs.lemmas.List.{drop_all}
use Rattle.std.proofs.Math.Seq.{get_or-append_seam}
use Rattle.us_expr.specs.declared.ranges.Range.{Range}
use Rattle.us_expr.specs.Tree.{Tree, RowIndex, ColIndex}
use Rattle.us_format.specs.Lists.{then_do, cell}
use Rattle.us_format.specs.Matrix.{Shape}
use Rattle.us_format.specs.Declaration.{Part}
use Rattle.us_format.specs.Coordinates.{level_range}
use Rattle.us_format.specs.Known.{Give, Itself, OfLevel, Steps}
use Rattle.us_format.specs.Recover.{Found, Values, checked, recover, plan_of}
use Rattle.us_format.proofs.Planned.{plan-recovers}
use Rattle.us_invert.specs.declared.steps.PlanStep.{PlanStep}
use Rattle.us_invert.specs.declared.steps.PlanStep.TheVariants.{Const, Level, Add, Sub, Join, Div, Rem, Order, Rows}
use Rattle.us_known.specs.Table.{tree_at}
use Rattle.us_known.proofs.NodeTrees.{length-snoc}
use Rattle.us_invert.specs.Plan.{give_at, steps_of, step_at, IsPlan, IsStepOf}
use Rattle.us_invert.specs.Recovery.{step_value, tested, walked, indices_by, StepsRecover}
use Rattle.us_invert.proofs.StepLists.{length-steps, steps-at, known-steps}
use Rattle.us_invert.proofs.Walking.{kept_by, kept-more, both-there, both-none, step-gives, plan-level}

-- the test of a step is the same whatever the expressions of its operands
same-test : (ts : List Tree) (r : Range) (x : PlanStep) (z : ℤ) → checked r (give_at ts x) z ≡ tested r x z
same-test ts r (Const c) z = refl
same-test ts r (Level k) z = refl
same-test ts r (Add a b) z = refl
same-test ts r (Sub a b) z = refl
same-test ts r (Join a b k) z = refl
same-test ts r (Div a k) z = refl
same-test ts r (Rem a k) z = refl
same-test ts r (Order q v) z = refl
same-test ts r (Rows q a b) z = refl

module _ (ts : List Tree) (steps : List PlanStep) (r c : ℕ) (plan : IsPlan ts steps r c) where
  none : Tree × Give
  none = (RowIndex, OfLevel 0)

  all_long : length (steps_of ts steps) ≡ length ts
  all_long = length-steps ts ts steps plan.steps_are.same_length

  row-below : r < length ts
  row-below = omega (arith, plan.last)

  col-below : c < length ts
  col-below = omega (arith, plan.last)

  -- the step that gives an expression is the one with its number
  only : (t : Tree) (k n : ℕ) → k < length ts → tree_at ts k ≡ t → IsStepOf (steps_of ts steps) t n → n ≡ k
  only t k n l q h =
      let below : n < length ts = subst (λ (j : ℕ). n < j) all_long h.below in
      plan.steps_are.apart n k below l
      (sym (ap (λ (x : Tree × Give). x.0) (steps-at ts ts steps n (RowIndex, Itself 0) plan.steps_are.same_length below)) ∙ h.is ∙ sym q)

  module _ (s : Shape) (p : Part) (f : Found) (is : steps_of ts steps ≡ plan_of p.levels p.queries) where
    abbrev range_of : ℕ → Range
    range_of n = level_range s f.extents p (tree_at ts n)

    level-low : (n : ℕ) → n < length ts → (k : ℕ) → step_at steps n ≡ Level k → (level_range s f.extents p (get_or p.levels k RowIndex)).lo ≡ (range_of n).lo
    level-low n l k e =
        ap (λ (t : Tree). (level_range s f.extents p t).lo)
        (plan-level p.levels p.queries n k (tree_at ts n) none (subst (λ (j : ℕ). n < j) (sym all_long ∙ ap length is) l)
        (ap (λ (xs : Steps). get_or xs n none) (sym is) ∙ steps-at ts ts steps n none plan.steps_are.same_length l ∙ ap (λ (x : PlanStep). (tree_at ts n, give_at ts x)) e)).1

    left : (n : ℕ) → n < length ts → drop n (steps_of ts steps) ≡ (tree_at ts n, give_at ts (step_at steps n)) ∷ drop (suc n) (steps_of ts steps)
    left n l =
        drop-cons (steps_of ts steps) n none (subst (λ (k : ℕ). n < k) (sym all_long) l)
        ∙ ap (λ (x : Tree × Give). x ∷ drop (suc n) (steps_of ts steps)) (steps-at ts ts steps n none plan.steps_are.same_length l)

    abbrev value : ℕ → List ℤ → Option ℤ
    value n zs = tested (range_of n) (step_at steps n) (step_value zs (range_of n).lo f (step_at steps n))

    one-step : (n : ℕ) (zs : List ℤ) → n < length ts
        → recover s p f (drop n (steps_of ts steps)) (kept_by ts zs n) ≡ then_do (value n zs) (λ w. recover s p f (drop (suc n) (steps_of ts steps)) ((tree_at ts n, w) ∷ kept_by ts zs n))
    one-step n zs l =
        ap (λ (xs : Steps). recover s p f xs (kept_by ts zs n)) (left n l)
        ∙ rw (
          both-none ts zs plan.steps_are.apart r c row-below plan.row col-below plan.col n (omega (arith, l, plan.last)),
          step-gives ts zs plan.steps_are.apart s p f n (omega (arith, l)) (step_at steps n) (range_of n).lo (plan.steps_are.earlier n l) (level-low n l),
        ) (ap (λ (o : Option ℤ). then_do o (λ w. recover s p f (drop (suc n) (steps_of ts steps)) ((tree_at ts n, w) ∷ kept_by ts zs n))) (same-test ts (range_of n) (step_at steps n) (step_value zs (range_of n).lo f (step_at steps n))))

    abbrev ends : List ℤ → Option (ℤ × ℤ)
    ends zs = Some (cell zs r, cell zs c)

    steps-left : (n : ℕ) → n < length ts → drop n steps ≡ step_at steps n ∷ drop (suc n) steps
    steps-left n l = drop-cons steps n (Const 0) (omega (arith, l, plan.steps_are.same_length))

    trees-left : (n : ℕ) → n < length ts → drop n ts ≡ tree_at ts n ∷ drop (suc n) ts
    trees-left n l = drop-cons ts n RowIndex l

    walk-on : (k n : ℕ) (zs : List ℤ) → n + k ≡ length ts → length zs ≡ n
        → recover s p f (drop n (steps_of ts steps)) (kept_by ts zs n) ≡ then_do (walked s p f (drop n ts) (drop n steps) zs) ends
    walk-on zero n zs e q =
        ap (λ (xs : Steps). recover s p f xs (kept_by ts zs n)) (drop_all n (steps_of ts steps) (omega (arith, e, all_long)))
        ∙ both-there ts zs plan.steps_are.apart r c row-below plan.row col-below plan.col n (omega (arith, e)) (omega (arith, e, row-below)) (omega (arith, e, col-below))
        ∙ ap (λ (us : List Tree). then_do (walked s p f us (drop n steps) zs) ends) (sym (drop_all n ts (omega (arith, e))))
    walk-on (suc k) n zs e q =
        let l : n < length ts = omega (arith, e) in
        one-step n zs l ∙ go (value n zs) (λ w. walk-on k (suc n) (zs ++ w ∷ []) (omega (arith, e)) (omega (arith, length-snoc zs w, q)))
        ∙ ap₂ (λ (us : List Tree) (xs : List PlanStep). then_do (walked s p f us xs zs) ends) (sym (trees-left n l)) (sym (steps-left n l))
      where
        newest : (w : ℤ) → cell (zs ++ w ∷ []) n ≡ w
        newest w = ap (cell (zs ++ w ∷ [])) (sym q) ∙ get_or-append_seam zs w [] (pos 0)

        go : (o : Option ℤ)
            → ((w : ℤ) → recover s p f (drop (suc n) (steps_of ts steps)) (kept_by ts (zs ++ w ∷ []) (suc n)) ≡ then_do (walked s p f (drop (suc n) ts) (drop (suc n) steps) (zs ++ w ∷ [])) ends)
            → then_do o (λ w. recover s p f (drop (suc n) (steps_of ts steps)) ((tree_at ts n, w) ∷ kept_by ts zs n))
            ≡ then_do (then_do o (λ w. walked s p f (drop (suc n) ts) (drop (suc n) steps) (zs ++ w ∷ []))) ends
        go None rest = refl
        go (Some w) rest =
            ap₂ (λ (v : ℤ) (vs : Values). recover s p f (drop (suc n) (steps_of ts steps)) ((tree_at ts n, v) ∷ vs)) (sym (newest w)) (sym (kept-more ts zs w n (omega (arith, q))))
            ∙ rest w

pub steps-recover : (ts : List Tree) (steps : List PlanStep) (r c : ℕ) → IsPlan ts steps r c → StepsRecover (steps_of ts steps) steps
steps-recover ts steps r c plan s p f rows cols is row col =
    sym (plan-recovers s p f) ∙ ap (λ (l : Steps). recover s p f l []) (sym is)
    ∙ walk-on ts steps r c plan s p f is (length ts) 0 [] (omega arith) refl
    ∙ ap₂ (λ (a b : ℕ). then_do (walked s p f ts steps []) (λ zs. Some (cell zs a, cell zs b))) (sym (only ts steps r c plan RowIndex r rows (row-below ts steps r c plan) plan.row row)) (sym (only ts steps r c plan ColIndex c cols (col-below ts steps r c plan) plan.col col))
    ∙ ap (λ (us : List Tree). indices_by s p f us steps rows cols) (sym (known-steps ts ts steps plan.steps_are.same_length))
