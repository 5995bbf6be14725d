-- The numbers of a plan's steps are constants and divisors of its expressions.
use Rattle.std.proofs.Common.{◌⊎◌, ℕ, zero, suc, ◌^◌, ◌<◌, List, [], ◌∷◌, ◌++◌, length, take, map, sym, subst, inl, inr, arith, All}
use Rattle.us_expr.specs.Tree.{Tree, RowIndex, ColIndex, Number, Variable, Sum, Difference, Quotient, Remainder}
use Rattle.us_expr.specs.Value.{IsWithin}
use Rattle.us_format.specs.Declaration.{Query, argument}
use Rattle.us_format.specs.Known.{Steps, known_of, sub_expressions, expressions, given_steps}
use Rattle.us_format.specs.Lists.{join}
use Rattle.us_format.specs.Recover.{plan_of}
use Rattle.us_format.proofs.Chain.{StepOk, Chain, chain-given}
use Rattle.us_format.proofs.Members.{all-Mem, Mem-either, join-Mem, added-from}
use Rattle.us_format.proofs.Order.{Mem}
use Rattle.us_format.proofs.Trees.{Mem-has}
use Rattle.us_known.specs.Table.{tree_at}
use Rattle.us_invert.specs.declared.steps.PlanStep.{PlanStep}
use Rattle.us_invert.specs.declared.steps.PlanStep.TheVariants as plan
use Rattle.us_invert.specs.Plan.{give_at, step_at, item_at}
use Rattle.us_invert.proofs.Walking.{chain-cut}
use Rattle.us_listing_limits.specs.Fitting.{FitsStep, FitSteps}
use Rattle.us_listing_limits.specs.Laws.{PlansFit}

module _ (n : ℕ) where
  -- ---- sub-expressions

  last : (t x : Tree) → Mem x (t ∷ []) → IsWithin n t → IsWithin n x
  last t x (inl q) w = subst (λ (y : Tree). IsWithin n y) q w
  last t x (inr m) w = absurd m

  one_operand : (a t x : Tree) → Mem x (sub_expressions a ++ t ∷ []) → (Mem x (sub_expressions a) → IsWithin n x) → IsWithin n t → IsWithin n x
  one_operand a t x m f w = go (Mem-either x (sub_expressions a) (t ∷ []) m)
    where
      go : (Mem x (sub_expressions a) ⊎ Mem x (t ∷ [])) → IsWithin n x
      go (inl i) = f i
      go (inr i) = last t x i w

  two_operands : (a b t x : Tree) → Mem x (sub_expressions a ++ (sub_expressions b ++ t ∷ [])) → (Mem x (sub_expressions a) → IsWithin n x) → (Mem x (sub_expressions b) → IsWithin n x) → IsWithin n t → IsWithin n x
  two_operands a b t x m f g w = go (Mem-either x (sub_expressions a) (sub_expressions b ++ t ∷ []) m)
    where
      go : (Mem x (sub_expressions a) ⊎ Mem x (sub_expressions b ++ t ∷ [])) → IsWithin n x
      go (inl i) = f i
      go (inr i) = one_operand b t x i g w

  sub_within : (e x : Tree) → IsWithin n e → Mem x (sub_expressions e) → IsWithin n x
  sub_within RowIndex x w m = last RowIndex x m w
  sub_within ColIndex x w m = last ColIndex x m w
  sub_within (Number c) x w m = last (Number c) x m w
  sub_within (Variable v) x w m = last (Variable v) x m w
  sub_within (Sum a b) x w m = two_operands a b (Sum a b) x m (sub_within a x w.0) (sub_within b x w.1) w
  sub_within (Difference a b) x w m = two_operands a b (Difference a b) x m (sub_within a x w.0) (sub_within b x w.1) w
  sub_within (Quotient a k) x w m = one_operand a (Quotient a k) x m (sub_within a x w.2) w
  sub_within (Remainder a k) x w m = one_operand a (Remainder a k) x m (sub_within a x w.2) w

  member_within : (levels : List Tree) (qs : List Query) → All (IsWithin n) levels → All (λ q. IsWithin n (argument q)) qs → (e : Tree) → Mem e (expressions levels qs) → IsWithin n e
  member_within levels qs hl hq e m = found (added-from [] (join (map sub_expressions levels) ++ (join (map (λ q. sub_expressions (argument q)) qs) ++ RowIndex ∷ ColIndex ∷ [])) e m)
    where
      index : Mem e (RowIndex ∷ ColIndex ∷ []) → IsWithin n e
      index (inl q) = subst (λ (t : Tree). IsWithin n t) q tt
      index (inr i) = last ColIndex e i tt

      later : (Mem e (join (map (λ q. sub_expressions (argument q)) qs)) ⊎ Mem e (RowIndex ∷ ColIndex ∷ [])) → IsWithin n e
      later (inl i) =
          let r = join-Mem (λ (q : Query). sub_expressions (argument q)) e qs i in
          sub_within (argument r.0) e (all-Mem (λ (q : Query). IsWithin n (argument q)) qs r.0 hq r.1) r.2
      later (inr i) = index i

      first : (Mem e (join (map sub_expressions levels)) ⊎ Mem e (join (map (λ q. sub_expressions (argument q)) qs) ++ RowIndex ∷ ColIndex ∷ [])) → IsWithin n e
      first (inl i) = let r = join-Mem sub_expressions e levels i in sub_within r.0 e (all-Mem (λ (t : Tree). IsWithin n t) levels r.0 hl r.1) r.2
      first (inr i) = later (Mem-either e (join (map (λ q. sub_expressions (argument q)) qs)) (RowIndex ∷ ColIndex ∷ []) i)

      found : (Mem e [] ⊎ Mem e (join (map sub_expressions levels) ++ (join (map (λ q. sub_expressions (argument q)) qs) ++ RowIndex ∷ ColIndex ∷ []))) → IsWithin n e
      found (inl i) = absurd i
      found (inr i) = first (Mem-either e (join (map sub_expressions levels)) (join (map (λ q. sub_expressions (argument q)) qs) ++ RowIndex ∷ ColIndex ∷ []) i)

  -- ---- steps

  -- a step in front of which stand expressions within the limits, and its own
  record Stands (qs : List Query) (given : List Tree) (steps : Steps) (k : ℕ) : Type 0 where
    before : List Tree
    each : (x : Tree) → Mem x before → IsWithin n x
    own : IsWithin n (item_at steps k).0
    ok : StepOk qs given before (item_at steps k).0 (item_at steps k).1

  more_within : (known : List Tree) (e : Tree) → ((x : Tree) → Mem x known → IsWithin n x) → IsWithin n e → (x : Tree) → Mem x (known ++ e ∷ []) → IsWithin n x
  more_within known e h w x m = go (Mem-either x known (e ∷ []) m)
    where
      go : (Mem x known ⊎ Mem x (e ∷ [])) → IsWithin n x
      go (inl i) = h x i
      go (inr i) = last e x i w

  stands : (qs : List Query) (given known : List Tree) (steps : Steps) (k : ℕ) → ((x : Tree) → Mem x known → IsWithin n x) → Chain (IsWithin n) qs given known steps → k < length steps → Stands qs given steps k
  stands qs given known [] k h c l = absurd (omega (arith, l))
  stands qs given known (x ∷ steps) zero h c l = record { before = known; each = h; own = c.0; ok = c.1 }
  stands qs given known (x ∷ steps) (suc k) h c l =
      let s = stands qs given (known ++ x.0 ∷ []) steps k (more_within known x.0 h c.0) c.2 (omega (arith, l)) in
      record { before = s.before; each = s.each; own = s.own; ok = s.ok }

  fits : (qs : List Query) (given ts before : List Tree) (e : Tree) (x : PlanStep) → ((y : Tree) → Mem y before → IsWithin n y) → IsWithin n e → StepOk qs given before e (give_at ts x) → FitsStep x
  fits qs given ts before e (plan.Const c) h w (inl q) = let small : c < 2 ^ 31 = subst (λ (t : Tree). IsWithin n t) q w in omega (arith, small)
  fits qs given ts before e (plan.Const c) h w (inr q) = let small : c < 2 ^ 31 = subst (λ (t : Tree). IsWithin n t) q w in omega (arith, small)
  fits qs given ts before e (plan.Level k) h w s = tt
  fits qs given ts before e (plan.Add a b) h w s = tt
  fits qs given ts before e (plan.Sub a b) h w s = tt
  fits qs given ts before e (plan.Join q r k) h w (inl s) = absurd s
  fits qs given ts before e (plan.Join q r k) h w (inr (i, j, is, rest)) =
      let there : IsWithin n (tree_at ts q) = h (tree_at ts q) (Mem-has before (tree_at ts q) i) in
      let small : IsWithin n (Quotient e k) = subst (λ (t : Tree). IsWithin n t) is there in
      omega (arith, small.1)
  fits qs given ts before e (plan.Div a k) h w (inl s) = absurd s
  fits qs given ts before e (plan.Div a k) h w (inr (i, is)) =
      let small : IsWithin n (Quotient (tree_at ts a) k) = subst (λ (t : Tree). IsWithin n t) is w in
      (small.0, omega (arith, small.1))
  fits qs given ts before e (plan.Rem a k) h w (inl s) = absurd s
  fits qs given ts before e (plan.Rem a k) h w (inr (i, is)) =
      let small : IsWithin n (Remainder (tree_at ts a) k) = subst (λ (t : Tree). IsWithin n t) is w in
      (small.0, omega (arith, small.1))
  fits qs given ts before e (plan.Order q v) h w s = tt
  fits qs given ts before e (plan.Rows q l t) h w s = tt

all_fit : (steps : List PlanStep) → ((k : ℕ) → k < length steps → FitsStep (step_at steps k)) → FitSteps steps
all_fit [] h = tt
all_fit (x ∷ steps) h = (h 0 (omega arith), all_fit steps (λ k l. h (suc k) (omega (arith, l))))

pub plans-fit : PlansFit
plans-fit n levels qs steps hl hq has =
    all_fit steps (λ k l.
    let below : k < length (plan_of levels qs) = omega (arith, l, has.same_length) in
    let chain : Chain (IsWithin n) qs (take (length levels) levels) [] (plan_of levels qs) =
    chain-cut (IsWithin n) qs (take (length levels) levels) [] [] (given_steps levels qs (length levels)) (chain-given (IsWithin n) levels qs (length levels) (member_within n levels qs hl hq)) in
    let s = stands n qs (take (length levels) levels) [] (plan_of levels qs) k (λ x m. absurd m) chain below in
    fits n qs (take (length levels) levels) (known_of (plan_of levels qs)) s.before (item_at (plan_of levels qs) k).0 (step_at steps k) s.each s.own
    (subst (StepOk qs (take (length levels) levels) s.before (item_at (plan_of levels qs) k).0) (sym (has.gives k below)) s.ok))
