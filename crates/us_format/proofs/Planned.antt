-- A recovery that goes on behind the step with which both indices have values gives the same.
use Rattle.std.proofs.Common.{◌≡◌, ℕ, List, [], ◌∷◌, map, length, Bool, true, false, cond, ◌&&◌, ◌⊎◌, inl, inr, refl, ap, ◌∙◌, sym, Option, Some, None, ℤ}
use Rattle.std.proofs.lemmas.Bool.{false≢true, or_cases}
use Rattle.us_expr.specs.Tree.{Tree, RowIndex, ColIndex}
use Rattle.us_format.specs.Matrix.{Shape}
use Rattle.us_format.specs.Declaration.{Part}
use Rattle.us_format.specs.Lists.{or_else, then_do}
use Rattle.us_format.specs.Coordinates.{level_range}
use Rattle.us_format.specs.Known.{has, same_tree, Steps, given_steps}
use Rattle.us_format.specs.Recover.{Found, Values, value_of, both, recover, recovered, give_value, checked, until_both, plan_of}
use Rattle.us_format.specs.Laws.{PlanRecovers}

-- the expressions that have values
abbrev named : Values → List Tree
named = map (λ x. x.0)

-- an expression of the list has a value
pub has-value : (vs : Values) (e : Tree) → has (named vs) e ≡ true → (z : ℤ) × (value_of vs e ≡ Some z)
has-value [] e h = absurd cc
has-value (x ∷ vs) e h = go (same_tree x.0 e) refl (or_cases (same_tree x.0 e) (has (named vs) e) h) (has-value vs e)
  where
    go : (b : Bool) → same_tree x.0 e ≡ b → ((same_tree x.0 e ≡ true) ⊎ (has (named vs) e ≡ true)) → (has (named vs) e ≡ true → (z : ℤ) × (value_of vs e ≡ Some z)) → (z : ℤ) × (value_of (x ∷ vs) e ≡ Some z)
    go true q k ih = (x.1, rw q refl)
    go false q (inl k) ih = absurd (false≢true (sym q ∙ k))
    go false q (inr k) ih = let r = ih k in (r.0, rw q r.1)

same-then : {A B : Type 0} (o : Option A) (g h : A → Option B) → ((a : A) → g a ≡ h a) → then_do o g ≡ then_do o h
same-then None g h e = refl
same-then (Some a) g h e = e a

left_of : (a b : Bool) → (a && b) ≡ true → a ≡ true
left_of true b e = refl
left_of false b e = absurd cc

right_of : (a b : Bool) → (a && b) ≡ true → b ≡ true
right_of true b e = e
right_of false b e = absurd cc

cut-same : (s : Shape) (p : Part) (f : Found) (steps : Steps) (vs : Values) → recover s p f (until_both (named vs) steps) vs ≡ recover s p f steps vs
cut-same s p f [] vs = refl
cut-same s p f (x ∷ steps) vs = go (has (named vs) RowIndex && has (named vs) ColIndex) refl (λ w. cut-same s p f steps ((x.0, w) ∷ vs))
  where
    Same : Type 0
    Same = (w : ℤ) → recover s p f (until_both (x.0 ∷ named vs) steps) ((x.0, w) ∷ vs) ≡ recover s p f steps ((x.0, w) ∷ vs)

    go : (b : Bool) → (has (named vs) RowIndex && has (named vs) ColIndex) ≡ b → Same → recover s p f (cond b [] (x ∷ until_both (x.0 ∷ named vs) steps)) vs ≡ recover s p f (x ∷ steps) vs
    go true q same =
        let i = has-value vs RowIndex (left_of _ _ q) in
        let j = has-value vs ColIndex (right_of _ _ q) in
        rw (i.1, j.1) refl
    go false q same =
        ap (or_else (both vs)) (same-then (give_value s p f vs x.1) _ _ (λ z. same-then (checked (level_range s f.extents p x.0) x.1 z) _ _ same))

pub plan-recovers : PlanRecovers
plan-recovers s p f = cut-same s p f (given_steps p.levels p.queries (length p.levels)) []
