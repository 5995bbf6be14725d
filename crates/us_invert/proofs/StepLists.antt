-- Lists of steps with numbers of earlier steps.
use Rattle.std.proofs.Common.{◌≡◌, ℕ, zero, suc, ◌<◌, ◌≤◌, ◌⊎◌, List, [], ◌∷◌, ◌++◌, take, length, get_or, sym, refl, ap, ap₂, ◌∙◌, subst, inl, inr, arith}
use Rattle.std.proofs.lemmas.Bool.{cases_lt}
use Rattle.std.proofs.lemmas.List.{get_or_append_left}
use Rattle.std.proofs.Math.Seq.{get_or-append_seam}
use Rattle.us_expr.specs.Tree.{Tree}
use Rattle.us_format.specs.Known.{Give, Plus, Minus, Joined, Over, Rest as RestGive, OrderAt, RowsAt, Steps, known_of}
use Rattle.us_invert.specs.declared.steps.PlanStep.{PlanStep}
use Rattle.us_invert.specs.declared.steps.PlanStep.TheVariants.{Const, Level, Add, Sub, Join, Div, Rem, Order, Rows}
use Rattle.us_known.specs.Table.{tree_at}
use Rattle.us_invert.specs.Plan.{give_at, steps_with, steps_of, step_at, IsEarlier, IsSuited, AreSteps}
use Rattle.us_known.proofs.NodeTrees.{length-snoc, snoc-before, snoc-last}

pub earlier-more : (k j : ℕ) (x : PlanStep) → k ≤ j → IsEarlier k x → IsEarlier j x
earlier-more k j (Const c) l h = tt
earlier-more k j (Level c) l h = tt
earlier-more k j (Add a b) l h = (omega (arith, l, h.0), omega (arith, l, h.1))
earlier-more k j (Sub a b) l h = (omega (arith, l, h.0), omega (arith, l, h.1))
earlier-more k j (Join a b d) l h = (omega (arith, l, h.0), omega (arith, l, h.1))
earlier-more k j (Div a d) l h = omega (arith, l, h)
earlier-more k j (Rem a d) l h = omega (arith, l, h)
earlier-more k j (Order q v) l h = omega (arith, l, h)
earlier-more k j (Rows q a b) l h = (omega (arith, l, h.0), omega (arith, l, h.1))

-- a step stands for one thing in lists that agree on its operands
pub give-same : (ts us : List Tree) (k : ℕ) (x : PlanStep) → IsEarlier k x → ((j : ℕ) → j < k → tree_at ts j ≡ tree_at us j) → give_at ts x ≡ give_at us x
give-same ts us k (Const c) l h = refl
give-same ts us k (Level c) l h = refl
give-same ts us k (Add a b) l h = ap₂ (λ (x y : Tree). Plus x y) (h a l.0) (h b l.1)
give-same ts us k (Sub a b) l h = ap₂ (λ (x y : Tree). Minus x y) (h a l.0) (h b l.1)
give-same ts us k (Join a b d) l h = ap₂ (λ (x y : Tree). Joined x y d) (h a l.0) (h b l.1)
give-same ts us k (Div a d) l h = ap (λ (x : Tree). Over x d) (h a l)
give-same ts us k (Rem a d) l h = ap (λ (x : Tree). RestGive x d) (h a l)
give-same ts us k (Order q v) l h = ap (λ (x : Tree). OrderAt q x) (h v l)
give-same ts us k (Rows q a b) l h = ap₂ (λ (x y : Tree). RowsAt q x y) (h a l.0) (h b l.1)

pub known-steps : (all_trees ts : List Tree) (steps : List PlanStep) → length steps ≡ length ts → known_of (steps_with all_trees ts steps) ≡ ts
known-steps all_trees [] steps h = refl
known-steps all_trees (t ∷ ts) [] h = absurd (omega (arith, h))
known-steps all_trees (t ∷ ts) (x ∷ steps) h = ap (λ l. t ∷ l) (known-steps all_trees ts steps (omega (arith, h)))

pub length-steps : (all_trees ts : List Tree) (steps : List PlanStep) → length steps ≡ length ts → length (steps_with all_trees ts steps) ≡ length ts
length-steps all_trees [] steps h = refl
length-steps all_trees (t ∷ ts) [] h = absurd (omega (arith, h))
length-steps all_trees (t ∷ ts) (x ∷ steps) h = ap suc (length-steps all_trees ts steps (omega (arith, h)))

-- the step with a number, with its expression
pub steps-at : (all_trees ts : List Tree) (steps : List PlanStep) (k : ℕ) (d : Tree × Give) → length steps ≡ length ts → k < length ts → get_or (steps_with all_trees ts steps) k d ≡ (tree_at ts k, give_at all_trees (step_at steps k))
steps-at all_trees [] steps k d h l = absurd (omega (arith, l))
steps-at all_trees (t ∷ ts) [] k d h l = absurd (omega (arith, h))
steps-at all_trees (t ∷ ts) (x ∷ steps) zero d h l = refl
steps-at all_trees (t ∷ ts) (x ∷ steps) (suc k) d h l = steps-at all_trees ts steps k d (omega (arith, h)) (omega (arith, l))

-- lists that agree on all operands
pub steps-same : (all_trees others ts : List Tree) (steps : List PlanStep) (k : ℕ) → ((i : ℕ) → i < length steps → IsEarlier k (step_at steps i)) → ((j : ℕ) → j < k → tree_at all_trees j ≡ tree_at others j)
    → steps_with all_trees ts steps ≡ steps_with others ts steps
steps-same all_trees others [] steps k e h = refl
steps-same all_trees others (t ∷ ts) [] k e h = refl
steps-same all_trees others (t ∷ ts) (x ∷ steps) k e h =
    ap₂ (λ (g : Give) (l : Steps). (t, g) ∷ l) (give-same all_trees others k x (e zero (omega arith)) h) (steps-same all_trees others ts steps k (λ i l. e (suc i) (omega (arith, l))) h)

steps_with-snoc : (all_trees ts : List Tree) (steps : List PlanStep) (t : Tree) (x : PlanStep) → length steps ≡ length ts → steps_with all_trees (ts ++ t ∷ []) (steps ++ x ∷ []) ≡ steps_with all_trees ts steps ++ (t, give_at all_trees x) ∷ []
steps_with-snoc all_trees [] [] t x h = refl
steps_with-snoc all_trees [] (y ∷ steps) t x h = absurd (omega (arith, h))
steps_with-snoc all_trees (u ∷ ts) [] t x h = absurd (omega (arith, h))
steps_with-snoc all_trees (u ∷ ts) (y ∷ steps) t x h = ap (λ l. (u, give_at all_trees y) ∷ l) (steps_with-snoc all_trees ts steps t x (omega (arith, h)))

all-earlier : (ts : List Tree) (steps : List PlanStep) → AreSteps ts steps → (i : ℕ) → i < length steps → IsEarlier (length ts) (step_at steps i)
all-earlier ts steps a i l = earlier-more i (length ts) (step_at steps i) (omega (arith, l, a.same_length)) (a.earlier i (omega (arith, l, a.same_length)))

-- one step more
pub steps-snoc : (ts : List Tree) (steps : List PlanStep) (t : Tree) (x : PlanStep) → AreSteps ts steps → IsEarlier (length ts) x → steps_of (ts ++ t ∷ []) (steps ++ x ∷ []) ≡ steps_of ts steps ++ (t, give_at ts x) ∷ []
steps-snoc ts steps t x a e =
    steps_with-snoc (ts ++ t ∷ []) ts steps t x a.same_length
    ∙ ap₂ (λ (l : Steps) (g : Give). l ++ (t, g) ∷ []) (steps-same (ts ++ t ∷ []) ts ts steps (length ts) (all-earlier ts steps a) (λ j l. snoc-before ts t j l))
    (give-same (ts ++ t ∷ []) ts (length ts) x e (λ j l. snoc-before ts t j l))

step-before : (steps : List PlanStep) (x : PlanStep) (i : ℕ) → i < length steps → step_at (steps ++ x ∷ []) i ≡ step_at steps i
step-before steps x i l = get_or_append_left steps (x ∷ []) (Const 0) i l

step-last : (steps : List PlanStep) (x : PlanStep) → step_at (steps ++ x ∷ []) (length steps) ≡ x
step-last steps x = get_or-append_seam steps x [] (Const 0)

pub are-steps-snoc : (ts : List Tree) (steps : List PlanStep) (t : Tree) (x : PlanStep) → AreSteps ts steps → ((i : ℕ) → i < length ts → tree_at ts i ≡ t → ⊥) → IsEarlier (length ts) x → IsSuited t x → AreSteps (ts ++ t ∷ []) (steps ++ x ∷ [])
are-steps-snoc ts steps t x a new e d = record {
  same_length = omega (arith, length-snoc ts t, length-snoc steps x, a.same_length);
  apart = λ i j hi hj q. apart i j (cases_lt i (length ts)) (cases_lt j (length ts)) hi hj q;
  earlier = λ k l. earlier k (cases_lt k (length ts)) l;
  suited = λ k l. suited k (cases_lt k (length ts)) l;
}
  where
    at-end : (k : ℕ) → length ts ≤ k → k < length (ts ++ t ∷ []) → length ts ≡ k
    at-end k p l = omega (arith, p, l, length-snoc ts t)

    apart : (i j : ℕ) → ((i < length ts) ⊎ (length ts ≤ i)) → ((j < length ts) ⊎ (length ts ≤ j)) → i < length (ts ++ t ∷ []) → j < length (ts ++ t ∷ []) → tree_at (ts ++ t ∷ []) i ≡ tree_at (ts ++ t ∷ []) j → i ≡ j
    apart i j (inl p) (inl r) hi hj q = a.apart i j p r (sym (snoc-before ts t i p) ∙ q ∙ snoc-before ts t j r)
    apart i j (inl p) (inr r) hi hj q = absurd (new i p (sym (snoc-before ts t i p) ∙ q ∙ ap (tree_at (ts ++ t ∷ [])) (sym (at-end j r hj)) ∙ snoc-last ts t))
    apart i j (inr p) (inl r) hi hj q = absurd (new j r (sym (snoc-before ts t j r) ∙ sym q ∙ ap (tree_at (ts ++ t ∷ [])) (sym (at-end i p hi)) ∙ snoc-last ts t))
    apart i j (inr p) (inr r) hi hj q = sym (at-end i p hi) ∙ at-end j r hj

    earlier : (k : ℕ) → ((k < length ts) ⊎ (length ts ≤ k)) → k < length (ts ++ t ∷ []) → IsEarlier k (step_at (steps ++ x ∷ []) k)
    earlier k (inl p) l = subst (λ (y : PlanStep). IsEarlier k y) (sym (step-before steps x k (omega (arith, p, a.same_length)))) (a.earlier k p)
    earlier k (inr p) l =
        subst (λ (j : ℕ). IsEarlier j (step_at (steps ++ x ∷ []) j)) (at-end k p l)
        (subst (λ (y : PlanStep). IsEarlier (length ts) y) (sym (ap (step_at (steps ++ x ∷ [])) (sym a.same_length) ∙ step-last steps x)) e)

    suited : (k : ℕ) → ((k < length ts) ⊎ (length ts ≤ k)) → k < length (ts ++ t ∷ []) → IsSuited (tree_at (ts ++ t ∷ []) k) (step_at (steps ++ x ∷ []) k)
    suited k (inl p) l =
        subst (λ (u : Tree). IsSuited u (step_at (steps ++ x ∷ []) k)) (sym (snoc-before ts t k p))
        (subst (λ (y : PlanStep). IsSuited (tree_at ts k) y) (sym (step-before steps x k (omega (arith, p, a.same_length)))) (a.suited k p))
    suited k (inr p) l =
        subst (λ (j : ℕ). IsSuited (tree_at (ts ++ t ∷ []) j) (step_at (steps ++ x ∷ []) j)) (at-end k p l)
        (subst (λ (u : Tree). IsSuited u (step_at (steps ++ x ∷ []) (length ts))) (sym (snoc-last ts t))
        (subst (λ (y : PlanStep). IsSuited t y) (sym (ap (step_at (steps ++ x ∷ [])) (sym a.same_length) ∙ step-last steps x)) d))

-- ---- the first steps

steps_with-take : (all_trees ts : List Tree) (steps : List PlanStep) (n : ℕ) → steps_with all_trees (take n ts) (take n steps) ≡ take n (steps_with all_trees ts steps)
steps_with-take all_trees ts steps zero = refl
steps_with-take all_trees [] steps (suc n) = refl
steps_with-take all_trees (t ∷ ts) [] (suc n) = refl
steps_with-take all_trees (t ∷ ts) (x ∷ steps) (suc n) = ap (λ l. (t, give_at all_trees x) ∷ l) (steps_with-take all_trees ts steps n)

pub length-take : {A : Type 0} (n : ℕ) (xs : List A) → n ≤ length xs → length (take n xs) ≡ n
length-take zero xs l = refl
length-take (suc n) [] l = absurd (omega (arith, l))
length-take (suc n) (x ∷ xs) l = ap suc (length-take n xs (omega (arith, l)))

pub tree-take : (n : ℕ) (ts : List Tree) (j : ℕ) → j < n → tree_at (take n ts) j ≡ tree_at ts j
tree-take zero ts j l = absurd (omega (arith, l))
tree-take (suc n) [] j l = refl
tree-take (suc n) (t ∷ ts) zero l = refl
tree-take (suc n) (t ∷ ts) (suc j) l = tree-take n ts j (omega (arith, l))

pub step-take : (n : ℕ) (steps : List PlanStep) (j : ℕ) → j < n → step_at (take n steps) j ≡ step_at steps j
step-take zero steps j l = absurd (omega (arith, l))
step-take (suc n) [] j l = refl
step-take (suc n) (t ∷ steps) zero l = refl
step-take (suc n) (t ∷ steps) (suc j) l = step-take n steps j (omega (arith, l))

pub are-steps-take : (n : ℕ) (ts : List Tree) (steps : List PlanStep) → n ≤ length ts → AreSteps ts steps → AreSteps (take n ts) (take n steps)
are-steps-take n ts steps l a =
    let lt : length (take n ts) ≡ n = length-take n ts l in
    let ls : length (take n steps) ≡ n = length-take n steps (omega (arith, l, a.same_length)) in
    record {
      same_length = ls ∙ sym lt;
      apart = λ i j hi hj q. a.apart i j (omega (arith, hi, lt, l)) (omega (arith, hj, lt, l)) (sym (tree-take n ts i (omega (arith, hi, lt))) ∙ q ∙ tree-take n ts j (omega (arith, hj, lt)));
      earlier = λ k h. subst (λ (y : PlanStep). IsEarlier k y) (sym (step-take n steps k (omega (arith, h, lt)))) (a.earlier k (omega (arith, h, lt, l)));
      suited = λ k h.
          subst (λ (u : Tree). IsSuited u (step_at (take n steps) k)) (sym (tree-take n ts k (omega (arith, h, lt))))
          (subst (λ (y : PlanStep). IsSuited (tree_at ts k) y) (sym (step-take n steps k (omega (arith, h, lt)))) (a.suited k (omega (arith, h, lt, l))));
    }

pub steps-take : (n : ℕ) (ts : List Tree) (steps : List PlanStep) → n ≤ length ts → AreSteps ts steps → steps_of (take n ts) (take n steps) ≡ take n (steps_of ts steps)
steps-take n ts steps l a =
    let ls : length (take n steps) ≡ n = length-take n steps (omega (arith, l, a.same_length)) in
    steps-same (take n ts) ts (take n ts) (take n steps) n
    (λ i h. subst (λ (y : PlanStep). IsEarlier n y) (sym (step-take n steps i (omega (arith, h, ls)))) (earlier-more i n (step_at steps i) (omega (arith, h, ls)) (a.earlier i (omega (arith, h, ls, l)))))
    (λ j h. tree-take n ts j h)
    ∙ steps_with-take ts ts steps n
