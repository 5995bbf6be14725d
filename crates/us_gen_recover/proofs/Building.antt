-- Blocks, one after the other.
use Rattle.std.proofs.Common.{◌≡◌, ℕ, ◌+◌, refl, sym, ap, ap₂, ◌∙◌, ◌-◌, ◌≤◌, arith, List, [], ◌∷◌, ◌++◌, length, take, drop}
use Rattle.std.specs.Prelude.{Result, IfOk}
use Rattle.std.proofs.lemmas.List.{take_all}
use Rattle.std.proofs.lemmas.Result.{IfOk-weaker}
use Rattle.us_code.specs.declared.program.Block.{Block}
use Rattle.us_code.specs.Plain.{TermTree, Code, tree_of, End, Let, Load, Var, Put, Set, For, Span, If, When, Order, ◌+++◌}
use Rattle.us_invert.specs.declared.steps.PlanStep.{PlanStep}
use Rattle.us_invert.specs.Plan.{step_at}
use Rattle.us_gen_recover.specs.declared.places.Coordinate.{Coordinate}
use Rattle.us_gen_recover.specs.declared.places.Table.{Table}
use Rattle.us_gen_recover.specs.declared.straight.Work.{Work}
use Rattle.us_gen_recover.specs.Recovery.{WorkTree, Value, names, step_term, work_tree, work, in_front, recovery}

append_append : (a b c : Code) → (a +++ b) +++ c ≡ a +++ (b +++ c)
append_append End b c = refl
append_append (Let r e rest) b c = ap (Let r e) (append_append rest b c)
append_append (Load r x at rest) b c = ap (Load r x at) (append_append rest b c)
append_append (Var r e rest) b c = ap (Var r e) (append_append rest b c)
append_append (Put r e rest) b c = ap (Put r e) (append_append rest b c)
append_append (Set x at e rest) b c = ap (Set x at e) (append_append rest b c)
append_append (For r d body rest) b c = ap (For r d body) (append_append rest b c)
append_append (Span r x y d body rest) b c = ap (Span r x y d body) (append_append rest b c)
append_append (If l eq r body given other rest) b c = ap (If l eq r body given other) (append_append rest b c)
append_append (When e d r body given other rest) b c = ap (When e d r body given other) (append_append rest b c)
append_append (Order x keys rest) b c = ap (Order x keys) (append_append rest b c)

-- a block behind one that a register was made at the end of
pub value_done : {E : Type 0} (r : Result Block E) (before more rest : Code) (n : ℕ) (t : TermTree) → IfOk r (λ b. tree_of b ≡ more +++ rest) → more ≡ before +++ Let n t End → IfOk r (λ b. tree_of b ≡ before +++ Let n t rest)
value_done r before more rest n t h e =
    IfOk-weaker r (λ b. tree_of b ≡ more +++ rest) (λ b. tree_of b ≡ before +++ Let n t rest) (λ b q. q ∙ (ap (λ (c : Code). c +++ rest) e ∙ append_append before (Let n t End) rest)) h

-- the code of a step that makes a register, in front of those behind it
pub value_first : {E : Type 0} (r : Result Block E) (levels : List Coordinate) (tables : List Table) (steps rest : List PlanStep) (x : PlanStep) (w : Work) (t : TermTree) (known more : List TermTree) (n m : ℕ) (before inner : Code)
    → work_tree w ≡ work tables x known → IfOk r (λ b. tree_of b ≡ before +++ Let n t (recovery levels tables rest more m inner))
    → work_tree w ≡ Value t → steps ≡ x ∷ rest → more ≡ known ++ step_term levels x n ∷ [] → m ≡ n + names x
    → IfOk r (λ b. tree_of b ≡ before +++ recovery levels tables steps known n inner)
value_first r levels tables steps rest x w t known more n m before inner e h v cons push next =
    let made : work tables x known ≡ Value t = sym e ∙ v in
    let same : Let n t (recovery levels tables rest more m inner) ≡ recovery levels tables steps known n inner =
    ap₂ (λ (ks : List TermTree) (y : ℕ). Let n t (recovery levels tables rest ks y inner)) push next
    ∙ (ap (λ (y : WorkTree). in_front y n (recovery levels tables rest (known ++ step_term levels x n ∷ []) (n + names x) inner)) (sym made)
    ∙ ap (λ (xs : List PlanStep). recovery levels tables xs known n inner) (sym cons)) in
    IfOk-weaker r (λ b. tree_of b ≡ before +++ Let n t (recovery levels tables rest more m inner)) (λ b. tree_of b ≡ before +++ recovery levels tables steps known n inner) (λ b q. q ∙ ap (λ (c : Code). before +++ c) same) h

-- a list that isn't empty is its first and the others
pub first_rest : (xs : List PlanStep) → 1 ≤ length xs → xs ≡ step_at xs 0 ∷ take (length xs - 1) (drop 1 xs)
first_rest [] le = absurd (omega (arith, le))
first_rest (x ∷ xs) le = ap (λ (ys : List PlanStep). x ∷ ys) (sym (take_all (length (x ∷ xs) - 1) xs (omega arith)))
