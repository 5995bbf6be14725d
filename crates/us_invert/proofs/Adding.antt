-- A plan in the making gets one step more.
use Rattle.std.proofs.Common.{◌≡◌, ℕ, zero, suc, ◌+◌, ◌<◌, ◌≤◌, ◌⊎◌, List, [], ◌∷◌, ◌++◌, length, get_or, true, false, sym, refl, ap, ap₂, ◌∙◌, subst, inl, inr, arith, Option, Some, None, is_some, unwrap_or, count_by}
use Rattle.std.specs.Prelude.{slice_set}
use Rattle.std.proofs.lemmas.Bool.{false≢true, cases_lt, cases_eq}
use Rattle.std.proofs.lemmas.List.{get_or_append_left, get_or-map, get_or-set_same, get_or-set_other, length-set, length-map, map-append}
use Rattle.std.proofs.Math.Seq.{get_or-append_seam}
use Rattle.us_expr.specs.Tree.{Tree, RowIndex}
use Rattle.us_format.specs.Declaration.{Query}
use Rattle.us_format.specs.Known.{has, Give, Plus, Minus, Joined as JoinedGive, Over as OverGive, Rest as RestGive, OrderAt, RowsAt, known_of, rule, step_for}
use Rattle.us_format.proofs.Order.{Mem}
use Rattle.us_format.proofs.Trees.{Mem-has, has-Mem}
use Rattle.us_format.proofs.Counting.{count-cons}
use Rattle.us_format.proofs.Rules.{Fine, Justified, fine-rule}
use Rattle.us_known.specs.declared.table.Node.{Node}
use Rattle.us_invert.specs.declared.steps.Source.{Source}
use Rattle.us_invert.specs.declared.steps.Source.TheVariants.{Constant, Level as LevelSource, Total, Less, Joined, Over, Rest, Order as OrderSource, Rows as RowsSource}
use Rattle.us_invert.specs.declared.steps.PlanStep.{PlanStep}
use Rattle.us_invert.specs.declared.making.Making.{Making}
use Rattle.us_known.specs.Table.{tree_at, trees, IsTable}
use Rattle.us_invert.specs.Sources.{give_of, has_step, HasOperands, AreNumbersOf, IsGiven}
use Rattle.us_invert.specs.Plan.{give_at, steps_of, IsEarlier, IsSuited, AreSteps}
use Rattle.us_invert.specs.Made.{number_at, step_of, trees_at, made_steps, is_free, AreNumbered, IsMaking, AddsStep}
use Rattle.us_known.proofs.NodeTrees.{length-snoc, at-has}
use Rattle.us_invert.proofs.FromNodes.{same-bool}
use Rattle.us_invert.proofs.StepLists.{known-steps, steps-snoc, are-steps-snoc}

pub count-set : (xs : List (Option ℕ)) (n k : ℕ) → n < length xs → is_some (get_or xs n None) ≡ false → count_by is_free (slice_set xs n (Some k)) + 1 ≡ count_by is_free xs
count-set [] n k l h = absurd (omega (arith, l))
count-set (x ∷ xs) zero k l h = rw (count-cons is_free (Some k) xs, count-cons is_free x xs, h) (omega arith)
count-set (x ∷ xs) (suc n) k l h = rw (count-cons is_free x (slice_set xs n (Some k)), count-cons is_free x xs) (omega (arith, count-set xs n k (omega (arith, l)) h))

some-number : (o : Option ℕ) → is_some o ≡ true → o ≡ Some (unwrap_or o 0)
some-number None h = absurd (false≢true h)
some-number (Some k) h = refl

module _ (ns : List Node) (table : IsTable ns) (made : List ℕ) (steps : List PlanStep) (numbers : List (Option ℕ)) (h : AreNumbered ns made steps numbers) where
  abbrev ts : List Tree
  ts = trees ns

  length-trees_at : length (trees_at ns made) ≡ length made
  length-trees_at = length-map made (tree_at ts)

  -- the expression of a step is that of its node
  pub tree-made : (k : ℕ) → k < length made → tree_at (trees_at ns made) k ≡ tree_at ts (get_or made k 0)
  tree-made k l = get_or-map (tree_at ts) made k 0 RowIndex l

  pub known-made : known_of (steps_of (trees_at ns made) steps) ≡ trees_at ns made
  known-made = known-steps (trees_at ns made) (trees_at ns made) steps h.steps_are.same_length

  -- a node with a step has a known expression
  numbered-known : (n : ℕ) → n < length ns → has_step numbers n ≡ true → has (trees_at ns made) (tree_at ts n) ≡ true
  numbered-known n l s =
      let k : ℕ = unwrap_or (get_or numbers n None) 0 in
      let r : (k < length made) × (get_or made k 0 ≡ n) = h.there n k (some-number (get_or numbers n None) s) in
      has-Mem (trees_at ns made) (tree_at ts n) (Mem-of (trees_at ns made) k (tree_at ts n) (subst (λ (j : ℕ). k < j) (sym length-trees_at) r.0) (tree-made k r.0 ∙ ap (tree_at ts) r.1))
    where
      Mem-of : (us : List Tree) (k : ℕ) (t : Tree) → k < length us → tree_at us k ≡ t → Mem t us
      Mem-of [] k t l e = absurd (omega (arith, l))
      Mem-of (u ∷ us) zero t l e = inl e
      Mem-of (u ∷ us) (suc k) t l e = inr (Mem-of us k t (omega (arith, l)) e)

  -- a known expression is that of a step
  known-step : (e : Tree) → has (trees_at ns made) e ≡ true → (k : ℕ) × (k < length made) × (tree_at ts (get_or made k 0) ≡ e)
  known-step e q =
      let r = place (trees_at ns made) e (Mem-has (trees_at ns made) e q) in
      let l : r.0 < length made = subst (λ (j : ℕ). r.0 < j) length-trees_at r.1 in
      (r.0, l, sym (tree-made r.0 l) ∙ r.2)
    where
      place : (us : List Tree) (t : Tree) → Mem t us → (k : ℕ) × (k < length us) × (tree_at us k ≡ t)
      place [] t m = absurd m
      place (u ∷ us) t (inl e) = (zero, omega arith, e)
      place (u ∷ us) t (inr m) = let r = place us t m in (suc r.0, omega (arith, r.1), r.2)

  known-numbered : (n : ℕ) → n < length ns → has (trees_at ns made) (tree_at ts n) ≡ true → has_step numbers n ≡ true
  known-numbered n l q =
      let r = known-step (tree_at ts n) q in
      let e : get_or made r.0 0 ≡ n = table.apart (get_or made r.0 0) n (h.nodes r.0 r.1) l r.2 in
      ap is_some (subst (λ (j : ℕ). get_or numbers j None ≡ Some r.0) e (h.back r.0 r.1))

  pub making-known : AreNumbersOf ns numbers (known_of (steps_of (trees_at ns made) steps))
  making-known = subst (λ (us : List Tree). AreNumbersOf ns numbers us) (sym known-made) (record {
    same_length = h.same_length;
    each = λ n l. same-bool (has_step numbers n) (has (trees_at ns made) (tree_at ts n)) (numbered-known n l) (known-numbered n l);
    members = λ e q. let r = known-step e q in subst (λ (z : Tree). has ts z ≡ true) r.2 (at-has ns table (get_or made r.0 0) (h.nodes r.0 r.1));
  })

  -- the number of an operand
  operand : (a : ℕ) → has_step numbers a ≡ true → (number_at numbers a < length (trees_at ns made)) × (tree_at (trees_at ns made) (number_at numbers a) ≡ tree_at ts a)
  operand a s =
      let r : (number_at numbers a < length made) × (get_or made (number_at numbers a) 0 ≡ a) = h.there a (number_at numbers a) (some-number (get_or numbers a None) s) in
      (subst (λ (j : ℕ). number_at numbers a < j) (sym length-trees_at) r.0, tree-made (number_at numbers a) r.0 ∙ ap (tree_at ts) r.1)

  pub step-earlier : (x : Source) → HasOperands numbers x → IsEarlier (length (trees_at ns made)) (step_of numbers x)
  step-earlier (Constant c) o = tt
  step-earlier (LevelSource k) o = tt
  step-earlier (Total a b) o = ((operand a o.0).0, (operand b o.1).0)
  step-earlier (Less a b) o = ((operand a o.0).0, (operand b o.1).0)
  step-earlier (Joined a b k) o = ((operand a o.0).0, (operand b o.1).0)
  step-earlier (Over a k) o = (operand a o).0
  step-earlier (Rest a k) o = (operand a o).0
  step-earlier (OrderSource q v) o = (operand v o).0
  step-earlier (RowsSource q a b) o = ((operand a o.0).0, (operand b o.1).0)

  pub step-gives : (x : Source) → HasOperands numbers x → give_at (trees_at ns made) (step_of numbers x) ≡ give_of ts x
  step-gives (Constant c) o = refl
  step-gives (LevelSource k) o = refl
  step-gives (Total a b) o = ap₂ (λ (x y : Tree). Plus x y) (operand a o.0).1 (operand b o.1).1
  step-gives (Less a b) o = ap₂ (λ (x y : Tree). Minus x y) (operand a o.0).1 (operand b o.1).1
  step-gives (Joined a b k) o = ap₂ (λ (x y : Tree). JoinedGive x y k) (operand a o.0).1 (operand b o.1).1
  step-gives (Over a k) o = ap (λ (x : Tree). OverGive x k) (operand a o).1
  step-gives (Rest a k) o = ap (λ (x : Tree). RestGive x k) (operand a o).1
  step-gives (OrderSource q v) o = ap (λ (x : Tree). OrderAt q x) (operand v o).1
  step-gives (RowsSource q a b) o = ap₂ (λ (x y : Tree). RowsAt q x y) (operand a o.0).1 (operand b o.1).1

  module _ (n : ℕ) (x : Source) (l : n < length ns) (free : has_step numbers n ≡ false) (o : HasOperands numbers x) (d : IsSuited (tree_at ts n) (step_of numbers x)) where
    trees-more : trees_at ns (made ++ n ∷ []) ≡ trees_at ns made ++ tree_at ts n ∷ []
    trees-more = map-append (tree_at ts) made (n ∷ [])

    steps-more : steps_of (trees_at ns (made ++ n ∷ [])) (steps ++ step_of numbers x ∷ []) ≡ steps_of (trees_at ns made) steps ++ (tree_at ts n, give_of ts x) ∷ []
    steps-more =
        ap (λ (us : List Tree). steps_of us (steps ++ step_of numbers x ∷ [])) trees-more
        ∙ steps-snoc (trees_at ns made) steps (tree_at ts n) (step_of numbers x) h.steps_are (step-earlier x o)
        ∙ ap (λ (g : Give). steps_of (trees_at ns made) steps ++ (tree_at ts n, g) ∷ []) (step-gives x o)

    -- no step is of the node n
    other-node : (k : ℕ) → k < length made → get_or made k 0 ≡ n → ⊥
    other-node k p e = false≢true (sym free ∙ ap is_some (subst (λ (j : ℕ). get_or numbers j None ≡ Some k) e (h.back k p)))

    new-tree : (i : ℕ) → i < length (trees_at ns made) → tree_at (trees_at ns made) i ≡ tree_at ts n → ⊥
    new-tree i p e =
        let q : i < length made = subst (λ (j : ℕ). i < j) length-trees_at p in
        other-node i q (table.apart (get_or made i 0) n (h.nodes i q) l (sym (tree-made i q) ∙ e))

    before : (k : ℕ) → k < length made → get_or (made ++ n ∷ []) k 0 ≡ get_or made k 0
    before k p = get_or_append_left made (n ∷ []) 0 k p

    at-end : (k : ℕ) → length made ≤ k → k < length (made ++ n ∷ []) → length made ≡ k
    at-end k p q = omega (arith, p, q, length-snoc made n)

    last : get_or (made ++ n ∷ []) (length made) 0 ≡ n
    last = get_or-append_seam made n [] 0

    set_there : get_or (slice_set numbers n (Some (length made))) n None ≡ Some (length made)
    set_there = get_or-set_same numbers n (Some (length made)) None (omega (arith, l, h.same_length))

    set_other : (k : ℕ) → (k ≡ n → ⊥) → get_or (slice_set numbers n (Some (length made))) k None ≡ get_or numbers k None
    set_other k e = get_or-set_other numbers n k (Some (length made)) None e

    some-same : (a b : ℕ) → Some a ≡ Some b → a ≡ b
    some-same a b e = cc

    numbered-more : AreNumbered ns (made ++ n ∷ []) (steps ++ step_of numbers x ∷ []) (slice_set numbers n (Some (length made)))
    numbered-more = record {
      steps_are = subst (λ (us : List Tree). AreSteps us (steps ++ step_of numbers x ∷ [])) (sym trees-more) (are-steps-snoc (trees_at ns made) steps (tree_at ts n) (step_of numbers x) h.steps_are new-tree (step-earlier x o) d);
      same_length = length-set numbers n (Some (length made)) ∙ h.same_length;
      nodes = λ k p. nodes k (cases_lt k (length made)) p;
      there = λ j k e. there j k (cases_eq j n) e;
      back = λ k p. back k (cases_lt k (length made)) p;
      count = omega (arith, count-set numbers n (length made) (omega (arith, l, h.same_length)) free, h.count, length-snoc made n);
    }
      where
        nodes : (k : ℕ) → ((k < length made) ⊎ (length made ≤ k)) → k < length (made ++ n ∷ []) → get_or (made ++ n ∷ []) k 0 < length ns
        nodes k (inl p) q = subst (λ (j : ℕ). j < length ns) (sym (before k p)) (h.nodes k p)
        nodes k (inr p) q = subst (λ (j : ℕ). j < length ns) (sym (ap (λ i. get_or (made ++ n ∷ []) i 0) (sym (at-end k p q)) ∙ last)) l

        there : (j k : ℕ) → ((j ≡ n) ⊎ (j ≡ n → ⊥)) → get_or (slice_set numbers n (Some (length made))) j None ≡ Some k → (k < length (made ++ n ∷ [])) × (get_or (made ++ n ∷ []) k 0 ≡ j)
        there j k (inl q) e =
            let s : length made ≡ k = some-same (length made) k (sym set_there ∙ ap (λ i. get_or (slice_set numbers n (Some (length made))) i None) (sym q) ∙ e) in
            (omega (arith, s, length-snoc made n), ap (λ i. get_or (made ++ n ∷ []) i 0) (sym s) ∙ last ∙ sym q)
        there j k (inr q) e =
            let r : (k < length made) × (get_or made k 0 ≡ j) = h.there j k (sym (set_other j q) ∙ e) in
            (omega (arith, r.0, length-snoc made n), before k r.0 ∙ r.1)

        back : (k : ℕ) → ((k < length made) ⊎ (length made ≤ k)) → k < length (made ++ n ∷ []) → get_or (slice_set numbers n (Some (length made))) (get_or (made ++ n ∷ []) k 0) None ≡ Some k
        back k (inl p) q =
            ap (λ i. get_or (slice_set numbers n (Some (length made))) i None) (before k p) ∙ set_other (get_or made k 0) (other-node k p) ∙ h.back k p
        back k (inr p) q =
            ap (λ i. get_or (slice_set numbers n (Some (length made))) i None) (ap (λ i. get_or (made ++ n ∷ []) i 0) (sym (at-end k p q)) ∙ last) ∙ set_there ∙ ap Some (at-end k p q)

-- ---- plans in the making

module _ (ns : List Node) (table : IsTable ns) (old new : Making) (h : IsMaking ns old) (n : ℕ) (x : Source) (l : n < length ns) (free : has_step old.numbers.items n ≡ false) (o : HasOperands old.numbers.items x)
    (d : IsSuited (tree_at (trees ns) n) (step_of old.numbers.items x)) (a : AddsStep old new n x) where
  pub added-making : IsMaking ns new
  added-making =
      subst (λ (made : List ℕ). AreNumbered ns made new.steps.items new.numbers.items) (sym a.made)
      (subst (λ (steps : List PlanStep). AreNumbered ns (old.made.items ++ n ∷ []) steps new.numbers.items) (sym a.steps)
      (subst (λ (numbers : List (Option ℕ)). AreNumbered ns (old.made.items ++ n ∷ []) (old.steps.items ++ step_of old.numbers.items x ∷ []) numbers) (sym a.numbers)
      (numbered-more ns table old.made.items old.steps.items old.numbers.items h n x l free o d)))

  pub added-steps : made_steps ns new ≡ made_steps ns old ++ (tree_at (trees ns) n, give_of (trees ns) x) ∷ []
  added-steps =
      ap₂ (λ (made : List ℕ) (steps : List PlanStep). steps_of (trees_at ns made) steps) a.made a.steps
      ∙ steps-more ns table old.made.items old.steps.items old.numbers.items h n x l free o d

-- ---- a step by a rule

-- a source that is justified suits its expression
suiting : (us : List Tree) (qs : List Query) (known : List Tree) (t : Tree) (numbers : List (Option ℕ)) (x : Source) → Justified qs known t (give_of us x) → IsSuited t (step_of numbers x)
suiting us qs known t numbers (Constant c) j = j
suiting us qs known t numbers (LevelSource k) j = tt
suiting us qs known t numbers (Total a b) j = tt
suiting us qs known t numbers (Less a b) j = tt
suiting us qs known t numbers (Joined a b k) j = tt
suiting us qs known t numbers (Over a k) j = (tree_at us a, j.1)
suiting us qs known t numbers (Rest a k) j = (tree_at us a, j.1)
suiting us qs known t numbers (OrderSource q v) j = tt
suiting us qs known t numbers (RowsSource q a b) j = tt

module _ (ns : List Node) (table : IsTable ns) (m : Making) (h : IsMaking ns m) (qs : List Query) (e : ℕ) (l : e < length ns) where
  abbrev known : List Tree
  known = known_of (made_steps ns m)

  numbers-known : AreNumbersOf ns m.numbers.items known
  numbers-known = making-known ns table m.made.items m.steps.items m.numbers.items h

  -- the node has a step
  pub step-old : has_step m.numbers.items e ≡ true → made_steps ns m ≡ step_for (trees ns) qs (made_steps ns m) (tree_at (trees ns) e)
  step-old s = rw (sym (numbers-known.each e l) ∙ s) refl

  -- no rule applies
  pub step-none : has_step m.numbers.items e ≡ false → IsGiven ns m.numbers.items (λ k. rule (trees ns) qs k (tree_at (trees ns) e)) None → made_steps ns m ≡ step_for (trees ns) qs (made_steps ns m) (tree_at (trees ns) e)
  step-none s g = rw (sym (numbers-known.each e l) ∙ s, sym (g.same known numbers-known)) refl

  module _ (new : Making) (x : Source) (s : has_step m.numbers.items e ≡ false) (g : IsGiven ns m.numbers.items (λ k. rule (trees ns) qs k (tree_at (trees ns) e)) (Some x)) (a : AddsStep m new e x) where
    suits : IsSuited (tree_at (trees ns) e) (step_of m.numbers.items x)
    suits =
        suiting (trees ns) qs known (tree_at (trees ns) e) m.numbers.items x
        (subst (λ (z : Option Give). Fine qs known (tree_at (trees ns) e) z) (sym (g.same known numbers-known)) (fine-rule (trees ns) qs known (tree_at (trees ns) e)))

    pub step-making : IsMaking ns new
    step-making = added-making ns table m new h e x l s g.operands suits a

    pub step-steps : made_steps ns new ≡ step_for (trees ns) qs (made_steps ns m) (tree_at (trees ns) e)
    step-steps = added-steps ns table m new h e x l s g.operands suits a ∙ rw (sym (numbers-known.each e l) ∙ s, sym (g.same known numbers-known)) refl
