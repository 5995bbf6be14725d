-- The steps at the start of a plan.
use Rattle.std.proofs.Common.{◌≡◌, ℕ, zero, suc, ◌+◌, ◌<◌, ◌≤◌, ◌⊎◌, List, [], ◌∷◌, ◌++◌, take, drop, drop-cons, map, length, get_or, add-one, Bool, true, false, cond, nat_eq, eq-eqb, eqb-true, sym, refl, ap, ap₂, ◌∙◌, subst, inl, inr, arith, Option, Some, None, is_some, IfSome, IfNone, replicate, count_by}
use Rattle.std.proofs.lemmas.Bool.{false≢true, cases_lt}
use Rattle.std.proofs.lemmas.List.{drop_all, take_all, get_or_append_left, get_or-set_other, length-replicate}
use Rattle.std.proofs.Math.Seq.{get_or-append_seam}
use Rattle.us_expr.specs.Tree.{Tree, RowIndex}
use Rattle.us_format.specs.Lists.{then_do}
use Rattle.us_format.specs.Known.{has, same_tree, OfLevel, Steps, level_of, at_start, with_step, start, passes, expressions, given_steps}
use Rattle.us_format.specs.Declaration.{Query}
use Rattle.us_format.proofs.Counting.{count-cons}
use Rattle.us_format.proofs.Trees.{same_tree-true, same_tree-refl}
use Rattle.us_known.specs.declared.table.Node.{Node}
use Rattle.us_known.specs.declared.table.Node.TheVariants.{Row, Col, Number as NumberNode, Variable as VariableNode, Sum as SumNode, Difference as DifferenceNode, Quotient as QuotientNode, Remainder as RemainderNode}
use Rattle.us_invert.specs.declared.steps.Source.{Source}
use Rattle.us_invert.specs.declared.steps.Source.TheVariants.{Constant, Level}
use Rattle.us_invert.specs.declared.steps.PlanStep.{PlanStep}
use Rattle.us_invert.specs.declared.making.Making.{Making}
use Rattle.us_known.specs.Table.{tree_at, tree_of, trees, IsTable, IsNumberOf}
use Rattle.us_invert.specs.Sources.{gives, has_step, HasOperands}
use Rattle.us_invert.specs.Plan.{IsSuited, steps_of}
use Rattle.us_invert.specs.Made.{step_of, trees_at, made_steps, is_free, AreNumbered, IsMaking, IsEmpty, AddsStep}
use Rattle.us_invert.specs.Start.{IsNodeOf, AreNodesOf, is_node, place_of, level_source, start_source, SameAbove}
use Rattle.us_known.proofs.NodeTrees.{node_at, at-node, at-has, length-trees, length-snoc}
use Rattle.us_known.proofs.Loops.{take-next}
use Rattle.us_invert.proofs.FromNodes.{same-bool}
use Rattle.us_invert.proofs.Adding.{added-making, added-steps}

-- ---- the nodes of the levels

nodes-snoc : (ns : List Node) (es : List Tree) (os : List (Option ℕ)) (e : Tree) (o : Option ℕ) → AreNodesOf ns es os → IsNodeOf ns e o → AreNodesOf ns (es ++ e ∷ []) (os ++ o ∷ [])
nodes-snoc ns es os e o h n = record {
  same_length = omega (arith, h.same_length, length-snoc es e, length-snoc os o);
  each = λ k l. each k (cases_lt k (length es)) l;
}
  where
    each : (k : ℕ) → ((k < length es) ⊎ (length es ≤ k)) → k < length (es ++ e ∷ []) → IsNodeOf ns (tree_at (es ++ e ∷ []) k) (get_or (os ++ o ∷ []) k None)
    each k (inl p) l =
        subst (λ (t : Tree). IsNodeOf ns t (get_or (os ++ o ∷ []) k None)) (sym (get_or_append_left es (e ∷ []) RowIndex k p))
        (subst (λ (x : Option ℕ). IsNodeOf ns (tree_at es k) x) (sym (get_or_append_left os (o ∷ []) None k (omega (arith, p, h.same_length)))) (h.each k p))
    each k (inr p) l =
        let q : length es ≡ k = omega (arith, p, l, length-snoc es e) in
        subst (λ (j : ℕ). IsNodeOf ns (tree_at (es ++ e ∷ []) j) (get_or (os ++ o ∷ []) j None)) q
        (subst (λ (t : Tree). IsNodeOf ns t (get_or (os ++ o ∷ []) (length es) None)) (sym (get_or-append_seam es e [] RowIndex))
        (subst (λ (x : Option ℕ). IsNodeOf ns e x) (sym (ap (λ j. get_or (os ++ o ∷ []) j None) (sym h.same_length) ∙ get_or-append_seam os o [] None)) n))

pub nodes-start : (ns : List Node) → AreNodesOf ns [] []
nodes-start ns = record { same_length = refl; each = λ k l. absurd (omega (arith, l)) }

map-take : {A B : Type 0} (f : A → B) (k : ℕ) (xs : List A) → map f (take k xs) ≡ take k (map f xs)
map-take f zero xs = refl
map-take f (suc k) [] = refl
map-take f (suc k) (x ∷ xs) = ap (λ l. f x ∷ l) (map-take f k xs)

-- one level more
pub nodes-more : {A : Type 0} (f : A → Tree) (ns : List Node) (levels : List A) (os : List (Option ℕ)) (k : ℕ) (x : A) (o : Option ℕ) → AreNodesOf ns (map f (take k levels)) os → k < length levels → x ≡ get_or levels k x
    → IfSome o (λ n. IsNumberOf ns n (f x)) → IfNone o (has (trees ns) (f x) ≡ false) → AreNodesOf ns (map f (take (k + 1) levels)) (os ++ o ∷ [])
nodes-more {A} f ns levels os k x o h l at found absent =
    subst (λ (es : List Tree). AreNodesOf ns es (os ++ o ∷ [])) (sym (ap (map f) (take-next levels k x l at) ∙ snoc (take k levels)))
    (nodes-snoc ns (map f (take k levels)) os (f x) o h (record { found = found; absent = absent }))
  where
    snoc : (xs : List A) → map f (xs ++ x ∷ []) ≡ map f xs ++ f x ∷ []
    snoc [] = refl
    snoc (y ∷ xs) = ap (λ l. f y ∷ l) (snoc xs)

pub nodes-end : {A : Type 0} (f : A → Tree) (ns : List Node) (levels : List A) (os : List (Option ℕ)) (k : ℕ) → AreNodesOf ns (map f (take k levels)) os → length levels ≤ k → AreNodesOf ns (map f levels) os
nodes-end {A} f ns levels os k h l = subst (λ (xs : List A). AreNodesOf ns (map f xs) os) (take_all k levels l) h

-- ---- the number of a level

pub place-found : (os : List (Option ℕ)) (k n : ℕ) → k < length os → is_node n (get_or os k None) ≡ true → place_of k (drop k os) n ≡ Some k
place-found os k n l h = ap (λ (xs : List (Option ℕ)). place_of k xs n) (drop-cons os k None l) ∙ rw h refl

pub place-next : (os : List (Option ℕ)) (k n : ℕ) → k < length os → is_node n (get_or os k None) ≡ false → place_of k (drop k os) n ≡ place_of (k + 1) (drop (k + 1) os) n
place-next os k n l h = ap (λ (xs : List (Option ℕ)). place_of k xs n) (drop-cons os k None l) ∙ rw h refl ∙ ap (λ (j : ℕ). place_of j (drop j os) n) (sym (add-one k))

pub place-end : (os : List (Option ℕ)) (k n : ℕ) → length os ≤ k → place_of k (drop k os) n ≡ None
place-end os k n l = ap (λ (xs : List (Option ℕ)). place_of k xs n) (drop_all k os l)

module _ (ns : List Node) (table : IsTable ns) (n : ℕ) (l : n < length ns) where
  level-test : (e : Tree) (o : Option ℕ) → IsNodeOf ns e o → same_tree e (tree_at (trees ns) n) ≡ is_node n o
  level-test e (Some m) h = same-bool (same_tree e (tree_at (trees ns) n)) (nat_eq m n)
      (λ q. eq-eqb m n (table.apart m n h.found.below l (h.found.is ∙ same_tree-true e (tree_at (trees ns) n) q)))
      (λ q. subst (λ (t : Tree). same_tree e t ≡ true) (sym h.found.is ∙ ap (tree_at (trees ns)) (eqb-true m n q)) (same_tree-refl e))
  level-test e None h = same-bool (same_tree e (tree_at (trees ns) n)) false
      (λ q. absurd (false≢true (sym h.absent ∙ subst (λ (t : Tree). has (trees ns) t ≡ true) (sym (same_tree-true e (tree_at (trees ns) n) q)) (at-has ns table n l))))
      (λ q. absurd (false≢true q))

  place-level : (k : ℕ) (es : List Tree) (os : List (Option ℕ)) → AreNodesOf ns es os → place_of k os n ≡ level_of k es (tree_at (trees ns) n)
  place-level k [] [] h = refl
  place-level k [] (o ∷ os) h = absurd (omega (arith, h.same_length))
  place-level k (e ∷ es) [] h = absurd (omega (arith, h.same_length))
  place-level k (e ∷ es) (o ∷ os) h =
      rw (level-test e o (h.each zero (omega arith))) (go (is_node n o) (place-level (suc k) es os (record { same_length = omega (arith, h.same_length); each = λ j m. h.each (suc j) (omega (arith, m)) })))
    where
      go : (b : Bool) → place_of (suc k) os n ≡ level_of (suc k) es (tree_at (trees ns) n) → cond b (Some k) (place_of (suc k) os n) ≡ cond b (Some k) (level_of (suc k) es (tree_at (trees ns) n))
      go true q = refl
      go false q = q

  gives-level : (o : Option ℕ) → gives (trees ns) (level_source o) ≡ then_do o (λ k. Some (OfLevel k))
  gives-level None = refl
  gives-level (Some k) = refl

  module _ (levels : List Tree) (os : List (Option ℕ)) (h : AreNodesOf ns levels os) where
    by-place : gives (trees ns) (level_source (place_of 0 os n)) ≡ then_do (level_of 0 levels (tree_at (trees ns) n)) (λ k. Some (OfLevel k))
    by-place = gives-level (place_of 0 os n) ∙ ap (λ o. then_do o (λ k. Some (OfLevel k))) (place-level 0 levels os h)

    start-node : (node : Node) → tree_at (trees ns) n ≡ tree_of (trees ns) node → gives (trees ns) (start_source os n node) ≡ at_start levels (tree_at (trees ns) n)
    start-node (NumberNode c) q = sym (ap (at_start levels) q)
    start-node Row q = by-place ∙ ap (λ t. then_do (level_of 0 levels t) (λ k. Some (OfLevel k))) q ∙ sym (ap (at_start levels) q)
    start-node Col q = by-place ∙ ap (λ t. then_do (level_of 0 levels t) (λ k. Some (OfLevel k))) q ∙ sym (ap (at_start levels) q)
    start-node (VariableNode v) q = by-place ∙ ap (λ t. then_do (level_of 0 levels t) (λ k. Some (OfLevel k))) q ∙ sym (ap (at_start levels) q)
    start-node (SumNode a b) q = by-place ∙ ap (λ t. then_do (level_of 0 levels t) (λ k. Some (OfLevel k))) q ∙ sym (ap (at_start levels) q)
    start-node (DifferenceNode a b) q = by-place ∙ ap (λ t. then_do (level_of 0 levels t) (λ k. Some (OfLevel k))) q ∙ sym (ap (at_start levels) q)
    start-node (QuotientNode a k) q = by-place ∙ ap (λ t. then_do (level_of 0 levels t) (λ k. Some (OfLevel k))) q ∙ sym (ap (at_start levels) q)
    start-node (RemainderNode a k) q = by-place ∙ ap (λ t. then_do (level_of 0 levels t) (λ k. Some (OfLevel k))) q ∙ sym (ap (at_start levels) q)

    start-gives : gives (trees ns) (start_source os n (node_at ns n)) ≡ at_start levels (tree_at (trees ns) n)
    start-gives = start-node (node_at ns n) (at-node ns table n l)

  -- what stands at the start has no operands, and suits its node
  abbrev Plain : Source → Type 0
  Plain x = (numbers : List (Option ℕ)) → HasOperands numbers x × IsSuited (tree_at (trees ns) n) (step_of numbers x)

  plain-level : (o : Option ℕ) (x : Source) → Some x ≡ level_source o → Plain x
  plain-level None x h = absurd cc
  plain-level (Some k) x h = let q : Level k ≡ x = cc in subst (λ (y : Source). Plain y) q (λ numbers. (tt, tt))

  plain-start : (os : List (Option ℕ)) (node : Node) (x : Source) → tree_at (trees ns) n ≡ tree_of (trees ns) node → Some x ≡ start_source os n node → Plain x
  plain-start os (NumberNode c) x t h = let q : Constant c ≡ x = cc in subst (λ (y : Source). Plain y) q (λ numbers. (tt, t))
  plain-start os Row x t h = plain-level (place_of 0 os n) x h
  plain-start os Col x t h = plain-level (place_of 0 os n) x h
  plain-start os (VariableNode v) x t h = plain-level (place_of 0 os n) x h
  plain-start os (SumNode a b) x t h = plain-level (place_of 0 os n) x h
  plain-start os (DifferenceNode a b) x t h = plain-level (place_of 0 os n) x h
  plain-start os (QuotientNode a k) x t h = plain-level (place_of 0 os n) x h
  plain-start os (RemainderNode a k) x t h = plain-level (place_of 0 os n) x h

  module _ (levels : List Tree) (os : List (Option ℕ)) (h : AreNodesOf ns levels os) (m : Making) (making : IsMaking ns m) where
    -- no step for this node
    pub one-none : None ≡ start_source os n (node_at ns n) → made_steps ns m ≡ with_step (made_steps ns m) (tree_at (trees ns) n) (at_start levels (tree_at (trees ns) n))
    one-none e = sym (ap (with_step (made_steps ns m) (tree_at (trees ns) n)) (sym (start-gives levels os h) ∙ ap (gives (trees ns)) (sym e)))

    module _ (new : Making) (x : Source) (free : has_step m.numbers.items n ≡ false) (e : Some x ≡ start_source os n (node_at ns n)) (a : AddsStep m new n x) where
      pub one-making : IsMaking ns new
      one-making = let p = plain-start os (node_at ns n) x (at-node ns table n l) e m.numbers.items in added-making ns table m new making n x l free p.0 p.1 a

      pub one-steps : made_steps ns new ≡ with_step (made_steps ns m) (tree_at (trees ns) n) (at_start levels (tree_at (trees ns) n))
      one-steps =
          let p = plain-start os (node_at ns n) x (at-node ns table n l) e m.numbers.items in
          added-steps ns table m new making n x l free p.0 p.1 a
          ∙ ap (with_step (made_steps ns m) (tree_at (trees ns) n)) (ap (gives (trees ns)) e ∙ start-gives levels os h)

      pub one-others : SameAbove n m.numbers.items new.numbers.items
      one-others k q =
          ap (λ (xs : List (Option ℕ)). has_step xs k) a.numbers
          ∙ ap is_some (get_or-set_other m.numbers.items n k (Some (length m.made.items)) None (above n k q))
        where
          above : (n k : ℕ) → n < k → k ≡ n → ⊥
          above n k q e = omega (arith, q, e)

-- ---- from node to node

-- before the node n: what is left of the start gives the whole, and no node from n on has a step
pub record IsStarting (ns : List Node) (levels : List Tree) (m : Making) (n : ℕ) : Type 0 where
  pub making : IsMaking ns m
  pub steps : start levels (drop n (trees ns)) (made_steps ns m) ≡ start levels (trees ns) []
  pub free : (k : ℕ) → n ≤ k → has_step m.numbers.items k ≡ false

-- a plan without steps
empty-free : (n : ℕ) → count_by is_free (replicate n None) ≡ n
empty-free zero = refl
empty-free (suc n) = count-cons is_free None (replicate n None) ∙ more (count_by is_free (replicate n None)) n (empty-free n)
  where
    more : (a n : ℕ) → a ≡ n → 1 + a ≡ suc n
    more a n e = omega (arith, e)

abbrev nothing : Option ℕ
nothing = None

none-at : (n k : ℕ) → get_or (replicate n nothing) k None ≡ None
none-at zero k = refl
none-at (suc n) zero = refl
none-at (suc n) (suc k) = none-at n k

empty-numbered : (ns : List Node) → AreNumbered ns [] [] (replicate (length ns) None)
empty-numbered ns = record {
  steps_are = record { same_length = refl; apart = λ i j hi hj q. absurd (omega (arith, hi)); earlier = λ k l. absurd (omega (arith, l)); suited = λ k l. absurd (omega (arith, l)) };
  same_length = length-replicate (length ns) None;
  nodes = λ k l. absurd (omega (arith, l));
  there = λ n k e. absurd (never n k e);
  back = λ k l. absurd (omega (arith, l));
  count = omega (arith, empty-free (length ns));
}
  where
    never : (n k : ℕ) → get_or (replicate (length ns) nothing) n None ≡ Some k → ⊥
    never n k e = let q : nothing ≡ Some k = sym (none-at (length ns) n) ∙ e in cc

module _ (ns : List Node) (levels : List Tree) where
  pub starting-first : (m : Making) → IsEmpty (length ns) m → IsStarting ns levels m 0
  starting-first m e = record {
    making =
        subst (λ (made : List ℕ). AreNumbered ns made m.steps.items m.numbers.items) (sym e.made)
        (subst (λ (steps : List PlanStep). AreNumbered ns [] steps m.numbers.items) (sym e.steps)
        (subst (λ (numbers : List (Option ℕ)). AreNumbered ns [] [] numbers) (sym e.numbers) (empty-numbered ns)));
    steps = ap (start levels (trees ns)) (ap (λ (made : List ℕ). steps_of (trees_at ns made) m.steps.items) e.made);
    free = λ k l. ap is_some (ap (λ (xs : List (Option ℕ)). get_or xs k None) e.numbers ∙ none-at (length ns) k);
  }

  pub starting-next : (m new : Making) (n : ℕ) → IsStarting ns levels m n → n < length ns → IsMaking ns new → made_steps ns new ≡ with_step (made_steps ns m) (tree_at (trees ns) n) (at_start levels (tree_at (trees ns) n))
      → SameAbove n m.numbers.items new.numbers.items → IsStarting ns levels new (n + 1)
  starting-next m new n h l making s same = record {
    making = making;
    steps =
        ap₂ (λ (k : ℕ) (z : Steps). start levels (drop k (trees ns)) z) (add-one n) s
        ∙ sym (ap (λ (us : List Tree). start levels us (made_steps ns m)) (drop-cons (trees ns) n RowIndex (subst (λ (k : ℕ). n < k) (sym (length-trees ns)) l)))
        ∙ h.steps;
    free = λ k q. same k (omega (arith, q)) ∙ h.free k (omega (arith, q));
  }

  pub starting-end : (m : Making) (n : ℕ) → length ns ≤ n → IsStarting ns levels m n → made_steps ns m ≡ start levels (trees ns) []
  starting-end m n l h = sym (ap (λ (us : List Tree). start levels us (made_steps ns m)) (drop_all n (trees ns) (subst (λ (k : ℕ). k ≤ n) (sym (length-trees ns)) l))) ∙ h.steps

-- ---- the whole

pub all-steps : (ns : List Node) (levels : List Tree) (qs : List Query) (count : ℕ) (started made : Steps) → length levels ≤ count → trees ns ≡ expressions levels qs → started ≡ start levels (trees ns) [] → made ≡ passes (length ns) (trees ns) qs started
    → made ≡ given_steps levels qs count
all-steps ns levels qs count started made l same s p =
    p ∙ ap₂ (λ (k : ℕ) (z : Steps). passes k (trees ns) qs z) (sym (length-trees ns)) (s ∙ ap (λ (xs : List Tree). start xs (trees ns) []) (sym (take_all count levels l)))
    ∙ ap (λ (es : List Tree). passes (length es) es qs (start (take count levels) es [])) same
