-- What gives a node its value gives its expression the value.
use Rattle.std.proofs.Common.{◌≡◌, ℕ, zero, suc, ◌+◌, ◌<◌, List, [], ◌∷◌, ◌≤◌, map, length, get_or, drop, drop-cons, add-one, Bool, true, false, cond, ◌&&◌, nat_eq, eq-eqb, eqb-true, sym, refl, ap, ap₂, ◌∙◌, subst, inl, inr, arith, Option, Some, None, is_some, IfSome}
use Rattle.std.specs.Prelude.{slice_get}
use Rattle.std.proofs.lemmas.Bool.{false≢true}
use Rattle.std.proofs.lemmas.List.{length-map, drop_all}
use Rattle.std.proofs.lemmas.Option.{slice_get-get_or}
use Rattle.us_invert.specs.declared.steps.Way.{Way}
use Rattle.us_expr.specs.declared.queries.Query.{Query as QueryCode}
use Rattle.us_expr.specs.declared.queries.Axis.{Axis}
use Rattle.us_expr.specs.declared.queries.Axis.TheVariants.{Rows as RowAxis, Cols as ColAxis}
use Rattle.us_expr.specs.Tree.{Tree, RowIndex, Variable, Sum, Difference, Quotient, Remainder}
use Rattle.us_format.specs.Lists.{or_else, when, first_of}
use Rattle.us_format.specs.Declaration.{Query, SumOf, Enumerate, Reorder, Schedule, axis_of, index_of, query_of}
use Rattle.us_format.specs.Known.{has, same_tree, Give, Plus, Minus, Joined as JoinedGive, OrderAt, RowsAt, from_sum, from_difference, from_quotient, from_reorder, from_schedule, from_operands, order_for, rows_for}
use Rattle.us_format.proofs.Trees.{same_tree-true, same_tree-refl}
use Rattle.us_known.specs.declared.table.Node.{Node}
use Rattle.us_known.specs.declared.table.Node.TheVariants.{Row, Col, Number as NumberNode, Variable as VariableNode, Sum as SumNode, Difference as DifferenceNode, Quotient as QuotientNode, Remainder as RemainderNode}
use Rattle.us_invert.specs.declared.steps.Source.{Source}
use Rattle.us_invert.specs.declared.steps.Source.TheVariants.{Total, Less, Joined, Over, Rest, Order, Rows}
use Rattle.us_known.specs.Table.{tree_at, tree_of, trees, IsBelow, IsTable, IsNumberOf, IsNoNode}
use Rattle.us_invert.specs.Sources.{give_of, gives, has_step, HasOperands, AreNumbersOf, IsGiven, sum_source, difference_source, IsQuotientSource, is_index, order_source, IsRowsSource, operands_source, from_way, by_ways}
use Rattle.us_known.proofs.NodeTrees.{node_at, at-node, below-at, number-of-node, absent, length-trees}

-- ---- choices

pub same-bool : (a b : Bool) → (a ≡ true → b ≡ true) → (b ≡ true → a ≡ true) → a ≡ b
same-bool true b f g = sym (f refl)
same-bool false true f g = g refl
same-bool false false f g = refl

pub one-choice : (ts : List Tree) (p : Bool) (x : Source) (g : Give) → give_of ts x ≡ g → gives ts (when p x) ≡ when p g
one-choice ts true x g e = ap Some e
one-choice ts false x g e = refl

pub two-choices : (ts : List Tree) (h p q : Bool) (x y : Source) (f g : Give) → give_of ts x ≡ f → give_of ts y ≡ g → gives ts (cond h (or_else (when p x) (when q y)) None) ≡ cond h (or_else (when p f) (when q g)) None
two-choices ts false p q x y f g e d = refl
two-choices ts true true q x y f g e d = ap Some e
two-choices ts true false true x y f g e d = ap Some d
two-choices ts true false false x y f g e d = refl

pub when-if : (P : Source → Type 0) (p : Bool) (x : Source) → (p ≡ true → P x) → IfSome (when p x) P
when-if P true x h = h refl
when-if P false x h = tt

pub two-if : (P : Source → Type 0) (h p q : Bool) (x y : Source) → (h ≡ true → p ≡ true → P x) → (h ≡ true → q ≡ true → P y) → IfSome (cond h (or_else (when p x) (when q y)) None) P
two-if P false p q x y f g = tt
two-if P true true q x y f g = f refl refl
two-if P true false true x y f g = g refl refl
two-if P true false false x y f g = tt

pub right-of : (a b : Bool) → (a && b) ≡ true → b ≡ true
right-of true b h = h
right-of false b h = absurd (false≢true h)

pub left-of : (a b : Bool) → (a && b) ≡ true → a ≡ true
left-of true b h = refl
left-of false b h = absurd (false≢true h)

pub when-none : (a b c : Bool) (g : Give) → c ≡ false → when (a && (b && c)) g ≡ None
when-none true true c g h = rw h refl
when-none true false c g h = refl
when-none false b c g h = refl

pub or-none : {A : Type 0} (a b : Option A) → or_else (or_else a None) b ≡ or_else a b
or-none (Some x) b = refl
or-none None b = refl

-- ---- along lists of choices

-- f and g give the same for all expressions that have these steps
pub record IsSame (ns : List Node) (numbers : List (Option ℕ)) (f g : List Tree → Option Give) : Type 0 where
  pub same : (known : List Tree) → AreNumbersOf ns numbers known → f known ≡ g known

module _ (ns : List Node) (numbers : List (Option ℕ)) where
  pub same-self : (f : List Tree → Option Give) → IsSame ns numbers f f
  same-self f = record { same = λ known a. refl }

  pub same-by : (f g h : List Tree → Option Give) → IsSame ns numbers f g → ((known : List Tree) → g known ≡ h known) → IsSame ns numbers f h
  same-by f g h s e = record { same = λ known a. s.same known a ∙ e known }

  pub given-by : (f g : List Tree → Option Give) (x : Option Source) → IsGiven ns numbers f x → ((known : List Tree) → f known ≡ g known) → IsGiven ns numbers g x
  given-by f g x h e = record { same = λ known a. h.same known a ∙ e known; operands = h.operands }

  -- the first choice gives it
  pub given-first : (f g h : List Tree → Option Give) (o : Option Source) → IsSame ns numbers f (λ k. or_else (g k) (h k)) → IsGiven ns numbers g o → is_some o ≡ true → IsGiven ns numbers f o
  given-first f g h None s o t = absurd (false≢true t)
  given-first f g h (Some x) s o t = record { same = λ known a. ap (λ z. or_else z (h known)) (o.same known a) ∙ sym (s.same known a); operands = o.operands }

  -- the first choice gives nothing
  pub given-later : (f g h : List Tree → Option Give) (o : Option Source) → IsSame ns numbers f (λ k. or_else (g k) (h k)) → IsGiven ns numbers g o → is_some o ≡ false → IsSame ns numbers f h
  given-later f g h None s o t = record { same = λ known a. s.same known a ∙ ap (λ z. or_else z (h known)) (sym (o.same known a)) }
  given-later f g h (Some x) s o t = absurd (false≢true (sym t))

  -- nothing is left
  pub given-end : (f : List Tree → Option Give) → IsSame ns numbers f (λ k. None) → IsGiven ns numbers f None
  given-end f s = record { same = λ known a. sym (s.same known a); operands = tt }

  pub given-last : (f g : List Tree → Option Give) (x : Option Source) → IsSame ns numbers f g → IsGiven ns numbers g x → IsGiven ns numbers f x
  given-last f g x s o = record { same = λ known a. o.same known a ∙ sym (s.same known a); operands = o.operands }

pub drop-map : {A B : Type 0} (f : A → B) (xs : List A) (n : ℕ) (x : A) → n < length xs → x ≡ get_or xs n x → drop n (map f xs) ≡ f x ∷ drop (n + 1) (map f xs)
drop-map f [] n x l e = absurd (omega (arith, l))
drop-map {A} {B} f (y ∷ xs) zero x l e = ap (λ (z : A). f z ∷ map f xs) (sym e)
drop-map f (y ∷ xs) (suc n) x l e = drop-map f xs n x (omega (arith, l)) e ∙ ap (λ k. f x ∷ drop k (f y ∷ map f xs)) (sym (suc-plus n))
  where
    suc-plus : (n : ℕ) → suc n + 1 ≡ suc (n + 1)
    suc-plus n = omega arith

-- ---- one node from another

module _ (ns : List Node) (table : IsTable ns) (numbers : List (Option ℕ)) where
  abbrev pub ts : List Tree
  ts = trees ns

  pub same-number : (i j : ℕ) → i < length ns → j < length ns → same_tree (tree_at ts i) (tree_at ts j) ≡ nat_eq i j
  same-number i j l m =
      same-bool _ _ (λ h. eq-eqb i j (table.apart i j l m (same_tree-true (tree_at ts i) (tree_at ts j) h)))
      (λ h. subst (λ (k : ℕ). same_tree (tree_at ts i) (tree_at ts k) ≡ true) (eqb-true i j h) (same_tree-refl (tree_at ts i)))

  pub has-node : (known : List Tree) → AreNumbersOf ns numbers known → (k : ℕ) (t : Tree) → k < length ns → tree_at ts k ≡ t → has known t ≡ has_step numbers k
  has-node known a k t l e = subst (λ (z : Tree). has known z ≡ has_step numbers k) e (sym (a.each k l))

  -- what is not in the table is not known
  pub not-known : (known : List Tree) → AreNumbersOf ns numbers known → (n : Node) → IsBelow (length ns) n → IsNoNode ns n → has known (tree_of ts n) ≡ false
  not-known known a n b none = go (has known (tree_of ts n)) refl
    where
      go : (h : Bool) → has known (tree_of ts n) ≡ h → h ≡ false
      go true h = absurd (false≢true (sym (absent ns table n b none) ∙ a.members (tree_of ts n) h))
      go false h = refl

  module _ (e s : ℕ) (le : e < length ns) (ls : s < length ns) where
    sum-node : (n : Node) → tree_at ts s ≡ tree_of ts n → IsBelow (length ns) n → (known : List Tree) → AreNumbersOf ns numbers known → gives ts (sum_source numbers e s n) ≡ from_sum known (tree_at ts e) (tree_at ts s)
    sum-node (SumNode a b) q w known r =
        subst (λ (z : Tree). gives ts (sum_source numbers e s (SumNode a b)) ≡ from_sum known (tree_at ts e) z) (sym q)
        (rw (has-node known r s (Sum (tree_at ts a) (tree_at ts b)) ls q, same-number a e w.0 le, same-number b e w.1 le, has-node known r a (tree_at ts a) w.0 refl, has-node known r b (tree_at ts b) w.1 refl)
        (two-choices ts (has_step numbers s) (nat_eq a e && has_step numbers b) (nat_eq b e && has_step numbers a) (Less s b) (Less s a) _ _
        (ap (λ (z : Tree). Minus z (tree_at ts b)) q) (ap (λ (z : Tree). Minus z (tree_at ts a)) q)))
    sum-node Row q w known r = subst (λ (z : Tree). None ≡ from_sum known (tree_at ts e) z) (sym q) refl
    sum-node Col q w known r = subst (λ (z : Tree). None ≡ from_sum known (tree_at ts e) z) (sym q) refl
    sum-node (NumberNode c) q w known r = subst (λ (z : Tree). None ≡ from_sum known (tree_at ts e) z) (sym q) refl
    sum-node (VariableNode c) q w known r = subst (λ (z : Tree). None ≡ from_sum known (tree_at ts e) z) (sym q) refl
    sum-node (DifferenceNode a b) q w known r = subst (λ (z : Tree). None ≡ from_sum known (tree_at ts e) z) (sym q) refl
    sum-node (QuotientNode a k) q w known r = subst (λ (z : Tree). None ≡ from_sum known (tree_at ts e) z) (sym q) refl
    sum-node (RemainderNode a k) q w known r = subst (λ (z : Tree). None ≡ from_sum known (tree_at ts e) z) (sym q) refl

    sum-operands : (n : Node) → IfSome (sum_source numbers e s n) (HasOperands numbers)
    sum-operands (SumNode a b) = two-if (HasOperands numbers) (has_step numbers s) _ _ (Less s b) (Less s a) (λ h p. (h, right-of _ _ p)) (λ h p. (h, right-of _ _ p))
    sum-operands Row = tt
    sum-operands Col = tt
    sum-operands (NumberNode c) = tt
    sum-operands (VariableNode c) = tt
    sum-operands (DifferenceNode a b) = tt
    sum-operands (QuotientNode a k) = tt
    sum-operands (RemainderNode a k) = tt

    pub sum-given : (x : Option Source) → x ≡ sum_source numbers e s (node_at ns s) → IsGiven ns numbers (λ known. from_sum known (tree_at ts e) (tree_at ts s)) x
    sum-given x q = subst (λ (z : Option Source). IsGiven ns numbers (λ known. from_sum known (tree_at ts e) (tree_at ts s)) z) (sym q)
        (record { same = sum-node (node_at ns s) (at-node ns table s ls) (below-at ns table s ls); operands = sum-operands (node_at ns s) })

    difference-node : (n : Node) → tree_at ts s ≡ tree_of ts n → IsBelow (length ns) n → (known : List Tree) → AreNumbersOf ns numbers known → gives ts (difference_source numbers e s n) ≡ from_difference known (tree_at ts e) (tree_at ts s)
    difference-node (DifferenceNode a b) q w known r =
        subst (λ (z : Tree). gives ts (difference_source numbers e s (DifferenceNode a b)) ≡ from_difference known (tree_at ts e) z) (sym q)
        (rw (has-node known r s (Difference (tree_at ts a) (tree_at ts b)) ls q, same-number a e w.0 le, same-number b e w.1 le, has-node known r a (tree_at ts a) w.0 refl, has-node known r b (tree_at ts b) w.1 refl)
        (two-choices ts (has_step numbers s) (nat_eq a e && has_step numbers b) (nat_eq b e && has_step numbers a) (Total s b) (Less a s) _ _
        (ap (λ (z : Tree). Plus z (tree_at ts b)) q) (ap (λ (z : Tree). Minus (tree_at ts a) z) q)))
    difference-node Row q w known r = subst (λ (z : Tree). None ≡ from_difference known (tree_at ts e) z) (sym q) refl
    difference-node Col q w known r = subst (λ (z : Tree). None ≡ from_difference known (tree_at ts e) z) (sym q) refl
    difference-node (NumberNode c) q w known r = subst (λ (z : Tree). None ≡ from_difference known (tree_at ts e) z) (sym q) refl
    difference-node (VariableNode c) q w known r = subst (λ (z : Tree). None ≡ from_difference known (tree_at ts e) z) (sym q) refl
    difference-node (SumNode a b) q w known r = subst (λ (z : Tree). None ≡ from_difference known (tree_at ts e) z) (sym q) refl
    difference-node (QuotientNode a k) q w known r = subst (λ (z : Tree). None ≡ from_difference known (tree_at ts e) z) (sym q) refl
    difference-node (RemainderNode a k) q w known r = subst (λ (z : Tree). None ≡ from_difference known (tree_at ts e) z) (sym q) refl

    difference-operands : (n : Node) → IfSome (difference_source numbers e s n) (HasOperands numbers)
    difference-operands (DifferenceNode a b) = two-if (HasOperands numbers) (has_step numbers s) _ _ (Total s b) (Less a s) (λ h p. (h, right-of _ _ p)) (λ h p. (right-of _ _ p, h))
    difference-operands Row = tt
    difference-operands Col = tt
    difference-operands (NumberNode c) = tt
    difference-operands (VariableNode c) = tt
    difference-operands (SumNode a b) = tt
    difference-operands (QuotientNode a k) = tt
    difference-operands (RemainderNode a k) = tt

    pub difference-given : (x : Option Source) → x ≡ difference_source numbers e s (node_at ns s) → IsGiven ns numbers (λ known. from_difference known (tree_at ts e) (tree_at ts s)) x
    difference-given x q = subst (λ (z : Option Source). IsGiven ns numbers (λ known. from_difference known (tree_at ts e) (tree_at ts s)) z) (sym q)
        (record { same = difference-node (node_at ns s) (at-node ns table s ls) (below-at ns table s ls); operands = difference-operands (node_at ns s) })

    -- ---- quotients

    quotient-some : (a k m : ℕ) → a < length ns → tree_at ts s ≡ Quotient (tree_at ts a) k → slice_get ns m ≡ Some (RemainderNode a k)
        → IsGiven ns numbers (λ known. from_quotient known (tree_at ts e) (tree_at ts s)) (when (nat_eq a e && (has_step numbers s && has_step numbers m)) (Joined s m k))
    quotient-some a k m la q at =
        let n : IsNumberOf ns m (Remainder (tree_at ts a) k) = number-of-node ns table m (RemainderNode a k) at in
        record {
          same = λ known r. subst (λ (z : Tree). gives ts (when (nat_eq a e && (has_step numbers s && has_step numbers m)) (Joined s m k)) ≡ from_quotient known (tree_at ts e) z) (sym q)
              (rw (same-number a e la le, has-node known r s (Quotient (tree_at ts a) k) ls q, has-node known r m (Remainder (tree_at ts a) k) n.below n.is)
              (one-choice ts _ (Joined s m k) _ (ap₂ (λ (x y : Tree). JoinedGive x y k) q n.is)));
          operands = when-if (HasOperands numbers) (nat_eq a e && (has_step numbers s && has_step numbers m)) (Joined s m k)
              (λ h. (left-of (has_step numbers s) (has_step numbers m) (right-of (nat_eq a e) _ h), right-of (has_step numbers s) (has_step numbers m) (right-of (nat_eq a e) _ h)));
        }

    quotient-none : (a k : ℕ) → a < length ns → tree_at ts s ≡ Quotient (tree_at ts a) k → IsNoNode ns (RemainderNode a k) → IsGiven ns numbers (λ known. from_quotient known (tree_at ts e) (tree_at ts s)) None
    quotient-none a k la q none = record {
      same = λ known r. subst (λ (z : Tree). None ≡ from_quotient known (tree_at ts e) z) (sym q)
          (sym (when-none (same_tree (tree_at ts a) (tree_at ts e)) (has known (Quotient (tree_at ts a) k)) (has known (Remainder (tree_at ts a) k)) _ (not-known known r (RemainderNode a k) la none)));
      operands = tt;
    }

    quotient-other : (t : Tree) → tree_at ts s ≡ t → ((known : List Tree) → from_quotient known (tree_at ts e) t ≡ None) → IsGiven ns numbers (λ known. from_quotient known (tree_at ts e) (tree_at ts s)) None
    quotient-other t q h = record { same = λ known r. subst (λ (z : Tree). None ≡ from_quotient known (tree_at ts e) z) (sym q) (sym (h known)); operands = tt }

    quotient-node : (n : Node) → tree_at ts s ≡ tree_of ts n → IsBelow (length ns) n → (x : Option Source) → IsQuotientSource ns numbers e s n x → IsGiven ns numbers (λ known. from_quotient known (tree_at ts e) (tree_at ts s)) x
    quotient-node (QuotientNode a k) q w x (inl (m, at, is)) = subst (λ (z : Option Source). IsGiven ns numbers (λ known. from_quotient known (tree_at ts e) (tree_at ts s)) z) (sym is) (quotient-some a k m w q at)
    quotient-node (QuotientNode a k) q w x (inr (none, is)) = subst (λ (z : Option Source). IsGiven ns numbers (λ known. from_quotient known (tree_at ts e) (tree_at ts s)) z) (sym is) (quotient-none a k w q none)
    quotient-node Row q w x is = subst (λ (z : Option Source). IsGiven ns numbers (λ known. from_quotient known (tree_at ts e) (tree_at ts s)) z) (sym is) (quotient-other _ q (λ known. refl))
    quotient-node Col q w x is = subst (λ (z : Option Source). IsGiven ns numbers (λ known. from_quotient known (tree_at ts e) (tree_at ts s)) z) (sym is) (quotient-other _ q (λ known. refl))
    quotient-node (NumberNode c) q w x is = subst (λ (z : Option Source). IsGiven ns numbers (λ known. from_quotient known (tree_at ts e) (tree_at ts s)) z) (sym is) (quotient-other _ q (λ known. refl))
    quotient-node (VariableNode c) q w x is = subst (λ (z : Option Source). IsGiven ns numbers (λ known. from_quotient known (tree_at ts e) (tree_at ts s)) z) (sym is) (quotient-other _ q (λ known. refl))
    quotient-node (SumNode a b) q w x is = subst (λ (z : Option Source). IsGiven ns numbers (λ known. from_quotient known (tree_at ts e) (tree_at ts s)) z) (sym is) (quotient-other _ q (λ known. refl))
    quotient-node (DifferenceNode a b) q w x is = subst (λ (z : Option Source). IsGiven ns numbers (λ known. from_quotient known (tree_at ts e) (tree_at ts s)) z) (sym is) (quotient-other _ q (λ known. refl))
    quotient-node (RemainderNode a b) q w x is = subst (λ (z : Option Source). IsGiven ns numbers (λ known. from_quotient known (tree_at ts e) (tree_at ts s)) z) (sym is) (quotient-other _ q (λ known. refl))

    pub quotient-given : (x : Option Source) → IsQuotientSource ns numbers e s (node_at ns s) x → IsGiven ns numbers (λ known. from_quotient known (tree_at ts e) (tree_at ts s)) x
    quotient-given x h = quotient-node (node_at ns s) (at-node ns table s ls) (below-at ns table s ls) x h

  -- ---- queries

  pub index-node : (axis : Axis) (n : Node) → same_tree (index_of axis) (tree_of ts n) ≡ is_index axis n
  index-node RowAxis Row = refl
  index-node RowAxis Col = refl
  index-node RowAxis (NumberNode c) = refl
  index-node RowAxis (VariableNode c) = refl
  index-node RowAxis (SumNode a b) = refl
  index-node RowAxis (DifferenceNode a b) = refl
  index-node RowAxis (QuotientNode a k) = refl
  index-node RowAxis (RemainderNode a k) = refl
  index-node ColAxis Row = refl
  index-node ColAxis Col = refl
  index-node ColAxis (NumberNode c) = refl
  index-node ColAxis (VariableNode c) = refl
  index-node ColAxis (SumNode a b) = refl
  index-node ColAxis (DifferenceNode a b) = refl
  index-node ColAxis (QuotientNode a k) = refl
  index-node ColAxis (RemainderNode a k) = refl

  module _ (e s v : ℕ) (le : e < length ns) (at : slice_get ns s ≡ Some (VariableNode v)) where
    pub variable : IsNumberOf ns s (Variable v)
    variable = number-of-node ns table s (VariableNode v) at

    pub index-at : (axis : Axis) → same_tree (index_of axis) (tree_at ts e) ≡ is_index axis (node_at ns e)
    index-at axis = subst (λ (z : Tree). same_tree (index_of axis) z ≡ is_index axis (node_at ns e)) (sym (at-node ns table e le)) (index-node axis (node_at ns e))

    -- what the query with the number q gives
    abbrev pub order_one : ℕ → Query → List Tree → Option Give
    order_one q x known = order_for known (tree_at ts e) v q (x ∷ [])

    pub order_for-cons : (q : ℕ) (x : Query) (xs : List Query) (known : List Tree) → order_for known (tree_at ts e) v q (x ∷ xs) ≡ or_else (order_one q x known) (order_for known (tree_at ts e) v (suc q) xs)
    order_for-cons q (Reorder w t) xs known =
        sym (or-none (when (nat_eq w v && (same_tree (index_of (axis_of t)) (tree_at ts e) && has known (Variable v))) (OrderAt q (Variable v))) (order_for known (tree_at ts e) v (suc q) xs))
    order_for-cons q (SumOf w t) xs known = refl
    order_for-cons q (Enumerate w t) xs known = refl
    order_for-cons q (Schedule l u t n) xs known = refl

    order-none : (q : ℕ) (x : Query) → ((known : List Tree) → order_one q x known ≡ None) → IsGiven ns numbers (order_one q x) None
    order-none q x h = record { same = λ known r. sym (h known); operands = tt }

    pub order-given : (q : ℕ) (x : Query) (o : Option Source) → o ≡ order_source numbers (node_at ns e) s v q x → IsGiven ns numbers (order_one q x) o
    order-given q (Reorder w t) o is =
        subst (λ (z : Option Source). IsGiven ns numbers (order_one q (Reorder w t)) z) (sym is)
        (record {
          same = λ known r. rw (index-at (axis_of t), has-node known r s (Variable v) variable.below variable.is)
              (one-choice ts (nat_eq w v && (is_index (axis_of t) (node_at ns e) && has_step numbers s)) (Order q s) (OrderAt q (Variable v)) (ap (OrderAt q) variable.is) ∙ sym (or-else-none _));
          operands = when-if (HasOperands numbers) (nat_eq w v && (is_index (axis_of t) (node_at ns e) && has_step numbers s)) (Order q s) (λ h. right-of (is_index (axis_of t) (node_at ns e)) _ (right-of (nat_eq w v) _ h));
        })
      where
        or-else-none : (a : Option Give) → or_else a None ≡ a
        or-else-none None = refl
        or-else-none (Some x) = refl
    order-given q (SumOf w t) o is = subst (λ (z : Option Source). IsGiven ns numbers (order_one q (SumOf w t)) z) (sym is) (order-none q (SumOf w t) (λ known. refl))
    order-given q (Enumerate w t) o is = subst (λ (z : Option Source). IsGiven ns numbers (order_one q (Enumerate w t)) z) (sym is) (order-none q (Enumerate w t) (λ known. refl))
    order-given q (Schedule l u t n) o is = subst (λ (z : Option Source). IsGiven ns numbers (order_one q (Schedule l u t n)) z) (sym is) (order-none q (Schedule l u t n) (λ known. refl))

    abbrev pub rows_one : ℕ → Query → List Tree → Option Give
    rows_one q x known = rows_for known (tree_at ts e) v q (x ∷ [])

    pub rows_for-cons : (q : ℕ) (x : Query) (xs : List Query) (known : List Tree) → rows_for known (tree_at ts e) v q (x ∷ xs) ≡ or_else (rows_one q x known) (rows_for known (tree_at ts e) v (suc q) xs)
    rows_for-cons q (Schedule l u t n) xs known =
        sym (or-none (when (nat_eq l v && (same_tree (index_of (axis_of t)) (tree_at ts e) && (has known (Variable l) && has known (Variable u)))) (RowsAt q (Variable l) (Variable u))) (rows_for known (tree_at ts e) v (suc q) xs))
    rows_for-cons q (SumOf w t) xs known = refl
    rows_for-cons q (Enumerate w t) xs known = refl
    rows_for-cons q (Reorder w t) xs known = refl

    -- what the queries from the number n on give
    abbrev pub orders : List QueryCode → ℕ → List Tree → Option Give
    orders queries n known = order_for known (tree_at ts e) v n (drop n (map query_of queries))

    pub orders-split : (f : List Tree → Option Give) (queries : List QueryCode) (n : ℕ) (x : QueryCode) → n < length queries → x ≡ get_or queries n x → IsSame ns numbers f (orders queries n)
        → IsSame ns numbers f (λ known. or_else (order_one n (query_of x) known) (orders queries (n + 1) known))
    orders-split f queries n x l at s =
        same-by ns numbers f (orders queries n) _ s (λ known.
        ap (order_for known (tree_at ts e) v n) (drop-map query_of queries n x l at)
        ∙ order_for-cons n (query_of x) (drop (n + 1) (map query_of queries)) known
        ∙ ap (λ (k : ℕ). or_else (order_one n (query_of x) known) (order_for known (tree_at ts e) v k (drop (n + 1) (map query_of queries)))) (sym (add-one n)))

    pub orders-found : (f : List Tree → Option Give) (queries : List QueryCode) (n : ℕ) (x : QueryCode) (o : Option Source) → IsSame ns numbers f (orders queries n) → n < length queries → x ≡ get_or queries n x
        → o ≡ order_source numbers (node_at ns e) s v n (query_of x) → is_some o ≡ true → IsGiven ns numbers f o
    orders-found f queries n x o s l at is t = given-first ns numbers f (order_one n (query_of x)) (orders queries (n + 1)) o (orders-split f queries n x l at s) (order-given n (query_of x) o is) t

    pub orders-next : (f : List Tree → Option Give) (queries : List QueryCode) (n : ℕ) (x : QueryCode) (o : Option Source) → IsSame ns numbers f (orders queries n) → n < length queries → x ≡ get_or queries n x
        → o ≡ order_source numbers (node_at ns e) s v n (query_of x) → is_some o ≡ false → IsSame ns numbers f (orders queries (n + 1))
    orders-next f queries n x o s l at is t = given-later ns numbers f (order_one n (query_of x)) (orders queries (n + 1)) o (orders-split f queries n x l at s) (order-given n (query_of x) o is) t

    pub orders-end : (f : List Tree → Option Give) (queries : List QueryCode) (n : ℕ) → length queries ≤ n → IsSame ns numbers f (orders queries n) → IsGiven ns numbers f None
    orders-end f queries n l s =
        given-end ns numbers f (same-by ns numbers f (orders queries n) (λ k. None) s (λ known. ap (order_for known (tree_at ts e) v n) (drop_all n (map query_of queries) (subst (λ (k : ℕ). k ≤ n) (sym (length-map queries query_of)) l))))

    rows-none : (q : ℕ) (x : Query) → ((known : List Tree) → rows_one q x known ≡ None) → IsGiven ns numbers (rows_one q x) None
    rows-none q x h = record { same = λ known r. sym (h known); operands = tt }

    or-else-none : (a : Option Give) → or_else a None ≡ a
    or-else-none None = refl
    or-else-none (Some x) = refl

    -- the lane of a schedule that has the number v is the node s
    rows-some : (q l u n m : ℕ) (t : Tree) → slice_get ns m ≡ Some (VariableNode u)
        → IsGiven ns numbers (rows_one q (Schedule l u t n)) (when (nat_eq l v && (is_index (axis_of t) (node_at ns e) && (has_step numbers s && has_step numbers m))) (Rows q s m))
    rows-some q l u n m t slot = go (nat_eq l v) refl
      where
        k : IsNumberOf ns m (Variable u)
        k = number-of-node ns table m (VariableNode u) slot

        go : (b : Bool) → nat_eq l v ≡ b → IsGiven ns numbers (rows_one q (Schedule l u t n)) (when (nat_eq l v && (is_index (axis_of t) (node_at ns e) && (has_step numbers s && has_step numbers m))) (Rows q s m))
        go false h = rw h (record { same = λ known r. rw h refl; operands = tt })
        go true h = record {
          same = λ known r.
              let lane : l ≡ v = eqb-true l v h in
              rw (lane, index-at (axis_of t), has-node known r s (Variable v) variable.below variable.is, has-node known r m (Variable u) k.below k.is)
              (one-choice ts (nat_eq v v && (is_index (axis_of t) (node_at ns e) && (has_step numbers s && has_step numbers m))) (Rows q s m) (RowsAt q (Variable v) (Variable u)) (ap₂ (λ (x y : Tree). RowsAt q x y) variable.is k.is) ∙ sym (or-else-none _));
          operands = when-if (HasOperands numbers) (nat_eq l v && (is_index (axis_of t) (node_at ns e) && (has_step numbers s && has_step numbers m))) (Rows q s m) (λ p.
              let w : (has_step numbers s && has_step numbers m) ≡ true = right-of (is_index (axis_of t) (node_at ns e)) _ (right-of (nat_eq l v) _ p) in
              (left-of (has_step numbers s) (has_step numbers m) w, right-of (has_step numbers s) (has_step numbers m) w));
        }

    pub rows-given : (q : ℕ) (x : Query) (o : Option Source) → IsRowsSource ns numbers (node_at ns e) s v q x o → IsGiven ns numbers (rows_one q x) o
    rows-given q (Schedule l u t n) o (inl (m, slot, is)) = subst (λ (z : Option Source). IsGiven ns numbers (rows_one q (Schedule l u t n)) z) (sym is) (rows-some q l u n m t slot)
    rows-given q (Schedule l u t n) o (inr (none, is)) =
        subst (λ (z : Option Source). IsGiven ns numbers (rows_one q (Schedule l u t n)) z) (sym is)
        (record { same = λ known r. rw (not-known known r (VariableNode u) tt none) (sym (never (nat_eq l v) (same_tree (index_of (axis_of t)) (tree_at ts e)) (has known (Variable l)) _)); operands = tt })
      where
        never : (a b c : Bool) (g : Give) → or_else (when (a && (b && (c && false))) g) None ≡ None
        never true true true g = refl
        never true true false g = refl
        never true false c g = refl
        never false b c g = refl
    rows-given q (SumOf w t) o is = subst (λ (z : Option Source). IsGiven ns numbers (rows_one q (SumOf w t)) z) (sym is) (rows-none q (SumOf w t) (λ known. refl))
    rows-given q (Enumerate w t) o is = subst (λ (z : Option Source). IsGiven ns numbers (rows_one q (Enumerate w t)) z) (sym is) (rows-none q (Enumerate w t) (λ known. refl))
    rows-given q (Reorder w t) o is = subst (λ (z : Option Source). IsGiven ns numbers (rows_one q (Reorder w t)) z) (sym is) (rows-none q (Reorder w t) (λ known. refl))

    abbrev pub rows : List QueryCode → ℕ → List Tree → Option Give
    rows queries n known = rows_for known (tree_at ts e) v n (drop n (map query_of queries))

    pub rows-split : (f : List Tree → Option Give) (queries : List QueryCode) (n : ℕ) (x : QueryCode) → n < length queries → x ≡ get_or queries n x → IsSame ns numbers f (rows queries n)
        → IsSame ns numbers f (λ known. or_else (rows_one n (query_of x) known) (rows queries (n + 1) known))
    rows-split f queries n x l at s =
        same-by ns numbers f (rows queries n) _ s (λ known.
        ap (rows_for known (tree_at ts e) v n) (drop-map query_of queries n x l at)
        ∙ rows_for-cons n (query_of x) (drop (n + 1) (map query_of queries)) known
        ∙ ap (λ (k : ℕ). or_else (rows_one n (query_of x) known) (rows_for known (tree_at ts e) v k (drop (n + 1) (map query_of queries)))) (sym (add-one n)))

    pub rows-found : (f : List Tree → Option Give) (queries : List QueryCode) (n : ℕ) (x : QueryCode) (o : Option Source) → IsSame ns numbers f (rows queries n) → n < length queries → x ≡ get_or queries n x
        → IsRowsSource ns numbers (node_at ns e) s v n (query_of x) o → is_some o ≡ true → IsGiven ns numbers f o
    rows-found f queries n x o s l at is t = given-first ns numbers f (rows_one n (query_of x)) (rows queries (n + 1)) o (rows-split f queries n x l at s) (rows-given n (query_of x) o is) t

    pub rows-next : (f : List Tree → Option Give) (queries : List QueryCode) (n : ℕ) (x : QueryCode) (o : Option Source) → IsSame ns numbers f (rows queries n) → n < length queries → x ≡ get_or queries n x
        → IsRowsSource ns numbers (node_at ns e) s v n (query_of x) o → is_some o ≡ false → IsSame ns numbers f (rows queries (n + 1))
    rows-next f queries n x o s l at is t = given-later ns numbers f (rows_one n (query_of x)) (rows queries (n + 1)) o (rows-split f queries n x l at s) (rows-given n (query_of x) o is) t

    pub rows-end : (f : List Tree → Option Give) (queries : List QueryCode) (n : ℕ) → length queries ≤ n → IsSame ns numbers f (rows queries n) → IsGiven ns numbers f None
    rows-end f queries n l s =
        given-end ns numbers f (same-by ns numbers f (rows queries n) (λ k. None) s (λ known. ap (rows_for known (tree_at ts e) v n) (drop_all n (map query_of queries) (subst (λ (k : ℕ). k ≤ n) (sym (length-map queries query_of)) l))))

  -- ---- operands

  module _ (e : ℕ) (le : e < length ns) where
    abbrev Whole : Option Source → Type 0
    Whole x = IsGiven ns numbers (λ known. from_operands known (tree_at ts e)) x

    both-operands : (a b : ℕ) (x : Source) → ((has_step numbers a ≡ true) × (has_step numbers b ≡ true) → HasOperands numbers x) → IfSome (when (has_step numbers a && has_step numbers b) x) (HasOperands numbers)
    both-operands a b x f = when-if (HasOperands numbers) (has_step numbers a && has_step numbers b) x (λ h. f (left-of _ _ h, right-of _ _ h))

    operands-node : (n : Node) → tree_at ts e ≡ tree_of ts n → IsBelow (length ns) n → Whole (operands_source numbers n)
    operands-node (SumNode a b) q w = record {
      same = λ known r. subst (λ (z : Tree). gives ts (operands_source numbers (SumNode a b)) ≡ from_operands known z) (sym q)
          (rw (has-node known r a (tree_at ts a) w.0 refl, has-node known r b (tree_at ts b) w.1 refl) (one-choice ts (has_step numbers a && has_step numbers b) (Total a b) _ refl));
      operands = both-operands a b (Total a b) (λ h. h);
    }
    operands-node (DifferenceNode a b) q w = record {
      same = λ known r. subst (λ (z : Tree). gives ts (operands_source numbers (DifferenceNode a b)) ≡ from_operands known z) (sym q)
          (rw (has-node known r a (tree_at ts a) w.0 refl, has-node known r b (tree_at ts b) w.1 refl) (one-choice ts (has_step numbers a && has_step numbers b) (Less a b) _ refl));
      operands = both-operands a b (Less a b) (λ h. h);
    }
    operands-node (QuotientNode a k) q w = record {
      same = λ known r. subst (λ (z : Tree). gives ts (operands_source numbers (QuotientNode a k)) ≡ from_operands known z) (sym q)
          (rw (has-node known r a (tree_at ts a) w refl) (one-choice ts (has_step numbers a) (Over a k) _ refl));
      operands = when-if (HasOperands numbers) (has_step numbers a) (Over a k) (λ h. h);
    }
    operands-node (RemainderNode a k) q w = record {
      same = λ known r. subst (λ (z : Tree). gives ts (operands_source numbers (RemainderNode a k)) ≡ from_operands known z) (sym q)
          (rw (has-node known r a (tree_at ts a) w refl) (one-choice ts (has_step numbers a) (Rest a k) _ refl));
      operands = when-if (HasOperands numbers) (has_step numbers a) (Rest a k) (λ h. h);
    }
    operands-node Row q w = record { same = λ known r. subst (λ (z : Tree). None ≡ from_operands known z) (sym q) refl; operands = tt }
    operands-node Col q w = record { same = λ known r. subst (λ (z : Tree). None ≡ from_operands known z) (sym q) refl; operands = tt }
    operands-node (NumberNode c) q w = record { same = λ known r. subst (λ (z : Tree). None ≡ from_operands known z) (sym q) refl; operands = tt }
    operands-node (VariableNode c) q w = record { same = λ known r. subst (λ (z : Tree). None ≡ from_operands known z) (sym q) refl; operands = tt }

    pub operands-given : (x : Option Source) → x ≡ operands_source numbers (node_at ns e) → Whole x
    operands-given x is = subst (λ (z : Option Source). Whole z) (sym is) (operands-node (node_at ns e) (at-node ns table e le) (below-at ns table e le))

-- ---- along the nodes and the ways

module _ (ns : List Node) (table : IsTable ns) (numbers : List (Option ℕ)) (queries : List Query) (e : ℕ) where
  pub reorder-other : (s : ℕ) (n : Node) → s < length ns → n ≡ node_at ns s → ((v : ℕ) → n ≡ VariableNode v → ⊥) → IsGiven ns numbers (λ known. from_reorder queries known (tree_at (trees ns) e) (tree_at (trees ns) s)) None
  reorder-other s n l at no_variable = record {
    same = λ known r. sym (ap (from_reorder queries known (tree_at (trees ns) e)) (at-node ns table s l ∙ ap (tree_of (trees ns)) (sym at)) ∙ other n no_variable known);
    operands = tt;
  }
    where
      other : (n : Node) → ((v : ℕ) → n ≡ VariableNode v → ⊥) → (known : List Tree) → from_reorder queries known (tree_at (trees ns) e) (tree_of (trees ns) n) ≡ None
      other (VariableNode v) h known = absurd (h v refl)
      other Row h known = refl
      other Col h known = refl
      other (NumberNode c) h known = refl
      other (SumNode a b) h known = refl
      other (DifferenceNode a b) h known = refl
      other (QuotientNode a k) h known = refl
      other (RemainderNode a k) h known = refl

  pub schedule-other : (s : ℕ) (n : Node) → s < length ns → n ≡ node_at ns s → ((v : ℕ) → n ≡ VariableNode v → ⊥) → IsGiven ns numbers (λ known. from_schedule queries known (tree_at (trees ns) e) (tree_at (trees ns) s)) None
  schedule-other s n l at no_variable = record {
    same = λ known r. sym (ap (from_schedule queries known (tree_at (trees ns) e)) (at-node ns table s l ∙ ap (tree_of (trees ns)) (sym at)) ∙ other n no_variable known);
    operands = tt;
  }
    where
      other : (n : Node) → ((v : ℕ) → n ≡ VariableNode v → ⊥) → (known : List Tree) → from_schedule queries known (tree_at (trees ns) e) (tree_of (trees ns) n) ≡ None
      other (VariableNode v) h known = absurd (h v refl)
      other Row h known = refl
      other Col h known = refl
      other (NumberNode c) h known = refl
      other (SumNode a b) h known = refl
      other (DifferenceNode a b) h known = refl
      other (QuotientNode a k) h known = refl
      other (RemainderNode a k) h known = refl

  -- the node s is the variable v
  pub variable-at : (s v : ℕ) → s < length ns → node_at ns s ≡ VariableNode v → (slice_get ns s ≡ Some (VariableNode v)) × (tree_at (trees ns) s ≡ Variable v)
  variable-at s v l at = (slice_get-get_or ns s Row l ∙ ap Some at, at-node ns table s l ∙ ap (tree_of (trees ns)) at)

  module _ (f : List Tree → Tree → Option Give) where
    -- what the nodes from the number s on give
    abbrev pub firsts : ℕ → List Tree → Option Give
    firsts s known = first_of (f known) (drop s (trees ns))

    firsts-split : (s : ℕ) → s < length ns → (known : List Tree) → firsts s known ≡ or_else (f known (tree_at (trees ns) s)) (firsts (s + 1) known)
    firsts-split s l known =
        ap (first_of (f known)) (drop-cons (trees ns) s RowIndex (subst (λ (k : ℕ). s < k) (sym (length-trees ns)) l))
        ∙ ap (λ (k : ℕ). or_else (f known (tree_at (trees ns) s)) (firsts k known)) (sym (add-one s))

    pub firsts-found : (s : ℕ) (o : Option Source) → s < length ns → IsSame ns numbers (λ known. first_of (f known) (trees ns)) (firsts s) → IsGiven ns numbers (λ known. f known (tree_at (trees ns) s)) o → is_some o ≡ true
        → IsGiven ns numbers (λ known. first_of (f known) (trees ns)) o
    firsts-found s o l h g t = given-first ns numbers _ (λ known. f known (tree_at (trees ns) s)) (firsts (s + 1)) o (same-by ns numbers _ (firsts s) _ h (firsts-split s l)) g t

    pub firsts-next : (s : ℕ) (o : Option Source) → s < length ns → IsSame ns numbers (λ known. first_of (f known) (trees ns)) (firsts s) → IsGiven ns numbers (λ known. f known (tree_at (trees ns) s)) o → is_some o ≡ false
        → IsSame ns numbers (λ known. first_of (f known) (trees ns)) (firsts (s + 1))
    firsts-next s o l h g t = given-later ns numbers _ (λ known. f known (tree_at (trees ns) s)) (firsts (s + 1)) o (same-by ns numbers _ (firsts s) _ h (firsts-split s l)) g t

    pub firsts-end : (s : ℕ) → length ns ≤ s → IsSame ns numbers (λ known. first_of (f known) (trees ns)) (firsts s) → IsGiven ns numbers (λ known. first_of (f known) (trees ns)) None
    firsts-end s l h =
        given-end ns numbers _ (same-by ns numbers _ (firsts s) (λ k. None) h (λ known. ap (first_of (f known)) (drop_all s (trees ns) (subst (λ (k : ℕ). k ≤ s) (sym (length-trees ns)) l))))

  -- what the ways from the number n on give
  abbrev pub ways_left : List Way → ℕ → List Tree → Option Give
  ways_left ways n known = by_ways (drop n ways) (trees ns) queries known (tree_at (trees ns) e)

  ways-split : (ways : List Way) (n : ℕ) (w : Way) → n < length ways → w ≡ get_or ways n w → (known : List Tree)
      → ways_left ways n known ≡ or_else (first_of (from_way w queries known (tree_at (trees ns) e)) (trees ns)) (ways_left ways (n + 1) known)
  ways-split ways n w l at known =
      ap (λ (z : List Way). by_ways z (trees ns) queries known (tree_at (trees ns) e)) (drop-cons ways n w l)
      ∙ ap₂ (λ (z : Way) (k : ℕ). or_else (first_of (from_way z queries known (tree_at (trees ns) e)) (trees ns)) (ways_left ways k known)) (sym at) (sym (add-one n))

  pub ways-found : (ways : List Way) (n : ℕ) (w : Way) (o : Option Source) → n < length ways → w ≡ get_or ways n w → IsSame ns numbers (ways_left ways 0) (ways_left ways n)
      → IsGiven ns numbers (λ known. first_of (from_way w queries known (tree_at (trees ns) e)) (trees ns)) o → is_some o ≡ true → IsGiven ns numbers (ways_left ways 0) o
  ways-found ways n w o l at h g t = given-first ns numbers _ _ (ways_left ways (n + 1)) o (same-by ns numbers _ (ways_left ways n) _ h (ways-split ways n w l at)) g t

  pub ways-next : (ways : List Way) (n : ℕ) (w : Way) (o : Option Source) → n < length ways → w ≡ get_or ways n w → IsSame ns numbers (ways_left ways 0) (ways_left ways n)
      → IsGiven ns numbers (λ known. first_of (from_way w queries known (tree_at (trees ns) e)) (trees ns)) o → is_some o ≡ false → IsSame ns numbers (ways_left ways 0) (ways_left ways (n + 1))
  ways-next ways n w o l at h g t = given-later ns numbers _ _ (ways_left ways (n + 1)) o (same-by ns numbers _ (ways_left ways n) _ h (ways-split ways n w l at)) g t

  pub ways-end : (ways : List Way) (n : ℕ) (o : Option Source) → length ways ≤ n → IsSame ns numbers (ways_left ways 0) (ways_left ways n) → IsGiven ns numbers (λ known. from_operands known (tree_at (trees ns) e)) o
      → IsGiven ns numbers (ways_left ways 0) o
  ways-end ways n o l h g = given-last ns numbers _ _ o (same-by ns numbers _ (ways_left ways n) _ h (λ known. ap (λ (z : List Way). by_ways z (trees ns) queries known (tree_at (trees ns) e)) (drop_all n ways l))) g
