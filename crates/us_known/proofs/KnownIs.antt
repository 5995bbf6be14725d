-- The flags to which the rules lead are the known expressions.
use Rattle.std.proofs.Common.{◌≡◌, ℕ, zero, suc, ◌<◌, ◌≤◌, ◌⊎◌, List, [], ◌∷◌, length, sym, refl, ap, ◌∙◌, subst, inl, inr, arith, Option, Some, None}
use Rattle.std.specs.Prelude.{slice_get, Contains}
use Rattle.std.specs.Option.{option_to_list}
use Rattle.std.proofs.lemmas.Bool.{cases_eq}
use Rattle.std.proofs.lemmas.Option.{slice_get-get_or}
use Rattle.us_expr.specs.declared.queries.Axis.{Axis}
use Rattle.us_expr.specs.declared.queries.Axis.TheVariants.{Rows, Cols}
use Rattle.us_expr.specs.declared.queries.Query.{Query as QueryCode}
use Rattle.us_expr.specs.Tree.{Tree, Variable, Sum, Difference, Quotient, Remainder}
use Rattle.us_format.specs.Declaration.{index_of, query_of}
use Rattle.us_format.proofs.Order.{Mem}
use Rattle.us_format.proofs.Members.{contains-Mem, Mem-contains, Mem-left, Mem-right, Mem-either}
use Rattle.us_known.specs.declared.table.Node.{Node}
use Rattle.us_known.specs.declared.table.Node.TheVariants.{Row, Col, Number as NumberNode, Variable as VariableNode, Sum as SumNode, Difference as DifferenceNode, Quotient as QuotientNode, Remainder as RemainderNode}
use Rattle.us_known.specs.declared.rules.Rule.{Rule}
use Rattle.us_known.specs.Table.{tree_at, tree_of, trees, IsBelow, IsTable, IsNumberOf}
use Rattle.us_known.specs.Rules.{AreRulesOf, NodeRules, index_node, IsQueryRule, QueryRules}
use Rattle.us_known.proofs.NodeTrees.{node_at, at-node, below-at, node-is, number-of-node, length-trees, Mem-tree_at, member-number}

-- ---- the lists of rules

-- each rule of the nodes is one of some node
pub node-rule-from : (ns : List Node) (k : ℕ) (rules : List Rule) (r : Rule) → k ≤ length ns → NodeRules ns k rules → Mem r rules → (n : ℕ) × (n < length ns) × ((rs : List Rule) × AreRulesOf ns n (node_at ns n) rs × Mem r rs)
node-rule-from ns zero rules r l h m = absurd (subst (λ (z : List Rule). Mem r z) h m)
node-rule-from ns (suc k) rules r l (before, rs, h, are, e) m =
    go (Mem-either r before rs (subst (λ (z : List Rule). Mem r z) e m)) (node-rule-from ns k before r (omega (arith, l)) h)
  where
    go : (Mem r before ⊎ Mem r rs) → (Mem r before → (n : ℕ) × (n < length ns) × ((rs : List Rule) × AreRulesOf ns n (node_at ns n) rs × Mem r rs)) → (n : ℕ) × (n < length ns) × ((rs : List Rule) × AreRulesOf ns n (node_at ns n) rs × Mem r rs)
    go (inl i) ih = ih i
    go (inr i) ih = (k, omega (arith, l), (rs, are, i))

-- the rules of each node are there
pub node-rules-there : (ns : List Node) (k : ℕ) (rules : List Rule) (n : ℕ) → NodeRules ns k rules → n < k → (rs : List Rule) × AreRulesOf ns n (node_at ns n) rs × ((r : Rule) → Mem r rs → Mem r rules)
node-rules-there ns zero rules n h l = absurd (omega (arith, l))
node-rules-there ns (suc k) rules n (before, rs, h, are, e) l = go (cases_eq n k) (node-rules-there ns k before n h)
  where
    go : ((n ≡ k) ⊎ (n ≡ k → ⊥)) → (n < k → (rs : List Rule) × AreRulesOf ns n (node_at ns n) rs × ((r : Rule) → Mem r rs → Mem r before))
        → (rs : List Rule) × AreRulesOf ns n (node_at ns n) rs × ((r : Rule) → Mem r rs → Mem r rules)
    go (inl q) ih = (rs, subst (λ (z : ℕ). AreRulesOf ns z (node_at ns z) rs) (sym q) are, λ r m. subst (λ (z : List Rule). Mem r z) (sym e) (Mem-right r before rs m))
    go (inr q) ih = let t = ih (omega (arith, l, q)) in (t.0, t.1, λ r m. subst (λ (z : List Rule). Mem r z) (sym e) (Mem-left r before rs (t.2 r m)))

pub option-Mem : (r : Rule) (o : Option Rule) → Mem r (option_to_list o) → o ≡ Some r
option-Mem r None m = absurd m
option-Mem r (Some x) (inl e) = ap Some e
option-Mem r (Some x) (inr m) = absurd m

-- each rule of the queries is one of a query
pub query-rule-from : (ns : List Node) (queries : List QueryCode) (base : List Rule) (k : ℕ) (rules : List Rule) (r : Rule) → QueryRules ns queries base k rules → Mem r rules
    → Mem r base ⊎ ((q : QueryCode) × Mem q queries × IsQueryRule ns (query_of q) (Some r))
query-rule-from ns queries base zero rules r h m = inl (subst (λ (z : List Rule). Mem r z) h m)
query-rule-from ns queries base (suc k) rules r (before, q, o, h, at, is, e) m =
    go (Mem-either r before (option_to_list o) (subst (λ (z : List Rule). Mem r z) e m)) (query-rule-from ns queries base k before r h)
  where
    item : (xs : List QueryCode) (j : ℕ) → slice_get xs j ≡ Some q → Mem q xs
    item [] j h = absurd (cc)
    item (x ∷ xs) zero h = inl (cc)
    item (x ∷ xs) (suc j) h = inr (item xs j h)

    go : (Mem r before ⊎ Mem r (option_to_list o)) → (Mem r before → Mem r base ⊎ ((q : QueryCode) × Mem q queries × IsQueryRule ns (query_of q) (Some r))) → Mem r base ⊎ ((q : QueryCode) × Mem q queries × IsQueryRule ns (query_of q) (Some r))
    go (inl i) ih = ih i
    go (inr i) ih = inr (q, item queries k at, subst (λ (z : Option Rule). IsQueryRule ns (query_of q) z) (option-Mem r o i) is)

pub query-base : (ns : List Node) (queries : List QueryCode) (base : List Rule) (k : ℕ) (rules : List Rule) (r : Rule) → QueryRules ns queries base k rules → Mem r base → Mem r rules
query-base ns queries base zero rules r h m = subst (λ (z : List Rule). Mem r z) (sym h) m
query-base ns queries base (suc k) rules r (before, q, o, h, at, is, e) m = subst (λ (z : List Rule). Mem r z) (sym e) (Mem-left r before (option_to_list o) (query-base ns queries base k before r h m))

-- the rule of each query is there
pub query-rules-there : (ns : List Node) (queries : List QueryCode) (base : List Rule) (k : ℕ) (rules : List Rule) (j : ℕ) (q : QueryCode) → QueryRules ns queries base k rules → j < k → slice_get queries j ≡ Some q
    → (o : Option Rule) × IsQueryRule ns (query_of q) o × ((r : Rule) → o ≡ Some r → Mem r rules)
query-rules-there ns queries base zero rules j q h l at = absurd (omega (arith, l))
query-rules-there ns queries base (suc k) rules j q (before, p, o, h, here, is, e) l at = go (cases_eq j k) (λ m. query-rules-there ns queries base k before j q h m at)
  where
    same : j ≡ k → p ≡ q
    same i = let h : Some p ≡ Some q = sym here ∙ ap (slice_get queries) (sym i) ∙ at in cc

    go : ((j ≡ k) ⊎ (j ≡ k → ⊥)) → (j < k → (o : Option Rule) × IsQueryRule ns (query_of q) o × ((r : Rule) → o ≡ Some r → Mem r before)) → (o : Option Rule) × IsQueryRule ns (query_of q) o × ((r : Rule) → o ≡ Some r → Mem r rules)
    go (inl i) ih = (o, subst (λ (z : QueryCode). IsQueryRule ns (query_of z) o) (same i) is, λ r x. subst (λ (z : List Rule). Mem r z) (sym e) (Mem-right r before (option_to_list o) (subst (λ (z : Option Rule). Mem r (option_to_list z)) (sym x) (inl refl))))
    go (inr i) ih = let t = ih (omega (arith, l, i)) in (t.0, t.1, λ r x. subst (λ (z : List Rule). Mem r z) (sym e) (Mem-left r before (option_to_list o) (t.2 r x)))

pub index-tree : (ts : List Tree) (a : Axis) → tree_of ts (index_node a) ≡ index_of a
index-tree ts Rows = refl
index-tree ts Cols = refl

pub index-below : (k : ℕ) (a : Axis) → IsBelow k (index_node a)
index-below k Rows = tt
index-below k Cols = tt

module _ (ns : List Node) (table : IsTable ns) where
  abbrev pub ts : List Tree
  ts = trees ns

  pub member : (n : ℕ) → n < length ns → Contains ts (tree_at ts n)
  member n l = Mem-contains ts (tree_at ts n) (Mem-tree_at ts n (subst (λ (k : ℕ). n < k) (sym (length-trees ns)) l))

  pub number-of : (e : Tree) → Contains ts e → (n : ℕ) × (n < length ns) × (tree_at ts n ≡ e)
  number-of e c = let r = member-number ts e (contains-Mem ts e c) in (r.0, subst (λ (k : ℕ). r.0 < k) (length-trees ns) r.1, r.2)

  pub got : (n : ℕ) (node : Node) → n < length ns → node_at ns n ≡ node → slice_get ns n ≡ Some node
  got n node l e = slice_get-get_or ns n Row l ∙ ap Some e

  pub got-tree : (n : ℕ) (node : Node) → slice_get ns n ≡ Some node → IsNumberOf ns n (tree_of ts node)
  got-tree n node h = number-of-node ns table n node h

  -- ---- the node of a tree

  pub variable-node : (n v : ℕ) → n < length ns → tree_at ts n ≡ Variable v → node_at ns n ≡ VariableNode v
  variable-node n v l e = node-is ns table n (VariableNode v) l tt e

  pub sum-node : (n : ℕ) (a b : Tree) → n < length ns → tree_at ts n ≡ Sum a b → (x : ℕ) × (y : ℕ) × (node_at ns n ≡ SumNode x y) × (x < length ns) × (y < length ns) × (tree_at ts x ≡ a) × (tree_at ts y ≡ b)
  sum-node n a b l e = go (node_at ns n) refl (sym e ∙ at-node ns table n l) (below-at ns table n l)
    where
      go : (node : Node) → node_at ns n ≡ node → Sum a b ≡ tree_of ts node → IsBelow (length ns) node → (x : ℕ) × (y : ℕ) × (node_at ns n ≡ SumNode x y) × (x < length ns) × (y < length ns) × (tree_at ts x ≡ a) × (tree_at ts y ≡ b)
      go Row q h k = absurd (cc)
      go Col q h k = absurd (cc)
      go (NumberNode c) q h k = absurd (cc)
      go (VariableNode c) q h k = absurd (cc)
      go (SumNode x y) q h k = let p : a ≡ tree_at ts x = cc in let r : b ≡ tree_at ts y = cc in (x, y, q, k.0, k.1, sym p, sym r)
      go (DifferenceNode x y) q h k = absurd (cc)
      go (QuotientNode x d) q h k = absurd (cc)
      go (RemainderNode x d) q h k = absurd (cc)

  pub difference-node : (n : ℕ) (a b : Tree) → n < length ns → tree_at ts n ≡ Difference a b → (x : ℕ) × (y : ℕ) × (node_at ns n ≡ DifferenceNode x y) × (x < length ns) × (y < length ns) × (tree_at ts x ≡ a) × (tree_at ts y ≡ b)
  difference-node n a b l e = go (node_at ns n) refl (sym e ∙ at-node ns table n l) (below-at ns table n l)
    where
      go : (node : Node) → node_at ns n ≡ node → Difference a b ≡ tree_of ts node → IsBelow (length ns) node → (x : ℕ) × (y : ℕ) × (node_at ns n ≡ DifferenceNode x y) × (x < length ns) × (y < length ns) × (tree_at ts x ≡ a) × (tree_at ts y ≡ b)
      go Row q h k = absurd (cc)
      go Col q h k = absurd (cc)
      go (NumberNode c) q h k = absurd (cc)
      go (VariableNode c) q h k = absurd (cc)
      go (SumNode x y) q h k = absurd (cc)
      go (DifferenceNode x y) q h k = let p : a ≡ tree_at ts x = cc in let r : b ≡ tree_at ts y = cc in (x, y, q, k.0, k.1, sym p, sym r)
      go (QuotientNode x d) q h k = absurd (cc)
      go (RemainderNode x d) q h k = absurd (cc)

  pub quotient-node : (n : ℕ) (a : Tree) (d : ℕ) → n < length ns → tree_at ts n ≡ Quotient a d → (x : ℕ) × (node_at ns n ≡ QuotientNode x d) × (x < length ns) × (tree_at ts x ≡ a)
  quotient-node n a d l e = go (node_at ns n) refl (sym e ∙ at-node ns table n l) (below-at ns table n l)
    where
      go : (node : Node) → node_at ns n ≡ node → Quotient a d ≡ tree_of ts node → IsBelow (length ns) node → (x : ℕ) × (node_at ns n ≡ QuotientNode x d) × (x < length ns) × (tree_at ts x ≡ a)
      go Row q h k = absurd (cc)
      go Col q h k = absurd (cc)
      go (NumberNode c) q h k = absurd (cc)
      go (VariableNode c) q h k = absurd (cc)
      go (SumNode x y) q h k = absurd (cc)
      go (DifferenceNode x y) q h k = absurd (cc)
      go (QuotientNode x c) q h k = let p : a ≡ tree_at ts x = cc in let r : d ≡ c = cc in (x, q ∙ ap (QuotientNode x) (sym r), k, sym p)
      go (RemainderNode x c) q h k = absurd (cc)

  pub remainder-node : (n : ℕ) (a : Tree) (d : ℕ) → n < length ns → tree_at ts n ≡ Remainder a d → (x : ℕ) × (node_at ns n ≡ RemainderNode x d) × (x < length ns) × (tree_at ts x ≡ a)
  remainder-node n a d l e = go (node_at ns n) refl (sym e ∙ at-node ns table n l) (below-at ns table n l)
    where
      go : (node : Node) → node_at ns n ≡ node → Remainder a d ≡ tree_of ts node → IsBelow (length ns) node → (x : ℕ) × (node_at ns n ≡ RemainderNode x d) × (x < length ns) × (tree_at ts x ≡ a)
      go Row q h k = absurd (cc)
      go Col q h k = absurd (cc)
      go (NumberNode c) q h k = absurd (cc)
      go (VariableNode c) q h k = absurd (cc)
      go (SumNode x y) q h k = absurd (cc)
      go (DifferenceNode x y) q h k = absurd (cc)
      go (QuotientNode x c) q h k = absurd (cc)
      go (RemainderNode x c) q h k = let p : a ≡ tree_at ts x = cc in let r : d ≡ c = cc in (x, q ∙ ap (RemainderNode x) (sym r), k, sym p)

  pub index-number : (n : ℕ) (a : Axis) → n < length ns → tree_at ts n ≡ index_of a → node_at ns n ≡ index_node a
  index-number n a l e = node-is ns table n (index_node a) l (index-below (length ns) a) (e ∙ sym (index-tree ts a))
