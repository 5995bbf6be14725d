-- The flags are the known expressions: every rule is right, and no rule is missing.
use Rattle.std.proofs.Common.{◌≡◌, ℕ, zero, suc, ◌<◌, ◌⊎◌, List, [], ◌∷◌, map, length, Bool, true, sym, refl, ◌∙◌, subst, inl, inr, arith, Some, All}
use Rattle.std.specs.Prelude.{Contains}
use Rattle.us_expr.specs.declared.queries.Query.{Query as QueryCode}
use Rattle.us_expr.specs.Tree.{Tree, Variable}
use Rattle.us_format.specs.Declaration.{Query, SumOf, Enumerate, Reorder, Schedule, axis_of, index_of, query_of}
use Rattle.us_format.specs.Laws.{IsClosed}
use Rattle.us_format.proofs.Order.{Mem, Mem-map}
use Rattle.us_format.proofs.Members.{Mem-contains}
use Rattle.us_known.specs.declared.table.Node.{Node}
use Rattle.us_known.specs.declared.table.Node.TheVariants.{Row, Col, Number as NumberNode, Variable as VariableNode, Sum as SumNode, Difference as DifferenceNode, Quotient as QuotientNode, Remainder as RemainderNode}
use Rattle.us_known.specs.declared.rules.Rule.{Rule}
use Rattle.us_known.specs.Table.{tree_at, tree_of, trees, IsBelow, IsTable}
use Rattle.us_known.specs.Rules.{rule, AreRulesOf, index_node, IsQueryRule, AllRules, IsRuleBelow, Follows}
use Rattle.us_known.proofs.NodeTrees.{node_at, at-node, below-at}
use Rattle.us_known.proofs.KnownIs.{node-rule-from, query-rule-from, index-tree, member, got-tree}

pub from-Mem : {A : Type 0} (P : A → Type 0) (xs : List A) → ((x : A) → Mem x xs → P x) → All P xs
from-Mem P [] h k d l = absurd (omega (arith, l))
from-Mem P (x ∷ xs) h zero d l = h x (inl refl)
from-Mem P (x ∷ xs) h (suc k) d l = from-Mem P xs (λ y m. h y (inr m)) k d (omega (arith, l))

module _ (ns : List Node) (table : IsTable ns) where
  -- ---- numbers of rules are in the table

  abbrev pub Below : Rule → Type 0
  Below r = IsRuleBelow (length ns) r

  pub three : (P : Rule → Type 0) (a b c r : Rule) (rs : List Rule) → rs ≡ a ∷ b ∷ c ∷ [] → P a → P b → P c → Mem r rs → P r
  three P a b c r rs e pa pb pc m = go (subst (λ (z : List Rule). Mem r z) e m)
    where
      go : Mem r (a ∷ b ∷ c ∷ []) → P r
      go (inl q) = subst P q pa
      go (inr (inl q)) = subst P q pb
      go (inr (inr (inl q))) = subst P q pc
      go (inr (inr (inr q))) = absurd q

  pub below-rule : (a b c : ℕ) → a < length ns → b < length ns → c < length ns → Below (rule a b c)
  below-rule a b c x y z = record { first = x; second = y; gives = z }

  pub node-below : (n : ℕ) (node : Node) (rs : List Rule) (r : Rule) → n < length ns → IsBelow (length ns) node → AreRulesOf ns n node rs → Mem r rs → Below r
  node-below n Row rs r l b h m = three Below _ _ _ r rs h (below-rule n n n l l l) (below-rule n n n l l l) (below-rule n n n l l l) m
  node-below n Col rs r l b h m = three Below _ _ _ r rs h (below-rule n n n l l l) (below-rule n n n l l l) (below-rule n n n l l l) m
  node-below n (NumberNode c) rs r l b h m = three Below _ _ _ r rs h (below-rule n n n l l l) (below-rule n n n l l l) (below-rule n n n l l l) m
  node-below n (VariableNode v) rs r l b h m = three Below _ _ _ r rs h (below-rule n n n l l l) (below-rule n n n l l l) (below-rule n n n l l l) m
  node-below n (SumNode x y) rs r l b h m = three Below _ _ _ r rs h (below-rule n y x l b.1 b.0) (below-rule n x y l b.0 b.1) (below-rule x y n b.0 b.1 l) m
  node-below n (DifferenceNode x y) rs r l b h m = three Below _ _ _ r rs h (below-rule n y x l b.1 b.0) (below-rule n x y l b.0 b.1) (below-rule x y n b.0 b.1 l) m
  node-below n (QuotientNode x k) rs r l b (inl (j, at, h)) m =
      three Below _ _ _ r rs h (below-rule x x n b b l) (below-rule n j x l (got-tree ns table j (RemainderNode x k) at).below b) (below-rule n n n l l l) m
  node-below n (QuotientNode x k) rs r l b (inr (none, h)) m = three Below _ _ _ r rs h (below-rule x x n b b l) (below-rule n n n l l l) (below-rule n n n l l l) m
  node-below n (RemainderNode x k) rs r l b h m = three Below _ _ _ r rs h (below-rule x x n b b l) (below-rule n n n l l l) (below-rule n n n l l l) m

  pub query-below : (q : Query) (r : Rule) → IsQueryRule ns q (Some r) → Below r
  query-below (SumOf v e) r h = absurd (cc)
  query-below (Enumerate v e) r h = absurd (cc)
  query-below (Reorder v t) r (a, b, c) = record { first = (got-tree ns table r.first _ a).below; second = (got-tree ns table r.second _ b).below; gives = (got-tree ns table r.gives _ c).below }
  query-below (Schedule l u t n) r (a, b, c) = record { first = (got-tree ns table r.first _ a).below; second = (got-tree ns table r.second _ b).below; gives = (got-tree ns table r.gives _ c).below }

  pub rules-below : (queries : List QueryCode) (rules : List Rule) → AllRules ns queries rules → All (IsRuleBelow (length ns)) rules
  rules-below queries rules (base, h, k) = from-Mem Below rules (λ r m. go r (query-rule-from ns queries base (length queries) rules r k m))
    where
      go : (r : Rule) → (Mem r base ⊎ ((q : QueryCode) × Mem q queries × IsQueryRule ns (query_of q) (Some r))) → Below r
      go r (inl m) = let t = node-rule-from ns (length ns) base r (omega arith) h m in node-below t.0 (node_at ns t.0) t.2.0 r t.1 (below-at ns table t.0 t.1) t.2.1 t.2.2
      go r (inr t) = query-below (query_of t.0) r t.2

  -- ---- every rule is right

  module _ (qs : List Query) (holds : Tree → Bool) (cl : IsClosed (trees ns) qs holds) where
    abbrev pub at_number : ℕ → Bool
    at_number k = holds (tree_at (trees ns) k)

    abbrev pub Right : Rule → Type 0
    Right r = Follows at_number r

    -- what is said of a node is said of its tree
    pub as-tree : (n : ℕ) (t : Tree) → tree_at (trees ns) n ≡ t → at_number n ≡ true → holds t ≡ true
    as-tree n t e h = subst (λ (z : Tree). holds z ≡ true) e h

    pub from-tree : (n : ℕ) (t : Tree) → tree_at (trees ns) n ≡ t → holds t ≡ true → at_number n ≡ true
    from-tree n t e h = subst (λ (z : Tree). holds z ≡ true) (sym e) h

    pub is-member : (n : ℕ) (t : Tree) → n < length ns → tree_at (trees ns) n ≡ t → Contains (trees ns) t
    is-member n t l e = subst (λ (z : Tree). Contains (trees ns) z) e (member ns table n l)

    pub fill : (n : ℕ) → Right (rule n n n)
    fill n x y = x

    pub node-right : (n : ℕ) (node : Node) (rs : List Rule) (r : Rule) → n < length ns → tree_at (trees ns) n ≡ tree_of (trees ns) node → IsBelow (length ns) node → AreRulesOf ns n node rs → Mem r rs → Right r
    node-right n Row rs r l e b h m = three Right _ _ _ r rs h (fill n) (fill n) (fill n) m
    node-right n Col rs r l e b h m = three Right _ _ _ r rs h (fill n) (fill n) (fill n) m
    node-right n (NumberNode c) rs r l e b h m = three Right _ _ _ r rs h (fill n) (fill n) (fill n) m
    node-right n (VariableNode v) rs r l e b h m = three Right _ _ _ r rs h (fill n) (fill n) (fill n) m
    node-right n (SumNode x y) rs r l e b h m =
        three Right _ _ _ r rs h (λ p q. cl.left_of_sum _ _ (member ns table x b.0) (as-tree n _ e p) q) (λ p q. cl.right_of_sum _ _ (member ns table y b.1) (as-tree n _ e p) q)
        (λ p q. from-tree n _ e (cl.sum _ _ (is-member n _ l e) p q)) m
    node-right n (DifferenceNode x y) rs r l e b h m =
        three Right _ _ _ r rs h (λ p q. cl.left_of_difference _ _ (member ns table x b.0) (as-tree n _ e p) q) (λ p q. cl.right_of_difference _ _ (member ns table y b.1) (as-tree n _ e p) q)
        (λ p q. from-tree n _ e (cl.difference _ _ (is-member n _ l e) p q)) m
    node-right n (QuotientNode x k) rs r l e b (inl (j, at, h)) m =
        three Right _ _ _ r rs h (λ p q. from-tree n _ e (cl.quotient _ k (is-member n _ l e) p))
        (λ p q. cl.joined _ k (member ns table x b) (as-tree n _ e p) (as-tree j _ (got-tree ns table j (RemainderNode x k) at).is q)) (fill n) m
    node-right n (QuotientNode x k) rs r l e b (inr (none, h)) m =
        three Right _ _ _ r rs h (λ p q. from-tree n _ e (cl.quotient _ k (is-member n _ l e) p)) (fill n) (fill n) m
    node-right n (RemainderNode x k) rs r l e b h m =
        three Right _ _ _ r rs h (λ p q. from-tree n _ e (cl.remainder _ k (is-member n _ l e) p)) (fill n) (fill n) m

    pub query-right : (q : Query) (r : Rule) → Mem q qs → IsQueryRule ns q (Some r) → Right r
    query-right (SumOf v e) r m h = absurd (cc)
    query-right (Enumerate v e) r m h = absurd (cc)
    query-right (Reorder v t) r m (a, b, c) =
        let f = got-tree ns table r.first (VariableNode v) a in
        let g = got-tree ns table r.gives (index_node (axis_of t)) c in
        let i : tree_at (trees ns) r.gives ≡ index_of (axis_of t) = g.is ∙ index-tree (trees ns) (axis_of t) in
        λ p q. from-tree r.gives (index_of (axis_of t)) i (cl.order v t (Mem-contains qs (Reorder v t) m) (is-member r.gives _ g.below i) (as-tree r.first (Variable v) f.is p))
    query-right (Schedule l u t n) r m (a, b, c) =
        let f = got-tree ns table r.first (VariableNode l) a in
        let s = got-tree ns table r.second (VariableNode u) b in
        let g = got-tree ns table r.gives (index_node (axis_of t)) c in
        let i : tree_at (trees ns) r.gives ≡ index_of (axis_of t) = g.is ∙ index-tree (trees ns) (axis_of t) in
        λ p q. from-tree r.gives (index_of (axis_of t)) i
        (cl.rows l u t n (Mem-contains qs (Schedule l u t n) m) (is-member r.gives _ g.below i) (as-tree r.first (Variable l) f.is p) (as-tree r.second (Variable u) s.is q))

    pub rules-right : (queries : List QueryCode) (rules : List Rule) → qs ≡ map query_of queries → AllRules ns queries rules → All (Follows at_number) rules
    rules-right queries rules e (base, h, k) = from-Mem Right rules (λ r m. go r (query-rule-from ns queries base (length queries) rules r k m))
      where
        go : (r : Rule) → (Mem r base ⊎ ((q : QueryCode) × Mem q queries × IsQueryRule ns (query_of q) (Some r))) → Right r
        go r (inl m) =
            let t = node-rule-from ns (length ns) base r (omega arith) h m in node-right t.0 (node_at ns t.0) t.2.0 r t.1 (at-node ns table t.0 t.1) (below-at ns table t.0 t.1) t.2.1 t.2.2
        go r (inr t) = query-right (query_of t.0) r (subst (λ (z : List Query). Mem (query_of t.0) z) (sym e) (Mem-map query_of t.0 queries t.1)) t.2
