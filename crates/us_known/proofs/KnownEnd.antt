-- Flags that are closed under all rules are the known expressions.
use Rattle.std.proofs.Common.{◌≡◌, ℕ, zero, suc, ◌<◌, ◌⊎◌, List, [], ◌∷◌, map, take, length, get_or, Bool, true, false, sym, refl, ap, ◌∙◌, subst, inl, inr, arith, Option, Some, None}
use Rattle.std.specs.Prelude.{slice_get, Contains}
use Rattle.std.proofs.lemmas.Bool.{false≢true}
use Rattle.std.proofs.lemmas.List.{length-map, get_or-map}
use Rattle.us_expr.specs.declared.queries.Query.{Query as QueryCode}
use Rattle.us_expr.specs.Tree.{Tree, Number, Variable, Sum, Difference, Quotient, Remainder}
use Rattle.us_format.specs.Declaration.{Query, Reorder, Schedule, axis_of, index_of, query_of}
use Rattle.us_format.specs.Known.{has, expressions, is_known}
use Rattle.us_format.specs.Laws.{IsClosed, KnownIsLeast}
use Rattle.us_format.proofs.Order.{Mem, Mem-of_map}
use Rattle.us_format.proofs.Members.{contains-Mem, Mem-contains, all-Mem}
use Rattle.us_format.proofs.KnownLaws.{known-law, level-member, Mem-take}
use Rattle.us_known.specs.declared.table.Node.{Node}
use Rattle.us_known.specs.declared.table.Node.TheVariants.{Row, Col, Number as NumberNode, Variable as VariableNode, Sum as SumNode, Difference as DifferenceNode, Quotient as QuotientNode, Remainder as RemainderNode}
use Rattle.us_known.specs.declared.rules.Rule.{Rule}
use Rattle.us_known.specs.Table.{tree_at, tree_of, trees, IsTable}
use Rattle.us_known.specs.Rules.{AreRulesOf, index_node, IsRuleOf, IsQueryRule, flag, Follows}
use Rattle.us_known.specs.Flags.{flagged, is_number, AreKnownFlags}
use Rattle.us_known.proofs.NodeTrees.{node_at, at-node, node-is}
use Rattle.us_known.proofs.Flagged.{same-bool, flagged-at, flagged-has}
use Rattle.us_known.proofs.KnownIs.{node-rules-there, query-base, query-rules-there, index-tree, member, number-of, got, got-tree, variable-node, sum-node, difference-node, quotient-node, remainder-node, index-number}
use Rattle.us_known.proofs.KnownFlags.{rules-right}

module _ (ns : List Node) (table : IsTable ns) (levels : List Tree) (queries : List QueryCode) (count : ℕ) (same : trees ns ≡ expressions levels (map query_of queries))
    (flags : List Bool) (known : AreKnownFlags ns (trees ns) (take count levels) queries flags) where
  abbrev pub qs : List Query
  qs = map query_of queries

  abbrev pub ts : List Tree
  ts = trees ns

  -- whether an expression is flagged
  abbrev pub held : Tree → Bool
  held e = has (flagged ts flags) e

  pub law : KnownIsLeast levels qs count
  law = known-law levels qs count

  -- the flag of the number of a held expression
  pub flag-of : (n : ℕ) (e : Tree) → n < length ns → tree_at ts n ≡ e → held e ≡ true → flag flags n ≡ true
  flag-of n e l q h = sym (flagged-at ns table flags n l) ∙ subst (λ (z : Tree). held z ≡ true) (sym q) h

  pub held-of : (n : ℕ) (e : Tree) → n < length ns → tree_at ts n ≡ e → flag flags n ≡ true → held e ≡ true
  held-of n e l q h = subst (λ (z : Tree). held z ≡ true) q (flagged-at ns table flags n l ∙ h)

  pub follow : (r : Rule) → Mem r known.rules → Follows (flag flags) r
  follow r m = all-Mem (Follows (flag flags)) known.rules r known.closed m

  -- the rules of a node
  pub rules-at : (n : ℕ) (node : Node) → n < length ns → node_at ns n ≡ node → (rs : List Rule) × AreRulesOf ns n node rs × ((r : Rule) → Mem r rs → Follows (flag flags) r)
  rules-at n node l e =
      let t = node-rules-there ns (length ns) known.all.0 n known.all.1 l in
      (t.0, subst (λ (z : Node). AreRulesOf ns n z t.0) e t.1, λ r m. follow r (query-base ns queries known.all.0 (length queries) known.rules r known.all.2 (t.2 r m)))

  pub first-of : {a b c : Rule} (rs : List Rule) → rs ≡ a ∷ b ∷ c ∷ [] → ((r : Rule) → Mem r rs → Follows (flag flags) r) → Follows (flag flags) a × Follows (flag flags) b × Follows (flag flags) c
  first-of {a} {b} {c} rs e h =
      let k : (r : Rule) → Mem r (a ∷ b ∷ c ∷ []) → Follows (flag flags) r = λ r m. h r (subst (λ (z : List Rule). Mem r z) (sym e) m) in
      (k a (inl refl), k b (inr (inl refl)), k c (inr (inr (inl refl))))

  pub start-constant : (k c : ℕ) → k < length ns → tree_at ts k ≡ Number c → flag known.start k ≡ true
  start-constant k c l e =
      known.given_added.kept k (get_or-map is_number ns k Row false l ∙ ap is_number (node-is ns table k (NumberNode c) l tt e))

  pub constants-held : (c : ℕ) → Contains ts (Number c) → held (Number c) ≡ true
  constants-held c m = let n = number-of ns table (Number c) m in held-of n.0 (Number c) n.1 n.2 (known.leads.kept n.0 (start-constant n.0 c n.1 n.2))

  pub given-held : (e : Tree) → Contains (take count levels) e → held e ≡ true
  given-held e m =
      let c : Contains ts e = Mem-contains ts e (subst (λ (l : List Tree). Mem e l) (sym same) (level-member levels qs e (Mem-take count e levels (contains-Mem (take count levels) e m)))) in
      let n = number-of ns table e c in
      held-of n.0 e n.1 n.2 (known.leads.kept n.0 (known.given_added.added n.0 (subst (λ (k : ℕ). n.0 < k) (sym (length-map ns is_number)) n.1) (subst (λ (z : Tree). Contains (take count levels) z) (sym n.2) m)))

  -- two variables give an index
  pub variables-give : (v w : ℕ) (t : Tree) → ((o : Option Rule) × IsRuleOf ns v w (index_node (axis_of t)) o × ((r : Rule) → o ≡ Some r → Mem r known.rules)) → Contains ts (index_of (axis_of t))
      → held (Variable v) ≡ true → held (Variable w) ≡ true → held (index_of (axis_of t)) ≡ true
  variables-give v w t (o, is, there) m hv hw = go o is there
    where
      a : (k : ℕ) × (k < length ns) × (tree_at ts k ≡ Variable v) × (flag flags k ≡ true)
      a = flagged-has ns table flags (Variable v) hv

      b : (k : ℕ) × (k < length ns) × (tree_at ts k ≡ Variable w) × (flag flags k ≡ true)
      b = flagged-has ns table flags (Variable w) hw

      i : (k : ℕ) × (k < length ns) × (tree_at ts k ≡ index_of (axis_of t))
      i = number-of ns table (index_of (axis_of t)) m

      go : (o : Option Rule) → IsRuleOf ns v w (index_node (axis_of t)) o → ((r : Rule) → o ≡ Some r → Mem r known.rules) → held (index_of (axis_of t)) ≡ true
      go None (inl none) there = absurd (none a.0 a.1 (got ns table a.0 (VariableNode v) a.1 (variable-node ns table a.0 v a.1 a.2)))
      go None (inr (inl none)) there = absurd (none b.0 b.1 (got ns table b.0 (VariableNode w) b.1 (variable-node ns table b.0 w b.1 b.2)))
      go None (inr (inr none)) there = absurd (none i.0 i.1 (got ns table i.0 (index_node (axis_of t)) i.1 (index-number ns table i.0 (axis_of t) i.1 i.2)))
      go (Some r) (p, q, s) there =
          let x = got-tree ns table r.first (VariableNode v) p in
          let y = got-tree ns table r.second (VariableNode w) q in
          let z = got-tree ns table r.gives (index_node (axis_of t)) s in
          held-of r.gives (index_of (axis_of t)) z.below (z.is ∙ index-tree ts (axis_of t)) (follow r (there r refl) (flag-of r.first (Variable v) x.below x.is hv) (flag-of r.second (Variable w) y.below y.is hw))

  -- the query of the program that is seen as this one
  pub query-number : (d : Query) → Contains qs d → (k : ℕ) × (k < length queries) × ((q : QueryCode) × (slice_get queries k ≡ Some q) × (query_of q ≡ d))
  query-number d m = let r = Mem-of_map query_of d queries (contains-Mem qs d m) in let k = Mem-contains queries r.0 r.1 in (k.0, k.1, (r.0, at queries k.0 r.0 k.1 k.2, r.2))
    where
      at : (xs : List QueryCode) (k : ℕ) (q : QueryCode) → k < length xs → get_or xs k q ≡ q → slice_get xs k ≡ Some q
      at [] k q l e = absurd (omega (arith, l))
      at (x ∷ xs) zero q l e = ap Some e
      at (x ∷ xs) (suc k) q l e = at xs k q (omega (arith, l)) e

  pub query-rule-at : (d : Query) → Contains qs d → (o : Option Rule) × IsQueryRule ns d o × ((r : Rule) → o ≡ Some r → Mem r known.rules)
  query-rule-at d m =
      let k = query-number d m in
      let t = query-rules-there ns queries known.all.0 (length queries) known.rules k.0 k.2.0 known.all.2 k.1 k.2.1 in
      (t.0, subst (λ (z : Query). IsQueryRule ns z t.0) k.2.2 t.1, t.2)

  pub held-closed : IsClosed ts qs held
  held-closed = record {
    number = constants-held;
    left_of_sum = λ a b m h k.
        let n = flagged-has ns table flags (Sum a b) h in let s = sum-node ns table n.0 a b n.1 n.2 in let t = rules-at n.0 (SumNode s.0 s.1) n.1 s.2 in let f = first-of t.0 t.1 t.2 in
        held-of s.0 a s.3 s.5 (f.0 n.3 (flag-of s.1 b s.4 s.6 k));
    right_of_sum = λ a b m h k.
        let n = flagged-has ns table flags (Sum a b) h in let s = sum-node ns table n.0 a b n.1 n.2 in let t = rules-at n.0 (SumNode s.0 s.1) n.1 s.2 in let f = first-of t.0 t.1 t.2 in
        held-of s.1 b s.4 s.6 (f.1 n.3 (flag-of s.0 a s.3 s.5 k));
    left_of_difference = λ a b m h k.
        let n = flagged-has ns table flags (Difference a b) h in let s = difference-node ns table n.0 a b n.1 n.2 in let t = rules-at n.0 (DifferenceNode s.0 s.1) n.1 s.2 in let f = first-of t.0 t.1 t.2 in
        held-of s.0 a s.3 s.5 (f.0 n.3 (flag-of s.1 b s.4 s.6 k));
    right_of_difference = λ a b m h k.
        let n = flagged-has ns table flags (Difference a b) h in let s = difference-node ns table n.0 a b n.1 n.2 in let t = rules-at n.0 (DifferenceNode s.0 s.1) n.1 s.2 in let f = first-of t.0 t.1 t.2 in
        held-of s.1 b s.4 s.6 (f.1 n.3 (flag-of s.0 a s.3 s.5 k));
    joined = λ a k m h j.
        let n = flagged-has ns table flags (Quotient a k) h in let s = quotient-node ns table n.0 a k n.1 n.2 in
        let o = flagged-has ns table flags (Remainder a k) j in let u = remainder-node ns table o.0 a k o.1 o.2 in
        let x : u.0 ≡ s.0 = table.apart u.0 s.0 u.2 s.2 (u.3 ∙ sym s.3) in
        let t = rules-at n.0 (QuotientNode s.0 k) n.1 s.1 in
        held-of s.0 a s.2 s.3 (joins n.0 s.0 k o.0 t.0 t.1 t.2 (got ns table o.0 (RemainderNode s.0 k) o.1 (u.1 ∙ ap (λ z. RemainderNode z k) x)) o.1 n.3 o.3);
    sum = λ a b m h k.
        let n = number-of ns table (Sum a b) m in let s = sum-node ns table n.0 a b n.1 n.2 in let t = rules-at n.0 (SumNode s.0 s.1) n.1 s.2 in let f = first-of t.0 t.1 t.2 in
        held-of n.0 (Sum a b) n.1 n.2 (f.2 (flag-of s.0 a s.3 s.5 h) (flag-of s.1 b s.4 s.6 k));
    difference = λ a b m h k.
        let n = number-of ns table (Difference a b) m in let s = difference-node ns table n.0 a b n.1 n.2 in let t = rules-at n.0 (DifferenceNode s.0 s.1) n.1 s.2 in let f = first-of t.0 t.1 t.2 in
        held-of n.0 (Difference a b) n.1 n.2 (f.2 (flag-of s.0 a s.3 s.5 h) (flag-of s.1 b s.4 s.6 k));
    quotient = λ a k m h.
        let n = number-of ns table (Quotient a k) m in let s = quotient-node ns table n.0 a k n.1 n.2 in let t = rules-at n.0 (QuotientNode s.0 k) n.1 s.1 in
        held-of n.0 (Quotient a k) n.1 n.2 (quotients n.0 s.0 k t.0 t.1 t.2 (flag-of s.0 a s.2 s.3 h));
    remainder = λ a k m h.
        let n = number-of ns table (Remainder a k) m in let s = remainder-node ns table n.0 a k n.1 n.2 in let t = rules-at n.0 (RemainderNode s.0 k) n.1 s.1 in let f = first-of t.0 t.1 t.2 in
        held-of n.0 (Remainder a k) n.1 n.2 (f.0 (flag-of s.0 a s.2 s.3 h) (flag-of s.0 a s.2 s.3 h));
    order = λ v t q m h. variables-give v v t (query-rule-at (Reorder v t) q) m h h;
    rows = λ l u t n q m h k. variables-give l u t (query-rule-at (Schedule l u t n) q) m h k;
  }
    where
      quotients : (n x k : ℕ) (rs : List Rule) → AreRulesOf ns n (QuotientNode x k) rs → ((r : Rule) → Mem r rs → Follows (flag flags) r) → flag flags x ≡ true → flag flags n ≡ true
      quotients n x k rs (inl (j, at, e)) f h = (first-of rs e f).0 h h
      quotients n x k rs (inr (none, e)) f h = (first-of rs e f).0 h h

      joins : (n x k m : ℕ) (rs : List Rule) → AreRulesOf ns n (QuotientNode x k) rs → ((r : Rule) → Mem r rs → Follows (flag flags) r) → slice_get ns m ≡ Some (RemainderNode x k) → m < length ns
          → flag flags n ≡ true → flag flags m ≡ true → flag flags x ≡ true
      joins n x k m rs (inl (j, at, e)) f there l hn hm =
          let a = got-tree ns table j (RemainderNode x k) at in
          let b = got-tree ns table m (RemainderNode x k) there in
          let q : j ≡ m = table.apart j m a.below b.below (a.is ∙ sym b.is) in
          (first-of rs e f).1 hn (subst (λ (z : ℕ). flag flags z ≡ true) (sym q) hm)
      joins n x k m rs (inr (none, e)) f there l hn hm = absurd (none m l there)

  -- ---- the flags are the known expressions

  pub known-closed : IsClosed ts qs (is_known levels qs count)
  known-closed = subst (λ (l : List Tree). IsClosed l qs (is_known levels qs count)) (sym same) law.closed

  pub start-known : (k : ℕ) → flag known.start k ≡ true → is_known levels qs count (tree_at ts k) ≡ true
  start-known k h = go (known.given_added.only k h)
    where
      constant : (k : ℕ) (xs : List Node) → flag (map is_number xs) k ≡ true → (k < length xs) × (is_number (node_at xs k) ≡ true)
      constant k [] h = absurd (false≢true h)
      constant zero (x ∷ xs) h = (omega arith, h)
      constant (suc k) (x ∷ xs) h = let r = constant k xs h in (omega (arith, r.0), r.1)

      number : (node : Node) → is_number node ≡ true → tree_at ts k ≡ tree_of ts node → k < length ns → is_known levels qs count (tree_at ts k) ≡ true
      number (NumberNode c) h e l =
          subst (λ (z : Tree). is_known levels qs count z ≡ true) (sym e) (known-closed.number c (subst (λ (z : Tree). Contains ts z) e (member ns table k l)))
      number Row h e l = absurd (false≢true h)
      number Col h e l = absurd (false≢true h)
      number (VariableNode v) h e l = absurd (false≢true h)
      number (SumNode x y) h e l = absurd (false≢true h)
      number (DifferenceNode x y) h e l = absurd (false≢true h)
      number (QuotientNode x d) h e l = absurd (false≢true h)
      number (RemainderNode x d) h e l = absurd (false≢true h)

      go : ((flag (map is_number ns) k ≡ true) ⊎ Contains (take count levels) (tree_at ts k)) → is_known levels qs count (tree_at ts k) ≡ true
      go (inl c) = let r = constant k ns c in number (node_at ns k) r.1 (at-node ns table k r.0) r.0
      go (inr m) = law.given (tree_at ts k) m

  pub known-is : (e : Tree) → held e ≡ is_known levels qs count e
  known-is e =
      same-bool (held e) (is_known levels qs count e)
      (λ h. let n = flagged-has ns table flags e h in
      subst (λ (z : Tree). is_known levels qs count z ≡ true) n.2
      (known.leads.least (λ k. is_known levels qs count (tree_at ts k)) (rules-right ns table qs (is_known levels qs count) known-closed queries known.rules refl known.all) start-known n.0 n.3))
      (law.least held (subst (λ (l : List Tree). IsClosed l qs held) same held-closed) given-held e)
