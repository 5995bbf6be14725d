-- The trees of a table of nodes.
use Rattle.std.proofs.Common.{◌≡◌, ℕ, zero, suc, ◌+◌, ◌<◌, ◌≤◌, ◌⊎◌, List, [], ◌∷◌, ◌++◌, length, get_or, Bool, true, false, cond, sym, refl, ap, ap₂, ◌∙◌, subst, inl, inr, arith, Some}
use Rattle.std.specs.Prelude.{slice_get}
use Rattle.std.specs.List.{position_or_len, list_any}
use Rattle.std.proofs.lemmas.Bool.{false≢true, cases_lt, or_right}
use Rattle.std.proofs.lemmas.List.{get_or_append_left, get_or_default}
use Rattle.std.proofs.Math.Seq.{get_or-append_seam}
use Rattle.std.proofs.lemmas.Option.{get_or_from_slice_get, slice_get-get_or}
use Rattle.us_expr.specs.Tree.{Tree, RowIndex, ColIndex, Number, Variable, Sum, Difference, Quotient, Remainder}
use Rattle.us_format.specs.Known.{same_tree, has, add_all}
use Rattle.us_format.proofs.Order.{Mem}
use Rattle.us_format.proofs.Members.{Mem-contains, contains-Mem}
use Rattle.us_format.proofs.Trees.{same_tree-true, same_tree-refl, Mem-has, has-Mem}
use Rattle.us_format.proofs.Queries.{found-first}
use Rattle.us_known.specs.declared.table.Node.{Node}
use Rattle.us_known.specs.declared.table.Node.TheVariants.{Row, Col, Number as NumberNode, Variable as VariableNode, Sum as SumNode, Difference as DifferenceNode, Quotient as QuotientNode, Remainder as RemainderNode}
use Rattle.us_known.specs.Table.{tree_at, tree_of, trees_from, trees, IsBelow, AreOrdered, IsTable, IsNumberOf, IsNoNode}

abbrev pub node_at : List Node → ℕ → Node
node_at ns i = get_or ns i Row

pub trees_from-append : (ts : List Tree) (ns : List Node) (n : Node) → trees_from ts (ns ++ n ∷ []) ≡ trees_from ts ns ++ tree_of (trees_from ts ns) n ∷ []
trees_from-append ts [] n = refl
trees_from-append ts (a ∷ ns) n = trees_from-append (ts ++ tree_of ts a ∷ []) ns n

pub length-snoc : {A : Type 0} (xs : List A) (x : A) → length (xs ++ x ∷ []) ≡ suc (length xs)
length-snoc [] x = refl
length-snoc (y ∷ xs) x = ap suc (length-snoc xs x)

pub length-trees_from : (ts : List Tree) (ns : List Node) → length (trees_from ts ns) ≡ length ts + length ns
length-trees_from ts [] = omega arith
length-trees_from ts (n ∷ ns) = omega (arith, length-trees_from (ts ++ tree_of ts n ∷ []) ns, length-snoc ts (tree_of ts n))

pub length-trees : (ns : List Node) → length (trees ns) ≡ length ns
length-trees ns = length-trees_from [] ns ∙ omega arith

-- the trees of earlier nodes stay
pub trees_from-before : (ts : List Tree) (ns : List Node) (j : ℕ) → j < length ts → tree_at (trees_from ts ns) j ≡ tree_at ts j
trees_from-before ts [] j h = refl
trees_from-before ts (n ∷ ns) j h =
    trees_from-before (ts ++ tree_of ts n ∷ []) ns j (omega (arith, h, length-snoc ts (tree_of ts n))) ∙ get_or_append_left ts (tree_of ts n ∷ []) RowIndex j h

pub tree_of-same : (ts us : List Tree) (n : Node) (k : ℕ) → IsBelow k n → ((j : ℕ) → j < k → tree_at ts j ≡ tree_at us j) → tree_of ts n ≡ tree_of us n
tree_of-same ts us Row k b h = refl
tree_of-same ts us Col k b h = refl
tree_of-same ts us (NumberNode c) k b h = refl
tree_of-same ts us (VariableNode v) k b h = refl
tree_of-same ts us (SumNode x y) k b h = ap₂ (λ (a b : Tree). Sum a b) (h x b.0) (h y b.1)
tree_of-same ts us (DifferenceNode x y) k b h = ap₂ (λ (a b : Tree). Difference a b) (h x b.0) (h y b.1)
tree_of-same ts us (QuotientNode x d) k b h = ap (λ (a : Tree). Quotient a d) (h x b)
tree_of-same ts us (RemainderNode x d) k b h = ap (λ (a : Tree). Remainder a d) (h x b)

pub tree-at_from : (ts : List Tree) (ns : List Node) (i : ℕ) → AreOrdered (length ts) ns → i < length ns → tree_at (trees_from ts ns) (length ts + i) ≡ tree_of (trees_from ts ns) (node_at ns i)
tree-at_from ts [] i o h = absurd (omega (arith, h))
tree-at_from ts (n ∷ ns) zero o h =
    ap (tree_at (trees_from ts (n ∷ ns))) (omega arith)
    ∙ trees_from-before (ts ++ tree_of ts n ∷ []) ns (length ts) (omega (arith, length-snoc ts (tree_of ts n)))
    ∙ get_or-append_seam ts (tree_of ts n) [] RowIndex
    ∙ tree_of-same ts (trees_from ts (n ∷ ns)) n (length ts) o.0 (λ j l. sym (trees_from-before ts (n ∷ ns) j l))
tree-at_from ts (n ∷ ns) (suc i) o h =
    ap (tree_at (trees_from ts (n ∷ ns))) (omega (arith, length-snoc ts (tree_of ts n)))
    ∙ tree-at_from (ts ++ tree_of ts n ∷ []) ns i (subst (λ (k : ℕ). AreOrdered k ns) (sym (length-snoc ts (tree_of ts n))) o.1) (omega (arith, h))

pub ordered-at : (k : ℕ) (ns : List Node) (i : ℕ) → AreOrdered k ns → i < length ns → IsBelow (k + i) (node_at ns i)
ordered-at k [] i o h = absurd (omega (arith, h))
ordered-at k (n ∷ ns) zero o h = subst (λ (j : ℕ). IsBelow j n) (omega arith) o.0
ordered-at k (n ∷ ns) (suc i) o h = subst (λ (j : ℕ). IsBelow j (node_at ns i)) (omega arith) (ordered-at (suc k) ns i o.1 (omega (arith, h)))

pub ordered-snoc : (k : ℕ) (ns : List Node) (n : Node) → AreOrdered k ns → IsBelow (k + length ns) n → AreOrdered k (ns ++ n ∷ [])
ordered-snoc k [] n o b = (subst (λ (j : ℕ). IsBelow j n) (omega arith) b, tt)
ordered-snoc k (a ∷ ns) n o b = (o.0, ordered-snoc (suc k) ns n o.1 (subst (λ (j : ℕ). IsBelow j n) (omega arith) b))

pub below-more : (k j : ℕ) (n : Node) → k ≤ j → IsBelow k n → IsBelow j n
below-more k j Row l b = tt
below-more k j Col l b = tt
below-more k j (NumberNode c) l b = tt
below-more k j (VariableNode v) l b = tt
below-more k j (SumNode x y) l b = (omega (arith, l, b.0), omega (arith, l, b.1))
below-more k j (DifferenceNode x y) l b = (omega (arith, l, b.0), omega (arith, l, b.1))
below-more k j (QuotientNode x d) l b = omega (arith, l, b)
below-more k j (RemainderNode x d) l b = omega (arith, l, b)

-- ---- a tree tells its number and its node

abbrev pub number_in : List Tree → Tree → ℕ
number_in ts t = position_or_len (same_tree t) ts

abbrev pub node_from : List Tree → Tree → Node
node_from ts RowIndex = Row
node_from ts ColIndex = Col
node_from ts (Number c) = NumberNode c
node_from ts (Variable v) = VariableNode v
node_from ts (Sum a b) = SumNode (number_in ts a) (number_in ts b)
node_from ts (Difference a b) = DifferenceNode (number_in ts a) (number_in ts b)
node_from ts (Quotient a k) = QuotientNode (number_in ts a) k
node_from ts (Remainder a k) = RemainderNode (number_in ts a) k

pub Mem-tree_at : (ts : List Tree) (i : ℕ) → i < length ts → Mem (tree_at ts i) ts
Mem-tree_at ts i h = contains-Mem ts (tree_at ts i) (i, h, get_or_default ts i (tree_at ts i) RowIndex h)

-- the number of a member
pub member-number : (ts : List Tree) (t : Tree) → Mem t ts → (i : ℕ) × (i < length ts) × (tree_at ts i ≡ t)
member-number ts t m = let r = Mem-contains ts t m in (r.0, r.1, get_or_default ts r.0 RowIndex t r.1 ∙ r.2)

pub any-same : (ts : List Tree) (t : Tree) → Mem t ts → list_any (same_tree t) ts ≡ true
any-same [] t m = absurd m
any-same (u ∷ ts) t (inl e) = subst (λ (z : Tree). list_any (same_tree z) (u ∷ ts) ≡ true) e (rw (same_tree-refl u) refl)
any-same (u ∷ ts) t (inr m) = or_right (same_tree t u) (list_any (same_tree t) ts) (any-same ts t m)

module _ (ns : List Node) (table : IsTable ns) where
  abbrev pub ts : List Tree
  ts = trees ns

  pub at-node : (i : ℕ) → i < length ns → tree_at ts i ≡ tree_of ts (node_at ns i)
  at-node i h = ap (tree_at ts) (omega arith) ∙ tree-at_from [] ns i table.ordered h

  pub below-at : (i : ℕ) → i < length ns → IsBelow (length ns) (node_at ns i)
  below-at i h = below-more (0 + i) (length ns) (node_at ns i) (omega (arith, h)) (ordered-at 0 ns i table.ordered h)

  pub number-back : (i : ℕ) → i < length ns → number_in ts (tree_at ts i) ≡ i
  number-back i h =
      let l : i < length ts = subst (λ (k : ℕ). i < k) (sym (length-trees ns)) h in
      let f = found-first (same_tree (tree_at ts i)) ts RowIndex (any-same ts (tree_at ts i) (Mem-tree_at ts i l)) in
      table.apart (number_in ts (tree_at ts i)) i (omega (arith, f.0, length-trees ns)) h (sym (same_tree-true (tree_at ts i) (tree_at ts (number_in ts (tree_at ts i))) f.1))

  pub node-back : (n : Node) → IsBelow (length ns) n → node_from ts (tree_of ts n) ≡ n
  node-back Row b = refl
  node-back Col b = refl
  node-back (NumberNode c) b = refl
  node-back (VariableNode v) b = refl
  node-back (SumNode x y) b = ap₂ (λ (i j : ℕ). SumNode i j) (number-back x b.0) (number-back y b.1)
  node-back (DifferenceNode x y) b = ap₂ (λ (i j : ℕ). DifferenceNode i j) (number-back x b.0) (number-back y b.1)
  node-back (QuotientNode x k) b = ap (λ (i : ℕ). QuotientNode i k) (number-back x b)
  node-back (RemainderNode x k) b = ap (λ (i : ℕ). RemainderNode i k) (number-back x b)

  pub same-node : (a b : Node) → IsBelow (length ns) a → IsBelow (length ns) b → tree_of ts a ≡ tree_of ts b → a ≡ b
  same-node a b ha hb e = sym (node-back a ha) ∙ ap (node_from ts) e ∙ node-back b hb

  -- the node with this tree
  pub node-is : (i : ℕ) (n : Node) → i < length ns → IsBelow (length ns) n → tree_at ts i ≡ tree_of ts n → node_at ns i ≡ n
  node-is i n h b e = same-node (node_at ns i) n (below-at i h) b (sym (at-node i h) ∙ e)

  pub member-at : (t : Tree) → has ts t ≡ true → (i : ℕ) × (i < length ns) × (tree_at ts i ≡ t)
  member-at t h = let r = member-number ts t (Mem-has ts t h) in (r.0, subst (λ (k : ℕ). r.0 < k) (length-trees ns) r.1, r.2)

  pub at-has : (i : ℕ) → i < length ns → has ts (tree_at ts i) ≡ true
  at-has i h = has-Mem ts (tree_at ts i) (Mem-tree_at ts i (subst (λ (k : ℕ). i < k) (sym (length-trees ns)) h))

  pub no-tree : (t : Tree) → (has ts t ≡ true → ⊥) → has ts t ≡ false
  no-tree t n = go (has ts t) refl
    where
      go : (b : Bool) → has ts t ≡ b → b ≡ false
      go true h = absurd (n h)
      go false h = refl

  pub absent : (n : Node) → IsBelow (length ns) n → IsNoNode ns n → has ts (tree_of ts n) ≡ false
  absent n b none = no-tree (tree_of ts n) (λ h.
      let r = member-at (tree_of ts n) h in
      none r.0 r.1 (slice_get-get_or ns r.0 Row r.1 ∙ ap Some (node-is r.0 n r.1 b r.2)))

  pub number-of-node : (i : ℕ) (n : Node) → slice_get ns i ≡ Some n → IsNumberOf ns i (tree_of ts n)
  number-of-node i n h =
      let l : i < length ns = there ns i n h in
      record { below = l; is = at-node i l ∙ ap (tree_of ts) (get_or_from_slice_get ns i n Row h) }
    where
      there : (xs : List Node) (i : ℕ) (n : Node) → slice_get xs i ≡ Some n → i < length xs
      there [] i n h = absurd (cc)
      there (x ∷ xs) zero n h = omega arith
      there (x ∷ xs) (suc i) n h = omega (arith, there xs i n h)

  -- ---- operands of what is there are there

  pub sum-operands : (a b : Tree) → has ts (Sum a b) ≡ true → (has ts a ≡ true) × (has ts b ≡ true)
  sum-operands a b h = let r = member-at (Sum a b) h in go (node_at ns r.0) (sym r.2 ∙ at-node r.0 r.1) (below-at r.0 r.1)
    where
      go : (n : Node) → Sum a b ≡ tree_of ts n → IsBelow (length ns) n → (has ts a ≡ true) × (has ts b ≡ true)
      go Row e k = absurd (cc)
      go Col e k = absurd (cc)
      go (NumberNode c) e k = absurd (cc)
      go (VariableNode c) e k = absurd (cc)
      go (SumNode x y) e k =
          let p : a ≡ tree_at ts x = cc in let q : b ≡ tree_at ts y = cc in
          (subst (λ (z : Tree). has ts z ≡ true) (sym p) (at-has x k.0), subst (λ (z : Tree). has ts z ≡ true) (sym q) (at-has y k.1))
      go (DifferenceNode x y) e k = absurd (cc)
      go (QuotientNode x d) e k = absurd (cc)
      go (RemainderNode x d) e k = absurd (cc)

  pub difference-operands : (a b : Tree) → has ts (Difference a b) ≡ true → (has ts a ≡ true) × (has ts b ≡ true)
  difference-operands a b h = let r = member-at (Difference a b) h in go (node_at ns r.0) (sym r.2 ∙ at-node r.0 r.1) (below-at r.0 r.1)
    where
      go : (n : Node) → Difference a b ≡ tree_of ts n → IsBelow (length ns) n → (has ts a ≡ true) × (has ts b ≡ true)
      go Row e k = absurd (cc)
      go Col e k = absurd (cc)
      go (NumberNode c) e k = absurd (cc)
      go (VariableNode c) e k = absurd (cc)
      go (SumNode x y) e k = absurd (cc)
      go (DifferenceNode x y) e k =
          let p : a ≡ tree_at ts x = cc in let q : b ≡ tree_at ts y = cc in
          (subst (λ (z : Tree). has ts z ≡ true) (sym p) (at-has x k.0), subst (λ (z : Tree). has ts z ≡ true) (sym q) (at-has y k.1))
      go (QuotientNode x d) e k = absurd (cc)
      go (RemainderNode x d) e k = absurd (cc)

  pub quotient-operand : (a : Tree) (d : ℕ) → has ts (Quotient a d) ≡ true → has ts a ≡ true
  quotient-operand a d h = let r = member-at (Quotient a d) h in go (node_at ns r.0) (sym r.2 ∙ at-node r.0 r.1) (below-at r.0 r.1)
    where
      go : (n : Node) → Quotient a d ≡ tree_of ts n → IsBelow (length ns) n → has ts a ≡ true
      go Row e k = absurd (cc)
      go Col e k = absurd (cc)
      go (NumberNode c) e k = absurd (cc)
      go (VariableNode c) e k = absurd (cc)
      go (SumNode x y) e k = absurd (cc)
      go (DifferenceNode x y) e k = absurd (cc)
      go (QuotientNode x c) e k = let p : a ≡ tree_at ts x = cc in subst (λ (z : Tree). has ts z ≡ true) (sym p) (at-has x k)
      go (RemainderNode x c) e k = absurd (cc)

  pub remainder-operand : (a : Tree) (d : ℕ) → has ts (Remainder a d) ≡ true → has ts a ≡ true
  remainder-operand a d h = let r = member-at (Remainder a d) h in go (node_at ns r.0) (sym r.2 ∙ at-node r.0 r.1) (below-at r.0 r.1)
    where
      go : (n : Node) → Remainder a d ≡ tree_of ts n → IsBelow (length ns) n → has ts a ≡ true
      go Row e k = absurd (cc)
      go Col e k = absurd (cc)
      go (NumberNode c) e k = absurd (cc)
      go (VariableNode c) e k = absurd (cc)
      go (SumNode x y) e k = absurd (cc)
      go (DifferenceNode x y) e k = absurd (cc)
      go (QuotientNode x c) e k = absurd (cc)
      go (RemainderNode x c) e k = let p : a ≡ tree_at ts x = cc in subst (λ (z : Tree). has ts z ≡ true) (sym p) (at-has x k)

-- ---- one node more

pub trees-snoc : (ns : List Node) (n : Node) → trees (ns ++ n ∷ []) ≡ trees ns ++ tree_of (trees ns) n ∷ []
trees-snoc ns n = trees_from-append [] ns n

pub added-new : (ts : List Tree) (t : Tree) → has ts t ≡ false → ts ++ t ∷ [] ≡ add_all ts (t ∷ [])
added-new ts t h = rw h refl

pub added-old : (ts : List Tree) (t : Tree) → has ts t ≡ true → ts ≡ add_all ts (t ∷ [])
added-old ts t h = rw h refl

pub trees-more : (ns : List Node) (n : Node) → IsTable ns → IsBelow (length ns) n → IsNoNode ns n → trees (ns ++ n ∷ []) ≡ add_all (trees ns) (tree_of (trees ns) n ∷ [])
trees-more ns n t b none = trees-snoc ns n ∙ added-new (trees ns) (tree_of (trees ns) n) (absent ns t n b none)

pub snoc-before : (ts : List Tree) (t : Tree) (i : ℕ) → i < length ts → tree_at (ts ++ t ∷ []) i ≡ tree_at ts i
snoc-before ts t i h = get_or_append_left ts (t ∷ []) RowIndex i h

pub snoc-last : (ts : List Tree) (t : Tree) → tree_at (ts ++ t ∷ []) (length ts) ≡ t
snoc-last ts t = get_or-append_seam ts t [] RowIndex

pub last-number : (ns : List Node) (n : Node) → IsNumberOf (ns ++ n ∷ []) (length ns) (tree_of (trees ns) n)
last-number ns n = record {
  below = omega (arith, length-snoc ns n);
  is = ap₂ (λ (l : List Tree) (i : ℕ). tree_at l i) (trees-snoc ns n) (sym (length-trees ns)) ∙ snoc-last (trees ns) (tree_of (trees ns) n);
}

pub table-more : (ns : List Node) (n : Node) → IsTable ns → IsBelow (length ns) n → IsNoNode ns n → IsTable (ns ++ n ∷ [])
table-more ns n t b none = record {
  ordered = ordered-snoc 0 ns n t.ordered (subst (λ (k : ℕ). IsBelow k n) (omega arith) b);
  apart = λ i j hi hj e. go i j (cases_lt i (length ns)) (cases_lt j (length ns)) hi hj (sym (ap (λ l. tree_at l i) (trees-snoc ns n)) ∙ e ∙ ap (λ l. tree_at l j) (trees-snoc ns n));
}
  where
    new : Tree
    new = tree_of (trees ns) n

    inside : (i : ℕ) → i < length ns → i < length (trees ns)
    inside i h = subst (λ (k : ℕ). i < k) (sym (length-trees ns)) h

    at_last : (j : ℕ) → j < length (ns ++ n ∷ []) → length ns ≤ j → tree_at (trees ns ++ new ∷ []) j ≡ new
    at_last j h l = ap (tree_at (trees ns ++ new ∷ [])) (omega (arith, h, l, length-snoc ns n, length-trees ns)) ∙ snoc-last (trees ns) new

    twice : (i j : ℕ) → i < length ns → j < length (ns ++ n ∷ []) → length ns ≤ j → tree_at (trees ns ++ new ∷ []) i ≡ tree_at (trees ns ++ new ∷ []) j → ⊥
    twice i j hi hj l e =
        let q : tree_at (trees ns) i ≡ new = sym (snoc-before (trees ns) new i (inside i hi)) ∙ e ∙ at_last j hj l in
        false≢true (sym (absent ns t n b none) ∙ subst (λ (z : Tree). has (trees ns) z ≡ true) q (at-has ns t i hi))

    go : (i j : ℕ) → ((i < length ns) ⊎ (length ns ≤ i)) → ((j < length ns) ⊎ (length ns ≤ j)) → i < length (ns ++ n ∷ []) → j < length (ns ++ n ∷ []) → tree_at (trees ns ++ new ∷ []) i ≡ tree_at (trees ns ++ new ∷ []) j → i ≡ j
    go i j (inl p) (inl q) hi hj e = t.apart i j p q (sym (snoc-before (trees ns) new i (inside i p)) ∙ e ∙ snoc-before (trees ns) new j (inside j q))
    go i j (inl p) (inr q) hi hj e = absurd (twice i j p hj q e)
    go i j (inr p) (inl q) hi hj e = absurd (twice j i q hi p (sym e))
    go i j (inr p) (inr q) hi hj e = omega (arith, p, q, hi, hj, length-snoc ns n)

-- ---- what is added stays

pub added-before : (ts xs : List Tree) (i : ℕ) → i < length ts → (tree_at (add_all ts xs) i ≡ tree_at ts i) × (length ts ≤ length (add_all ts xs))
added-before ts [] i h = (refl, omega arith)
added-before ts (x ∷ xs) i h =
    let r = added-before (cond (has ts x) ts (ts ++ x ∷ [])) xs i (omega (arith, h, (one (has ts x)).1)) in
    (r.0 ∙ (one (has ts x)).0, omega (arith, r.1, (one (has ts x)).1))
  where
    one : (b : Bool) → (tree_at (cond b ts (ts ++ x ∷ [])) i ≡ tree_at ts i) × (length ts ≤ length (cond b ts (ts ++ x ∷ [])))
    one true = (refl, omega arith)
    one false = (snoc-before ts x i h, omega (arith, length-snoc ts x))

-- a number stays one as the table grows
pub number-stays : (ns more : List Node) (n : ℕ) (e : Tree) (xs : List Tree) → trees more ≡ add_all (trees ns) xs → IsNumberOf ns n e → IsNumberOf more n e
number-stays ns more n e xs h k =
    let l : n < length (trees ns) = subst (λ (i : ℕ). n < i) (sym (length-trees ns)) k.below in
    let r = added-before (trees ns) xs n l in
    record {
      below = omega (arith, l, r.1, length-trees more, ap length h);
      is = ap (λ t. tree_at t n) h ∙ r.0 ∙ k.is;
    }

pub add_all-append : (us xs ys : List Tree) → add_all us (xs ++ ys) ≡ add_all (add_all us xs) ys
add_all-append us [] ys = refl
add_all-append us (x ∷ xs) ys = add_all-append (cond (has us x) us (us ++ x ∷ [])) xs ys
