-- The end of a plan: the steps up to the one with which both indices have values.
use Rattle.std.proofs.Common.{◌≡◌, ℕ, zero, suc, ◌+◌, ◌*◌, ◌<◌, ◌≤◌, ◌⊎◌, max, List, [], ◌∷◌, ◌++◌, take, map, length, get_or, Bool, true, false, cond, ◌&&◌, sym, refl, ap, ap₂, ◌∙◌, subst, inl, inr, arith, Option, Some, None, is_some}
use Rattle.std.specs.Prelude.{slice_get}
use Rattle.std.proofs.lemmas.Bool.{false≢true, and_from, cases_lt}
use Rattle.std.proofs.lemmas.List.{length-map, length-append, map-append, get_or_default}
use Rattle.us_expr.specs.Tree.{Tree, node_count, RowIndex, ColIndex, Number, Variable, Sum, Difference, Quotient, Remainder}
use Rattle.us_format.specs.Declaration.{Query, argument}
use Rattle.us_format.specs.Lists.{join}
use Rattle.us_format.specs.Known.{has, Steps, known_of, sub_expressions, add_all, expressions, given_steps, is_known}
use Rattle.us_format.specs.Recover.{until_both}
use Rattle.us_format.proofs.Order.{Mem}
use Rattle.us_format.proofs.Members.{all-Mem}
use Rattle.us_format.proofs.Trees.{Mem-has, has-Mem}
use Rattle.us_known.specs.declared.table.Node.{Node}
use Rattle.us_invert.specs.declared.steps.PlanStep.{PlanStep}
use Rattle.us_invert.specs.declared.making.Making.{Making}
use Rattle.us_known.specs.Table.{tree_at, tree_of, trees, IsBelow, IsTable, IsNumberOf, IsNoNode}
use Rattle.us_invert.specs.Sources.{AreNumbersOf}
use Rattle.us_invert.specs.Plan.{steps_of, AreSteps, IsPlan, AreSmall}
use Rattle.us_invert.specs.Made.{trees_at, made_steps, AreNumbered, IsMaking, IsStepNumber}
use Rattle.us_known.proofs.NodeTrees.{node_at, at-node, below-more, ordered-at, number-of-node, absent, length-trees, Mem-tree_at}
use Rattle.us_known.proofs.Loops.{take-next}
use Rattle.us_invert.proofs.FromNodes.{same-bool}
use Rattle.us_invert.proofs.StepLists.{length-steps, are-steps-take, steps-take, length-take, tree-take}
use Rattle.us_invert.proofs.Adding.{known-made, tree-made, making-known}

-- ---- nodes

module _ (ns : List Node) (table : IsTable ns) (n : ℕ) (node : Node) (l : n < length ns) (at : node_at ns n ≡ node) where
  pub node-below : IsBelow n node
  node-below = subst (λ (x : Node). IsBelow n x) at (subst (λ (k : ℕ). IsBelow k (node_at ns n)) (zero-plus n) (ordered-at 0 ns n table.ordered l))
    where
      zero-plus : (n : ℕ) → 0 + n ≡ n
      zero-plus n = omega arith

  pub node-tree : tree_of (trees ns) node ≡ tree_at (trees ns) n
  node-tree = sym (at-node ns table n l ∙ ap (tree_of (trees ns)) at)

-- ---- where a list has both indices

abbrev pub both_in : List Tree → Bool
both_in known = has known RowIndex && has known ColIndex

-- the expressions known after the first n of a list
abbrev seen : List Tree → List Tree → ℕ → List Tree
seen known ts zero = known
seen known [] (suc n) = known
seen known (t ∷ ts) (suc n) = seen (t ∷ known) ts n

cut-at : (known : List Tree) (steps : Steps) (n : ℕ) → both_in (seen known (known_of steps) n) ≡ true → ((m : ℕ) → m < n → both_in (seen known (known_of steps) m) ≡ false) → until_both known steps ≡ take n steps
cut-at known [] zero b h = refl
cut-at known [] (suc n) b h = refl
cut-at known (x ∷ steps) zero b h = rw b refl
cut-at known (x ∷ steps) (suc n) b h = rw (h zero (omega arith)) (ap (λ l. x ∷ l) (cut-at (x.0 ∷ known) steps n b (λ m l. h (suc m) (omega (arith, l)))))

seen-keeps : (known ts : List Tree) (n : ℕ) (e : Tree) → Mem e known → Mem e (seen known ts n)
seen-keeps known ts zero e m = m
seen-keeps known [] (suc n) e m = m
seen-keeps known (t ∷ ts) (suc n) e m = seen-keeps (t ∷ known) ts n e (inr m)

seen-there : (known ts : List Tree) (n k : ℕ) (e : Tree) → k < n → k < length ts → tree_at ts k ≡ e → Mem e (seen known ts n)
seen-there known ts zero k e l h q = absurd (omega (arith, l))
seen-there known [] (suc n) k e l h q = absurd (omega (arith, h))
seen-there known (t ∷ ts) (suc n) zero e l h q = seen-keeps (t ∷ known) ts n e (inl q)
seen-there known (t ∷ ts) (suc n) (suc k) e l h q = seen-there (t ∷ known) ts n k e (omega (arith, l)) (omega (arith, h)) q

seen-from : (known ts : List Tree) (n : ℕ) (e : Tree) → Mem e (seen known ts n) → Mem e known ⊎ ((k : ℕ) × (k < n) × (k < length ts) × (tree_at ts k ≡ e))
seen-from known ts zero e m = inl m
seen-from known [] (suc n) e m = inl m
seen-from known (t ∷ ts) (suc n) e m = go (seen-from (t ∷ known) ts n e m)
  where
    go : (Mem e (t ∷ known) ⊎ ((k : ℕ) × (k < n) × (k < length ts) × (tree_at ts k ≡ e))) → Mem e known ⊎ ((k : ℕ) × (k < suc n) × (k < length (t ∷ ts)) × (tree_at (t ∷ ts) k ≡ e))
    go (inl (inl q)) = inr (zero, omega arith, omega arith, q)
    go (inl (inr q)) = inl q
    go (inr (k, l, h, q)) = inr (suc k, omega (arith, l), omega (arith, h), q)

module _ (ts : List Tree) (apart : (i j : ℕ) → i < length ts → j < length ts → tree_at ts i ≡ tree_at ts j → i ≡ j) where
  -- an expression is not known before its place
  not-before : (k m : ℕ) (e : Tree) → k < length ts → tree_at ts k ≡ e → m ≤ k → has (seen [] ts m) e ≡ false
  not-before k m e l q h = same-bool (has (seen [] ts m) e) false (λ t. absurd (go (seen-from [] ts m e (Mem-has (seen [] ts m) e t)))) (λ t. absurd (false≢true t))
    where
      late : (i k m : ℕ) → i < m → m ≤ k → i ≡ k → ⊥
      late i k m p r s = omega (arith, p, r, s)

      go : (Mem e [] ⊎ ((i : ℕ) × (i < m) × (i < length ts) × (tree_at ts i ≡ e))) → ⊥
      go (inl n) = n
      go (inr (i, p, r, s)) = late i k m p h (apart i k r l (s ∙ sym q))

  module _ (r c : ℕ) (lr : r < length ts) (row : tree_at ts r ≡ RowIndex) (lc : c < length ts) (col : tree_at ts c ≡ ColIndex) where
    both-there : both_in (seen [] ts (suc (max r c))) ≡ true
    both-there =
        and_from (has (seen [] ts (suc (max r c))) RowIndex) (has (seen [] ts (suc (max r c))) ColIndex)
        (has-Mem (seen [] ts (suc (max r c))) RowIndex (seen-there [] ts (suc (max r c)) r RowIndex (omega arith) lr row))
        (has-Mem (seen [] ts (suc (max r c))) ColIndex (seen-there [] ts (suc (max r c)) c ColIndex (omega arith) lc col))

    not-both : (m : ℕ) → m < suc (max r c) → both_in (seen [] ts m) ≡ false
    not-both m l = go (side r c m l)
      where
        side : (r c m : ℕ) → m < suc (max r c) → (m ≤ r) ⊎ (m ≤ c)
        side r c m l = pick (cases_lt r m)
          where
            pick : ((r < m) ⊎ (m ≤ r)) → (m ≤ r) ⊎ (m ≤ c)
            pick (inl p) = inr (omega (arith, p, l))
            pick (inr p) = inl p

        no-left : (a b : Bool) → a ≡ false → (a && b) ≡ false
        no-left true b h = absurd (false≢true (sym h))
        no-left false b h = refl

        no-right : (a b : Bool) → b ≡ false → (a && b) ≡ false
        no-right true b h = h
        no-right false b h = refl

        go : ((m ≤ r) ⊎ (m ≤ c)) → both_in (seen [] ts m) ≡ false
        go (inl h) = no-left _ _ (not-before r m RowIndex lr row h)
        go (inr h) = no-right _ _ (not-before c m ColIndex lc col h)

    -- the steps up to the later of the two
    until-both : (steps : Steps) → known_of steps ≡ ts → until_both [] steps ≡ take (suc (max r c)) steps
    until-both steps e =
        cut-at [] steps (suc (max r c)) (subst (λ (us : List Tree). both_in (seen [] us (suc (max r c))) ≡ true) (sym e) both-there)
        (λ m l. subst (λ (us : List Tree). both_in (seen [] us m) ≡ false) (sym e) (not-both m l))

map-take : {A B : Type 0} (f : A → B) (k : ℕ) (xs : List A) → map f (take k xs) ≡ take k (map f xs)
map-take f zero xs = refl
map-take f (suc k) [] = refl
map-take f (suc k) (x ∷ xs) = ap (λ l. f x ∷ l) (map-take f k xs)

pub get-take : (xs : List ℕ) (n k : ℕ) → k < length (take n xs) → (k < length xs) × (get_or (take n xs) k 0 ≡ get_or xs k 0)
get-take xs zero k l = absurd (omega (arith, l))
get-take [] (suc n) k l = absurd (omega (arith, l))
get-take (x ∷ xs) (suc n) zero l = (omega arith, refl)
get-take (x ∷ xs) (suc n) (suc k) l = let r = get-take xs n k (omega (arith, l)) in (omega (arith, r.0), r.1)

module _ (ns : List Node) (table : IsTable ns) (m : Making) (h : IsMaking ns m) where
  abbrev pub made_trees : List Tree
  made_trees = trees_at ns m.made.items

  made-length : length made_trees ≡ length m.made.items
  made-length = length-map m.made.items (tree_at (trees ns))

  pub made-few : length m.made.items ≤ length ns
  made-few = omega (arith, h.count)

  module _ (r c : ℕ) (lr : r < length m.made.items) (row : tree_at made_trees r ≡ RowIndex) (lc : c < length m.made.items) (col : tree_at made_trees c ≡ ColIndex) (exprs : List Tree)
      (same : exprs ≡ trees_at ns (take (max r c + 1) m.made.items)) where
    plus-one : max r c + 1 ≡ suc (max r c)
    plus-one = omega arith

    short : suc (max r c) ≤ length made_trees
    short = omega (arith, lr, lc, made-length)

    cut-trees : exprs ≡ take (suc (max r c)) made_trees
    cut-trees = same ∙ map-take (tree_at (trees ns)) (max r c + 1) m.made.items ∙ ap (λ k. take k made_trees) plus-one

    pub cut-is : steps_of exprs (take (max r c + 1) m.steps.items) ≡ until_both [] (made_steps ns m)
    cut-is =
        ap₂ (λ (us : List Tree) (k : ℕ). steps_of us (take k m.steps.items)) cut-trees plus-one
        ∙ steps-take (suc (max r c)) made_trees m.steps.items short h.steps_are
        ∙ sym (until-both made_trees h.steps_are.apart r c (omega (arith, lr, made-length)) row (omega (arith, lc, made-length)) col (made_steps ns m) (known-made ns table m.made.items m.steps.items m.numbers.items h))

    pub cut-plan : length ns ≤ 706 → IsPlan exprs (take (max r c + 1) m.steps.items) r c
    cut-plan small =
        let l : length exprs ≡ suc (max r c) = ap length cut-trees ∙ length-take (suc (max r c)) made_trees short in
        record {
          steps_are =
              subst (λ (us : List Tree). AreSteps us (take (max r c + 1) m.steps.items)) (sym cut-trees)
              (subst (λ (k : ℕ). AreSteps (take (suc (max r c)) made_trees) (take k m.steps.items)) (sym plus-one) (are-steps-take (suc (max r c)) made_trees m.steps.items short h.steps_are));
          few = omega (arith, l, short, made-length, made-few, small);
          row = ap (λ us. tree_at us r) cut-trees ∙ tree-take (suc (max r c)) made_trees r (omega arith) ∙ row;
          col = ap (λ us. tree_at us c) cut-trees ∙ tree-take (suc (max r c)) made_trees c (omega arith) ∙ col;
          last = l;
        }

    pub cut-few : length (steps_of exprs (take (max r c + 1) m.steps.items)) ≤ length ns
    cut-few = omega (arith, length-steps exprs exprs (take (max r c + 1) m.steps.items) (cut-same), ap length cut-trees, length-take (suc (max r c)) made_trees short, short, made-length, made-few)
      where
        cut-same : length (take (max r c + 1) m.steps.items) ≡ length exprs
        cut-same = omega (arith, length-take (max r c + 1) m.steps.items (omega (arith, short, h.steps_are.same_length)), ap length cut-trees, length-take (suc (max r c)) made_trees short)

-- the expressions of the steps, one more
pub exprs-more : {A : Type 0} (f : A → Tree) (g : ℕ → Tree) (xs ys : List A) (x : A) (made : List ℕ) (k : ℕ) → map f xs ≡ map g (take k made) → k < length made → f x ≡ g (get_or made k 0) → ys ≡ xs ++ x ∷ [] → map f ys ≡ map g (take (k + 1) made)
exprs-more f g xs ys x made k h l e n =
    ap (map f) n ∙ map-append f xs (x ∷ []) ∙ ap₂ (λ (a : List Tree) (b : Tree). a ++ b ∷ []) h e
    ∙ sym (map-append g (take k made) (get_or made k 0 ∷ []))
    ∙ ap (map g) (sym (take-next made k (get_or made k 0) l (get_or_default made k 0 (get_or made k 0) l)))

-- ---- the numbers of the steps of the indices

module _ (ns : List Node) (table : IsTable ns) (made : List ℕ) (steps : List PlanStep) (numbers : List (Option ℕ)) (h : AreNumbered ns made steps numbers) (leaf : Node) (below : IsBelow 0 leaf) where
  below-all : IsBelow (length ns) leaf
  below-all = below-more 0 (length ns) leaf (omega arith) below

  known : AreNumbersOf ns numbers (known_of (steps_of (trees_at ns made) steps))
  known = making-known ns table made steps numbers h

  in-known : has (trees_at ns made) (tree_of (trees ns) leaf) ≡ true → has (known_of (steps_of (trees_at ns made) steps)) (tree_of (trees ns) leaf) ≡ true
  in-known t = subst (λ (us : List Tree). has us (tree_of (trees ns) leaf) ≡ true) (sym (known-made ns table made steps numbers h)) t

  pub number-absent : IsNoNode ns leaf → IsStepNumber (trees_at ns made) (tree_of (trees ns) leaf) None
  number-absent none = record { found = tt; absent = same-bool (has (trees_at ns made) (tree_of (trees ns) leaf)) false (λ t. absurd (false≢true (sym (absent ns table leaf below-all none) ∙ known.members (tree_of (trees ns) leaf) (in-known t)))) (λ t. absurd (false≢true t)) }

  pub number-there : (n : ℕ) → slice_get ns n ≡ Some leaf → IsStepNumber (trees_at ns made) (tree_of (trees ns) leaf) (get_or numbers n None)
  number-there n at =
      let k : IsNumberOf ns n (tree_of (trees ns) leaf) = number-of-node ns table n leaf at in
      go (get_or numbers n None) refl (known.each n k.below ∙ ap₂ has-in (known-made ns table made steps numbers h) k.is)
    where
      has-in : List Tree → Tree → Bool
      has-in us e = has us e

      go : (o : Option ℕ) → get_or numbers n None ≡ o → is_some (get_or numbers n None) ≡ has (trees_at ns made) (tree_of (trees ns) leaf) → IsStepNumber (trees_at ns made) (tree_of (trees ns) leaf) o
      go None e q = record { found = tt; absent = sym q ∙ ap is_some e }
      go (Some j) e q =
          let r : (j < length made) × (get_or made j 0 ≡ n) = h.there n j e in
          let k : IsNumberOf ns n (tree_of (trees ns) leaf) = number-of-node ns table n leaf at in
          record { found = (subst (λ (i : ℕ). j < i) (sym (length-map made (tree_at (trees ns)))) r.0, tree-made ns table made steps numbers h j r.0 ∙ ap (tree_at (trees ns)) r.1 ∙ k.is); absent = tt }

-- ---- the whole plan

known-of : (ns : List Node) (table : IsTable ns) (m : Making) (h : IsMaking ns m) (levels : List Tree) (qs : List Query) (count : ℕ) (e : Tree) → made_steps ns m ≡ given_steps levels qs count → has (trees_at ns m.made.items) e ≡ is_known levels qs count e
known-of ns table m h levels qs count e same = ap (λ (us : List Tree). has us e) (sym (known-made ns table m.made.items m.steps.items m.numbers.items h)) ∙ ap (λ (l : Steps). has (known_of l) e) same

pub index-known : (ns : List Node) (table : IsTable ns) (m : Making) (h : IsMaking ns m) (levels : List Tree) (qs : List Query) (count : ℕ) (e : Tree) (k : ℕ) → made_steps ns m ≡ given_steps levels qs count
    → IsStepNumber (trees_at ns m.made.items) e (Some k) → is_known levels qs count e ≡ true
index-known ns table m h levels qs count e k same n =
    sym (known-of ns table m h levels qs count e same) ∙ has-Mem (trees_at ns m.made.items) e (subst (λ (t : Tree). Mem t (trees_at ns m.made.items)) n.found.1 (Mem-tree_at (trees_at ns m.made.items) k n.found.0))

pub index-unknown : (ns : List Node) (table : IsTable ns) (m : Making) (h : IsMaking ns m) (levels : List Tree) (qs : List Query) (count : ℕ) (e : Tree) (o : Option ℕ) → made_steps ns m ≡ given_steps levels qs count
    → IsStepNumber (trees_at ns m.made.items) e o → ((k : ℕ) → o ≡ Some k → ⊥) → is_known levels qs count e ≡ false
index-unknown ns table m h levels qs count e None same n none = sym (known-of ns table m h levels qs count e same) ∙ n.absent
index-unknown ns table m h levels qs count e (Some k) same n none = absurd (none k refl)

-- ---- how many expressions a part has

sub-length : (e : Tree) → length (sub_expressions e) ≡ node_count e
sub-length RowIndex = refl
sub-length ColIndex = refl
sub-length (Number c) = refl
sub-length (Variable v) = refl
sub-length (Sum a b) = omega (arith, length-append (sub_expressions a) (sub_expressions b ++ Sum a b ∷ []), length-append (sub_expressions b) (Sum a b ∷ []), sub-length a, sub-length b)
sub-length (Difference a b) = omega (arith, length-append (sub_expressions a) (sub_expressions b ++ Difference a b ∷ []), length-append (sub_expressions b) (Difference a b ∷ []), sub-length a, sub-length b)
sub-length (Quotient a k) = omega (arith, length-append (sub_expressions a) (Quotient a k ∷ []), sub-length a)
sub-length (Remainder a k) = omega (arith, length-append (sub_expressions a) (Remainder a k ∷ []), sub-length a)

add-length : (found es : List Tree) → length (add_all found es) ≤ length found + length es
add-length found [] = omega arith
add-length found (e ∷ es) = omega (arith, add-length (cond (has found e) found (found ++ e ∷ [])) es, one (has found e))
  where
    one : (b : Bool) → length (cond b found (found ++ e ∷ [])) ≤ length found + 1
    one true = omega arith
    one false = omega (arith, length-append found (e ∷ []))

join-length : {A : Type 0} (f : A → Tree) (xs : List A) → ((x : A) → Mem x xs → node_count (f x) ≤ 32) → length (join (map (λ x. sub_expressions (f x)) xs)) ≤ 32 * length xs
join-length f [] h = omega arith
join-length f (x ∷ xs) h = omega (arith, length-append (sub_expressions (f x)) (join (map (λ y. sub_expressions (f y)) xs)), sub-length (f x), h x (inl refl), join-length f xs (λ y m. h y (inr m)))

pub expressions-few : (levels : List Tree) (qs : List Query) → AreSmall levels qs → length (expressions levels qs) ≤ 32 * (length levels + length qs) + 2
expressions-few levels qs a =
    omega (
      arith,
      add-length [] (join (map sub_expressions levels) ++ (join (map (λ q. sub_expressions (argument q)) qs) ++ RowIndex ∷ ColIndex ∷ [])),
      length-append (join (map sub_expressions levels)) (join (map (λ q. sub_expressions (argument q)) qs) ++ RowIndex ∷ ColIndex ∷ []),
      length-append (join (map (λ q. sub_expressions (argument q)) qs)) (RowIndex ∷ ColIndex ∷ []),
      join-length (λ e. e) levels (λ e m. all-Mem (λ x. node_count x ≤ 32) levels e a.levels_are m),
      join-length argument qs (λ q m. all-Mem (λ x. node_count (argument x) ≤ 32) qs q a.arguments_are m),
    )

pub table-few : (ns : List Node) (levels : List Tree) (qs : List Query) (a b : ℕ) → trees ns ≡ expressions levels qs → AreSmall levels qs → length levels ≡ a → length qs ≡ b → length ns ≤ 32 * (a + b) + 2
table-few ns levels qs a b same small l q = omega (arith, ap length same, length-trees ns, expressions-few levels qs small, l, q)
