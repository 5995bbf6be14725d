-- Recovery, step by step.
use Rattle.std.proofs.Common.{◌≡◌, ℕ, zero, suc, ◌+◌, ◌^◌, ◌<◌, ◌≤◌, ◌⊎◌, max, List, [], ◌∷◌, ◌++◌, take, drop, drop-cons, add-one, map, length, get_or, Bool, true, false, cond, ◌&&◌, sym, refl, ap, ap₂, ◌∙◌, subst, inl, inr, arith, Option, Some, None, IfSome, All, ℤ, pos, negsuc, ◌+ℤ◌, ◌-ℤ◌, ◌≤ℤ◌, ◌<ℤ◌}
use Rattle.std.specs.Prelude.{slice_get, int_le}
use Rattle.std.proofs.lemmas.Bool.{false≢true, cases_lt, cases_eq}
use Rattle.std.proofs.lemmas.Int.{ints}
use Rattle.std.proofs.lemmas.List.{get_or-map, get_or_append_left, drop_all, take_all}
use Rattle.std.proofs.lemmas.Option.{get_or_from_slice_get}
use Rattle.us_expr.specs.declared.ranges.Range.{Range}
use Rattle.us_expr.specs.Tree.{Tree, RowIndex, ColIndex, Number, Variable, Sum, Difference, Quotient, Remainder}
use Rattle.us_expr.specs.Range.{range, index_range, IsRangeable}
use Rattle.us_format.specs.Lists.{then_do, cell, nat_of}
use Rattle.us_format.specs.Matrix.{Shape}
use Rattle.us_format.specs.Declaration.{Part, Query}
use Rattle.us_format.specs.Coordinates.{level_range}
use Rattle.us_format.specs.Known.{has, same_tree, Give, OfLevel, Steps, given_steps}
use Rattle.us_format.specs.Recover.{Found, Values, value_of, both, give_value, lies_in, checked, recover, recovered, until_both, plan_of}
use Rattle.us_format.proofs.Trees.{same_tree-true, same_tree-refl}
use Rattle.us_format.proofs.Chain.{StepOk, Chain, chain-given}
use Rattle.us_format.proofs.Planned.{plan-recovers}
use Rattle.us_invert.specs.declared.steps.PlanStep.{PlanStep}
use Rattle.us_invert.specs.declared.steps.PlanStep.TheVariants.{Const, Level, Add, Sub, Join, Div, Rem, Order, Rows}
use Rattle.us_known.specs.Table.{tree_at}
use Rattle.us_invert.specs.Plan.{give_at, steps_of, step_at, IsEarlier, IsSuited, IsPlan}
use Rattle.us_invert.specs.Recovery.{IsCoordinate, HasCoordinate, IsRecoveryOf, step_value, IsLevelStep, IsIndexValue}
use Rattle.us_invert.proofs.FromNodes.{same-bool}
use Rattle.us_invert.proofs.StepLists.{length-steps, steps-at}
use Rattle.us_known.proofs.NodeTrees.{length-snoc}
use Rattle.std.proofs.Math.Seq.{get_or-append_seam}

-- ---- indices are numbers below 2^32

if-some : (P : ℤ → Type 0) (o : Option ℤ) → ((z : ℤ) → P z) → IfSome o P
if-some P None h = tt
if-some P (Some z) h = h z

tested : (P : ℤ → Type 0) (r : Range) (z : ℤ) → (r.lo ≤ℤ z → z ≤ℤ r.hi → P z) → IfSome (cond (lies_in r z) (Some z) None) P
tested P r z h = go (lies_in r z) refl
  where
    le : (a b : ℤ) → int_le a b ≡ true → a ≤ℤ b
    le a b q = grind (arith, ints)

    left : (a b : Bool) → (a && b) ≡ true → a ≡ true
    left true b h = refl
    left false b h = absurd (false≢true h)

    right : (a b : Bool) → (a && b) ≡ true → b ≡ true
    right true b h = h
    right false b h = absurd (false≢true h)

    go : (b : Bool) → lies_in r z ≡ b → IfSome (cond b (Some z) None) P
    go true q = h (le r.lo z (left _ _ q)) (le z r.hi (right (int_le r.lo z) _ q))
    go false q = tt

-- a coordinate in the range gives a number in the range
in-level : (v lo hi : ℤ) → pos 0 ≤ℤ v → v <ℤ pos (nat_of ((hi +ℤ pos 1) -ℤ lo)) → (lo ≤ℤ (pos (nat_of v) +ℤ lo)) × ((pos (nat_of v) +ℤ lo) ≤ℤ hi)
in-level (pos v) lo hi h l = go ((hi +ℤ pos 1) -ℤ lo) refl l
  where
    go : (d : ℤ) → (hi +ℤ pos 1) -ℤ lo ≡ d → pos v <ℤ pos (nat_of d) → (lo ≤ℤ (pos v +ℤ lo)) × ((pos v +ℤ lo) ≤ℤ hi)
    go (pos d) e l = (omega (arith, ints), omega (arith, ints))
    go (negsuc d) e l = absurd (omega (arith, ints))
in-level (negsuc v) lo hi h l = absurd (omega (arith, ints))

-- the number of an index is below 2^32
index-value : (n : ℕ) (z : ℤ) → n < 2 ^ 31 → pos 0 ≤ℤ z → z ≤ℤ (pos n -ℤ pos 1) → (pos 0 ≤ℤ z) × (z <ℤ pos (2 ^ 32))
index-value n z l a b = (a, omega (arith, ints))

module _ (values : List ℤ) (kept : List ℤ) (f : Found) (coords : f.coords ≡ map nat_of values) (r : Range) where
  coordinate-at : (k : ℕ) → k < length values → get_or f.coords k 0 ≡ nat_of (cell values k)
  coordinate-at k l = ap (λ (xs : List ℕ). get_or xs k 0) coords ∙ get_or-map nat_of values k (pos 0) 0 l

  -- what is given lies in the range of an expression that isn't a constant
  given-lies : (P : ℤ → Type 0) (x : PlanStep) → ((c : ℕ) → x ≡ Const c → ⊥) → IsLevelStep values r x → ((z : ℤ) → r.lo ≤ℤ z → z ≤ℤ r.hi → P z) → IfSome (checked r (give_at [] x) (step_value kept r.lo f x)) P
  given-lies P (Const c) n l h = absurd (n c refl)
  given-lies P (Level k) n l h =
      let d = in-level (cell values k) r.lo r.hi l.1 l.2 in
      subst (λ (m : ℕ). P (pos m +ℤ r.lo)) (sym (coordinate-at k l.0)) (h (pos (nat_of (cell values k)) +ℤ r.lo) d.0 d.1)
  given-lies P (Add a b) n l h = tested P r _ (h _)
  given-lies P (Sub a b) n l h = tested P r _ (h _)
  given-lies P (Join a b k) n l h = tested P r _ (h _)
  given-lies P (Div a k) n l h = tested P r _ (h _)
  given-lies P (Rem a k) n l h = tested P r _ (h _)
  given-lies P (Order q v) n l h = tested P r _ (h _)
  given-lies P (Rows q a b) n l h = tested P r _ (h _)

not-constant : (t : Tree) (x : PlanStep) → ((c : ℕ) → t ≡ Number c → ⊥) → IsSuited t x → (c : ℕ) → x ≡ Const c → ⊥
not-constant t x n s c e = n c (subst (λ (y : PlanStep). IsSuited t y) e s)

pub index-is : (rows cols : ℕ) (vars : List Range) (t : Tree) (x : PlanStep) (values kept : List ℤ) (f : Found) → f.coords ≡ map nat_of values → rows < 2 ^ 31 → cols < 2 ^ 31 → IsLevelStep values (range rows cols vars t) x → IsSuited t x
    → IfSome (checked (range rows cols vars t) (give_at [] x) (step_value kept (range rows cols vars t).lo f x)) (IsIndexValue t)
index-is rows cols vars RowIndex x values kept f c lr lc l s =
    given-lies values kept f c (index_range rows) (IsIndexValue RowIndex) x (not-constant RowIndex x (λ c e. cc) s) l (λ z a b. index-value rows z lr a b)
index-is rows cols vars ColIndex x values kept f c lr lc l s =
    given-lies values kept f c (index_range cols) (IsIndexValue ColIndex) x (not-constant ColIndex x (λ c e. cc) s) l (λ z a b. index-value cols z lc a b)
index-is rows cols vars (Number d) x values kept f c lr lc l s = if-some (IsIndexValue (Number d)) _ (λ z. tt)
index-is rows cols vars (Variable v) x values kept f c lr lc l s = if-some (IsIndexValue (Variable v)) _ (λ z. tt)
index-is rows cols vars (Sum a b) x values kept f c lr lc l s = if-some (IsIndexValue (Sum a b)) _ (λ z. tt)
index-is rows cols vars (Difference a b) x values kept f c lr lc l s = if-some (IsIndexValue (Difference a b)) _ (λ z. tt)
index-is rows cols vars (Quotient a k) x values kept f c lr lc l s = if-some (IsIndexValue (Quotient a k)) _ (λ z. tt)
index-is rows cols vars (Remainder a k) x values kept f c lr lc l s = if-some (IsIndexValue (Remainder a k)) _ (λ z. tt)

-- ---- the values so far

-- the values of the first n expressions, the newest first
abbrev pub kept_by : List Tree → List ℤ → ℕ → Values
kept_by ts zs zero = []
kept_by ts zs (suc n) = (tree_at ts n, cell zs n) ∷ kept_by ts zs n

pub kept-more : (ts : List Tree) (zs : List ℤ) (z : ℤ) (n : ℕ) → n ≤ length zs → kept_by ts (zs ++ z ∷ []) n ≡ kept_by ts zs n
kept-more ts zs z zero l = refl
kept-more ts zs z (suc n) l =
    ap₂ (λ (w : ℤ) (vs : Values). (tree_at ts n, w) ∷ vs) (get_or_append_left zs (z ∷ []) (pos 0) n (omega (arith, l))) (kept-more ts zs z n (omega (arith, l)))

value-none : (ts : List Tree) (zs : List ℤ) (e : Tree) (n : ℕ) → ((k : ℕ) → k < n → tree_at ts k ≡ e → ⊥) → value_of (kept_by ts zs n) e ≡ None
value-none ts zs e zero h = refl
value-none ts zs e (suc n) h = go (same_tree (tree_at ts n) e) refl (value-none ts zs e n (λ k l. h k (omega (arith, l))))
  where
    go : (b : Bool) → same_tree (tree_at ts n) e ≡ b → value_of (kept_by ts zs n) e ≡ None → cond (same_tree (tree_at ts n) e) (Some (cell zs n)) (value_of (kept_by ts zs n) e) ≡ None
    go true q ih = absurd (h n (omega arith) (same_tree-true (tree_at ts n) e q))
    go false q ih = rw q ih

module _ (ts : List Tree) (zs : List ℤ) (apart : (i j : ℕ) → i < length ts → j < length ts → tree_at ts i ≡ tree_at ts j → i ≡ j) where
  value-at : (n a : ℕ) → n ≤ length ts → a < n → value_of (kept_by ts zs n) (tree_at ts a) ≡ Some (cell zs a)
  value-at zero a l h = absurd (omega (arith, h))
  value-at (suc n) a l h = go (cases_eq n a) (λ m. value-at n a (omega (arith, l)) m)
    where
      go : ((n ≡ a) ⊎ (n ≡ a → ⊥)) → (a < n → value_of (kept_by ts zs n) (tree_at ts a) ≡ Some (cell zs a)) → cond (same_tree (tree_at ts n) (tree_at ts a)) (Some (cell zs n)) (value_of (kept_by ts zs n) (tree_at ts a)) ≡ Some (cell zs a)
      go (inl q) ih = rw (ap (λ k. same_tree (tree_at ts k) (tree_at ts a)) q ∙ same_tree-refl (tree_at ts a)) (ap (λ k. Some (cell zs k)) q)
      go (inr q) ih =
          let f : same_tree (tree_at ts n) (tree_at ts a) ≡ false = same-bool _ false (λ t. absurd (q (apart n a (omega (arith, l)) (omega (arith, l, h)) (same_tree-true (tree_at ts n) (tree_at ts a) t)))) (λ t. absurd (false≢true t)) in
          rw f (ih (omega (arith, h, q)))

  value-of-tree : (n a : ℕ) (e : Tree) → n ≤ length ts → a < n → tree_at ts a ≡ e → value_of (kept_by ts zs n) e ≡ Some (cell zs a)
  value-of-tree n a e l h q = subst (λ (t : Tree). value_of (kept_by ts zs n) t ≡ Some (cell zs a)) q (value-at n a l h)

  module _ (r c : ℕ) (lr : r < length ts) (row : tree_at ts r ≡ RowIndex) (lc : c < length ts) (col : tree_at ts c ≡ ColIndex) where
    pub both-there : (n : ℕ) → n ≤ length ts → r < n → c < n → both (kept_by ts zs n) ≡ Some (cell zs r, cell zs c)
    both-there n l p q = rw (value-of-tree n r RowIndex l p row, value-of-tree n c ColIndex l q col) refl

    late : (k : ℕ) (e : Tree) (n : ℕ) → k < length ts → tree_at ts k ≡ e → n ≤ k → value_of (kept_by ts zs n) e ≡ None
    late k e n l q h = value-none ts zs e n (λ i p t. not (apart i k (omega (arith, p, h, l)) l (t ∙ sym q)) p)
      where
        not : {i : ℕ} → i ≡ k → i < n → ⊥
        not e p = omega (arith, e, p, h)

    pub both-none : (n : ℕ) → n ≤ max r c → both (kept_by ts zs n) ≡ None
    both-none n l = go (cases_lt r n)
      where
        no_col : (o : Option ℤ) → then_do {A = ℤ} {B = ℤ × ℤ} o (λ i. then_do {A = ℤ} {B = ℤ × ℤ} None (λ j. Some (i, j))) ≡ None
        no_col None = refl
        no_col (Some z) = refl

        go : ((r < n) ⊎ (n ≤ r)) → both (kept_by ts zs n) ≡ None
        go (inr p) = rw (late r RowIndex n lr row p) refl
        go (inl p) = ap (λ o. then_do (value_of (kept_by ts zs n) RowIndex) (λ i. then_do o (λ j. Some (i, j)))) (late c ColIndex n lc col (omega (arith, p, l))) ∙ no_col (value_of (kept_by ts zs n) RowIndex)

  -- ---- one step

  module _ (s : Shape) (p : Part) (f : Found) (n : ℕ) (l : n ≤ length ts) where
    pub step-gives : (x : PlanStep) (lo : ℤ) → IsEarlier n x → ((k : ℕ) → x ≡ Level k → (level_range s f.extents p (get_or p.levels k RowIndex)).lo ≡ lo) → give_value s p f (kept_by ts zs n) (give_at ts x) ≡ Some (step_value zs lo f x)
    step-gives (Const c) lo e h = refl
    step-gives (Level k) lo e h = ap (λ (z : ℤ). Some (pos (get_or f.coords k 0) +ℤ z)) (h k refl)
    step-gives (Add a b) lo e h = rw (value-at n a l e.0, value-at n b l e.1) refl
    step-gives (Sub a b) lo e h = rw (value-at n a l e.0, value-at n b l e.1) refl
    step-gives (Join a b k) lo e h = rw (value-at n a l e.0, value-at n b l e.1) refl
    step-gives (Div a k) lo e h = rw (value-at n a l e) refl
    step-gives (Rem a k) lo e h = rw (value-at n a l e) refl
    step-gives (Order q v) lo e h = rw (value-at n v l e) refl
    step-gives (Rows q a b) lo e h = rw (value-at n a l e.0, value-at n b l e.1) refl

-- ---- levels

pub chain-cut : (V : Tree → Type 0) (qs : List Query) (given known seen : List Tree) (steps : Steps) → Chain V qs given known steps → Chain V qs given known (until_both seen steps)
chain-cut V qs given known seen [] c = tt
chain-cut V qs given known seen (x ∷ steps) c = go (has seen RowIndex && has seen ColIndex) (chain-cut V qs given (known ++ x.0 ∷ []) (x.0 ∷ seen) steps c.2)
  where
    go : (b : Bool) → Chain V qs given (known ++ x.0 ∷ []) (until_both (x.0 ∷ seen) steps) → Chain V qs given known (cond b [] (x ∷ until_both (x.0 ∷ seen) steps))
    go true ih = tt
    go false ih = (c.0, c.1, ih)

chain-level : (V : Tree → Type 0) (qs : List Query) (given known : List Tree) (steps : Steps) (k l : ℕ) (t : Tree) (d : Tree × Give) → Chain V qs given known steps → k < length steps → get_or steps k d ≡ (t, OfLevel l) → slice_get given l ≡ Some t
chain-level V qs given known [] k l t d c h e = absurd (omega (arith, h))
chain-level V qs given known (x ∷ steps) zero l t d c h e = first (subst (λ (y : Tree × Give). StepOk qs given known y.0 y.1) e c.1)
  where
    first : StepOk qs given known t (OfLevel l) → slice_get given l ≡ Some t
    first (inl q) = q
    first (inr q) = absurd q
chain-level V qs given known (x ∷ steps) (suc k) l t d c h e = chain-level V qs given (known ++ x.0 ∷ []) steps k l t d c.2 (omega (arith, h)) e

below-some : {A : Type 0} (xs : List A) (k : ℕ) (x : A) → slice_get xs k ≡ Some x → k < length xs
below-some [] k x h = absurd cc
below-some (y ∷ xs) zero x h = omega arith
below-some (y ∷ xs) (suc k) x h = omega (arith, below-some xs k x h)

-- the level of a step of the plan is its expression
pub plan-level : (levels : List Tree) (qs : List Query) (k l : ℕ) (t : Tree) (d : Tree × Give) → k < length (plan_of levels qs) → get_or (plan_of levels qs) k d ≡ (t, OfLevel l) → (l < length levels) × (get_or levels l RowIndex ≡ t)
plan-level levels qs k l t d h e =
    let at : slice_get levels l ≡ Some t =
    subst (λ (xs : List Tree). slice_get xs l ≡ Some t) (take_all (length levels) levels (omega arith))
    (chain-level (λ x. Unit {0}) qs (take (length levels) levels) [] (plan_of levels qs) k l t d
    (chain-cut (λ x. Unit {0}) qs (take (length levels) levels) [] [] (given_steps levels qs (length levels)) (chain-given (λ x. Unit {0}) levels qs (length levels) (λ x m. tt))) h e) in
    (below-some levels l t at, get_or_from_slice_get levels l t RowIndex at)

-- ---- the walk

-- before the step n: the steps before it have the values zs, and what is left gives the indices
pub record IsOnWay (ts : List Tree) (steps : List PlanStep) (rows cols : ℕ) (vars : List Range) (f : Found) (n : ℕ) (zs : List ℤ) : Type 0 where
  pub count : length zs ≡ n
  pub indices : (k : ℕ) → k < n → IsIndexValue (tree_at ts k) (cell zs k)
  pub rest : (s : Shape) (p : Part) → IsRecoveryOf (steps_of ts steps) rows cols vars f.extents s p → recovered s p f ≡ recover s p f (drop n (steps_of ts steps)) (kept_by ts zs n)

module _ (ts : List Tree) (steps : List PlanStep) (r c rows cols : ℕ) (vars : List Range) (f : Found) (plan : IsPlan ts steps r c) where
  pub way-start : (zs : List ℤ) → zs ≡ [] → IsOnWay ts steps rows cols vars f 0 zs
  way-start zs e = record {
    count = ap length e;
    indices = λ k l. absurd (omega (arith, l));
    rest = λ s p h. sym (plan-recovers s p f) ∙ ap (λ (l : Steps). recover s p f l []) (sym h.plan_is);
  }

  steps-length : length (steps_of ts steps) ≡ length ts
  steps-length = length-steps ts ts steps plan.steps_are.same_length

  -- what is left begins with the step n
  left : (n : ℕ) → n < length ts → drop n (steps_of ts steps) ≡ (tree_at ts n, give_at ts (step_at steps n)) ∷ drop (suc n) (steps_of ts steps)
  left n l =
      drop-cons (steps_of ts steps) n (RowIndex, OfLevel 0) (subst (λ (k : ℕ). n < k) (sym steps-length) l)
      ∙ ap (λ (x : Tree × Give). x ∷ drop (suc n) (steps_of ts steps)) (steps-at ts ts steps n (RowIndex, OfLevel 0) plan.steps_are.same_length l)

  -- the range of an expression, and of a level
  same-range : (s : Shape) (p : Part) → IsRecoveryOf (steps_of ts steps) rows cols vars f.extents s p → (n : ℕ) → n < length ts → level_range s f.extents p (tree_at ts n) ≡ range rows cols vars (tree_at ts n)
  same-range s p h n l =
      subst (λ (x : Tree × Give). level_range s f.extents p x.0 ≡ range rows cols vars x.0) (steps-at ts ts steps n (RowIndex, OfLevel 0) plan.steps_are.same_length l)
      (h.ranges_are n (RowIndex, OfLevel 0) (subst (λ (k : ℕ). n < k) (sym steps-length) l))

  level-low : (s : Shape) (p : Part) → IsRecoveryOf (steps_of ts steps) rows cols vars f.extents s p → (n : ℕ) → n < length ts → (k : ℕ) → step_at steps n ≡ Level k
      → (level_range s f.extents p (get_or p.levels k RowIndex)).lo ≡ (range rows cols vars (tree_at ts n)).lo
  level-low s p h n l k e =
      ap (λ (x : Range). x.lo) (ap (level_range s f.extents p)
      ((plan-level p.levels p.queries n k (tree_at ts n) (RowIndex, OfLevel 0) (subst (λ (j : ℕ). n < j) (sym steps-length ∙ ap length h.plan_is) l)
      (ap (λ (xs : Steps). get_or xs n (RowIndex, OfLevel 0)) (sym h.plan_is) ∙ steps-at ts ts steps n (RowIndex, OfLevel 0) plan.steps_are.same_length l ∙ ap (λ (x : PlanStep). (tree_at ts n, give_at ts x)) e)).1)
      ∙ same-range s p h n l)

  before-end : (n : ℕ) → n < length ts → n ≤ max r c
  before-end n l = omega (arith, l, plan.last)

  row-below : r < length ts
  row-below = omega (arith, plan.last)

  col-below : c < length ts
  col-below = omega (arith, plan.last)

  -- one step of the walk: what the test gives leads on
  one-step : (s : Shape) (p : Part) (n : ℕ) (zs : List ℤ) → IsRecoveryOf (steps_of ts steps) rows cols vars f.extents s p → n < length ts
      → recover s p f (drop n (steps_of ts steps)) (kept_by ts zs n)
      ≡ then_do (checked (range rows cols vars (tree_at ts n)) (give_at ts (step_at steps n)) (step_value zs (range rows cols vars (tree_at ts n)).lo f (step_at steps n)))
      (λ w. recover s p f (drop (suc n) (steps_of ts steps)) ((tree_at ts n, w) ∷ kept_by ts zs n))
  one-step s p n zs h l =
      ap (λ (xs : Steps). recover s p f xs (kept_by ts zs n)) (left n l)
      ∙ rw (
        both-none ts zs plan.steps_are.apart r c row-below plan.row col-below plan.col n (before-end n l),
        step-gives ts zs plan.steps_are.apart s p f n (less n l) (step_at steps n) (range rows cols vars (tree_at ts n)).lo (plan.steps_are.earlier n l) (level-low s p h n l),
        same-range s p h n l,
      ) refl
    where
      less : (n : ℕ) → n < length ts → n ≤ length ts
      less n l = omega (arith, l)

  -- what is required of the step n
  pub rangeable-at : (n : ℕ) → n < length ts → All (λ x. IsRangeable vars x.0) (steps_of ts steps) → IsRangeable vars (tree_at ts n)
  rangeable-at n l h =
      subst (λ (x : Tree × Give). IsRangeable vars x.0) (steps-at ts ts steps n (RowIndex, OfLevel 0) plan.steps_are.same_length l)
      (h n (RowIndex, OfLevel 0) (subst (λ (k : ℕ). n < k) (sym steps-length) l))

  level-step : (values : List ℤ) (r : Range) (us : List Tree) (x : PlanStep) → IsCoordinate values r (give_at us x) → IsLevelStep values r x
  level-step values r us (Level k) h = h
  level-step values r us (Const k) h = tt
  level-step values r us (Add a b) h = tt
  level-step values r us (Sub a b) h = tt
  level-step values r us (Join a b k) h = tt
  level-step values r us (Div a k) h = tt
  level-step values r us (Rem a k) h = tt
  level-step values r us (Order q v) h = tt
  level-step values r us (Rows q a b) h = tt

  pub level-at : (values : List ℤ) (n : ℕ) → n < length ts → All (HasCoordinate rows cols vars values) (steps_of ts steps) → IsLevelStep values (range rows cols vars (tree_at ts n)) (step_at steps n)
  level-at values n l h =
      level-step values (range rows cols vars (tree_at ts n)) ts (step_at steps n)
      (subst (λ (x : Tree × Give). HasCoordinate rows cols vars values x) (steps-at ts ts steps n (RowIndex, OfLevel 0) plan.steps_are.same_length l)
      (h n (RowIndex, OfLevel 0) (subst (λ (k : ℕ). n < k) (sym steps-length) l)))

  module _ (n : ℕ) (zs ks : List ℤ) (t : Tree) (o : Option ℤ) (way : IsOnWay ts steps rows cols vars f n zs) (l : n < length ts) (expr : t ≡ tree_at ts n) (kept : ks ≡ zs)
      (value : (us : List Tree) → o ≡ checked (range rows cols vars t) (give_at us (step_at steps n)) (step_value ks (range rows cols vars t).lo f (step_at steps n))) where
    value-is : (us : List Tree) → checked (range rows cols vars (tree_at ts n)) (give_at us (step_at steps n)) (step_value zs (range rows cols vars (tree_at ts n)).lo f (step_at steps n)) ≡ o
    value-is us =
        sym (value us ∙ ap₂ (λ (u : Tree) (xs : List ℤ). checked (range rows cols vars u) (give_at us (step_at steps n)) (step_value xs (range rows cols vars u).lo f (step_at steps n))) expr kept)

    -- a value outside its range
    pub way-none : ((z : ℤ) → o ≡ Some z → ⊥) → (s : Shape) (p : Part) → IsRecoveryOf (steps_of ts steps) rows cols vars f.extents s p → None ≡ recovered s p f
    way-none missing s p h =
        sym (way.rest s p h ∙ one-step s p n zs h l ∙ ap (λ (z : Option ℤ). then_do z (λ w. recover s p f (drop (suc n) (steps_of ts steps)) ((tree_at ts n, w) ∷ kept_by ts zs n))) (value-is ts)
        ∙ go o missing)
      where
        go : (o : Option ℤ) → ((z : ℤ) → o ≡ Some z → ⊥) → then_do o (λ w. recover s p f (drop (suc n) (steps_of ts steps)) ((tree_at ts n, w) ∷ kept_by ts zs n)) ≡ None
        go None absent = refl
        go (Some z) absent = absurd (absent z refl)

    -- a value in its range
    pub way-next : (values : List ℤ) (w : ℤ) → o ≡ Some w → f.coords ≡ map nat_of values → rows < 2 ^ 31 → cols < 2 ^ 31 → IsLevelStep values (range rows cols vars (tree_at ts n)) (step_at steps n)
        → IsOnWay ts steps rows cols vars f (n + 1) (zs ++ w ∷ [])
    way-next values w is coords lr lc level = record {
      count = omega (arith, length-snoc zs w, way.count);
      indices = λ k h. indices k (cases_lt k n) h;
      rest = λ s p h.
          way.rest s p h ∙ one-step s p n zs h l
          ∙ ap (λ (z : Option ℤ). then_do z (λ v. recover s p f (drop (suc n) (steps_of ts steps)) ((tree_at ts n, v) ∷ kept_by ts zs n))) (value-is ts ∙ is)
          ∙ ap₂ (λ (v : ℤ) (vs : Values). recover s p f (drop (suc n) (steps_of ts steps)) ((tree_at ts n, v) ∷ vs)) (sym newest) (sym (kept-more ts zs w n (less (length zs) n way.count)))
          ∙ ap (λ (k : ℕ). recover s p f (drop k (steps_of ts steps)) (kept_by ts (zs ++ w ∷ []) k)) (sym (add-one n));
    }
      where
        less : (a n : ℕ) → a ≡ n → n ≤ a
        less a n e = omega (arith, e)

        newest : cell (zs ++ w ∷ []) n ≡ w
        newest = ap (cell (zs ++ w ∷ [])) (sym way.count) ∙ get_or-append_seam zs w [] (pos 0)

        indices : (k : ℕ) → ((k < n) ⊎ (n ≤ k)) → k < n + 1 → IsIndexValue (tree_at ts k) (cell (zs ++ w ∷ []) k)
        indices k (inl q) h = subst (λ (z : ℤ). IsIndexValue (tree_at ts k) z) (sym (get_or_append_left zs (w ∷ []) (pos 0) k (omega (arith, q, way.count)))) (way.indices k q)
        indices k (inr q) h =
            subst (λ (j : ℕ). IsIndexValue (tree_at ts j) (cell (zs ++ w ∷ []) j)) (omega (arith, q, h))
            (subst (λ (z : ℤ). IsIndexValue (tree_at ts n) z) (sym newest)
            (subst (λ (z : Option ℤ). IfSome z (IsIndexValue (tree_at ts n))) (value-is [] ∙ is)
            (index-is rows cols vars (tree_at ts n) (step_at steps n) values zs f coords lr lc level (plan.steps_are.suited n l))))

  module _ (n : ℕ) (zs : List ℤ) (way : IsOnWay ts steps rows cols vars f n zs) (end : n ≡ length ts) where
    pub way-end : (s : Shape) (p : Part) → IsRecoveryOf (steps_of ts steps) rows cols vars f.extents s p → Some (cell zs r, cell zs c) ≡ recovered s p f
    way-end s p h =
        sym (way.rest s p h
        ∙ ap (λ (xs : Steps). recover s p f xs (kept_by ts zs n)) (drop_all n (steps_of ts steps) (omega (arith, end, steps-length)))
        ∙ both-there ts zs plan.steps_are.apart r c row-below plan.row col-below plan.col n (omega (arith, end)) (omega (arith, end, row-below)) (omega (arith, end, col-below)))

    pub row-value : (pos 0 ≤ℤ cell zs r) × (cell zs r <ℤ pos (2 ^ 32))
    row-value = subst (λ (t : Tree). IsIndexValue t (cell zs r)) plan.row (way.indices r (omega (arith, end, row-below)))

    pub col-value : (pos 0 ≤ℤ cell zs c) × (cell zs c <ℤ pos (2 ^ 32))
    col-value = subst (λ (t : Tree). IsIndexValue t (cell zs c)) plan.col (way.indices c (omega (arith, end, col-below)))

    pub kept-length : length zs ≡ length ts
    kept-length = way.count ∙ end

    pub indices-below : (r < length zs) × (c < length zs)
    indices-below = (omega (arith, kept-length, row-below), omega (arith, kept-length, col-below))
