-- The values of a walk lie in the ranges of their expressions.
use Rattle.std.proofs.Common.{◌≡◌, ℕ, zero, suc, ◌+◌, ◌*◌, ◌^◌, ◌<◌, ◌≤◌, Bool, true, false, cond, refl, sym, ap, ◌∙◌, subst, arith, List, [], ◌∷◌, ◌++◌, length, length-append, Option, Some, None, ℤ, pos, negsuc, ◌+ℤ◌, ◌-ℤ◌, ◌≤ℤ◌, mul-le-mul_right}
use Rattle.std.specs.Prelude.{slice_index_or, FitsSigned, int_le}
use Rattle.std.proofs.Common.{w64}
use Rattle.std.proofs.lemmas.Int.{ints}
use Rattle.us_code_laws.proofs.Sound.{and_left, and_right}
use Rattle.us_expr.specs.declared.ranges.Range.{Range}
use Rattle.us_expr.specs.Tree.{Tree, node_count}
use Rattle.us_expr.specs.Range.{LiesIn, IsNear, IsRangeable, index_range}
use Rattle.us_expr.proofs.Bounds.{range_near, near_fits}
use Rattle.us_format.specs.Lists.{then_do, cell, nat_of}
use Rattle.us_format.specs.Matrix.{Shape}
use Rattle.us_format.specs.Declaration.{Part}
use Rattle.us_format.specs.Coordinates.{variable_ranges, level_range, span}
use Rattle.us_format.specs.Recover.{Found, lies_in}
use Rattle.us_known.specs.Table.{tree_at}
use Rattle.us_invert.specs.declared.steps.PlanStep.{PlanStep}
use Rattle.us_invert.specs.declared.steps.PlanStep.TheVariants as plan
use Rattle.us_invert.specs.Plan.{step_at, IsEarlier, IsSuited}
use Rattle.us_invert.specs.Recovery.{step_value, tested, walked}
use Rattle.us_gen_recover.specs.Ranges.{IsBelowSpan, WalkedValuesFit, RangesReach}
use Rattle.us_gen_recover.proofs.StepsRun.{tested_is, one_on, first_cell, walk_gives}

-- ---- a value that passed its test

lies : (r : Range) (z : ℤ) → lies_in r z ≡ true → LiesIn z r
lies r z h = record { low = le r.lo z (and_left (int_le r.lo z) (int_le z r.hi) h); high = le z r.hi (and_right (int_le r.lo z) (int_le z r.hi) h) }
  where
    le : (a b : ℤ) → int_le a b ≡ true → a ≤ℤ b
    le a b q = grind (arith, ints)

passed : (r : Range) (v z : ℤ) → cond (lies_in r v) (Some v) None ≡ Some z → LiesIn v r
passed r v z h = go (lies_in r v) refl h
  where
    go : (b : Bool) → lies_in r v ≡ b → ◌≡◌ {A = Option ℤ} (cond b (Some v) None) (Some z) → LiesIn v r
    go true q e = lies r v q
    go false q e = absurd cc

-- a coordinate below the size of a range
in_span : (c : ℕ) (r : Range) → c < span r → LiesIn (pos c +ℤ r.lo) r
in_span c r h = go ((r.hi +ℤ pos 1) -ℤ r.lo) refl h
  where
    go : (d : ℤ) → (r.hi +ℤ pos 1) -ℤ r.lo ≡ d → c < nat_of d → LiesIn (pos c +ℤ r.lo) r
    go (pos d) e l = record { low = omega (arith, ints); high = omega (arith, ints) }
    go (negsuc d) e l = absurd (omega (arith, ints))

module _ (sh : Shape) (p : Part) (f : Found) (zs : List ℤ) where
  -- the test of each step passed at its value
  walk_tests : (ts : List Tree) (steps : List PlanStep) (kept : List ℤ) (n : ℕ) → length kept ≡ n → length steps ≡ length ts → walked sh p f ts steps kept ≡ Some zs
      → (k : ℕ) → k < length steps → tested (level_range sh f.extents p (tree_at ts k)) (step_at steps k) (cell zs (n + k)) ≡ Some (cell zs (n + k))
  walk_tests ts [] kept n el e h k lt = absurd (omega (arith, lt))
  walk_tests [] (x ∷ steps) kept n el e h k lt = absurd (omega (arith, e))
  walk_tests (t ∷ ts) (x ∷ steps) kept n el e h zero lt = go (tested r x v) refl h
    where
      r : Range
      r = level_range sh f.extents p t

      v : ℤ
      v = step_value kept r.lo f x

      go : (o : Option ℤ) → tested r x v ≡ o → then_do o (λ z. walked sh p f ts steps (kept ++ z ∷ [])) ≡ Some zs → tested r x (cell zs (n + 0)) ≡ Some (cell zs (n + 0))
      go None q w = absurd cc
      go (Some z) q w =
          let here : cell zs (n + 0) ≡ v = first_cell sh p f zs t ts x steps kept n el h in
          let same : v ≡ z = tested_is sh p f zs r x v z q in
          subst (λ (y : ℤ). tested r x y ≡ Some y) (sym here) (q ∙ ap Some (sym same))
  walk_tests (t ∷ ts) (x ∷ steps) kept n el e h (suc k) lt =
      let v = step_value kept (level_range sh f.extents p t).lo f x in
      let m : n + 1 + k ≡ n + suc k = omega arith in
      subst (λ (y : ℕ). tested (level_range sh f.extents p (tree_at ts k)) (step_at steps k) (cell zs y) ≡ Some (cell zs y)) m
      (walk_tests ts steps (kept ++ v ∷ []) (n + 1) (length-append kept (v ∷ []) ∙ omega (arith, el)) (omega (arith, e)) (one_on sh p f zs t ts x steps kept h) k (omega (arith, lt)))

  -- a value that passed lies in its range
  value_lies : (t : Tree) (x : PlanStep) (z : ℤ) → IsSuited t x → IsBelowSpan f (level_range sh f.extents p t) x → z ≡ step_value zs (level_range sh f.extents p t).lo f x
      → tested (level_range sh f.extents p t) x z ≡ Some z → LiesIn z (level_range sh f.extents p t)
  value_lies t (plan.Const c) z s b e h =
      subst (λ (y : Tree). LiesIn z (level_range sh f.extents p y)) (sym s) (subst (λ (y : ℤ). LiesIn y (record { lo = pos c; hi = pos c })) (sym e) record { low = omega (arith, ints); high = omega (arith, ints) })
  value_lies t (plan.Level k) z s b e h = subst (λ (y : ℤ). LiesIn y (level_range sh f.extents p t)) (sym e) (in_span (slice_index_or f.coords k 0) (level_range sh f.extents p t) b)
  value_lies t (plan.Add x y) z s b e h = passed (level_range sh f.extents p t) z z h
  value_lies t (plan.Sub x y) z s b e h = passed (level_range sh f.extents p t) z z h
  value_lies t (plan.Join x y k) z s b e h = passed (level_range sh f.extents p t) z z h
  value_lies t (plan.Div x k) z s b e h = passed (level_range sh f.extents p t) z z h
  value_lies t (plan.Rem x k) z s b e h = passed (level_range sh f.extents p t) z z h
  value_lies t (plan.Order q v) z s b e h = passed (level_range sh f.extents p t) z z h
  value_lies t (plan.Rows q x y) z s b e h = passed (level_range sh f.extents p t) z z h

  -- a number in the range of a rangeable expression fits
  lies_fits : (t : Tree) (z : ℤ) → sh.rows < 2 ^ 31 → sh.cols < 2 ^ 31 → IsRangeable (variable_ranges sh f.extents p) t → LiesIn z (level_range sh f.extents p t) → FitsSigned w64 z
  lies_fits t z hm hn h l =
      let ends = range_near sh.rows sh.cols (variable_ranges sh f.extents p) t hm hn (λ v lt. (h.low v lt, h.high v lt)) h.within in
      let near : IsNear (node_count t * 2 ^ 31) z = record { low = omega (arith, ints, ends.0.low, l.low); high = omega (arith, ints, ends.1.high, l.high) } in
      near_fits (node_count t) z (omega (arith, h.small)) near

pub walked_values_fit : WalkedValuesFit
walked_values_fit sh p f ts steps zs hm hn walk len has k lt =
    let h = has k lt in
    let z : 0 + k ≡ k = omega arith in
    let early : IsEarlier (0 + k) (step_at steps k) = subst (λ (y : ℕ). IsEarlier y (step_at steps k)) (sym z) h.earlier in
    let is = ap (cell zs) (sym z) ∙ walk_gives sh p f zs ts steps [] 0 refl len walk k lt early in
    let test = subst (λ (y : ℕ). tested (level_range sh f.extents p (tree_at ts k)) (step_at steps k) (cell zs y) ≡ Some (cell zs y)) z (walk_tests sh p f zs ts steps [] 0 refl len walk k lt) in
    let in_range = value_lies sh p f zs (tree_at ts k) (step_at steps k) (cell zs k) h.suited h.below is test in
    (in_range, lies_fits sh p f zs (tree_at ts k) (cell zs k) hm hn h.rangeable in_range)

natural : (n : ℕ) (z : ℤ) → LiesIn z (index_range n) → (x : ℕ) × (z ≡ pos x) × (x < n)
natural n (pos x) h = (x, refl, omega (arith, ints, h.high))
natural n (negsuc x) h = absurd (omega (arith, ints, h.low))

pub ranges_reach : RangesReach
ranges_reach = record {
  rank = λ xs n z h le. let a = natural n z h in (a.0, a.1, omega (arith, a.2, le));
  lane_and_slot = λ xs lanes extent l t hl ht le small.
      let a = natural lanes l hl in
      let b = natural extent t ht in
      let row : suc a.0 * extent ≤ lanes * extent = mul-le-mul_right extent (omega (arith, a.2)) in
      (a.0, b.0, a.1, b.1, omega (arith, row, b.2, le), small);
}
