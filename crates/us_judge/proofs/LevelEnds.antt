-- The ends of a level's range that hold whatever extents the queries have.
use Rattle.std.proofs.Common.{◌≡◌, ℕ, ◌<◌, List, [], ◌∷◌, length, map, Bool, true, false, cond, eqb, ◌||◌, pos, ◌+ℤ◌, ◌-ℤ◌, refl, sym, ap, ap₂, subst, ◌∙◌, arith, zero-add}
use Rattle.std.specs.Prelude.{None, Some, not, if◌then◌else◌, slice_index_or}
use Rattle.std.specs.Int.{int_div_euclid}
use Rattle.std.specs.List.{All}
use Rattle.std.proofs.lemmas.Bool.{false≢true}
use Rattle.std.proofs.lemmas.Bool.Decides.{nat_tests}
use Rattle.std.proofs.lemmas.List.{length-map}
use Rattle.std.proofs.lemmas.List.FromFn.{get_or-map-range_with_len}
use Rattle.us_expr.specs.declared.ranges.Range.{Range}
use Rattle.us_expr.specs.Range.{index_range, range, range_at, range_of_remainder}
use Rattle.us_expr.specs.Tree.{Tree, RowIndex, ColIndex, Number, Variable, Sum, Difference, Quotient, Remainder, uses}
use Rattle.us_format.specs.Coordinates.{level_range, variable_range, variable_ranges}
use Rattle.us_format.specs.Declaration.{Query, SumOf, Enumerate, Reorder, Schedule, Part, axis_of}
use Rattle.us_format.specs.Lists.{among}
use Rattle.us_format.specs.Matrix.{Shape, indices}
use Rattle.us_format.proofs.Lookup.{eqb-false_sym, not-true, or-false}
use Rattle.us_judge.specs.Acceptance.{bad_count, bad_whole, counting_variables, first_level, is_variable, uses_none}
use Rattle.us_judge.specs.Format.{bounds_of, is_counted, part_at}
use Rattle.us_judge.specs.Laws.{BoundsHold, HasEnds}
use Rattle.us_judge.specs.Views.{declaration_of}
use Rattle.us_judge.proofs.Accepted.{KeepsRules, accepted-keeps, all-pass, each-used}
use Rattle.us_judge.proofs.NamesBelow.{names-valid}
use Rattle.us_judge.proofs.ValidExpressions.{UsesBelow}

-- ---- variables

begins-by : (b : Bool) (r t : Range) → r.lo ≡ pos 0 → t.lo ≡ pos 0 → (cond b r t).lo ≡ pos 0
begins-by true r t x y = x
begins-by false r t x y = y

-- the range of a variable begins at 0
begins : (s : Shape) (ns : List ℕ) (qs : List Query) (v : ℕ) → (variable_range s ns qs v).lo ≡ pos 0
begins s ns [] v = refl
begins s [] (q ∷ qs) v = refl
begins s (n ∷ ns) (SumOf w e ∷ qs) v = begins s ns qs v
begins s (n ∷ ns) (Enumerate w e ∷ qs) v = begins-by (eqb w v) (index_range n) (variable_range s ns qs v) refl (begins s ns qs v)
begins s (n ∷ ns) (Reorder w t ∷ qs) v = begins-by (eqb w v) (index_range (indices (axis_of t) s)) (variable_range s ns qs v) refl (begins s ns qs v)
begins s (n ∷ ns) (Schedule l u t k ∷ qs) v =
    begins-by (eqb l v) (index_range k) (cond (eqb u v) (index_range n) (variable_range s ns qs v)) refl
    (begins-by (eqb u v) (index_range n) (variable_range s ns qs v) refl (begins s ns qs v))

passed-over : (b : Bool) (r t x y : Range) → b ≡ false → x ≡ y → cond b r x ≡ cond b t y
passed-over true r t x y e k = absurd (false≢true (sym e))
passed-over false r t x y e k = k

-- a variable that doesn't count up has the same range whatever the extents
uncounted : (s : Shape) (ns ms : List ℕ) (qs : List Query) (v : ℕ) → length ns ≡ length qs → length ms ≡ length qs → among v (counting_variables qs) ≡ false
    → variable_range s ns qs v ≡ variable_range s ms qs v
uncounted s ns ms [] v a b h = refl
uncounted s [] ms (q ∷ qs) v a b h = absurd (omega (arith, a))
uncounted s (n ∷ ns) [] (q ∷ qs) v a b h = absurd (omega (arith, b))
uncounted s (n ∷ ns) (m ∷ ms) (SumOf w e ∷ qs) v a b h = uncounted s ns ms qs v (omega (arith, a)) (omega (arith, b)) h
uncounted s (n ∷ ns) (m ∷ ms) (Enumerate w e ∷ qs) v a b h =
    let p = or-false (eqb v w) (among v (counting_variables qs)) h in
    passed-over (eqb w v) (index_range n) (index_range m) (variable_range s ns qs v) (variable_range s ms qs v) (eqb-false_sym v w p.0)
    (uncounted s ns ms qs v (omega (arith, a)) (omega (arith, b)) p.1)
uncounted s (n ∷ ns) (m ∷ ms) (Reorder w t ∷ qs) v a b h =
    ap (λ (x : Range). cond (eqb w v) (index_range (indices (axis_of t) s)) x) (uncounted s ns ms qs v (omega (arith, a)) (omega (arith, b)) h)
uncounted s (n ∷ ns) (m ∷ ms) (Schedule l u t k ∷ qs) v a b h =
    let p = or-false (eqb v u) (among v (counting_variables qs)) h in
    ap (λ (x : Range). cond (eqb l v) (index_range k) x)
    (passed-over (eqb u v) (index_range n) (index_range m) (variable_range s ns qs v) (variable_range s ms qs v) (eqb-false_sym v u p.0)
    (uncounted s ns ms qs v (omega (arith, a)) (omega (arith, b)) p.1))

-- ---- expressions

or_left : (a b : Bool) → a ≡ true → (a || b) ≡ true
or_left true b e = refl
or_left false b e = absurd cc

or_right : (a b : Bool) → b ≡ true → (a || b) ≡ true
or_right true b e = refl
or_right false b e = e

itself : (v : ℕ) → uses (Variable v) v ≡ true
itself v = grind (arith, nat_tests)

same_number : (v w : ℕ) → uses (Variable w) v ≡ true → w ≡ v
same_number v w e = grind (arith, nat_tests)

-- the range of an expression is by the ranges of the variables that stand in it
range-agrees : (m n : ℕ) (rs qs : List Range) (e : Tree) → ((v : ℕ) → uses e v ≡ true → range_at rs v ≡ range_at qs v) → range m n rs e ≡ range m n qs e
range-agrees m n rs qs RowIndex h = refl
range-agrees m n rs qs ColIndex h = refl
range-agrees m n rs qs (Number c) h = refl
range-agrees m n rs qs (Variable w) h = h w (itself w)
range-agrees m n rs qs (Sum a b) h =
    ap₂ (λ (x y : Range). let r : Range = record { lo = x.lo +ℤ y.lo; hi = x.hi +ℤ y.hi } in r)
    (range-agrees m n rs qs a (λ v k. h v (or_left (uses a v) (uses b v) k))) (range-agrees m n rs qs b (λ v k. h v (or_right (uses a v) (uses b v) k)))
range-agrees m n rs qs (Difference a b) h =
    ap₂ (λ (x y : Range). let r : Range = record { lo = x.lo -ℤ y.hi; hi = x.hi -ℤ y.lo } in r)
    (range-agrees m n rs qs a (λ v k. h v (or_left (uses a v) (uses b v) k))) (range-agrees m n rs qs b (λ v k. h v (or_right (uses a v) (uses b v) k)))
range-agrees m n rs qs (Quotient a k) h =
    ap (λ (x : Range). let r : Range = record { lo = int_div_euclid x.lo (pos k); hi = int_div_euclid x.hi (pos k) } in r) (range-agrees m n rs qs a h)
range-agrees m n rs qs (Remainder a k) h = ap (λ (x : Range). range_of_remainder x k) (range-agrees m n rs qs a h)

-- ---- levels

module _ (s : Shape) (p : Part) where
  range-is : (ns : List ℕ) (v : ℕ) → v < p.names → range_at (variable_ranges s ns p) v ≡ variable_range s ns p.queries v
  range-is ns v h = get_or-map-range_with_len (variable_range s ns p.queries) 0 p.names v v (record { lo = pos 0; hi = pos 0 }) h (zero-add v)

  -- where a counted variable is alone, an uncounted level has none
  uncounted-uses : (e : Tree) (v : ℕ) → (is_variable e || uses_none (counting_variables p.queries) e) ≡ true → is_counted p e ≡ false → uses e v ≡ true
      → among v (counting_variables p.queries) ≡ false
  uncounted-uses (Variable w) v rule k u = subst (λ x. among x (counting_variables p.queries) ≡ false) (same_number v w u) k
  uncounted-uses e v rule k u =
      not-true (among v (counting_variables p.queries)) (each-used (λ w. not (among w (counting_variables p.queries))) e v rule u)

  module _ (ns ms : List ℕ) (count : length ns ≡ length p.queries) (same : length ms ≡ length p.queries) where
    range-same : (e : Tree) → UsesBelow p.names e → (is_variable e || uses_none (counting_variables p.queries) e) ≡ true → is_counted p e ≡ false
        → level_range s ns p e ≡ level_range s ms p e
    range-same e below rule k =
        range-agrees s.rows s.cols (variable_ranges s ns p) (variable_ranges s ms p) e
        (λ v u. range-is ns v (below v u) ∙ uncounted s ns ms p.queries v count same (uncounted-uses e v rule k u) ∙ sym (range-is ms v (below v u)))

    lower-counted : (e : Tree) → UsesBelow p.names e → is_counted p e ≡ true → (level_range s ns p e).lo ≡ (level_range s ms p e).lo
    lower-counted (Variable w) below k =
        ap (λ (r : Range). r.lo) (range-is ns w (below w (itself w)))
        ∙ begins s ns p.queries w ∙ sym (begins s ms p.queries w)
        ∙ sym (ap (λ (r : Range). r.lo) (range-is ms w (below w (itself w))))
    lower-counted e below k = absurd (false≢true k)

    lower-same : (e : Tree) → UsesBelow p.names e → (is_variable e || uses_none (counting_variables p.queries) e) ≡ true → (b : Bool) → is_counted p e ≡ b
        → (level_range s ns p e).lo ≡ (level_range s ms p e).lo
    lower-same e below rule true k = lower-counted e below k
    lower-same e below rule false k = ap (λ (r : Range). r.lo) (range-same e below rule k)

ends-by : (b : Bool) (r t : Range) → r.lo ≡ t.lo → (b ≡ false → r ≡ t) → HasEnds (record { lo = r.lo; hi = if b then None else Some r.hi }) t
ends-by true r t l h = record { lo = l; hi = λ z k. absurd (cc) }
ends-by false r t l h = record { lo = l; hi = λ z k. let at : z ≡ r.hi = cc in at ∙ ap (λ (x : Range). x.hi) (h refl) }

level-ends : (s : Shape) (p : Part) (e : Tree) (ns : List ℕ) → UsesBelow p.names e → (is_variable e || uses_none (counting_variables p.queries) e) ≡ true
    → length ns ≡ length p.queries → HasEnds (bounds_of s p e) (level_range s ns p e)
level-ends s p e ns below rule count =
    let none : length (map (λ q. 0) p.queries) ≡ length p.queries = length-map p.queries (λ q. 0) in
    ends-by (is_counted p e) (level_range s (map (λ q. 0) p.queries) p e) (level_range s ns p e)
    (lower-same s p (map (λ q. 0) p.queries) ns none count e below rule (is_counted p e) refl)
    (range-same s p (map (λ q. 0) p.queries) ns none count e below rule)

-- a counter in a level of a part that keeps its rules is alone
whole-levels : (p : Part) → KeepsRules p → All (λ e. (is_variable e || uses_none (counting_variables p.queries) e) ≡ true) p.levels
whole-levels p kept =
    let rule : bad_whole p ≡ None = kept 5 (1, bad_count) (omega arith) in
    all-pass (λ e. is_variable e || uses_none (counting_variables p.queries) e) [] (first_level p) p.levels rule

pub bounds-hold : BoundsHold
bounds-hold x v e k l part level s ns count =
    let p : Part = part_at (declaration_of x) k in
    level-ends s p (slice_index_or p.levels l RowIndex) ns ((names-valid x v k _ part).levels l RowIndex level)
    (whole-levels p (accepted-keeps (declaration_of x) e k _ part) l RowIndex level) count
