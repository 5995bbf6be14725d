-- The ranges of the variables of an accepted part have near ends, and so its levels have ranges.
use Rattle.std.proofs.Common.{◌≡◌, ℕ, ◌^◌, ◌<◌, ◌≤◌, List, [], ◌∷◌, length, Bool, true, false, cond, eqb, ◌&&◌, refl, sym, subst, arith, zero-add}
use Rattle.std.specs.Prelude.{nat_le, Option, Some, None}
use Rattle.std.specs.List.{All}
use Rattle.std.proofs.lemmas.Bool.Decides.{nat_tests}
use Rattle.std.proofs.lemmas.Int.{ints}
use Rattle.std.proofs.lemmas.List.Elements.{All-head, All-tail}
use Rattle.std.proofs.lemmas.List.FromFn.{get_or-map-range_with_len, length-map-range_with_len}
use Rattle.us_expr.specs.declared.ranges.Range.{Range}
use Rattle.us_expr.specs.Tree.{RowIndex}
use Rattle.us_expr.specs.Range.{index_range, range_at, IsNear, IsRangeable}
use Rattle.us_expr.specs.declared.queries.Axis.{Axis}
use Rattle.us_expr.specs.declared.queries.Axis.TheVariants.{Rows, Cols}
use Rattle.us_format.specs.Coordinates.{variable_range, variable_ranges}
use Rattle.us_format.specs.Declaration.{Query, SumOf, Enumerate, Reorder, Schedule, Part, axis_of}
use Rattle.us_format.specs.Matrix.{Shape, indices}
use Rattle.us_decl.specs.Declares.{Declared}
use Rattle.us_judge.specs.Acceptance.{bad_count, has_lawful_lanes}
use Rattle.us_judge.specs.Format.{part_at, range_by}
use Rattle.us_judge.specs.Views.{declaration_of}
use Rattle.us_judge.proofs.Accepted.{KeepsRules, HasLevel, accepted-keeps, all-pass, level_at}
use Rattle.us_judge.proofs.NamesBelow.{HasNames, names-valid}
use Rattle.us_judge.proofs.ValidExpressions.{IsSmall, small-valid}

-- ---- one query after the other

-- the range, or the rest
abbrev pub or_rest : Option Range → Range → Range
or_rest None rest = rest
or_rest (Some r) rest = r

or_cond : (b : Bool) (r rest : Range) → cond b r rest ≡ or_rest (cond b (Some r) None) rest
or_cond true r rest = refl
or_cond false r rest = refl

pub first-decides : (s : Shape) (n : ℕ) (ns : List ℕ) (q : Query) (qs : List Query) (v : ℕ) → variable_range s (n ∷ ns) (q ∷ qs) v ≡ or_rest (range_by s n q v) (variable_range s ns qs v)
first-decides s n ns (SumOf w e) qs v = refl
first-decides s n ns (Enumerate w e) qs v = or_cond (eqb w v) _ _
first-decides s n ns (Reorder w t) qs v = or_cond (eqb w v) _ _
first-decides s n ns (Schedule l u t k) qs v = go (eqb l v) (eqb u v)
  where
    go : (b c : Bool) → cond b (index_range k) (cond c (index_range n) (variable_range s ns qs v)) ≡ or_rest (cond b (Some (index_range k)) (cond c (Some (index_range n)) None)) (variable_range s ns qs v)
    go true c = refl
    go false true = refl
    go false false = refl

-- ---- near ends

abbrev pub HasNearEnds : Range → Type 0
HasNearEnds r = (IsNear (2 ^ 31) r.lo) × (IsNear (2 ^ 31) r.hi)

pub index-near : (n : ℕ) → n ≤ 2 ^ 31 → HasNearEnds (index_range n)
index-near n h = (record { low = omega (arith, ints); high = omega (arith, ints) }, record { low = omega (arith, ints, h); high = omega (arith, ints, h) })

both_near : (a b : Bool) (r s t : Range) → HasNearEnds r → HasNearEnds s → HasNearEnds t → HasNearEnds (cond a r (cond b s t))
both_near true b r s t x y z = x
both_near false true r s t x y z = y
both_near false false r s t x y z = z

one_near : (a : Bool) (r t : Range) → HasNearEnds r → HasNearEnds t → HasNearEnds (cond a r t)
one_near true r t x z = x
one_near false r t x z = z

few_lanes : (n : ℕ) → (nat_le 1 n && nat_le n 64) ≡ true → n ≤ 64
few_lanes n e = at_most (nat_le 1 n) e
  where
    last : nat_le n 64 ≡ true → n ≤ 64
    last k = grind (arith, nat_tests)

    at_most : (b : Bool) → (b && nat_le n 64) ≡ true → n ≤ 64
    at_most true k = last k
    at_most false k = absurd cc

module _ (s : Shape) (rows : s.rows < 2 ^ 31) (cols : s.cols < 2 ^ 31) where
  axis-few : (a : Axis) → indices a s ≤ 2 ^ 31
  axis-few Rows = omega (arith, rows)
  axis-few Cols = omega (arith, cols)

  pub variable-near : (ns : List ℕ) (qs : List Query) (v : ℕ) → All (λ n. n ≤ 2 ^ 31) ns → All (λ q. has_lawful_lanes q ≡ true) qs → HasNearEnds (variable_range s ns qs v)
  variable-near ns [] v few lawful = index-near 1 (omega arith)
  variable-near [] (q ∷ qs) v few lawful = index-near 1 (omega arith)
  variable-near (n ∷ ns) (SumOf w e ∷ qs) v few lawful =
      variable-near ns qs v (All-tail (λ k. k ≤ 2 ^ 31) n ns few) (All-tail (λ q. has_lawful_lanes q ≡ true) (SumOf w e) qs lawful)
  variable-near (n ∷ ns) (Enumerate w e ∷ qs) v few lawful =
      one_near (eqb w v) (index_range n) (variable_range s ns qs v) (index-near n (All-head (λ k. k ≤ 2 ^ 31) n ns few))
      (variable-near ns qs v (All-tail (λ k. k ≤ 2 ^ 31) n ns few) (All-tail (λ q. has_lawful_lanes q ≡ true) (Enumerate w e) qs lawful))
  variable-near (n ∷ ns) (Reorder w t ∷ qs) v few lawful =
      one_near (eqb w v) (index_range (indices (axis_of t) s)) (variable_range s ns qs v) (index-near (indices (axis_of t) s) (axis-few (axis_of t)))
      (variable-near ns qs v (All-tail (λ k. k ≤ 2 ^ 31) n ns few) (All-tail (λ q. has_lawful_lanes q ≡ true) (Reorder w t) qs lawful))
  variable-near (n ∷ ns) (Schedule l u t k ∷ qs) v few lawful =
      both_near (eqb l v) (eqb u v) (index_range k) (index_range n) (variable_range s ns qs v)
      (index-near k (omega (arith, few_lanes k (All-head (λ q. has_lawful_lanes q ≡ true) (Schedule l u t k) qs lawful))))
      (index-near n (All-head (λ i. i ≤ 2 ^ 31) n ns few))
      (variable-near ns qs v (All-tail (λ i. i ≤ 2 ^ 31) n ns few) (All-tail (λ q. has_lawful_lanes q ≡ true) (Schedule l u t k) qs lawful))

  -- the ranges of all variables of a part
  pub ranges-near : (p : Part) (ns : List ℕ) → All (λ n. n ≤ 2 ^ 31) ns → All (λ q. has_lawful_lanes q ≡ true) p.queries
      → (v : ℕ) → v < p.names → HasNearEnds (range_at (variable_ranges s ns p) v)
  ranges-near p ns few lawful v h =
      subst HasNearEnds (sym (get_or-map-range_with_len (variable_range s ns p.queries) 0 p.names v v _ h (zero-add v))) (variable-near ns p.queries v few lawful)

-- ---- accepted declarations

module _ (d : Declared) (k l : ℕ) (there : HasLevel d k l) where
  abbrev p : Part
  p = part_at (declaration_of d) k

  kept : KeepsRules p
  kept = accepted-keeps (declaration_of d) there.accepted k _ there.part

  pub lanes-lawful : All (λ q. has_lawful_lanes q ≡ true) p.queries
  lanes-lawful = all-pass (λ q. has_lawful_lanes q) [] 0 p.queries (kept 3 (1, bad_count) (omega arith))

  pub part-named : HasNames p
  part-named = names-valid d there.valid k _ there.part

  -- each level has a range, where the queries have extents of at most 2^31
  pub level-has_range : (s : Shape) (ns : List ℕ) → s.rows < 2 ^ 31 → s.cols < 2 ^ 31 → All (λ n. n ≤ 2 ^ 31) ns → IsRangeable (variable_ranges s ns p) (level_at d k l)
  level-has_range s ns rows cols few =
      let small : IsSmall (level_at d k l) = small-valid d there.valid k _ there.part l RowIndex there.level in
      let many : length (variable_ranges s ns p) ≡ p.names = length-map-range_with_len (variable_range s ns p.queries) 0 p.names in
      record {
        small = small.nodes;
        within = small.within (length (variable_ranges s ns p)) (λ v u. subst (λ n. v < n) (sym many) (part-named.levels l RowIndex there.level v u));
        low = λ v h. (ranges-near s rows cols p ns few lanes-lawful v (subst (λ n. v < n) many h)).0;
        high = λ v h. (ranges-near s rows cols p ns few lanes-lawful v (subst (λ n. v < n) many h)).1;
      }
