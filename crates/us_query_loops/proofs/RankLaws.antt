-- The order of counts that go downwards is the order of the ranks.
use Rattle.std.specs.List.{range_with_len}
use Rattle.std.specs.List.Sorted.{IsPermutation}
use Rattle.std.proofs.Common.{◌≡◌, ℕ, zero, suc, ◌+◌, ◌<◌, ◌≤◌, ◌⊎◌, List, [], ◌∷◌, length, get_or, Bool, true, false, cond, ◌&&◌, ◌||◌, eqb, ltb, ℤ, pos, negsuc, ◌-ℤ◌, sym, refl, ap, ap₂, ◌∙◌, inl, inr, arith, eq-eqb, lt-ltb, le-ltb}
use Rattle.std.proofs.lemmas.Bool.{cases_order, cases_lt, ne_eqb}
use Rattle.std.proofs.lemmas.List.{take_all}
use Rattle.std.proofs.lemmas.List.FromFn.{get_or-map-range_with_len}
use Rattle.std.proofs.lemmas.List.Sorted.{sum_by-IsPermutation}
use lib.Signed.{lt_z}
use Rattle.us_code.specs.Sort.{before}
use Rattle.us_code_laws.proofs.Orders.{ordered_by_keys}
use Rattle.us_expr.specs.declared.queries.Axis.{Axis}
use Rattle.us_format.proofs.Collect.{Mem-range}
use Rattle.us_format.proofs.Queries.{order-is}
use Rattle.us_format.specs.Matrix.{Entry, Shape, index_at, indices}
use Rattle.us_format.specs.Queries.{order_cell, rank_of, weight}
use Rattle.us_query.proofs.EntryCounts.{count-same}
use Rattle.us_query_loops.proofs.Counted.{count-step}
use Rattle.us_query_loops.proofs.Filling.{filled-all}
use Rattle.us_query_loops.proofs.Sorting.{is-once}
use Rattle.us_query_loops.specs.Laws.{CountsAreRanked, CountsRank}
use Rattle.us_query_loops.specs.Ranks.{by_weight, downwards, weight_column}
use Rattle.us_query_loops.specs.Sorted.{place_at}

-- ---- counts that go down

one-less : (n : ℕ) → downwards n -ℤ pos 1 ≡ downwards (suc n)
one-less zero = refl
one-less (suc n) = let e : n + 0 ≡ n = omega arith in ap (λ (k : ℕ). negsuc (suc k)) e

turned : (u v : ℕ) → lt_z (downwards v) (downwards u) ≡ ltb u v
turned zero zero = refl
turned (suc u) zero = sym (le-ltb (suc u) zero (omega arith))
turned zero (suc v) = sym (lt-ltb zero (suc v) (omega arith))
turned (suc u) (suc v) = go (cases_lt u v)
  where
    go : ((u < v) ⊎ (v ≤ u)) → ltb u v ≡ ltb (suc u) (suc v)
    go (inl l) = lt-ltb u v l ∙ sym (lt-ltb (suc u) (suc v) (omega (arith, l)))
    go (inr l) = le-ltb u v l ∙ sym (le-ltb (suc u) (suc v) (omega (arith, l)))

tests : (u v : ℕ) (r : Bool) → cond (ltb u v) true (cond (ltb v u) false r) ≡ (ltb u v || (eqb u v && r))
tests u v r = go (cases_order u v)
  where
    go : ((u ≡ v) ⊎ ((u < v) ⊎ (v < u))) → cond (ltb u v) true (cond (ltb v u) false r) ≡ (ltb u v || (eqb u v && r))
    go (inl e) =
        ap₂ (λ (p q : Bool). cond p true (cond q false r)) (le-ltb u v (omega (arith, e))) (le-ltb v u (omega (arith, e)))
        ∙ sym (ap₂ (λ (p q : Bool). p || (q && r)) (le-ltb u v (omega (arith, e))) (eq-eqb u v e))
    go (inr (inl l)) =
        ap (λ (p : Bool). cond p true (cond (ltb v u) false r)) (lt-ltb u v l)
        ∙ sym (ap (λ (p : Bool). p || (eqb u v && r)) (lt-ltb u v l))
    go (inr (inr l)) =
        ap₂ (λ (p q : Bool). cond p true (cond q false r)) (le-ltb u v (omega (arith, l))) (lt-ltb v u l)
        ∙ sym (ap₂ (λ (p q : Bool). p || (q && r)) (le-ltb u v (omega (arith, l))) (ne_eqb u v (λ e. absurd (omega (arith, l, e)))))

module _ (s : Shape) (m : List Entry) (axis : Axis) where
  abbrev count : ℕ
  count = indices axis s

  abbrev column : List ℤ
  column = weight_column m s axis

  abbrev order : List ℕ
  order = by_weight m s axis

  cell-is : (a : ℕ) → a < count → get_or column a (pos 0) ≡ downwards (weight m axis a)
  cell-is a l = get_or-map-range_with_len (λ b. downwards (weight m axis b)) 0 count a a (pos 0) l (omega arith)

  -- by the counts, b comes before a where it has more entries, or as many and a lower number
  before-is : (a b : ℕ) → a < count → b < count
      → before (column ∷ []) b a ≡ (ltb (weight m axis a) (weight m axis b) || (eqb (weight m axis a) (weight m axis b) && ltb b a))
  before-is a b l k =
      ap₂ (λ (x y : ℤ). cond (lt_z x y) true (cond (lt_z y x) false (ltb b a))) (cell-is b k) (cell-is a l)
      ∙ ap₂ (λ (p q : Bool). cond p true (cond q false (ltb b a))) (turned (weight m axis a) (weight m axis b)) (turned (weight m axis b) (weight m axis a))
      ∙ tests (weight m axis a) (weight m axis b) (ltb b a)

  place-below : (x : ℕ) → x < count → place_at order x < count
  place-below x l = ordered_by_keys.in_range (column ∷ []) count x l

  rank-here : (x : ℕ) → x < count → rank_of m s axis (place_at order x) ≡ x
  rank-here x l =
      sym (count-same (λ b. before (column ∷ []) b (place_at order x)) (λ b. ltb (weight m axis (place_at order x)) (weight m axis b) || (eqb (weight m axis (place_at order x)) (weight m axis b) && ltb b (place_at order x))) (range_with_len 0 count)
      (λ b mb. before-is (place_at order x) b (place-below x l) (omega (arith, (Mem-range 0 count b mb).1))))
      ∙ ordered_by_keys.place (column ∷ []) count x l

  pub are-ranked : (es : List Entry) → IsPermutation m es → CountsRank s m es axis
  are-ranked es moved = record {
    none = λ a. refl;
    more = λ x a l. count-step (λ y. eqb (index_at axis y) a) es x (record { i = 0; j = 0; v = pos 0 }) l;
    all = λ a. ap (λ (l : List Entry). weight l axis a) (take_all (length es) es (omega arith)) ∙ sum_by-IsPermutation (λ y. cond (eqb (index_at axis y) a) 1 0) m es moved;
    down = one-less;
    order = λ x l. sym (order-is m s axis (place_at order x) (place-below x l)) ∙ ap (order_cell m s axis) (rank-here x l);
    rank = filled-all count order (is-once (column ∷ []) count) (λ x. x) (λ a v. v ≡ rank_of m s axis a) (λ x l. sym (rank-here x l));
  }

pub counts-are-ranked : CountsAreRanked
counts-are-ranked = λ s m es axis moved. are-ranked s m axis es moved
