-- The places of an order in the making.
use Rattle.std.proofs.Common.{◌≡◌, ℕ, ◌+◌, ◌<◌, ◌≤◌, ◌⊎◌, List, map, length, get_or, set, sym, ap, ◌∙◌, inl, inr, arith, All}
use Rattle.std.specs.List.{range_with_len}
use Rattle.std.proofs.lemmas.Bool.{cases_lt}
use Rattle.std.proofs.lemmas.List.{get_or_default, get_or-set_other, get_or-set_same, length-map, length-set}
use Rattle.std.proofs.lemmas.List.FromFn.{get_or-map-range_with_len, length-range_with_len}
use Rattle.us_expr.specs.declared.queries.Axis.{Axis}
use Rattle.us_format.specs.Matrix.{Entry, Shape, indices}
use Rattle.us_format.specs.Queries.{order_cell, rank_of}
use Rattle.us_format.proofs.Queries.{order-is, rank-below}
use Rattle.us_query.specs.Ranked.{AreRanked}
use Rattle.us_variables.specs.Tables.{IsInverse}

pub inverse-none : (order places : List ℕ) → length places ≡ length order → IsInverse order 0 places
inverse-none order places l = record { long = l; back = λ f h x k. absurd (omega (arith, k)) }

pub inverse-more : (order places now : List ℕ) (k a d : ℕ) → k < length order → a ≡ get_or order k d → a < length order → now ≡ set places a k → IsInverse order k places → IsInverse order (k + 1) now
inverse-more order places now k a d l e b q h = record {
  long = ap (λ (xs : List ℕ). length xs) q ∙ length-set places a k ∙ h.long;
  back = λ f g x m. ap (λ (xs : List ℕ). get_or xs (get_or order x 0) 0) q ∙ at f g x (cases_lt x k) (omega (arith, m));
}
  where
    here : get_or order k 0 ≡ a
    here = get_or_default order k 0 d l ∙ sym e

    at : (f : ℕ → ℕ) → ((x : ℕ) → x < length order → f (get_or order x 0) ≡ x) → (x : ℕ) → ((x < k) ⊎ (k ≤ x)) → x ≤ k → get_or (set places a k) (get_or order x 0) 0 ≡ x
    at f g x (inl m) n =
        get_or-set_other places a (get_or order x 0) k 0 (λ p. absurd (omega (arith, m, g x (omega (arith, m, l)), g k l, ap f (p ∙ sym here)))) ∙ h.back f g x m
    at f g x (inr m) n =
        let s : k ≡ x = omega (arith, m, n) in
        ap (λ (y : ℕ). get_or (set places a k) (get_or order y 0) 0) (sym s) ∙ ap (λ (y : ℕ). get_or (set places a k) y 0) here
        ∙ get_or-set_same places a k 0 (omega (arith, b, h.long)) ∙ s

module _ (m : List Entry) (s : Shape) (axis : Axis) (order : List ℕ) (made : order ≡ map (order_cell m s axis) (range_with_len 0 (indices axis s))) (ranked : AreRanked m s axis order) where
  pub order-long : length order ≡ indices axis s
  order-long = ap (λ (xs : List ℕ). length xs) made ∙ length-map (range_with_len 0 (indices axis s)) (order_cell m s axis) ∙ length-range_with_len 0 (indices axis s)

  pub order-below : All (λ a. a < length order) order
  order-below k d l =
      let b = (ranked k (omega (arith, l, order-long))).0 in
      omega (arith, b, order-long, get_or_default order k d 0 l)

  -- the places are the ranks
  pub ranks-are : (places : List ℕ) → IsInverse order (length order) places → (a : ℕ) → a < indices axis s → get_or places a 0 ≡ rank_of m s axis a
  ranks-are places h a l =
      let x : ℕ = rank_of m s axis a in
      let b : x < indices axis s = rank-below m s axis a l in
      let at : get_or order x 0 ≡ a = ap (λ (xs : List ℕ). get_or xs x 0) made ∙ get_or-map-range_with_len (order_cell m s axis) 0 (indices axis s) x x 0 b (omega arith) ∙ order-is m s axis a l in
      ap (λ (y : ℕ). get_or places y 0) (sym at) ∙ h.back (rank_of m s axis) (λ y k. (ranked y (omega (arith, k, order-long))).1) x (omega (arith, b, order-long))
