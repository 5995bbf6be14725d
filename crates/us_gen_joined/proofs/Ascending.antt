-- Entries in the order of their positions have lists of coordinates that ascend.
use Rattle.std.specs.List.{range_with_len}
use Rattle.std.specs.Prelude.{Contains}
use Rattle.std.proofs.Common.{◌≡◌, ℕ, ◌+◌, ◌<◌, ◌⊎◌, List, map, get_or, true, ltb, sym, ap, subst, inl, inr, arith, lt-ltb, ltb-true}
use Rattle.std.proofs.lemmas.List.FromFn.{get_or-map-range_with_len, length-map-range_with_len}
use Rattle.us_format.specs.Lists.{lower}
use Rattle.us_format.specs.Matrix.{Entry, Shape, IsMatrixOf}
use Rattle.us_format.specs.Declaration.{Part}
use Rattle.us_format.specs.Coordinates.{coordinates}
use Rattle.us_format.specs.Positions.{Row}
use Rattle.us_format.specs.Rules.{IsLawful}
use Rattle.us_format.specs.Laws.{position_of}
use Rattle.us_format.proofs.Counting.{count-le}
use Rattle.us_format.proofs.Order.{lower-cases}
use Rattle.us_format.proofs.Lawful.{positions-ascend}
use Rattle.us_build.specs.Items.{key, IsAscending}
use Rattle.us_gen_walk.specs.Runs.{entries_below, rank_of}
use Rattle.us_gen_walk.proofs.Ranks.{one_more}

pub ascend-by : (f : ℕ → Row) (n : ℕ) → ((i j : ℕ) → i < j → j < n → lower (key (f i)) (key (f j)) ≡ true) → IsAscending (map f (range_with_len 0 n))
ascend-by f n h = λ i j d lt l.
    let within : j < n = omega (arith, l, length-map-range_with_len f 0 n) in
    subst (λ (r : Row). lower (key r) (key (get_or (map f (range_with_len 0 n)) j d)) ≡ true) (sym (get_or-map-range_with_len f 0 n i i d (omega (arith, lt, within)) (omega arith)))
    (subst (λ (r : Row). lower (key (f i)) (key r) ≡ true) (sym (get_or-map-range_with_len f 0 n j j d within (omega arith))) (h i j lt within))

-- a lower position means a lower rank
rises : (s : Shape) (p : Part) (m : List Entry) → IsLawful p → IsMatrixOf s m → (x : Entry) (q : ℕ) → Contains m x → position_of s p m x < q → rank_of s p m x < entries_below s p m q
rises s p m la im x q cx lt =
    omega (
      arith,
      one_more s p m la im x cx,
      count-le (λ y. ltb (position_of s p m y) (position_of s p m x + 1)) (λ y. ltb (position_of s p m y) q) m
          (λ y my h. lt-ltb (position_of s p m y) q (omega (arith, ltb-true (position_of s p m y) (position_of s p m x + 1) h, lt))),
    )

-- a lower rank means a lower list of coordinates
pub by-rank : (s : Shape) (p : Part) (m : List Entry) → IsLawful p → IsMatrixOf s m → (x y : Entry) → Contains m x → Contains m y → rank_of s p m x < rank_of s p m y → lower (coordinates m s p x) (coordinates m s p y) ≡ true
by-rank s p m la im x y cx cy lt = go (lower-cases (coordinates m s p x) (coordinates m s p y))
  where
    go : ((lower (coordinates m s p x) (coordinates m s p y) ≡ true) ⊎ ((coordinates m s p x ≡ coordinates m s p y) ⊎ (lower (coordinates m s p y) (coordinates m s p x) ≡ true))) → lower (coordinates m s p x) (coordinates m s p y) ≡ true
    go (inl h) = h
    go (inr (inl e)) = absurd (omega (arith, lt, ap (rank_of s p m) (positions-ascend.apart s p m la im x y cx cy e)))
    go (inr (inr h)) = absurd (omega (arith, lt, rises s p m la im y (position_of s p m x) cy (positions-ascend.ascending s p m la im y x cy cx h)))
