-- The indices of an entry from its coordinates and the tables.
use Rattle.std.specs.Prelude.{ℕ, ◌+◌, ◌*◌, ℤ, pos, ◌+ℤ◌, ◌-ℤ◌, ◌*ℤ◌, int_le, List, [], ◌∷◌, slice_index_or, length, Bool, ◌&&◌, if◌then◌else◌, Option, Some, None}
use Rattle.std.specs.Int.{int_div_euclid, int_rem_euclid}
use Rattle.us_expr.specs.declared.ranges.Range.{Range}
use Rattle.us_expr.specs.Tree.{Tree, RowIndex, ColIndex}
use Rattle.us_format.specs.Lists.{then_do, or_else, nth, cell, nat_of}
use Rattle.us_format.specs.Matrix.{Shape}
use Rattle.us_format.specs.Declaration.{Part, Query}
use Rattle.us_format.specs.Known.{has, same_tree, Give, Itself, OfLevel, Plus, Minus, Joined, Over, Rest, OrderAt, RowsAt, Steps, given_steps}
use Rattle.us_format.specs.Coordinates.{level_range}

-- what a climb leaves: the coordinates, and the extent and the table of each query
pub record Found : Type 0 where
  pub coords : List ℕ
  pub extents : List ℕ
  pub tables : List (List ℤ)

-- the values that were given
abbrev pub Values : Type 0
Values = List (Tree × ℤ)

-- the value of an expression, if it has one
abbrev pub value_of : Values → Tree → Option ℤ
value_of [] e = None
value_of (x ∷ vs) e = if same_tree x.0 e then Some x.1 else value_of vs e

-- what f gives for two values, if both are there
abbrev pub with_both : Option ℤ → Option ℤ → (ℤ → ℤ → ℤ) → Option ℤ
with_both a b f = then_do a (λ x. then_do b (λ y. Some (f x y)))

-- the value that a step gives
abbrev pub give_value : Shape → Part → Found → Values → Give → Option ℤ
give_value s p f vs (Itself c) = Some (pos c)
give_value s p f vs (OfLevel k) = Some (pos (slice_index_or f.coords k 0) +ℤ (level_range s f.extents p (slice_index_or p.levels k RowIndex)).lo)
give_value s p f vs (Plus a b) = with_both (value_of vs a) (value_of vs b) (λ x y. x +ℤ y)
give_value s p f vs (Minus a b) = with_both (value_of vs a) (value_of vs b) (λ x y. x -ℤ y)
give_value s p f vs (Joined q r k) = with_both (value_of vs q) (value_of vs r) (λ x y. x *ℤ pos k +ℤ y)
give_value s p f vs (Over a k) = then_do (value_of vs a) (λ x. Some (int_div_euclid x (pos k)))
give_value s p f vs (Rest a k) = then_do (value_of vs a) (λ x. Some (int_rem_euclid x (pos k)))
give_value s p f vs (OrderAt q v) = then_do (value_of vs v) (λ x. Some (cell (nth f.tables q) (nat_of x)))
give_value s p f vs (RowsAt q l t) =
    with_both (value_of vs l) (value_of vs t) (λ x y. cell (nth f.tables q) (nat_of x * slice_index_or f.extents q 0 + nat_of y) -ℤ pos 1)

-- whether a number lies in a range
abbrev pub lies_in : Range → ℤ → Bool
lies_in r z = int_le r.lo z && int_le z r.hi

-- a value that a rule gives has to lie in its range
abbrev pub checked : Range → Give → ℤ → Option ℤ
checked r (Itself c) z = Some z
checked r (OfLevel k) z = Some z
checked r _ z = if lies_in r z then Some z else None

-- both indices, if both have values
abbrev pub both : Values → Option (ℤ × ℤ)
both vs = then_do (value_of vs RowIndex) (λ i. then_do (value_of vs ColIndex) (λ j. Some (i, j)))

-- step by step: it stops as soon as both indices have values, and fails at the first value outside its range
abbrev pub recover : Shape → Part → Found → Steps → Values → Option (ℤ × ℤ)
recover s p f [] vs = both vs
recover s p f (x ∷ steps) vs =
    or_else (both vs) (then_do (give_value s p f vs x.1) (λ z. then_do (checked (level_range s f.extents p x.0) x.1 z) (λ w. recover s p f steps ((x.0, w) ∷ vs))))

-- the indices that all levels of a part give
abbrev pub recovered : Shape → Part → Found → Option (ℤ × ℤ)
recovered s p f = recover s p f (given_steps p.levels p.queries (length p.levels)) []

-- ---- the plan of a recovery

-- the steps up to the one with which both indices have values, where these expressions have values already
abbrev pub until_both : List Tree → Steps → Steps
until_both known [] = []
until_both known (x ∷ steps) = if has known RowIndex && has known ColIndex then [] else x ∷ until_both (x.0 ∷ known) steps

-- the steps by which the indices are recovered from all levels
abbrev pub plan_of : List Tree → List Query → Steps
plan_of levels queries = until_both [] (given_steps levels queries (length levels))
