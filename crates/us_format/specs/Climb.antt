-- The climb from a position of the last level to the coordinates.
use Rattle.std.specs.Prelude.{ℕ, suc, ◌/◌, ◌%◌, ℤ, pos, negsuc, List, [], ◌∷◌, length, drop, Bool, true, not, ◌&&◌, nat_lt, nat_le, if◌then◌else◌, Option, Some, None}
use Rattle.us_format.specs.declared.Kind.{Kind}
use Rattle.us_format.specs.declared.Kind.TheVariants.{Full, Compressed, Listed, Slot}
use Rattle.us_format.specs.Lists.{then_do, first_from, nth, cell}
use Rattle.us_format.specs.Kinds.{Level}

-- the cell as a coordinate of a level of this size
abbrev pub as_coordinate : ℕ → ℤ → Option ℕ
as_coordinate size (pos c) = if nat_lt c size then Some c else None
as_coordinate size (negsuc c) = None

-- whether a cell is at most x
abbrev pub at_most : ℤ → ℕ → Bool
at_most (pos a) x = nat_le a x
at_most (negsuc a) x = true

-- whether pos[p] <= x < pos[p + 1]
abbrev pub is_parent : List ℤ → ℕ → ℕ → Bool
is_parent starts x p = at_most (cell starts p) x && not (at_most (cell starts (suc p)) x)

-- the first parent of x
abbrev pub parent_of : List ℤ → ℕ → Option ℕ
parent_of starts x = first_from (is_parent starts x) 0 (length starts)

-- how many buffers a level has
abbrev pub width : Kind → ℕ
width Full = 0
width Compressed = 2
width Listed = 2
width Slot = 1

-- one level up from x: the position of the parent, and the coordinate
abbrev pub up : Kind → ℕ → List (List ℤ) → ℕ → Option (ℕ × ℕ)
up Full size bufs x = then_do (as_coordinate size (pos (x % size))) (λ c. Some (x / size, c))
up Compressed size bufs x = then_do (as_coordinate size (cell (nth bufs 1) x)) (λ c. then_do (parent_of (nth bufs 0) x) (λ p. Some (p, c)))
up Listed size bufs x = then_do (as_coordinate size (cell (nth bufs 1) x)) (λ c. then_do (parent_of (nth bufs 0) x) (λ p. Some (p, c)))
up Slot size bufs x = then_do (as_coordinate size (cell (nth bufs 0) x)) (λ c. Some (x, c))

-- from the position x after all levels up: the position above the first level, and the coordinates
abbrev pub climb : List Level → List (List ℤ) → ℕ → Option (ℕ × List ℕ)
climb [] bufs x = Some (x, [])
climb (l ∷ ls) bufs x =
    then_do (climb ls (drop (width l.kind) bufs) x) (λ (y, cs). then_do (up l.kind l.size bufs y) (λ (q, c). Some (q, c ∷ cs)))

-- the values, which stand after the buffers of the levels
abbrev pub values : List Level → List (List ℤ) → List ℤ
values [] bufs = nth bufs 0
values (l ∷ ls) bufs = values ls (drop (width l.kind) bufs)
