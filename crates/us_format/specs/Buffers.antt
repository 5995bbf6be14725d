-- The buffers of a declaration on a matrix, and its size.
use Rattle.std.specs.Prelude.{ℕ, ◌+◌, ◌*◌, ℤ, pos, List, [], ◌∷◌, ◌++◌, map, Bool, not, nat_eq, nat_lt, if◌then◌else◌}
use Rattle.std.specs.List.{count_by, filter, sum_by, sum}
use Rattle.us_expr.specs.declared.queries.Cond.{Cond}
use Rattle.us_format.specs.declared.Kind.{Kind}
use Rattle.us_format.specs.declared.Kind.TheVariants.{Full, Compressed, Listed, Slot}
use Rattle.us_format.specs.Lists.{head}
use Rattle.us_format.specs.Matrix.{Entry, Shape, indices}
use Rattle.us_format.specs.Declaration.{Query, Reorder, Schedule, Part, Declaration, axis_of, has_extent, has_table}
use Rattle.us_format.specs.Queries.{variable_at, extent_of, extents_of, order_cell, rows_cell, schedule_extent}
use Rattle.us_format.specs.Kinds.{Level, levels_of}
use Rattle.us_format.specs.Positions.{Row, rows_of, nodes, place, count_below, down, counts}
use Rattle.us_format.specs.Packs.{Buffer, written, nothing, packed}

-- ---- the buffers of the levels

-- the number at x of the row whose place is x, or 0 where there is none
abbrev pub cell_of : (Row → ℕ) → (Row → ℤ) → List Row → ℕ → ℤ
cell_of at f [] x = pos 0
cell_of at f (r ∷ rows) x = if nat_eq (at r) x then f r else cell_of at f rows x

-- `pos`: cell x, from 0 to n, is how many nodes have a parent below x
abbrev pub pos_buffer : List (List ℕ) → ℕ → Buffer
pos_buffer ns n = record { len = n + 1; cell = λ x. pos (count_by (λ m. nat_lt (head m) x) ns) }

-- `crd`: the coordinate at each position, 0 where no entry is
abbrev pub crd_buffer : Kind → ℕ → ℕ → List Row → Buffer
crd_buffer kind size n rows = record { len = count_below kind size n rows; cell = λ x. cell_of (place kind size rows) (λ r. pos (head r.rest)) rows x }

-- the buffers of one level
abbrev pub buffers_at : Kind → ℕ → ℕ → List Row → List Buffer
buffers_at Full size n rows = []
buffers_at Compressed size n rows = pos_buffer (nodes Compressed rows) n ∷ crd_buffer Compressed size n rows ∷ []
buffers_at Listed size n rows = pos_buffer (nodes Listed rows) n ∷ crd_buffer Listed size n rows ∷ []
buffers_at Slot size n rows = crd_buffer Slot size n rows ∷ []

-- `val`: the value at each of n positions, 0 where no entry is
abbrev pub val_buffer : ℕ → List Row → Buffer
val_buffer n rows = record { len = n; cell = λ x. cell_of (λ r. r.at) (λ r. r.value) rows x }

-- the buffers of the levels in order, then the values
abbrev pub level_buffers : List Level → ℕ → List Row → List Buffer
level_buffers [] n rows = val_buffer n rows ∷ []
level_buffers (l ∷ ls) n rows = buffers_at l.kind l.size n rows ++ level_buffers ls (count_below l.kind l.size n rows) (down l.kind l.size rows)

-- ---- the buffers of the queries

-- one cell, the extent
abbrev pub extent_buffer : List Entry → Shape → Query → Buffer
extent_buffer m s q = record { len = 1; cell = λ _. pos (extent_of m s q) }

-- `order`: the index at each rank; `rows`: the index plus 1 at lane * extent + slot, or 0
abbrev pub table_buffer : List Entry → Shape → Query → Buffer
table_buffer m s (Reorder v t) = record { len = indices (axis_of t) s; cell = λ x. pos (order_cell m s (axis_of t) x) }
table_buffer m s (Schedule l u t n) = record { len = n * schedule_extent m s (axis_of t) n; cell = λ x. pos (rows_cell m s (axis_of t) n x) }
table_buffer m s _ = nothing

-- ---- a part

-- the buffers of the levels of a part and its values, before packing
abbrev pub piece_buffers : Shape → Part → List Entry → List Buffer
piece_buffers s p m = level_buffers (levels_of s (extents_of m s p) p) 1 (rows_of m s p)

-- extents, tables, levels and values, packs
abbrev pub part_buffers : Shape → Part → List Entry → List Buffer
part_buffers s p m =
    map (extent_buffer m s) (filter has_extent p.queries) ++ (map (table_buffer m s) (filter has_table p.queries) ++ packed p (piece_buffers s p m))

-- how many positions there are after each level of a part
abbrev pub part_counts : Shape → Part → List Entry → List ℕ
part_counts s p m = counts (levels_of s (extents_of m s p) p) 1 (rows_of m s p)

-- ---- a declaration

-- whether the value of the variable meets the condition
abbrev pub meets : Cond → ℤ → Bool
meets c (pos n) = if c.less then nat_lt n c.bound else not (nat_lt n c.bound)
meets c _ = c.less

-- whether a condition holds at an entry
abbrev pub holds : List Entry → Shape → Declaration → Cond → Entry → Bool
holds m s d c x = meets c (variable_at m s d.head c.var x)

-- each part with its entries: the first condition that holds decides
abbrev pub shares : (Cond → Entry → Bool) → List Cond → List Part → List Entry → List (Part × List Entry)
shares test cs [] m = []
shares test [] (p ∷ ps) m = (p, m) ∷ []
shares test (c ∷ cs) (p ∷ ps) m = (p, filter (test c) m) ∷ shares test cs ps (filter (λ x. not (test c x)) m)

-- the parts of a declaration with their entries
abbrev pub parts_of : Shape → Declaration → List Entry → List (Part × List Entry)
parts_of s d m = shares (holds m s d) d.conds d.parts m

-- the buffers of the parts in order
abbrev pub all_buffers : Shape → List (Part × List Entry) → List Buffer
all_buffers s [] = []
all_buffers s (x ∷ xs) = part_buffers s x.0 x.1 ++ all_buffers s xs

-- the buffers of a declaration on a matrix
abbrev pub buffers : Shape → Declaration → List Entry → List (List ℤ)
buffers s d m = map written (all_buffers s (parts_of s d m))

-- ---- size

-- the sum of the lengths of all buffers, and of the numbers of positions after each level of each part
abbrev pub size : Shape → Declaration → List Entry → ℕ
size s d m = sum_by (λ b. b.len) (all_buffers s (parts_of s d m)) + sum_by (λ x. sum (part_counts s x.0 x.1)) (parts_of s d m)
