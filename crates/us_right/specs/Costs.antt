-- How many steps the pieces of a program take.
use Rattle.std.specs.Prelude.{ℕ, ◌+◌, ◌*◌, List, length, take}
use Rattle.std.specs.List.{sum_by, sum}
use Rattle.us_format.specs.Matrix.{Shape, Entry}
use Rattle.us_format.specs.Declaration.{Part, Declaration}
use Rattle.us_format.specs.Buffers.{part_buffers, part_counts, parts_of, size}
use Rattle.us_format.specs.Laws.{cells_of}
use Rattle.us_gen_listing.specs.Unpack.{level_count, query_count}
use Rattle.us_right.specs.Right.{lane_turns}

-- what a part with its entries adds to the size
abbrev pub own_size : Shape → Part × List Entry → ℕ
own_size s y = cells_of (part_buffers s y.0 y.1) + sum (part_counts s y.0 y.1)

-- the entries are listed
abbrev pub listing_cost : Shape → Declaration → List Entry → ℕ
listing_cost s f m = 64 * ((1 + level_count f + query_count f) * (size s f m + 1))

-- the queries of a part are counted, and its buffers are built
abbrev pub own_cost : Shape → Part × List Entry → ℕ
own_cost s y =
    32 * ((1 + length y.0.queries) * (length y.1 + (own_size s y + lane_turns s y.0.queries) + 1))
    + 64 * ((1 + length y.0.levels + length y.0.queries) * (length y.1 + own_size s y + 1))

-- its entries are selected before
abbrev pub part_cost : Shape → Declaration → List Entry → Part × List Entry → ℕ
part_cost s g m y = 32 * ((1 + length g.head) * (length m + 1)) + own_cost s y

-- the first k parts
abbrev pub parts_cost : Shape → Declaration → List Entry → ℕ → ℕ
parts_cost s g m k = sum_by (part_cost s g m) (take k (parts_of s g m))
