-- A part whose share of the size is within the limit has small numbers.
use Rattle.std.specs.Prelude.{◌≡◌, ℕ, ◌+◌, ◌^◌, ◌<◌, ◌≤◌, List, [], ◌∷◌}
use Rattle.std.specs.List.{sum}
use Rattle.us_format.specs.declared.Kind.TheVariants.{Compressed}
use Rattle.us_format.specs.Kinds.{Level}
use Rattle.us_format.specs.Matrix.{Shape, Entry}
use Rattle.us_format.specs.Declaration.{Part}
use Rattle.us_format.specs.Positions.{rows_of}
use Rattle.us_format.specs.Buffers.{part_counts}
use Rattle.us_format.specs.Reading.{limit}
use Rattle.us_format_loops.specs.Laws.{levels_on}
use Rattle.us_gen_building.specs.Runs.{AreSmall, cells_of}

-- compressed levels have fewer than 2 ^ 38 coordinates
abbrev pub AreNarrow : List Level → Type 0
AreNarrow [] = Unit {0}
AreNarrow (l ∷ ls) = (l.kind ≡ Compressed → l.size < 2 ^ 38) × AreNarrow ls

-- the cells of its buffers before packing, and its numbers of positions
abbrev pub share_of : Shape → Part → List Entry → ℕ
share_of s p m = cells_of s p m + sum (part_counts s p m)

abbrev pub SharesAreSmall : Type 0
SharesAreSmall = (s : Shape) (p : Part) (m : List Entry) → AreNarrow (levels_on s p m) → share_of s p m ≤ limit → AreSmall (levels_on s p m) 1 (rows_of m s p)
