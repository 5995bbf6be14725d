-- Which pieces keep a buffer of their own, and how many buffers queries have.
use Rattle.std.specs.Prelude.{Bool, not, ℕ, ◌+◌, List}
use Rattle.std.specs.List.{count_by}
use Rattle.us_format.specs.Declaration.{Query, Part, has_extent, has_table}
use Rattle.us_format.specs.Packs.{Piece, is_packed}

abbrev pub is_own : Part → Piece → Bool
is_own p x = not (is_packed p x)

-- how many extents and tables
abbrev pub made_by : List Query → ℕ
made_by qs = count_by has_extent qs + count_by has_table qs
