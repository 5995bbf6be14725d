-- The sizes and the buffers of the parts of a declaration on the matrices of their entries.
use Rattle.std.specs.Prelude.{ℕ, ◌+◌, ℤ, List, [], ◌∷◌, ◌++◌, map}
use Rattle.us_matrix.specs.Map.{Map}
use Rattle.us_format.specs.Buffers.{part_buffers}
use Rattle.us_format.specs.Declaration.{Part}
use Rattle.us_format.specs.Laws.{unpacked_size}
use Rattle.us_format.specs.Packs.{written}
use Rattle.us_format.specs.Program.{entries_in, shape_in}

-- the size of each part on its matrix, added up
abbrev pub sizes_of : List Part → List Map → ℕ
sizes_of [] ms = 0
sizes_of (p ∷ ps) [] = 0
sizes_of (p ∷ ps) (m ∷ ms) = unpacked_size (shape_in m) p (entries_in m) + sizes_of ps ms

-- the buffers of each part on its matrix, one part after the other
abbrev pub lists_of : List Part → List Map → List (List ℤ)
lists_of [] ms = []
lists_of (p ∷ ps) [] = []
lists_of (p ∷ ps) (m ∷ ms) = map written (part_buffers (shape_in m) p (entries_in m)) ++ lists_of ps ms
