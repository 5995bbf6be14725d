-- What `info` prints.
use Rattle.std.specs.Prelude.{ℕ, suc, ℤ, List, [], ◌∷◌, ◌++◌, length, codes}
use Rattle.std.specs.Fmt.{decimal}
use Rattle.us_matrix.specs.Map.{Map}
use Rattle.us_inputs.specs.Steps.{Input, OfFile, OfContainer, map_of, size_on}

-- a blank and a number
abbrev pub spaced : ℕ → List ℕ
spaced n = codes " " ++ decimal n

-- the number of a buffer, a blank, its length; the buffers are numbered from k on
abbrev pub buffer_lines : ℕ → List (List ℤ) → List ℕ
buffer_lines k [] = []
buffer_lines k (cells ∷ more) = decimal k ++ (spaced (length cells) ++ (10 ∷ buffer_lines (suc k) more))

-- rows, columns, and the number of entries
abbrev pub sides_text : Map → List ℕ
sides_text m = spaced m.rows ++ (spaced m.cols ++ spaced (length m.entries))

-- `matrix ROWS COLS ENTRIES`, or `container 1 NAME ROWS COLS ENTRIES SIZE` and a line for each buffer
abbrev pub info_text : Input → List ℕ
info_text (OfFile m) = codes "matrix" ++ (sides_text m ++ (10 ∷ []))
info_text (OfContainer c) =
    codes "container 1 "
    ++ (c.declared.name
    ++ (sides_text (map_of (OfContainer c)) ++ (spaced (size_on (map_of (OfContainer c)) c.declared) ++ (10 ∷ buffer_lines 0 c.buffers))))
