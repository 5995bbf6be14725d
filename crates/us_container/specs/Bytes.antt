-- The bytes of a container. Every number has eight bytes, the low byte first.
use Rattle.std.specs.Prelude.{ℕ, ℤ, List, ◌∷◌, ◌++◌, length, codes}
use Rattle.std.specs.List.{flat_map}
use Rattle.std.specs.Int.{w64, cast_unsigned}
use Rattle.byteorder.specs.Endian.{little_bytes}
use Rattle.us_decl.specs.Declares.{Declared}
use Rattle.us_print.specs.Canon.{decl_text}

-- the seven bytes with which a container begins
abbrev pub magic : List ℕ
magic = codes "USPARSE"

unfoldable pub number_bytes : ℕ → List ℕ
number_bytes n = little_bytes 8 n

-- a cell, in two's complement
unfoldable pub cell_bytes : ℤ → List ℕ
cell_bytes z = little_bytes 8 (cast_unsigned w64 z)

-- how many cells, and the cells
abbrev pub buffer_bytes : List ℤ → List ℕ
buffer_bytes cells = number_bytes (length cells) ++ flat_map cell_bytes cells

-- how many bytes the text has, and the text
abbrev pub text_bytes : List ℕ → List ℕ
text_bytes text = number_bytes (length text) ++ text

-- the magic, the version 1, the canonical text of the declaration, rows, columns, the number of buffers, and the buffers
abbrev pub container_bytes : Declared → ℕ → ℕ → List (List ℤ) → List ℕ
container_bytes d rows cols bufs =
    magic ++ (1 ∷ (text_bytes (decl_text d) ++ (number_bytes rows ++ (number_bytes cols ++ (number_bytes (length bufs) ++ flat_map buffer_bytes bufs)))))
