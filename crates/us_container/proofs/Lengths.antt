-- How many bytes the pieces of a container have.
use Rattle.std.proofs.Common.{◌≡◌, ℕ, ◌+◌, ◌*◌, List, [], ◌∷◌, length, refl, arith, length-append}
use Rattle.std.specs.Prelude.{ℤ}
use Rattle.std.specs.Int.{w64, cast_unsigned}
use Rattle.std.specs.List.{flat_map}
use Rattle.byteorder.specs.Numbers.{length-bytes_low_first}
use Rattle.us_container.specs.Bytes.{number_bytes, cell_bytes, buffer_bytes}

pub length_number : (n : ℕ) → length (number_bytes n) ≡ 8
unfolding number_bytes
length_number n = length-bytes_low_first 0 8 n

pub length_cell : (z : ℤ) → length (cell_bytes z) ≡ 8
unfolding cell_bytes
length_cell z = length-bytes_low_first 0 8 (cast_unsigned w64 z)

pub length_cells : (cells : List ℤ) → length (flat_map cell_bytes cells) ≡ 8 * length cells
length_cells [] = refl
length_cells (z ∷ zs) = omega (arith, length-append (cell_bytes z) (flat_map cell_bytes zs), length_cell z, length_cells zs)

pub length_buffer : (cells : List ℤ) → length (buffer_bytes cells) ≡ 8 * (length cells + 1)
length_buffer cells = omega (arith, length-append (number_bytes (length cells)) (flat_map cell_bytes cells), length_number (length cells), length_cells cells)
