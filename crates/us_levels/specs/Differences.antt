-- Where lists of cells differ from buffers.
use Rattle.std.specs.Prelude.{ℕ, suc, ◌+◌, ◌-◌, ◌^◌, min, ℤ, List, [], ◌∷◌, length, not, nat_eq, Option, Some, None}
use Rattle.std.specs.Ordering.{int_eq}
use Rattle.us_matrix.specs.Map.{Map}
use Rattle.us_format.specs.Lists.{then_do, or_else, when, first_from, nth, cell}
use Rattle.us_format.specs.Packs.{Buffer, packed}
use Rattle.us_format.specs.Matrix.{Shape, Entry}
use Rattle.us_format.specs.Declaration.{Part, Declaration}
use Rattle.us_format.specs.Buffers.{all_buffers, part_buffers, parts_of, piece_buffers}
use Rattle.us_format.specs.Program.{entries_in, shape_in}
use Rattle.us_format.specs.Reading.{buffer_count}
use Rattle.us_levels.specs.declared.differing.Difference.{Difference}
use Rattle.us_levels.specs.declared.differing.Difference.TheVariants.{Cell, Long}

-- the first cell of both at which they differ
abbrev pub first_cell : Buffer → List ℤ → Option ℕ
first_cell b xs = first_from (λ x. not (int_eq (cell xs x) (b.cell x))) 0 (min (length xs) b.len)

-- of the buffer k: the first cell that differs, or the length where all common cells agree
abbrev pub difference_at : ℕ → Buffer → List ℤ → Option Difference
difference_at k b xs =
    or_else (then_do (first_cell b xs) (λ x. Some (Cell k x (cell xs x) (b.cell x)))) (when (not (nat_eq (length xs) b.len)) (Long k (length xs) (min b.len (2 ^ 64 - 1))))

-- of the first buffer that differs, the buffers being numbered from k on
abbrev pub first_difference : ℕ → List Buffer → List (List ℤ) → Option Difference
first_difference k [] bufs = None
first_difference k (b ∷ bs) bufs = or_else (difference_at k b (nth bufs k)) (first_difference (suc k) bs bufs)

-- of the buffers of a part, the first of which is the buffer k
abbrev pub part_difference : ℕ → Shape → Part → List Entry → List (List ℤ) → Option Difference
part_difference k s p m bufs = first_difference k (part_buffers s p m) bufs

-- of those of its levels, values and packs
abbrev pub stored_difference : ℕ → Shape → Part → List Entry → List (List ℤ) → Option Difference
stored_difference k s p m bufs = first_difference k (packed p (piece_buffers s p m)) bufs

-- of the buffers of parts on the matrices of their entries
abbrev pub parts_difference : ℕ → List Part → List Map → List (List ℤ) → Option Difference
parts_difference k [] ms bufs = None
parts_difference k (p ∷ ps) [] bufs = None
parts_difference k (p ∷ ps) (m ∷ ms) bufs = or_else (part_difference k (shape_in m) p (entries_in m) bufs) (parts_difference (k + buffer_count p) ps ms bufs)

-- of the buffers of a matrix
abbrev pub difference_of : Shape → Declaration → List Entry → List (List ℤ) → Option Difference
difference_of s d m bufs = first_difference 0 (all_buffers s (parts_of s d m)) bufs
