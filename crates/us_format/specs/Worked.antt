-- Worked rows: what the definitions give on a small matrix, compared with numbers worked out by hand.
use Rattle.std.specs.Prelude.{ℕ, ◌+◌, ◌*◌, ℤ, pos, negsuc, List, [], ◌∷◌, map, length, Bool, true, false, ◌≡◌, Some, Err}
use Rattle.us_expr.specs.declared.ranges.Range.{Range}
use Rattle.us_expr.specs.Tree.{Tree, RowIndex, ColIndex, Number, Sum, Difference, Quotient, Remainder}
use Rattle.us_format.specs.declared.Kind.{Kind}
use Rattle.us_format.specs.declared.Kind.TheVariants.{Full, Compressed, Listed, Slot}
use Rattle.us_format.specs.Matrix.{Entry, Shape}
use Rattle.us_format.specs.Declaration.{Part, Declaration}
use Rattle.us_format.specs.Known.{is_known}
use Rattle.us_format.specs.Queries.{extents_of}
use Rattle.us_format.specs.Coordinates.{level_range}
use Rattle.us_format.specs.Kinds.{levels_of}
use Rattle.us_format.specs.Buffers.{buffers, size}
use Rattle.us_format.specs.Reading.{fits, misfit, size_in}
use Rattle.us_format.specs.Meaning.{collected, meaning}
use Rattle.us_format.specs.Library.{csr, csc, coo, dcsr, bcsr, dia, ell, jds, cisr, aos, hyb, heavy, entry, csr_part, csc_part, coo_part, dcsr_part, bcsr_part, dia_part, ell_part, jds_part, cisr_part, aos_part, hyb_first, hyb_rest, heavy_first, heavy_rest}

-- ---- the sample: 3 rows, 4 columns, 5 at (0, 0), 2 at (0, 2), -7 at (2, 1)

abbrev pub sample_shape : Shape
sample_shape = record { rows = 3; cols = 4 }

abbrev pub entry_of : ℕ → ℕ → ℤ → Entry
entry_of i j v = record { i = i; j = j; v = v }

abbrev pub sample : List Entry
sample = entry_of 0 0 (pos 5) ∷ entry_of 0 2 (pos 2) ∷ entry_of 2 1 (negsuc 6) ∷ []

-- a format has these buffers and this size on the sample, and they fit, are as large, and mean the sample
pub record IsWorked (d : Declaration) (bufs : List (List ℤ)) (n : ℕ) : Type 0 where
  pub buffers_are : buffers sample_shape d sample ≡ bufs
  pub size_is : size sample_shape d sample ≡ n
  pub they_fit : fits sample_shape d bufs ≡ true
  pub as_large : size_in sample_shape d bufs ≡ n
  pub they_mean : meaning sample_shape d bufs ≡ Some sample

-- each format on the sample
pub record WorkedFormats : Type 0 where
  pub csr_row : IsWorked csr ((pos 0 ∷ pos 2 ∷ pos 2 ∷ pos 3 ∷ []) ∷ (pos 0 ∷ pos 2 ∷ pos 1 ∷ []) ∷ (pos 5 ∷ pos 2 ∷ negsuc 6 ∷ []) ∷ []) 16
  pub csc_row : IsWorked csc ((pos 0 ∷ pos 1 ∷ pos 2 ∷ pos 3 ∷ pos 3 ∷ []) ∷ (pos 0 ∷ pos 2 ∷ pos 0 ∷ []) ∷ (pos 5 ∷ negsuc 6 ∷ pos 2 ∷ []) ∷ []) 18
  pub coo_row : IsWorked coo ((pos 0 ∷ pos 3 ∷ []) ∷ (pos 0 ∷ pos 0 ∷ pos 2 ∷ []) ∷ (pos 0 ∷ pos 2 ∷ pos 1 ∷ []) ∷ (pos 5 ∷ pos 2 ∷ negsuc 6 ∷ []) ∷ []) 17
  pub dcsr_row : IsWorked dcsr ((pos 0 ∷ pos 2 ∷ []) ∷ (pos 0 ∷ pos 2 ∷ []) ∷ (pos 0 ∷ pos 2 ∷ pos 3 ∷ []) ∷ (pos 0 ∷ pos 2 ∷ pos 1 ∷ []) ∷ (pos 5 ∷ pos 2 ∷ negsuc 6 ∷ []) ∷ []) 18
  pub bcsr_row : IsWorked bcsr ((pos 0 ∷ pos 2 ∷ pos 3 ∷ []) ∷ (pos 0 ∷ pos 1 ∷ pos 0 ∷ []) ∷ (pos 5 ∷ pos 0 ∷ pos 0 ∷ pos 0 ∷ pos 2 ∷ pos 0 ∷ pos 0 ∷ pos 0 ∷ pos 0 ∷ negsuc 6 ∷ pos 0 ∷ pos 0 ∷ []) ∷ []) 41
  pub dia_row : IsWorked dia ((pos 0 ∷ pos 3 ∷ []) ∷ (pos 1 ∷ pos 2 ∷ pos 4 ∷ []) ∷ (pos 0 ∷ pos 0 ∷ negsuc 6 ∷ pos 5 ∷ pos 0 ∷ pos 0 ∷ pos 2 ∷ pos 0 ∷ pos 0 ∷ []) ∷ []) 26
  pub ell_row : IsWorked ell ((pos 2 ∷ []) ∷ (pos 0 ∷ pos 2 ∷ pos 0 ∷ pos 0 ∷ pos 1 ∷ pos 0 ∷ []) ∷ (pos 5 ∷ pos 2 ∷ pos 0 ∷ pos 0 ∷ negsuc 6 ∷ pos 0 ∷ []) ∷ []) 28
  pub jds_row : IsWorked jds ((pos 2 ∷ []) ∷ (pos 0 ∷ pos 2 ∷ pos 1 ∷ []) ∷ (pos 0 ∷ pos 2 ∷ pos 1 ∷ pos 0 ∷ pos 0 ∷ pos 0 ∷ []) ∷ (pos 5 ∷ pos 2 ∷ negsuc 6 ∷ pos 0 ∷ pos 0 ∷ pos 0 ∷ []) ∷ []) 31
  pub cisr_row : IsWorked cisr ((pos 2 ∷ []) ∷ (pos 1 ∷ pos 0 ∷ pos 2 ∷ pos 3 ∷ []) ∷ (pos 0 ∷ pos 2 ∷ pos 2 ∷ pos 2 ∷ pos 3 ∷ []) ∷ (pos 0 ∷ pos 2 ∷ pos 1 ∷ []) ∷ (pos 5 ∷ pos 2 ∷ negsuc 6 ∷ []) ∷ []) 25
  pub aos_row : IsWorked aos ((pos 0 ∷ pos 3 ∷ []) ∷ (pos 0 ∷ pos 0 ∷ pos 5 ∷ pos 0 ∷ pos 2 ∷ pos 2 ∷ pos 2 ∷ pos 1 ∷ negsuc 6 ∷ []) ∷ []) 17
  pub hyb_row : IsWorked hyb ((pos 1 ∷ []) ∷ (pos 0 ∷ pos 0 ∷ pos 1 ∷ []) ∷ (pos 5 ∷ pos 0 ∷ negsuc 6 ∷ []) ∷ (pos 0 ∷ pos 1 ∷ []) ∷ (pos 0 ∷ []) ∷ (pos 2 ∷ []) ∷ (pos 2 ∷ []) ∷ []) 23
  pub heavy_row : IsWorked heavy ((pos 0 ∷ pos 2 ∷ pos 2 ∷ pos 2 ∷ []) ∷ (pos 0 ∷ pos 2 ∷ []) ∷ (pos 5 ∷ pos 2 ∷ []) ∷ (pos 0 ∷ pos 1 ∷ []) ∷ (pos 2 ∷ []) ∷ (pos 1 ∷ []) ∷ (negsuc 6 ∷ []) ∷ []) 20
  pub entry_row : IsWorked entry ((pos 0 ∷ pos 3 ∷ []) ∷ (pos 0 ∷ pos 0 ∷ pos 2 ∷ []) ∷ (pos 0 ∷ pos 2 ∷ pos 1 ∷ []) ∷ (pos 5 ∷ pos 2 ∷ negsuc 6 ∷ []) ∷ []) 17

-- the empty matrix of the sample's shape
pub record WorkedEmpty : Type 0 where
  pub ell_empty : buffers sample_shape ell [] ≡ (pos 0 ∷ []) ∷ ([]) ∷ ([]) ∷ []
  pub ell_empty_size : size sample_shape ell [] ≡ 4
  pub ell_empty_means : meaning sample_shape ell ((pos 0 ∷ []) ∷ ([]) ∷ ([]) ∷ []) ≡ Some []
  pub dia_empty : buffers sample_shape dia [] ≡ (pos 0 ∷ pos 0 ∷ []) ∷ ([]) ∷ ([]) ∷ []
  pub dia_empty_size : size sample_shape dia [] ≡ 2
  pub dia_empty_means : meaning sample_shape dia ((pos 0 ∷ pos 0 ∷ []) ∷ ([]) ∷ ([]) ∷ []) ≡ Some []
  pub jds_empty : buffers sample_shape jds [] ≡ (pos 0 ∷ []) ∷ (pos 0 ∷ pos 1 ∷ pos 2 ∷ []) ∷ ([]) ∷ ([]) ∷ []
  pub jds_empty_size : size sample_shape jds [] ≡ 7
  pub jds_empty_means : meaning sample_shape jds ((pos 0 ∷ []) ∷ (pos 0 ∷ pos 1 ∷ pos 2 ∷ []) ∷ ([]) ∷ ([]) ∷ []) ≡ Some []

-- ---- the largest shape, with the value 1 in its last row and column

abbrev pub large_shape : Shape
large_shape = record { rows = 2147483647; cols = 2147483647 }

abbrev pub last_entry : List Entry
last_entry = entry_of 2147483646 2147483646 (pos 1) ∷ []

pub record WorkedLarge : Type 0 where
  pub coo_large : buffers large_shape coo last_entry ≡ (pos 0 ∷ pos 1 ∷ []) ∷ (pos 2147483646 ∷ []) ∷ (pos 2147483646 ∷ []) ∷ (pos 1 ∷ []) ∷ []
  pub coo_large_size : size large_shape coo last_entry ≡ 7
  pub csr_large_size : size large_shape csr last_entry ≡ 2 * 2147483647 + 4

-- ---- kinds and ranges of levels

-- the kinds of a part's levels
abbrev pub kinds : Part → List Kind
kinds p = map (λ l. l.kind) (levels_of sample_shape (extents_of sample sample_shape p) p)

-- the ranges of a part's levels on the sample
abbrev pub ranges : Part → List Range
ranges p = map (level_range sample_shape (extents_of sample sample_shape p) p) p.levels

-- the numbers from lo to hi
abbrev pub from_to : ℤ → ℤ → Range
from_to lo hi = record { lo = lo; hi = hi }

-- map (i % 4, i / 4, j)
abbrev pub digits_part : Part
digits_part = record { names = 0; queries = []; levels = Remainder RowIndex 4 ∷ Quotient RowIndex 4 ∷ ColIndex ∷ []; trim = []; merge = []; packs = [] }

pub record WorkedKinds : Type 0 where
  pub csr_kinds : kinds csr_part ≡ Full ∷ Compressed ∷ []
  pub csr_ranges : ranges csr_part ≡ from_to (pos 0) (pos 2) ∷ from_to (pos 0) (pos 3) ∷ []
  pub dia_kinds : kinds dia_part ≡ Compressed ∷ Full ∷ []
  pub dia_ranges : ranges dia_part ≡ from_to (negsuc 1) (pos 3) ∷ from_to (pos 0) (pos 2) ∷ []
  pub ell_kinds : kinds ell_part ≡ Full ∷ Full ∷ Slot ∷ []
  pub ell_ranges : ranges ell_part ≡ from_to (pos 0) (pos 2) ∷ from_to (pos 0) (pos 1) ∷ from_to (pos 0) (pos 3) ∷ []
  pub digits_kinds : kinds digits_part ≡ Full ∷ Full ∷ Full ∷ []
  pub digits_ranges : ranges digits_part ≡ from_to (pos 0) (pos 2) ∷ from_to (pos 0) (pos 0) ∷ from_to (pos 0) (pos 3) ∷ []
  pub csc_kinds : kinds csc_part ≡ Full ∷ Compressed ∷ []
  pub coo_kinds : kinds coo_part ≡ Listed ∷ Slot ∷ []
  pub dcsr_kinds : kinds dcsr_part ≡ Compressed ∷ Compressed ∷ []
  pub bcsr_kinds : kinds bcsr_part ≡ Full ∷ Compressed ∷ Full ∷ Full ∷ []
  pub heavy_first_kinds : kinds heavy_first ≡ Full ∷ Compressed ∷ []
  pub heavy_rest_kinds : kinds heavy_rest ≡ Listed ∷ Slot ∷ []
  pub jds_kinds : kinds jds_part ≡ Full ∷ Full ∷ Slot ∷ []
  pub cisr_kinds : kinds cisr_part ≡ Full ∷ Full ∷ Compressed ∷ []
  pub aos_kinds : kinds aos_part ≡ Listed ∷ Slot ∷ []
  pub hyb_first_kinds : kinds hyb_first ≡ Full ∷ Full ∷ Slot ∷ []
  pub hyb_rest_kinds : kinds hyb_rest ≡ Listed ∷ Slot ∷ []

-- ---- which levels make the indices known

-- whether all of these levels make the row, and the column, known
abbrev pub row_known : List Tree → Bool
row_known levels = is_known levels [] (length levels) RowIndex

abbrev pub col_known : List Tree → Bool
col_known levels = is_known levels [] (length levels) ColIndex

pub record WorkedKnown : Type 0 where
  pub no_levels : row_known [] ≡ false
  pub both : row_known (RowIndex ∷ ColIndex ∷ []) ≡ true
  pub half_row : row_known (Quotient RowIndex 2 ∷ ColIndex ∷ []) ≡ false
  pub half_row_column : col_known (Quotient RowIndex 2 ∷ ColIndex ∷ []) ≡ true
  pub sum_and_difference : row_known (Sum RowIndex ColIndex ∷ Difference RowIndex ColIndex ∷ []) ≡ false
  pub half_column : col_known (RowIndex ∷ Quotient ColIndex 2 ∷ []) ≡ false
  pub half_column_row : row_known (RowIndex ∷ Quotient ColIndex 2 ∷ []) ≡ true
  pub digits : row_known (Remainder RowIndex 4 ∷ Quotient RowIndex 4 ∷ ColIndex ∷ []) ≡ true
  pub other_digits : row_known (Remainder RowIndex 4 ∷ Quotient RowIndex 5 ∷ ColIndex ∷ []) ≡ false
  pub diagonal : col_known (Difference ColIndex RowIndex ∷ RowIndex ∷ []) ≡ true
  pub shifted : row_known (Sum RowIndex (Number 3) ∷ ColIndex ∷ []) ≡ true
  -- the number of a quotient is no operand
  pub divisor : row_known (Quotient (Number 6) 3 ∷ Sum RowIndex (Quotient (Number 9) 3) ∷ ColIndex ∷ []) ≡ true
  pub no_neighbour : is_known (Sum RowIndex (Number 3) ∷ []) [] 1 (Number 4) ≡ false

-- ---- buffers that do not fit or have no meaning

-- as the row of csr, with one thing changed
pub record WorkedFaults : Type 0 where
  pub too_few : misfit sample_shape csr ((pos 0 ∷ pos 2 ∷ pos 2 ∷ pos 3 ∷ []) ∷ (pos 0 ∷ pos 2 ∷ pos 1 ∷ []) ∷ []) ≡ Some 2
  pub short_pos : misfit sample_shape csr ((pos 0 ∷ pos 2 ∷ pos 3 ∷ []) ∷ (pos 0 ∷ pos 2 ∷ pos 1 ∷ []) ∷ (pos 5 ∷ pos 2 ∷ negsuc 6 ∷ []) ∷ []) ≡ Some 0
  pub long_val : misfit sample_shape csr ((pos 0 ∷ pos 2 ∷ pos 2 ∷ pos 3 ∷ []) ∷ (pos 0 ∷ pos 2 ∷ pos 1 ∷ []) ∷ (pos 5 ∷ pos 2 ∷ negsuc 6 ∷ pos 0 ∷ []) ∷ []) ≡ Some 2
  pub cut_pack : misfit sample_shape aos ((pos 0 ∷ pos 3 ∷ []) ∷ (pos 0 ∷ pos 0 ∷ pos 5 ∷ pos 0 ∷ []) ∷ []) ≡ Some 1
  pub negative_extent : misfit sample_shape ell ((negsuc 0 ∷ []) ∷ [] ∷ [] ∷ []) ≡ Some 0
  pub second_part : misfit sample_shape hyb ((pos 1 ∷ []) ∷ (pos 0 ∷ pos 0 ∷ pos 1 ∷ []) ∷ (pos 5 ∷ pos 0 ∷ negsuc 6 ∷ []) ∷ (pos 0 ∷ pos 1 ∷ []) ∷ (pos 0 ∷ []) ∷ [] ∷ (pos 2 ∷ []) ∷ []) ≡ Some 5
  -- every climb works, but the cells are others than those of the meaning
  pub other_pos : meaning sample_shape csr ((pos 0 ∷ pos 2 ∷ pos 1 ∷ pos 3 ∷ []) ∷ (pos 0 ∷ pos 2 ∷ pos 1 ∷ []) ∷ (pos 5 ∷ pos 2 ∷ negsuc 6 ∷ []) ∷ []) ≡ Some sample
  -- the second position has the coordinate of the first
  pub twice : collected sample_shape csr ((pos 0 ∷ pos 2 ∷ pos 2 ∷ pos 3 ∷ []) ∷ (pos 0 ∷ pos 0 ∷ pos 1 ∷ []) ∷ (pos 5 ∷ pos 2 ∷ negsuc 6 ∷ []) ∷ []) ≡ Err (0, 1)

-- ---- recovery is not pruned

-- 4 rows and 4 columns, with the value 7 at (3, 2)
abbrev pub square : Shape
square = record { rows = 4; cols = 4 }

abbrev pub seven : List Entry
seven = entry_of 3 2 (pos 7) ∷ []

-- map ((j / 5) + (i / 2), i / 2, i % 2, j) trim 0, 1, 2, 3, and the same with the sum at the end
abbrev pub sum_first : Declaration
sum_first = record {
  head_names = 0;
  head = [];
  conds = [];
  parts =
      record { names = 0; queries = []; levels = Sum (Quotient ColIndex 5) (Quotient RowIndex 2) ∷ Quotient RowIndex 2 ∷ Remainder RowIndex 2 ∷ ColIndex ∷ []; trim = 0 ∷ 1 ∷ 2 ∷ 3 ∷ []; merge = []; packs = [] } ∷ [];
}

abbrev pub sum_last : Declaration
sum_last = record {
  head_names = 0;
  head = [];
  conds = [];
  parts =
      record { names = 0; queries = []; levels = Quotient RowIndex 2 ∷ Remainder RowIndex 2 ∷ ColIndex ∷ Sum (Quotient RowIndex 2) (Quotient ColIndex 5) ∷ []; trim = 0 ∷ 1 ∷ 2 ∷ 3 ∷ []; merge = []; packs = [] } ∷ [];
}

-- a value that the indices don't need is tested if it is reached before both stand: with the sum in front j / 5 would be -1, with the sum at the end nothing is tested any more, and the buffers only differ from those of the meaning
pub record RecoveryIsNotPruned : Type 0 where
  pub first_buffers : buffers square sum_first seven ≡ (pos 0 ∷ pos 1 ∷ []) ∷ (pos 1 ∷ []) ∷ (pos 1 ∷ []) ∷ (pos 1 ∷ []) ∷ (pos 2 ∷ []) ∷ (pos 7 ∷ []) ∷ []
  pub first_fails : collected square sum_first ((pos 0 ∷ pos 1 ∷ []) ∷ (pos 0 ∷ []) ∷ (pos 1 ∷ []) ∷ (pos 1 ∷ []) ∷ (pos 2 ∷ []) ∷ (pos 7 ∷ []) ∷ []) ≡ Err (0, 0)
  pub last_buffers : buffers square sum_last seven ≡ (pos 0 ∷ pos 1 ∷ []) ∷ (pos 1 ∷ []) ∷ (pos 1 ∷ []) ∷ (pos 2 ∷ []) ∷ (pos 1 ∷ []) ∷ (pos 7 ∷ []) ∷ []
  pub last_means : meaning square sum_last ((pos 0 ∷ pos 1 ∷ []) ∷ (pos 1 ∷ []) ∷ (pos 1 ∷ []) ∷ (pos 2 ∷ []) ∷ (pos 0 ∷ []) ∷ (pos 7 ∷ []) ∷ []) ≡ Some seven
