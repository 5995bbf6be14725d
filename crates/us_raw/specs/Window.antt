-- One list of a region to be written, and the others.
use Rattle.std.specs.Prelude.{ℕ, ◌/◌, ℤ, List, length, get_or, slice_set}
use Rattle.std.specs.Borrow.{Fml, MutBor, Array, Lends, u8}
use Rattle.std.specs.List.{refill}
use Rattle.us_raw.specs.declared.width.Width.{Width}
use Rattle.us_raw.specs.declared.width.Width.TheVariants.{W8}
use Rattle.us_raw.specs.contracts.region.Region.{the_row}
use Rattle.us_raw.specs.Region.{Lists, cells_from}
use Rattle.us_raw.specs.Widths.{size_of}

-- the cells of the width that the bytes are
abbrev pub cells_of : List ℕ → Width → List ℤ
cells_of bytes w = cells_from bytes 0 (length bytes / size_of w) (size_of w)

-- the lists with the cells of the bytes in the place of one of them
abbrev pub with_cells : Lists → ℕ → List ℕ → Lists
with_cells r seg bytes = record { lists = slice_set r.lists seg (cells_of bytes (get_or r.widths seg W8)); widths = r.widths }

-- the region ends with the cells of what was written
abbrev pub lends_list : MutBor Lists → ℕ → MutBor (List ℕ) → Fml
lends_list s seg r = Lends the_row (Array u8 0) s r (λ ws. with_cells s.now seg (refill (length r.now) r.now ws))
