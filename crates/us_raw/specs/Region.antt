-- What a contract sees of a region, and how it stands in the bytes.
use Rattle.std.specs.Prelude.{ℕ, ◌+◌, ◌*◌, ◌<◌, ◌≤◌, ℤ, List, length, refl}
use Rattle.std.specs.Coded.{Coded, code_by, coded×, coded_list}
use denote.Builtin.{i64}
use Rattle.us_raw.specs.declared.width.Width.{Width}
use Rattle.us_raw.specs.contracts.width.Width as width
use Rattle.us_raw.specs.Layout.{tabulate, word, cell}
use Rattle.us_raw.specs.Widths.{size_of, width_of}

-- the lists, and the widths of their cells
pub record Lists : Type 0 where
  pub lists : List (List ℤ)
  pub widths : List Width

abbrev pub lists_code : Coded Lists
lists_code = code_by (List (List ℤ) × List Width) (coded× (coded_list (coded_list i64.coded)) (coded_list width.the_row.coded))
    (λ r. (r.lists, r.widths)) (λ p. record { lists = p.0; widths = p.1 }) (λ _. refl)

module _ (bytes : List ℕ) where
  -- the three words of a segment: where its first cell stands, how many there are, and the bytes of each
  abbrev pub start_at : ℕ → ℕ
  start_at i = word bytes (i * 24)

  abbrev pub length_at : ℕ → ℕ
  length_at i = word bytes (i * 24 + 8)

  abbrev pub width_at : ℕ → Width
  width_at i = width_of (word bytes (i * 24 + 16))

  abbrev pub size_at : ℕ → ℕ
  size_at i = size_of (width_at i)

  -- so many cells of the size from the place on
  unfoldable pub cells_from : ℕ → ℕ → ℕ → List ℤ
  cells_from start len size = tabulate len (λ x. cell size bytes (start + x * size))

  abbrev pub row : ℕ → List ℤ
  row i = cells_from (start_at i) (length_at i) (size_at i)

  abbrev pub region_of : ℕ → Lists
  region_of n = record { lists = tabulate n row; widths = tabulate n width_at }

  -- the cells stand behind the table, segment after segment
  pub record IsLaid (n : ℕ) : Type 0 where
    pub behind : (i : ℕ) → i < n → n * 24 ≤ start_at i
    pub inside : (i : ℕ) → i < n → start_at i + length_at i * size_at i ≤ length bytes
    pub apart : (i j : ℕ) → i < j → j < n → start_at i + length_at i * size_at i ≤ start_at j
