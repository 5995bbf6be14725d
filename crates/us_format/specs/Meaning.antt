-- What buffers mean, and which are well-formed.
use Rattle.std.specs.Prelude.{slice_get, ℕ, suc, ℤ, pos, List, [], ◌∷◌, ◌++◌, map, length, Bool, if◌then◌else◌, ◌≡◌, Option, Some, None, Result, Ok, Err}
use Rattle.std.specs.List.{range_with_len}
use Rattle.us_format.specs.Lists.{then_do, cell}
use Rattle.us_format.specs.Matrix.{Entry, Shape, is_zero, put, in_shape}
use Rattle.us_format.specs.Declaration.{Part, Declaration}
use Rattle.us_format.specs.Kinds.{levels_of}
use Rattle.us_format.specs.Climb.{climb, values}
use Rattle.us_format.specs.Recover.{recovered}
use Rattle.us_format.specs.Reading.{Contents, all_contents, fits}
use Rattle.us_format.specs.Buffers.{buffers}

-- the values of a part
abbrev pub part_values : Shape → Part → Contents → List ℤ
part_values s p c = values (levels_of s c.extents p) c.cells

-- the entry whose value stands at the position x of a part: climb, recover, and test the shape
abbrev pub entry_at : Shape → Part → Contents → ℕ → Option Entry
entry_at s p c x =
    then_do (climb (levels_of s c.extents p) c.cells x) (λ up.
    then_do (recovered s p (record { coords = up.1; extents = c.extents; tables = c.tables })) (λ ij. in_shape s ij (cell (part_values s p c) x)))

-- ---- entries by their positions

-- go on with the entries, or fail at the key
abbrev pub go_on : {K : Type 0} → K → (List Entry → Result (List Entry) K) → Option (List Entry) → Result (List Entry) K
go_on key rest None = Err key
go_on key rest (Some found) = rest found

-- the entries at these keys put to those that were found. It fails at the first key at which none can be read, or whose coordinate came before
abbrev pub collect : {K : Type 0} → (K → Bool) → (K → Option Entry) → List K → List Entry → Result (List Entry) K
collect skip read [] found = Ok found
collect skip read (key ∷ keys) found =
    if skip key then collect skip read keys found else go_on key (collect skip read keys) (then_do (read key) (λ e. put e found))

-- the entries, if it didn't fail
abbrev pub entries_of : {K : Type 0} → Result (List Entry) K → Option (List Entry)
entries_of (Ok found) = Some found
entries_of (Err key) = None

-- the key at which it failed
abbrev pub failure_of : {K : Type 0} → Result (List Entry) K → Option K
failure_of (Ok found) = None
failure_of (Err key) = Some key

-- ---- one part

-- the entries of a part alone: those at the positions whose value is not 0
abbrev pub part_meaning : Shape → Part → Contents → Option (List Entry)
part_meaning s p c =
    entries_of (collect (λ x. is_zero (cell (part_values s p c) x)) (entry_at s p c) (range_with_len 0 (length (part_values s p c))) [])

-- ---- all parts

-- a position: the number of the part, counted from 0, and the position in the part
abbrev pub Position : Type 0
Position = ℕ × ℕ

-- all positions by part and then by position, the parts being numbered from k on
abbrev pub all_positions : Shape → ℕ → List (Part × Contents) → List Position
all_positions s k [] = []
all_positions s k (x ∷ xs) = map (λ y. (k, y)) (range_with_len 0 (length (part_values s x.0 x.1))) ++ all_positions s (suc k) xs

-- the value at a position of a part, 0 where there is no such part
abbrev pub value_in : Shape → Option (Part × Contents) → ℕ → ℤ
value_in s None x = pos 0
value_in s (Some part) x = cell (part_values s part.0 part.1) x

-- the entries at all positions whose value is not 0, or the first position that fails
abbrev pub collected : Shape → Declaration → List (List ℤ) → Result (List Entry) Position
collected s d bufs =
    let parts = all_contents d.parts bufs in
    collect (λ at. is_zero (value_in s (slice_get parts at.0) at.1)) (λ at. then_do (slice_get parts at.0) (λ part. entry_at s part.0 part.1 at.1)) (all_positions s 0 parts) []

-- the matrix that buffers mean. There is none where they don't fit, where a climb or a recovery fails, and where a coordinate comes twice
abbrev pub meaning : Shape → Declaration → List (List ℤ) → Option (List Entry)
meaning s d bufs = if fits s d bufs then entries_of (collected s d bufs) else None

-- the buffers mean a matrix and are exactly its buffers
abbrev pub IsWellFormed : Shape → Declaration → List (List ℤ) → Type 0
IsWellFormed s d bufs = (m : List Entry) × (meaning s d bufs ≡ Some m) × (bufs ≡ buffers s d m)
