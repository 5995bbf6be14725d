-- The phase that makes dims of extents.
use Rattle.std.specs.Prelude.{◌≡◌, ℕ, ◌+◌, ◌*◌, ◌<◌, ◌≤◌, true, List, [], ◌∷◌, length, Option, Some, ℤ, pos}
use Rattle.us_code.specs.declared.program.Buf.TheVariants as buf
use Rattle.us_code.specs.Plain.{Number, Reg, Code, End, Load, LineTree, Of, PhaseTree}
use Rattle.us_code.specs.Run.{Env}
use Rattle.us_code.specs.Runs.{World, phases}
use Rattle.us_code.specs.Typing.{Context, BufKind, is_some, after_phases}
use Rattle.us_format.specs.Reading.{limit}
use Rattle.us_gen.specs.Goes.{Leads}
use Rattle.us_gen_query.specs.Counting.{one_word}
use Rattle.us_gen_counting.specs.Rooms.{RoomFrom, Fit}

-- the one cell of each buffer, in registers from r on
abbrev pub load_cells : List ℕ → ℕ → Code
load_cells [] r = End
load_cells (b ∷ bs) r = Load r (buf.New b) (Number 0) (load_cells bs (r + 1))

-- a dim for each of them, with its register's number
abbrev pub cell_dims : List ℕ → ℕ → List LineTree
cell_dims [] r = []
cell_dims (b ∷ bs) r = Of r (Reg r) ∷ cell_dims bs (r + 1)

abbrev pub extents_phase : List ℕ → ℕ → PhaseTree
extents_phase bs f = record { makes = []; body = load_cells bs f; lines = cell_dims bs f }

-- ---- runs

-- the buffers have one cell each, a number within the limit
abbrev pub HoldExtents : (ℕ → List ℤ) → List ℕ → List ℕ → Type 0
HoldExtents bufs [] [] = Unit {0}
HoldExtents bufs (b ∷ bs) (x ∷ xs) = (bufs b ≡ pos x ∷ []) × (x ≤ limit) × HoldExtents bufs bs xs
HoldExtents bufs _ _ = ⊥

-- the dims from d on are these numbers
abbrev pub AreDims : Env → ℕ → List ℕ → Type 0
AreDims env d [] = Unit {0}
AreDims env d (x ∷ xs) = (env.dims d ≡ x) × AreDims env (d + 1) xs

abbrev pub ExtentsRead : Type 0
ExtentsRead =
    (bs xs : List ℕ) (f : ℕ) (w : World) → HoldExtents w.bufs bs xs
    → Leads f (2 * length bs) w (phases (extents_phase bs f ∷ []) w) (λ u. AreDims u.env f xs)

-- ---- typing

-- buffers of one word
abbrev pub SeesExtents : (ℕ → Option BufKind) → List ℕ → Type 0
SeesExtents bufs [] = Unit {0}
SeesExtents bufs (b ∷ bs) = (bufs b ≡ Some one_word) × SeesExtents bufs bs

-- the phase keeps the rules where the buffers are visible, with names from f on, and its dims are visible behind it
abbrev pub ExtentsTyped : Type 0
ExtentsTyped =
    (g : Context) (bs : List ℕ) (f : ℕ) → RoomFrom g f → SeesExtents g.bufs bs
    → Fit g (extents_phase bs f ∷ []) f (f + length bs)
    × ((j : ℕ) → j < length bs → is_some ((after_phases g (extents_phase bs f ∷ [])).dims (f + j)) ≡ true)
