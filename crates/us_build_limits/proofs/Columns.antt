-- The phases that read extents and make columns of coordinates keep the limits.
use Rattle.std.proofs.Common.{◌≡◌, ℕ, ◌+◌, ◌*◌, ◌^◌, ◌<◌, ◌≤◌, List, [], ◌∷◌, length, ℤ, pos, negsuc, Option, Some, None, refl, lit≤, arith}
use Rattle.us_code.specs.declared.program.Make.{Make}
use Rattle.us_code.specs.declared.pieces.Columns.{Columns}
use Rattle.us_code.specs.Plain.{Code}
use Rattle.us_code.specs.Limits.{FitsTerm, FitsMakes, FitsLines}
use Rattle.us_expr.specs.Tree.{Tree, node_count}
use Rattle.us_expr.specs.Value.{IsWithin}
use Rattle.us_gen_coordinates.specs.Phase.{given, lowered, lower, made_for, filled_for, makes, body, coordinates_phase}
use Rattle.us_gen_coordinates.specs.Laws.{AreLevels}
use Rattle.us_gen_extents.specs.Extents.{load_cells, cell_dims, extents_phase}
use Rattle.us_limits.specs.Small.{Small}
use Rattle.us_limits.proofs.Blocks.{block-looser, append-small}
use Rattle.us_limits.proofs.Phases.{text-looser, phase-keep}
use Rattle.us_query_limits.proofs.Words.{register}
use Rattle.us_query_limits.proofs.Words as words
use Rattle.us_query_limits.proofs.Filling.{fill-keeps}
use Rattle.us_build_limits.specs.Texts.{FitsLow, FitLows, ExtentsKeepLimits, CoordinatesKeepLimits}

-- ---- extents

cells-keep : (bs : List ℕ) (r : ℕ) → Small (length bs) 64 (load_cells bs r)
cells-keep [] r = record { terms = tt; deep = lit≤ tt; long = omega arith }
cells-keep (b ∷ bs) r =
    let more = cells-keep bs (r + 1) in record { terms = (words.nothing, more.terms); deep = more.deep; long = omega (arith, more.long) }

cell-dims-fit : (bs : List ℕ) (r : ℕ) → FitsLines (cell_dims bs r)
cell-dims-fit [] r = tt
cell-dims-fit (b ∷ bs) r = (register, cell-dims-fit bs (r + 1))

cell-dims-long : (bs : List ℕ) (r : ℕ) → length (cell_dims bs r) ≡ length bs
cell-dims-long [] r = refl
cell-dims-long (b ∷ bs) r = omega (arith, cell-dims-long bs (r + 1))

pub extents-keep-limits : ExtentsKeepLimits
extents-keep-limits bs n =
    text-looser (omega (arith, cell-dims-long bs n)) (phase-keep {n = length bs} {p = extents_phase bs n} tt (cells-keep bs n) (cell-dims-fit bs n))

-- ---- coordinates

lowered-fits : (r : ℕ) (low : ℤ) → FitsLow low → FitsTerm (lowered r low)
lowered-fits r (pos k) h = ((tt, h), lit≤ tt, lit≤ tt)
lowered-fits r (negsuc k) h = ((tt, h), lit≤ tt, lit≤ tt)

lower-keeps : (cs : Columns) (low : ℤ) (b n : ℕ) → cs.count < 2 ^ 32 → FitsLow low → Small 3 3 (lower cs low b n)
lower-keeps cs low b n named h = record { terms = (named, (register, (register, lowered-fits (n + 1) low h, tt)), tt); deep = lit≤ tt; long = lit≤ tt }

filled-keeps : (g : Option ℕ) (cs : Columns) (e : Tree) (low : ℤ) (n k : ℕ) (rest : Code) → cs.count < 2 ^ 32 → length cs.vars.items ≤ 32 → IsWithin (length cs.vars.items) e → node_count e ≤ 32 → FitsLow low → Small k 3 rest
    → Small (39 + k) 3 (filled_for g cs e low n rest)
filled-keeps (Some c) cs e low n k rest named few within short h s = block-looser (omega arith) (lit≤ tt) s
filled-keeps None cs e low n k rest named few within short h s =
    block-looser (omega (arith, few)) (lit≤ tt)
    (append-small (fill-keeps (length cs.vars.items) cs e n (n + 1) named within short) (append-small (lower-keeps cs low n (n + 37) named h) s))

made-fits : (g : Option ℕ) (cs : Columns) (n : ℕ) (rest : List Make) → cs.count < 2 ^ 32 → FitsMakes rest → FitsMakes (made_for g cs n rest)
made-fits (Some c) cs n rest named f = f
made-fits None cs n rest named f = (named, tt, f)

made-few : (g : Option ℕ) (cs : Columns) (n : ℕ) (rest : List Make) → length (made_for g cs n rest) ≤ 1 + length rest
made-few (Some c) cs n rest = omega arith
made-few None cs n rest = omega arith

body-keeps : (cs : Columns) (es : List Tree) (lows : List ℤ) (n : ℕ) → cs.count < 2 ^ 32 → length cs.vars.items ≤ 32 → AreLevels cs es lows → FitLows lows → Small (39 * length es) 3 (body cs es lows n)
body-keeps cs [] [] n named few ok h = record { terms = tt; deep = lit≤ tt; long = omega arith }
body-keeps cs [] (low ∷ lows) n named few ok h = absurd ok
body-keeps cs (e ∷ es) [] n named few ok h = absurd ok
body-keeps cs (e ∷ es) (low ∷ lows) n named few ok h =
    let rest = body-keeps cs es lows (n + 40) named few ok.2 h.1 in
    block-looser (omega arith) (lit≤ tt) (filled-keeps (given cs e low) cs e low n (39 * length es) (body cs es lows (n + 40)) named few ok.0 ok.1 h.0 rest)

makes-fit : (cs : Columns) (es : List Tree) (lows : List ℤ) (n : ℕ) → cs.count < 2 ^ 32 → FitsMakes (makes cs es lows n)
makes-fit cs [] lows n named = tt
makes-fit cs (e ∷ es) [] n named = tt
makes-fit cs (e ∷ es) (low ∷ lows) n named = made-fits (given cs e low) cs n (makes cs es lows (n + 40)) named (makes-fit cs es lows (n + 40) named)

makes-few : (cs : Columns) (es : List Tree) (lows : List ℤ) (n : ℕ) → length (makes cs es lows n) ≤ length es
makes-few cs [] lows n = omega arith
makes-few cs (e ∷ es) [] n = omega arith
makes-few cs (e ∷ es) (low ∷ lows) n = omega (arith, made-few (given cs e low) cs n (makes cs es lows (n + 40)), makes-few cs es lows (n + 40))

pub coordinates-keep-limits : CoordinatesKeepLimits
coordinates-keep-limits cs es lows n named few ok h =
    text-looser (omega (arith, makes-few cs es lows n))
    (phase-keep {n = 39 * length es} {p = coordinates_phase cs es lows n} (makes-fit cs es lows n named) (block-looser (omega arith) (lit≤ tt) (body-keeps cs es lows n named few ok h)) tt)
