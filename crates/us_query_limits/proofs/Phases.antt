-- The phases of queries keep the limits, and those that select.
use Rattle.std.proofs.Common.{ℕ, ◌+◌, ◌^◌, ◌<◌, ◌≤◌, Bool, true, false, cond, List, [], ◌∷◌, length, lit<, lit≤, arith}
use Rattle.std.proofs.lemmas.List.Elements.{All-head, All-tail}
use Rattle.us_code.specs.declared.program.Dim.TheVariants as dim
use Rattle.us_code.specs.declared.program.Make.{Make}
use Rattle.us_code.specs.declared.pieces.Columns.{Columns}
use Rattle.us_code.specs.Plain.{Code, ◌+++◌, PhaseTree}
use Rattle.us_code.specs.Limits.{FitsDim, FitsMakes}
use Rattle.us_expr.specs.declared.queries.Axis.{Axis}
use Rattle.us_expr.specs.declared.queries.Axis.TheVariants.{Rows, Cols}
use Rattle.us_expr.specs.Tree.{Tree, node_count}
use Rattle.us_expr.specs.Value.{IsWithin}
use Rattle.us_format.specs.Matrix.{Shape, indices}
use Rattle.us_format.specs.Declaration.{Query, SumOf, Enumerate, Reorder, Schedule, axis_of}
use Rattle.us_format.specs.Rules.{is_index}
use Rattle.us_gen_query.specs.Filling.{fill}
use Rattle.us_gen_counting.specs.Phases.{words, key, key_makes, key_fill, index_column, schedule_buffers, reorder_phase, schedule_phases, query_phases, column_of}
use Rattle.us_gen_counting.specs.Selected.{base}
use Rattle.us_gen_counting.specs.Rooms.{IsCountable}
use Rattle.us_limits.specs.Small.{Small, KeepText}
use Rattle.us_limits.proofs.Blocks.{block-looser, append-small}
use Rattle.us_limits.proofs.Phases.{text-looser, phase-keep, more-keep, none-keep, append-keep}
use Rattle.us_query_limits.specs.Texts.{HasShortNumbers, CountsKeepLimits, SelectsKeepLimits}
use Rattle.us_query_limits.proofs.Words.{register}
use Rattle.us_query_limits.proofs.Counting.{sum-keeps, enumerate-keeps}
use Rattle.us_query_limits.proofs.Filling.{fill-keeps}
use Rattle.us_query_limits.proofs.Spreading.{reorder-keeps, schedule-keeps, rows-keep}
use Rattle.us_query_limits.proofs.Selecting.{selection-keeps}

-- a count over the values of an argument, which are written first where it is no index alone
key-keeps : (s : Shape) (cs : Columns) (e : Tree) (n : ℕ) (more : List Make) (rest : Code) → HasShortNumbers s cs → IsWithin 32 e → node_count e ≤ 32 → FitsMakes more → length more ≤ 3 → Small 17 3 rest → KeepText 64 (record { makes = key_makes cs e n more; body = key_fill cs e n rest; lines = [] } ∷ [])
key-keeps s cs e n more rest x within small makes few r = either (is_index e)
  where
    either : (b : Bool) → KeepText 64 (record { makes = cond b more (words n cs ∷ more); body = cond b rest (fill cs e n (n + 8) +++ rest); lines = [] } ∷ [])
    either true =
        let p : PhaseTree = record { makes = more; body = rest; lines = [] } in
        text-looser (omega (arith, few)) (phase-keep {n = 17} {p = p} makes (block-looser (lit≤ tt) (lit≤ tt) r) tt)
    either false =
        let p : PhaseTree = record { makes = words n cs ∷ more; body = fill cs e n (n + 8) +++ rest; lines = [] } in
        let filled : Small 53 64 (fill cs e n (n + 8) +++ rest) = block-looser (omega (arith, x.variables)) (lit≤ tt) (append-small (fill-keeps 32 cs e n (n + 8) x.count within small) r) in
        text-looser (omega (arith, few)) (phase-keep {n = 53} {p = p} (x.count, tt, makes) filled tt)

-- how many rows or columns there are fits
indices-fit : (s : Shape) (cs : Columns) (axis : Axis) → HasShortNumbers s cs → FitsDim (dim.Number (indices axis s))
indices-fit s cs Rows x = omega (arith, x.rows)
indices-fit s cs Cols x = omega (arith, x.cols)

reorder-phase-keeps : (s : Shape) (cs : Columns) (axis : Axis) (n : ℕ) → HasShortNumbers s cs → KeepText 64 (reorder_phase s cs axis n ∷ [])
reorder-phase-keeps s cs axis n x =
    let sized = indices-fit s cs axis x in
    let body = reorder-keeps cs (index_column cs axis) (dim.Number (indices axis s)) n (n + 11) (n + 1) (n + 2) (n + 16) x.count sized in
    text-looser (lit≤ tt)
    (phase-keep {n = 14} {p = reorder_phase s cs axis n} (sized, tt, (sized, sized, (x.count, tt, (sized, sized, tt)))) (block-looser (lit≤ tt) (lit≤ tt) body) tt)

schedule-phases-keep : (s : Shape) (cs : Columns) (axis : Axis) (lanes n : ℕ) → HasShortNumbers s cs → lanes ≤ 64 → n + 64 < 2 ^ 32 → KeepText 64 (schedule_phases s cs axis lanes n)
schedule-phases-keep s cs axis lanes n x narrow room =
    let sized = indices-fit s cs axis x in
    let few : FitsDim (dim.Number lanes) = omega (arith, narrow) in
    let slots : n + 9 < 2 ^ 32 = omega (arith, room) in
    let cells : n + 10 < 2 ^ 32 = omega (arith, room) in
    let first = schedule-keeps cs (index_column cs axis) (dim.Number (indices axis s)) lanes (schedule_buffers n) (n + 16) (n + 44) x.count sized few in
    let second = rows-keep (dim.Number (indices axis s)) (schedule_buffers n) (dim.Name (n + 10)) (n + 9) (n + 11) (n + 40) sized cells slots in
    text-looser (lit≤ tt)
    (more-keep {m = 32}
    (sized, tt, (sized, few, (x.count, tt, (lit< tt, tt, (x.count, tt, (sized, tt, (few, tt, (few, tt, tt))))))))
    (block-looser (lit≤ tt) (lit≤ tt) first) (register, ((few, slots), tt))
    (phase-keep {n = 5} (cells, tt, tt) (block-looser (lit≤ tt) (lit≤ tt) second) tt))

pub query-keeps : (s : Shape) (cs : Columns) (q : Query) (n : ℕ) → HasShortNumbers s cs → IsCountable q → n + 64 < 2 ^ 32 → KeepText 64 (query_phases s cs q n)
query-keeps s cs (SumOf v e) n x q room =
    key-keeps s cs e n _ _ x q.within q.small (x.count, x.count, (x.count, tt, (x.count, tt, tt))) (lit≤ tt) (sum-keeps cs (key cs e n) (n + 1) (n + 2) (n + 3) (n + 44) x.count)
query-keeps s cs (Enumerate v e) n x q room =
    key-keeps s cs e n _ _ x q.within q.small (x.count, x.count, (x.count, tt, (lit< tt, tt, tt))) (lit≤ tt) (enumerate-keeps cs (key cs e n) (n + 1) (n + 2) (n + 3) (n + 44) x.count)
query-keeps s cs (Reorder v e) n x q room = reorder-phase-keeps s cs (axis_of e) n x
query-keeps s cs (Schedule l u e lanes) n x q room = schedule-phases-keep s cs (axis_of e) lanes n x q.narrow room

pub counts-keep-limits : CountsKeepLimits
counts-keep-limits s cs [] n x ok room = text-looser (omega arith) none-keep
counts-keep-limits s cs (q ∷ qs) n x ok room =
    let first = query-keeps s cs q n x (All-head IsCountable q qs ok) (omega (arith, room)) in
    let rest = counts-keep-limits s cs qs (n + 64) x (All-tail IsCountable q qs ok) (omega (arith, room)) in
    text-looser (omega arith) (append-keep first rest)

pub selects-keep-limits : SelectsKeepLimits
selects-keep-limits s cs to head conds k n x made ok few low room =
    append-keep (counts-keep-limits s cs head n x ok room) (selection-keeps cs to (λ v. column_of head v n cs.i) conds k (base head n) x.count made low few)
