-- The laws.
use Rattle.std.specs.Prelude.{◌≡◌, ℕ, ◌+◌, ◌*◌, ◌≤◌, List, map, length, Option}
use Rattle.std.specs.List.{sum_by}
use Rattle.std.specs.List.Sorted.{IsPermutation}
use Rattle.us_code.specs.declared.program.Dim.{Dim}
use Rattle.us_code.specs.Run.{State}
use Rattle.us_code_laws.specs.Does.{Does}
use Rattle.us_format.specs.Kinds.{Level}
use Rattle.us_format.specs.Matrix.{Shape, Entry, IsMatrixOf}
use Rattle.us_format.specs.Declaration.{Part}
use Rattle.us_format.specs.Positions.{Row, rows_of}
use Rattle.us_format.specs.Packs as packs
use Rattle.us_format.specs.Buffers.{level_buffers, piece_buffers}
use Rattle.us_format.specs.Rules.{IsLawful}
use Rattle.us_format_loops.specs.Laws.{levels_on}
use Rattle.us_gen_build.specs.Levels.{LevelTree}
use Rattle.us_gen_build.specs.Turns.{Turns, AllNeed, names_end, costs}
use Rattle.us_gen_build.specs.Loops.{at_top, LoopNeeds, AllZero}
use Rattle.us_gen_build.specs.Blocks.{AllBuilt, AllClose, build_block, close_costs}
use Rattle.us_gen_build_laws.specs.Ready.{AreReady, AreSorted}
use Rattle.us_gen_build_laws.specs.Numbering.{AreAt}
use Rattle.us_gen_build_laws.specs.Built.{all_lists}
use Rattle.us_build_loops.specs.Standing.{AllStand}
use Rattle.us_build_loops.specs.Finished.{FillBuffers, AllCounted, all_lists_in, values_in}

-- the turns take rows that are ready, and the levels of the loop stand for those of the format
pub record TakeRows (T : Turns) (lo : ℕ) (ls : List LevelTree) (ks : List Level) (n : ℕ) (rows : List Row) (at : ℕ → ℕ) : Type 0 where
  pub entries : length rows ≡ T.count
  pub ready : AreReady ks n rows
  pub positions : AreAt rows at
  pub stand : AllStand T lo ls ks n rows at

-- ---- needs

-- then the loop has what it needs of its entries, and so has the end of each `pos`
abbrev pub NeedsAreMet : Type 0
NeedsAreMet =
    (T : Turns) (lo : ℕ) (ls : List LevelTree) (ks : List Level) (n : ℕ) (rows : List Row) (at : ℕ → ℕ) → TakeRows T lo ls ks n rows at
    → AllNeed T lo ls at × AllClose T ls at

-- ---- counts and buffers

-- the counting registers tell the numbers of positions
abbrev pub PositionsAreCounted : Type 0
PositionsAreCounted =
    (T : Turns) (lo : ℕ) (ls : List LevelTree) (ks : List Level) (n : ℕ) (rows : List Row) (at : ℕ → ℕ) (u : State)
    → TakeRows T lo ls ks n rows at → AllBuilt T ls at u → AllCounted ls ks n rows u

-- the lists are the buffers of the levels and the values
abbrev pub BuffersAreRight : Type 0
BuffersAreRight =
    (T : Turns) (lo : ℕ) (ls : List LevelTree) (ks : List Level) (n : ℕ) (rows : List Row) (at : ℕ → ℕ) (u : State)
    → TakeRows T lo ls ks n rows at → FillBuffers ls ks → AllBuilt T ls at u
    → all_lists ks (all_lists_in u ls ks) (values_in u ls ks) ≡ map packs.written (level_buffers ks n rows)

-- ---- costs

-- the loop costs at most seven steps a level and entry, and the ends of all `pos` two a level and four a cell
pub record CostsAreLinear : Type 0 where
  pub loop : (T : Turns) (ls : List LevelTree) (at : ℕ → ℕ) (x : ℕ) → costs T ls at x ≤ length ls * (7 * x)
  pub ends :
      (T : Turns) (lo : ℕ) (ls : List LevelTree) (ks : List Level) (n : ℕ) (rows : List Row) (at : ℕ → ℕ) → TakeRows T lo ls ks n rows at
      → close_costs T ls ≤ 2 * length ks + 4 * sum_by (λ b. b.len) (level_buffers ks n rows)

-- ---- a part

-- from v to u the block built the part's buffers before packing, in steps that are linear in its entries and its buffers
pub record PiecesBuilt (s : Shape) (p : Part) (m : List Entry) (T : Turns) (cols : List ℕ) (ls : List LevelTree) (v u : State) : Type 0 where
  pub lists : all_lists (levels_on s p m) (all_lists_in u ls (levels_on s p m)) (values_in u ls (levels_on s p m)) ≡ map packs.written (piece_buffers s p m)
  pub bufs : (b : ℕ) → (T.base ≤ b → names_end T.base ls ≤ b) → u.bufs b ≡ v.bufs b
  pub steps :
      u.steps ≤ v.steps + 1 + 2 * length ls + T.count * (2 + length cols) + length ls * (7 * T.count)
      + (2 * length (levels_on s p m) + 4 * sum_by (λ b. b.len) (piece_buffers s p m))

-- whichever sorted order of the entries of a lawful part the turns take
abbrev pub BlocksBuildPieces : Type 0
BlocksBuildPieces =
    (s : Shape) (p : Part) (m : List Entry) (rows : List Row) → IsLawful p → IsMatrixOf s m → IsPermutation (rows_of m s p) rows
    → AreSorted (levels_on s p m) rows
    → (T : Turns) (d : Dim) (order : Option ℕ) (cols : List ℕ) (ls : List LevelTree) (place : ℕ → ℕ) (n : ℕ) (v : State)
    → length rows ≡ T.count → AllStand T T.base ls (levels_on s p m) 1 rows at_top → FillBuffers ls (levels_on s p m)
    → LoopNeeds T d order cols ls place v → AllZero T.env ls v → names_end T.base ls ≤ n
    → Does T.env (build_block d order cols ls T.turn n) v (PiecesBuilt s p m T cols ls v)
