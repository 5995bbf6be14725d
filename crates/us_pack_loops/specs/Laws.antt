-- The laws.
use Rattle.std.specs.Prelude.{◌≡◌, ℕ, ◌+◌, ◌*◌, ◌≤◌, List, map, length, Option}
use Rattle.std.specs.List.{sum_by}
use Rattle.std.specs.List.Sorted.{IsPermutation}
use Rattle.us_code.specs.declared.program.Dim.{Dim}
use Rattle.us_code.specs.Run.{State}
use Rattle.us_code_laws.specs.Does.{Does}
use Rattle.us_format.specs.Kinds.{Level}
use Rattle.us_format.specs.Matrix.{Shape, Entry, IsMatrixOf}
use Rattle.us_format.specs.Declaration.{Column, Part}
use Rattle.us_format.specs.Positions.{Row, rows_of}
use Rattle.us_format.specs.Packs as packs
use Rattle.us_format.specs.Buffers.{piece_buffers}
use Rattle.us_format.specs.Rules.{IsLawful, ArePacksLawful}
use Rattle.us_format_loops.specs.Laws.{levels_on}
use Rattle.us_gen_build.specs.Levels.{LevelTree}
use Rattle.us_gen_build.specs.Turns.{Turns, names_end}
use Rattle.us_gen_build.specs.Loops.{at_top, LoopNeeds, AllZero}
use Rattle.us_gen_build_laws.specs.Ready.{AreSorted}
use Rattle.us_build_loops.specs.Standing.{AllStand}
use Rattle.us_build_loops.specs.Laws.{TakeRows}
use Rattle.us_gen_packs.specs.Packs.{PackTree, packed_block}
use Rattle.us_gen_packs.specs.Turns.{last_at, PacksNeed, packs_cost}
use Rattle.us_gen_packs.specs.Blocks.{PacksZero, all_end}
use Rattle.us_pack_loops.specs.Names.{part_names, CoverLevels, KeepColumns}
use Rattle.us_pack_loops.specs.Standing.{count_behind, AllPacksStand}

-- ---- needs

-- the packs have what they need behind the levels
abbrev pub PackedNeedsAreMet : Type 0
PackedNeedsAreMet =
    (T : Turns) (lo hi : ℕ) (ls : List LevelTree) (ks : List Level) (n : ℕ) (rows : List Row) (at : ℕ → ℕ) (ws : List PackTree) (cs : List (List Column))
    → TakeRows T lo ls ks n rows at → CoverLevels ls ks
    → (all : List Level) (top : List Row) → AllPacksStand T hi ws cs all (count_behind ks n rows) top (last_at T ls at) → PacksNeed T hi ws (last_at T ls at)

-- ---- a part

-- from v to u the block built the part's buffers, in steps that are linear in its entries and its buffers
pub record PartsBuilt (s : Shape) (p : Part) (m : List Entry) (T : Turns) (cs : List ℕ) (ls : List LevelTree) (ws : List PackTree) (v u : State) : Type 0 where
  pub lists : map u.bufs (part_names p ls ws) ≡ map packs.written (packs.packed p (piece_buffers s p m))
  pub bufs : (b : ℕ) → (T.base ≤ b → all_end T.base ls ws ≤ b) → u.bufs b ≡ v.bufs b
  pub steps :
      u.steps ≤ v.steps + 1 + 2 * length ls + T.count * (2 + length cs) + length ls * (7 * T.count)
      + (2 * length (levels_on s p m) + 4 * sum_by (λ b. b.len) (piece_buffers s p m)) + T.count * packs_cost ws

-- whichever sorted order of the entries of a lawful part the turns take
abbrev pub PackedBlocksBuildParts : Type 0
PackedBlocksBuildParts =
    (s : Shape) (p : Part) (m : List Entry) (rows : List Row) → IsLawful p → ArePacksLawful p → IsMatrixOf s m → IsPermutation (rows_of m s p) rows
    → AreSorted (levels_on s p m) rows
    → (T : Turns) (d : Dim) (order : Option ℕ) (cols : List ℕ) (ls : List LevelTree) (ws : List PackTree) (place : ℕ → ℕ) (n : ℕ) (v : State)
    → length rows ≡ T.count → AllStand T T.base ls (levels_on s p m) 1 rows at_top → CoverLevels ls (levels_on s p m) → KeepColumns p ls
    → AllPacksStand T (names_end T.base ls) ws p.packs (levels_on s p m) (count_behind (levels_on s p m) 1 rows) rows (last_at T ls at_top)
    → LoopNeeds T d order cols ls place v → AllZero T.env ls v → PacksZero T.env ws v → all_end T.base ls ws ≤ n
    → Does T.env (packed_block d order cols ls ws T.turn n) v (PartsBuilt s p m T cols ls ws v)
