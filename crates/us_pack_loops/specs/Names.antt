-- Which buffer keeps what.
use Rattle.std.specs.Prelude.{◌≡◌, ℕ, ◌+◌, not, List, [], ◌∷◌, ◌++◌, map, length, slice_index_or, IsTrue, if◌then◌else◌, false}
use Rattle.us_code.specs.declared.program.Dim.TheVariants as dim
use Rattle.us_code.specs.Plain.{Number}
use Rattle.us_format.specs.Declaration.{LevelColumn, ValueColumn, Part}
use Rattle.us_format.specs.Kinds.{Level}
use Rattle.us_format.specs.Packs.{Piece, PosOf, CellsOf, own_pieces, is_packed}
use Rattle.us_format.specs.Rules.{is_piece}
use Rattle.us_gen_build.specs.declared.levels.Role.TheVariants as role
use Rattle.us_gen_build.specs.Levels.{LevelTree}
use Rattle.us_gen_build.specs.Turns.{writes_crd}
use Rattle.us_gen_packs.specs.Packs.{PackTree}

-- the level of the loop with number k
abbrev pub no_level : LevelTree
no_level = record { role = role.Full; is_top = false; first = 0; size = Number 0; coord = Number 0; pos_length = dim.Number 0; crd_length = dim.Number 0 }

abbrev pub level_at : List LevelTree → ℕ → LevelTree
level_at ls k = slice_index_or ls k no_level

-- the buffer of a piece, where the values come behind n levels
abbrev pub name_in : List LevelTree → ℕ → Piece → ℕ
name_in ls n (PosOf k) = (level_at ls k).first
name_in ls n (CellsOf (LevelColumn k)) = (level_at ls k).first + 1
name_in ls n (CellsOf ValueColumn) = (level_at ls n).first + 1

-- the buffers of a part in order: those of the pieces that keep one of their own, and the packs
abbrev pub part_names : Part → List LevelTree → List PackTree → List ℕ
part_names p ls ws = map (name_in ls (length p.levels)) (own_pieces p) ++ map (λ w. w.first) ws

-- there is a level of the loop for each of the format, which fills its buffers or leaves its coordinates to a pack, and one more for the values or none
abbrev pub CoverLevels : List LevelTree → List Level → Type 0
CoverLevels (l ∷ ls) (k ∷ ks) = (l.role ≡ role.Counted → ⊥) × CoverLevels ls ks
CoverLevels (l ∷ []) [] = Unit {0}
CoverLevels [] [] = Unit {0}
CoverLevels _ _ = ⊥

-- a level writes its coordinates where they are in no pack, and so do the values
pub record KeepColumns (p : Part) (ls : List LevelTree) : Type 0 where
  pub coordinates : (k : ℕ) → IsTrue (is_piece p (LevelColumn k)) → writes_crd (level_at ls k).role ≡ not (is_packed p (CellsOf (LevelColumn k)))
  pub values : length ls ≡ (if is_packed p (CellsOf ValueColumn) then length p.levels else length p.levels + 1)
