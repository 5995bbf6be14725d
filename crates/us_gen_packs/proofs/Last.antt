-- The position behind the levels, when they have taken an entry.
use Rattle.std.proofs.Common.{◌≡◌, ℕ, suc, ◌+◌, ◌<◌, ◌≤◌, refl, ◌∙◌, arith, List, [], ◌∷◌, pos}
use Rattle.us_code.specs.Plain.{TermTree}
use Rattle.us_code.specs.Run.{State, value}
use Rattle.us_running.specs.Running.{seen}
use Rattle.us_running.proofs.Running.{ever}
use Rattle.us_gen_build.specs.declared.levels.Role.{Role}
use Rattle.us_gen_build.specs.declared.levels.Role.TheVariants.{Full, Shared, Single, AtPosition, AtRank, Counted, Marked, Kept}
use Rattle.us_gen_build.specs.Levels.{LevelTree, below_of}
use Rattle.us_gen_build.specs.Turns.{Turns, Needs, Holds, Reads, LevelAfter, LevelsAfter, AllNeed, inside, position_of, names_end, keys}
use Rattle.us_gen_build.proofs.Terms.{reads_more, under_value, under_reads}
use Rattle.us_gen_build.proofs.LevelsRun.{held_size, held_coord, less_pos}
use Rattle.us_gen_packs.specs.Packs.{last_of}
use Rattle.us_gen_packs.specs.Turns.{last_at}

module _ (T : Turns) where
  level_value : (r : Role) (l : LevelTree) (at : ℕ → ℕ) (q : TermTree) (x : ℕ) (u : State) → x < T.count → Needs T r l at → Holds T x u → value T.env u.regs q ≡ pos (at x) → LevelAfter T r l at (suc x) u
      → value T.env u.regs (below_of r l q T.turn) ≡ pos (position_of r (T.wide l) at (T.coord l) x)
  level_value Full l at q x u lt v h eq i =
      under_value T.env u.regs q l.size l.coord (at x) (T.wide l) (T.coord l x) eq (held_size T Full l at x u refl lt v h) (held_coord T Full l at x u refl lt v h) (v.small x lt refl)
  level_value Shared l at q x u lt v h eq i = i.node ∙ less_pos (seen (keys T l at) (suc x)) (seen (keys T l at) (suc x)) refl (ever (keys T l at) x)
  level_value Single l at q x u lt v h eq i = h.turn
  level_value AtPosition l at q x u lt v h eq i = eq
  level_value AtRank l at q x u lt v h eq i = eq
  level_value Counted l at q x u lt v h eq i = i.node ∙ less_pos (seen (keys T l at) (suc x)) (seen (keys T l at) (suc x)) refl (ever (keys T l at) x)
  level_value Marked l at q x u lt v h eq i = h.turn
  level_value Kept l at q x u lt v h eq i = eq

  -- its value
  pub last_value : (ls : List LevelTree) (lo : ℕ) (at : ℕ → ℕ) (q : TermTree) (x : ℕ) (u : State) → x < T.count → AllNeed T lo ls at → Holds T x u → value T.env u.regs q ≡ pos (at x) → LevelsAfter T ls at (suc x) u
      → value T.env u.regs (last_of ls q T.turn) ≡ pos (last_at T ls at x)
  last_value [] lo at q x u lt w h eq i = eq
  last_value (l ∷ ls) lo at q x u lt w h eq i =
      last_value ls (l.first + 4) (inside T l at) (below_of l.role l q T.turn) x u lt w.2 h (level_value l.role l at q x u lt w.1 h eq i.0) i.1

  level_reads : (r : Role) (l : LevelTree) (at : ℕ → ℕ) (q : TermTree) (lo : ℕ) → lo ≤ l.first → T.turn < T.base → Needs T r l at → Reads lo q → Reads (l.first + 4) (below_of r l q T.turn)
  level_reads Full l at q lo le lt v rq =
      under_reads (l.first + 4) q l.size l.coord (reads_more lo (l.first + 4) (omega (arith, le)) q rq) (reads_more T.base (l.first + 4) (omega (arith, v.room)) l.size v.reads_size) (reads_more T.base (l.first + 4) (omega (arith, v.room)) l.coord v.reads_coord)
  level_reads Shared l at q lo le lt v rq = omega arith
  level_reads Single l at q lo le lt v rq = omega (arith, lt, v.room)
  level_reads AtPosition l at q lo le lt v rq = reads_more lo (l.first + 4) (omega (arith, le)) q rq
  level_reads AtRank l at q lo le lt v rq = reads_more lo (l.first + 4) (omega (arith, le)) q rq
  level_reads Counted l at q lo le lt v rq = omega arith
  level_reads Marked l at q lo le lt v rq = omega (arith, lt, v.room)
  level_reads Kept l at q lo le lt v rq = reads_more lo (l.first + 4) (omega (arith, le)) q rq

  -- the registers that it reads
  pub last_reads : (ls : List LevelTree) (lo : ℕ) (at : ℕ → ℕ) (q : TermTree) → T.turn < T.base → AllNeed T lo ls at → Reads lo q → Reads (names_end lo ls) (last_of ls q T.turn)
  last_reads [] lo at q lt w rq = rq
  last_reads (l ∷ ls) lo at q lt w rq = last_reads ls (l.first + 4) (inside T l at) (below_of l.role l q T.turn) lt w.2 (level_reads l.role l at q lo w.0 lt w.1 rq)
