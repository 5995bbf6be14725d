-- What stands in registers and buffers after all entries.
use Rattle.std.specs.Prelude.{◌≡◌, ℕ, ◌+◌, List, [], ◌∷◌, ℤ}
use Rattle.us_code.specs.Run.{State}
use Rattle.us_format.specs.Kinds.{Level}
use Rattle.us_format.specs.Positions.{Row, count_below, down}
use Rattle.us_running.specs.Running.{less_one}
use Rattle.us_gen_build.specs.declared.levels.Role.{Role}
use Rattle.us_gen_build.specs.declared.levels.Role.TheVariants as role
use Rattle.us_gen_build.specs.Levels.{LevelTree}
use Rattle.us_gen_build_laws.specs.Built.{Lists}

-- whether a level fills its own buffers: none that only counts its nodes, and none whose coordinates are in a pack
abbrev pub Fills : Role → Type 0
Fills role.Counted = ⊥
Fills role.Marked = ⊥
Fills role.Kept = ⊥
Fills _ = Unit {0}

-- each level fills its buffers, and one behind them the values
abbrev pub FillBuffers : List LevelTree → List Level → Type 0
FillBuffers (l ∷ ls) (k ∷ ks) = Fills l.role × FillBuffers ls ks
FillBuffers (l ∷ []) [] = Unit {0}
FillBuffers _ _ = ⊥

-- the lists in the buffers of a level
abbrev pub lists_in : State → LevelTree → Lists
lists_in u l = record { starts = u.bufs l.first; coordinates = u.bufs (l.first + 1) }

abbrev pub all_lists_in : State → List LevelTree → List Level → List Lists
all_lists_in u (l ∷ ls) (k ∷ ks) = lists_in u l ∷ all_lists_in u ls ks
all_lists_in u _ _ = []

-- the list of the level behind all levels of the format
abbrev pub values_in : State → List LevelTree → List Level → List ℤ
values_in u (l ∷ ls) (k ∷ ks) = values_in u ls ks
values_in u (l ∷ _) [] = u.bufs (l.first + 1)
values_in u [] _ = []

-- the register of a level that only counts nodes holds one less than the number of its positions
abbrev pub AllCounted : List LevelTree → List Level → ℕ → List Row → State → Type 0
AllCounted (l ∷ ls) (k ∷ ks) n rows u =
    (l.role ≡ role.Counted → u.regs (l.first + 1) ≡ less_one (count_below k.kind k.size n rows))
    × AllCounted ls ks (count_below k.kind k.size n rows) (down k.kind k.size rows) u
AllCounted _ _ n rows u = Unit {0}
