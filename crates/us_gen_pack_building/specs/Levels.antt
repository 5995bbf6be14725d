-- How the loop takes the levels of a part with packs, and its packs.
use Rattle.std.specs.Prelude.{ℕ, zero, suc, ◌+◌, ◌-◌, ◌<◌, ◌≤◌, Bool, true, false, ◌&&◌, ◌||◌, nat_lt, nat_le, List, [], ◌∷◌, map}
use Rattle.us_format.specs.declared.Kind.{Kind}
use Rattle.us_format.specs.declared.Kind.TheVariants.{Full, Compressed, Listed, Slot}
use Rattle.us_code.specs.Plain.{TermTree, Reg, LineTree}
use Rattle.us_gen_build.specs.declared.levels.Role.{Role}
use Rattle.us_gen_build.specs.declared.levels.Role.TheVariants as role
use Rattle.us_gen_build.specs.Levels.{LevelTree}
use Rattle.us_gen_packs.specs.Packs.{PackTree}
use Rattle.us_gen_packs.specs.Making as making
use Rattle.us_gen_building.specs.declared.part.PartLevel.{PartLevel}
use Rattle.us_gen_building.specs.declared.part.Descent.{Descent}
use Rattle.us_gen_building.specs.Levels.{are_last, deeper, built_level, built_values}
use Rattle.us_gen_pack_building.specs.declared.part.PackRun.{PackRun}

-- ---- columns in packs

abbrev pub has : PackRun → ℕ → Bool
has r k = nat_le r.first k && nat_lt k r.end

abbrev pub is_packed : List PackRun → ℕ → Bool
is_packed [] k = false
is_packed (r ∷ rs) k = has r k || is_packed rs k

-- each pack has columns, all numbered below n
abbrev pub FitRuns : ℕ → List PackRun → Type 0
FitRuns n [] = Unit {0}
FitRuns n (r ∷ rs) = (r.first < r.end) × (r.end ≤ n) × FitRuns n rs

-- ---- levels

-- a level leaves its coordinates out where they are in a pack
abbrev pub packed_role : Bool → Kind → Bool → Role → Role
packed_role false k last r = r
packed_role true Full last r = r
packed_role true Compressed true r = role.Marked
packed_role true Compressed false r = r
packed_role true Listed last r = role.Marked
packed_role true Slot last r = role.Kept

abbrev pub in_role : Role → LevelTree → LevelTree
in_role r l = record { role = r; is_top = l.is_top; first = l.first; size = l.size; coord = l.coord; pos_length = l.pos_length; crd_length = l.crd_length }

abbrev pub packed_level : ℕ → Bool → PartLevel → Bool → Descent → LevelTree
packed_level count packed l last x = in_role (packed_role packed l.kind last (built_level count l last x).role) (built_level count l last x)

-- the values, unless they are in a pack
abbrev pub value_levels : Bool → Descent → List LevelTree
value_levels true x = []
value_levels false x = built_values x ∷ []

-- the levels, numbered from k on, and the values behind them unless they are in a pack
abbrev pub packed_levels : ℕ → List PackRun → ℕ → List PartLevel → Descent → List LevelTree
packed_levels count rs k [] x = value_levels (is_packed rs k) x
packed_levels count rs k (l ∷ ls) x =
    packed_level count (is_packed rs k) l (are_last ls) x ∷ packed_levels count rs (k + 1) ls (deeper count l (are_last ls) x)

-- below all levels
abbrev pub bottom : ℕ → List PartLevel → Descent → Descent
bottom count [] x = x
bottom count (l ∷ ls) x = bottom count ls (deeper count l (are_last ls) x)

-- ---- packs

-- n registers from r on
abbrev pub column_terms : ℕ → ℕ → List TermTree
column_terms r zero = []
column_terms r (suc n) = Reg r ∷ column_terms (r + 1) n

-- a pack, where the columns stand in registers from number `register` on; its buffer, its register and its dim have one number
abbrev pub writer : PackRun → ℕ → ℕ → Descent → PackTree
writer r name register x = record {
  first = name;
  cells = name;
  length = x.above;
  at_rank = x.is_rank;
  columns = column_terms (register + r.first) (r.end - r.first);
}

abbrev pub writers : List PackRun → ℕ → ℕ → Descent → List PackTree
writers [] name register x = []
writers (r ∷ rs) name register x = writer r name register x ∷ writers rs (name + 1) register x

-- the dims of the packs' cells
abbrev pub pack_lines : List PackTree → List LineTree
pack_lines [] = []
pack_lines (w ∷ ws) = making.pack_line w ∷ pack_lines ws

abbrev pub pack_buffers : List PackTree → List ℕ
pack_buffers ws = map (λ w. w.first) ws
