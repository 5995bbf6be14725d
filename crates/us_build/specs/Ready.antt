-- Rows that are ready to go down the levels.
use Rattle.std.specs.Prelude.{ℕ, ◌+◌, ◌<◌, List, [], ◌∷◌, All, AllPairs, Contains, ◌≡◌}
use Rattle.std.specs.List.{sum, sum_by}
use Rattle.us_format.specs.declared.Kind.{Kind}
use Rattle.us_format.specs.declared.Kind.TheVariants.{Slot}
use Rattle.us_format.specs.Buffers.{level_buffers}
use Rattle.us_format.specs.Kinds.{Level}
use Rattle.us_format.specs.Lists.{head}
use Rattle.us_format.specs.Positions.{Row, count_below, counts, down}
use Rattle.us_build.specs.Items.{IsAscending}

-- rows before a level of this kind and size, where there are n positions: they ascend, and a slot's position tells the coordinates
pub record IsReady (kind : Kind) (size n : ℕ) (rows : List Row) : Type 0 where
  pub ascending : IsAscending rows
  pub below : All (λ r. r.at < n) rows
  pub small : All (λ r. head r.rest < size) rows
  pub tells : kind ≡ Slot → (r s : Row) → Contains rows r → Contains rows s → r.at ≡ s.at → r.rest ≡ s.rest

-- rows below all levels, where there are n positions: the position tells the value
pub record IsAtEnd (n : ℕ) (rows : List Row) : Type 0 where
  pub below : All (λ r. r.at < n) rows
  pub alike : AllPairs (λ r s. r.at ≡ s.at → r.value ≡ s.value) rows

-- rows that are ready at each level on their way down
abbrev pub AreReady : List Level → ℕ → List Row → Type 0
AreReady [] n rows = IsAtEnd n rows
AreReady (l ∷ ls) n rows = IsReady l.kind l.size n rows × AreReady ls (count_below l.kind l.size n rows) (down l.kind l.size rows)

-- the lengths of the buffers of these levels and of the values, and the numbers of positions, added up
abbrev pub size_from : List Level → ℕ → List Row → ℕ
size_from ls n rows = sum_by (λ b. b.len) (level_buffers ls n rows) + sum (counts ls n rows)
