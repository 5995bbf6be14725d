-- Sets merged with entries.
use Rattle.std.specs.Prelude.{◌≡◌, ℕ, ◌+◌, ◌≤◌, List, [], ◌∷◌, ◌++◌, length, drop}
use Rattle.us_matrix.specs.declared.matrix.Triple.{Triple}
use Rattle.us_matrix.specs.Map.{place}
use Rattle.us_changes.specs.Edits.{old_values}
use Rattle.us_changes.specs.Keeping.{put_all}

-- all stand at this place or behind it
abbrev pub AreFrom : ℕ → List Triple → Type 0
AreFrom low [] = Unit {0}
AreFrom low (t ∷ ts) = (low ≤ place t) × AreFrom low ts

-- the first n entries and a set at their end are merged into what is written, whatever sets stand behind it
pub record IsMerged (rest : List Triple) (c : Triple) (old_entries new_entries old_back new_back : List Triple) (n : ℕ) : Type 0 where
  pub within : n ≤ length rest
  pub entries : (cs : List Triple) → AreFrom (place c + 1) cs → new_entries ++ put_all cs (drop n rest) ≡ old_entries ++ put_all (c ∷ cs) rest
  pub back : (cs : List Triple) → AreFrom (place c + 1) cs
      → new_back ++ old_values (drop n rest) (put_all cs (drop n rest)) ≡ old_back ++ old_values rest (put_all (c ∷ cs) rest)
  pub few : length new_back ≤ length old_back + 1
