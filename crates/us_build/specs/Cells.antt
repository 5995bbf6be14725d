-- The cells of one level, by the items one level down.
use Rattle.std.specs.Prelude.{ℕ, ℤ, List, [], ◌∷◌, length, take, All, nat_le, if◌then◌else◌, ◌≡◌}
use Rattle.us_format.specs.declared.Kind.{Kind}
use Rattle.us_format.specs.Positions.{place}
use Rattle.us_build.specs.declared.items.Item.{Item}
use Rattle.us_build.specs.Items.{row_above, rows_above}
use Rattle.us_build.specs.Ready.{IsReady}

-- the position of the first item whose position above is x or higher, or the number of positions
abbrev pub first_position : ℕ → ℕ → List Item → ℕ
first_position count x [] = count
first_position count x (r ∷ rs) = if nat_le x r.above then r.at else first_position count x rs

-- items one level below rows that were ready, each at its place
pub record IsBelow (kind : Kind) (size n level : ℕ) (items : List Item) : Type 0 where
  pub ready : IsReady kind size n (rows_above level items)
  pub placed : All (λ x. x.at ≡ place kind size (rows_above level items) (row_above level x)) items

-- the lists that were there before are there now, in front
abbrev pub BeginsWith : List (List ℤ) → List (List ℤ) → Type 0
BeginsWith now before = take (length before) now ≡ before
