-- What holds of the rows of items, said of the items.
use Rattle.std.proofs.Common.{ℕ, ◌+◌, ◌*◌, ◌<◌, ◌≤◌, List, map, get_or, subst, arith, All}
use Rattle.std.proofs.lemmas.List.{get_or-map, length-map}
use Rattle.std.proofs.lemmas.Nat.{mul-add-lt}
use Rattle.us_format.specs.Lists.{head}
use Rattle.us_format.specs.Positions.{Row}
use Rattle.us_build.specs.declared.items.Item.{Item}
use Rattle.us_build.specs.Items.{row_at, rows_at}
use Rattle.us_build.proofs.Stepping.{head-drop}

pub all-mapped : {A B : Type 0} (P : B → Type 0) (f : A → B) (xs : List A) → All P (map f xs) → All (λ x. P (f x)) xs
all-mapped P f xs h k d l = subst P (get_or-map f xs k d (f d) l) (h k (f d) (omega (arith, length-map xs f, l)))

-- below a full level of so many coordinates positions stay below the limit
pub all-small : (level size n most : ℕ) (xs : List Item) → All (λ r. r.at < n) (rows_at level xs) → All (λ r. head r.rest < size) (rows_at level xs) → n * size ≤ most
    → All (λ x. x.at * size + get_or x.coordinates level 0 < most) xs
all-small level size n most xs b s h k d l =
    let x : Item = get_or xs k d in
    let p : x.at < n = all-mapped (λ (r : Row). r.at < n) (row_at level) xs b k d l in
    let q : head (row_at level x).rest < size = all-mapped (λ (r : Row). head r.rest < size) (row_at level) xs s k d l in
    let c : get_or x.coordinates level 0 < size = omega (arith, q, head-drop level x.coordinates) in
    omega (arith, mul-add-lt x.at size (get_or x.coordinates level 0) n p c, h)
