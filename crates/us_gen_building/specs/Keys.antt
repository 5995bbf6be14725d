-- By which coordinates the entries of a part are put in order.
use Rattle.std.specs.Prelude.{◌≡◌, ℕ, zero, suc, ◌<◌, Bool, true, false, ◌||◌, cond, List, [], ◌∷◌, length, Option, Some, None}
use Rattle.us_format.specs.declared.Kind.{Kind}
use Rattle.us_format.specs.declared.Kind.TheVariants.{Full, Compressed, Listed, Slot}
use Rattle.us_format.specs.Positions.{Row}
use Rattle.us_code.specs.Run.{Env}
use Rattle.us_gen_build_laws.specs.Rows.{row}
use Rattle.us_gen_building.specs.declared.part.PartLevel.{PartLevel}
use Rattle.us_gen_building.specs.Levels.{raised}
use Rattle.us_gen_building.specs.Runs.{levels_of, AreOrderly, IsOrder}

abbrev pub is_listed : Kind → Bool
is_listed Full = false
is_listed Compressed = false
is_listed Listed = true
is_listed Slot = false

abbrev pub has_listed : List PartLevel → Bool
has_listed [] = false
has_listed (l ∷ ls) = is_listed l.kind || has_listed ls

abbrev pub node_at : Kind → ℕ → ℕ
node_at Full n = raised n
node_at Compressed n = suc n
node_at Listed n = suc n
node_at Slot n = raised n

-- how many levels there are up to the last compressed or listed one
abbrev pub node_count : List PartLevel → ℕ
node_count [] = 0
node_count (l ∷ ls) = node_at l.kind (node_count ls)

abbrev pub some_keys : ℕ → Option ℕ
some_keys zero = None
some_keys (suc k) = Some (suc k)

-- all coordinates where a level is listed, else those up to the last compressed level. Without such a level there is no order
abbrev pub order_keys : List PartLevel → Option ℕ
order_keys ls = cond (has_listed ls) (Some (length ls)) (some_keys (node_count ls))

-- in any order of the rows these keys are enough
abbrev pub KeysAreEnough : Type 0
KeysAreEnough =
    (env : Env) (ls : List PartLevel) (rows : List Row) → AreOrderly ls
    → ((y : ℕ) → y < length rows → (row rows y).at ≡ 0) → IsOrder (order_keys ls) (levels_of env ls) rows
