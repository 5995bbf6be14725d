-- The columns hold the entries of all parts, part by part and by position.
use Rattle.std.specs.Prelude.{◌≡◌, ◌≢◌, ℕ, ◌+◌, ◌≤◌, List, [], ◌∷◌, map, length, ℤ, pos, Contains}
use Rattle.us_code.specs.declared.pieces.Columns.{Columns}
use Rattle.us_code.specs.Run.{Env}
use Rattle.us_code.specs.Runs.{World, phases}
use Rattle.us_expr.specs.Tree.{Tree}
use Rattle.us_format.specs.Lists.{cell}
use Rattle.us_format.specs.Matrix.{Shape, Entry, IsMatrixOf}
use Rattle.us_format.specs.Declaration.{Part}
use Rattle.us_format.specs.Reading.{limit}
use Rattle.us_format.specs.Rules.{IsLawful}
use Rattle.us_format_loops.specs.Laws.{values_on}
use Rattle.us_gen.specs.Goes.{Leads}
use Rattle.us_gen_walk.specs.Runs.{HasPlaces, Recovers, rank_of, walk_cost}
use Rattle.us_gen_unpack.specs.declared.listing.PartWalk.{PartWalk}
use Rattle.us_gen_unpack.specs.Listing.{listing_phase}

-- a part whose entries are listed: its loops, the part, its entries, and the expressions of its steps
pub record Listed : Type 0 where
  pub loops : PartWalk
  pub part : Part
  pub entries : List Entry
  pub exprs : List Tree

-- a lawful part whose buffers are in their places, and whose steps recover its entries
pub record IsListable (env : Env) (s : Shape) (x : Listed) : Type 0 where
  pub lawful : IsLawful x.part
  pub matrix : IsMatrixOf s x.entries
  pub places : HasPlaces env x.loops.places s x.part x.entries
  pub recovers : (n : ℕ) → Recovers x.loops.places s x.part x.entries x.exprs x.loops.steps.items x.loops.row x.loops.col n

abbrev pub AreListable : Env → Shape → List Listed → Type 0
AreListable env s [] = Unit {0}
AreListable env s (x ∷ xs) = IsListable env s x × AreListable env s xs

-- how many entries all parts have
abbrev pub total : List Listed → ℕ
total [] = 0
total (x ∷ xs) = length x.entries + total xs

-- each entry of a part stands in the columns at its rank, from a place on
pub record Stands (s : Shape) (x : Listed) (at : ℕ) (is js vs : List ℤ) : Type 0 where
  pub row : (y : Entry) → Contains x.entries y → cell is (at + rank_of s x.part x.entries y) ≡ pos y.i
  pub col : (y : Entry) → Contains x.entries y → cell js (at + rank_of s x.part x.entries y) ≡ pos y.j
  pub value : (y : Entry) → Contains x.entries y → cell vs (at + rank_of s x.part x.entries y) ≡ y.v

-- the parts stand one behind the other
abbrev pub AllStand : Shape → List Listed → ℕ → List ℤ → List ℤ → List ℤ → Type 0
AllStand s [] at is js vs = Unit {0}
AllStand s (x ∷ xs) at is js vs = Stands s x at is js vs × AllStand s xs (at + length x.entries) is js vs

-- columns of all entries and no other cells
pub record HoldParts (s : Shape) (xs : List Listed) (is js vs : List ℤ) : Type 0 where
  pub rows : length is ≡ total xs
  pub cols : length js ≡ total xs
  pub values : length vs ≡ total xs
  pub stand : AllStand s xs 0 is js vs

-- the steps of all loops: an append takes five
abbrev pub list_cost : Env → Shape → List Listed → ℕ
list_cost env s [] = 0
list_cost env s (x ∷ xs) = walk_cost env x.loops.places x.loops.steps.items 5 (length (values_on s x.part x.entries)) (length x.entries) + list_cost env s xs

-- three columns
pub record AreApart (c : Columns) : Type 0 where
  pub i_j : c.i ≢ c.j
  pub i_v : c.i ≢ c.v
  pub j_v : c.j ≢ c.v

-- where the dim is the number of entries, the phase comes to its end, fills the columns and keeps what has a number below low
abbrev pub ListingLists : Type 0
ListingLists =
    (w : World) (s : Shape) (xs : List Listed) (c : Columns) (k low : ℕ) → AreListable w.env s xs → AreApart c → low ≤ c.i → low ≤ c.j → low ≤ c.v
    → w.env.dims c.count ≡ total xs → total xs ≤ limit
    → Leads low (4 + list_cost w.env s xs) w (phases (listing_phase c k (map (λ x. x.loops) xs) ∷ []) w) (λ u. HoldParts s xs (u.bufs c.i) (u.bufs c.j) (u.bufs c.v))
