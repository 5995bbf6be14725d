-- The phases that list the entries of a format's buffers in columns.
use Rattle.std.specs.Prelude.{◌≡◌, ℕ, ◌+◌, ◌*◌, ◌^◌, ◌<◌, ◌≤◌, List, [], ◌∷◌, ◌++◌, map, length, ℤ, pos, None, Contains}
use Rattle.std.specs.List.{sum_by}
use Rattle.us_format.specs.Lists.{nth, cell}
use Rattle.us_format.specs.Matrix.{Shape, Entry, IsMatrixOf}
use Rattle.us_format.specs.Declaration.{Part, Declaration}
use Rattle.us_format.specs.Buffers.{parts_of, buffers, size}
use Rattle.us_format.specs.Reading.{buffer_count, limit, total_count}
use Rattle.us_decl.specs.Declares.{Declared, IsValid}
use Rattle.us_judge.specs.Acceptance.{first_refusal}
use Rattle.us_judge.specs.Views.{declaration_of}
use Rattle.us_code.specs.declared.pieces.Columns.{Columns}
use Rattle.us_code.specs.declared.pieces.ListPiece.{ListPiece}
use Rattle.us_code.specs.Plain.{PhaseTree, phase_tree}
use Rattle.us_code.specs.Runs.{World, phases}
use Rattle.us_code.specs.Typing.{Context, TypedPhases, after_phases}
use Rattle.us_gen.specs.Goes.{Leads}
use Rattle.us_gen.specs.Rooms.{FreshFrom}
use Rattle.us_gen_counting.specs.Rooms.{RoomFrom, SeesColumns, Fit}
use Rattle.us_gen_walk.specs.declared.places.Places.{Places}
use Rattle.us_gen_walk.specs.Runs.{rank_of}
use Rattle.us_gen_places.specs.declared.start.PartStart.{PartStart}
use Rattle.us_gen_places.specs.Dims.{dim_count}
use Rattle.us_gen_unpack.specs.declared.listing.PartWalk.{PartWalk}
use Rattle.us_gen_unpack.specs.Runs.{AreApart}
use Rattle.us_gen_opening.specs.declared.parts.Opening.{Opening}
use Rattle.us_gen_opening.specs.Opening.{extents_from}
use Rattle.us_gen_opening.specs.Tells.{AreOpeningsOf}
use Rattle.us_gen_opening.specs.Unpacking.{unpacking}
use Rattle.us_gen_parts.specs.Walks.{AreWalksOf}
use Rattle.us_limits.specs.Small.{KeepText}
use Rattle.us_limits.specs.Orders.{HaveNoOrder}

-- the sources from 0 on, and the dims from n on
abbrev pub start_at : ℕ → PartStart
start_at n = record { source = 0; dim = n }

-- what both phases need of all parts, the dims having the numbers from n on
pub record AreUnpackers (d : Declared) (s : Shape) (n : ℕ) (os : List Opening) (xs : List PartWalk) : Type 0 where
  pub openings : AreOpeningsOf (start_at n) s (declaration_of d).parts os
  pub walks : AreWalksOf (start_at n) s (declaration_of d).parts xs

-- each entry of a part stands in the columns at its rank, from a place on
pub record PartStands (s : Shape) (p : Part) (m : List Entry) (at : ℕ) (is js vs : List ℤ) : Type 0 where
  pub row : (y : Entry) → Contains m y → cell is (at + rank_of s p m y) ≡ pos y.i
  pub col : (y : Entry) → Contains m y → cell js (at + rank_of s p m y) ≡ pos y.j
  pub value : (y : Entry) → Contains m y → cell vs (at + rank_of s p m y) ≡ y.v

-- the parts stand one behind the other
abbrev pub PartsStand : Shape → List (Part × List Entry) → ℕ → List ℤ → List ℤ → List ℤ → Type 0
PartsStand s [] at is js vs = Unit {0}
PartsStand s (x ∷ xs) at is js vs = PartStands s x.0 x.1 at is js vs × PartsStand s xs (at + length x.1) is js vs

-- the columns hold the entries of a matrix, part by part and by position, and no other cells; the dim is how many there are
pub record HoldsEntries (s : Shape) (d : Declaration) (m : List Entry) (c : Columns) (w : World) : Type 0 where
  pub count : w.env.dims c.count ≡ length m
  pub rows : length (w.bufs c.i) ≡ length m
  pub cols : length (w.bufs c.j) ≡ length m
  pub values : length (w.bufs c.v) ≡ length m
  pub stand : PartsStand s (parts_of s d m) 0 (w.bufs c.i) (w.bufs c.j) (w.bufs c.v)

-- how many levels and queries a declaration has
abbrev pub level_count : Declaration → ℕ
level_count d = sum_by (λ p. length p.levels) d.parts

abbrev pub query_count : Declaration → ℕ
query_count d = length d.head + sum_by (λ p. length p.queries) d.parts

-- where the sources are the buffers of a matrix whose size is within the limit, both phases come to their end and fill the columns
abbrev pub FormatIsListed : Type 0
FormatIsListed =
    (w : World) (s : Shape) (d : Declared) (m : List Entry) (c : Columns) (first n k low : ℕ) (os : List Opening) (xs : List PartWalk) → IsValid d
    → first_refusal (declaration_of d) ≡ None → IsMatrixOf s m → s.rows < 2 ^ 31 → s.cols < 2 ^ 31 → size s (declaration_of d) m ≤ limit → AreUnpackers d s first os xs
    → ((j : ℕ) → j < length (buffers s (declaration_of d) m) → w.env.sources j ≡ nth (buffers s (declaration_of d) m) j)
    → ((j : ℕ) → length (w.env.sources j) < 2 ^ 63)
    → low ≤ first → first + dim_count (declaration_of d).parts ≤ c.count → c.count < c.i → c.count < c.j → c.count < c.v → AreApart c
    → Leads low (64 * ((1 + level_count (declaration_of d) + query_count (declaration_of d)) * (size s (declaration_of d) m + 1))) w
    (phases (unpacking c n k os xs) w) (HoldsEntries s (declaration_of d) m c)

-- ---- what is visible

-- no register, buffer or dim from a number on is visible
pub record IsFreeFrom (g : Context) (low : ℕ) : Type 0 where
  pub regs : FreshFrom g low
  pub bufs : (b : ℕ) → low ≤ b → g.bufs b ≡ None
  pub dims : (x : ℕ) → low ≤ x → g.dims x ≡ None

-- the phases are typed, and behind them the columns are visible: words, as many as the dim
pub record IsTypedTo (g : Context) (ps : List PhaseTree) (c : Columns) : Type 0 where
  pub typed : TypedPhases g ps
  pub columns : SeesColumns (after_phases g ps) c

-- behind any code with as many sources, whose numbers are below those of the phases
abbrev pub FormatIsTyped : Type 0
FormatIsTyped =
    (g : Context) (s : Shape) (d : Declared) (c : Columns) (first n k low : ℕ) (os : List Opening) (xs : List PartWalk) → IsValid d → first_refusal (declaration_of d) ≡ None
    → AreUnpackers d s first os xs → total_count (declaration_of d) ≤ g.sources → IsFreeFrom g low → low ≤ first → low ≤ n
    → first + dim_count (declaration_of d).parts ≤ c.count → c.count < c.i → c.count < c.j → c.count < c.v → AreApart c → IsTypedTo g (unpacking c n k os xs) c

-- ---- the piece

-- what is opened of parts with these loops, the first of which has its buffers from a source on
abbrev pub OpenedFrom : ℕ → List Part → List PartWalk → List Opening → Type 0
OpenedFrom n [] [] [] = Unit {0}
OpenedFrom n (p ∷ ps) (x ∷ xs) (o ∷ os) =
    (o.extents.items ≡ extents_from n x.places.tables.items) × (o.loops.items ≡ x.places.loops.items) × (o.values ≡ x.places.values)
    × OpenedFrom (n + buffer_count p) ps xs os
OpenedFrom n [] [] (o ∷ os) = ⊥
OpenedFrom n [] (x ∷ xs) os = ⊥
OpenedFrom n (p ∷ ps) [] os = ⊥
OpenedFrom n (p ∷ ps) (x ∷ xs) [] = ⊥

-- one more
pub record IsOpenedMore (n : ℕ) (w : Places) (old new : List Opening) : Type 0 where
  pub opening : Opening
  pub extents : opening.extents.items ≡ extents_from n w.tables.items
  pub loops : opening.loops.items ≡ w.loops.items
  pub values : opening.values ≡ w.values
  pub behind : new ≡ old ++ opening ∷ []

-- how many numbers the phases of a piece take
abbrev pub unpacking_room : ℕ
unpacking_room = 9216

-- a number that they take
pub record IsTaken (low x : ℕ) : Type 0 where
  pub from : low ≤ x
  pub to : x < low + unpacking_room

-- on the buffers of every matrix within the limit the phases of a piece fill its columns. They are typed behind all code with lower numbers, with numbers
-- from low on, keep the limits of a text, and have no `order`
pub record Unpacks (s : Shape) (d : Declared) (low : ℕ) (piece : ListPiece) : Type 0 where
  pub lists :
      (w : World) (m : List Entry) → IsMatrixOf s m → size s (declaration_of d) m ≤ limit
      → ((j : ℕ) → j < length (buffers s (declaration_of d) m) → w.env.sources j ≡ nth (buffers s (declaration_of d) m) j)
      → ((j : ℕ) → length (w.env.sources j) < 2 ^ 63)
      → Leads low (64 * ((1 + level_count (declaration_of d) + query_count (declaration_of d)) * (size s (declaration_of d) m + 1))) w
      (phases (map phase_tree piece.phases) w) (HoldsEntries s (declaration_of d) m piece.columns)
  pub typed : (g : Context) → total_count (declaration_of d) ≤ g.sources → IsFreeFrom g low → IsTypedTo g (map phase_tree piece.phases) piece.columns
  pub fits : (g : Context) → total_count (declaration_of d) ≤ g.sources → RoomFrom g low → Fit g (map phase_tree piece.phases) low (low + unpacking_room)
  pub text : KeepText 16384 (map phase_tree piece.phases)
  pub unsorted : HaveNoOrder (map phase_tree piece.phases)
  pub columns : IsTaken low piece.columns.count × IsTaken low piece.columns.i × IsTaken low piece.columns.j × IsTaken low piece.columns.v
  pub no_vars : piece.columns.vars.items ≡ []
