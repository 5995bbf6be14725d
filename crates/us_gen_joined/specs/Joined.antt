-- The columns that are listed from a format's buffers are those over which queries are counted.
use Rattle.std.specs.Prelude.{◌≡◌, ℕ, ◌+◌, ◌*◌, ◌^◌, ◌<◌, ◌≤◌, List, [], ◌∷◌, length, map, None}
use Rattle.us_code.specs.declared.pieces.Columns.{Columns}
use Rattle.us_code.specs.declared.pieces.ListPiece.{ListPiece}
use Rattle.us_code.specs.Plain.{PhaseTree, phase_tree}
use Rattle.us_code.specs.Runs.{World, phases}
use Rattle.us_code.specs.Typing.{Context, after_phases}
use Rattle.us_format.specs.Lists.{nth}
use Rattle.us_format.specs.Matrix.{Entry, Shape, IsMatrixOf}
use Rattle.us_format.specs.Declaration.{Part, Declaration}
use Rattle.us_format.specs.Positions.{row_of}
use Rattle.us_format.specs.Buffers.{buffers, size}
use Rattle.us_format.specs.Reading.{limit, total_count}
use Rattle.us_format.specs.Rules.{IsLawfulDeclaration}
use Rattle.us_build.specs.Items.{IsAscending}
use Rattle.us_decl.specs.Declares.{Declared, IsValid}
use Rattle.us_judge.specs.Acceptance.{first_refusal}
use Rattle.us_judge.specs.Views.{declaration_of}
use Rattle.us_gen.specs.Goes.{Leads}
use Rattle.us_limits.specs.Small.{KeepText}
use Rattle.us_limits.specs.Orders.{HaveNoOrder}
use Rattle.us_gen_counting.specs.Rooms.{RoomFrom, SeesColumns, Fit}
use Rattle.us_gen_counting.specs.Runs.{IsGiven}
use Rattle.us_gen_listing.specs.Unpack.{HoldsEntries, level_count, query_count, unpacking_room, Unpacks}

-- the entries of a matrix stand in the columns in some order; where there is one part, its lists of coordinates ascend
pub record AreGiven (w : World) (c : Columns) (s : Shape) (d : Declaration) (m : List Entry) (n : ℕ) : Type 0 where
  pub order : List Entry
  pub given : IsGiven w c s m order n
  pub ascends : (p : Part) → d.parts ≡ p ∷ [] → IsAscending (map (row_of m s p) order)

abbrev pub ListedAreGiven : Type 0
ListedAreGiven =
    (w : World) (s : Shape) (d : Declaration) (m : List Entry) (c : Columns) (n : ℕ) → IsLawfulDeclaration d → IsMatrixOf s m
    → s.rows < 2 ^ 31 → s.cols < 2 ^ 31 → size s d m ≤ limit → HoldsEntries s d m c w → c.vars.items ≡ []
    → c.count < n → c.i < n → c.j < n → c.v < n → AreGiven w c s d m n

-- from the buffers of every matrix within the limit, the phases lead to its entries in the columns; they are typed wherever there is room,
-- keep the limits of a text, and have no `order`
pub record ListsFormat (s : Shape) (d : Declared) (low : ℕ) (ps : List PhaseTree) (c : Columns) : Type 0 where
  pub leads :
      (w : World) (m : List Entry) → IsMatrixOf s m → size s (declaration_of d) m ≤ limit
      → ((j : ℕ) → j < length (buffers s (declaration_of d) m) → w.env.sources j ≡ nth (buffers s (declaration_of d) m) j)
      → ((j : ℕ) → length (w.env.sources j) < 2 ^ 63)
      → Leads low (64 * ((1 + level_count (declaration_of d) + query_count (declaration_of d)) * (size s (declaration_of d) m + 1))) w
      (phases ps w) (λ u. AreGiven u c s (declaration_of d) m (low + unpacking_room))
  pub typed :
      (g : Context) → total_count (declaration_of d) ≤ g.sources → RoomFrom g low
      → Fit g ps low (low + unpacking_room) × SeesColumns (after_phases g ps) c
  pub text : KeepText 16384 ps
  pub unsorted : HaveNoOrder ps

abbrev pub UnpackedIsListed : Type 0
UnpackedIsListed =
    (s : Shape) (d : Declared) (low : ℕ) (piece : ListPiece) → IsValid d → first_refusal (declaration_of d) ≡ None
    → s.rows < 2 ^ 31 → s.cols < 2 ^ 31 → Unpacks s d low piece → ListsFormat s d low (map phase_tree piece.phases) piece.columns
