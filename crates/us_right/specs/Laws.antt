-- The laws.
use Rattle.std.specs.Prelude.{◌≡◌, Bool, false, ℕ, ◌+◌, ◌<◌, ◌≤◌, List, [], ◌++◌, length, None}
use Rattle.us_format.specs.Matrix.{Shape}
use Rattle.us_format.specs.Declaration.{Declaration}
use Rattle.us_format.specs.Reading.{total_count}
use Rattle.us_decl.specs.Declares.{Declared, IsValid}
use Rattle.us_judge.specs.Acceptance.{first_refusal}
use Rattle.us_judge.specs.Format.{part_at}
use Rattle.us_judge.specs.Views.{declaration_of}
use Rattle.us_code.specs.declared.pieces.Columns.{Columns}
use Rattle.us_code.specs.Plain.{PhaseTree}
use Rattle.us_limits.specs.Orders.{HaveNoOrder}
use Rattle.us_gen_listing.specs.Unpack.{unpacking_room}
use Rattle.us_gen_joined.specs.Joined.{ListsFormat}
use Rattle.us_right.specs.Right.{AreAlike, IsRight}
use Rattle.us_right.specs.Piece.{MakesPart}
use Rattle.us_right.specs.Draft.{IsMadeTo}

-- the phases that list entries build no part yet
abbrev pub ListingStarts : Type 0
ListingStarts =
    (sorts : Bool) (s : Shape) (f : Declared) (d : Declaration) (cs : Columns) (ps : List PhaseTree)
    → ListsFormat s f 0 ps cs → IsMadeTo sorts s (declaration_of f) d cs 0 (0 + unpacking_room) ps []

-- alike, with as many names
pub record SameRows (f d : Declaration) : Type 0 where
  pub alike : AreAlike f d
  pub names : (part_at f 0).names ≡ (part_at d 0).names

-- the phases of the next part behind those so far
abbrev pub PartsAdd : Type 0
PartsAdd =
    (sorts : Bool) (s : Shape) (f d : Declared) (cs : Columns) (k n high : ℕ) (ps qs : List PhaseTree) (give out : List ℕ)
    → IsValid d → first_refusal (declaration_of d) ≡ None → (sorts ≡ false → SameRows (declaration_of f) (declaration_of d))
    → k < length (declaration_of d).parts → n ≤ high
    → IsMadeTo sorts s (declaration_of f) (declaration_of d) cs k n ps give → MakesPart sorts s (declaration_of d) k cs n high qs out
    → IsMadeTo sorts s (declaration_of f) (declaration_of d) cs (k + 1) high (ps ++ qs) (give ++ out)

-- where all parts are built, the program is right
abbrev pub AllPartsAreRight : Type 0
AllPartsAreRight =
    (sorts : Bool) (s : Shape) (f d : Declared) (cs : Columns) (n : ℕ) (ps : List PhaseTree) (give : List ℕ) → IsValid f → IsValid d
    → first_refusal (declaration_of d) ≡ None → IsMadeTo sorts s (declaration_of f) (declaration_of d) cs (length (declaration_of d).parts) n ps give
    → IsRight (record { sources = total_count (declaration_of f); phases = ps; give = give }) (declaration_of f) (declaration_of d) s
    × (sorts ≡ false → HaveNoOrder ps)
