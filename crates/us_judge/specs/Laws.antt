-- Laws of acceptance.
use Rattle.std.specs.Prelude.{◌≡◌, ◌<◌, ℕ, ℤ, List, length, Some, None}
use Rattle.us_expr.specs.declared.ranges.Range.{Range}
use Rattle.us_format.specs.Matrix.{Shape}
use Rattle.us_format.specs.Rules.{IsLawfulDeclaration}
use Rattle.us_decl.specs.Declares.{Declared, IsValid}
use Rattle.us_judge.specs.declared.level_ranges.LevelBounds.{LevelBounds}
use Rattle.us_judge.specs.Acceptance.{first_refusal}
use Rattle.us_judge.specs.Format.{bounds_at, part_at, range_with}
use Rattle.us_judge.specs.Views.{declaration_of}

-- a valid declaration that breaks no rule is lawful
abbrev pub AcceptedIsLawful : Type 0
AcceptedIsLawful = (x : Declared) → IsValid x → first_refusal (declaration_of x) ≡ None → IsLawfulDeclaration (declaration_of x)

-- a range has these ends, as far as they are told
pub record HasEnds (b : LevelBounds) (r : Range) : Type 0 where
  pub lo : b.lo ≡ r.lo
  pub hi : (z : ℤ) → b.hi ≡ Some z → z ≡ r.hi

-- the ends that are told of a level are those of its range, whatever extents the queries of the part have
abbrev pub BoundsHold : Type 0
BoundsHold =
    (x : Declared) → IsValid x → first_refusal (declaration_of x) ≡ None → (k l : ℕ) → k < length (declaration_of x).parts → l < length (part_at (declaration_of x) k).levels
    → (s : Shape) (extents : List ℕ) → length extents ≡ length (part_at (declaration_of x) k).queries
    → HasEnds (bounds_at s (declaration_of x) k l) (range_with s extents (declaration_of x) k l)
