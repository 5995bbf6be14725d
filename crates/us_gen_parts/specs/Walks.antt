-- The loops over all parts of a format, one part behind the other.
use Rattle.std.specs.Prelude.{◌≡◌, ℕ, ◌+◌, ◌^◌, ◌<◌, ◌≤◌, List, [], ◌∷◌, ◌++◌, map, length, None}
use Rattle.us_expr.specs.Tree.{RowIndex, ColIndex}
use Rattle.us_format.specs.Lists.{nth}
use Rattle.us_format.specs.Matrix.{Shape, Entry, IsMatrixOf}
use Rattle.us_format.specs.Declaration.{Part}
use Rattle.us_format.specs.Known.{known_of}
use Rattle.us_format.specs.Buffers.{parts_of, buffers, size}
use Rattle.us_format.specs.Reading.{limit, total_count}
use Rattle.us_decl.specs.Declares.{Declared, IsValid}
use Rattle.us_judge.specs.Acceptance.{first_refusal}
use Rattle.us_judge.specs.Plans.{plan_for}
use Rattle.us_judge.specs.Views.{declaration_of}
use Rattle.us_invert.specs.Plan.{HasSteps, IsStepOf}
use Rattle.us_invert.specs.Recovery.{StepsRecover}
use Rattle.us_code.specs.Run.{Env}
use Rattle.us_code.specs.Typing.{Context}
use Rattle.us_gen_places.specs.declared.start.PartStart.{PartStart}
use Rattle.us_gen_places.specs.Places.{ArePlacesOf}
use Rattle.us_gen_places.specs.Dims.{next_start, HaveDims, SeeDims}
use Rattle.us_gen_unpack.specs.declared.listing.PartWalk.{PartWalk}
use Rattle.us_gen_unpack.specs.Listing.{rooms}
use Rattle.us_gen_unpack.specs.Rooms.{SeesParts}
use Rattle.us_gen_unpack.specs.Runs.{Listed, AreListable, total}

-- the places of a part for a shape, and the steps of its plan
pub record IsWalkOf (a : PartStart) (s : Shape) (p : Part) (x : PartWalk) : Type 0 where
  pub places : ArePlacesOf a s p x.places
  pub steps : HasSteps (plan_for p) x.steps.items
  pub recover : StepsRecover (plan_for p) x.steps.items
  pub row : IsStepOf (plan_for p) RowIndex x.row
  pub col : IsStepOf (plan_for p) ColIndex x.col

-- one for each part, the first of which begins there
abbrev pub AreWalksOf : PartStart → Shape → List Part → List PartWalk → Type 0
AreWalksOf a s [] [] = Unit {0}
AreWalksOf a s [] (x ∷ xs) = ⊥
AreWalksOf a s (p ∷ ps) [] = ⊥
AreWalksOf a s (p ∷ ps) (x ∷ xs) = IsWalkOf a s p x × AreWalksOf (next_start a p) s ps xs

-- the loops over one more part
pub record IsPushed (a : PartStart) (s : Shape) (p : Part) (old new : List PartWalk) : Type 0 where
  pub walk : PartWalk
  pub is : IsWalkOf a s p walk
  pub behind : new ≡ old ++ walk ∷ []

-- the parts with their entries, and the loops over them
abbrev pub listed : List PartWalk → List (Part × List Entry) → List Listed
listed [] ys = []
listed (x ∷ xs) [] = []
listed (x ∷ xs) (y ∷ ys) = record { loops = x; part = y.0; entries = y.1; exprs = known_of (plan_for y.0) } ∷ listed xs ys

-- the loops can list the parts' entries, which are n, within the limit
pub record AreListed (env : Env) (s : Shape) (xs : List PartWalk) (ys : List (Part × List Entry)) (n : ℕ) : Type 0 where
  pub listable : AreListable env s (listed xs ys)
  pub loops : map (λ x. x.loops) (listed xs ys) ≡ xs
  pub number : total (listed xs ys) ≡ n
  pub few : n ≤ limit

-- where the sources from a start on are the buffers of a matrix whose size is within the limit, and the dims tell what they should
abbrev pub WalksList : Type 0
WalksList =
    (env : Env) (a : PartStart) (s : Shape) (d : Declared) (m : List Entry) (xs : List PartWalk) → IsValid d → first_refusal (declaration_of d) ≡ None
    → IsMatrixOf s m → s.rows < 2 ^ 31 → s.cols < 2 ^ 31 → size s (declaration_of d) m ≤ limit → AreWalksOf a s (declaration_of d).parts xs
    → ((k : ℕ) → k < length (buffers s (declaration_of d) m) → env.sources (a.source + k) ≡ nth (buffers s (declaration_of d) m) k)
    → ((k : ℕ) → length (env.sources k) < 2 ^ 63) → HaveDims env a s (parts_of s (declaration_of d) m)
    → AreListed env s xs (parts_of s (declaration_of d) m) (length m)

-- with as many sources and with these dims all that the loops read is visible
abbrev pub WalksAreSeen : Type 0
WalksAreSeen =
    (g : Context) (a : PartStart) (s : Shape) (d : Declared) (xs : List PartWalk) → IsValid d → first_refusal (declaration_of d) ≡ None
    → AreWalksOf a s (declaration_of d).parts xs → a.source + total_count (declaration_of d) ≤ g.sources → SeeDims g a (declaration_of d).parts → SeesParts g xs

-- they name few registers
abbrev pub WalksAreFew : Type 0
WalksAreFew =
    (a : PartStart) (s : Shape) (d : Declared) (xs : List PartWalk) → IsValid d → first_refusal (declaration_of d) ≡ None → AreWalksOf a s (declaration_of d).parts xs
    → rooms xs ≤ 8192
