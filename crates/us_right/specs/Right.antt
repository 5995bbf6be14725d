-- Which programs are right for a pair of formats and a shape.
use Rattle.std.specs.Prelude.{◌≡◌, ℕ, suc, ◌+◌, ◌*◌, ◌≤◌, List, [], ◌∷◌, length}
use Rattle.std.specs.List.{sum_by}
use Rattle.us_format.specs.Matrix.{Shape, Entry, IsMatrixOf}
use Rattle.us_format.specs.Declaration.{Query, Schedule, Declaration}
use Rattle.us_format.specs.Buffers.{buffers, size}
use Rattle.us_format.specs.Reading.{limit, total_count}
use Rattle.us_judge.specs.Format.{part_at}
use Rattle.us_code.specs.Plain.{ProgramTree}
use Rattle.us_code.specs.Limits.{KeepsLimits}
use Rattle.us_code.specs.Runs.{Gave, run}
use Rattle.us_code.specs.Typing.{TypedProgram}
use Rattle.us_gen_listing.specs.Unpack.{level_count, query_count}

-- what schedules may cost beside the data: for each one more than its lanes, for each row and column
abbrev pub lane_turns : Shape → List Query → ℕ
lane_turns s [] = 0
lane_turns s (Schedule l u e lanes ∷ qs) = suc lanes * (s.rows + s.cols) + lane_turns s qs
lane_turns s (q ∷ qs) = lane_turns s qs

-- of the head and of all parts
abbrev pub turns : Shape → Declaration → ℕ
turns s d = lane_turns s d.head + sum_by (λ p. lane_turns s p.queries) d.parts

-- the most steps from the buffers of f on a matrix to those of g: in proportion to both sizes and the number of entries, for each level and query
abbrev pub most_steps : Declaration → Declaration → Shape → List Entry → ℕ
most_steps f g s m =
    256 * ((2 + (level_count f + level_count g) + (query_count f + query_count g)) * (size s f m + size s g m + length m + 1 + (turns s f + turns s g)))

-- the program makes the buffers of g from those of f, in so many steps
pub record Converts (p : ProgramTree) (f g : Declaration) (s : Shape) (m : List Entry) : Type 0 where
  pub steps : ℕ
  pub gives : run p (buffers s f m) ≡ Gave (buffers s g m) steps
  pub few : steps ≤ most_steps f g s m

-- a typed program within the limits of text, which converts the buffers of every matrix of the shape whose two sizes are within the limit
pub record IsRight (p : ProgramTree) (f g : Declaration) (s : Shape) : Type 0 where
  pub typed : TypedProgram p
  pub limits : KeepsLimits p
  pub sources : p.sources ≡ total_count f
  pub converts : (m : List Entry) → IsMatrixOf s m → size s f m ≤ limit → size s g m ≤ limit → Converts p f g s m

-- one part each, without queries, and the same level expressions: so the entries of one stand in the order of the other
pub record AreAlike (f g : Declaration) : Type 0 where
  pub one_from : length f.parts ≡ 1
  pub one_to : length g.parts ≡ 1
  pub plain_from : (part_at f 0).queries ≡ []
  pub plain_to : (part_at g 0).queries ≡ []
  pub levels : (part_at f 0).levels ≡ (part_at g 0).levels
