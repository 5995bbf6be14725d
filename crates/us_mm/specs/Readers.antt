-- What the two readers stand for.
use Rattle.std.specs.Prelude.{◌≡◌, ℕ, true, false, List, ◌++◌}
use Rattle.us_mm_lines.specs.declared.line_state.LineState.{LineState}
use Rattle.us_mm_lines.specs.States.{IsLineState}
use Rattle.us_mm.specs.declared.reader.CoordinateReader.{CoordinateReader}
use Rattle.us_mm.specs.declared.array_reader.ArrayReader.{ArrayReader}
use Rattle.us_mm.specs.Pieces.{joined, HasNoFeed, Holds, IsLost}

-- the reader has read these bytes
abbrev pub Stands : CoordinateReader → List ℕ → Type 0
Stands r bytes = Holds false r.pieces bytes

abbrev pub ArrayStands : ArrayReader → List ℕ → Type 0
ArrayStands r bytes = Holds true r.pieces bytes

-- memory ran out
abbrev pub IsOut : CoordinateReader → Type 0
IsOut r = IsLost r.pieces

abbrev pub IsArrayOut : ArrayReader → Type 0
IsArrayOut r = IsLost r.pieces

-- the state is that of what stands behind the last line feed
pub record HasRest (s : LineState) (bytes : List ℕ) : Type 0 where
  pub ended : List (List ℕ)
  pub rest : List ℕ
  pub whole : bytes ≡ joined ended ++ rest
  pub feeds : HasNoFeed rest
  pub state : IsLineState s rest
