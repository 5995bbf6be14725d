-- What counting the queries of a part leaves is what its buffers are built from.
use Rattle.std.specs.Prelude.{ℕ, ◌+◌, ◌*◌, ◌^◌, ◌<◌, ◌≤◌, List, length}
use Rattle.us_format.specs.Matrix.{Entry, Shape, IsMatrixOf}
use Rattle.us_format.specs.Declaration.{Part}
use Rattle.us_format.specs.Reading.{limit}
use Rattle.us_code.specs.declared.pieces.Columns.{Columns}
use Rattle.us_code.specs.Runs.{World}
use Rattle.us_code.specs.Typing.{Context}
use Rattle.us_gen_counting.specs.Answers.{Answers}
use Rattle.us_gen_counting.specs.Phases.{buffers}
use Rattle.us_gen_counting.specs.Rooms.{SeesAnswer}
use Rattle.us_gen_counting.specs.Runs.{HoldsCounts}
use Rattle.us_gen_parts_build.specs.Meaning.{NamesQueries, HoldsQueries, SeesQueries, share}

pub record CountedIsGiven : Type 0 where
  pub held :
      (w : World) (s : Shape) (p : Part) (out : Columns) (m es : List Entry) (n : ℕ) → HoldsCounts w s out m es p.queries n → IsMatrixOf s m
      → s.rows < 2 ^ 31 → s.cols < 2 ^ 31 → length es ≤ limit → share s p m ≤ limit → HoldsQueries w s p out (buffers p.queries n) m es
  pub seen : (g : Context) (p : Part) (out : Columns) (n : ℕ) → SeesAnswer g out p.queries n → SeesQueries g p out (buffers p.queries n)
  -- where the columns of the entries have numbers below n
  pub named :
      (p : Part) (cs out : Columns) (n high : ℕ) → Answers cs p.queries p.names n out → cs.count < n → cs.i < n → cs.j < n → cs.v < n
      → n + 64 * length p.queries ≤ high → NamesQueries p out (buffers p.queries n) high
