-- Blocks that rank indices and spread them over lanes keep the limits.
use Rattle.std.proofs.Common.{ℕ, ◌+◌, ◌^◌, ◌<◌, lit≤}
use Rattle.us_code.specs.declared.program.Dim.{Dim}
use Rattle.us_code.specs.declared.program.Dim.TheVariants as dim
use Rattle.us_code.specs.declared.program.Buf.TheVariants as buf
use Rattle.us_code.specs.declared.pieces.Columns.{Columns}
use Rattle.us_code.specs.Plain.{Number, End, Load, ◌+++◌}
use Rattle.us_code.specs.Limits.{FitsDim, FitsTerms}
use Rattle.us_gen_query.specs.Reordering.{reorder}
use Rattle.us_gen_query.specs.Scheduling.{spread_turn, schedule, rows}
use Rattle.us_gen_query.specs.declared.scheduling.ScheduleBuffers.{ScheduleBuffers}
use Rattle.us_limits.specs.Small.{Small}
use Rattle.us_query_limits.proofs.Words.{register, nothing, no-value, one-more, one-less, both, cell-of}

pub reorder-keeps : (cs : Columns) (i : ℕ) (size : Dim) (b o q z n : ℕ) → cs.count < 2 ^ 32 → FitsDim size → Small 14 3 (reorder cs i size b o q z n)
reorder-keeps cs i size b o q z n named sized = record {
  terms = (
    named,
    (register, (register, sized, (register, (register, one-less, tt)), tt, tt)),
    (lit≤ tt, lit≤ tt, (sized, (register, (register, register, tt)), (named, (register, (register, sized, (register, (register, register, tt)), tt, tt)), tt))),
  );
  deep = lit≤ tt;
  long = lit≤ tt;
}

-- an index gets its lane and its slot
turn-fits : (b : ScheduleBuffers) (lanes n : ℕ) → FitsDim (dim.Number lanes) → FitsTerms (spread_turn b lanes n)
turn-fits b lanes n few = (
  nothing,
  (
    no-value,
    (
      few,
      (register, (register, register, (register, (register, tt)), tt, tt)),
      (
        register,
        (register, few, (register, (register, register, (register, register, (register, one-more, (register, both, (register, one-more, (one-more, tt), tt, tt)))))), tt, tt),
      ),
    ),
  ),
)

-- a schedule, and its extent in a register
pub schedule-keeps : (cs : Columns) (i : ℕ) (size : Dim) (lanes : ℕ) (b : ScheduleBuffers) (n r : ℕ) → cs.count < 2 ^ 32 → FitsDim size → FitsDim (dim.Number lanes) → Small 32 4 (schedule cs i size lanes b n +++ Load r (buf.New b.extent) (Number 0) End)
schedule-keeps cs i size lanes b n r named sized few = record {
  terms = (
    named,
    (register, (register, sized, (register, (register, one-more, tt)), tt, tt)),
    (
      nothing,
      (
        sized,
        turn-fits b lanes (n + 4) few,
        (
          nothing,
          register,
          (named, (register, (register, sized, (register, (register, register, (register, (register, register, tt)))), tt, tt)), (nothing, tt)),
        ),
      ),
    ),
  );
  deep = lit≤ tt;
  long = lit≤ tt;
}

pub rows-keep : (size : Dim) (b : ScheduleBuffers) (table : Dim) (extent t n : ℕ) → FitsDim size → FitsDim table → extent < 2 ^ 32 → Small 5 3 (rows size b table extent t n)
rows-keep size b table extent t n sized tabled named = record {
  terms = (sized, (register, (register, (cell-of extent named, tabled, (register, one-more, tt), tt, tt))), tt);
  deep = lit≤ tt;
  long = lit≤ tt;
}
