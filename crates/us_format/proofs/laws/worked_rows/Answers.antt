use Rattle.us_format.proofs.WorkedRows.{worked_formats, worked_empty, worked_large, worked_kinds, worked_known, worked_faults, recovery_is_not_pruned}
use Rattle.us_format.proofs.laws.worked_rows.Goals as goal

pub returns : goal.returns
returns c = record {
  formats = worked_formats;
  empty = worked_empty;
  large = worked_large;
  kinds = worked_kinds;
  known = worked_known;
  faults = worked_faults;
  recovery = recovery_is_not_pruned;
}
