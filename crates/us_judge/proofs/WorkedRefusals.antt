-- The worked declarations are refused and accepted as stated: each side computes to the other.
use Rattle.std.proofs.Common.{refl}
use Rattle.us_judge.specs.Worked.{WorkedRefusals, WorkedAcceptances, WorkedOrder}

pub refusals : WorkedRefusals
refusals = record {
  no_level = refl;
  unknown_name = refl;
  sum_in_order = refl;
  many_lanes = refl;
  sum_as_level = refl;
  shifted_count = refl;
  no_such_level = refl;
  merged_only = refl;
  full_after_loose = refl;
  half_row = refl;
  sum_and_difference = refl;
  half_column = refl;
  full_in_pack = refl;
  ordered_head = refl;
}

pub acceptances : WorkedAcceptances
acceptances = record {
  digits = refl;
  rows = refl;
  columns = refl;
  entries = refl;
  filled_rows = refl;
  blocks = refl;
  diagonals = refl;
  packed_entries = refl;
  counted = refl;
  ordered = refl;
  scheduled = refl;
  divided_by_count = refl;
  divided_by_sum = refl;
  entry_format = refl;
}

pub order : WorkedOrder
order = record {
  twice = refl;
  merged_before_order = refl;
  one_name_for_both = refl;
  one_name_for_two = refl;
  unknown_condition = refl;
}
