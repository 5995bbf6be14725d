-- The worked rows hold: each side computes to the other.
use Rattle.std.proofs.Common.{refl}
use Rattle.us_format.specs.Worked.{WorkedFormats, WorkedEmpty, WorkedLarge, WorkedKinds, WorkedKnown, WorkedFaults, RecoveryIsNotPruned}

pub worked_formats : WorkedFormats
worked_formats = record {
  csr_row = record { buffers_are = refl; size_is = refl; they_fit = refl; as_large = refl; they_mean = refl };
  csc_row = record { buffers_are = refl; size_is = refl; they_fit = refl; as_large = refl; they_mean = refl };
  coo_row = record { buffers_are = refl; size_is = refl; they_fit = refl; as_large = refl; they_mean = refl };
  dcsr_row = record { buffers_are = refl; size_is = refl; they_fit = refl; as_large = refl; they_mean = refl };
  bcsr_row = record { buffers_are = refl; size_is = refl; they_fit = refl; as_large = refl; they_mean = refl };
  dia_row = record { buffers_are = refl; size_is = refl; they_fit = refl; as_large = refl; they_mean = refl };
  ell_row = record { buffers_are = refl; size_is = refl; they_fit = refl; as_large = refl; they_mean = refl };
  jds_row = record { buffers_are = refl; size_is = refl; they_fit = refl; as_large = refl; they_mean = refl };
  cisr_row = record { buffers_are = refl; size_is = refl; they_fit = refl; as_large = refl; they_mean = refl };
  aos_row = record { buffers_are = refl; size_is = refl; they_fit = refl; as_large = refl; they_mean = refl };
  hyb_row = record { buffers_are = refl; size_is = refl; they_fit = refl; as_large = refl; they_mean = refl };
  heavy_row = record { buffers_are = refl; size_is = refl; they_fit = refl; as_large = refl; they_mean = refl };
  entry_row = record { buffers_are = refl; size_is = refl; they_fit = refl; as_large = refl; they_mean = refl };
}

pub worked_empty : WorkedEmpty
worked_empty = record {
  ell_empty = refl;
  ell_empty_size = refl;
  ell_empty_means = refl;
  dia_empty = refl;
  dia_empty_size = refl;
  dia_empty_means = refl;
  jds_empty = refl;
  jds_empty_size = refl;
  jds_empty_means = refl;
}

pub worked_large : WorkedLarge
worked_large = record {
  coo_large = refl;
  coo_large_size = refl;
  csr_large_size = refl;
}

pub worked_kinds : WorkedKinds
worked_kinds = record {
  csr_kinds = refl;
  csr_ranges = refl;
  dia_kinds = refl;
  dia_ranges = refl;
  ell_kinds = refl;
  ell_ranges = refl;
  digits_kinds = refl;
  digits_ranges = refl;
  csc_kinds = refl;
  coo_kinds = refl;
  dcsr_kinds = refl;
  bcsr_kinds = refl;
  heavy_first_kinds = refl;
  heavy_rest_kinds = refl;
  jds_kinds = refl;
  cisr_kinds = refl;
  aos_kinds = refl;
  hyb_first_kinds = refl;
  hyb_rest_kinds = refl;
}

pub worked_known : WorkedKnown
worked_known = record {
  no_levels = refl;
  both = refl;
  half_row = refl;
  half_row_column = refl;
  sum_and_difference = refl;
  half_column = refl;
  half_column_row = refl;
  digits = refl;
  other_digits = refl;
  diagonal = refl;
  shifted = refl;
  divisor = refl;
  no_neighbour = refl;
}

pub worked_faults : WorkedFaults
worked_faults = record {
  too_few = refl;
  short_pos = refl;
  long_val = refl;
  cut_pack = refl;
  negative_extent = refl;
  second_part = refl;
  other_pos = refl;
  twice = refl;
}

pub recovery_is_not_pruned : RecoveryIsNotPruned
recovery_is_not_pruned = record {
  first_buffers = refl;
  first_fails = refl;
  last_buffers = refl;
  last_means = refl;
}
