-- The lines judged by numbers that stop at the largest u64, where none stands for a word that is no number.
use Rattle.std.specs.Prelude.{ℕ, Bool, ℤ, pos, Option, Some, None, Result, Err}
use Rattle.us_matrix.specs.declared.matrix.Triple.{Triple}
use Rattle.us_matrix.specs.declared.shape.Shape.{Shape}
use Rattle.us_mm_lines.specs.Words.{signed_value}
use Rattle.us_mm.specs.declared.fault.MmFault.{MmFault}
use Rattle.us_mm.specs.declared.fault.MmFault.TheVariants.{SizeLine, EntryLine}
use Rattle.us_mm.specs.declared.form.Symmetry.{Symmetry}
use Rattle.us_mm.specs.declared.form.Form.{Form}
use Rattle.us_mm.specs.Reads.{Sizes, size_numbers, entry_numbers}
use Rattle.us_mm.specs.Arrays.{side_numbers, value_number}

abbrev pub size_options : Form → ℕ → Option ℕ → Option ℕ → Option ℕ → Result Sizes MmFault
size_options form line (Some rows) (Some cols) (Some count) = size_numbers form line rows cols count
size_options form line _ _ _ = Err (SizeLine line)

abbrev pub integer_options : Symmetry → ℕ → ℕ → ℕ → Option ℕ → Option ℕ → Option (Bool × ℕ) → Result Triple MmFault
integer_options symmetry line rows cols (Some r) (Some c) (Some v) = entry_numbers symmetry line rows cols r c (signed_value v.0 v.1)
integer_options _ line _ _ _ _ _ = Err (EntryLine line)

abbrev pub pattern_options : Symmetry → ℕ → ℕ → ℕ → Option ℕ → Option ℕ → Result Triple MmFault
pattern_options symmetry line rows cols (Some r) (Some c) = entry_numbers symmetry line rows cols r c (pos 1)
pattern_options _ line _ _ _ _ = Err (EntryLine line)

abbrev pub side_options : ℕ → Option ℕ → Option ℕ → Result Shape MmFault
side_options line (Some rows) (Some cols) = side_numbers line rows cols
side_options line _ _ = Err (SizeLine line)

abbrev pub value_option : ℕ → Option (Bool × ℕ) → Result ℤ MmFault
value_option line (Some v) = value_number line (signed_value v.0 v.1)
value_option line None = Err (EntryLine line)
