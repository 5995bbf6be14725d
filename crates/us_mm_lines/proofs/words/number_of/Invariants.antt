use Rattle.std.proofs.Common.{◌≡◌, ◌-◌, ◌^◌, min, take, drop}
use Rattle.std.specs.Str.{all_ascii_digits}
use Rattle.std.specs.Str.Parse.{digits_value}
use Rattle.us_mm_lines.proofs.words.number_of.Given as goal

abbrev pub invariant-loop-b : goal.invariant-loop-b
invariant-loop-b l =
    (all_ascii_digits (drop l.b-index l.ds) ≡ all_ascii_digits l.ds) × (l.n ≡ min (digits_value 10 (take l.b-index l.ds)) (2 ^ 64 - 1))
