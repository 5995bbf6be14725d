use Rattle.std.proofs.Common.{◌≡◌, ℕ, ◌<◌, ◌-◌, ◌^◌, true, min, take, get_or}
use Rattle.std.specs.Char.{is_ascii_digit}
use Rattle.std.specs.Str.Parse.{digits_value}
use Rattle.us_mm_lines.proofs.usual.number_before.Given as goal

abbrev pub invariant-loop-i : goal.invariant-loop-i
invariant-loop-i l =
    ((k : ℕ) → k < l.i → is_ascii_digit (get_or l.line k 0) ≡ true) × (l.number ≡ min (digits_value 10 (take l.i l.line)) (2 ^ 64 - 1))
