use Rattle.std.proofs.Common.{◌≡◌, ◌≤◌, ◌+◌, min, drop}
use Rattle.us_tokens.specs.Lex.{decimal_value, capped_value}
use Rattle.us_tokens.proofs.bytes.value_of.Given as goal

abbrev pub invariant-loop-digit : goal.invariant-loop-digit
invariant-loop-digit l = record { same : min (decimal_value (drop l.digit-index l.digits) l.value) (l.limit + 1) ≡ capped_value l.limit l.digits; small : l.value ≤ l.limit + 1 }
