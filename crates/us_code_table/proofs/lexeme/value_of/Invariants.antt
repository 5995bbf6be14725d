use Rattle.std.proofs.Common.{◌≡◌, ◌≤◌, ◌+◌, min, drop}
use Rattle.us_tokens.specs.Lex.{decimal_value, capped_value}
use Rattle.us_code_table.proofs.lexeme.value_of.Given as goal

abbrev pub invariant-loop-digit : goal.invariant-loop-digit
invariant-loop-digit l = record { same : min (decimal_value (drop l.digit-index l.digits) l.value) 4294967296 ≡ capped_value 4294967295 l.digits; small : l.value ≤ 4294967296 }
