-- Tokens of numbers.
use Rattle.std.proofs.Common.{◌≡◌, ℕ, zero, suc, refl, ltb, arith}
use Rattle.us_code_table.specs.declared.lexeme.Lexeme.TheVariants as lexeme
use Rattle.us_code_table.specs.Words.{token}
use Rattle.us_code_table.specs.Limits.{value_fits}

pub number_value : (n : ℕ) → (token (lexeme.Number n)).value ≡ n
number_value zero = refl
number_value (suc zero) = refl
number_value (suc (suc n)) = refl

pub number_fits : (n : ℕ) → value_fits (token (lexeme.Number n)).class (token (lexeme.Number n)).value ≡ ltb n 9223372036854775808
number_fits zero = refl
number_fits (suc zero) = refl
number_fits (suc (suc n)) = refl
