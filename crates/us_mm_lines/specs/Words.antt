-- The words of a line, and the numbers that they write.
use Rattle.std.specs.Prelude.{ℕ, ◌^◌, ◌==◌, ◌&&◌, not, Bool, List, length, filter, nat_lt, ℤ, pos, negsuc, neg_ℤ, if◌then◌else◌}
use Rattle.std.specs.List.{slice_split}
use Rattle.std.specs.Str.{all_ascii_digits}
use Rattle.std.specs.Str.Parse.{without_leading_plus, without_leading_sign, digits_value, starts_with_minus}
use Rattle.us_mm_lines.specs.Lines.{is_blank}

-- what stands between blanks
unfoldable pub words : List ℕ → List (List ℕ)
words line = filter (λ w. not (length w == 0)) (slice_split is_blank line)

-- one digit or more, and nothing else
abbrev pub is_numeral : List ℕ → Bool
is_numeral ds = not (length ds == 0) && all_ascii_digits ds

-- digits, behind a plus or none
unfoldable pub is_size_word : List ℕ → Bool
is_size_word w = is_numeral (without_leading_plus w)

unfoldable pub size_of : List ℕ → ℕ
size_of w = digits_value 10 (without_leading_plus w)

-- digits, behind a plus, a minus or none
unfoldable pub is_value_word : List ℕ → Bool
is_value_word w = is_numeral (without_leading_sign w)

-- a number, or its negative where there is a minus
abbrev pub signed_value : Bool → ℕ → ℤ
signed_value minus n = if minus then neg_ℤ (pos n) else pos n

unfoldable pub value_of : List ℕ → ℤ
value_of w = signed_value (starts_with_minus w) (digits_value 10 (without_leading_sign w))

-- from -2^63 to 2^63 - 1
abbrev pub is_value : ℤ → Bool
is_value (pos n) = nat_lt n (2 ^ 63)
is_value (negsuc n) = nat_lt n (2 ^ 63)
