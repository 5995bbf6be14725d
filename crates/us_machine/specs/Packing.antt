-- Keys and places as numbers whose digits have different radixes.
use Rattle.std.specs.Prelude.{◌≡◌, ℕ, ◌+◌, ◌*◌, ◌<◌, List, [], ◌∷◌, length, get_or, ℤ, pos, ◌-ℤ◌, ◌≤ℤ◌, unsigned_abs}
use Rattle.us_machine.specs.declared.packing.Digit.{Digit}

-- the list of a key
abbrev pub list_of : List (List ℤ) → Digit → List ℤ
list_of lists d = get_or lists d.seg []

-- how far the cell at a place lies above the least
abbrev pub digit_at : List (List ℤ) → Digit → ℕ → ℕ
digit_at lists d x = unsigned_abs (get_or (list_of lists d) x (pos 0) -ℤ d.low)

-- a number, then the digits at a place, the first one the highest, then the place as a digit below the base
abbrev pub number_from : List (List ℤ) → ℕ → ℕ → List Digit → ℕ → ℕ
number_from lists base n [] x = n * base + x
number_from lists base n (d ∷ ds) x = number_from lists base (n * d.radix + digit_at lists d x) ds x

-- so many numbers, each followed by digits
abbrev pub count_from : ℕ → List Digit → ℕ
count_from n [] = n
count_from n (d ∷ ds) = count_from (n * d.radix) ds

-- the cells of a list lie above the least, and each has a digit
pub record IsDigit (lists : List (List ℤ)) (n : ℕ) (d : Digit) : Type 0 where
  pub long : length (list_of lists d) ≡ n
  pub least : (x : ℕ) → x < n → d.low ≤ℤ get_or (list_of lists d) x (pos 0)
  pub below : (x : ℕ) → x < n → digit_at lists d x < d.radix
