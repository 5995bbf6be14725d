-- Each token stands at its place in the bytes of the text.
use Rattle.std.specs.Prelude.{◌≡◌, ◌<◌, ℕ, List, ◌++◌, length}
use Rattle.us_tokens.specs.Text.{Text, End, Bad, Then}

-- the tokens stand in these bytes one after the other, and the bytes that are left are those behind each
abbrev pub IsPlaced : {K : Type 0} → List ℕ → Text K → Type 0
IsPlaced bytes End = Unit {0}
IsPlaced bytes (Bad left) = (before rest : List ℕ) × (bytes ≡ before ++ rest) × (length rest ≡ left) × (0 < left)
IsPlaced bytes (Then k w behind more) = (before rest : List ℕ) × (bytes ≡ before ++ (w ++ rest)) × (length rest ≡ behind) × (0 < length w) × IsPlaced rest more
