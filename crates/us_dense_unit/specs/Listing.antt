-- Listings of units of declarations, and last of a dense product.
use Rattle.std.specs.Prelude.{◌≡◌, ℕ, List, [], ◌∷◌, ◌++◌, Some, if◌then◌else◌}
use Rattle.us_tokens.specs.Lex.{is_blank}
use Rattle.us_unit.specs.Units.{PlainUnit}
use Rattle.us_unit.specs.Listing.{AllUnits, first_unit, listing_text}
use Rattle.us_dense_unit.specs.Dense.{DenseUnit, IsDense, IsDenseUnit, dense_text}

-- ---- the canonical text

-- the bytes are the canonical texts of these units, one after the other, and last of this dense unit
pub record IsDenseListing (us : List PlainUnit) (last : DenseUnit) (bytes : List ℕ) : Type 0 where
  pub text : bytes ≡ listing_text us ++ dense_text last
  pub units : AllUnits us
  pub dense : IsDense last

-- ---- reading

-- the bytes from the first that is no blank
abbrev pub behind_blanks : List ℕ → List ℕ
behind_blanks [] = []
behind_blanks (b ∷ bs) = if is_blank b then behind_blanks bs else b ∷ bs

-- the bytes are read as these units, each from where the one before it ends, and last, behind blanks, as this dense unit
abbrev pub UnitsThenDense : List PlainUnit → DenseUnit → List ℕ → Type 0
UnitsThenDense [] last bytes = IsDenseUnit last (behind_blanks bytes)
UnitsThenDense (u ∷ us) last bytes = (rest : List ℕ) × (first_unit bytes ≡ Some (u, rest)) × UnitsThenDense us last rest

-- ---- laws

-- a listing is read as its units, and last as its dense unit
abbrev pub DenseListingsReadBack : Type 0
DenseListingsReadBack = (us : List PlainUnit) (last : DenseUnit) (bytes : List ℕ) → IsDenseListing us last bytes → UnitsThenDense us last bytes

-- no bytes are read as two lists of units with a dense unit behind each
abbrev pub DenseReadOnce : Type 0
DenseReadOnce =
    (us vs : List PlainUnit) (u v : DenseUnit) (bytes : List ℕ) → UnitsThenDense us u bytes → UnitsThenDense vs v bytes
    → (us ≡ vs) × (u ≡ v)

-- no bytes are two dense units
abbrev pub DenseUnitReadOnce : Type 0
DenseUnitReadOnce = (u v : DenseUnit) (bytes : List ℕ) → IsDenseUnit u bytes → IsDenseUnit v bytes → u ≡ v
