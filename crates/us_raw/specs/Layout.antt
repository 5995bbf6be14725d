-- How the lists of a region stand in its bytes: a table of three words for each segment, then the cells.
use Rattle.std.specs.Prelude.{ℕ, zero, suc, ◌-◌, ℤ, List, [], ◌∷◌, ◌++◌, take, drop, replicate}
use Rattle.std.specs.Int.{w64, from_le_bytes, to_le_bytes, cast_signed, cast_unsigned}

-- f 0, f 1, .., n of them
unfoldable pub tabulate : {X : Type 0} → ℕ → (ℕ → X) → List X
tabulate zero f = []
tabulate (suc n) f = f 0 ∷ tabulate n (λ i. f (suc i))

-- the word of 8 bytes at the place
unfoldable pub word : List ℕ → ℕ → ℕ
word bytes at = from_le_bytes w64 (take 8 (drop at bytes))

-- the cell of the size at the place: its bytes, the low one first, and above them zeros, as a signed word
unfoldable pub cell : ℕ → List ℕ → ℕ → ℤ
cell size bytes at = cast_signed w64 (from_le_bytes w64 (take size (drop at bytes) ++ replicate (8 - size) 0))

-- the bytes of a cell that holds the number
unfoldable pub cell_bytes : ℕ → ℤ → List ℕ
cell_bytes size v = take size (to_le_bytes w64 (cast_unsigned w64 v))
