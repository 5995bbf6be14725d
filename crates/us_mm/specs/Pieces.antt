-- What a reader that has read some bytes stands for.
use Rattle.std.specs.Prelude.{◌≡◌, ℕ, ◌+◌, ◌^◌, ◌<◌, ◌==◌, ◌⊎◌, Bool, true, false, List, [], ◌∷◌, ◌++◌, length, map, flat_map, All, Option, Some, None, Result, Ok, Err}
use Rattle.std.specs.Str.Lines.{strip_carriage_return}
use Rattle.us_mm_lines.specs.States.{IsLineState}
use Rattle.us_mm.specs.declared.fault.MmFault.{MmFault}
use Rattle.us_mm.specs.declared.fault.MmFault.TheVariants.{Memory}
use Rattle.us_mm.specs.declared.pieces.Pieces.{Pieces}
use Rattle.us_mm.specs.Reads.{read_lines}
use Rattle.us_mm.specs.Arrays.{array_lines}
use Rattle.us_mm.specs.Known.{Fails}
use Rattle.us_mm.specs.Stages.{Knows, is_array}

-- the bytes of lines that are ended
abbrev pub joined : List (List ℕ) → List ℕ
joined ls = flat_map (λ l. l ++ 10 ∷ []) ls

abbrev pub HasNoFeed : List ℕ → Type 0
HasNoFeed bytes = All (λ b. (b == 10) ≡ false) bytes

-- the reader keeps this fault, or it knows the ended lines and the rest behind them
abbrev pub Keeps : Bool → Pieces → Option MmFault → List (List ℕ) → List ℕ → Type 0
Keeps array r (Some f) ended rest = Fails array f (map strip_carriage_return ended)
Keeps array r None ended rest =
    Knows r.stage (map strip_carriage_return ended) × (is_array r.stage ≡ array) × (r.lines ≡ length ended) × HasNoFeed rest × IsLineState r.line rest

-- the bytes are lines, each ended by a line feed, and a rest
pub record Holds (array : Bool) (r : Pieces) (bytes : List ℕ) : Type 0 where
  pub ended : List (List ℕ)
  pub rest : List ℕ
  pub whole : bytes ≡ joined ended ++ rest
  pub feeds : All HasNoFeed ended
  pub keeps : Keeps array r r.fault ended rest

-- memory ran out
abbrev pub IsLost : Pieces → Type 0
IsLost r = r.fault ≡ Some Memory

-- these bytes were read behind what was read before
pub record Goes (old new : Pieces) (piece : List ℕ) : Type 0 where
  pub lost : IsLost old → IsLost new
  pub more : (array : Bool) (bytes : List ℕ) → length bytes + length piece < 2 ^ 64 → Holds array old bytes → IsLost new ⊎ Holds array new (bytes ++ piece)

-- the last line was read: these are all lines
abbrev pub Ended : Bool → Pieces → Result (Unit {0}) MmFault → List (List ℕ) → Type 0
Ended array r (Ok _) ls = Knows r.stage ls × (is_array r.stage ≡ array) × (r.lines ≡ length ls)
Ended array r (Err Memory) ls = Unit {0}
Ended array r (Err f) ls = Fails array f ls

-- the file of these lines has this fault
abbrev pub Ends : Bool → MmFault → List (List ℕ) → Type 0
Ends false f ls = read_lines ls ≡ Err f
Ends true f ls = array_lines ls ≡ Err f

-- the number of these lines and one more fits, unless the first is empty
abbrev pub IsCounted : List (List ℕ) → Type 0
IsCounted ls = (first : List ℕ) (body : List (List ℕ)) → ls ≡ first ∷ body → 0 < length first → length ls + 1 < 2 ^ 64
