-- What several tokens make of a piece.
use Rattle.std.proofs.Common.{◌≡◌, List, [], ◌++◌, Option, Some}
use Rattle.us_tokens.specs.Reading as reading
use Rattle.us_tokens.proofs.Reading as steps
use Rattle.us_decl.specs.Token.{Token}
use Rattle.us_parse.specs.Piece.{Piece}
use Rattle.us_parse.specs.Machine.{reader}

-- the machine's run does not depend on its checks
abbrev pub run : List Token → Piece → Option Piece
run = reading.run (reader [])

abbrev pub go_on : {A B : Type 0} → (A → Option B) → Option A → Option B
go_on = reading.go_on

pub run_then : (ts us : List Token) (s v : Piece) (w : Option Piece) → run ts s ≡ Some v → run us v ≡ w → run (ts ++ us) s ≡ w
run_then = steps.run_then (reader [])
