-- A valid declaration has a part.
use Rattle.std.proofs.Common.{ℕ, zero, suc, ◌≤◌, ◌<◌, List, [], ◌∷◌, length, get_or, arith}
use Rattle.std.proofs.lemmas.List.{length-map}
use Rattle.us_decl.specs.Declares.{Declared, DeclaredBody, Undivided, Divided, IsValid}
use Rattle.us_format.specs.Declaration.{Part}
use Rattle.us_judge.specs.Format.{part_at}
use Rattle.us_judge.specs.Short.{IsShort, AreShort}
use Rattle.us_judge.specs.Views.{part_of, declaration_of}
use Rattle.us_judge.proofs.Valid.{IsShaped, shaped-valid, short-valid}

has-part : (name : List ℕ) (body : DeclaredBody) → IsShaped body → 1 ≤ length (declaration_of (record { name = name; body = body })).parts
has-part name (Undivided p) s = omega arith
has-part name (Divided h ps) s = omega (arith, s.2, length-map ps part_of)

pub some-part : (d : Declared) → IsValid d → 1 ≤ length (declaration_of d).parts
some-part d v = has-part d.name d.body (shaped-valid d v)

short_at : (ps : List Part) (k : ℕ) (d : Part) → AreShort ps → k < length ps → IsShort (get_or ps k d)
short_at [] k d h l = absurd (omega arith)
short_at (p ∷ ps) zero d h l = h.0
short_at (p ∷ ps) (suc k) d h l = short_at ps k d h.1 (omega arith)

-- and the lists of each part are short
pub short-part : (d : Declared) (k : ℕ) → IsValid d → k < length (declaration_of d).parts → IsShort (part_at (declaration_of d) k)
short-part d k v h = short_at (declaration_of d).parts k _ (short-valid d v).parts h
