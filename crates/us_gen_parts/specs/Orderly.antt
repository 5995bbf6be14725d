-- The parts of a format are orderly.
use Rattle.std.specs.Prelude.{◌≡◌, ℕ, ◌<◌, length, None}
use Rattle.us_decl.specs.Declares.{Declared, IsValid}
use Rattle.us_judge.specs.Acceptance.{first_refusal}
use Rattle.us_judge.specs.Format.{part_at}
use Rattle.us_judge.specs.Views.{declaration_of}
use Rattle.us_gen_places.specs.Holds.{IsOrderly}

-- each part of a valid declaration that breaks no rule, the parts being numbered from 0
abbrev pub AcceptedIsOrderly : Type 0
AcceptedIsOrderly =
    (d : Declared) → IsValid d → first_refusal (declaration_of d) ≡ None → (k : ℕ) → k < length (declaration_of d).parts → IsOrderly (part_at (declaration_of d) k)
