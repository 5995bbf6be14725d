-- The parts of an accepted declaration can be planned, and the kept plan of a part is by its number.
use Rattle.std.specs.Prelude.{None}
use Rattle.std.proofs.Common.{◌≡◌, ℕ, ◌<◌, List, length, map, get_or, All, ap, ◌∙◌}
use Rattle.std.proofs.lemmas.List.{get_or-map}
use Rattle.us_format.specs.Declaration.{Declaration}
use Rattle.us_format.specs.Known.{Steps}
use Rattle.us_decl.specs.Declares.{Declared, IsValid}
use Rattle.us_judge.specs.Acceptance.{first_refusal}
use Rattle.us_judge.specs.Format.{part_at}
use Rattle.us_judge.specs.Plans.{IsPlannable, plan_for}
use Rattle.us_judge.specs.Views.{declaration_of}
use Rattle.us_judge.proofs.Accepted.{accepted-keeps}
use Rattle.us_judge.proofs.LawfulDeclarations.{few-levels}
use Rattle.us_judge.proofs.Valid.{queries-valid}
use Rattle.us_judge.proofs.ValidExpressions.{arguments-valid, small-valid}

pub accepted-plannable : (x : Declared) → IsValid x → first_refusal (declaration_of x) ≡ None → All IsPlannable (declaration_of x).parts
accepted-plannable x v e = λ k d h. record {
  few = few-levels (get_or (declaration_of x).parts k d) (accepted-keeps (declaration_of x) e k d h);
  asked = queries-valid x v k d h;
  small = record {
    levels_are = λ j t l. (small-valid x v k d h j t l).nodes;
    arguments_are = λ j q l. (arguments-valid x v k d h j q l).nodes;
  };
}

-- the plan of the part k
pub kept_plan : (d : Declaration) (kept : List Steps) (k : ℕ) (p : Steps) → kept ≡ map plan_for d.parts → k < length d.parts → p ≡ get_or kept k p → p ≡ plan_for (part_at d k)
kept_plan d kept k p is below at = at ∙ ap (λ x. get_or x k p) is ∙ get_or-map plan_for d.parts k _ p below
