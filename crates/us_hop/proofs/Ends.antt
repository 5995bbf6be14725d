-- A right program comes to its end on the buffers of a held matrix.
use Rattle.std.specs.Prelude.{None}
use Rattle.std.proofs.Common.{◌≡◌, ◌≤◌, ap, ◌∙◌, arith}
use Rattle.us_format.specs.Program.{shape_in, entries_in}
use Rattle.us_format.specs.Buffers.{buffers, size}
use Rattle.us_format.specs.Reading.{limit}
use Rattle.us_judge.specs.Views.{declaration_of}
use Rattle.us_judge.specs.Acceptance.{first_refusal}
use Rattle.us_decl.specs.Declares.{Declared, IsValid}
use Rattle.us_check.specs.Kept.{Kept}
use Rattle.us_code.specs.Plain.{ProgramTree}
use Rattle.us_code.specs.Runs.{run}
use Rattle.us_right.specs.Right.{IsRight}
use Rattle.us_steps.proofs.StepBounds.{few_steps}
use Rattle.us_hop.specs.Hops.{Ends, AreSources}

pub right-ends : (p : ProgramTree) (k : Kept) (to : Declared) → IsRight p (declaration_of k.declared) (declaration_of to) (shape_in k.matrix) → AreSources k
    → IsValid to → first_refusal (declaration_of to) ≡ None → size (shape_in k.matrix) (declaration_of to) (entries_in k.matrix) ≤ limit → Ends p k.buffers
right-ends p k to right src valid accepted small =
    let c = right.converts (entries_in k.matrix) src.matrix src.small small in
    record {
      lists = buffers (shape_in k.matrix) (declaration_of to) (entries_in k.matrix);
      steps = c.steps;
      gives = ap (run p) src.built ∙ c.gives;
      few = omega (arith, c.few, few_steps k.declared to (shape_in k.matrix) (entries_in k.matrix) src.valid src.accepted valid accepted src.matrix src.rows src.cols src.small small);
    }
