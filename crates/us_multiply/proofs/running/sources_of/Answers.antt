use Rattle.std.proofs.Common.{◌≡◌, subst}
use Rattle.std.specs.Prelude.{None}
use Rattle.us_matrix.specs.Map.{Map, IsMatrix}
use Rattle.us_decl.specs.Declares.{Declared, IsValid}
use Rattle.us_judge.specs.Acceptance.{first_refusal}
use Rattle.us_judge.specs.Views.{declaration_of}
use Rattle.us_multiply.proofs.Factors.{are-factors}
use Rattle.us_multiply.proofs.running.sources_of.Goals as goal

pub returns-clause-factors : goal.returns-clause-factors
returns-clause-factors c =
    are-factors c.args.held.now c.args.x.now c.buffers.ensures.held (subst (λ (m : Map). IsMatrix m) c.matrix.ensures c.shape.ensures.matrix) (subst (λ (d : Declared). IsValid d) c.format.ensures c.decl.ensures.valid)
    (subst (λ (d : Declared). first_refusal (declaration_of d) ≡ None) c.format.ensures c.decl.ensures.accepted) c.cells.ensures.count c.requires.rows c.requires.few
