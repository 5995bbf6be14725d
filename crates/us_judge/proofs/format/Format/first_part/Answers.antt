use Rattle.std.proofs.Common.{◌≤◌, length, sym, ap, subst, ◌∙◌}
use Rattle.us_format.specs.Declaration.{Declaration}
use Rattle.us_decl.specs.Views.{decl_view}
use Rattle.us_decl.specs.Declares.{Declared, IsValid}
use Rattle.us_judge.specs.Format.{part_at}
use Rattle.us_judge.specs.Views.{declaration_of}
use Rattle.us_judge.proofs.Valid.{plain-is}
use Rattle.us_judge.proofs.SomePart.{some-part}
use Rattle.us_judge.proofs.format.Format.first_part.Goals as goal

pub part_of-requires-clause-part : goal.part_of-requires-clause-part
part_of-requires-clause-part c =
    let valid : IsValid (decl_view c.decl.result.now) = subst (λ (d : Declared). IsValid d) (sym c.decl.ensures.is) c.decl.ensures.valid in
    subst (λ (d : Declaration). 1 ≤ length d.parts) (plain-is c.decl.result.now) (some-part (decl_view c.decl.result.now) valid)

pub returns-clause-is : goal.returns-clause-is
returns-clause-is c = c.part_of.ensures ∙ ap (λ (d : Declaration). part_at d 0) (sym (plain-is c.decl.result.now) ∙ ap declaration_of c.decl.ensures.is)
