use Rattle.std.proofs.Common.{ap, map, sym, subst, ◌∙◌}
use Rattle.us_format.specs.Declaration.{Declaration}
use Rattle.us_format.specs.Reading.{total_count}
use Rattle.us_decl.specs.Views.{decl_view}
use Rattle.us_judge.specs.Kinds.{kinds_of}
use Rattle.us_judge.specs.Short.{IsShortDeclaration}
use Rattle.us_judge.specs.Views.{declaration_of}
use Rattle.us_judge.proofs.Valid.{short-valid, plain-is}
use Rattle.us_judge.proofs.format.Format.buffers.Goals as goal

pub count_all-requires-clause-kinds : goal.count_all-requires-clause-kinds
count_all-requires-clause-kinds c = c.as_slice.ensures ∙ c.self.invariant.kinds_are ∙ ap (λ d. map kinds_of d.parts) (plain-is c.self.inside.decl)

pub count_all-requires-clause-short : goal.count_all-requires-clause-short
count_all-requires-clause-short c = subst (λ (d : Declaration). IsShortDeclaration d) (plain-is c.self.inside.decl) (short-valid (decl_view c.self.inside.decl) c.self.invariant.valid)

pub returns : goal.returns
returns c = c.count_all.ensures ∙ ap total_count (sym (plain-is c.self.inside.decl)) ∙ ap (λ d. total_count (declaration_of d)) c.self.view_is
