use Rattle.std.proofs.Common.{◌≡◌, map, subst, sym}
use Rattle.std.specs.Prelude.{None, IfOk, OnOk, IfErr}
use Rattle.us_format.specs.Declaration.{Declaration}
use Rattle.us_decl.specs.Views.{decl_view}
use Rattle.us_judge.specs.Acceptance.{first_refusal}
use Rattle.us_judge.specs.Causes.{Explains}
use Rattle.us_judge.specs.Kinds.{kinds_of}
use Rattle.us_judge.specs.Short.{IsShortDeclaration}
use Rattle.us_judge.proofs.Valid.{short-valid, plain-is}
use Rattle.us_judge.proofs.format.judge_declaration.Goals as goal

pub judge_body-requires : goal.judge_body-requires
judge_body-requires c = subst (λ (d : Declaration). IsShortDeclaration d) (plain-is c.args.decl.now) (short-valid (decl_view c.args.decl.now) c.requires)

pub returns-clause-kinds : goal.returns-clause-kinds
returns-clause-kinds c = subst (λ (d : Declaration). IfOk c.judge_body.result (λ kinds. kinds ≡ map kinds_of d.parts)) (sym (plain-is c.args.decl.now)) c.judge_body.ensures.kinds

pub returns-clause-accepted : goal.returns-clause-accepted
returns-clause-accepted c = subst (λ (d : Declaration). OnOk c.judge_body.result (first_refusal d ≡ None)) (sym (plain-is c.args.decl.now)) c.judge_body.ensures.accepted

pub returns-clause-refused : goal.returns-clause-refused
returns-clause-refused c = subst (λ (d : Declaration). IfErr c.judge_body.result (λ fault. Explains fault (first_refusal d))) (sym (plain-is c.args.decl.now)) c.judge_body.ensures.refused
