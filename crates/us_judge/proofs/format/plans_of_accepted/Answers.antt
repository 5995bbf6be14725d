use Rattle.std.proofs.Common.{◌≡◌, map, All, subst, sym}
use Rattle.std.specs.Prelude.{IfOk}
use Rattle.us_format.specs.Declaration.{Declaration}
use Rattle.us_decl.specs.Views.{decl_view}
use Rattle.us_judge.specs.Plans.{IsPlannable, plan_for}
use Rattle.us_judge.proofs.PartPlans.{accepted-plannable}
use Rattle.us_judge.proofs.Valid.{plain-is}
use Rattle.us_judge.proofs.format.plans_of_accepted.Goals as goal

pub plans_of-requires : goal.plans_of-requires
plans_of-requires c = subst (λ (d : Declaration). All IsPlannable d.parts) (plain-is c.args.decl.now) (accepted-plannable (decl_view c.args.decl.now) c.requires.valid c.requires.accepted)

pub returns : goal.returns
returns c = subst (λ (d : Declaration). IfOk c.plans_of.result (λ plans. plans ≡ map plan_for d.parts)) (sym (plain-is c.args.decl.now)) c.plans_of.ensures
