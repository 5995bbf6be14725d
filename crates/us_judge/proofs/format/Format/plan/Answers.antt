use Rattle.std.proofs.Common.{◌≡◌, ◌<◌, ◌-◌, map, length, subst, ◌∙◌, arith}
use Rattle.us_decl.specs.Declares.{Declared}
use Rattle.us_judge.specs.Plans.{plan_for}
use Rattle.us_judge.specs.Views.{declaration_of}
use Rattle.us_judge.proofs.PartPlans.{kept_plan}
use Rattle.us_judge.proofs.format.Format.plan.Goals as goal

pub returns : goal.returns
returns c =
    let kept : c.self.inside.plans ≡ map plan_for (declaration_of c.args.self.now).parts = subst (λ (v : Declared). c.self.inside.plans ≡ map plan_for (declaration_of v).parts) c.self.view_is c.self.invariant.plans_are in
    let below : c.args.part - 1 < length (declaration_of c.args.self.now).parts = omega (arith, c.requires.from_one, c.requires.part) in
    kept_plan (declaration_of c.args.self.now) c.as_slice.result.now (c.args.part - 1) c.index-as_slice-part.result (c.as_slice.ensures ∙ kept) below c.index-as_slice-part.is
