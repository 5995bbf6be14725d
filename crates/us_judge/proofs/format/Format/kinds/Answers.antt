use Rattle.std.proofs.Common.{◌≡◌, ◌<◌, ◌-◌, map, length, subst, ◌∙◌, arith}
use Rattle.us_decl.specs.Declares.{Declared}
use Rattle.us_judge.specs.Kinds.{kinds_of}
use Rattle.us_judge.specs.Views.{declaration_of}
use Rattle.us_judge.proofs.PartKinds.{kept_kinds}
use Rattle.us_judge.proofs.format.Format.kinds.Goals as goal

pub returns : goal.returns
returns c =
    let kept : c.self.inside.kinds ≡ map kinds_of (declaration_of c.args.self.now).parts = subst (λ (v : Declared). c.self.inside.kinds ≡ map kinds_of (declaration_of v).parts) c.self.view_is c.self.invariant.kinds_are in
    let below : c.args.part - 1 < length (declaration_of c.args.self.now).parts = omega (arith, c.requires.from_one, c.requires.part) in
    c.as_slice-2.ensures
    ∙ kept_kinds (declaration_of c.args.self.now) c.as_slice.result.now (c.args.part - 1) c.index-as_slice-part.result (c.as_slice.ensures ∙ kept) below c.index-as_slice-part.is
