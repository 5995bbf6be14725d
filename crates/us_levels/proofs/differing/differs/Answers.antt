use Rattle.std.specs.Result.{IfOk}
use Rattle.std.proofs.Common.{◌≡◌, Option, sym, ap, subst, ◌∙◌, arith}
use Rattle.us_format.specs.Declaration.{Declaration}
use Rattle.us_decl.specs.declared.decl.Body.TheVariants as body
use Rattle.us_judge.specs.Views.{declaration_of, plain_body, plain_part}
use Rattle.us_judge.proofs.LawfulDeclarations.{accepted-declaration}
use Rattle.us_judge.proofs.SomePart.{some-part}
use Rattle.us_judge.proofs.Valid.{plain-is}
use Rattle.us_levels.specs.declared.differing.Difference.{Difference}
use Rattle.us_levels.proofs.Starting.{comparable-one, comparable-parts, few-in, few-parts, one-difference, whole-difference}
use Rattle.us_levels.proofs.differing.differs.Goals as goal

pub numbered_difference-requires-clause-part : goal.numbered_difference-requires-clause-part
numbered_difference-requires-clause-part c = some-part c.args.format.now c.decl-decl.ensures.valid

pub numbered_difference-requires-clause-comparable : goal.numbered_difference-requires-clause-comparable
numbered_difference-requires-clause-comparable c =
    let is : declaration_of c.args.format.now ≡ plain_body (body.One c.in-One.field-0) = ap declaration_of (sym c.decl-decl.ensures.is) ∙ plain-is c.decl-decl.result.now ∙ ap plain_body c.in-One.is in
    comparable-one c.args.format.now c.decl-decl.ensures.valid c.decl-decl.ensures.accepted (accepted-declaration c.args.format.now c.decl-decl.ensures.valid c.decl-decl.ensures.accepted) c.args.matrix.now c.args.buffers.now c.requires.fitting c.requires.within (plain_part c.in-One.field-0) (ap (λ (d : Declaration). d.parts) is)
    (few-in c.args.format.now c.decl-decl.ensures.valid c.decl-decl.ensures.accepted (accepted-declaration c.args.format.now c.decl-decl.ensures.valid c.decl-decl.ensures.accepted) c.args.matrix.now c.args.buffers.now c.requires.fitting c.requires.within c.requires.means)

pub returns-in-One : goal.returns-in-One
returns-in-One c =
    let is : declaration_of c.args.format.now ≡ plain_body (body.One c.in-One.field-0) = ap declaration_of (sym c.decl-decl.ensures.is) ∙ plain-is c.decl-decl.result.now ∙ ap plain_body c.in-One.is in
    subst (λ r. IfOk c.numbered_difference.result (λ (d : Option Difference). d ≡ r)) (sym (one-difference c.args.format.now c.decl-decl.ensures.valid c.decl-decl.ensures.accepted (accepted-declaration c.args.format.now c.decl-decl.ensures.valid c.decl-decl.ensures.accepted) c.args.matrix.now c.args.buffers.now c.requires.fitting c.requires.within (plain_part c.in-One.field-0) (ap (λ (d : Declaration). d.parts) is) (ap (λ (d : Declaration). d.conds) is)))
    c.numbered_difference.ensures

pub shares_of-requires-clause-queries : goal.shares_of-requires-clause-queries
shares_of-requires-clause-queries c =
    let is : declaration_of c.args.format.now ≡ plain_body (body.Split c.in-Split.head c.in-Split.parts) = ap declaration_of (sym c.decl-decl.ensures.is) ∙ plain-is c.decl-decl.result.now ∙ ap plain_body c.in-Split.is in
    ap (λ (d : Declaration). d.head) is

pub shares_of-requires-clause-conds : goal.shares_of-requires-clause-conds
shares_of-requires-clause-conds c =
    let is : declaration_of c.args.format.now ≡ plain_body (body.Split c.in-Split.head c.in-Split.parts) = ap declaration_of (sym c.decl-decl.ensures.is) ∙ plain-is c.decl-decl.result.now ∙ ap plain_body c.in-Split.is in
    ap (λ (d : Declaration). d.conds) is

pub shares_of-requires-clause-few : goal.shares_of-requires-clause-few
shares_of-requires-clause-few c = few-in c.args.format.now c.decl-decl.ensures.valid c.decl-decl.ensures.accepted (accepted-declaration c.args.format.now c.decl-decl.ensures.valid c.decl-decl.ensures.accepted) c.args.matrix.now c.args.buffers.now c.requires.fitting c.requires.within c.requires.means

pub parts_difference-requires-clause-few : goal.parts_difference-requires-clause-few
parts_difference-requires-clause-few c = omega (arith, c.in_ok-shares-in-Split.ensures.count, few-parts c.args.format.now c.decl-decl.ensures.valid c.decl-decl.ensures.accepted (accepted-declaration c.args.format.now c.decl-decl.ensures.valid c.decl-decl.ensures.accepted) c.args.matrix.now c.args.buffers.now)

pub parts_difference-requires-clause-comparable : goal.parts_difference-requires-clause-comparable
parts_difference-requires-clause-comparable c =
    comparable-parts c.args.format.now c.decl-decl.ensures.valid c.decl-decl.ensures.accepted (accepted-declaration c.args.format.now c.decl-decl.ensures.valid c.decl-decl.ensures.accepted) c.args.matrix.now c.args.buffers.now c.requires.fitting c.requires.within c.in_ok-shares-in-Split.shares c.in_ok-shares-in-Split.ensures.shares.shapes c.in_ok-shares-in-Split.ensures.few

pub returns-in_ok-shares-in-Split : goal.returns-in_ok-shares-in-Split
returns-in_ok-shares-in-Split c =
    subst (λ r. IfOk c.parts_difference.result (λ (d : Option Difference). d ≡ r)) (whole-difference c.args.format.now c.decl-decl.ensures.valid c.decl-decl.ensures.accepted (accepted-declaration c.args.format.now c.decl-decl.ensures.valid c.decl-decl.ensures.accepted) c.args.matrix.now c.args.buffers.now c.in_ok-shares-in-Split.shares c.in_ok-shares-in-Split.ensures.shares) c.parts_difference.ensures
