use Rattle.std.specs.Result.{IfOk}
use Rattle.std.proofs.Common.{◌≡◌, ◌+◌, length, min, sym, ap, subst, ◌∙◌, arith}
use Rattle.std.proofs.lemmas.List.{length-map}
use Rattle.us_format.specs.Declaration.{Declaration}
use Rattle.us_format.specs.Program.{entries_in, plain_entry, shape_in}
use Rattle.us_format.specs.Reading.{limit}
use Rattle.us_format.proofs.FromProgram.{program-matrix}
use Rattle.us_decl.specs.declared.decl.Body.TheVariants as body
use Rattle.us_judge.specs.Views.{declaration_of, plain_body, plain_part}
use Rattle.us_judge.proofs.LawfulDeclarations.{accepted-declaration}
use Rattle.us_judge.proofs.Valid.{plain-is}
use Rattle.us_levels.proofs.Sizes.{all-within, one-size}
use Rattle.us_levels.proofs.building.size_of.Goals as goal

pub returns-then-entries-gt-LIMIT : goal.returns-then-entries-gt-LIMIT
returns-then-entries-gt-LIMIT c =
    omega (
      arith,
      c.if-entries-gt-LIMIT.true,
      ap length c.entries.ensures.value,
      length-map c.args.matrix.now.entries plain_entry,
      all-within (shape_in c.args.matrix.now) (declaration_of c.args.format.now) (entries_in c.args.matrix.now) (accepted-declaration c.args.format.now c.decl-decl.ensures.valid c.decl-decl.ensures.accepted) (program-matrix c.args.matrix.now c.entries.ensures.matrix),
    )

pub shares_of-requires-clause-queries : goal.shares_of-requires-clause-queries
shares_of-requires-clause-queries c =
    let is : declaration_of c.args.format.now ≡ plain_body (body.Split c.in-Split.head c.in-Split.parts) = ap declaration_of (sym c.decl-decl.ensures.is) ∙ plain-is c.decl-decl.result.now ∙ ap plain_body c.in-Split.is in
    ap (λ (d : Declaration). d.head) is

pub shares_of-requires-clause-conds : goal.shares_of-requires-clause-conds
shares_of-requires-clause-conds c =
    let is : declaration_of c.args.format.now ≡ plain_body (body.Split c.in-Split.head c.in-Split.parts) = ap declaration_of (sym c.decl-decl.ensures.is) ∙ plain-is c.decl-decl.result.now ∙ ap plain_body c.in-Split.is in
    ap (λ (d : Declaration). d.conds) is

pub returns-in-One : goal.returns-in-One
returns-in-One c =
    let is : declaration_of c.args.format.now ≡ plain_body (body.One c.in-One.field-0) = ap declaration_of (sym c.decl-decl.ensures.is) ∙ plain-is c.decl-decl.result.now ∙ ap plain_body c.in-One.is in
    subst (λ n. IfOk c.part_size.result (λ r. r ≡ min n (limit + 1)))
    (sym (one-size (shape_in c.args.matrix.now) (declaration_of c.args.format.now) (entries_in c.args.matrix.now) (plain_part c.in-One.field-0) (accepted-declaration c.args.format.now c.decl-decl.ensures.valid c.decl-decl.ensures.accepted) (ap (λ (d : Declaration). d.parts) is) (ap (λ (d : Declaration). d.conds) is)))
    c.part_size.ensures

pub returns-in_ok-shares-in-Split : goal.returns-in_ok-shares-in-Split
returns-in_ok-shares-in-Split c = subst (λ n. IfOk c.size_of_parts.result (λ r. r ≡ min n (limit + 1))) c.in_ok-shares-in-Split.ensures.sizes c.size_of_parts.ensures
