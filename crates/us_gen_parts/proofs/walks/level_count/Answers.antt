use Rattle.std.proofs.Common.{◌-◌, ◌<◌, ◌≤◌, length, ap, arith}
use Rattle.std.proofs.lemmas.List.{length-map}
use Rattle.us_expr.specs.Tree.{tree}
use Rattle.us_format.specs.Declaration.{Part}
use Rattle.us_judge.specs.Format.{part_at}
use Rattle.us_judge.specs.Views.{declaration_of}
use Rattle.us_judge.proofs.SomePart.{short-part}
use Rattle.us_gen_parts.proofs.walks.level_count.Goals as goal

pub returns-clause-is : goal.returns-clause-is
returns-clause-is c =
    omega (arith, c.len.ensures, length-map c.part-part.result.now.levels tree, ap (λ (p : Part). length p.levels) c.part-part.ensures.is)

pub returns-clause-few : goal.returns-clause-few
returns-clause-few c =
    let below : c.args.number - 1 < length (declaration_of c.args.format.now).parts = omega (arith, c.requires.from_one, c.requires.part) in
    let few : length (part_at (declaration_of c.args.format.now) (c.args.number - 1)).levels ≤ 16 = (short-part c.args.format.now (c.args.number - 1) c.part-part.ensures.valid below).levels in
    omega (arith, few, c.len.ensures, length-map c.part-part.result.now.levels tree, ap (λ (p : Part). length p.levels) c.part-part.ensures.is)

pub overflow_cast-result : goal.overflow_cast-result
overflow_cast-result c =
    let below : c.args.number - 1 < length (declaration_of c.args.format.now).parts = omega (arith, c.requires.from_one, c.requires.part) in
    let few : length (part_at (declaration_of c.args.format.now) (c.args.number - 1)).levels ≤ 16 = (short-part c.args.format.now (c.args.number - 1) c.part-part.ensures.valid below).levels in
    omega (arith, few, c.len.ensures, length-map c.part-part.result.now.levels tree, ap (λ (p : Part). length p.levels) c.part-part.ensures.is)
