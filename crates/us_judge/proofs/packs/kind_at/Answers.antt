use Rattle.std.proofs.Common.{◌<◌, length, ap, ◌∙◌, get_or, zero-add, arith}
use Rattle.std.proofs.lemmas.List.{length-map}
use Rattle.std.proofs.lemmas.List.FromFn.{get_or-map-range_with_len, length-map-range_with_len}
use Rattle.us_expr.specs.Tree.{tree}
use Rattle.us_format.specs.declared.Kind.TheVariants.{Full}
use Rattle.us_format.specs.Kinds.{kind}
use Rattle.us_judge.specs.Views.{plain_part}
use Rattle.us_judge.proofs.packs.kind_at.Goals as goal

pub bounds-kinds-level : goal.bounds-kinds-level
bounds-kinds-level c =
    omega (arith, ap length c.requires.kinds ∙ length-map-range_with_len (kind (plain_part c.args.part.now)) 0 (length (plain_part c.args.part.now).levels), length-map c.args.part.now.levels tree)

pub returns : goal.returns
returns c =
    let below : c.args.level < length (plain_part c.args.part.now).levels = omega (arith, length-map c.args.part.now.levels tree) in
    ap (λ ks. get_or ks c.args.level Full) c.requires.kinds ∙ get_or-map-range_with_len (kind (plain_part c.args.part.now)) 0 (length (plain_part c.args.part.now).levels) c.args.level c.args.level Full below (zero-add c.args.level)
