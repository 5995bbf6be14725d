use Rattle.std.proofs.Common.{refl, ap, ◌+◌, ◌∙◌, arith, w64}
use Rattle.std.proofs.lemmas.Int.{to_z-of_z}
use Rattle.us_expr.proofs.Bounds.{near_fits}
use Rattle.us_judge.specs.Views.{plain_part}
use Rattle.us_gen_parts.proofs.OwnPieces.{starts-here, cells-behind}
use Rattle.us_gen_parts.proofs.LevelPlaces.{loop-is}
use Rattle.us_gen_parts.proofs.levels.loop_of.Goals as goal

pub place_of-crd-requires-clause-own : goal.place_of-crd-requires-clause-own
place_of-crd-requires-clause-own c packed =
    ap (λ n. n + 1) c.requires.own ∙ cells-behind (plain_part c.args.part.now) c.args.level c.requires.level c.requires.nodes packed

pub returns : goal.returns
returns c =
    loop-is c.args.start (plain_part c.args.part.now) c.args.level c.args.own _ c.args.range _ _ _
    (c.requires.own ∙ starts-here (plain_part c.args.part.now) c.args.level c.requires.level c.requires.nodes) refl c.nodes_of.ensures c.place_of-crd.ensures
    (to_z-of_z w64 c.args.range.lo (near_fits 64 c.args.range.lo (omega arith) c.requires.lo))
