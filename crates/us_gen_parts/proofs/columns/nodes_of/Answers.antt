use Rattle.std.proofs.Common.{refl}
use Rattle.us_judge.specs.Views.{plain_part}
use Rattle.us_gen_parts.proofs.ColumnPlaces.{nodes-own, nodes-packed}
use Rattle.us_gen_parts.proofs.columns.nodes_of.Goals as goal

pub returns-in-Own : goal.returns-in-Own
returns-in-Own c = nodes-own c.args.start (plain_part c.args.part.now) c.args.level _ c.args.crd c.in-Own.is c.requires.there

pub returns-in-Packed : goal.returns-in-Packed
returns-in-Packed c = nodes-packed c.args.start (plain_part c.args.part.now) c.args.level _ _ _ _ c.args.crd c.in-Packed.is c.requires.there refl
