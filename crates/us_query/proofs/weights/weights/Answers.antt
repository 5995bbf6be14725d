use Rattle.std.proofs.Common.{◌∙◌}
use Rattle.us_format.specs.Program.{plain_shape}
use Rattle.us_query.proofs.Tallies.{indices-of, inside}
use Rattle.us_query.proofs.weights.weights.Goals as goal

pub tally-requires : goal.tally-requires
tally-requires c =
    inside c.args.axis c.args.matrix.now c.entries-entries.result.now c.indices.result c.entries-entries.ensures.matrix c.entries-entries.ensures.value
    (c.indices.ensures ∙ indices-of c.args.axis c.args.matrix.now (plain_shape c.shape-shape.result) c.shape-shape.ensures.value.0 c.shape-shape.ensures.value.1)
