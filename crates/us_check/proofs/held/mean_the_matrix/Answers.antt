-- The laws of `us_format` hold of an accepted declaration.
use Rattle.us_check.proofs.Accepted.{accepted-means}
use Rattle.us_check.proofs.held.mean_the_matrix.Goals as goal

pub returns : goal.returns
returns c = accepted-means c.args.format.now c.args.matrix.now (c.decl.ensures.valid) c.decl.ensures.accepted c.shape.ensures.matrix c.requires
