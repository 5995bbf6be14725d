use Rattle.std.proofs.Common.{ap, ◌∙◌}
use Rattle.us_layout.specs.Splitting.{share_of}
use Rattle.us_layout.proofs.Shared.{share-inside, share-matrix}
use Rattle.us_layout.proofs.splitting.matrix_of.Goals as goal

pub from_triples-requires-clause-inside : goal.from_triples-requires-clause-inside
from_triples-requires-clause-inside c =
    share-inside c.args.matrix.now c.args.parts.now c.args.part c.shape.result.rows c.shape.result.cols c.in_ok-share.share.items c.shape.ensures.matrix c.shape.ensures.value.0 c.shape.ensures.value.1
    (c.in_ok-share.ensures ∙ ap (share_of c.args.part c.args.parts.now) c.entries.ensures.value)

pub returns : goal.returns
returns c =
    c.from_triples.ensures.matrix
    ∙ share-matrix c.args.matrix.now c.args.parts.now c.args.part c.shape.result.rows c.shape.result.cols c.in_ok-share.share.items c.shape.ensures.matrix c.shape.ensures.value.0 c.shape.ensures.value.1
    (c.in_ok-share.ensures ∙ ap (share_of c.args.part c.args.parts.now) c.entries.ensures.value)
