use Rattle.us_sample.specs.Numbers.{sample_of}
use Rattle.us_inputs.specs.Steps.{OfFile, within_limit}
use Rattle.us_inputs.specs.Views.{contained_of}
use Rattle.us_inputs.proofs.HeldLemmas.{held_is}
use Rattle.us_generate.proofs.GenerateLemmas.{held_as_file, sample_not_held}
use Rattle.us_generate.proofs.generating.lines_of.Goals as goal

pub lines_along-requires-clause-held : goal.lines_along-requires-clause-held
lines_along-requires-clause-held c =
    held_as_file c.in-Ok-hold.held c.in-Ok.matrix c.in-Ok-hold.ensures.matrix
    (held_is (OfFile c.in-Ok.matrix) (contained_of c.in-Ok-hold.held) c.in-Ok-hold.ensures.plain)

pub returns-clause-plain : goal.returns-clause-plain
returns-clause-plain c =
    sample_not_held c.args.seed c.args.shape.rows c.args.shape.cols c.args.count c.in-Ok.matrix
    (within_limit (sample_of c.args.seed c.args.shape.rows c.args.shape.cols c.args.count) 1 c.args.formats.now) c.in-Err.status c.requires.count c.in-Ok.ensures.matrix c.in-Err.ensures.plain
