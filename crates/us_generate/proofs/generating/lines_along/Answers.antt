use Rattle.us_inputs.specs.Views.{contained_of}
use Rattle.us_generate.proofs.GenerateLemmas.{told_is}
use Rattle.us_generate.proofs.generating.lines_along.Goals as goal

pub returns-in-Ok-clause-made : goal.returns-in-Ok-clause-made
returns-in-Ok-clause-made c =
    told_is c.args.held.matrix (contained_of c.args.held) c.args.formats.now c.go_along.new.journey.held c.go_along.new.journey.lines.items c.go_along.new.journey.listing.items
    c.args.last.now c.with_last.result c.in-Ok.ensures.along c.requires.held c.requires.last c.with_last.ensures.lines
