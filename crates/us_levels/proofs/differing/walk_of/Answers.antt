use Rattle.std.proofs.lemmas.Result.{IfOk-weaker}
use Rattle.us_format.specs.Declaration.{Part}
use Rattle.us_format.specs.Program.{entries_in, shape_in}
use Rattle.us_judge.specs.Views.{plain_part}
use Rattle.us_build.specs.Pieces.{IsPartOf}
use Rattle.us_build.specs.Ways.{IsStartOf, IsStartOn, Way}
use Rattle.us_parts.proofs.Storing.{buildable, entries-are, is-part, shape-is}
use Rattle.us_levels.proofs.Starting.{begun}
use Rattle.us_levels.proofs.differing.walk_of.Goals as goal

pub start-requires : goal.start-requires
start-requires c =
    buildable c.args.part.now c.args.matrix.now c.requires.storable c.args.variables.now c.requires.variables c.requires.few c.requires.countable c.as_slice-levels.result.now c.args.kinds.now c.as_slice-queries.result.now
    c.shape.result c.entries.result.now c.as_slice-levels.ensures c.requires.kinds c.as_slice-queries.ensures c.shape.ensures.value c.entries.ensures.value c.entries.ensures.matrix

pub returns : goal.returns
returns c =
    IfOk-weaker c.start.result (λ (w : Way). (p : Part) → IsPartOf p c.as_slice-levels.result.now c.args.kinds.now c.as_slice-queries.result.now c.args.variables.now → IsStartOn c.shape.result p c.entries.result.now w)
    (IsStartOf (shape_in c.args.matrix.now) (plain_part c.args.part.now) (entries_in c.args.matrix.now))
    (λ w h. begun c.args.part.now c.args.matrix.now c.as_slice-levels.result.now c.args.kinds.now c.as_slice-queries.result.now c.args.variables.now c.shape.result c.entries.result.now
    (shape-is c.args.part.now c.args.matrix.now c.requires.storable c.args.variables.now c.requires.variables c.requires.few c.requires.countable c.as_slice-levels.result.now c.args.kinds.now c.as_slice-queries.result.now
    c.shape.result c.entries.result.now c.as_slice-levels.ensures c.requires.kinds c.as_slice-queries.ensures c.shape.ensures.value c.entries.ensures.value)
    (entries-are c.args.part.now c.args.matrix.now c.requires.storable c.args.variables.now c.requires.variables c.requires.few c.requires.countable c.as_slice-levels.result.now c.args.kinds.now c.as_slice-queries.result.now
    c.shape.result c.entries.result.now c.as_slice-levels.ensures c.requires.kinds c.as_slice-queries.ensures c.shape.ensures.value c.entries.ensures.value)
    (is-part c.args.part.now c.args.matrix.now c.requires.storable c.args.variables.now c.requires.variables c.requires.few c.requires.countable c.as_slice-levels.result.now c.args.kinds.now c.as_slice-queries.result.now
    c.shape.result c.entries.result.now c.as_slice-levels.ensures c.requires.kinds c.as_slice-queries.ensures c.shape.ensures.value c.entries.ensures.value)
    w h) c.start.ensures
