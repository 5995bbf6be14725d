use Rattle.std.proofs.Common.{◌≡◌, Option, sym, ap, subst, ◌∙◌, drop}
use Rattle.std.specs.Result.{IfOk}
use Rattle.us_format.specs.Declaration.{Part}
use Rattle.us_format.specs.Program.{entries_in, shape_in}
use Rattle.us_judge.specs.Kinds.{kinds_of}
use Rattle.us_levels.specs.declared.differing.Difference.{Difference}
use Rattle.us_levels.specs.Comparable.{IsComparable}
use Rattle.us_levels.specs.Differences.{part_difference}
use Rattle.us_levels.proofs.differing.numbered_difference.Goals as goal

pub part_difference-requires-clause-kinds : goal.part_difference-requires-clause-kinds
part_difference-requires-clause-kinds c = c.kinds.ensures ∙ ap kinds_of (sym c.part.ensures.is)

pub part_difference-requires-clause-comparable : goal.part_difference-requires-clause-comparable
part_difference-requires-clause-comparable c =
    subst (λ (p : Part). IsComparable (shape_in c.args.matrix.now) p (entries_in c.args.matrix.now) (drop c.args.first c.args.buffers.now)) (sym c.part.ensures.is) c.requires.comparable

pub returns : goal.returns
returns c =
    subst (λ (p : Part). IfOk c.part_difference.result (λ (d : Option Difference). d ≡ part_difference c.args.first (shape_in c.args.matrix.now) p (entries_in c.args.matrix.now) c.args.buffers.now)) c.part.ensures.is
    c.part_difference.ensures
