use Rattle.std.proofs.Common.{length, ◌∙◌}
use Rattle.std.specs.List.{sum_by}
use Rattle.us_format.specs.Program.{plain_shape}
use Rattle.us_format.specs.Reading.{all_counts_in, limit}
use Rattle.us_judge.specs.Views.{declaration_of}
use Rattle.us_judge.proofs.Valid.{short-valid}
use Rattle.us_climb.proofs.PartTests.{fitting-all}
use Rattle.us_climb.proofs.PartCounts.{left-over}
use Rattle.us_climb.proofs.lengths.is_within_limit.Goals as goal

pub parts_within-requires-clause-few : goal.parts_within-requires-clause-few
parts_within-requires-clause-few c = (short-valid c.args.format.now c.first_part.ensures.valid).few

pub parts_within-requires-clause-fitting : goal.parts_within-requires-clause-fitting
parts_within-requires-clause-fitting c = fitting-all (plain_shape c.args.shape) (declaration_of c.args.format.now) c.args.buffers.now c.requires.fitting

pub returns : goal.returns
returns c =
    c.parts_within.ensures
    ∙ left-over (sum_by length c.args.buffers.now) (all_counts_in (plain_shape c.args.shape) (declaration_of c.args.format.now).parts c.args.buffers.now) c.in-Some.left limit c.in-Some.ensures
