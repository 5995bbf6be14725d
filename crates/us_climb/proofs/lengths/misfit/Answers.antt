use Rattle.us_judge.proofs.Valid.{short-valid}
use Rattle.us_climb.proofs.lengths.misfit.Goals as goal

pub parts_misfit-requires-clause-few : goal.parts_misfit-requires-clause-few
parts_misfit-requires-clause-few c = (short-valid c.args.format.now c.first_part.ensures.valid).few
