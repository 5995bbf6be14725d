use Rattle.us_format_loops.proofs.Filled.{positions-follow-coordinates}
use Rattle.us_format_loops.proofs.laws.positions_follow_coordinates.Goals as goal

pub returns : goal.returns
returns c = positions-follow-coordinates
