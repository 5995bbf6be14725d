use Rattle.us_query_loops.proofs.Defining.{queries-define-variables}
use Rattle.us_query_loops.proofs.laws.queries_define_variables.Goals as goal

pub returns : goal.returns
returns c = queries-define-variables
