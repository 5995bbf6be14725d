use Rattle.us_code_laws.proofs.Unbounds.{unbound_means_untyped}
use Rattle.us_code_laws.proofs.laws.unbound_means_untyped.Goals as goal

pub returns : goal.returns
returns c = unbound_means_untyped
