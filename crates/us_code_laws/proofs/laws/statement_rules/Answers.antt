use Rattle.us_code_laws.proofs.Rules.{statement_rules}
use Rattle.us_code_laws.proofs.laws.statement_rules.Goals as goal

pub returns : goal.returns
returns c = statement_rules
