use Rattle.us_code_laws.proofs.Typings.{typed_wider}
use Rattle.us_code_laws.proofs.laws.typed_where_more_is_visible.Goals as goal

pub returns : goal.returns
returns c = typed_wider
