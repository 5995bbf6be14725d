use Rattle.std.proofs.Common.{refl}
use Rattle.us_bounds.proofs.Leading.{leads_out, leads_done}
use Rattle.us_bounds.proofs.statements.introduce.Goals as goal

pub returns-in_err-add_reg : goal.returns-in_err-add_reg
returns-in_err-add_reg c = leads_out _ _ _ _ _ c.from_residual.ensures.1

pub returns : goal.returns
returns c = leads_done refl refl c.in_ok-add_reg.ensures
