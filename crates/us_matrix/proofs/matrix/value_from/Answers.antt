use Rattle.std.proofs.Common.{arith, inl, inr}
use Rattle.us_matrix.proofs.Search.{not_first}
use Rattle.us_matrix.proofs.matrix.value_from.Goals as goal

pub returns-in_default-2 : goal.returns-in_default-2
returns-in_default-2 c = not_first c.args.i c.args.j c.args.entries.now _ c.requires (omega arith) (inr c.if-t-j.false)

pub returns-in_default-3 : goal.returns-in_default-3
returns-in_default-3 c = not_first c.args.i c.args.j c.args.entries.now _ c.requires (omega arith) (inl c.if-t-i.false)
