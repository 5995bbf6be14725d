use Rattle.std.proofs.Common.{◌≡◌, drop}
use Rattle.us_code.specs.Plain.{plain_list}
use Rattle.us_bounds.specs.Seen.{behind, context_of}
use Rattle.us_bounds.proofs.leaving.leave.Given as goal

abbrev pub invariant-loop-stmt : goal.invariant-loop-stmt
invariant-loop-stmt l = behind (plain_list l.stmts) (context_of l.fn.table) ≡ behind (plain_list (drop l.stmt-index l.stmts)) (context_of l.table)
