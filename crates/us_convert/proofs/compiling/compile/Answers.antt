use Rattle.std.proofs.Common.{sym, ◌∙◌}
use Rattle.us_code.specs.Plain.{program_tree}
use Rattle.us_judge.specs.Views.{declaration_of}
use Rattle.us_limits.specs.Orders.{HaveNoOrder}
use Rattle.us_convert.proofs.Likeness.{not-alike}
use Rattle.us_convert.proofs.compiling.compile.Goals as goal

pub returns-in_ok-program-2-clause-unsorted : goal.returns-in_ok-program-2-clause-unsorted
returns-in_ok-program-2-clause-unsorted c =
    not-alike (declaration_of c.args.from.now) (declaration_of c.args.to.now) (sym c.is_alike.ensures ∙ c.if-is_alike.false) (λ v. HaveNoOrder (program_tree v).phases) c.verified-else-is_alike.result
