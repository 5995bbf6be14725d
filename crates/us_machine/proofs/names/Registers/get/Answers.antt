use Rattle.std.proofs.Common.{rules, FitsSigned, w64, ◌∙◌}
use Rattle.std.proofs.lemmas.Int.{to_z-of_z}
use Rattle.us_machine.proofs.Held.{regs_at}
use Rattle.us_machine.proofs.names.Registers.get.Goals as goal

pub returns : goal.returns
returns c =
    let f : FitsSigned w64 c.cast_signed.result = search rules in
    to_z-of_z w64 c.cast_signed.result f ∙ regs_at c.args.self.now c.args.reg c.get.result c.cast_signed.result c.get.ensures c.cast_signed.ensures
