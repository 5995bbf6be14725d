use Rattle.std.proofs.Common.{◌≡◌, w64, ap, ◌∙◌}
use Rattle.std.specs.Int.{cast_unsigned}
use Rattle.std.proofs.lemmas.Int.{to_z-of_z}
use Rattle.std.proofs.lemmas.Result.{on_ok_weaker}
use Rattle.us_code.specs.Run.{put}
use Rattle.us_machine.specs.Tables.{held}
use Rattle.us_machine.proofs.Held.{regs_set}
use Rattle.us_machine.proofs.names.Registers.set.Goals as goal

pub returns : goal.returns
returns c =
    let v : c.cast_unsigned.result ≡ cast_unsigned w64 c.args.value = c.cast_unsigned.ensures ∙ ap (cast_unsigned w64) (to_z-of_z w64 c.args.value c.ranges.value) in
    on_ok_weaker c.set.result (λ e. regs_set c.args.self.now record { names = c.set.new.self } c.args.reg c.args.value c.ranges.value (e ∙ ap (put (held c.args.self.now.names) c.args.reg) v)) c.set.ensures
