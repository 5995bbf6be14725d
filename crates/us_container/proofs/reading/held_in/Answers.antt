use Rattle.std.proofs.Common.{sym, subst}
use Rattle.std.specs.Prelude.{Err}
use Rattle.us_format.specs.Program.{plain_shape}
use Rattle.us_container.specs.declared.fault.ContainerFault.{ContainerFault}
use Rattle.us_container.specs.Contained.{TellsContained, held_in}
use Rattle.us_container.proofs.Chain.{not_well_formed, holds}
use Rattle.us_container.proofs.reading.held_in.Goals as goal

pub returns-in-Ok : goal.returns-in-Ok
returns-in-Ok c = holds 0 c.args.format (plain_shape c.args.shape) c.args.buffers c.in-Ok.held c.in-Ok.ensures.reason

pub returns-in-Err : goal.returns-in-Err
returns-in-Err c =
    subst (λ (f : ContainerFault). TellsContained (held_in c.args.format (plain_shape c.args.shape) c.args.buffers) (Err f)) (sym c.from.ensures)
    (not_well_formed 0 c.args.format (plain_shape c.args.shape) c.args.buffers c.in-Err.broken c.in-Err.ensures.reason)
