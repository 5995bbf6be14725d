use Rattle.us_format.specs.Program.{plain_shape}
use Rattle.us_container.proofs.Chain.{no_buffers, with_buffers}
use Rattle.us_container.proofs.reading.buffers_in.Goals as goal

pub returns-in-Ok : goal.returns-in-Ok
returns-in-Ok c =
    with_buffers c.args.len c.args.format (plain_shape c.args.shape) c.args.rest.now c.buffers-wanted.result c.buffers-wanted.ensures c.in-Ok.found c.held_in.result c.in-Ok.ensures c.held_in.ensures

pub returns-in-Err : goal.returns-in-Err
returns-in-Err c = no_buffers c.args.len c.args.format (plain_shape c.args.shape) c.args.rest.now c.buffers-wanted.result c.buffers-wanted.ensures c.in-Err.fault c.in-Err.ensures
