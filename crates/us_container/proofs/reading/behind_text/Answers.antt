use Rattle.us_format.specs.Program.{plain_shape}
use Rattle.us_container.proofs.Chain.{no_shape, with_shape}
use Rattle.us_container.proofs.reading.behind_text.Goals as goal

pub returns-in-Ok : goal.returns-in-Ok
returns-in-Ok c = with_shape c.args.len c.args.format c.args.rest.now (plain_shape c.in-Ok.shape) c.in-Ok.rest.now c.buffers_in.result c.in-Ok.ensures.is c.buffers_in.ensures

pub returns-in-Err : goal.returns-in-Err
returns-in-Err c = no_shape c.args.len c.args.format c.args.rest.now c.in-Err.fault c.in-Err.ensures.is
