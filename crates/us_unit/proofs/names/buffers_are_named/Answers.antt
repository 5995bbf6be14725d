use Rattle.us_code_print.specs.ReadBack.{NamedBufs}
use Rattle.us_unit.proofs.Named.{no_more}
use Rattle.us_unit.proofs.names.buffers_are_named.Goals as goal

pub loop-buf-init : goal.loop-buf-init
loop-buf-init c = λ h. h

pub returns : goal.returns
returns c = no_more NamedBufs c.args.bufs.now c.loop-buf.buf-index c.loop-buf-test.false tt c.loop-buf.invariant
