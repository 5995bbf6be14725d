use Rattle.std.proofs.Common.{arith, refl}
use Rattle.std.specs.Vec.{with_item}
use Rattle.us_machine.proofs.Held.{held_set, held_put}
use Rattle.us_machine.proofs.names.Names.set.Goals as goal

pub returns-then-at-len : goal.returns-then-at-len
returns-then-at-len c = held_set c.args.self.now record { low = with_item c.args.self.now.low c.args.name c.args.number; high = c.args.self.now.high } c.args.name c.args.number (omega arith) refl refl

pub returns-in_ok-insert : goal.returns-in_ok-insert
returns-in_ok-insert c = held_put c.args.self.now record { low = c.args.self.now.low; high = c.insert.new.self } c.args.name c.args.number (omega arith) refl c.in_ok-insert.ensures.updates.0
