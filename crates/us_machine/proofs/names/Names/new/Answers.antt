use Rattle.us_machine.proofs.Held.{held_new}
use Rattle.us_machine.proofs.names.Names.new.Goals as goal

pub returns : goal.returns
returns c = held_new record { low = c.in_ok-vec.field-0; high = c.new.result } c.args.bound (c.in_ok-vec.ensures.items_if_clones_equal (λ y h. h)) c.new.ensures.empty
