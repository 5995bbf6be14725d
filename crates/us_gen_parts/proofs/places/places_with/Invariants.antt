use Rattle.us_format.specs.Program.{plain_shape}
use Rattle.us_judge.specs.Views.{plain_part}
use Rattle.us_gen_parts.proofs.Placed.{ArePlaced}
use Rattle.us_gen_parts.proofs.places.places_with.Given as goal

abbrev pub invariant-loop-level : goal.invariant-loop-level
invariant-loop-level l = ArePlaced l.start (plain_shape l.shape) (plain_part l.part) l.level l.loops.items l.slots.items l.own
