use Rattle.std.proofs.Common.{length-drop, arith}
use Rattle.std.proofs.lemmas.List.{length-take}
use Rattle.us_gen.specs.declared.nests.Level.{Level}
use Rattle.us_gen.proofs.nests.+nest.Goals as goal

pub nest-requires : goal.nest-requires
nest-requires t c =
    let some = c.in-len1-up.len_at_least in
    let bound = c.requires in
    let measure = c.decreases in
    let few = c.names.ensures.few in
    (omega (arith, length-take {A = Level}, length-drop {A = Level}), omega (arith, length-take {A = Level}, length-drop {A = Level}))
