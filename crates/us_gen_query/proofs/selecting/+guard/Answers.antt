use Rattle.std.proofs.Common.{length-drop, arith}
use Rattle.std.proofs.lemmas.List.{length-take}
use Rattle.us_gen_query.specs.declared.selecting.Test.{Test}
use Rattle.us_gen_query.proofs.selecting.+guard.Goals as goal

pub guard-requires : goal.guard-requires
guard-requires t c =
    let some = c.in-len1-up.len_at_least in
    let bound = c.requires in
    let measure = c.decreases in
    (omega (arith, length-take {A = Test}, length-drop {A = Test}), omega (arith, length-take {A = Test}, length-drop {A = Test}))
