use Rattle.std.proofs.Common.{◌≡◌, take}
use Rattle.us_decl.proofs.copying.copy_packs.Given as goal

abbrev pub invariant-loop-pack : goal.invariant-loop-pack
invariant-loop-pack l = l.copy ≡ take l.pack-index l.packs
