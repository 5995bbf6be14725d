use Rattle.std.proofs.Common.{◌≡◌, ◌++◌, drop}
use Rattle.std.specs.List.{flat_map}
use Rattle.us_print.specs.Canon.{line, pack_text}
use Rattle.us_print.proofs.printing.push_packs.Given as goal

abbrev pub invariant-loop-pack : goal.invariant-loop-pack
invariant-loop-pack l = l.out.items ++ flat_map (λ cs. line l.depth (pack_text cs)) (drop l.pack-index l.packs) ≡ l.fn.out.items ++ flat_map (λ cs. line l.depth (pack_text cs)) l.packs
