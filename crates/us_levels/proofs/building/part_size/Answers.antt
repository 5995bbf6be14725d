use Rattle.std.specs.Result.{IfOk}
use Rattle.std.proofs.Common.{◌≡◌, ◌+◌, ◌-◌, [], min, sym, ap, subst, ◌∙◌, arith}
use Rattle.us_format.specs.Declaration.{Part}
use Rattle.us_format.specs.Laws.{unpacked_size}
use Rattle.us_format.specs.Program.{entries_in, shape_in}
use Rattle.us_format.specs.Reading.{limit}
use Rattle.us_judge.specs.Kinds.{kinds_of}
use Rattle.us_parts.specs.Storable.{IsStorable}
use Rattle.us_levels.proofs.Acceptable.{storable-each}
use Rattle.us_levels.proofs.building.part_size.Goals as goal

pub size_of_part-requires-clause-kinds : goal.size_of_part-requires-clause-kinds
size_of_part-requires-clause-kinds c = c.kinds.ensures ∙ ap kinds_of (sym c.part.ensures.is)

pub size_of_part-requires-clause-storable : goal.size_of_part-requires-clause-storable
size_of_part-requires-clause-storable c =
    subst IsStorable (sym c.part.ensures.is)
    (storable-each c.args.format.now c.part.ensures.valid c.part.ensures.accepted (c.args.part - 1) (record { names = 0; queries = []; levels = []; trim = []; merge = []; packs = [] })
    (omega (arith, c.requires.from_one, c.requires.part)))

pub returns : goal.returns
returns c =
    subst (λ (p : Part). IfOk c.size_of_part.result (λ n. n ≡ min (unpacked_size (shape_in c.args.matrix.now) p (entries_in c.args.matrix.now)) (limit + 1))) c.part.ensures.is c.size_of_part.ensures
