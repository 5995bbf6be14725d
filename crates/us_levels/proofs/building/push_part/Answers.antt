use Rattle.std.specs.Result.{IfOk, OnOk}
use Rattle.std.proofs.Common.{◌≡◌, ◌<◌, ◌+◌, ◌-◌, ◌++◌, [], map, sym, ap, subst, ◌∙◌, arith}
use Rattle.us_format.specs.Buffers.{part_buffers}
use Rattle.us_format.specs.Declaration.{Part}
use Rattle.us_format.specs.Laws.{unpacked_size}
use Rattle.us_format.specs.Packs.{written}
use Rattle.us_format.specs.Program.{entries_in, shape_in}
use Rattle.us_format.specs.Reading.{limit}
use Rattle.us_judge.specs.Kinds.{kinds_of}
use Rattle.us_parts.specs.Storable.{IsStorable}
use Rattle.us_levels.proofs.Acceptable.{storable-each}
use Rattle.us_levels.proofs.building.push_part.Goals as goal

pub build_part-requires-clause-kinds : goal.build_part-requires-clause-kinds
build_part-requires-clause-kinds c = c.kinds-kinds.ensures ∙ ap kinds_of (sym c.part.ensures.is)

pub build_part-requires-clause-storable : goal.build_part-requires-clause-storable
build_part-requires-clause-storable c =
    subst IsStorable (sym c.part.ensures.is)
    (storable-each c.args.format.now c.part.ensures.valid c.part.ensures.accepted (c.args.part - 1) (record { names = 0; queries = []; levels = []; trim = []; merge = []; packs = [] })
    (omega (arith, c.requires.from_one, c.requires.part)))

pub returns-clause-built : goal.returns-clause-built
returns-clause-built c =
    subst (λ (p : Part). OnOk c.build_part.result (c.build_part.new.lists ≡ c.args.lists.now ++ map written (part_buffers (shape_in c.args.matrix.now) p (entries_in c.args.matrix.now)))) c.part.ensures.is c.build_part.ensures.built

pub returns-clause-used : goal.returns-clause-used
returns-clause-used c = subst (λ (p : Part). IfOk c.build_part.result (λ n. n ≡ c.args.used + unpacked_size (shape_in c.args.matrix.now) p (entries_in c.args.matrix.now))) c.part.ensures.is c.build_part.ensures.used

pub returns-clause-large : goal.returns-clause-large
returns-clause-large c = λ h. subst (λ (p : Part). limit < c.args.used + unpacked_size (shape_in c.args.matrix.now) p (entries_in c.args.matrix.now)) c.part.ensures.is (c.build_part.ensures.large h)
