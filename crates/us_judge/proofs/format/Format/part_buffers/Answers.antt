use Rattle.std.proofs.Common.{◌<◌, ◌-◌, length, sym, subst, ap, ◌∙◌, arith}
use Rattle.us_format.specs.Declaration.{Part}
use Rattle.us_format.specs.Reading.{buffer_count}
use Rattle.us_judge.specs.Kinds.{kinds_of}
use Rattle.us_judge.specs.Short.{IsShort}
use Rattle.us_judge.specs.Views.{declaration_of}
use Rattle.us_judge.proofs.SomePart.{short-part}
use Rattle.us_judge.proofs.format.Format.part_buffers.Goals as goal

pub buffer_count-requires-clause-kinds : goal.buffer_count-requires-clause-kinds
buffer_count-requires-clause-kinds c = c.kinds.ensures ∙ ap kinds_of (sym c.part.ensures.is)

pub buffer_count-requires-clause-short : goal.buffer_count-requires-clause-short
buffer_count-requires-clause-short c =
    let below : c.args.part - 1 < length (declaration_of c.args.self.now).parts = omega (arith, c.requires.from_one, c.requires.part) in
    subst IsShort (sym c.part.ensures.is) (short-part c.args.self.now (c.args.part - 1) c.part.ensures.valid below)

pub returns-clause-count : goal.returns-clause-count
returns-clause-count c = c.buffer_count.ensures.count ∙ ap (λ (p : Part). buffer_count p) c.part.ensures.is
