use Rattle.std.proofs.Common.{ℕ, ◌-◌, ◌<◌, ◌≤◌, ◌^◌, List, length, sym, ap, subst, ◌∙◌, arith}
use Rattle.std.specs.List.{All}
use Rattle.us_format.specs.Declaration.{Part}
use Rattle.us_format.specs.Program.{plain_shape}
use Rattle.us_format.specs.Reading.{extents_in}
use Rattle.us_judge.specs.Format.{part_at}
use Rattle.us_judge.specs.Short.{IsShort}
use Rattle.us_judge.specs.Views.{declaration_of}
use Rattle.us_judge.proofs.SomePart.{short-part}
use Rattle.us_climb.specs.Layout.{IsLayout}
use Rattle.us_climb.proofs.PartTests.{extents-few}
use Rattle.us_climb.proofs.layout.Layout.read.Goals as goal

pub extents_of-extents-requires-clause-short : goal.extents_of-extents-requires-clause-short
extents_of-extents-requires-clause-short c =
    let below : c.args.number - 1 < length (declaration_of c.args.format.now).parts = omega (arith, c.requires.from_one, c.requires.part) in
    subst IsShort (sym c.part.ensures.is) (short-part c.args.format.now (c.args.number - 1) c.part.ensures.valid below)

pub of-requires-clause-extents : goal.of-requires-clause-extents
of-requires-clause-extents c =
    subst (λ (ns : List ℕ). All (λ n. n ≤ 2 ^ 31) ns)
    (sym (c.as_slice.ensures.value ∙ c.extents_of-extents.ensures ∙ ap (λ (q : Part). extents_in c.args.first c.args.buffers.now q.queries) c.part.ensures.is))
    (extents-few c.args.first c.args.buffers.now (part_at (declaration_of c.args.format.now) (c.args.number - 1)).queries c.requires.extents)

pub returns : goal.returns
returns c =
    subst (λ (ns : List ℕ). IsLayout c.args.first (plain_shape c.args.shape) ns (part_at (declaration_of c.args.format.now) (c.args.number - 1)) c.of.result)
    (c.as_slice.ensures.value ∙ c.extents_of-extents.ensures ∙ ap (λ (q : Part). extents_in c.args.first c.args.buffers.now q.queries) c.part.ensures.is) c.of.ensures
