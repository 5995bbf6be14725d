use Rattle.std.proofs.Common.{◌≡◌, ◌+◌, ◌-◌, ℕ, [], min, ap, ◌∙◌, arith}
use Rattle.us_format.specs.Declaration.{Part}
use Rattle.us_format.specs.Laws.{unpacked_size}
use Rattle.us_format.specs.Program.{entries_in, shape_in}
use Rattle.us_format.specs.Reading.{limit}
use Rattle.us_matrix.specs.Map.{Map}
use Rattle.us_judge.specs.Format.{part_at}
use Rattle.us_judge.specs.Views.{declaration_of}
use Rattle.us_levels.proofs.Sizes.{so-far-end, so-far-next, so-far-none}
use Rattle.us_levels.proofs.building.size_of_parts.Goals as goal

pub loop-number-init : goal.loop-number-init
loop-number-init c = so-far-none (declaration_of c.args.format.now).parts c.args.shares.now

pub loop-number-preserved : goal.loop-number-preserved
loop-number-preserved c =
    let none : Part = record { names = 0; queries = []; levels = []; trim = []; merge = []; packs = [] } in
    let empty : Map = record { rows = 0; cols = 0; entries = [] } in
    let back : c.loop-number.number + 1 - 1 ≡ c.loop-number.number = omega arith in
    so-far-next (declaration_of c.args.format.now).parts c.args.shares.now c.loop-number.number c.loop-number.total c.in_ok-size.size c.min-total.result none empty c.at.result.now
    (omega (arith, c.loop-number-test.true, c.count-number-end.ensures, c.requires.count)) c.requires.count c.loop-number.invariant (c.at.ensures empty)
    (c.in_ok-size.ensures ∙ ap (λ (i : ℕ). min (unpacked_size (shape_in c.at.result.now) (part_at (declaration_of c.args.format.now) i) (entries_in c.at.result.now)) (limit + 1)) back) c.min-total.ensures

pub returns : goal.returns
returns c =
    so-far-end (declaration_of c.args.format.now).parts c.args.shares.now c.loop-number.number c.loop-number.total (omega (arith, c.loop-number-test.false, c.count-number-end.ensures, c.requires.count)) c.loop-number.invariant
