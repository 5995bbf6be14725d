use Rattle.std.proofs.Common.{◌≡◌, ◌+◌, ◌-◌, ◌<◌, ℕ, [], length, refl, sym, ap, subst, ◌∙◌, arith, drop}
use Rattle.us_format.specs.Declaration.{Part}
use Rattle.us_format.specs.Program.{entries_in, shape_in}
use Rattle.us_format.specs.Reading.{buffer_count}
use Rattle.us_matrix.specs.Map.{Map}
use Rattle.us_judge.specs.Format.{part_at}
use Rattle.us_judge.specs.Views.{declaration_of}
use Rattle.us_levels.specs.Comparable.{IsComparable}
use Rattle.us_levels.specs.Differences.{part_difference}
use Rattle.us_levels.proofs.Starting.{left-all, left-found, left-here, left-next, left-none}
use Rattle.us_levels.proofs.differing.parts_difference.Goals as goal

pub loop-number-init : goal.loop-number-init
loop-number-init c = left-all (declaration_of c.args.format.now).parts c.args.shares.now c.args.buffers.now c.requires.comparable

pub numbered_difference-requires-clause-part : goal.numbered_difference-requires-clause-part
numbered_difference-requires-clause-part c = omega (arith, c.loop-number-test.true, c.count-number-end.ensures, c.requires.count)

pub numbered_difference-requires-clause-comparable : goal.numbered_difference-requires-clause-comparable
numbered_difference-requires-clause-comparable c =
    let none : Part = record { names = 0; queries = []; levels = []; trim = []; merge = []; packs = [] } in
    let empty : Map = record { rows = 0; cols = 0; entries = [] } in
    let below : c.loop-number.number < length (declaration_of c.args.format.now).parts = omega (arith, c.loop-number-test.true, c.count-number-end.ensures, c.requires.count) in
    let back : c.loop-number.number + 1 - 1 ≡ c.loop-number.number = omega arith in
    subst (λ (i : ℕ). IsComparable (shape_in c.at-matrix.result.now) (part_at (declaration_of c.args.format.now) i) (entries_in c.at-matrix.result.now) (drop c.loop-number.first c.args.buffers.now)) (sym back)
    (left-here (declaration_of c.args.format.now).parts c.args.shares.now c.args.buffers.now c.loop-number.number c.loop-number.first none empty c.at-matrix.result.now below c.requires.count c.loop-number.invariant (c.at-matrix.ensures empty))

pub numbered_difference-requires-clause-room : goal.numbered_difference-requires-clause-room
numbered_difference-requires-clause-room c = omega (arith, c.loop-number.invariant.low, c.loop-number-test.true, c.count-number-end.ensures, c.requires.few)

pub returns-then-is_some : goal.returns-then-is_some
returns-then-is_some c =
    let none : Part = record { names = 0; queries = []; levels = []; trim = []; merge = []; packs = [] } in
    let empty : Map = record { rows = 0; cols = 0; entries = [] } in
    let below : c.loop-number.number < length (declaration_of c.args.format.now).parts = omega (arith, c.loop-number-test.true, c.count-number-end.ensures, c.requires.count) in
    let back : c.loop-number.number + 1 - 1 ≡ c.loop-number.number = omega arith in
    left-found (declaration_of c.args.format.now).parts c.args.shares.now c.args.buffers.now c.loop-number.number c.loop-number.first none empty c.at-matrix.result.now below c.requires.count c.loop-number.invariant (c.at-matrix.ensures empty)
    c.in_ok-found.found (c.in_ok-found.ensures ∙ ap (λ (i : ℕ). part_difference c.loop-number.first (shape_in c.at-matrix.result.now) (part_at (declaration_of c.args.format.now) i) (entries_in c.at-matrix.result.now) c.args.buffers.now) back) (sym c.is_some.ensures ∙ c.if-is_some.true)

pub part_buffers-first-requires-clause-part : goal.part_buffers-first-requires-clause-part
part_buffers-first-requires-clause-part c = omega (arith, c.loop-number-test.true, c.count-number-end.ensures, c.requires.count)

pub overflow_add-first : goal.overflow_add-first
overflow_add-first c = record { fits = omega (arith, c.loop-number.invariant.low, c.loop-number-test.true, c.count-number-end.ensures, c.requires.few, c.part_buffers-first.ensures.few) }

pub loop-number-preserved : goal.loop-number-preserved
loop-number-preserved c =
    let none : Part = record { names = 0; queries = []; levels = []; trim = []; merge = []; packs = [] } in
    let empty : Map = record { rows = 0; cols = 0; entries = [] } in
    let below : c.loop-number.number < length (declaration_of c.args.format.now).parts = omega (arith, c.loop-number-test.true, c.count-number-end.ensures, c.requires.count) in
    let back : c.loop-number.number + 1 - 1 ≡ c.loop-number.number = omega arith in
    left-next (declaration_of c.args.format.now).parts c.args.shares.now c.args.buffers.now c.loop-number.number c.loop-number.first none empty c.at-matrix.result.now below c.requires.count c.loop-number.invariant (c.at-matrix.ensures empty)
    c.in_ok-found.found (c.in_ok-found.ensures ∙ ap (λ (i : ℕ). part_difference c.loop-number.first (shape_in c.at-matrix.result.now) (part_at (declaration_of c.args.format.now) i) (entries_in c.at-matrix.result.now) c.args.buffers.now) back) (sym c.is_some.ensures ∙ c.if-is_some.false) c.part_buffers-first.result (c.loop-number.first + c.part_buffers-first.result)
    (c.part_buffers-first.ensures.count ∙ ap (λ (i : ℕ). buffer_count (part_at (declaration_of c.args.format.now) i)) back) c.part_buffers-first.ensures.few refl

pub returns : goal.returns
returns c =
    left-none (declaration_of c.args.format.now).parts c.args.shares.now c.args.buffers.now c.loop-number.number c.loop-number.first
    (omega (arith, c.loop-number-test.false, c.count-number-end.ensures, c.requires.count)) c.loop-number.invariant
