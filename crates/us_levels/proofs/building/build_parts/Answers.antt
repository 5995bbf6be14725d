use Rattle.std.specs.Prelude.{ℤ}
use Rattle.std.proofs.Common.{◌≡◌, ◌+◌, ◌-◌, ◌<◌, ◌++◌, ℕ, List, [], map, sym, ap, subst, ◌∙◌, arith}
use Rattle.std.proofs.lemmas.Result.{err_from_is_err_and}
use Rattle.us_build.specs.declared.fault.BuildFault.TheVariants.{TooLarge}
use Rattle.us_format.specs.Buffers.{part_buffers}
use Rattle.us_format.specs.Declaration.{Part}
use Rattle.us_format.specs.Laws.{unpacked_size}
use Rattle.us_format.specs.Packs.{written}
use Rattle.us_format.specs.Program.{entries_in, shape_in}
use Rattle.us_format.specs.Reading.{limit}
use Rattle.us_matrix.specs.Map.{Map}
use Rattle.us_judge.specs.Format.{part_at}
use Rattle.us_judge.specs.Views.{declaration_of}
use Rattle.us_levels.proofs.Joined.{IsBuiltTo, built-all, built-large, built-next, built-none, built-small, failed_size, same_fault}
use Rattle.us_levels.proofs.building.build_parts.Goals as goal

abbrev none : Part
none = record { names = 0; queries = []; levels = []; trim = []; merge = []; packs = [] }

abbrev empty : Map
empty = record { rows = 0; cols = 0; entries = [] }

pub loop-number-init : goal.loop-number-init
loop-number-init c =
    subst (λ (l : List (List ℤ)). IsBuiltTo (declaration_of c.args.format.now).parts c.args.shares.now 0 l 0) (sym c.new-lists.ensures) (built-none (declaration_of c.args.format.now).parts c.args.shares.now)

pub push_part-requires-clause-part : goal.push_part-requires-clause-part
push_part-requires-clause-part c = omega (arith, c.loop-number-test.true, c.count-number-end.ensures, c.requires.count)

pub push_part-requires-clause-used : goal.push_part-requires-clause-used
push_part-requires-clause-used c = c.loop-number.invariant.small

pub returns-in_err-used-clause-large : goal.returns-in_err-used-clause-large
returns-in_err-used-clause-large c =
    let back : c.loop-number.number + 1 - 1 ≡ c.loop-number.number = omega arith in
    let y = err_from_is_err_and c.from_residual.result c.from_residual.ensures.1 in
    λ h. let e : y.0 ≡ TooLarge = same_fault y.0 TooLarge (sym y.1 ∙ h) in
    built-large (declaration_of c.args.format.now).parts c.args.shares.now c.loop-number.number none empty c.at-matrix.result.now c.loop-number.lists c.loop-number.used
    (omega (arith, c.loop-number-test.true, c.count-number-end.ensures, c.requires.count)) c.requires.count (c.at-matrix.ensures empty) c.loop-number.invariant
    (subst (λ (i : ℕ). limit < c.loop-number.used + unpacked_size (shape_in c.at-matrix.result.now) (part_at (declaration_of c.args.format.now) i) (entries_in c.at-matrix.result.now)) back (c.in_err-used.ensures.large (ap failed_size (sym y.2 ∙ e))))

pub loop-number-preserved : goal.loop-number-preserved
loop-number-preserved c =
    let back : c.loop-number.number + 1 - 1 ≡ c.loop-number.number = omega arith in
    built-next (declaration_of c.args.format.now).parts c.args.shares.now c.loop-number.number none empty c.at-matrix.result.now c.loop-number.lists c.loop-number.used
    (omega (arith, c.loop-number-test.true, c.count-number-end.ensures, c.requires.count)) c.requires.count (c.at-matrix.ensures empty) c.loop-number.invariant
    c.push_part.new.lists c.in_ok-used.used
    (c.in_ok-used.ensures.built ∙ ap (λ (i : ℕ). c.loop-number.lists ++ map written (part_buffers (shape_in c.at-matrix.result.now) (part_at (declaration_of c.args.format.now) i) (entries_in c.at-matrix.result.now))) back)
    (c.in_ok-used.ensures.used ∙ ap (λ (i : ℕ). c.loop-number.used + unpacked_size (shape_in c.at-matrix.result.now) (part_at (declaration_of c.args.format.now) i) (entries_in c.at-matrix.result.now)) back)
    c.in_ok-used.ensures.small

pub returns-clause-built : goal.returns-clause-built
returns-clause-built c =
    built-all (declaration_of c.args.format.now).parts c.args.shares.now c.loop-number.number c.loop-number.lists c.loop-number.used
    (omega (arith, c.loop-number-test.false, c.count-number-end.ensures, c.requires.count)) c.loop-number.invariant

pub returns-clause-small : goal.returns-clause-small
returns-clause-small c =
    built-small (declaration_of c.args.format.now).parts c.args.shares.now c.loop-number.number c.loop-number.lists c.loop-number.used
    (omega (arith, c.loop-number-test.false, c.count-number-end.ensures, c.requires.count)) c.loop-number.invariant
