use Rattle.std.specs.Prelude.{ℤ}
use Rattle.std.proofs.Common.{◌≡◌, ◌-◌, ◌++◌, List, map, sym, ap, ◌∙◌, arith}
use Rattle.std.proofs.lemmas.Result.{err_from_is_err_and}
use Rattle.us_build.specs.declared.fault.BuildFault.TheVariants.{TooLarge}
use Rattle.us_format.specs.Buffers.{part_buffers}
use Rattle.us_format.specs.Packs.{written}
use Rattle.us_format.specs.Program.{entries_in, shape_in}
use Rattle.us_judge.specs.Format.{part_at}
use Rattle.us_judge.specs.Views.{declaration_of}
use Rattle.us_levels.proofs.Joined.{failed_size, same_fault}
use Rattle.us_levels.proofs.building.part_buffers.Goals as goal

pub returns-in_err-push_part-clause-large : goal.returns-in_err-push_part-clause-large
returns-in_err-push_part-clause-large c =
    let y = err_from_is_err_and c.from_residual.result c.from_residual.ensures.1 in
    λ h. let e : y.0 ≡ TooLarge = same_fault y.0 TooLarge (sym y.1 ∙ h) in
    omega (arith, c.in_err-push_part.ensures.large (ap failed_size (sym y.2 ∙ e)))

pub returns-clause-built : goal.returns-clause-built
returns-clause-built c =
    c.in_ok-push_part.ensures.built
    ∙ ap (λ (l : List (List ℤ)). l ++ map written (part_buffers (shape_in c.args.matrix.now) (part_at (declaration_of c.args.format.now) (c.args.part - 1)) (entries_in c.args.matrix.now))) c.new-lists.ensures

pub returns-clause-small : goal.returns-clause-small
returns-clause-small c = omega (arith, c.in_ok-push_part.ensures.used, c.in_ok-push_part.ensures.small)
