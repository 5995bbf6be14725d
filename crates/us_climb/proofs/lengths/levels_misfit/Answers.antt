use Rattle.std.proofs.Common.{◌-◌, List, refl, sym, ap, ap₂, ◌∙◌}
use Rattle.us_format.specs.Program.{plain_shape}
use Rattle.us_judge.specs.Format.{part_at}
use Rattle.us_judge.specs.Views.{declaration_of}
use Rattle.us_climb.specs.declared.layout.ColumnPlace.{ColumnPlace}
use Rattle.us_climb.specs.declared.layout.LevelLayout.{LevelLayout}
use Rattle.us_climb.specs.Layout.{walk_by, first_failing}
use Rattle.us_climb.proofs.Walks.{walk-there}
use Rattle.us_climb.proofs.lengths.levels_misfit.Goals as goal

pub returns : goal.returns
returns c =
    let p = part_at (declaration_of c.args.format.now) (c.args.number - 1) in
    c.walk_misfit.ensures 1 refl
    ∙ ap₂ (λ (ls : List LevelLayout) (place : ColumnPlace). first_failing (walk_by ls place c.args.buffers.now 1)) (c.as_slice.ensures.value ∙ c.of-layout.ensures.levels) c.of-layout.ensures.values
    ∙ ap first_failing (sym (walk-there c.args.first (plain_shape c.args.shape) c.args.extents.now p c.args.buffers.now 0 p.levels 1))
