use Rattle.std.proofs.Common.{ℕ, ◌+◌, ◌-◌, ◌<◌, ◌≡◌, List, refl, sym, ap, subst, ◌∙◌}
use Rattle.std.specs.Prelude.{MatchOption}
use Rattle.std.specs.List.{sum}
use Rattle.us_format.specs.Program.{plain_shape}
use Rattle.us_judge.specs.Format.{part_at}
use Rattle.us_judge.specs.Views.{declaration_of}
use Rattle.us_climb.specs.declared.layout.LevelLayout.{LevelLayout}
use Rattle.us_climb.specs.Layout.{counts_by}
use Rattle.us_climb.proofs.PartCounts.{part-counted}
use Rattle.us_climb.proofs.lengths.part_left.Goals as goal

pub returns : goal.returns
returns c =
    subst (λ (cs : List ℕ). MatchOption c.counts_left.result (c.args.left < sum cs) (λ rest. rest + sum cs ≡ c.args.left))
    (ap (λ (ls : List LevelLayout). counts_by ls c.args.buffers.now 1) c.as_slice.ensures.value
    ∙ sym (part-counted c.args.first (plain_shape c.args.shape) (part_at (declaration_of c.args.format.now) (c.args.number - 1)) c.args.buffers.now c.read-layout.result c.read-layout.ensures))
    (c.counts_left.ensures 1 refl)
