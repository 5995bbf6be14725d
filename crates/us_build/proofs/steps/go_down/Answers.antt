use Rattle.std.proofs.Common.{◌≡◌, map, sym, subst, arith}
use Rattle.us_format.specs.declared.Kind.{Kind}
use Rattle.us_build.specs.Items.{rows_at, stepped}
use Rattle.us_build.proofs.Mapped.{all-small}
use Rattle.us_build.proofs.steps.go_down.Goals as goal

pub spread-requires-clause-small : goal.spread-requires-clause-small
spread-requires-clause-small c = λ k d l.
    omega (arith, all-small c.args.index c.args.level.now.size c.args.positions 67108864 c.args.items.now c.requires.ready.below c.requires.ready.small (c.requires.full c.in-Full.is) k d l)

pub returns-in-Listed-clause-items : goal.returns-in-Listed-clause-items
returns-in-Listed-clause-items c =
    subst (λ (k : Kind). c.list.new.items ≡ map (stepped k c.args.level.now.size c.args.index (rows_at c.args.index c.args.items.now)) c.args.items.now) (sym c.in-Listed.is)
    (c.list.ensures c.args.index c.requires.ready.ascending)
