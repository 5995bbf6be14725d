use Rattle.std.proofs.Common.{List, get_or, ℤ, map, pos, ◌∙◌, ap, sym, subst}
use Rattle.std.proofs.lemmas.List.{take_all}
use Rattle.us_expr.specs.Tree.{tree}
use Rattle.us_matrix.specs.declared.matrix.Triple.{Triple}
use Rattle.us_build.specs.Levels.{HasCoordinates, items_over}
use Rattle.us_build.proofs.Offsets.{items-next}
use Rattle.us_build.proofs.items.items_of.Goals as goal

pub item_of-requires-clause-placed : goal.item_of-requires-clause-placed
item_of-requires-clause-placed c =
    let d : Triple = record { i = 0; j = 0; v = pos 0 } in
    subst (λ (vs : List ℤ). HasCoordinates c.args.exprs.now c.args.levels.now vs (get_or c.args.entries.now c.loop-k.k d)) (sym c.values.ensures) (c.requires.placed c.loop-k.k d c.loop-k-test.true)

pub loop-k-preserved : goal.loop-k-preserved
loop-k-preserved c =
    let d : Triple = record { i = 0; j = 0; v = pos 0 } in
    λ f h. items-next (map tree c.args.exprs.now) c.args.levels.now f c.args.entries.now c.loop-k.k d c.item_of.result c.values.result.items c.loop-k.items.items c.push.new.self.items c.loop-k-test.true
    (c.loop-k.invariant f h) c.item_of.ensures (c.values.ensures ∙ h c.loop-k.k d c.loop-k-test.true) c.in_ok-push.ensures.items

pub returns : goal.returns
returns c = λ f h. c.loop-k.invariant f h ∙ ap (items_over (map tree c.args.exprs.now) c.args.levels.now f) (take_all c.loop-k.k c.args.entries.now c.loop-k-test.false)
