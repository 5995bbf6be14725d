use Rattle.std.proofs.Common.{◌++◌, ◌∷◌, [], ℤ, pos, ap, ◌∙◌, arith}
use Rattle.us_build.proofs.Casts.{to_z-small}
use Rattle.us_build.proofs.Filling.{filled-end, filled-next, filled-none}
use Rattle.us_build.proofs.cells.fill.Goals as goal

pub loop-cells-init : goal.loop-cells-init
loop-cells-init c = filled-none c.args.count (pos c.args.value) c.args.cells.now.items

pub loop-cells-preserved : goal.loop-cells-preserved
loop-cells-preserved c =
    filled-next c.args.count (pos c.args.value) c.args.cells.now.items c.loop-cells.cells.items c.push.new.self.items (omega (arith, c.len.ensures, c.loop-cells.cells.ok.0, c.loop-cells-test.true))
    (c.in_ok-push.ensures.items ∙ ap (λ (z : ℤ). c.loop-cells.cells.items ++ z ∷ []) (to_z-small c.args.value c.requires)) c.loop-cells.invariant

pub returns : goal.returns
returns c =
    filled-end c.args.count (pos c.args.value) c.args.cells.now.items c.loop-cells.cells.items (omega (arith, c.len.ensures, c.loop-cells.cells.ok.0, c.loop-cells-test.false)) c.loop-cells.invariant
