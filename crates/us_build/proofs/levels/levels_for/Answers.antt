use Rattle.std.proofs.Common.{get_or, List, sym, subst, ap, ◌∙◌, arith}
use Rattle.us_expr.specs.Tree.{tree}
use Rattle.us_expr.specs.declared.expression.Expr.{Expr}
use Rattle.us_format.specs.declared.Kind.TheVariants.{Full}
use Rattle.us_build.specs.Levels.{level_over}
use Rattle.us_build.specs.declared.levels.Level.{Level}
use Rattle.us_build.proofs.Offsets.{AreLevels, levels-end, levels-next, levels-none}
use Rattle.us_build.proofs.levels.levels_for.Goals as goal

pub loop-k-init : goal.loop-k-init
loop-k-init c =
    subst (λ (ls : List Level). AreLevels c.args.ranges.now.shape_rows c.args.ranges.now.shape_cols c.args.ranges.now.vars.items c.args.exprs.now c.args.kinds.now 0 ls) (sym c.new-levels.ensures.items)
    (levels-none c.args.ranges.now.shape_rows c.args.ranges.now.shape_cols c.args.ranges.now.vars.items c.args.exprs.now c.args.kinds.now)

pub loop-k-preserved : goal.loop-k-preserved
loop-k-preserved c =
    levels-next c.args.ranges.now.shape_rows c.args.ranges.now.shape_cols c.args.ranges.now.vars.items c.args.exprs.now c.args.kinds.now c.loop-k.k c.loop-k.levels.items c.push.new.self.items c.index-exprs-k.result Full c.level_for.result c.loop-k-test.true
    c.requires.kinds c.loop-k.invariant
    (c.level_for.ensures.level
    ∙ ap (λ (e : Expr). level_over c.args.ranges.now.shape_rows c.args.ranges.now.shape_cols c.args.ranges.now.vars.items (tree e) (get_or c.args.kinds.now c.loop-k.k Full)) c.index-exprs-k.is) c.level_for.ensures.size c.in_ok-push.ensures.items

pub returns-clause-levels : goal.returns-clause-levels
returns-clause-levels c =
    levels-end c.args.ranges.now.shape_rows c.args.ranges.now.shape_cols c.args.ranges.now.vars.items c.args.exprs.now c.args.kinds.now c.loop-k.k c.loop-k.levels.items (omega arith) c.loop-k.invariant
