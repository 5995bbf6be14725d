use Rattle.std.proofs.Common.{rules, ◌≡◌, suc, ◌+◌, ap, ◌∙◌, arith}
use Rattle.us_code.specs.Plain.{tree_of}
use Rattle.us_expr.specs.Tree.{tree}
use Rattle.us_gen_query.specs.Filling.{load_more, loads}
use Rattle.us_gen_query.proofs.filling.loads.Goals as goal

pub loop-number-preserved : goal.loop-number-preserved
loop-number-preserved c =
    let next : suc c.loop-number.number ≡ c.loop-number.number + 1 = omega arith in
    let cs = c.args.columns.now in
    let e = tree c.args.e.now in
    let pushed : tree_of c.load_column.new.block ≡ load_more cs e c.args.place c.loop-number.number (tree_of c.loop-number.block) = search rules in
    pushed ∙ (ap (load_more cs e c.args.place c.loop-number.number) c.loop-number.invariant ∙ ap (loads cs e c.args.place) next)
