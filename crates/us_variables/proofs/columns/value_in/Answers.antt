use Rattle.std.proofs.Common.{◌∙◌, Bool, cond, pos, get_or, drop, ◌+◌, ap, sym}
use Rattle.std.proofs.lemmas.Bool.{ne_eqb}
use Rattle.us_variables.specs.Columns.{value_or}
use Rattle.us_variables.proofs.Values.{column-passed}
use Rattle.us_variables.proofs.columns.value_in.Goals as goal

pub loop-column-preserved : goal.loop-column-preserved
loop-column-preserved c =
    let cs = c.args.columns.now in
    let i = c.loop-column.column-index in
    let x = c.column-item.result in
    sym
    (column-passed cs c.args.var c.args.entry i x c.loop-column-test.true c.column-item.is
    ∙ ap (λ (b : Bool). cond b (pos (get_or x.numbers.items c.args.entry 0)) (value_or (drop (i + 1) cs) c.args.var c.args.entry (pos 0))) (ne_eqb x.var c.args.var c.if-column-var.false))
    ∙ c.loop-column.invariant
