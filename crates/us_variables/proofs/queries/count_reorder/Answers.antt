use Rattle.std.proofs.Common.{◌∙◌, ℕ, List, length, ap, sym, refl, subst, arith}
use Rattle.us_expr.specs.declared.queries.Axis.{Axis}
use Rattle.us_expr.specs.Tree.{tree}
use Rattle.us_format.specs.Matrix.{indices}
use Rattle.us_format.specs.Program.{entries_in, shape_in}
use Rattle.us_query.specs.Ranked.{AreRanked}
use Rattle.us_variables.specs.Tables.{IsInverse}
use Rattle.us_variables.proofs.Inverse.{order-below, order-long}
use Rattle.us_variables.proofs.Steps.{adds-reorder}
use Rattle.us_variables.proofs.queries.count_reorder.Goals as goal

pub inverse-requires-clause-below : goal.inverse-requires-clause-below
inverse-requires-clause-below c =
    let m = entries_in c.args.matrix.now in
    let s = shape_in c.args.matrix.now in
    order-below m s c.axis_of-axis.result c.deref.result.now (c.deref.ensures.value ∙ c.in_ok-order.ensures.order)
    (subst (λ (xs : List ℕ). AreRanked m s c.axis_of-axis.result xs) (sym c.deref.ensures.value) c.in_ok-order.ensures.ranks)

pub inverse-requires-clause-few : goal.inverse-requires-clause-few
inverse-requires-clause-few c =
    let m = entries_in c.args.matrix.now in
    let s = shape_in c.args.matrix.now in
    omega (
      arith,
      c.requires,
      order-long m s c.axis_of-axis.result c.deref.result.now (c.deref.ensures.value ∙ c.in_ok-order.ensures.order)
          (subst (λ (xs : List ℕ). AreRanked m s c.axis_of-axis.result xs) (sym c.deref.ensures.value) c.in_ok-order.ensures.ranks),
      ap (λ (a : Axis). indices a s) c.axis_of-axis.ensures,
    )

pub returns-clause-adds : goal.returns-clause-adds
returns-clause-adds c =
    let m = entries_in c.args.matrix.now in
    let s = shape_in c.args.matrix.now in
    let axis : Axis = c.axis_of-axis.result in
    let order : List ℕ = c.deref.result.now in
    adds-reorder c.args.matrix.now c.args.var (tree c.args.arg.now) axis order c.deref-2.result.now c.args.columns.now.items c.push.new.self.items (record { var = c.args.var; numbers = c.in_ok-numbers.numbers })
    c.in_ok-numbers.ensures.matrix c.axis_of-axis.ensures (c.deref.ensures.value ∙ c.in_ok-order.ensures.order)
    (subst (λ (xs : List ℕ). AreRanked m s axis xs) (sym c.deref.ensures.value) c.in_ok-order.ensures.ranks)
    (subst (λ (xs : List ℕ). IsInverse order (length order) xs) (sym c.deref-2.ensures.value) c.in_ok-ranks.ensures) c.in_ok-push.ensures.items refl c.in_ok-numbers.ensures.numbers
