use Rattle.std.proofs.Common.{ap, ◌∙◌, sym}
use Rattle.us_expr.specs.declared.expression.Expr.{Expr}
use Rattle.us_expr.specs.Tree.{tree, Sum, Difference, Quotient, Remainder}
use Rattle.us_expr.proofs.Trees.{tree-Add, tree-Sub, tree-Div, tree-Rem}
use Rattle.us_known.proofs.Finding.{none-from, no-left_of-sum, no-right_of-sum, no-left_of-difference, no-right_of-difference, no-quotient, no-remainder}
use Rattle.us_known.proofs.table.+number_of.Goals as goal

pub returns-in_err-left-in-Add-clause-absent : goal.returns-in_err-left-in-Add-clause-absent
returns-in_err-left-in-Add-clause-absent t c =
    none-from c.from_residual.result _ (no-left_of-sum c.args.nodes.now c.requires.table (tree c.args.e.now) (tree c.get.result.now) (tree c.in-Add.b)
    (ap tree c.in-Add.is ∙ tree-Add c.in-Add.a c.in-Add.b ∙ (ap (λ (z : Expr). Sum (tree z) (tree c.in-Add.b)) (sym c.get.ensures))) c.in_err-left-in-Add.ensures.absent)

pub returns-in_err-right-in-Add-clause-absent : goal.returns-in_err-right-in-Add-clause-absent
returns-in_err-right-in-Add-clause-absent t c =
    none-from c.from_residual-in_err-right-in-Add.result _ (no-right_of-sum c.args.nodes.now c.requires.table (tree c.args.e.now) (tree c.in-Add.a) (tree c.get-in-Add.result.now)
    (ap tree c.in-Add.is ∙ tree-Add c.in-Add.a c.in-Add.b ∙ (ap (λ (z : Expr). Sum (tree c.in-Add.a) (tree z)) (sym c.get-in-Add.ensures))) c.in_err-right-in-Add.ensures.absent)

pub returns-in_err-left-in-Sub-clause-absent : goal.returns-in_err-left-in-Sub-clause-absent
returns-in_err-left-in-Sub-clause-absent t c =
    none-from c.from_residual-in_err-left-in-Sub.result _ (no-left_of-difference c.args.nodes.now c.requires.table (tree c.args.e.now) (tree c.get-in-Sub.result.now) (tree c.in-Sub.b)
    (ap tree c.in-Sub.is ∙ tree-Sub c.in-Sub.a c.in-Sub.b ∙ (ap (λ (z : Expr). Difference (tree z) (tree c.in-Sub.b)) (sym c.get-in-Sub.ensures))) c.in_err-left-in-Sub.ensures.absent)

pub returns-in_err-right-in-Sub-clause-absent : goal.returns-in_err-right-in-Sub-clause-absent
returns-in_err-right-in-Sub-clause-absent t c =
    none-from c.from_residual-in_err-right-in-Sub.result _ (no-right_of-difference c.args.nodes.now c.requires.table (tree c.args.e.now) (tree c.in-Sub.a) (tree c.get-in-Sub-2.result.now)
    (ap tree c.in-Sub.is ∙ tree-Sub c.in-Sub.a c.in-Sub.b ∙ (ap (λ (z : Expr). Difference (tree c.in-Sub.a) (tree z)) (sym c.get-in-Sub-2.ensures))) c.in_err-right-in-Sub.ensures.absent)

pub returns-in_err-operand-in-Div-clause-absent : goal.returns-in_err-operand-in-Div-clause-absent
returns-in_err-operand-in-Div-clause-absent t c =
    none-from c.from_residual-in_err-operand-in-Div.result _ (no-quotient c.args.nodes.now c.requires.table (tree c.args.e.now) (tree c.get-in-Div.result.now) c.in-Div.k
    (ap tree c.in-Div.is ∙ tree-Div c.in-Div.a c.in-Div.k ∙ ap (λ (z : Expr). Quotient (tree z) c.in-Div.k) (sym c.get-in-Div.ensures)) c.in_err-operand-in-Div.ensures.absent)

pub returns-in_err-operand-in-Rem-clause-absent : goal.returns-in_err-operand-in-Rem-clause-absent
returns-in_err-operand-in-Rem-clause-absent t c =
    none-from c.from_residual-in_err-operand-in-Rem.result _ (no-remainder c.args.nodes.now c.requires.table (tree c.args.e.now) (tree c.get-in-Rem.result.now) c.in-Rem.k
    (ap tree c.in-Rem.is ∙ tree-Rem c.in-Rem.a c.in-Rem.k ∙ ap (λ (z : Expr). Remainder (tree z) c.in-Rem.k) (sym c.get-in-Rem.ensures)) c.in_err-operand-in-Rem.ensures.absent)
