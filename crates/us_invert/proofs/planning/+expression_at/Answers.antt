use Rattle.std.proofs.Common.{◌<◌, ap, ap₂, sym, ◌∙◌, arith}
use Rattle.us_expr.specs.declared.expression.Expr.TheVariants.{rolls-I, rolls-J, rolls-Var}
use Rattle.us_expr.specs.declared.expression.Expr.TheFolds.{fold-roll-Expr}
use Rattle.us_expr.specs.declared.expression.Expr.TheOpen.{Expr-F}
use Rattle.us_expr.specs.Tree.{Tree, tree, one_level, Sum, Difference, Quotient, Remainder}
use Rattle.us_expr.proofs.Trees.{tree-Const, tree-Add, tree-Sub, tree-Div, tree-Rem}
use Rattle.us_known.specs.declared.table.Node.TheVariants.{Row, Col, Number as NumberNode, Variable as VariableNode, Sum as SumNode, Difference as DifferenceNode, Quotient as QuotientNode, Remainder as RemainderNode}
use Rattle.us_invert.proofs.Ending.{node-below, node-tree}
use Rattle.us_invert.proofs.planning.+expression_at.Goals as goal

pub expression_at-requires : goal.expression_at-requires
expression_at-requires t c =
    let h : c.in-Sum.a < c.args.n = (node-below c.args.nodes.now c.requires.table c.args.n (SumNode c.in-Sum.a c.in-Sum.b) c.requires.node c.in-Sum.is).0 in
    (omega (arith, h), (c.requires.table, omega (arith, h, c.requires.node)))

pub expression_at-requires-in-Sum : goal.expression_at-requires-in-Sum
expression_at-requires-in-Sum t c =
    let h : c.in-Sum.b < c.args.n = (node-below c.args.nodes.now c.requires.table c.args.n (SumNode c.in-Sum.a c.in-Sum.b) c.requires.node c.in-Sum.is).1 in
    (omega (arith, h), (c.requires.table, omega (arith, h, c.requires.node)))

pub expression_at-requires-in-Difference : goal.expression_at-requires-in-Difference
expression_at-requires-in-Difference t c =
    let h : c.in-Difference.a < c.args.n = (node-below c.args.nodes.now c.requires.table c.args.n (DifferenceNode c.in-Difference.a c.in-Difference.b) c.requires.node c.in-Difference.is).0 in
    (omega (arith, h), (c.requires.table, omega (arith, h, c.requires.node)))

pub expression_at-requires-in-Difference-2 : goal.expression_at-requires-in-Difference-2
expression_at-requires-in-Difference-2 t c =
    let h : c.in-Difference.b < c.args.n = (node-below c.args.nodes.now c.requires.table c.args.n (DifferenceNode c.in-Difference.a c.in-Difference.b) c.requires.node c.in-Difference.is).1 in
    (omega (arith, h), (c.requires.table, omega (arith, h, c.requires.node)))

pub expression_at-requires-in-Quotient : goal.expression_at-requires-in-Quotient
expression_at-requires-in-Quotient t c =
    let h : c.in-Quotient.a < c.args.n = (node-below c.args.nodes.now c.requires.table c.args.n (QuotientNode c.in-Quotient.a c.in-Quotient.k) c.requires.node c.in-Quotient.is) in
    (omega (arith, h), (c.requires.table, omega (arith, h, c.requires.node)))

pub expression_at-requires-in-Remainder : goal.expression_at-requires-in-Remainder
expression_at-requires-in-Remainder t c =
    let h : c.in-Remainder.a < c.args.n = (node-below c.args.nodes.now c.requires.table c.args.n (RemainderNode c.in-Remainder.a c.in-Remainder.k) c.requires.node c.in-Remainder.is) in
    (omega (arith, h), (c.requires.table, omega (arith, h, c.requires.node)))

pub returns-in-Row : goal.returns-in-Row
returns-in-Row t c = ap tree (sym rolls-I) ∙ fold-roll-Expr Tree one_level Expr-F.I ∙ node-tree c.args.nodes.now c.requires.table c.args.n Row c.requires.node c.in-Row.is

pub returns-in-Col : goal.returns-in-Col
returns-in-Col t c = ap tree (sym rolls-J) ∙ fold-roll-Expr Tree one_level Expr-F.J ∙ node-tree c.args.nodes.now c.requires.table c.args.n Col c.requires.node c.in-Col.is

pub returns-in-Number : goal.returns-in-Number
returns-in-Number t c = tree-Const c.in-Number.c ∙ node-tree c.args.nodes.now c.requires.table c.args.n (NumberNode c.in-Number.c) c.requires.node c.in-Number.is

pub returns-in-Variable : goal.returns-in-Variable
returns-in-Variable t c = ap tree (sym (rolls-Var c.in-Variable.v)) ∙ fold-roll-Expr Tree one_level (Expr-F.Var c.in-Variable.v) ∙ node-tree c.args.nodes.now c.requires.table c.args.n (VariableNode c.in-Variable.v) c.requires.node c.in-Variable.is

pub returns-in_ok-right-in-Sum : goal.returns-in_ok-right-in-Sum
returns-in_ok-right-in-Sum t c =
    tree-Add c.in_ok-left-in-Sum.left c.in_ok-right-in-Sum.right
    ∙ ap₂ (λ (x y : Tree). Sum x y) (ap tree c.in_ok-left-in-Sum.ensures ∙ c.in_ok-expression_at-in-Sum.ensures) (ap tree c.in_ok-right-in-Sum.ensures ∙ c.in_ok-expression_at-in-Sum-2.ensures)
    ∙ node-tree c.args.nodes.now c.requires.table c.args.n (SumNode c.in-Sum.a c.in-Sum.b) c.requires.node c.in-Sum.is

pub returns-in_ok-right-in-Difference : goal.returns-in_ok-right-in-Difference
returns-in_ok-right-in-Difference t c =
    tree-Sub c.in_ok-left-in-Difference.left c.in_ok-right-in-Difference.right
    ∙ ap₂ (λ (x y : Tree). Difference x y) (ap tree c.in_ok-left-in-Difference.ensures ∙ c.in_ok-expression_at-in-Difference.ensures) (ap tree c.in_ok-right-in-Difference.ensures ∙ c.in_ok-expression_at-in-Difference-2.ensures)
    ∙ node-tree c.args.nodes.now c.requires.table c.args.n (DifferenceNode c.in-Difference.a c.in-Difference.b) c.requires.node c.in-Difference.is

pub returns-in_ok-operand-in-Quotient : goal.returns-in_ok-operand-in-Quotient
returns-in_ok-operand-in-Quotient t c =
    tree-Div c.in_ok-operand-in-Quotient.operand c.in-Quotient.k
    ∙ ap (λ (x : Tree). Quotient x c.in-Quotient.k) (ap tree c.in_ok-operand-in-Quotient.ensures ∙ c.in_ok-expression_at-in-Quotient.ensures)
    ∙ node-tree c.args.nodes.now c.requires.table c.args.n (QuotientNode c.in-Quotient.a c.in-Quotient.k) c.requires.node c.in-Quotient.is

pub returns-in_ok-operand-in-Remainder : goal.returns-in_ok-operand-in-Remainder
returns-in_ok-operand-in-Remainder t c =
    tree-Rem c.in_ok-operand-in-Remainder.operand c.in-Remainder.k
    ∙ ap (λ (x : Tree). Remainder x c.in-Remainder.k) (ap tree c.in_ok-operand-in-Remainder.ensures ∙ c.in_ok-expression_at-in-Remainder.ensures)
    ∙ node-tree c.args.nodes.now c.requires.table c.args.n (RemainderNode c.in-Remainder.a c.in-Remainder.k) c.requires.node c.in-Remainder.is
