use Rattle.std.proofs.Common.{◌≡◌, ℕ, List, IfOk, OnOk, ap, ap₂, ◌∙◌, sym, subst, refl}
use Rattle.us_expr.specs.declared.expression.Expr.{Expr}
use Rattle.us_expr.specs.Tree.{Tree, tree, Sum, Difference, Quotient, Remainder}
use Rattle.us_expr.proofs.Trees.{tree-Add, tree-Sub, tree-Div, tree-Rem}
use Rattle.us_known.specs.Table.{trees, IsNumberOf}
use Rattle.us_known.proofs.Inserting.{Two, One, after-two, after-one}
use Rattle.us_known.proofs.table.+insert.Goals as goal

two-Add : (t : ℕ) (c : goal.After-add-arg-in-Add-1 t) → Two c.args.nodes.now.items c.insert-in-Add.new.nodes.items (λ a b. Sum a b) c.in_ok-left-in-Add.left c.in_ok-right-in-Add.right (tree c.args.e.now)
two-Add t c =
    after-two c.args.nodes.now.items c.insert.new.nodes.items c.insert-in-Add.new.nodes.items (λ a b. Sum a b) c.in_ok-left-in-Add.left c.in_ok-right-in-Add.right (tree c.get.result.now) (tree c.get-in-Add.result.now) (tree c.args.e.now)
    (ap tree c.in-Add.is ∙ tree-Add c.in-Add.a c.in-Add.b ∙ ap₂ (λ (a b : Expr). Sum (tree a) (tree b)) (sym c.get.ensures) (sym c.get-in-Add.ensures)) refl
    c.in_ok-left-in-Add.ensures.trees c.in_ok-left-in-Add.ensures.number c.in_ok-right-in-Add.ensures.trees c.in_ok-right-in-Add.ensures.number

pub add-requires-in-Add-clause-below : goal.add-requires-in-Add-clause-below
add-requires-in-Add-clause-below t c = (two-Add t c).below

pub returns-in_ok-right-in-Add-clause-trees : goal.returns-in_ok-right-in-Add-clause-trees
returns-in_ok-right-in-Add-clause-trees t c = subst (λ (l : List Tree). OnOk c.add-in-Add.result (trees c.add-in-Add.new.nodes.items ≡ l)) (two-Add t c.before).added c.add-in-Add.ensures.trees

pub returns-in_ok-right-in-Add-clause-number : goal.returns-in_ok-right-in-Add-clause-number
returns-in_ok-right-in-Add-clause-number t c = subst (λ (z : Tree). IfOk c.add-in-Add.result (λ n. IsNumberOf c.add-in-Add.new.nodes.items n z)) (two-Add t c.before).whole c.add-in-Add.ensures.number

two-Sub : (t : ℕ) (c : goal.After-add-arg-in-Sub-1 t) → Two c.args.nodes.now.items c.insert-in-Sub-2.new.nodes.items (λ a b. Difference a b) c.in_ok-left-in-Sub.left c.in_ok-right-in-Sub.right (tree c.args.e.now)
two-Sub t c =
    after-two c.args.nodes.now.items c.insert-in-Sub.new.nodes.items c.insert-in-Sub-2.new.nodes.items (λ a b. Difference a b) c.in_ok-left-in-Sub.left c.in_ok-right-in-Sub.right (tree c.get-in-Sub.result.now) (tree c.get-in-Sub-2.result.now) (tree c.args.e.now)
    (ap tree c.in-Sub.is ∙ tree-Sub c.in-Sub.a c.in-Sub.b ∙ ap₂ (λ (a b : Expr). Difference (tree a) (tree b)) (sym c.get-in-Sub.ensures) (sym c.get-in-Sub-2.ensures)) refl
    c.in_ok-left-in-Sub.ensures.trees c.in_ok-left-in-Sub.ensures.number c.in_ok-right-in-Sub.ensures.trees c.in_ok-right-in-Sub.ensures.number

pub add-requires-in-Sub-clause-below : goal.add-requires-in-Sub-clause-below
add-requires-in-Sub-clause-below t c = (two-Sub t c).below

pub returns-in_ok-right-in-Sub-clause-trees : goal.returns-in_ok-right-in-Sub-clause-trees
returns-in_ok-right-in-Sub-clause-trees t c = subst (λ (l : List Tree). OnOk c.add-in-Sub.result (trees c.add-in-Sub.new.nodes.items ≡ l)) (two-Sub t c.before).added c.add-in-Sub.ensures.trees

pub returns-in_ok-right-in-Sub-clause-number : goal.returns-in_ok-right-in-Sub-clause-number
returns-in_ok-right-in-Sub-clause-number t c = subst (λ (z : Tree). IfOk c.add-in-Sub.result (λ n. IsNumberOf c.add-in-Sub.new.nodes.items n z)) (two-Sub t c.before).whole c.add-in-Sub.ensures.number

one-Div : (t : ℕ) (c : goal.After-add-in-Div t) → One c.args.nodes.now.items c.insert-in-Div.new.nodes.items (λ a. Quotient a c.in-Div.k) c.in_ok-operand-in-Div.operand (tree c.args.e.now)
one-Div t c =
    after-one c.args.nodes.now.items c.insert-in-Div.new.nodes.items (λ a. Quotient a c.in-Div.k) c.in_ok-operand-in-Div.operand (tree c.get-in-Div.result.now) (tree c.args.e.now)
    (ap tree c.in-Div.is ∙ tree-Div c.in-Div.a c.in-Div.k ∙ ap (λ (a : Expr). Quotient (tree a) c.in-Div.k) (sym c.get-in-Div.ensures)) refl c.in_ok-operand-in-Div.ensures.trees c.in_ok-operand-in-Div.ensures.number

pub returns-in_ok-operand-in-Div-clause-trees : goal.returns-in_ok-operand-in-Div-clause-trees
returns-in_ok-operand-in-Div-clause-trees t c = subst (λ (l : List Tree). OnOk c.add-in-Div.result (trees c.add-in-Div.new.nodes.items ≡ l)) (one-Div t c).added c.add-in-Div.ensures.trees

one-Rem : (t : ℕ) (c : goal.After-add-in-Rem t) → One c.args.nodes.now.items c.insert-in-Rem.new.nodes.items (λ a. Remainder a c.in-Rem.k) c.in_ok-operand-in-Rem.operand (tree c.args.e.now)
one-Rem t c =
    after-one c.args.nodes.now.items c.insert-in-Rem.new.nodes.items (λ a. Remainder a c.in-Rem.k) c.in_ok-operand-in-Rem.operand (tree c.get-in-Rem.result.now) (tree c.args.e.now)
    (ap tree c.in-Rem.is ∙ tree-Rem c.in-Rem.a c.in-Rem.k ∙ ap (λ (a : Expr). Remainder (tree a) c.in-Rem.k) (sym c.get-in-Rem.ensures)) refl c.in_ok-operand-in-Rem.ensures.trees c.in_ok-operand-in-Rem.ensures.number

pub returns-in_ok-operand-in-Rem-clause-trees : goal.returns-in_ok-operand-in-Rem-clause-trees
returns-in_ok-operand-in-Rem-clause-trees t c = subst (λ (l : List Tree). OnOk c.add-in-Rem.result (trees c.add-in-Rem.new.nodes.items ≡ l)) (one-Rem t c).added c.add-in-Rem.ensures.trees
