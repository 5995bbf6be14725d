-- Blocks as plain trees.
use Rattle.std.proofs.Common.{◌≡◌, ℕ, Bool, true, false, List, [], ◌∷◌, ◌++◌, refl, sym, ap, ◌∙◌, Option, Some, None}
use mathlib.Core.Former.{Count}
use Rattle.us_code.specs.declared.program.Dim.{Dim}
use Rattle.us_code.specs.declared.program.Buf.{Buf}
use Rattle.us_code.specs.declared.program.Term.{Term}
use Rattle.us_code.specs.declared.program.Block.{Block}
use Rattle.us_code.specs.declared.program.Stmt.{Stmt, Row_of-Stmt, end_of-Stmt, more_of-Stmt, items-the_row-Stmt}
use Rattle.us_code.specs.declared.program.Stmt.TheBlock.{hidden-the_row-Stmt-0, items_hidden-the_row-Stmt-0}
use Rattle.us_code.specs.declared.program.Stmt.TheVariants as stmt
use Rattle.us_code.specs.Plain.{Code, End, Let, Load, Var, Put, Set, For, Span, If, When, Order, term_tree, plain_stmt, plain_row, plain_held, plain_list, tree_of, alone, ◌+++◌, other_tree, was_given}

rows : (n : Count) (k : Row_of-Stmt n) → plain_row k ≡ plain_list (items-the_row-Stmt n k)
unfolding plain_stmt plain_row plain_held plain_list
rows n end_of-Stmt = refl
rows n (more_of-Stmt s rest) = ap (plain_stmt s) (rows _ rest)

hidden : (xs : List Stmt) → plain_row (hidden-the_row-Stmt-0 xs) ≡ plain_list xs
hidden xs = rows _ (hidden-the_row-Stmt-0 xs) ∙ ap plain_list (items_hidden-the_row-Stmt-0 xs)

pub append_End : (c : Code) → c +++ End ≡ c
append_End End = refl
append_End (Let r e rest) = ap (Let r e) (append_End rest)
append_End (Load r x at rest) = ap (Load r x at) (append_End rest)
append_End (Var r e rest) = ap (Var r e) (append_End rest)
append_End (Put r e rest) = ap (Put r e) (append_End rest)
append_End (Set x at e rest) = ap (Set x at e) (append_End rest)
append_End (For r d body rest) = ap (For r d body) (append_End rest)
append_End (Span r x y d body rest) = ap (Span r x y d body) (append_End rest)
append_End (If l eq r body given other rest) = ap (If l eq r body given other) (append_End rest)
append_End (When e d r body given other rest) = ap (When e d r body given other) (append_End rest)
append_End (Order x keys rest) = ap (Order x keys) (append_End rest)

stmt_append : (s : Stmt) (a b : Code) → plain_stmt s (a +++ b) ≡ plain_stmt s a +++ b
unfolding plain_stmt plain_row plain_held
stmt_append (stmt.Let r e) a b = refl
stmt_append (stmt.Load r x at) a b = refl
stmt_append (stmt.Var r e) a b = refl
stmt_append (stmt.Put r e) a b = refl
stmt_append (stmt.Set x at e) a b = refl
stmt_append (stmt.For' r d shape body) a b = refl
stmt_append (stmt.Span' r x y d shape body) a b = refl
stmt_append (stmt.If' l eq r shape body other) a b = refl
stmt_append (stmt.When' e d r shape body other) a b = refl
stmt_append (stmt.Order x keys) a b = refl

list_push : (xs : List Stmt) (s : Stmt) → plain_list (xs ++ s ∷ []) ≡ plain_list xs +++ alone s
unfolding plain_list alone
list_push [] s = refl
list_push (x ∷ xs) s = ap (plain_stmt x) (list_push xs s) ∙ stmt_append x (plain_list xs) (plain_stmt s End)

pub tree_push : (old new : Block) (s : Stmt) → new.stmts ≡ old.stmts ++ s ∷ [] → tree_of new ≡ tree_of old +++ alone s
unfolding tree_of
tree_push old new s e = ap plain_list e ∙ list_push old.stmts s

pub tree_new : (b : Block) → b.stmts ≡ [] → tree_of b ≡ End
unfolding tree_of plain_list
tree_new b e = ap plain_list e

pub tree_slice : (b : Block) (xs : List Stmt) → xs ≡ b.stmts → tree_of b ≡ plain_list xs
unfolding tree_of
tree_slice b xs e = ap plain_list (sym e)

pub alone_let : (r : ℕ) (e : Term) → alone (stmt.Let r e) ≡ Let r (term_tree e) End
unfolding alone plain_stmt plain_row plain_held
alone_let r e = refl

pub alone_load : (r : ℕ) (b : Buf) (at : Term) → alone (stmt.Load r b at) ≡ Load r b (term_tree at) End
unfolding alone plain_stmt plain_row plain_held
alone_load r b at = refl

pub alone_set : (b : Buf) (at e : Term) → alone (stmt.Set b at e) ≡ Set b (term_tree at) (term_tree e) End
unfolding alone plain_stmt plain_row plain_held
alone_set b at e = refl

pub alone_for : (r : ℕ) (d : Dim) (body : Block) → alone (stmt.For r d body) ≡ For r d (tree_of body) End
unfolding alone plain_stmt plain_row plain_held tree_of
alone_for r d body = ap (λ c. For r d c End) (hidden body.stmts)

pub alone_span : (r : ℕ) (a b : Term) (d : Dim) (body : Block) → alone (stmt.Span r a b d body) ≡ Span r (term_tree a) (term_tree b) d (tree_of body) End
unfolding alone plain_stmt plain_row plain_held tree_of
alone_span r a b d body = ap (λ c. Span r (term_tree a) (term_tree b) d c End) (hidden body.stmts)

pub alone_var : (r : ℕ) (e : Term) → alone (stmt.Var r e) ≡ Var r (term_tree e) End
unfolding alone plain_stmt plain_row plain_held
alone_var r e = refl

pub alone_put : (r : ℕ) (e : Term) → alone (stmt.Put r e) ≡ Put r (term_tree e) End
unfolding alone plain_stmt plain_row plain_held
alone_put r e = refl

pub alone_order : (b : Buf) (keys : List Buf) → alone (stmt.Order b keys) ≡ Order b keys End
unfolding alone plain_stmt plain_row plain_held
alone_order b keys = refl

pub alone_if : (l : Term) (eq : Bool) (r : Term) (body : Block) (other : Option Block) → alone (stmt.If l eq r body other) ≡ If (term_tree l) eq (term_tree r) (tree_of body) (was_given other) (other_tree other) End
unfolding alone plain_stmt plain_row plain_held tree_of
alone_if l eq r body None = ap (λ c. If (term_tree l) eq (term_tree r) c false End End) (hidden body.stmts)
alone_if l eq r body (Some b) = ap (λ c. If (term_tree l) eq (term_tree r) c true (plain_row (hidden-the_row-Stmt-0 b.stmts)) End) (hidden body.stmts) ∙ ap (λ c. If (term_tree l) eq (term_tree r) (plain_list body.stmts) true c End) (hidden b.stmts)

pub alone_when : (e : Term) (d : Dim) (r : ℕ) (body : Block) (other : Option Block) → alone (stmt.When e d r body other) ≡ When (term_tree e) d r (tree_of body) (was_given other) (other_tree other) End
unfolding alone plain_stmt plain_row plain_held tree_of
alone_when e d r body None = ap (λ c. When (term_tree e) d r c false End End) (hidden body.stmts)
alone_when e d r body (Some b) = ap (λ c. When (term_tree e) d r c true (plain_row (hidden-the_row-Stmt-0 b.stmts)) End) (hidden body.stmts) ∙ ap (λ c. When (term_tree e) d r (plain_list body.stmts) true c End) (hidden b.stmts)

pub alone_when_only : (e : Term) (d : Dim) (r : ℕ) (body : Block) → alone (stmt.When e d r body None) ≡ When (term_tree e) d r (tree_of body) false End End
alone_when_only e d r body = alone_when e d r body None

pub list_nil : plain_list [] ≡ End
unfolding plain_list
list_nil = refl

pub list_more : (xs : List Stmt) (s : Stmt) → plain_list (xs ++ s ∷ []) ≡ plain_list xs +++ alone s
list_more xs s = list_push xs s

pub tree_list : (b : Block) → tree_of b ≡ plain_list b.stmts
unfolding tree_of
tree_list b = refl

pub list_append : (xs ys : List Stmt) → plain_list (xs ++ ys) ≡ plain_list xs +++ plain_list ys
unfolding plain_list
list_append [] ys = refl
list_append (x ∷ xs) ys = ap (plain_stmt x) (list_append xs ys) ∙ stmt_append x (plain_list xs) (plain_list ys)

pub tree_append : (old more new : Block) → new.stmts ≡ old.stmts ++ more.stmts → tree_of new ≡ tree_of old +++ tree_of more
unfolding tree_of
tree_append old more new e = ap plain_list e ∙ list_append old.stmts more.stmts

pub ruleset alones = (alone_let, alone_load, alone_var, alone_put, alone_set, alone_for, alone_span, alone_if, alone_when, alone_order, tree_new, tree_push, tree_append, tree_slice)
