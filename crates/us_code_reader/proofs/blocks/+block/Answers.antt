use Rattle.std.proofs.Common.{None, ◌∷◌, refl, sym, ap, ◌∙◌, arith}
use Rattle.std.proofs.lemmas.Result.{err_from_is_err_and}
use Rattle.us_code_table.specs.declared.mark.Mark.TheVariants as m
use Rattle.us_code_table.specs.declared.lexeme.Lexeme.TheVariants as lexeme
use Rattle.us_code_table.specs.Table.{BlockPart, Stmts, ForTail, Else, grammar}
use Rattle.us_code_text.specs.Reads.{answer_of}
use Rattle.us_code_text.proofs.Chains.{via, took}
use Rattle.us_grammar.specs.Grammar.{Part}
use Rattle.us_grammar.specs.Reading.{scan}
use Rattle.us_code_table.specs.Limits.{limits}
use Rattle.us_code_text.specs.Reads.{text_of, count_of, size}
use Rattle.us_code.specs.Plain.{Code, End, alone, tree_of, ◌+++◌}
use Rattle.us_code.proofs.Trees.{append_End}
use Rattle.us_code_reader.proofs.Parts.{goes_on, goes_last, without, lacks_only, code_assoc}
use Rattle.us_code_reader.proofs.blocks.+block.Goals as goal

pub block-returns-in_err-body-in-Token-Fixed-BraceOpen : goal.block-returns-in_err-body-in-Token-Fixed-BraceOpen
block-returns-in_err-body-in-Token-Fixed-BraceOpen t c =
    let p = err_from_is_err_and c.from_residual-in_err-body-in-Token-Fixed-BraceOpen.result c.from_residual-in_err-body-in-Token-Fixed-BraceOpen.ensures.1 in
    rw (p.1, p.2) (λ y s k. via (answer_of c.in_err-body-in-Token-Fixed-BraceOpen.field-0.0) (took BlockPart (lexeme.Fixed m.BraceOpen) _ _ _ _ _ refl c.in_ok-take-in-Token-Fixed-BraceOpen.ensures.ok y s k) (c.in_err-body-in-Token-Fixed-BraceOpen.ensures _ _ _))

pub block-returns-in_err-expect-in-Token-Fixed-BraceOpen : goal.block-returns-in_err-expect-in-Token-Fixed-BraceOpen
block-returns-in_err-expect-in-Token-Fixed-BraceOpen t c =
    let p = err_from_is_err_and c.from_residual-in_err-expect-in-Token-Fixed-BraceOpen.result c.from_residual-in_err-expect-in-Token-Fixed-BraceOpen.ensures.1 in
    rw (p.1, p.2) (λ y s k. via (answer_of c.in_err-expect-in-Token-Fixed-BraceOpen.field-0.0) (took BlockPart (lexeme.Fixed m.BraceOpen) _ _ _ _ _ refl c.in_ok-take-in-Token-Fixed-BraceOpen.ensures.ok y s k ∙ c.in_ok-body-in-Token-Fixed-BraceOpen.ensures.0 _ _ _) (c.in_err-expect-in-Token-Fixed-BraceOpen.ensures _ _ _))

pub statements-returns-in_err-next : goal.statements-returns-in_err-next
statements-returns-in_err-next t c =
    let p = err_from_is_err_and c.from_residual.result c.from_residual.ensures.1 in
    rw (p.1, p.2) (λ y s k. via (answer_of c.in_err-next.field-0.0) (c.more.invariant.0 y s k) (c.in_err-next.ensures _ _ _))

pub statements-more-preserved : goal.statements-more-preserved
statements-more-preserved t c =
    let stmt = c.in-Some.stmt in
    let read = rw c.in-Some.is at c.in_ok-next.ensures in (
      goes_on Stmts Stmts (text_of c.args.reader.now) (count_of c.args.reader.now) (text_of c.more.reader) (count_of c.more.reader) (text_of c.statement.new.reader) (count_of c.statement.new.reader) (λ x. tree_of c.more.block +++ x) (λ x. alone stmt +++ x) (λ x. tree_of c.push.new.self +++ x) c.more.invariant.0 read.0
          (λ v. sym (ap (λ x. x +++ v) c.in_ok-push-in-Some.ensures.ok ∙ code_assoc (tree_of c.more.block) (alone stmt) v)),
      omega (arith, read.1, c.more.invariant.1),
    )

pub statements-returns-in-None : goal.statements-returns-in-None
statements-returns-in-None t c =
    let read = rw c.in-None.is at c.in_ok-next.ensures in
    (goes_last Stmts Stmts (text_of c.args.reader.now) (count_of c.args.reader.now) (text_of c.more.reader) (count_of c.more.reader) (text_of c.statement.new.reader) (count_of c.statement.new.reader) (λ x. tree_of c.more.block +++ x) End (tree_of c.more.block) c.more.invariant.0 read.0 (append_End (tree_of c.more.block)), omega (arith, read.1, c.more.invariant.1))

pub statement-returns-in_err-let_statement-in-Token-Fixed-Let : goal.statement-returns-in_err-let_statement-in-Token-Fixed-Let
statement-returns-in_err-let_statement-in-Token-Fixed-Let t c =
    let p = err_from_is_err_and c.from_residual.result c.from_residual.ensures.1 in
    rw (p.1, p.2) (λ y s k. c.in_err-let_statement-in-Token-Fixed-Let.ensures y s k)

pub statement-returns-in_err-var_statement-in-Token-Fixed-Var : goal.statement-returns-in_err-var_statement-in-Token-Fixed-Var
statement-returns-in_err-var_statement-in-Token-Fixed-Var t c =
    let p = err_from_is_err_and c.from_residual-in_err-var_statement-in-Token-Fixed-Var.result c.from_residual-in_err-var_statement-in-Token-Fixed-Var.ensures.1 in
    rw (p.1, p.2) (λ y s k. c.in_err-var_statement-in-Token-Fixed-Var.ensures y s k)

pub statement-returns-in_err-put_statement-in-Token-Fixed-Put : goal.statement-returns-in_err-put_statement-in-Token-Fixed-Put
statement-returns-in_err-put_statement-in-Token-Fixed-Put t c =
    let p = err_from_is_err_and c.from_residual-in_err-put_statement-in-Token-Fixed-Put.result c.from_residual-in_err-put_statement-in-Token-Fixed-Put.ensures.1 in
    rw (p.1, p.2) (λ y s k. c.in_err-put_statement-in-Token-Fixed-Put.ensures y s k)

pub statement-returns-in_err-set_statement-in-Token-Fixed-Set : goal.statement-returns-in_err-set_statement-in-Token-Fixed-Set
statement-returns-in_err-set_statement-in-Token-Fixed-Set t c =
    let p = err_from_is_err_and c.from_residual-in_err-set_statement-in-Token-Fixed-Set.result c.from_residual-in_err-set_statement-in-Token-Fixed-Set.ensures.1 in
    rw (p.1, p.2) (λ y s k. c.in_err-set_statement-in-Token-Fixed-Set.ensures y s k)

pub statement-returns-in_err-for_statement-in-Token-Fixed-For : goal.statement-returns-in_err-for_statement-in-Token-Fixed-For
statement-returns-in_err-for_statement-in-Token-Fixed-For t c =
    let p = err_from_is_err_and c.from_residual-in_err-for_statement-in-Token-Fixed-For.result c.from_residual-in_err-for_statement-in-Token-Fixed-For.ensures.1 in
    rw (p.1, p.2) (λ y s k. c.in_err-for_statement-in-Token-Fixed-For.ensures y s k)

pub statement-returns-in_err-if_statement-in-Token-Fixed-If : goal.statement-returns-in_err-if_statement-in-Token-Fixed-If
statement-returns-in_err-if_statement-in-Token-Fixed-If t c =
    let p = err_from_is_err_and c.from_residual-in_err-if_statement-in-Token-Fixed-If.result c.from_residual-in_err-if_statement-in-Token-Fixed-If.ensures.1 in
    rw (p.1, p.2) (λ y s k. c.in_err-if_statement-in-Token-Fixed-If.ensures y s k)

pub statement-returns-in_err-when_statement-in-Token-Fixed-When : goal.statement-returns-in_err-when_statement-in-Token-Fixed-When
statement-returns-in_err-when_statement-in-Token-Fixed-When t c =
    let p = err_from_is_err_and c.from_residual-in_err-when_statement-in-Token-Fixed-When.result c.from_residual-in_err-when_statement-in-Token-Fixed-When.ensures.1 in
    rw (p.1, p.2) (λ y s k. c.in_err-when_statement-in-Token-Fixed-When.ensures y s k)

pub statement-returns-in_err-order_statement-in-Token-Fixed-Order : goal.statement-returns-in_err-order_statement-in-Token-Fixed-Order
statement-returns-in_err-order_statement-in-Token-Fixed-Order t c =
    let p = err_from_is_err_and c.from_residual-in_err-order_statement-in-Token-Fixed-Order.result c.from_residual-in_err-order_statement-in-Token-Fixed-Order.ensures.1 in
    rw (p.1, p.2) (λ y s k. c.in_err-order_statement-in-Token-Fixed-Order.ensures y s k)

pub bound-returns-in_err-below-in-Token-Fixed-Below : goal.bound-returns-in_err-below-in-Token-Fixed-Below
bound-returns-in_err-below-in-Token-Fixed-Below t c =
    let p = err_from_is_err_and c.from_residual-in_err-below-in-Token-Fixed-Below.result c.from_residual-in_err-below-in-Token-Fixed-Below.ensures.1 in
    rw (p.1, p.2) (λ y s k. via (answer_of c.in_err-below-in-Token-Fixed-Below.field-0.0) (took ForTail (lexeme.Fixed m.Below) _ _ _ _ _ refl c.in_ok-take-in-Token-Fixed-Below.ensures.ok y s k) (c.in_err-below-in-Token-Fixed-Below.ensures _ _ _))

pub bound-returns-in_err-body-in-Token-Fixed-Below : goal.bound-returns-in_err-body-in-Token-Fixed-Below
bound-returns-in_err-body-in-Token-Fixed-Below t c =
    let p = err_from_is_err_and c.from_residual-in_err-body-in-Token-Fixed-Below.result c.from_residual-in_err-body-in-Token-Fixed-Below.ensures.1 in
    rw (p.1, p.2) (λ y s k. via (answer_of c.in_err-body-in-Token-Fixed-Below.field-0.0) (took ForTail (lexeme.Fixed m.Below) _ _ _ _ _ refl c.in_ok-take-in-Token-Fixed-Below.ensures.ok y s k ∙ c.in_ok-below-in-Token-Fixed-Below.ensures.0 _ _ _) (c.in_err-body-in-Token-Fixed-Below.ensures _ _ _))

pub bound-returns-in_err-first-in-Token-Fixed-In : goal.bound-returns-in_err-first-in-Token-Fixed-In
bound-returns-in_err-first-in-Token-Fixed-In t c =
    let p = err_from_is_err_and c.from_residual-in_err-first-in-Token-Fixed-In.result c.from_residual-in_err-first-in-Token-Fixed-In.ensures.1 in
    rw (p.1, p.2) (λ y s k. via (answer_of c.in_err-first-in-Token-Fixed-In.field-0.0) (took ForTail (lexeme.Fixed m.In) _ _ _ _ _ refl c.in_ok-take-in-Token-Fixed-In.ensures.ok y s k) (c.in_err-first-in-Token-Fixed-In.ensures _ _ _))

pub bound-returns-in_err-expect-in-Token-Fixed-In : goal.bound-returns-in_err-expect-in-Token-Fixed-In
bound-returns-in_err-expect-in-Token-Fixed-In t c =
    let p = err_from_is_err_and c.from_residual-in_err-expect-in-Token-Fixed-In.result c.from_residual-in_err-expect-in-Token-Fixed-In.ensures.1 in
    rw (p.1, p.2) (λ y s k. via (answer_of c.in_err-expect-in-Token-Fixed-In.field-0.0) (took ForTail (lexeme.Fixed m.In) _ _ _ _ _ refl c.in_ok-take-in-Token-Fixed-In.ensures.ok y s k ∙ c.in_ok-first-in-Token-Fixed-In.ensures.0 _ _ _) (c.in_err-expect-in-Token-Fixed-In.ensures _ _ _))

pub bound-returns-in_err-end-in-Token-Fixed-In : goal.bound-returns-in_err-end-in-Token-Fixed-In
bound-returns-in_err-end-in-Token-Fixed-In t c =
    let p = err_from_is_err_and c.from_residual-in_err-end-in-Token-Fixed-In.result c.from_residual-in_err-end-in-Token-Fixed-In.ensures.1 in
    rw (p.1, p.2) (λ y s k. via (answer_of c.in_err-end-in-Token-Fixed-In.field-0.0) (took ForTail (lexeme.Fixed m.In) _ _ _ _ _ refl c.in_ok-take-in-Token-Fixed-In.ensures.ok y s k ∙ c.in_ok-first-in-Token-Fixed-In.ensures.0 _ _ _ ∙ c.in_ok-expect-in-Token-Fixed-In.ensures.0 _ _ _) (c.in_err-end-in-Token-Fixed-In.ensures _ _ _))

pub bound-returns-in_err-expect-in-Token-Fixed-In-2 : goal.bound-returns-in_err-expect-in-Token-Fixed-In-2
bound-returns-in_err-expect-in-Token-Fixed-In-2 t c =
    let p = err_from_is_err_and c.from_residual-in_err-expect-in-Token-Fixed-In-2.result c.from_residual-in_err-expect-in-Token-Fixed-In-2.ensures.1 in
    rw (p.1, p.2) (λ y s k. via (answer_of c.in_err-expect-in-Token-Fixed-In-2.field-0.0) (took ForTail (lexeme.Fixed m.In) _ _ _ _ _ refl c.in_ok-take-in-Token-Fixed-In.ensures.ok y s k ∙ c.in_ok-first-in-Token-Fixed-In.ensures.0 _ _ _ ∙ c.in_ok-expect-in-Token-Fixed-In.ensures.0 _ _ _ ∙ c.in_ok-end-in-Token-Fixed-In.ensures.0 _ _ _) (c.in_err-expect-in-Token-Fixed-In-2.ensures _ _ _))

pub bound-returns-in_err-below-in-Token-Fixed-In : goal.bound-returns-in_err-below-in-Token-Fixed-In
bound-returns-in_err-below-in-Token-Fixed-In t c =
    let p = err_from_is_err_and c.from_residual-in_err-below-in-Token-Fixed-In.result c.from_residual-in_err-below-in-Token-Fixed-In.ensures.1 in
    rw (p.1, p.2) (λ y s k. via (answer_of c.in_err-below-in-Token-Fixed-In.field-0.0) (took ForTail (lexeme.Fixed m.In) _ _ _ _ _ refl c.in_ok-take-in-Token-Fixed-In.ensures.ok y s k ∙ c.in_ok-first-in-Token-Fixed-In.ensures.0 _ _ _ ∙ c.in_ok-expect-in-Token-Fixed-In.ensures.0 _ _ _ ∙ c.in_ok-end-in-Token-Fixed-In.ensures.0 _ _ _ ∙ c.in_ok-expect-in-Token-Fixed-In-2.ensures.0 _ _ _) (c.in_err-below-in-Token-Fixed-In.ensures _ _ _))

pub bound-returns-in_err-body-in-Token-Fixed-In : goal.bound-returns-in_err-body-in-Token-Fixed-In
bound-returns-in_err-body-in-Token-Fixed-In t c =
    let p = err_from_is_err_and c.from_residual-in_err-body-in-Token-Fixed-In.result c.from_residual-in_err-body-in-Token-Fixed-In.ensures.1 in
    rw (p.1, p.2) (λ y s k. via (answer_of c.in_err-body-in-Token-Fixed-In.field-0.0) (took ForTail (lexeme.Fixed m.In) _ _ _ _ _ refl c.in_ok-take-in-Token-Fixed-In.ensures.ok y s k ∙ c.in_ok-first-in-Token-Fixed-In.ensures.0 _ _ _ ∙ c.in_ok-expect-in-Token-Fixed-In.ensures.0 _ _ _ ∙ c.in_ok-end-in-Token-Fixed-In.ensures.0 _ _ _ ∙ c.in_ok-expect-in-Token-Fixed-In-2.ensures.0 _ _ _ ∙ c.in_ok-below-in-Token-Fixed-In.ensures.0 _ _ _) (c.in_err-body-in-Token-Fixed-In.ensures _ _ _))

pub for_statement-returns-in_err-reg : goal.for_statement-returns-in_err-reg
for_statement-returns-in_err-reg t c =
    let p = err_from_is_err_and c.from_residual-in_err-reg.result c.from_residual-in_err-reg.ensures.1 in
    rw (p.1, p.2) (λ y s k. via (answer_of c.in_err-reg.field-0.0) (took Stmts (lexeme.Fixed m.For) _ _ _ _ _ refl c.in_ok-take.ensures.ok y s k) (c.in_err-reg.ensures _ _ _))

pub for_statement-returns-in_err-bound : goal.for_statement-returns-in_err-bound
for_statement-returns-in_err-bound t c =
    let p = err_from_is_err_and c.from_residual-in_err-bound.result c.from_residual-in_err-bound.ensures.1 in
    rw (p.1, p.2) (λ y s k. via (answer_of c.in_err-bound.field-0.0) (took Stmts (lexeme.Fixed m.For) _ _ _ _ _ refl c.in_ok-take.ensures.ok y s k ∙ c.in_ok-reg.ensures.0 _ _ _) (c.in_err-bound.ensures _ _ _))

pub if_statement-returns-in_err-left : goal.if_statement-returns-in_err-left
if_statement-returns-in_err-left t c =
    let p = err_from_is_err_and c.from_residual-in_err-left.result c.from_residual-in_err-left.ensures.1 in
    rw (p.1, p.2) (λ y s k. via (answer_of c.in_err-left.field-0.0) (took Stmts (lexeme.Fixed m.If) _ _ _ _ _ refl c.in_ok-take.ensures.ok y s k) (c.in_err-left.ensures _ _ _))

pub if_statement-returns-in_err-equal : goal.if_statement-returns-in_err-equal
if_statement-returns-in_err-equal t c =
    let p = err_from_is_err_and c.from_residual-in_err-equal.result c.from_residual-in_err-equal.ensures.1 in
    rw (p.1, p.2) (λ y s k. via (answer_of c.in_err-equal.field-0.0) (took Stmts (lexeme.Fixed m.If) _ _ _ _ _ refl c.in_ok-take.ensures.ok y s k ∙ c.in_ok-left.ensures.0 _ _ _) (c.in_err-equal.ensures _ _ _))

pub if_statement-returns-in_err-right : goal.if_statement-returns-in_err-right
if_statement-returns-in_err-right t c =
    let p = err_from_is_err_and c.from_residual-in_err-right.result c.from_residual-in_err-right.ensures.1 in
    rw (p.1, p.2) (λ y s k. via (answer_of c.in_err-right.field-0.0) (took Stmts (lexeme.Fixed m.If) _ _ _ _ _ refl c.in_ok-take.ensures.ok y s k ∙ c.in_ok-left.ensures.0 _ _ _ ∙ c.in_ok-equal.ensures.0 _ _ _) (c.in_err-right.ensures _ _ _))

pub if_statement-returns-in_err-body : goal.if_statement-returns-in_err-body
if_statement-returns-in_err-body t c =
    let p = err_from_is_err_and c.from_residual-in_err-body.result c.from_residual-in_err-body.ensures.1 in
    rw (p.1, p.2) (λ y s k. via (answer_of c.in_err-body.field-0.0) (took Stmts (lexeme.Fixed m.If) _ _ _ _ _ refl c.in_ok-take.ensures.ok y s k ∙ c.in_ok-left.ensures.0 _ _ _ ∙ c.in_ok-equal.ensures.0 _ _ _ ∙ c.in_ok-right.ensures.0 _ _ _) (c.in_err-body.ensures _ _ _))

pub if_statement-returns-in_err-other : goal.if_statement-returns-in_err-other
if_statement-returns-in_err-other t c =
    let p = err_from_is_err_and c.from_residual-in_err-other.result c.from_residual-in_err-other.ensures.1 in
    rw (p.1, p.2) (λ y s k. via (answer_of c.in_err-other.field-0.0) (took Stmts (lexeme.Fixed m.If) _ _ _ _ _ refl c.in_ok-take.ensures.ok y s k ∙ c.in_ok-left.ensures.0 _ _ _ ∙ c.in_ok-equal.ensures.0 _ _ _ ∙ c.in_ok-right.ensures.0 _ _ _ ∙ c.in_ok-body.ensures.0 _ _ _) (c.in_err-other.ensures _ _ _))

pub when_statement-returns-in_err-value : goal.when_statement-returns-in_err-value
when_statement-returns-in_err-value t c =
    let p = err_from_is_err_and c.from_residual-in_err-value.result c.from_residual-in_err-value.ensures.1 in
    rw (p.1, p.2) (λ y s k. via (answer_of c.in_err-value.field-0.0) (took Stmts (lexeme.Fixed m.When) _ _ _ _ _ refl c.in_ok-take.ensures.ok y s k) (c.in_err-value.ensures _ _ _))

pub when_statement-returns-in_err-expect : goal.when_statement-returns-in_err-expect
when_statement-returns-in_err-expect t c =
    let p = err_from_is_err_and c.from_residual-in_err-expect.result c.from_residual-in_err-expect.ensures.1 in
    rw (p.1, p.2) (λ y s k. via (answer_of c.in_err-expect.field-0.0) (took Stmts (lexeme.Fixed m.When) _ _ _ _ _ refl c.in_ok-take.ensures.ok y s k ∙ c.in_ok-value.ensures.0 _ _ _) (c.in_err-expect.ensures _ _ _))

pub when_statement-returns-in_err-below : goal.when_statement-returns-in_err-below
when_statement-returns-in_err-below t c =
    let p = err_from_is_err_and c.from_residual-in_err-below.result c.from_residual-in_err-below.ensures.1 in
    rw (p.1, p.2) (λ y s k. via (answer_of c.in_err-below.field-0.0) (took Stmts (lexeme.Fixed m.When) _ _ _ _ _ refl c.in_ok-take.ensures.ok y s k ∙ c.in_ok-value.ensures.0 _ _ _ ∙ c.in_ok-expect.ensures.0 _ _ _) (c.in_err-below.ensures _ _ _))

pub when_statement-returns-in_err-expect-2 : goal.when_statement-returns-in_err-expect-2
when_statement-returns-in_err-expect-2 t c =
    let p = err_from_is_err_and c.from_residual-in_err-expect-2.result c.from_residual-in_err-expect-2.ensures.1 in
    rw (p.1, p.2) (λ y s k. via (answer_of c.in_err-expect-2.field-0.0) (took Stmts (lexeme.Fixed m.When) _ _ _ _ _ refl c.in_ok-take.ensures.ok y s k ∙ c.in_ok-value.ensures.0 _ _ _ ∙ c.in_ok-expect.ensures.0 _ _ _ ∙ c.in_ok-below.ensures.0 _ _ _) (c.in_err-expect-2.ensures _ _ _))

pub when_statement-returns-in_err-reg : goal.when_statement-returns-in_err-reg
when_statement-returns-in_err-reg t c =
    let p = err_from_is_err_and c.from_residual-in_err-reg.result c.from_residual-in_err-reg.ensures.1 in
    rw (p.1, p.2) (λ y s k. via (answer_of c.in_err-reg.field-0.0) (took Stmts (lexeme.Fixed m.When) _ _ _ _ _ refl c.in_ok-take.ensures.ok y s k ∙ c.in_ok-value.ensures.0 _ _ _ ∙ c.in_ok-expect.ensures.0 _ _ _ ∙ c.in_ok-below.ensures.0 _ _ _ ∙ c.in_ok-expect-2.ensures.0 _ _ _) (c.in_err-reg.ensures _ _ _))

pub when_statement-returns-in_err-body : goal.when_statement-returns-in_err-body
when_statement-returns-in_err-body t c =
    let p = err_from_is_err_and c.from_residual-in_err-body.result c.from_residual-in_err-body.ensures.1 in
    rw (p.1, p.2) (λ y s k. via (answer_of c.in_err-body.field-0.0) (took Stmts (lexeme.Fixed m.When) _ _ _ _ _ refl c.in_ok-take.ensures.ok y s k ∙ c.in_ok-value.ensures.0 _ _ _ ∙ c.in_ok-expect.ensures.0 _ _ _ ∙ c.in_ok-below.ensures.0 _ _ _ ∙ c.in_ok-expect-2.ensures.0 _ _ _ ∙ c.in_ok-reg.ensures.0 _ _ _) (c.in_err-body.ensures _ _ _))

pub when_statement-returns-in_err-other : goal.when_statement-returns-in_err-other
when_statement-returns-in_err-other t c =
    let p = err_from_is_err_and c.from_residual-in_err-other.result c.from_residual-in_err-other.ensures.1 in
    rw (p.1, p.2) (λ y s k. via (answer_of c.in_err-other.field-0.0) (took Stmts (lexeme.Fixed m.When) _ _ _ _ _ refl c.in_ok-take.ensures.ok y s k ∙ c.in_ok-value.ensures.0 _ _ _ ∙ c.in_ok-expect.ensures.0 _ _ _ ∙ c.in_ok-below.ensures.0 _ _ _ ∙ c.in_ok-expect-2.ensures.0 _ _ _ ∙ c.in_ok-reg.ensures.0 _ _ _ ∙ c.in_ok-body.ensures.0 _ _ _) (c.in_err-other.ensures _ _ _))

pub other-returns-in_err-block : goal.other-returns-in_err-block
other-returns-in_err-block t c =
    let p = err_from_is_err_and c.from_residual-in_err-block.result c.from_residual-in_err-block.ensures.1 in
    rw (p.1, p.2) (λ y s k. via (answer_of c.in_err-block.field-0.0) (took Else (lexeme.Fixed m.Else) _ _ _ _ _ refl c.in_ok-take.ensures.ok y s k) (c.in_err-block.ensures _ _ _))

pub if_statement-returns-then-not-stands : goal.if_statement-returns-then-not-stands
if_statement-returns-then-not-stands t c =
    let no = without Else None (text_of c.block.new.reader) (count_of c.block.new.reader) refl (lacks_only Else m.Else _ (text_of c.block.new.reader) refl refl (c.stands.ensures.no c.if-not-stands.true)) in
    (λ y s k. took Stmts (lexeme.Fixed m.If) _ _ _ _ _ refl c.in_ok-take.ensures.ok y s k ∙ c.in_ok-left.ensures.0 _ _ _ ∙ c.in_ok-equal.ensures.0 _ _ _ ∙ c.in_ok-right.ensures.0 _ _ _ ∙ c.in_ok-body.ensures.0 _ _ _ ∙ no _ _ _ ∙ ap (λ (z : Code). scan grammar limits (text_of c.block.new.reader) (count_of c.block.new.reader) (Part Stmts ∷ y ∷ s) (λ vs. k (z +++ vs.0, vs.1))) (sym c.if_else.ensures), omega (arith, ap size c.in_ok-take.ensures.ok.parts, c.in_ok-left.ensures.1, c.in_ok-equal.ensures.1, c.in_ok-right.ensures.1, c.in_ok-body.ensures.1))

pub when_statement-returns-then-not-stands : goal.when_statement-returns-then-not-stands
when_statement-returns-then-not-stands t c =
    let no = without Else None (text_of c.block.new.reader) (count_of c.block.new.reader) refl (lacks_only Else m.Else _ (text_of c.block.new.reader) refl refl (c.stands.ensures.no c.if-not-stands.true)) in
    (λ y s k. took Stmts (lexeme.Fixed m.When) _ _ _ _ _ refl c.in_ok-take.ensures.ok y s k ∙ c.in_ok-value.ensures.0 _ _ _ ∙ c.in_ok-expect.ensures.0 _ _ _ ∙ c.in_ok-below.ensures.0 _ _ _ ∙ c.in_ok-expect-2.ensures.0 _ _ _ ∙ c.in_ok-reg.ensures.0 _ _ _ ∙ c.in_ok-body.ensures.0 _ _ _ ∙ no _ _ _ ∙ ap (λ (z : Code). scan grammar limits (text_of c.block.new.reader) (count_of c.block.new.reader) (Part Stmts ∷ y ∷ s) (λ vs. k (z +++ vs.0, vs.1))) (sym c.when_else.ensures), omega (arith, ap size c.in_ok-take.ensures.ok.parts, c.in_ok-value.ensures.1, c.in_ok-expect.ensures.1, c.in_ok-below.ensures.1, c.in_ok-expect-2.ensures.1, c.in_ok-reg.ensures.1, c.in_ok-body.ensures.1))
