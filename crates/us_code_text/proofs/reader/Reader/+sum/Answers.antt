use Rattle.std.proofs.Common.{refl, ◌∙◌}
use Rattle.std.proofs.lemmas.Result.{err_from_is_err_and}
use Rattle.us_code_table.specs.declared.mark.Mark.TheVariants as m
use Rattle.us_code_table.specs.Table.{Atom, ProductTail, SumTail}
use Rattle.us_code_table.specs.declared.lexeme.Lexeme.TheVariants as lexeme
use Rattle.us_code_text.specs.Reads.{answer_of, text_of, count_of}
use Rattle.us_code_text.proofs.Chains.{via, took, atom_first, product_first, lost_atom, lost_product}
use Rattle.us_code_text.proofs.reader.Reader.+sum.Goals as goal

pub atom-returns-in_err-inner-in-Token-Fixed-Open : goal.atom-returns-in_err-inner-in-Token-Fixed-Open
atom-returns-in_err-inner-in-Token-Fixed-Open t c =
    let p = err_from_is_err_and c.from_residual-in_err-inner-in-Token-Fixed-Open.result c.from_residual-in_err-inner-in-Token-Fixed-Open.ensures.1 in
    rw (p.1, p.2) (λ y s k. via (answer_of c.in_err-inner-in-Token-Fixed-Open.field-0.0) (took Atom (lexeme.Fixed m.Open) _ _ _ _ _ refl c.in_ok-take-in-Token-Fixed-Open.ensures.ok y s k) (c.in_err-inner-in-Token-Fixed-Open.ensures _ _ _))

pub atom-returns-in_err-expect-in-Token-Fixed-Open : goal.atom-returns-in_err-expect-in-Token-Fixed-Open
atom-returns-in_err-expect-in-Token-Fixed-Open t c =
    let p = err_from_is_err_and c.from_residual-in_err-expect-in-Token-Fixed-Open.result c.from_residual-in_err-expect-in-Token-Fixed-Open.ensures.1 in
    rw (p.1, p.2) (λ y s k. via (answer_of c.in_err-expect-in-Token-Fixed-Open.field-0.0) (took Atom (lexeme.Fixed m.Open) _ _ _ _ _ refl c.in_ok-take-in-Token-Fixed-Open.ensures.ok y s k ∙ c.in_ok-inner-in-Token-Fixed-Open.ensures.0 _ _ _) (c.in_err-expect-in-Token-Fixed-Open.ensures _ _ _))

pub atom-returns-in_err-dim-in-Token-Fixed-Flat : goal.atom-returns-in_err-dim-in-Token-Fixed-Flat
atom-returns-in_err-dim-in-Token-Fixed-Flat t c =
    let p = err_from_is_err_and c.from_residual-in_err-dim-in-Token-Fixed-Flat.result c.from_residual-in_err-dim-in-Token-Fixed-Flat.ensures.1 in
    rw (p.1, p.2) (λ y s k. via (answer_of c.in_err-dim-in-Token-Fixed-Flat.field-0.0) (took Atom (lexeme.Fixed m.Flat) _ _ _ _ _ refl c.in_ok-take-in-Token-Fixed-Flat.ensures.ok y s k) (c.in_err-dim-in-Token-Fixed-Flat.ensures _ _ _))

pub atom-returns-in_err-expect-in-Token-Fixed-Flat : goal.atom-returns-in_err-expect-in-Token-Fixed-Flat
atom-returns-in_err-expect-in-Token-Fixed-Flat t c =
    let p = err_from_is_err_and c.from_residual-in_err-expect-in-Token-Fixed-Flat.result c.from_residual-in_err-expect-in-Token-Fixed-Flat.ensures.1 in
    rw (p.1, p.2) (λ y s k. via (answer_of c.in_err-expect-in-Token-Fixed-Flat.field-0.0) (took Atom (lexeme.Fixed m.Flat) _ _ _ _ _ refl c.in_ok-take-in-Token-Fixed-Flat.ensures.ok y s k ∙ c.in_ok-dim-in-Token-Fixed-Flat.ensures.0 _ _ _) (c.in_err-expect-in-Token-Fixed-Flat.ensures _ _ _))

pub atom-returns-in_err-left-in-Token-Fixed-Flat : goal.atom-returns-in_err-left-in-Token-Fixed-Flat
atom-returns-in_err-left-in-Token-Fixed-Flat t c =
    let p = err_from_is_err_and c.from_residual-in_err-left-in-Token-Fixed-Flat.result c.from_residual-in_err-left-in-Token-Fixed-Flat.ensures.1 in
    rw (p.1, p.2) (λ y s k. via (answer_of c.in_err-left-in-Token-Fixed-Flat.field-0.0) (took Atom (lexeme.Fixed m.Flat) _ _ _ _ _ refl c.in_ok-take-in-Token-Fixed-Flat.ensures.ok y s k ∙ c.in_ok-dim-in-Token-Fixed-Flat.ensures.0 _ _ _ ∙ c.in_ok-expect-in-Token-Fixed-Flat.ensures.0 _ _ _) (c.in_err-left-in-Token-Fixed-Flat.ensures _ _ _))

pub atom-returns-in_err-expect-in-Token-Fixed-Flat-2 : goal.atom-returns-in_err-expect-in-Token-Fixed-Flat-2
atom-returns-in_err-expect-in-Token-Fixed-Flat-2 t c =
    let p = err_from_is_err_and c.from_residual-in_err-expect-in-Token-Fixed-Flat-2.result c.from_residual-in_err-expect-in-Token-Fixed-Flat-2.ensures.1 in
    rw (p.1, p.2) (λ y s k. via (answer_of c.in_err-expect-in-Token-Fixed-Flat-2.field-0.0) (took Atom (lexeme.Fixed m.Flat) _ _ _ _ _ refl c.in_ok-take-in-Token-Fixed-Flat.ensures.ok y s k ∙ c.in_ok-dim-in-Token-Fixed-Flat.ensures.0 _ _ _ ∙ c.in_ok-expect-in-Token-Fixed-Flat.ensures.0 _ _ _ ∙ c.in_ok-left-in-Token-Fixed-Flat.ensures.0 _ _ _) (c.in_err-expect-in-Token-Fixed-Flat-2.ensures _ _ _))

pub atom-returns-in_err-right-in-Token-Fixed-Flat : goal.atom-returns-in_err-right-in-Token-Fixed-Flat
atom-returns-in_err-right-in-Token-Fixed-Flat t c =
    let p = err_from_is_err_and c.from_residual-in_err-right-in-Token-Fixed-Flat.result c.from_residual-in_err-right-in-Token-Fixed-Flat.ensures.1 in
    rw (p.1, p.2) (λ y s k. via (answer_of c.in_err-right-in-Token-Fixed-Flat.field-0.0) (took Atom (lexeme.Fixed m.Flat) _ _ _ _ _ refl c.in_ok-take-in-Token-Fixed-Flat.ensures.ok y s k ∙ c.in_ok-dim-in-Token-Fixed-Flat.ensures.0 _ _ _ ∙ c.in_ok-expect-in-Token-Fixed-Flat.ensures.0 _ _ _ ∙ c.in_ok-left-in-Token-Fixed-Flat.ensures.0 _ _ _ ∙ c.in_ok-expect-in-Token-Fixed-Flat-2.ensures.0 _ _ _) (c.in_err-right-in-Token-Fixed-Flat.ensures _ _ _))

pub atom-returns-in_err-expect-in-Token-Fixed-Flat-3 : goal.atom-returns-in_err-expect-in-Token-Fixed-Flat-3
atom-returns-in_err-expect-in-Token-Fixed-Flat-3 t c =
    let p = err_from_is_err_and c.from_residual-in_err-expect-in-Token-Fixed-Flat-3.result c.from_residual-in_err-expect-in-Token-Fixed-Flat-3.ensures.1 in
    rw (p.1, p.2) (λ y s k. via (answer_of c.in_err-expect-in-Token-Fixed-Flat-3.field-0.0) (took Atom (lexeme.Fixed m.Flat) _ _ _ _ _ refl c.in_ok-take-in-Token-Fixed-Flat.ensures.ok y s k ∙ c.in_ok-dim-in-Token-Fixed-Flat.ensures.0 _ _ _ ∙ c.in_ok-expect-in-Token-Fixed-Flat.ensures.0 _ _ _ ∙ c.in_ok-left-in-Token-Fixed-Flat.ensures.0 _ _ _ ∙ c.in_ok-expect-in-Token-Fixed-Flat-2.ensures.0 _ _ _ ∙ c.in_ok-right-in-Token-Fixed-Flat.ensures.0 _ _ _) (c.in_err-expect-in-Token-Fixed-Flat-3.ensures _ _ _))

pub product-returns-in_err-product : goal.product-returns-in_err-product
product-returns-in_err-product t c =
    let p = err_from_is_err_and c.from_residual.result c.from_residual.ensures.1 in
    rw (p.1, p.2) (lost_atom (text_of c.args.self.now) (count_of c.args.self.now) c.in_err-product.field-0.0 c.in_err-product.ensures)

pub product-more-init : goal.product-more-init
product-more-init t c = (atom_first (text_of c.args.self.now) (count_of c.args.self.now) _ _ _ c.in_ok-product.ensures.0, c.in_ok-product.ensures.1)

pub sum-returns-in_err-sum : goal.sum-returns-in_err-sum
sum-returns-in_err-sum t c =
    let p = err_from_is_err_and c.from_residual.result c.from_residual.ensures.1 in
    rw (p.1, p.2) (lost_product (text_of c.args.self.now) (count_of c.args.self.now) c.in_err-sum.field-0.0 c.in_err-sum.ensures)

pub sum-more-init : goal.sum-more-init
sum-more-init t c = (product_first (text_of c.args.self.now) (count_of c.args.self.now) _ _ _ c.in_ok-sum.ensures.0, c.in_ok-sum.ensures.1)

pub atom-returns-in_err-expect-in-Token-Fixed-Size : goal.atom-returns-in_err-expect-in-Token-Fixed-Size
atom-returns-in_err-expect-in-Token-Fixed-Size t c =
    let p = err_from_is_err_and c.from_residual-in_err-expect-in-Token-Fixed-Size.result c.from_residual-in_err-expect-in-Token-Fixed-Size.ensures.1 in
    rw (p.1, p.2) (λ y s k. via (answer_of c.in_err-expect-in-Token-Fixed-Size.field-0.0) (took Atom (lexeme.Fixed m.Size) _ _ _ _ _ refl c.in_ok-take-in-Token-Fixed-Size.ensures.ok y s k) (c.in_err-expect-in-Token-Fixed-Size.ensures _ _ _))

pub atom-returns-in_err-dim-in-Token-Fixed-Size : goal.atom-returns-in_err-dim-in-Token-Fixed-Size
atom-returns-in_err-dim-in-Token-Fixed-Size t c =
    let p = err_from_is_err_and c.from_residual-in_err-dim-in-Token-Fixed-Size.result c.from_residual-in_err-dim-in-Token-Fixed-Size.ensures.1 in
    rw (p.1, p.2) (λ y s k. via (answer_of c.in_err-dim-in-Token-Fixed-Size.field-0.0) (took Atom (lexeme.Fixed m.Size) _ _ _ _ _ refl c.in_ok-take-in-Token-Fixed-Size.ensures.ok y s k ∙ c.in_ok-expect-in-Token-Fixed-Size.ensures.0 _ _ _) (c.in_err-dim-in-Token-Fixed-Size.ensures _ _ _))

pub atom-returns-in_err-expect-in-Token-Fixed-Size-2 : goal.atom-returns-in_err-expect-in-Token-Fixed-Size-2
atom-returns-in_err-expect-in-Token-Fixed-Size-2 t c =
    let p = err_from_is_err_and c.from_residual-in_err-expect-in-Token-Fixed-Size-2.result c.from_residual-in_err-expect-in-Token-Fixed-Size-2.ensures.1 in
    rw (p.1, p.2) (λ y s k. via (answer_of c.in_err-expect-in-Token-Fixed-Size-2.field-0.0) (took Atom (lexeme.Fixed m.Size) _ _ _ _ _ refl c.in_ok-take-in-Token-Fixed-Size.ensures.ok y s k ∙ c.in_ok-expect-in-Token-Fixed-Size.ensures.0 _ _ _ ∙ c.in_ok-dim-in-Token-Fixed-Size.ensures.0 _ _ _) (c.in_err-expect-in-Token-Fixed-Size-2.ensures _ _ _))

pub atom-returns-in_err-dim-in-Token-Fixed-Next : goal.atom-returns-in_err-dim-in-Token-Fixed-Next
atom-returns-in_err-dim-in-Token-Fixed-Next t c =
    let p = err_from_is_err_and c.from_residual-in_err-dim-in-Token-Fixed-Next.result c.from_residual-in_err-dim-in-Token-Fixed-Next.ensures.1 in
    rw (p.1, p.2) (λ y s k. via (answer_of c.in_err-dim-in-Token-Fixed-Next.field-0.0) (took Atom (lexeme.Fixed m.Next) _ _ _ _ _ refl c.in_ok-take-in-Token-Fixed-Next.ensures.ok y s k) (c.in_err-dim-in-Token-Fixed-Next.ensures _ _ _))

pub atom-returns-in_err-expect-in-Token-Fixed-Next : goal.atom-returns-in_err-expect-in-Token-Fixed-Next
atom-returns-in_err-expect-in-Token-Fixed-Next t c =
    let p = err_from_is_err_and c.from_residual-in_err-expect-in-Token-Fixed-Next.result c.from_residual-in_err-expect-in-Token-Fixed-Next.ensures.1 in
    rw (p.1, p.2) (λ y s k. via (answer_of c.in_err-expect-in-Token-Fixed-Next.field-0.0) (took Atom (lexeme.Fixed m.Next) _ _ _ _ _ refl c.in_ok-take-in-Token-Fixed-Next.ensures.ok y s k ∙ c.in_ok-dim-in-Token-Fixed-Next.ensures.0 _ _ _) (c.in_err-expect-in-Token-Fixed-Next.ensures _ _ _))

pub atom-returns-in_err-inner-in-Token-Fixed-Next : goal.atom-returns-in_err-inner-in-Token-Fixed-Next
atom-returns-in_err-inner-in-Token-Fixed-Next t c =
    let p = err_from_is_err_and c.from_residual-in_err-inner-in-Token-Fixed-Next.result c.from_residual-in_err-inner-in-Token-Fixed-Next.ensures.1 in
    rw (p.1, p.2) (λ y s k. via (answer_of c.in_err-inner-in-Token-Fixed-Next.field-0.0) (took Atom (lexeme.Fixed m.Next) _ _ _ _ _ refl c.in_ok-take-in-Token-Fixed-Next.ensures.ok y s k ∙ c.in_ok-dim-in-Token-Fixed-Next.ensures.0 _ _ _ ∙ c.in_ok-expect-in-Token-Fixed-Next.ensures.0 _ _ _) (c.in_err-inner-in-Token-Fixed-Next.ensures _ _ _))

pub atom-returns-in_err-expect-in-Token-Fixed-Next-2 : goal.atom-returns-in_err-expect-in-Token-Fixed-Next-2
atom-returns-in_err-expect-in-Token-Fixed-Next-2 t c =
    let p = err_from_is_err_and c.from_residual-in_err-expect-in-Token-Fixed-Next-2.result c.from_residual-in_err-expect-in-Token-Fixed-Next-2.ensures.1 in
    rw (p.1, p.2) (λ y s k. via (answer_of c.in_err-expect-in-Token-Fixed-Next-2.field-0.0) (took Atom (lexeme.Fixed m.Next) _ _ _ _ _ refl c.in_ok-take-in-Token-Fixed-Next.ensures.ok y s k ∙ c.in_ok-dim-in-Token-Fixed-Next.ensures.0 _ _ _ ∙ c.in_ok-expect-in-Token-Fixed-Next.ensures.0 _ _ _ ∙ c.in_ok-inner-in-Token-Fixed-Next.ensures.0 _ _ _) (c.in_err-expect-in-Token-Fixed-Next-2.ensures _ _ _))

pub atom-returns-in_err-dim-in-Token-Fixed-Up : goal.atom-returns-in_err-dim-in-Token-Fixed-Up
atom-returns-in_err-dim-in-Token-Fixed-Up t c =
    let p = err_from_is_err_and c.from_residual-in_err-dim-in-Token-Fixed-Up.result c.from_residual-in_err-dim-in-Token-Fixed-Up.ensures.1 in
    rw (p.1, p.2) (λ y s k. via (answer_of c.in_err-dim-in-Token-Fixed-Up.field-0.0) (took Atom (lexeme.Fixed m.Up) _ _ _ _ _ refl c.in_ok-take-in-Token-Fixed-Up.ensures.ok y s k) (c.in_err-dim-in-Token-Fixed-Up.ensures _ _ _))

pub atom-returns-in_err-expect-in-Token-Fixed-Up : goal.atom-returns-in_err-expect-in-Token-Fixed-Up
atom-returns-in_err-expect-in-Token-Fixed-Up t c =
    let p = err_from_is_err_and c.from_residual-in_err-expect-in-Token-Fixed-Up.result c.from_residual-in_err-expect-in-Token-Fixed-Up.ensures.1 in
    rw (p.1, p.2) (λ y s k. via (answer_of c.in_err-expect-in-Token-Fixed-Up.field-0.0) (took Atom (lexeme.Fixed m.Up) _ _ _ _ _ refl c.in_ok-take-in-Token-Fixed-Up.ensures.ok y s k ∙ c.in_ok-dim-in-Token-Fixed-Up.ensures.0 _ _ _) (c.in_err-expect-in-Token-Fixed-Up.ensures _ _ _))

pub atom-returns-in_err-inner-in-Token-Fixed-Up : goal.atom-returns-in_err-inner-in-Token-Fixed-Up
atom-returns-in_err-inner-in-Token-Fixed-Up t c =
    let p = err_from_is_err_and c.from_residual-in_err-inner-in-Token-Fixed-Up.result c.from_residual-in_err-inner-in-Token-Fixed-Up.ensures.1 in
    rw (p.1, p.2) (λ y s k. via (answer_of c.in_err-inner-in-Token-Fixed-Up.field-0.0) (took Atom (lexeme.Fixed m.Up) _ _ _ _ _ refl c.in_ok-take-in-Token-Fixed-Up.ensures.ok y s k ∙ c.in_ok-dim-in-Token-Fixed-Up.ensures.0 _ _ _ ∙ c.in_ok-expect-in-Token-Fixed-Up.ensures.0 _ _ _) (c.in_err-inner-in-Token-Fixed-Up.ensures _ _ _))

pub atom-returns-in_err-expect-in-Token-Fixed-Up-2 : goal.atom-returns-in_err-expect-in-Token-Fixed-Up-2
atom-returns-in_err-expect-in-Token-Fixed-Up-2 t c =
    let p = err_from_is_err_and c.from_residual-in_err-expect-in-Token-Fixed-Up-2.result c.from_residual-in_err-expect-in-Token-Fixed-Up-2.ensures.1 in
    rw (p.1, p.2) (λ y s k. via (answer_of c.in_err-expect-in-Token-Fixed-Up-2.field-0.0) (took Atom (lexeme.Fixed m.Up) _ _ _ _ _ refl c.in_ok-take-in-Token-Fixed-Up.ensures.ok y s k ∙ c.in_ok-dim-in-Token-Fixed-Up.ensures.0 _ _ _ ∙ c.in_ok-expect-in-Token-Fixed-Up.ensures.0 _ _ _ ∙ c.in_ok-inner-in-Token-Fixed-Up.ensures.0 _ _ _) (c.in_err-expect-in-Token-Fixed-Up-2.ensures _ _ _))

pub product-returns-in_err-right-in-Token-Fixed-Star : goal.product-returns-in_err-right-in-Token-Fixed-Star
product-returns-in_err-right-in-Token-Fixed-Star t c =
    let p = err_from_is_err_and c.from_residual-in_err-right-in-Token-Fixed-Star.result c.from_residual-in_err-right-in-Token-Fixed-Star.ensures.1 in
    rw (p.1, p.2) (λ y s k. via (answer_of c.in_err-right-in-Token-Fixed-Star.field-0.0) (c.more.invariant.0 y s k ∙ took ProductTail (lexeme.Fixed m.Star) _ _ _ _ _ refl c.in_ok-take-in-Token-Fixed-Star.ensures.ok y s _) (c.in_err-right-in-Token-Fixed-Star.ensures _ _ _))

pub product-returns-in_err-by-in-Token-Fixed-Slash : goal.product-returns-in_err-by-in-Token-Fixed-Slash
product-returns-in_err-by-in-Token-Fixed-Slash t c =
    let p = err_from_is_err_and c.from_residual-in_err-by-in-Token-Fixed-Slash.result c.from_residual-in_err-by-in-Token-Fixed-Slash.ensures.1 in
    rw (p.1, p.2) (λ y s k. via (answer_of c.in_err-by-in-Token-Fixed-Slash.field-0.0) (c.more.invariant.0 y s k ∙ took ProductTail (lexeme.Fixed m.Slash) _ _ _ _ _ refl c.in_ok-take-in-Token-Fixed-Slash.ensures.ok y s _) (c.in_err-by-in-Token-Fixed-Slash.ensures _ _ _))

pub product-returns-in_err-by-in-Token-Fixed-Percent : goal.product-returns-in_err-by-in-Token-Fixed-Percent
product-returns-in_err-by-in-Token-Fixed-Percent t c =
    let p = err_from_is_err_and c.from_residual-in_err-by-in-Token-Fixed-Percent.result c.from_residual-in_err-by-in-Token-Fixed-Percent.ensures.1 in
    rw (p.1, p.2) (λ y s k. via (answer_of c.in_err-by-in-Token-Fixed-Percent.field-0.0) (c.more.invariant.0 y s k ∙ took ProductTail (lexeme.Fixed m.Percent) _ _ _ _ _ refl c.in_ok-take-in-Token-Fixed-Percent.ensures.ok y s _) (c.in_err-by-in-Token-Fixed-Percent.ensures _ _ _))

pub sum-returns-in_err-right-in-Token-Fixed-Plus : goal.sum-returns-in_err-right-in-Token-Fixed-Plus
sum-returns-in_err-right-in-Token-Fixed-Plus t c =
    let p = err_from_is_err_and c.from_residual-in_err-right-in-Token-Fixed-Plus.result c.from_residual-in_err-right-in-Token-Fixed-Plus.ensures.1 in
    rw (p.1, p.2) (λ y s k. via (answer_of c.in_err-right-in-Token-Fixed-Plus.field-0.0) (c.more.invariant.0 y s k ∙ took SumTail (lexeme.Fixed m.Plus) _ _ _ _ _ refl c.in_ok-take-in-Token-Fixed-Plus.ensures.ok y s _) (c.in_err-right-in-Token-Fixed-Plus.ensures _ _ _))

pub sum-returns-in_err-right-in-Token-Fixed-Minus : goal.sum-returns-in_err-right-in-Token-Fixed-Minus
sum-returns-in_err-right-in-Token-Fixed-Minus t c =
    let p = err_from_is_err_and c.from_residual-in_err-right-in-Token-Fixed-Minus.result c.from_residual-in_err-right-in-Token-Fixed-Minus.ensures.1 in
    rw (p.1, p.2) (λ y s k. via (answer_of c.in_err-right-in-Token-Fixed-Minus.field-0.0) (c.more.invariant.0 y s k ∙ took SumTail (lexeme.Fixed m.Minus) _ _ _ _ _ refl c.in_ok-take-in-Token-Fixed-Minus.ensures.ok y s _) (c.in_err-right-in-Token-Fixed-Minus.ensures _ _ _))
