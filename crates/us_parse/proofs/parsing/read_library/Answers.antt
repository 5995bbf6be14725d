use Rattle.std.proofs.Common.{arith, ◌∙◌, sym}
use Rattle.std.proofs.lemmas.Result.{err_from_is_err_and}
use Rattle.us_parse.proofs.Texts.{start_library, more_library, lost_library, decl_smaller}
use Rattle.us_parse.proofs.parsing.read_library.Goals as goal

pub more-init : goal.more-init
more-init c = start_library _ _ _ c.new.ensures c.new-library.ensures

pub declaration-requires : goal.declaration-requires
declaration-requires c = c.new-in-more.ensures

pub returns-in_err-decl : goal.returns-in_err-decl
returns-in_err-decl c =
    let p = err_from_is_err_and c.from_residual.result c.from_residual.ensures.1 in
    rw (p.1, p.2) (lost_library _ _ c.more.library c.in_err-decl.field-0.0 c.more.invariant (sym c.is_end.ensures ∙ c.more-test.true) c.in_err-decl.ensures)

pub more-smaller : goal.more-smaller
more-smaller c = decl_smaller _ _ _ _ c.in_ok-decl.decl c.in_ok-decl.ensures c.advance.ensures

pub push-requires : goal.push-requires
push-requires c = c.in_ok-decl.ensures.is_new

pub more-preserved : goal.more-preserved
more-preserved c = more_library _ _ _ _ c.more.library _ c.in_ok-decl.decl c.more.invariant (sym c.is_end.ensures ∙ c.more-test.true) c.in_ok-decl.ensures c.advance.ensures c.in_ok-push.ensures

pub returns-in_err-push : goal.returns-in_err-push
returns-in_err-push c =
    let p = err_from_is_err_and c.from_residual-in_err-push.result c.from_residual-in_err-push.ensures.1 in
    rw (p.1, p.2) (tt, omega arith)

pub returns : goal.returns
returns c = (_, c.more.invariant, sym c.is_end.ensures ∙ c.more-test.false)
