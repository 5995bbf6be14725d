use Rattle.std.proofs.lemmas.Result.{err_from_is_err_and}
use Rattle.us_parse.proofs.Texts.{one_goes, one_lost}
use Rattle.us_parse.proofs.parsing.read_one.Goals as goal

pub declaration-requires : goal.declaration-requires
declaration-requires c = c.new-2.ensures

pub returns-in_err-decl : goal.returns-in_err-decl
returns-in_err-decl c =
    let p = err_from_is_err_and c.from_residual.result c.from_residual.ensures.1 in
    rw (p.1, p.2) (one_lost _ _ c.new-none.result c.in_err-decl.field-0.0 c.new.ensures c.new-none.ensures c.in_err-decl.ensures)

pub returns : goal.returns
returns c = one_goes _ _ _ c.in_ok-decl.decl _ c.new-none.result c.new.ensures c.new-none.ensures c.in_ok-decl.ensures c.behind-behind.ensures
