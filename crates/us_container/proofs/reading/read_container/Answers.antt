use Rattle.std.proofs.lemmas.Result.{err_from_is_err_and}
use Rattle.us_decl.specs.Views.{decl_view}
use Rattle.us_container.proofs.Chain.{no_magic, no_version, no_text, refused, to_buffers}
use Rattle.us_container.proofs.reading.read_container.Goals as goal

pub returns-in_err-rest : goal.returns-in_err-rest
returns-in_err-rest c =
    let p = err_from_is_err_and c.from_residual.result c.from_residual.ensures.1 in
    rw (p.1, p.2) (no_magic c.args.bytes.now c.in_err-rest.field-0.0 c.in_err-rest.ensures)

pub returns-in_err-rest-2 : goal.returns-in_err-rest-2
returns-in_err-rest-2 c =
    let p = err_from_is_err_and c.from_residual-in_err-rest-2.result c.from_residual-in_err-rest-2.ensures.1 in
    rw (p.1, p.2) (no_version c.args.bytes.now c.in_ok-rest.rest.now c.in_ok-rest.ensures c.in_err-rest-2.field-0.0 c.in_err-rest-2.ensures)

pub returns-in_err-decl : goal.returns-in_err-decl
returns-in_err-decl c =
    let p = err_from_is_err_and c.from_residual-in_err-decl.result c.from_residual-in_err-decl.ensures.1 in
    rw (p.1, p.2) (no_text c.args.bytes.now c.in_ok-rest.rest.now c.in_ok-rest.ensures c.in_ok-rest-2.rest.now c.in_ok-rest-2.ensures c.in_err-decl.field-0.0 c.in_err-decl.ensures.is)

pub returns-in_err-format : goal.returns-in_err-format
returns-in_err-format c =
    let p = err_from_is_err_and c.from_residual-in_err-format.result c.from_residual-in_err-format.ensures.1 in
    rw (p.1, p.2) (refused c.args.bytes.now c.in_ok-rest.rest.now c.in_ok-rest.ensures c.in_ok-rest-2.rest.now c.in_ok-rest-2.ensures
    (decl_view c.in_ok-decl.decl) c.in_ok-decl.rest.now c.in_ok-decl.ensures.is c.in_err-format.field-0.0 c.in_err-format.ensures.is)

pub returns : goal.returns
returns c =
    to_buffers c.args.bytes.now c.in_ok-rest.rest.now c.in_ok-rest.ensures c.in_ok-rest-2.rest.now c.in_ok-rest-2.ensures
    (decl_view c.in_ok-decl.decl) c.in_ok-decl.rest.now c.in_ok-decl.ensures.is c.in_ok-format.ensures.is c.in_ok-format.format c.behind_text.result c.in_ok-format.ensures.same c.behind_text.ensures
