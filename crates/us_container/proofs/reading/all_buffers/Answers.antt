use Rattle.std.proofs.lemmas.Result.{err_from_is_err_and}
use Rattle.us_container.proofs.Chain.{no_count, other_count, few_buffers, more_behind, all_found}
use Rattle.us_container.proofs.reading.all_buffers.Goals as goal

pub returns-in_err-count : goal.returns-in_err-count
returns-in_err-count c =
    let p = err_from_is_err_and c.from_residual.result c.from_residual.ensures.1 in
    rw (p.1, p.2) (no_count c.args.len c.args.wanted c.args.rest.now c.in_err-count.field-0.0 c.in_err-count.ensures)

pub returns-in_err-right_count : goal.returns-in_err-right_count
returns-in_err-right_count c =
    let p = err_from_is_err_and c.from_residual-in_err-right_count.result c.from_residual-in_err-right_count.ensures.1 in
    rw (p.1, p.2) (other_count c.args.len c.args.wanted c.args.rest.now c.in_ok-count.count c.in_ok-count.rest.now c.in_ok-count.ensures c.in_err-right_count.field-0.0 c.in_err-right_count.ensures.is)

pub returns-in_err-found : goal.returns-in_err-found
returns-in_err-found c =
    let p = err_from_is_err_and c.from_residual-in_err-found.result c.from_residual-in_err-found.ensures.1 in
    rw (p.1, p.2) (few_buffers c.args.len c.args.wanted c.args.rest.now c.in_ok-count.count c.in_ok-count.rest.now c.in_ok-count.ensures c.in_ok-right_count.ensures.is c.in_ok-right_count.ensures.same c.in_err-found.field-0.0 c.in_err-found.ensures)

pub returns-in_err-at_end : goal.returns-in_err-at_end
returns-in_err-at_end c =
    let p = err_from_is_err_and c.from_residual-in_err-at_end.result c.from_residual-in_err-at_end.ensures.1 in
    rw (p.1, p.2) (more_behind c.args.len c.args.wanted c.args.rest.now c.in_ok-count.count c.in_ok-count.rest.now c.in_ok-count.ensures c.in_ok-right_count.ensures.is c.in_ok-right_count.ensures.same c.in_ok-found.found c.in_ok-found.rest.now c.in_ok-found.ensures c.in_err-at_end.field-0.0 c.in_err-at_end.ensures)

pub returns : goal.returns
returns c = all_found c.args.len c.args.wanted c.args.rest.now c.in_ok-count.count c.in_ok-count.rest.now c.in_ok-count.ensures c.in_ok-right_count.ensures.is c.in_ok-right_count.ensures.same c.in_ok-found.found c.in_ok-found.rest.now c.in_ok-found.ensures c.in_ok-at_end.ensures
