use Rattle.std.proofs.Common.{refl, ◌∙◌, sym}
use Rattle.std.proofs.lemmas.Result.{err_from_is_err_and}
use Rattle.us_parse.proofs.Storing.{storage_no_trim, storage_no_merge, storage_no_packs, storage_unclosed, storage_goes}
use Rattle.us_parse.proofs.parts.storage.Goals as goal

pub returns-in_err-trim : goal.returns-in_err-trim
returns-in_err-trim c =
    let p = err_from_is_err_and c.from_residual.result c.from_residual.ensures.1 in
    rw (p.1, p.2) (storage_no_trim _ c.in_err-trim.field-0.0 c.in_err-trim.ensures)

pub returns-in_err-merge : goal.returns-in_err-merge
returns-in_err-merge c =
    let p = err_from_is_err_and c.from_residual-in_err-merge.result c.from_residual-in_err-merge.ensures.1 in
    rw (p.1, p.2) (storage_no_merge _ _ c.in_ok-trim.trim c.in_err-merge.field-0.0 c.in_ok-trim.ensures c.in_err-merge.ensures)

pub returns-in_err-packs : goal.returns-in_err-packs
returns-in_err-packs c =
    let p = err_from_is_err_and c.from_residual-in_err-packs.result c.from_residual-in_err-packs.ensures.1 in
    rw (p.1, p.2) (storage_no_packs _ _ _ c.in_ok-trim.trim c.in_ok-merge.merge c.in_err-packs.field-0.0 c.in_ok-trim.ensures c.in_ok-merge.ensures c.in_err-packs.ensures)

pub returns-then-not-ends : goal.returns-then-not-ends
returns-then-not-ends c = storage_unclosed _ _ _ _ c.in_ok-trim.trim c.in_ok-merge.merge c.in_ok-packs.packs c.in_ok-trim.ensures c.in_ok-merge.ensures c.in_ok-packs.ensures _ c.refusal.ensures (sym c.stands-ends.ensures ∙ c.if-not-ends.true)

pub returns : goal.returns
returns c = storage_goes _ _ _ _ c.in_ok-trim.trim c.in_ok-merge.merge c.in_ok-packs.packs c.in_ok-trim.ensures c.in_ok-merge.ensures c.in_ok-packs.ensures _ refl refl refl (sym c.stands-ends.ensures ∙ c.if-not-ends.false)
