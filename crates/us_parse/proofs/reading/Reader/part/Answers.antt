use Rattle.std.proofs.Common.{refl, ◌∙◌}
use Rattle.std.proofs.lemmas.Result.{err_from_is_err_and}
use Rattle.us_parse.proofs.Storing.{part_goes, part_lost}
use Rattle.us_parse.proofs.reading.Reader.part.Goals as goal

pub returns-in_err-storage : goal.returns-in_err-storage
returns-in_err-storage c =
    let p = err_from_is_err_and c.from_residual-in_err-storage.result c.from_residual-in_err-storage.ensures.1 in
    rw (p.1, p.2) (part_lost _ _ _ _ c.in_ok-levels.levels c.in_err-storage.field-0.0 c.in_ok-levels.ensures c.in_err-storage.ensures)

pub returns : goal.returns
returns c = (part_goes _ _ _ _ _ c.in_ok-levels.levels _ _ _ c.in_ok-levels.ensures c.in_ok-storage.ensures c.replace-names.ensures.value refl refl refl refl refl, c.replace-names.ensures.after ∙ c.new.ensures)
