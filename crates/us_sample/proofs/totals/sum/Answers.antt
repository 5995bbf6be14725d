use Rattle.std.proofs.Common.{rules, ◌%◌, ◌^◌, get_or, sum_by, ap, ◌∙◌, pos, FitsSigned}
use Rattle.std.specs.Int.{w64, cast_signed, cast_unsigned}
use Rattle.std.proofs.lemmas.Int.{to_z-of_z}
use Rattle.std.proofs.lemmas.List.{take_all}
use Rattle.us_matrix.specs.declared.matrix.Triple.{Triple}
use Rattle.us_sample.specs.Totals.{bits_of}
use Rattle.us_sample.proofs.TotalLemmas.{sum_more}
use Rattle.us_sample.proofs.totals.sum.Goals as goal

pub loop-entry-preserved : goal.loop-entry-preserved
loop-entry-preserved c =
    let none : Triple = record { i = 0; j = 0; v = pos 0 } in
    let t = get_or c.entries-entry-items.result.now c.loop-entry.entry-index none in
    let fits : FitsSigned w64 t.v = search rules in
    sum_more c.entries-entry-items.result.now c.loop-entry.entry-index none c.loop-entry.sum _ c.loop-entry-test.true c.loop-entry.invariant
    (c.cast_unsigned-bits.ensures ∙ ap (cast_unsigned w64) (to_z-of_z w64 t.v fits))

pub returns : goal.returns
returns c =
    let fits : FitsSigned w64 c.cast_signed.result = search rules in
    to_z-of_z w64 c.cast_signed.result fits ∙ c.cast_signed.ensures ∙ ap (cast_signed w64) c.loop-entry.invariant
    ∙ ap (λ xs. cast_signed w64 (sum_by bits_of xs % 2 ^ 64)) (take_all _ _ c.loop-entry-test.false ∙ c.entries-entry-items.ensures.value)
