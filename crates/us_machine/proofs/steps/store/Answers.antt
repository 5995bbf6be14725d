use Rattle.std.proofs.Common.{rules, ◌∙◌, ap, sym, subst, w64, ℤ, FitsSigned, get_or}
use Rattle.std.specs.Int.{cast_unsigned}
use Rattle.std.proofs.lemmas.Int.{to_z-of_z}
use Rattle.us_raw.specs.declared.width.Width.TheVariants.{W8}
use Rattle.us_raw.specs.Widths.{Holds}
use Rattle.us_code.specs.Plain.{term_tree}
use Rattle.us_machine.specs.Tables.{regs_of}
use Rattle.us_machine.proofs.Readying.{evaluable}
use Rattle.us_machine.proofs.Cells.{set_index, at_index, can_get, any_holds, any_sets}
use Rattle.us_machine.proofs.steps.store.Goals as goal

pub eval-requires : goal.eval-requires
eval-requires c =
    let y = c.requires.1 in
    evaluable c.args.tables.now c.args.source.now c.args.region.now (regs_of c.args.regs.now) c.requires.0 (term_tree c.args.at.now) y.fits y.sized y.terms.0.0 y.typed.2

pub eval-value-requires : goal.eval-value-requires
eval-value-requires c =
    let y = c.requires.1 in
    evaluable c.args.tables.now c.args.source.now c.args.region.now (regs_of c.args.regs.now) c.requires.0 (term_tree c.args.value.now) y.fits y.sized y.terms.1.0 y.typed.3

pub set-requires : goal.set-requires
set-requires c =
    let t = c.args.tables.now in
    let at = term_tree c.args.at.now in
    let value = term_tree c.args.value.now in
    let i = set_index t c.args.source.now c.args.region.now (regs_of c.args.regs.now) c.requires.0 c.args.buf at value c.requires.1 in
    let f : FitsSigned w64 c.eval.result = search rules in
    let h : FitsSigned w64 c.eval-value.result = search rules in
    let x = at_index t c.args.source.now c.args.region.now (regs_of c.args.regs.now) c.args.buf at i c.eval.result c.cast_unsigned-at.result c.eval.ensures (c.cast_unsigned-at.ensures ∙ ap (cast_unsigned w64) (to_z-of_z w64 c.eval.result f)) in
    let p = can_get t c.args.source.now c.args.region.now (regs_of c.args.regs.now) c.args.buf at i c.segment.result c.cast_unsigned-at.result c.segment.ensures x in
    let q = any_holds t c.args.source.now c.args.region.now (regs_of c.args.regs.now) c.requires.0 c.args.buf at value c.requires.1 c.eval-value.result c.segment.result c.eval-value.ensures c.segment.ensures in
    (p.0, p.1, subst (λ (v : ℤ). Holds (get_or c.args.region.now.widths c.segment.result W8) v) (sym (to_z-of_z w64 c.eval-value.result h)) q)

pub returns-clause-runs : goal.returns-clause-runs
returns-clause-runs c =
    let t = c.args.tables.now in
    let at = term_tree c.args.at.now in
    let value = term_tree c.args.value.now in
    let i = set_index t c.args.source.now c.args.region.now (regs_of c.args.regs.now) c.requires.0 c.args.buf at value c.requires.1 in
    let f : FitsSigned w64 c.eval.result = search rules in
    let h : FitsSigned w64 c.eval-value.result = search rules in
    let x = at_index t c.args.source.now c.args.region.now (regs_of c.args.regs.now) c.args.buf at i c.eval.result c.cast_unsigned-at.result c.eval.ensures (c.cast_unsigned-at.ensures ∙ ap (cast_unsigned w64) (to_z-of_z w64 c.eval.result f)) in
    (any_sets t c.args.source.now c.args.region.now (regs_of c.args.regs.now) c.requires.0 c.args.buf at value c.requires.1 i c.set.new.self c.segment.result c.cast_unsigned-at.result _ c.segment.ensures x (to_z-of_z w64 c.eval-value.result h ∙ c.eval-value.ensures) c.set.ensures.lists c.set.ensures.widths).0

pub returns-clause-stands : goal.returns-clause-stands
returns-clause-stands c =
    let t = c.args.tables.now in
    let at = term_tree c.args.at.now in
    let value = term_tree c.args.value.now in
    let i = set_index t c.args.source.now c.args.region.now (regs_of c.args.regs.now) c.requires.0 c.args.buf at value c.requires.1 in
    let f : FitsSigned w64 c.eval.result = search rules in
    let h : FitsSigned w64 c.eval-value.result = search rules in
    let x = at_index t c.args.source.now c.args.region.now (regs_of c.args.regs.now) c.args.buf at i c.eval.result c.cast_unsigned-at.result c.eval.ensures (c.cast_unsigned-at.ensures ∙ ap (cast_unsigned w64) (to_z-of_z w64 c.eval.result f)) in
    (any_sets t c.args.source.now c.args.region.now (regs_of c.args.regs.now) c.requires.0 c.args.buf at value c.requires.1 i c.set.new.self c.segment.result c.cast_unsigned-at.result _ c.segment.ensures x (to_z-of_z w64 c.eval-value.result h ∙ c.eval-value.ensures) c.set.ensures.lists c.set.ensures.widths).1
