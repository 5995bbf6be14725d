use Rattle.std.proofs.Common.{rules, ◌∙◌, ap, w64, FitsSigned}
use Rattle.std.specs.Int.{cast_unsigned}
use Rattle.std.proofs.lemmas.Int.{to_z-of_z}
use Rattle.us_code.specs.Plain.{term_tree}
use Rattle.us_code.specs.Run.{put}
use Rattle.us_machine.specs.Tables.{regs_of}
use Rattle.us_machine.proofs.Readying.{evaluable}
use Rattle.us_machine.proofs.Cells.{load_index, at_index, can_get, loads}
use Rattle.us_machine.proofs.steps.load.Goals as goal

pub eval-requires : goal.eval-requires
eval-requires c =
    let y = c.requires.1 in
    evaluable c.args.tables.now c.args.source.now c.args.region.now (regs_of c.args.regs.now) c.requires.0 (term_tree c.args.at.now) y.fits y.sized y.terms.0.0 y.typed.2

pub get-cell-requires : goal.get-cell-requires
get-cell-requires c =
    let t = c.args.tables.now in
    let at = term_tree c.args.at.now in
    let i = load_index t c.args.source.now c.args.region.now (regs_of c.args.regs.now) c.requires.0 c.args.reg c.args.buf at c.requires.1 in
    let f : FitsSigned w64 c.eval.result = search rules in
    let x = at_index t c.args.source.now c.args.region.now (regs_of c.args.regs.now) c.args.buf at i c.eval.result c.cast_unsigned-at.result c.eval.ensures (c.cast_unsigned-at.ensures ∙ ap (cast_unsigned w64) (to_z-of_z w64 c.eval.result f)) in
    can_get t c.args.source.now c.args.region.now (regs_of c.args.regs.now) c.args.buf at i c.segment.result c.cast_unsigned-at.result c.segment.ensures x

pub returns-clause-ok : goal.returns-clause-ok
returns-clause-ok c =
    let t = c.args.tables.now in
    let at = term_tree c.args.at.now in
    let i = load_index t c.args.source.now c.args.region.now (regs_of c.args.regs.now) c.requires.0 c.args.reg c.args.buf at c.requires.1 in
    let f : FitsSigned w64 c.eval.result = search rules in
    let h : FitsSigned w64 c.get-cell.result = search rules in
    let x = at_index t c.args.source.now c.args.region.now (regs_of c.args.regs.now) c.args.buf at i c.eval.result c.cast_unsigned-at.result c.eval.ensures (c.cast_unsigned-at.ensures ∙ ap (cast_unsigned w64) (to_z-of_z w64 c.eval.result f)) in
    loads t c.args.source.now c.args.region.now (regs_of c.args.regs.now) c.args.buf at i c.args.reg c.segment.result c.cast_unsigned-at.result c.get-cell.result (regs_of c.set.new.self) c.segment.ensures x c.get-cell.ensures
    (c.in_ok-set.ensures ∙ ap (put (regs_of c.args.regs.now) c.args.reg) (to_z-of_z w64 c.get-cell.result h))
