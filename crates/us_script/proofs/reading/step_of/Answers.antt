use Rattle.std.proofs.Common.{sym, ◌∙◌}
use Rattle.us_script.proofs.StepLemmas.{no_name, named_set, named_undo, named_size, named_other}
use Rattle.us_script.proofs.reading.step_of.Goals as goal

pub returns-in_default : goal.returns-in_default
returns-in_default c = sym (no_name c.args.number c.args.shape.rows c.args.shape.cols c.args.line.now c.in_default.ensures)

pub returns-then-is_word : goal.returns-then-is_word
returns-then-is_word c =
    c.set_line.ensures ∙ sym (named_set c.args.number c.args.shape.rows c.args.shape.cols c.args.line.now c.in-Some.name.now _ c.in-Some.ensures (sym c.if-is_word.ensures))

pub returns-then-is_word-2 : goal.returns-then-is_word-2
returns-then-is_word-2 c =
    c.alone.ensures ∙ sym (named_undo c.args.number c.args.shape.rows c.args.shape.cols c.args.line.now c.in-Some.name.now _ c.in-Some.ensures (sym c.if-is_word.ensures) (sym c.if-is_word-2.ensures))

pub returns-then-is_word-3 : goal.returns-then-is_word-3
returns-then-is_word-3 c =
    c.alone-then-is_word-3.ensures
    ∙ sym (named_size c.args.number c.args.shape.rows c.args.shape.cols c.args.line.now c.in-Some.name.now _ c.in-Some.ensures (sym c.if-is_word.ensures) (sym c.if-is_word-2.ensures) (sym c.if-is_word-3.ensures))

pub returns : goal.returns
returns c =
    sym (named_other c.args.number c.args.shape.rows c.args.shape.cols c.args.line.now c.in-Some.name.now _ c.in-Some.ensures (sym c.if-is_word.ensures) (sym c.if-is_word-2.ensures) (sym c.if-is_word-3.ensures))
