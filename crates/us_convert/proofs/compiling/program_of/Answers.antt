use Rattle.std.proofs.Common.{map, sym, subst, refl, arith, true}
use Rattle.us_format.specs.Program.{plain_shape}
use Rattle.us_format.specs.Reading.{total_count}
use Rattle.us_judge.specs.Views.{declaration_of}
use Rattle.us_judge.proofs.LawfulDeclarations.{accepted-declaration}
use Rattle.us_judge.proofs.Valid.{short-valid}
use Rattle.us_code.specs.Plain.{ProgramTree, phase_tree}
use Rattle.us_right.specs.Right.{IsRight}
use Rattle.us_right.proofs.Accepted.{parts-some, buffers-few}
use Rattle.us_right.proofs.Finished.{right}
use Rattle.us_convert.proofs.Results.{tree-is}
use Rattle.us_convert.proofs.compiling.program_of.Goals as goal

pub returns : goal.returns
returns c =
    subst (λ (p : ProgramTree). IsRight p (declaration_of c.args.from.now) (declaration_of c.args.to.now) (plain_shape c.args.shape))
    (sym (tree-is c.finished.result (total_count (declaration_of c.args.from.now)) c.push_parts.new.draft.phases c.push_parts.new.draft.give c.finished.ensures.sources c.finished.ensures.phases c.finished.ensures.give))
    (right true (plain_shape c.args.shape) (declaration_of c.args.from.now) (declaration_of c.args.to.now) c.push_parts.new.draft.columns _ c.push_parts.new.draft.fresh (map phase_tree c.push_parts.new.draft.phases) c.push_parts.new.draft.give
    (accepted-declaration c.args.to.now c.requires.valid c.requires.accepted) (short-valid c.args.to.now c.requires.valid).few (parts-some c.args.to.now c.requires.accepted) refl
    ((c.in_ok-push_parts.ensures (declaration_of c.args.from.now) (c.in_ok-draft.ensures.made true (declaration_of c.args.to.now))).made) (omega (arith, buffers-few c.args.from.now c.requires.valid_from)))
