use Rattle.std.proofs.Common.{map, sym, subst, refl, arith, false, ◌∙◌}
use Rattle.us_format.specs.Program.{plain_shape}
use Rattle.us_format.specs.Reading.{total_count}
use Rattle.us_judge.specs.Views.{declaration_of}
use Rattle.us_judge.proofs.LawfulDeclarations.{accepted-declaration}
use Rattle.us_judge.proofs.Valid.{short-valid}
use Rattle.us_code.specs.Plain.{ProgramTree, phase_tree}
use Rattle.us_limits.specs.Orders.{HaveNoOrder}
use Rattle.us_right.specs.Right.{IsRight}
use Rattle.us_right.specs.Laws.{SameRows}
use Rattle.us_right.proofs.Accepted.{parts-some, buffers-few}
use Rattle.us_right.proofs.Finished.{right}
use Rattle.us_convert.proofs.Likeness.{alike-true, names-none}
use Rattle.us_convert.proofs.Results.{tree-is}
use Rattle.us_convert.proofs.compiling.sorted_program.Goals as goal

pub push_sorted-requires-clause-one : goal.push_sorted-requires-clause-one
push_sorted-requires-clause-one c = (alike-true (declaration_of c.args.from.now) (declaration_of c.args.to.now) c.requires.alike).one_to

pub push_sorted-requires-clause-plain : goal.push_sorted-requires-clause-plain
push_sorted-requires-clause-plain c = (alike-true (declaration_of c.args.from.now) (declaration_of c.args.to.now) c.requires.alike).plain_to

pub returns-clause-right : goal.returns-clause-right
returns-clause-right c =
    let a = alike-true (declaration_of c.args.from.now) (declaration_of c.args.to.now) c.requires.alike in
    let same : SameRows (declaration_of c.args.from.now) (declaration_of c.args.to.now) = record {
      alike = a;
      names = names-none c.args.from.now c.requires.valid_from c.requires.accepted_from (omega (arith, a.one_from)) a.plain_from
          ∙ sym (names-none c.args.to.now c.requires.valid c.requires.accepted (omega (arith, a.one_to)) a.plain_to);
    } in
    subst (λ (p : ProgramTree). IsRight p (declaration_of c.args.from.now) (declaration_of c.args.to.now) (plain_shape c.args.shape))
    (sym (tree-is c.finished.result (total_count (declaration_of c.args.from.now)) c.push_sorted.new.draft.phases c.push_sorted.new.draft.give c.finished.ensures.sources c.finished.ensures.phases c.finished.ensures.give))
    (right false (plain_shape c.args.shape) (declaration_of c.args.from.now) (declaration_of c.args.to.now) c.push_sorted.new.draft.columns 1 c.push_sorted.new.draft.fresh (map phase_tree c.push_sorted.new.draft.phases) c.push_sorted.new.draft.give
    (accepted-declaration c.args.to.now c.requires.valid c.requires.accepted) (short-valid c.args.to.now c.requires.valid).few (parts-some c.args.to.now c.requires.accepted) (sym a.one_to)
    ((c.in_ok-push_sorted.ensures (declaration_of c.args.from.now) same (c.in_ok-draft.ensures.made false (declaration_of c.args.to.now))).made) (omega (arith, buffers-few c.args.from.now c.requires.valid_from)))

pub returns-clause-unsorted : goal.returns-clause-unsorted
returns-clause-unsorted c =
    let a = alike-true (declaration_of c.args.from.now) (declaration_of c.args.to.now) c.requires.alike in
    let same : SameRows (declaration_of c.args.from.now) (declaration_of c.args.to.now) = record {
      alike = a;
      names = names-none c.args.from.now c.requires.valid_from c.requires.accepted_from (omega (arith, a.one_from)) a.plain_from
          ∙ sym (names-none c.args.to.now c.requires.valid c.requires.accepted (omega (arith, a.one_to)) a.plain_to);
    } in
    subst (λ (p : ProgramTree). HaveNoOrder p.phases)
    (sym (tree-is c.finished.result (total_count (declaration_of c.args.from.now)) c.push_sorted.new.draft.phases c.push_sorted.new.draft.give c.finished.ensures.sources c.finished.ensures.phases c.finished.ensures.give))
    ((c.in_ok-push_sorted.ensures (declaration_of c.args.from.now) same (c.in_ok-draft.ensures.made false (declaration_of c.args.to.now))).made.unsorted refl)
