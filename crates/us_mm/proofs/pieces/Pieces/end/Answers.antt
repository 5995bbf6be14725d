use Rattle.std.proofs.Common.{sym, refl, ◌∙◌}
use Rattle.us_mm.proofs.PiecesLemmas.{end_faulted, end_empty, end_line}
use Rattle.us_mm.proofs.pieces.Pieces.end.Goals as goal

pub returns-in-Some-clause-value : goal.returns-in-Some-clause-value
returns-in-Some-clause-value c = λ array bytes lt h. end_faulted array c.args.self.now c.args.self.now bytes c.in-Some.fault h c.in-Some.is

pub returns-then-is_empty-clause-value : goal.returns-then-is_empty-clause-value
returns-then-is_empty-clause-value c = λ array bytes lt h. end_empty array c.args.self.now bytes h c.in_default.is (λ rest s. sym (c.is_empty.ensures rest s) ∙ c.if-is_empty.true)

pub returns-clause-value : goal.returns-clause-value
returns-clause-value c = λ array bytes lt h.
    end_line array c.args.self.now (record { alloc = c.args.self.now.alloc; stage = c.take_state.new.self; lines = c.saturating_add-self.result; fault = c.args.self.now.fault; line = c.args.self.now.line }) bytes c.saturating_add-self.result c.take_state.result lt h c.in_default.is (λ rest s. sym (c.is_empty.ensures rest s) ∙ c.if-is_empty.false) c.saturating_add-self.ensures refl c.take_state.ensures
