use Rattle.std.proofs.Common.{sym, ap, subst, ◌≡◌, ◌++◌, ◌∷◌, [], ◌∙◌}
use Rattle.std.specs.Str.Lines.{strip_carriage_return}
use Rattle.us_mm.specs.Known.{Took}
use Rattle.us_mm.specs.Stages.{Knows, is_array}
use Rattle.us_mm.proofs.PiecesLemmas.{none_left}
use Rattle.us_mm.proofs.pieces.Pieces.take.Goals as goal

pub returns-then-is_empty-clause-took : goal.returns-then-is_empty-clause-took
returns-then-is_empty-clause-took c = λ rest ls s k is.
    let empty = none_left rest (sym (c.is_empty.ensures rest s) ∙ c.if-is_empty.true) in
    let before = c.args.self.now.stage in
    let after = c.take.new.self in
    subst (λ l. Took {A = Unit {0}} (λ _. Knows after (ls ++ l ∷ []) × (is_array after ≡ is_array before)) (is_array before) c.take.result (ls ++ l ∷ []))
    (c.without_return.ensures ∙ ap (λ r. strip_carriage_return (r ++ c.args.bytes.now)) (sym empty)) (c.take.ensures ls k is)

pub returns-clause-took : goal.returns-clause-took
returns-clause-took c = λ rest ls s k is. c.take_state.ensures (rest ++ c.args.bytes.now) ls (c.push_all.ensures rest s) k is
