use Rattle.std.proofs.Common.{sym, subst, refl, ◌≡◌, ◌++◌, ◌∷◌, [], true, false}
use Rattle.std.specs.Str.Lines.{strip_carriage_return}
use Rattle.us_mm.specs.Known.{HasEntries, HasValues, Took}
use Rattle.us_mm.specs.Stages.{is_array}
use Rattle.us_mm.proofs.KnowsLemmas.{took_map}
use Rattle.us_mm.proofs.stage.Stage.take_state.Goals as goal

pub returns-in-Entries : goal.returns-in-Entries
returns-in-Entries c = λ rest ls s k is.
    let has = rw c.in-Entries.is at k in
    subst
    (λ at. Took {A = Unit {0}} (λ _. HasEntries c.take_state.new.self (ls ++ strip_carriage_return rest ∷ []) × (false ≡ is_array at)) (is_array at) c.take_state.result (ls ++ strip_carriage_return rest ∷ []))
    (sym c.in-Entries.is)
    (took_map {A = Unit {0}} (λ _. HasEntries c.take_state.new.self (ls ++ strip_carriage_return rest ∷ [])) (λ _. HasEntries c.take_state.new.self (ls ++ strip_carriage_return rest ∷ []) × (false ≡ false)) false c.take_state.result (ls ++ strip_carriage_return rest ∷ []) (λ _ p. (p, refl)) (c.take_state.ensures rest ls s has is))

pub returns-in-Values : goal.returns-in-Values
returns-in-Values c = λ rest ls s k is.
    let has = rw c.in-Values.is at k in
    subst
    (λ at. Took {A = Unit {0}} (λ _. HasValues c.take_state-in-Values.new.self (ls ++ strip_carriage_return rest ∷ []) × (true ≡ is_array at)) (is_array at) c.take_state-in-Values.result (ls ++ strip_carriage_return rest ∷ []))
    (sym c.in-Values.is)
    (took_map {A = Unit {0}} (λ _. HasValues c.take_state-in-Values.new.self (ls ++ strip_carriage_return rest ∷ [])) (λ _. HasValues c.take_state-in-Values.new.self (ls ++ strip_carriage_return rest ∷ []) × (true ≡ true)) true c.take_state-in-Values.result (ls ++ strip_carriage_return rest ∷ []) (λ _ p. (p, refl)) (c.take_state-in-Values.ensures rest ls s has is))

pub returns-in_ok-stage-in-Head : goal.returns-in_ok-stage-in-Head
returns-in_ok-stage-in-Head c = λ rest ls s k is.
    let has = rw c.in-Head.is at k in
    rw c.in-Head.is (c.in_ok-stage-in-Head.ensures rest ls s has is)
