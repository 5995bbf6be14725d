use Rattle.std.proofs.Common.{sym, subst, refl, ◌≡◌, ◌++◌, ◌∷◌, [], true, false}
use Rattle.us_mm.specs.Known.{HasEntries, HasValues, Took}
use Rattle.us_mm.specs.Stages.{is_array}
use Rattle.us_mm.proofs.KnowsLemmas.{took_map}
use Rattle.us_mm.proofs.stage.Stage.take.Goals as goal

pub returns-in-Entries : goal.returns-in-Entries
returns-in-Entries c = λ ls k is.
    let has = rw c.in-Entries.is at k in
    subst
    (λ at. Took {A = Unit {0}} (λ _. HasEntries c.take.new.self (ls ++ c.args.line.now ∷ []) × (false ≡ is_array at)) (is_array at) c.take.result (ls ++ c.args.line.now ∷ []))
    (sym c.in-Entries.is)
    (took_map {A = Unit {0}} (λ _. HasEntries c.take.new.self (ls ++ c.args.line.now ∷ [])) (λ _. HasEntries c.take.new.self (ls ++ c.args.line.now ∷ []) × (false ≡ false)) false c.take.result (ls ++ c.args.line.now ∷ []) (λ _ p. (p, refl)) (c.take.ensures ls has is))

pub returns-in-Values : goal.returns-in-Values
returns-in-Values c = λ ls k is.
    let has = rw c.in-Values.is at k in
    subst
    (λ at. Took {A = Unit {0}} (λ _. HasValues c.take-in-Values.new.self (ls ++ c.args.line.now ∷ []) × (true ≡ is_array at)) (is_array at) c.take-in-Values.result (ls ++ c.args.line.now ∷ []))
    (sym c.in-Values.is)
    (took_map {A = Unit {0}} (λ _. HasValues c.take-in-Values.new.self (ls ++ c.args.line.now ∷ [])) (λ _. HasValues c.take-in-Values.new.self (ls ++ c.args.line.now ∷ []) × (true ≡ true)) true c.take-in-Values.result (ls ++ c.args.line.now ∷ []) (λ _ p. (p, refl)) (c.take-in-Values.ensures ls has is))
