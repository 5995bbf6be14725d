use Rattle.std.proofs.Common.{◌++◌, [], ◌∷◌, ℕ, pos, sym, ap, ◌∙◌, take, List}
use Rattle.std.proofs.lemmas.List.{take_all}
use Rattle.us_climb.specs.declared.found.Found.{Found}
use Rattle.us_check.specs.declared.repeats.Place.{Place}
use Rattle.us_check.specs.Repeats.{found_entries, places_from}
use Rattle.us_check.proofs.Repeated.{found-more}
use Rattle.us_check.proofs.repeats.places_of.Goals as goal

pub loop-index-preserved : goal.loop-index-preserved
loop-index-preserved c =
    let found = c.args.found.now in
    let k = c.loop-index.index in
    let last : ℕ → List Place = λ at. record { at = at; index = k } ∷ [] in
    c.in_ok-push.ensures.items
    ∙ ap (λ (l : List Place). l ++ last c.walked.result) c.loop-index.invariant
    ∙ ap (λ (n : ℕ). places_from 0 (found_entries (take k found)) ++ last n) c.walked.ensures
    ∙ sym (found-more found k (record { position = record { part = 0; x = 0 }; triple = record { i = 0; j = 0; v = pos 0 } }) c.loop-index-test.true)

pub returns : goal.returns
returns c = c.loop-index.invariant ∙ ap (λ (l : List Found). places_from 0 (found_entries l)) (take_all c.loop-index.index c.args.found.now c.loop-index-test.false)
