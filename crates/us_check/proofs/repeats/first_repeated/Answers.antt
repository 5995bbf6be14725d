use Rattle.std.proofs.Common.{◌+◌, ◌<◌, ℕ, List, length, rules, arith, subst}
use Rattle.std.specs.List.Sorted.{IsPermutation}
use Rattle.std.proofs.lemmas.List.Sorted.{answers_always}
use Rattle.us_check.specs.declared.repeats.Place.{Place}
use Rattle.us_check.specs.Repeats.{IsLeastIndex, found_entries, place_at, places_from}
use Rattle.us_check.proofs.Repeated.{Lexical, sort_key, lexical-from, found-narrow, repeated}
use Rattle.us_check.proofs.repeats.first_repeated.Goals as goal

pub returns : goal.returns
returns c =
    let ps : List Place = c.sort_unstable_by_key.new.self.items in
    let moved : IsPermutation (places_from 0 (found_entries c.args.found.now)) ps = subst (λ (l : List Place). IsPermutation l ps) c.in_ok-places.ensures c.sort_unstable_by_key.ensures.permutation in
    let sorted : (k : ℕ) → k + 1 < length ps → Lexical (place_at ps k) (place_at ps (k + 1)) = λ k l. lexical-from (place_at ps k) (place_at ps (k + 1))
    (c.sort_unstable_by_key.ensures.sorted sort_key (answers_always _ _ _ (λ f a r g h. search rules)) k (record { at = 0; index = 0 }) (omega arith) l) in
    let least : IsLeastIndex ps (length ps) c.least_index.result = subst (λ (l : List Place). IsLeastIndex l (length l) c.least_index.result) c.deref.ensures.value c.least_index.ensures in
    repeated (found_entries c.args.found.now) ps moved (found-narrow c.args.found.now c.requires) sorted c.least_index.result least
