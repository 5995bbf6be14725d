use Rattle.std.proofs.Common.{◌≡◌, rules}
use Rattle.std.proofs.lemmas.Fn.{always_returns_same}
use Rattle.std.proofs.lemmas.List.Sorted.{IsNonDecreasingBy-from_sort_by_key}
use Rattle.us_matrix.specs.Map.{place}
use Rattle.us_changes.proofs.ValueLemmas.{stable_values}
use Rattle.us_changes.proofs.sorting.sort_sets.Goals as goal

pub returns : goal.returns
returns c =
    let sorted = c.in_ok-sort_by_key.ensures in
    record {
      order = IsNonDecreasingBy-from_sort_by_key place _ sorted.sorted (λ a r q k. search rules);
      permutation = sorted.permutation;
      values = stable_values _ _ (sorted.stable place (always_returns_same _ (λ a r. r ≡ place a.0.now) _ (λ a r q k. search rules)));
    }
