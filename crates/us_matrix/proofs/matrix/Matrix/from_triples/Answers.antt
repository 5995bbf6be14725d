use Rattle.std.proofs.Common.{rules, arith, ◌≡◌, ℕ, List, refl, ◌%◌, ◌^◌, length, take, drop, sym, ap, ◌∙◌}
use Rattle.std.specs.Int.{w64, cast_signed}
use Rattle.std.proofs.lemmas.List.Sorted.{All-permutation, IsNonDecreasingBy-from_sort_by_key, sum_by-IsPermutation}
use Rattle.std.proofs.lemmas.List.{take_at}
use Rattle.us_matrix.specs.Map.{Map, IsInShape, place, value_at, entries_of}
use Rattle.us_matrix.specs.declared.matrix.Triple.{Triple}
use Rattle.us_matrix.specs.Sums.{bits_at}
use Rattle.us_matrix.proofs.EntriesOf.{entries_of-rising, entries_of-entries, entries_of-values}
use Rattle.us_matrix.proofs.OneMatrixLemmas.{same_entries}
use Rattle.us_matrix.proofs.matrix.Matrix.from_triples.Goals as goal

pub merge_sorted-count-requires-clause-inside : goal.merge_sorted-count-requires-clause-inside
merge_sorted-count-requires-clause-inside c =
    rw c.deref_mut.ensures.value (All-permutation (IsInShape c.args.shape.rows c.args.shape.cols) _ _ c.sort_unstable_by_key.ensures.permutation c.requires.inside)

pub merge_sorted-count-requires-clause-order : goal.merge_sorted-count-requires-clause-order
merge_sorted-count-requires-clause-order c =
    rw c.deref_mut.ensures.value (IsNonDecreasingBy-from_sort_by_key place _ c.sort_unstable_by_key.ensures.sorted (λ a r q k. search rules))

pub returns-clause-values : goal.returns-clause-values
returns-clause-values c i j =
    let full : length c.merge_sorted-count.new.triples ≡ c.sort_unstable_by_key.new.self.len = omega (arith, c.merge_sorted-count.auto.triples, c.deref_mut.ensures.len) in
    rw (c.truncate.ensures.items, take_at c.merge_sorted-count.new.triples (drop (length c.merge_sorted-count.new.triples) c.sort_unstable_by_key.new.self.items) c.sort_unstable_by_key.new.self.len full)
    (c.merge_sorted-count.ensures.values i j ∙ ap (λ n. cast_signed w64 (n % 2 ^ 64)) (rw c.deref_mut.ensures.value (sum_by-IsPermutation (bits_at i j) _ _ c.sort_unstable_by_key.ensures.permutation)))

pub returns-clause-matrix : goal.returns-clause-matrix
returns-clause-matrix c =
    let rows = c.args.shape.rows in
    let cols = c.args.shape.cols in
    let ts = c.args.triples.items in
    let full : length c.merge_sorted-count.new.triples ≡ c.sort_unstable_by_key.new.self.len = omega (arith, c.merge_sorted-count.auto.triples, c.deref_mut.ensures.len) in
    let items : c.truncate.new.self.items ≡ take c.merge_sorted-count.result c.merge_sorted-count.new.triples = rw (c.truncate.ensures.items, take_at c.merge_sorted-count.new.triples (drop (length c.merge_sorted-count.new.triples) c.sort_unstable_by_key.new.self.items) c.sort_unstable_by_key.new.self.len full) refl in
    let values : (i j : ℕ) → value_at (take c.merge_sorted-count.result c.merge_sorted-count.new.triples) i j ≡ value_at (entries_of ts) i j =
    λ i j. c.merge_sorted-count.ensures.values i j ∙ ap (λ n. cast_signed w64 (n % 2 ^ 64)) (rw c.deref_mut.ensures.value (sum_by-IsPermutation (bits_at i j) _ _ c.sort_unstable_by_key.ensures.permutation))
    ∙ sym (entries_of-values rows cols ts c.requires.shape.1.high c.requires.inside i j) in
    let same = same_entries rows cols 0 (take c.merge_sorted-count.result c.merge_sorted-count.new.triples) (entries_of ts) c.requires.shape.1.high c.merge_sorted-count.ensures.rising (entries_of-rising ts) c.merge_sorted-count.ensures.entries (entries_of-entries rows cols ts c.requires.inside) values in
    let made : List Triple → Map = λ es. record { rows = rows; cols = cols; entries = es } in
    ap made (items ∙ same)
