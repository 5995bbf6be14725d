use Rattle.std.proofs.Common.{rules, ◌≡◌, ◌<◌, ◌≤◌, ℕ, nat_lt, true, false, arith}
use Rattle.std.proofs.lemmas.Bool.Decides.{nat_tests}
use Rattle.std.proofs.lemmas.List.Sorted.{IsPartitionPoint-from_clause, IsPartitionedBy-ltb}
use Rattle.us_matrix.specs.Map.{place}
use Rattle.us_matrix.proofs.Search.{rising_by}
use Rattle.us_matrix.proofs.matrix.first_from.Goals as goal

below : (a b : ℕ) → nat_lt a b ≡ true → a < b
below a b h = grind (arith, nat_tests)

not_below : (a b : ℕ) → nat_lt a b ≡ false → b ≤ a
not_below a b h = grind (arith, nat_tests)

pub returns-clause-before : goal.returns-clause-before
returns-clause-before c k d lt =
    let parts = IsPartitionPoint-from_clause (λ t. nat_lt (place t) c.args.wanted) c.args.entries.now c.partition_point.result c.partition_point.ensures.partitioned (IsPartitionedBy-ltb place c.args.entries.now c.args.wanted (rising_by 0 c.args.entries.now c.requires)) (λ a r q k. search rules) in
    below _ _ (parts.0 k d (omega arith) lt)

pub returns-clause-behind : goal.returns-clause-behind
returns-clause-behind c k d le lt =
    let parts = IsPartitionPoint-from_clause (λ t. nat_lt (place t) c.args.wanted) c.args.entries.now c.partition_point.result c.partition_point.ensures.partitioned (IsPartitionedBy-ltb place c.args.entries.now c.args.wanted (rising_by 0 c.args.entries.now c.requires)) (λ a r q k. search rules) in
    not_below _ _ (parts.1 k d le lt)
