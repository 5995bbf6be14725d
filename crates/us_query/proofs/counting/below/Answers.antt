use Rattle.std.proofs.Common.{rules, int_lt}
use Rattle.std.proofs.lemmas.List.Sorted.{IsPartitionPoint-from_clause}
use Rattle.us_query.proofs.Searching.{below-parted, point-counts}
use Rattle.us_query.proofs.counting.below.Goals as goal

pub returns : goal.returns
returns c =
    point-counts (λ y. int_lt y c.args.number.now) c.args.sorted.now c.partition_point.result c.partition_point.ensures.bound
    (IsPartitionPoint-from_clause (λ y. int_lt y c.args.number.now) c.args.sorted.now c.partition_point.result c.partition_point.ensures.partitioned (below-parted c.args.sorted.now c.requires c.args.number.now) (λ a r q k. search rules))
