use Rattle.std.proofs.Common.{◌≡◌, ◌≤◌, ◌*◌, map, take}
use Rattle.us_format.specs.Declaration.{query_of}
use Rattle.us_judge.specs.Buffers.{made_by}
use Rattle.us_judge.proofs.buffers.made_by_all.Given as goal

abbrev pub invariant-loop-query : goal.invariant-loop-query
invariant-loop-query l = (l.count ≡ made_by (map query_of (take l.query-index l.queries))) × (l.count ≤ 2 * l.query-index)
