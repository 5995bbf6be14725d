use Rattle.std.proofs.Common.{◌≡◌, ◌≤◌, ◌*◌, ◌+◌, length}
use Rattle.us_format.specs.Packs.{own_pieces}
use Rattle.us_judge.specs.Views.{plain_part}
use Rattle.us_judge.proofs.Counting.{rest}
use Rattle.us_judge.proofs.buffers.own_buffers.Given as goal

abbrev pub invariant-loop-level : goal.invariant-loop-level
invariant-loop-level l = (l.count + rest (plain_part l.part) l.level ≡ length (own_pieces (plain_part l.part))) × (l.count ≤ 2 * l.level)
