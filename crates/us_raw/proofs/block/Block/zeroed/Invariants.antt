use Rattle.std.proofs.Common.{◌≡◌, ◌+◌, replicate}
use Rattle.us_raw.proofs.block.Block.zeroed.Given as goal

abbrev pub invariant-loop-index : goal.invariant-loop-index
invariant-loop-index l =
    (l.bytes.at ≡ l.start.ptr) × (l.bytes.written ≡ replicate l.index 0) × (l.index + l.bytes.room ≡ l.size)
    × (l.right.at ≡ l.start.ptr) × (l.right.size ≡ l.size) × (l.right.alloc ≡ l.alloc)
