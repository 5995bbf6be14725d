use Rattle.std.proofs.Common.{◌≡◌, drop}
use Rattle.us_code.specs.Typing.{are_keys}
use Rattle.us_bounds.specs.Seen.{context_of}
use Rattle.us_bounds.proofs.kinds.are_keys.Given as goal

abbrev pub invariant-loop-key : goal.invariant-loop-key
invariant-loop-key l = are_keys (context_of l.table) l.ordered l.keys ≡ are_keys (context_of l.table) l.ordered (drop l.key-index l.keys)
