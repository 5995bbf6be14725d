use Rattle.std.proofs.Common.{◌≡◌, ◌++◌, drop}
use Rattle.us_layout.specs.Splitting.{share_of}
use Rattle.us_layout.proofs.splitting.share_of.Given as goal

-- the entries so far, and those that are left, are the share
abbrev pub invariant-loop-k : goal.invariant-loop-k
invariant-loop-k l = l.share.items ++ share_of l.part (drop l.k l.parts) (drop l.k l.entries) ≡ share_of l.part l.parts l.entries
