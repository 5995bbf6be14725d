use Rattle.std.proofs.Common.{◌≡◌, ◌+◌, map, take, drop}
use Rattle.us_judge.specs.Acceptance.{parts_refusal}
use Rattle.us_judge.specs.Kinds.{kinds_of}
use Rattle.us_judge.specs.Views.{plain_part}
use Rattle.us_judge.proofs.format.judge_parts.Given as goal

-- the kinds of the parts so far, and the refusal of all is that of the parts that are left
abbrev pub invariant-loop-k : goal.invariant-loop-k
invariant-loop-k l = (l.all ≡ map kinds_of (map plain_part (take l.k l.parts))) × (parts_refusal 1 (map plain_part l.parts) ≡ parts_refusal (l.k + 1) (map plain_part (drop l.k l.parts)))
