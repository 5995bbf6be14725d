use Rattle.std.proofs.Common.{map}
use Rattle.us_judge.specs.Acceptance.{is_lawful_pack, first_pack}
use Rattle.us_judge.specs.Views.{column_of, plain_part}
use Rattle.us_judge.proofs.Reaching.{Reaches}
use Rattle.us_judge.proofs.packs.bad_pack.Given as goal

abbrev pub invariant-loop-k : goal.invariant-loop-k
invariant-loop-k l = Reaches (is_lawful_pack (plain_part l.part)) (first_pack (plain_part l.part)) (map (map column_of) l.packs) l.k
