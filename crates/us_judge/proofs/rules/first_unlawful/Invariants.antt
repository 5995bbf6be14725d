use Rattle.std.proofs.Common.{map}
use Rattle.us_expr.specs.Tree.{tree}
use Rattle.us_format.specs.Declaration.{query_of}
use Rattle.us_judge.specs.Variables.{is_lawful_level}
use Rattle.us_judge.proofs.Reaching.{Reaches}
use Rattle.us_judge.proofs.rules.first_unlawful.Given as goal

abbrev pub invariant-loop-k : goal.invariant-loop-k
invariant-loop-k l = Reaches (λ _ e. is_lawful_level l.class (map query_of l.queries) e) l.first (map tree l.levels) l.k
