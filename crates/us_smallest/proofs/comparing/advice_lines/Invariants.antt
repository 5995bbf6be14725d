use Rattle.std.proofs.Common.{◌≡◌, ◌++◌, drop}
use Rattle.std.specs.List.{flat_map}
use Rattle.us_decl.specs.Declares.{Declared}
use Rattle.us_advise.specs.Least.{size_in}
use Rattle.us_smallest.specs.Tables.{line}
use Rattle.us_smallest.proofs.comparing.advice_lines.Given as goal

abbrev pub invariant-loop-k : goal.invariant-loop-k
invariant-loop-k l =
    l.out.items ++ flat_map (line (λ (d : Declared). d.name) (size_in l.matrix)) (drop l.k l.formats) ≡ flat_map (line (λ (d : Declared). d.name) (size_in l.matrix)) l.formats
