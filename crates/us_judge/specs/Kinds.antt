-- The kinds of all levels of a part.
use Rattle.std.specs.Prelude.{List, map, length, Bool, false, ◌&&◌}
use Rattle.std.specs.List.{range_with_len}
use Rattle.us_format.specs.declared.Kind.{Kind}
use Rattle.us_expr.specs.Tree.{Tree, Variable}
use Rattle.us_format.specs.Known.{has}
use Rattle.us_format.specs.Declaration.{Query, Enumerate, Part}
use Rattle.us_format.specs.Kinds.{kind}

abbrev pub kinds_of : Part → List Kind
kinds_of p = map (kind p) (range_with_len 0 (length p.levels))

-- whether a query is an enumerate whose variable and argument are in a set
abbrev pub knows_one : List Tree → Query → Bool
knows_one set (Enumerate v e) = has set (Variable v) && has set e
knows_one set _ = false
