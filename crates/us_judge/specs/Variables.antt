-- Classes of variables, and what levels may use of them.
use Rattle.std.specs.Prelude.{ℕ, List, [], Bool, not, ◌||◌, Option}
use Rattle.us_expr.specs.Tree.{Tree}
use Rattle.us_format.specs.Lists.{among}
use Rattle.us_format.specs.Declaration.{Query, Part, defined}
use Rattle.us_format.specs.Rules.{sum_variables}
use Rattle.us_judge.specs.Acceptance.{first_failing, first_level, counting_variables, is_variable, uses_only, uses_none}
use Rattle.us_judge.specs.declared.variables.Class.{Class}
use Rattle.us_judge.specs.declared.variables.Class.TheVariants.{Defined, Sums, Counters}

-- the variables of a class
abbrev pub members : Class → List Query → List ℕ
members Defined qs = defined qs
members Sums qs = sum_variables qs
members Counters qs = counting_variables qs

-- whether an expression may use a variable: a defined one, and none of the other classes
abbrev pub allows : Class → List Query → ℕ → Bool
allows Defined qs v = among v (members Defined qs)
allows Sums qs v = not (among v (members Sums qs))
allows Counters qs v = not (among v (members Counters qs))

-- whether an expression may be a level: it uses defined variables alone, it uses no sum, and it uses no counter unless it is a variable alone
abbrev pub is_lawful_level : Class → List Query → Tree → Bool
is_lawful_level Defined qs e = uses_only (defined qs) e
is_lawful_level Sums qs e = uses_none (sum_variables qs) e
is_lawful_level Counters qs e = is_variable e || uses_none (counting_variables qs) e

-- the first level of a part that is not lawful
abbrev pub bad_level : Class → Part → Option ℕ
bad_level class p = first_failing (λ _ e. is_lawful_level class p.queries e) [] (first_level p) p.levels
