-- Members of a class along the queries, and tests along the variables of an expression.
use Rattle.std.proofs.Common.{◌≡◌, ℕ, List, [], ◌∷◌, map, Bool, true, false, ◌||◌, nat_eq, refl, sym, ap, ◌∙◌}
use Rattle.std.specs.List.{list_any}
use Rattle.us_expr.specs.declared.queries.Query.{Query as Asked}
use Rattle.us_format.specs.Lists.{among}
use Rattle.us_format.specs.Declaration.{Query, SumOf, Enumerate, Reorder, Schedule, query_of, defined}
use Rattle.us_format.specs.Rules.{sum_variables}
use Rattle.us_judge.specs.Acceptance.{counting_variables}
use Rattle.us_judge.specs.declared.variables.Class.{Class}
use Rattle.us_judge.specs.declared.variables.Class.TheVariants.{Defined, Sums, Counters}
use Rattle.us_judge.specs.Variables.{members}

one_more : (a b : Bool) → (a || b) ≡ ((a || false) || b)
one_more true b = refl
one_more false b = refl

two_more : (a b c : Bool) → (a || (b || c)) ≡ ((a || (b || false)) || c)
two_more true b c = refl
two_more false b c = one_more b c

-- the members of a class of one query and of more
pub among-members : (c : Class) (v : ℕ) (q : Query) (qs : List Query) → among v (members c (q ∷ qs)) ≡ (among v (members c (q ∷ [])) || among v (members c qs))
among-members Defined v (SumOf w e) qs = one_more (nat_eq v w) (among v (defined qs))
among-members Defined v (Enumerate w e) qs = one_more (nat_eq v w) (among v (defined qs))
among-members Defined v (Reorder w e) qs = one_more (nat_eq v w) (among v (defined qs))
among-members Defined v (Schedule l t e n) qs = two_more (nat_eq v l) (nat_eq v t) (among v (defined qs))
among-members Sums v (SumOf w e) qs = one_more (nat_eq v w) (among v (sum_variables qs))
among-members Sums v (Enumerate w e) qs = refl
among-members Sums v (Reorder w e) qs = refl
among-members Sums v (Schedule l t e n) qs = refl
among-members Counters v (SumOf w e) qs = refl
among-members Counters v (Enumerate w e) qs = one_more (nat_eq v w) (among v (counting_variables qs))
among-members Counters v (Reorder w e) qs = refl
among-members Counters v (Schedule l t e n) qs = one_more (nat_eq v t) (among v (counting_variables qs))

pub any_defines : (c : Class) (v : ℕ) (qs : List Asked) → list_any (λ q. among v (members c (query_of q ∷ []))) qs ≡ among v (members c (map query_of qs))
any_defines Defined v [] = refl
any_defines Sums v [] = refl
any_defines Counters v [] = refl
any_defines c v (q ∷ qs) = ap (λ x. among v (members c (query_of q ∷ [])) || x) (any_defines c v qs) ∙ sym (among-members c v (query_of q) (map query_of qs))
