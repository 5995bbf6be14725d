-- What a known set says of enumerates.
use Rattle.std.proofs.Common.{◌≡◌, ℕ, List, [], ◌∷◌, map, Bool, ◌||◌, ◌&&◌, refl, ap, ap₂, ◌∙◌}
use Rattle.std.specs.List.{list_any}
use Rattle.us_expr.specs.declared.queries.Query.{Query as QueryCode}
use Rattle.us_expr.specs.declared.queries.Query.TheVariants as asked
use Rattle.us_expr.specs.Tree.{Tree, RowIndex, ColIndex, Variable, tree}
use Rattle.us_format.specs.Known.{has, is_known}
use Rattle.us_format.specs.Declaration.{Part, query_of}
use Rattle.us_format.specs.Kinds.{knows_enumerate, tells}
use Rattle.us_judge.specs.Kinds.{knows_one}

pub knows_along : (p : Part) (k : ℕ) (set : List Tree) (qs : List QueryCode) → ((e : Tree) → has set e ≡ is_known p.levels p.queries k e)
    → list_any (λ q. knows_one set (query_of q)) qs ≡ knows_enumerate p k (map query_of qs)
knows_along p k set [] is = refl
knows_along p k set (asked.Sum v e ∷ qs) is = knows_along p k set qs is
knows_along p k set (asked.Enumerate v e ∷ qs) is =
    ap₂ (λ (a b : Bool). a || b) (ap₂ (λ (a b : Bool). a && b) (is (Variable v)) (is (tree e))) (knows_along p k set qs is)
knows_along p k set (asked.Reorder v e ∷ qs) is = knows_along p k set qs is
knows_along p k set (asked.Schedule l t e n ∷ qs) is = knows_along p k set qs is

-- the set of the first k levels tells what they tell
pub tells-is : (p : Part) (k : ℕ) (set : List Tree) (qs : List QueryCode) → map query_of qs ≡ p.queries → ((e : Tree) → has set e ≡ is_known p.levels p.queries k e)
    → ((has set RowIndex && has set ColIndex) || list_any (λ q. knows_one set (query_of q)) qs) ≡ tells p k
tells-is p k set qs e is =
    ap₂ (λ (a b : Bool). a || b) (ap₂ (λ (a b : Bool). a && b) (is RowIndex) (is ColIndex)) (knows_along p k set qs is ∙ ap (λ l. knows_enumerate p k l) e)
