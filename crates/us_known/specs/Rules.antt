-- Rules with two premises over the numbers of nodes, and the flags of the known ones.
use Rattle.std.specs.Prelude.{ℕ, zero, suc, ◌<◌, List, [], ◌∷◌, ◌++◌, length, slice_index_or, slice_get, slice_set, count_by, Bool, true, false, not, ◌≡◌, ◌⊎◌, IsTrue, IsFalse, Option, Some, None, All}
use Rattle.std.specs.Option.{option_to_list}
use Rattle.us_expr.specs.declared.queries.Axis.{Axis}
use Rattle.us_expr.specs.declared.queries.Axis.TheVariants.{Rows, Cols}
use Rattle.us_expr.specs.declared.queries.Query.{Query as QueryCode}
use Rattle.us_format.specs.Declaration.{Query, Reorder, Schedule, axis_of, query_of}
use Rattle.us_known.specs.declared.table.Node.{Node}
use Rattle.us_known.specs.declared.table.Node.TheVariants.{Row, Col, Variable, Sum, Difference, Quotient, Remainder}
use Rattle.us_known.specs.declared.rules.Rule.{Rule}
use Rattle.us_known.specs.Table.{IsNoNode}

-- if first and second are known, so is given
abbrev pub rule : ℕ → ℕ → ℕ → Rule
rule first second given = record { first = first; second = second; gives = given }

-- the rules of the node n, three of each; a rule that gives what it needs fills up
abbrev pub AreRulesOf : List Node → ℕ → Node → List Rule → Type 0
AreRulesOf ns n (Sum a b) rs = rs ≡ rule n b a ∷ rule n a b ∷ rule a b n ∷ []
AreRulesOf ns n (Difference a b) rs = rs ≡ rule n b a ∷ rule n a b ∷ rule a b n ∷ []
AreRulesOf ns n (Quotient a k) rs =
    ((m : ℕ) × (slice_get ns m ≡ Some (Remainder a k)) × (rs ≡ rule a a n ∷ rule n m a ∷ rule n n n ∷ []))
    ⊎ (IsNoNode ns (Remainder a k) × (rs ≡ rule a a n ∷ rule n n n ∷ rule n n n ∷ []))
AreRulesOf ns n (Remainder a k) rs = rs ≡ rule a a n ∷ rule n n n ∷ rule n n n ∷ []
AreRulesOf ns n _ rs = rs ≡ rule n n n ∷ rule n n n ∷ rule n n n ∷ []

-- the rules of the first k nodes
abbrev pub NodeRules : List Node → ℕ → List Rule → Type 0
NodeRules ns zero rules = rules ≡ []
NodeRules ns (suc k) rules = (before : List Rule) × (rs : List Rule) × NodeRules ns k before × AreRulesOf ns k (slice_index_or ns k Row) rs × (rules ≡ before ++ rs)

-- the node of an index
abbrev pub index_node : Axis → Node
index_node Rows = Row
index_node Cols = Col

-- the rule by which two variables give an index, if all three are in the table
abbrev pub IsRuleOf : List Node → ℕ → ℕ → Node → Option Rule → Type 0
IsRuleOf ns v w index (Some r) = (slice_get ns r.first ≡ Some (Variable v)) × (slice_get ns r.second ≡ Some (Variable w)) × (slice_get ns r.gives ≡ Some index)
IsRuleOf ns v w index None = IsNoNode ns (Variable v) ⊎ (IsNoNode ns (Variable w) ⊎ IsNoNode ns index)

-- the rule of a query, if it has one
abbrev pub IsQueryRule : List Node → Query → Option Rule → Type 0
IsQueryRule ns (Reorder v t) o = IsRuleOf ns v v (index_node (axis_of t)) o
IsQueryRule ns (Schedule l u t n) o = IsRuleOf ns l u (index_node (axis_of t)) o
IsQueryRule ns _ o = o ≡ None

-- the rules of the first k queries, after other rules
abbrev pub QueryRules : List Node → List QueryCode → List Rule → ℕ → List Rule → Type 0
QueryRules ns queries base zero rules = rules ≡ base
QueryRules ns queries base (suc k) rules =
    (before : List Rule) × (q : QueryCode) × (o : Option Rule) × QueryRules ns queries base k before × (slice_get queries k ≡ Some q) × IsQueryRule ns (query_of q) o × (rules ≡ before ++ option_to_list o)

-- the rules of all nodes and queries
abbrev pub AllRules : List Node → List QueryCode → List Rule → Type 0
AllRules ns queries rules = (base : List Rule) × NodeRules ns (length ns) base × QueryRules ns queries base (length queries) rules

-- all three numbers are below k
pub record IsRuleBelow (k : ℕ) (r : Rule) : Type 0 where
  pub first : r.first < k
  pub second : r.second < k
  pub gives : r.gives < k

-- ---- flags

-- whether a number is flagged
abbrev pub flag : List Bool → ℕ → Bool
flag bs k = slice_index_or bs k false

-- how many are not flagged
abbrev pub missing : List Bool → ℕ
missing bs = count_by not bs

-- a test is closed under a rule
abbrev pub Follows : (ℕ → Bool) → Rule → Type 0
Follows holds r = IsTrue (holds r.first) → IsTrue (holds r.second) → IsTrue (holds r.gives)

-- by the rules the old flags lead to the new ones: none is dropped, and each new one holds in every test that has the old ones and is closed under the rules
pub record Leads (rules : List Rule) (old new : List Bool) : Type 0 where
  pub same_length : length new ≡ length old
  pub kept : (k : ℕ) → IsTrue (flag old k) → IsTrue (flag new k)
  pub least : (holds : ℕ → Bool) → All (Follows holds) rules → ((k : ℕ) → IsTrue (flag old k) → IsTrue (holds k)) → (k : ℕ) → IsTrue (flag new k) → IsTrue (holds k)

-- the rule applies, and gives what was not flagged
pub record Applies (r : Rule) (old new : List Bool) : Type 0 where
  pub first : IsTrue (flag old r.first)
  pub second : IsTrue (flag old r.second)
  pub gives : IsFalse (flag old r.gives)
  pub set : new ≡ slice_set old r.gives true

-- the rule gives nothing new
pub record IsIdle (r : Rule) (old new : List Bool) : Type 0 where
  pub same : new ≡ old
  pub closed : Follows (flag old) r
