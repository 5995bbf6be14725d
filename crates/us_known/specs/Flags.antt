-- The flags of a table, and the expressions that they give.
use Rattle.std.specs.Prelude.{ℕ, ◌<◌, List, [], ◌∷◌, map, length, Bool, true, false, ◌≡◌, ◌⊎◌, IsTrue, Contains, All, if◌then◌else◌}
use Rattle.us_expr.specs.Tree.{Tree}
use Rattle.us_known.specs.declared.table.Node.{Node}
use Rattle.us_known.specs.declared.table.Node.TheVariants.{Row, Col, Number, Variable, Sum, Difference, Quotient, Remainder}
use Rattle.us_known.specs.Table.{tree_at}
use Rattle.us_expr.specs.declared.queries.Query.{Query as QueryCode}
use Rattle.us_known.specs.declared.rules.Rule.{Rule}
use Rattle.us_known.specs.Rules.{flag, AllRules, Leads, Follows}

-- the expressions whose numbers are flagged
abbrev pub flagged : List Tree → List Bool → List Tree
flagged [] bs = []
flagged (t ∷ ts) [] = []
flagged (t ∷ ts) (b ∷ bs) = if b then t ∷ flagged ts bs else flagged ts bs

-- whether a node is a constant
abbrev pub is_number : Node → Bool
is_number (Number c) = true
is_number Row = false
is_number Col = false
is_number (Variable v) = false
is_number (Sum a b) = false
is_number (Difference a b) = false
is_number (Quotient a k) = false
is_number (Remainder a k) = false

-- to the old flags those of the given expressions were added
pub record AddsGiven (ts given : List Tree) (old new : List Bool) : Type 0 where
  pub same_length : length new ≡ length old
  pub kept : (k : ℕ) → IsTrue (flag old k) → IsTrue (flag new k)
  pub added : (k : ℕ) → k < length old → Contains given (tree_at ts k) → IsTrue (flag new k)
  pub only : (k : ℕ) → IsTrue (flag new k) → IsTrue (flag old k) ⊎ Contains given (tree_at ts k)

-- the flags to which the constants and the given expressions lead by all rules, until no rule gives more
pub record AreKnownFlags (ns : List Node) (ts given : List Tree) (queries : List QueryCode) (flags : List Bool) : Type 0 where
  pub rules : List Rule
  pub start : List Bool
  pub all : AllRules ns queries rules
  pub given_added : AddsGiven ts given (map is_number ns) start
  pub leads : Leads rules start flags
  pub closed : All (Follows (flag flags)) rules
