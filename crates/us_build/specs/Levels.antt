-- Levels and items over the expressions of a part.
use Rattle.std.specs.Prelude.{◌≡◌, ℕ, ◌-◌, ◌<◌, ℤ, pos, ◌-ℤ◌, ◌≤ℤ◌, ◌<ℤ◌, List, [], ◌∷◌, ◌++◌, length, map, replicate, slice_index_or, All}
use Rattle.us_expr.specs.Range.{range}
use Rattle.us_expr.specs.Tree.{Tree, tree}
use Rattle.us_expr.specs.Value.{IsPoint, IsValid, value}
use Rattle.us_expr.specs.declared.expression.Expr.{Expr}
use Rattle.us_expr.specs.declared.ranges.Range.{Range}
use Rattle.us_matrix.specs.declared.matrix.Triple.{Triple}
use Rattle.us_format.specs.declared.Kind.{Kind}
use Rattle.us_format.specs.Coordinates.{span}
use Rattle.us_format.specs.Lists.{nat_of}
use Rattle.us_format.specs.Matrix.{Entry}
use Rattle.us_format.specs.Program.{plain_entry}
use Rattle.us_variables.specs.Counted.{values_in}
use Rattle.us_variables.specs.declared.variables.Variables.{Variables}
use Rattle.us_build.specs.declared.items.Item.{Item}
use Rattle.us_build.specs.declared.levels.Level.{Level}

-- the level of an expression where there are m rows and n columns and the variables have the ranges rs
abbrev pub level_over : ℕ → ℕ → List Range → Tree → Kind → Level
level_over m n rs e k = record { kind = k; low = (range m n rs e).lo; size = span (range m n rs e) }

-- the levels of expressions with these kinds
abbrev pub levels_over : ℕ → ℕ → List Range → List Tree → List Kind → List Level
levels_over m n rs [] ks = []
levels_over m n rs (e ∷ es) [] = []
levels_over m n rs (e ∷ es) (k ∷ ks) = level_over m n rs e k ∷ levels_over m n rs es ks

-- the coordinates of the point at the levels of these expressions, where the variables have the values vs
abbrev pub offsets : ℤ → ℤ → List ℤ → List Tree → List Level → List ℕ
offsets i j vs [] ls = []
offsets i j vs (e ∷ es) [] = []
offsets i j vs (e ∷ es) (l ∷ ls) = nat_of (value i j vs e -ℤ l.low) ∷ offsets i j vs es ls

-- the value lies in the level
pub record LiesInLevel (v : ℤ) (l : Level) : Type 0 where
  pub low : l.low ≤ℤ v
  pub high : (v -ℤ l.low) <ℤ pos l.size

-- the point lies in the levels of these expressions
abbrev pub LiesInLevels : ℤ → ℤ → List ℤ → List Tree → List Level → Type 0
LiesInLevels i j vs [] ls = Unit {0}
LiesInLevels i j vs (e ∷ es) [] = Unit {0}
LiesInLevels i j vs (e ∷ es) (l ∷ ls) = LiesInLevel (value i j vs e) l × LiesInLevels i j vs es ls

-- six coordinates, the last ones those at the levels
abbrev pub six : ℤ → ℤ → List ℤ → List Tree → List Level → List ℕ
six i j vs es ls = replicate (6 - length es) 0 ++ offsets i j vs es ls

-- the item of an entry above the first level
abbrev pub item_over : List Tree → List Level → List ℤ → Triple → Item
item_over es ls vs t = record { above = 0; at = 0; coordinates = six (pos t.i) (pos t.j) vs es ls; value = t.v }

-- the items of the entries, where the variables have the values f at an entry
abbrev pub items_over : List Tree → List Level → (Entry → List ℤ) → List Triple → List Item
items_over es ls f ts = map (λ t. item_over es ls (f (plain_entry t)) t) ts

-- at each entry the variables have the values f
abbrev pub AreValues : (Entry → List ℤ) → Variables → List Triple → Type 0
AreValues f t ts = (k : ℕ) (d : Triple) → k < length ts → values_in t k ≡ f (plain_entry (slice_index_or ts k d))

-- at an entry with these values of the variables the expressions are valid, and the entry lies in their levels
pub record HasCoordinates (es : List Expr) (ls : List Level) (vs : List ℤ) (t : Triple) : Type 0 where
  pub valid : All (λ e. IsValid vs (tree e)) es
  pub point : IsPoint (pos t.i) (pos t.j) vs
  pub lies : LiesInLevels (pos t.i) (pos t.j) vs (map tree es) ls

-- each entry has coordinates
abbrev pub HaveCoordinates : List Expr → List Level → Variables → List Triple → Type 0
HaveCoordinates es ls t ts = (k : ℕ) (d : Triple) → k < length ts → HasCoordinates es ls (values_in t k) (slice_index_or ts k d)
