-- The rules that a part has to meet for its buffers to mean what they hold.
use Rattle.std.specs.Prelude.{ℕ, suc, ◌+◌, ◌<◌, ◌≤◌, List, [], ◌∷◌, length, Bool, true, false, not, ◌&&◌, ◌||◌, IsTrue, IsFalse, All, ◌≡◌}
use Rattle.std.specs.List.{list_any}
use Rattle.us_expr.specs.Tree.{Tree, RowIndex, ColIndex, Number, Variable, Sum, Difference, Quotient, Remainder, uses}
use Rattle.us_expr.specs.Value.{IsWithin}
use Rattle.us_format.specs.declared.Kind.TheVariants.{Slot}
use Rattle.us_format.specs.Lists.{among, all_different, join}
use Rattle.us_format.specs.Declaration.{Query, SumOf, Enumerate, Reorder, Schedule, Column, LevelColumn, ValueColumn, Part, Declaration, argument, defined}
use Rattle.us_format.specs.Known.{is_known}
use Rattle.us_format.specs.Kinds.{kind}
use Rattle.us_format.specs.Packs.{CellsOf, same_piece, pieces, in_pack}

-- whether a variable stands in an expression
abbrev pub has_variable : Tree → Bool
has_variable RowIndex = false
has_variable ColIndex = false
has_variable (Number c) = false
has_variable (Variable v) = true
has_variable (Sum a b) = has_variable a || has_variable b
has_variable (Difference a b) = has_variable a || has_variable b
has_variable (Quotient a k) = has_variable a
has_variable (Remainder a k) = has_variable a

-- whether an expression is an index alone
abbrev pub is_index : Tree → Bool
is_index RowIndex = true
is_index ColIndex = true
is_index _ = false

-- the argument of a count has no variable, that of a reorder and of a schedule is an index alone
abbrev pub has_lawful_argument : Query → Bool
has_lawful_argument (SumOf v e) = not (has_variable e)
has_lawful_argument (Enumerate v e) = not (has_variable e)
has_lawful_argument (Reorder v e) = is_index e
has_lawful_argument (Schedule l t e n) = is_index e

-- a schedule has at least one lane
abbrev pub HasLanes : Query → Type 0
HasLanes (Schedule l t e n) = 0 < n
HasLanes _ = Unit {0}

-- the variables that are sums
abbrev pub sum_variables : List Query → List ℕ
sum_variables [] = []
sum_variables (SumOf v e ∷ qs) = v ∷ sum_variables qs
sum_variables (_ ∷ qs) = sum_variables qs

-- each variable of an expression is defined, and is no sum
abbrev pub UsesDefined : List Query → Tree → Type 0
UsesDefined qs e = (v : ℕ) → IsTrue (uses e v) → IsTrue (among v (defined qs)) × IsFalse (among v (sum_variables qs))

-- valid expressions, lawful queries that define each variable once, levels over defined variables that are no sums, and both indices known
pub record IsLawful (p : Part) : Type 0 where
  pub levels_valid : All (IsWithin p.names) p.levels
  pub arguments_valid : All (λ q. IsWithin p.names (argument q)) p.queries
  pub named : All (λ v. v < p.names) (defined p.queries)
  pub once : IsTrue (all_different (defined p.queries))
  pub arguments : All (λ q. IsTrue (has_lawful_argument q)) p.queries
  pub lanes : All HasLanes p.queries
  pub levels : All (UsesDefined p.queries) p.levels
  pub row_known : IsTrue (is_known p.levels p.queries (length p.levels) RowIndex)
  pub col_known : IsTrue (is_known p.levels p.queries (length p.levels) ColIndex)

-- ---- packs

-- whether a column is a piece of a part
abbrev pub is_piece : Part → Column → Bool
is_piece p c = list_any (same_piece (CellsOf c)) (pieces p)

-- whether no column is in a list twice
abbrev pub each_once : List Column → Bool
each_once [] = true
each_once (c ∷ cs) = not (in_pack c cs) && each_once cs

-- how many levels there are down to the cells of a column: one cell for each position after so many levels
abbrev pub depth : Part → Column → ℕ
depth p (LevelColumn k) = suc k
depth p ValueColumn = length p.levels

-- all levels between two columns of a list are slot levels, so the columns are equally long
abbrev pub IsAligned : Part → List Column → Type 0
IsAligned p cs = (c d : Column) → IsTrue (in_pack c cs) → IsTrue (in_pack d cs) → (k : ℕ) → depth p c ≤ k → k < depth p d → kind p k ≡ Slot

-- the columns of the packs are pieces of the part, none stands in the packs twice, and the columns of a pack are equally long
pub record ArePacksLawful (p : Part) : Type 0 where
  pub columns : All (λ c. IsTrue (is_piece p c)) (join p.packs)
  pub once : IsTrue (each_once (join p.packs))
  pub aligned : All (IsAligned p) p.packs

-- ---- declarations

-- lawful parts with lawful packs, one part more than there are conditions
pub record IsLawfulDeclaration (d : Declaration) : Type 0 where
  pub parts : All IsLawful d.parts
  pub packs : All ArePacksLawful d.parts
  pub one_more : length d.parts ≡ length d.conds + 1
