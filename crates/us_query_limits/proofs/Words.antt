-- The terms that the loops name fit, whatever their registers are.
use Rattle.std.proofs.Common.{ℕ, ◌^◌, ◌<◌, ◌≤◌, lit<, lit≤, arith}
use Rattle.us_code.specs.declared.program.Dim.TheVariants as dim
use Rattle.us_code.specs.Plain.{Number, Reg, Size, Add, Sub, Mul}
use Rattle.us_code.specs.Limits.{FitsTerm}
use Rattle.us_expr.specs.Tree.{Tree, node_count, RowIndex, ColIndex, Variable, Sum, Difference, Quotient, Remainder}
use Rattle.us_expr.specs.Tree as expression
use Rattle.us_expr.specs.Value.{IsWithin}
use Rattle.us_gen_query.specs.Terms.{term_of}
use Rattle.us_gen_query.specs.Counting.{no_value}
use Rattle.us_limits.specs.Small.{SmallTerm}
use Rattle.us_limits.proofs.Terms.{term-fits, number-small, register-small, sum-small, difference-small, quotient-small, remainder-small}

pub register : FitsTerm (Reg 0)
register = (tt, lit≤ tt, lit≤ tt)

pub nothing : FitsTerm (Number 0)
nothing = (lit< tt, lit≤ tt, lit≤ tt)

pub no-value : FitsTerm (Number no_value)
no-value = (lit< tt, lit≤ tt, lit≤ tt)

pub bound : (n : ℕ) → n < 2 ^ 32 → FitsTerm (Number n)
bound n h = (omega (arith, h), lit≤ tt, lit≤ tt)

-- a register and one, less one, less another, and with another
pub one-more : FitsTerm (Add (Reg 0) (Number 1))
one-more = ((tt, lit< tt), lit≤ tt, lit≤ tt)

pub one-less : FitsTerm (Sub (Reg 0) (Number 1))
one-less = ((tt, lit< tt), lit≤ tt, lit≤ tt)

pub difference : FitsTerm (Sub (Reg 0) (Reg 0))
difference = ((tt, tt), lit≤ tt, lit≤ tt)

pub both : FitsTerm (Add (Reg 0) (Reg 0))
both = ((tt, tt), lit≤ tt, lit≤ tt)

-- the length of a run
pub length-of : FitsTerm (Add (Sub (Reg 0) (Reg 0)) (Number 1))
length-of = (((tt, tt), lit< tt), lit≤ tt, lit≤ tt)

-- a cell of a table with rows as long as a dim
pub cell-of : (d : ℕ) → d < 2 ^ 32 → FitsTerm (Add (Mul (Reg 0) (Size (dim.Name d))) (Reg 0))
cell-of d h = (((tt, h), tt), lit≤ tt, lit≤ tt)

-- ---- expressions

-- the term of an expression has as many nodes as it
pub term-of-small : (m : ℕ) (e : Tree) (n : ℕ) → IsWithin m e → SmallTerm (node_count e) (term_of e n)
term-of-small m RowIndex n h = register-small
term-of-small m ColIndex n h = register-small
term-of-small m (expression.Number k) n h = number-small (omega (arith, h))
term-of-small m (Variable v) n h = register-small
term-of-small m (Sum a b) n h = sum-small (term-of-small m a n h.0) (term-of-small m b n h.1)
term-of-small m (Difference a b) n h = difference-small (term-of-small m a n h.0) (term-of-small m b n h.1)
term-of-small m (Quotient a k) n h = quotient-small h.0 (omega (arith, h.1)) (term-of-small m a n h.2)
term-of-small m (Remainder a k) n h = remainder-small h.0 (omega (arith, h.1)) (term-of-small m a n h.2)

pub term-of-fits : (m : ℕ) (e : Tree) (n : ℕ) → IsWithin m e → node_count e ≤ 32 → FitsTerm (term_of e n)
term-of-fits m e n within few = term-fits {n = node_count e} {e = term_of e n} (omega (arith, few)) (term-of-small m e n within)
