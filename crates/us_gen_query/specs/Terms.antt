-- Expressions as terms of loop code, over registers that hold the row, the column and the variables of an entry.
use Rattle.std.specs.Prelude.{◌≡◌, ℕ, zero, suc, ◌+◌, ◌*◌, ◌≤◌, Bool, true, false, cond, eqb, ◌||◌, List, get_or, ℤ, pos}
use Rattle.us_code.specs.Plain.{TermTree, Reg, Add, Sub, Div, Rem}
use Rattle.us_code.specs.Plain as plain
use Rattle.us_code.specs.Run.{Env, value}
use Rattle.us_expr.specs.Tree.{Tree, node_count, RowIndex, ColIndex, Number, Variable, Sum, Difference, Quotient, Remainder}
use Rattle.us_expr.specs.Value.{IsValid, IsPoint}
use Rattle.us_expr.specs.Value as expression

-- whether an expression reads a column of the entries: their rows are column 0, their columns 1, and the variable v is v + 2
abbrev pub reads : Tree → ℕ → Bool
reads RowIndex c = eqb c 0
reads ColIndex c = eqb c 1
reads (Number k) c = false
reads (Variable v) c = eqb c (v + 2)
reads (Sum a b) c = reads a c || reads b c
reads (Difference a b) c = reads a c || reads b c
reads (Quotient a k) c = reads a c
reads (Remainder a k) c = reads a c

-- how many of the first w columns it reads
abbrev pub reading : Tree → ℕ → ℕ
reading e zero = 0
reading e (suc c) = cond (reads e c) (reading e c + 1) (reading e c)

-- the term of an expression, where the register n + c holds the entry's value in column c
abbrev pub term_of : Tree → ℕ → TermTree
term_of RowIndex n = Reg n
term_of ColIndex n = Reg (n + 1)
term_of (Number k) n = plain.Number k
term_of (Variable v) n = Reg (n + (v + 2))
term_of (Sum a b) n = Add (term_of a n) (term_of b n)
term_of (Difference a b) n = Sub (term_of a n) (term_of b n)
term_of (Quotient a k) n = Div (term_of a n) k
term_of (Remainder a k) n = Rem (term_of a n) k

-- the value of an entry in column c
abbrev pub point : ℤ → ℤ → List ℤ → ℕ → ℤ
point i j vs zero = i
point i j vs (suc zero) = j
point i j vs (suc (suc v)) = get_or vs v (pos 0)

-- the term's value is the expression's, with no word that wraps, where the registers that it reads hold the entry
abbrev pub TermsHaveValues : Type 0
TermsHaveValues =
    (env : Env) (regs : ℕ → ℤ) (n : ℕ) (i j : ℤ) (vs : List ℤ) (e : Tree) → IsPoint i j vs → IsValid vs e
    → ((c : ℕ) → reads e c ≡ true → regs (n + c) ≡ point i j vs c) → value env regs (term_of e n) ≡ expression.value i j vs e

-- an expression reads about half as many columns as it has nodes, at most
abbrev pub ReadsAreFew : Type 0
ReadsAreFew = (e : Tree) (w : ℕ) → 2 * reading e w ≤ node_count e + 1
