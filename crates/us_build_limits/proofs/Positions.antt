-- Terms of positions keep the limits: a level makes them four nodes longer, and opens one more parenthesis.
use Rattle.std.proofs.Common.{ℕ, suc, ◌+◌, ◌*◌, ◌≤◌, Bool, true, false, cond, lit<, lit≤, arith}
use Rattle.us_code.specs.Plain.{TermTree, Number, Reg, Size, Flat, Next, Up, Add, Sub, Mul, Div, Rem}
use Rattle.us_code.specs.Limits.{nodes, parens, FitsNumbers, FitsTerm}
use Rattle.us_gen.specs.Nest.{is_origin}
use Rattle.us_gen_build.specs.Levels.{under}
use Rattle.us_limits.specs.Small.{SmallTerm}
use Rattle.us_limits.proofs.Terms.{parens-few}

-- a position below k levels
pub record IsPosition (k : ℕ) (e : TermTree) : Type 0 where
  pub numbers : FitsNumbers e
  pub long : nodes e ≤ 4 * k + 1
  pub open_in_atom : parens 2 e ≤ k + 1

-- no more parentheses in a sum or in a product than in an atom
sum-opens : (e : TermTree) → parens 0 e ≤ parens 2 e
sum-opens (Number n) = omega arith
sum-opens (Reg r) = omega arith
sum-opens (Size d) = omega arith
sum-opens (Flat d p c) = omega arith
sum-opens (Next d x) = omega arith
sum-opens (Up d x) = omega arith
sum-opens (Add a b) = omega arith
sum-opens (Sub a b) = omega arith
sum-opens (Mul a b) = omega arith
sum-opens (Div a k) = omega arith
sum-opens (Rem a k) = omega arith

product-opens : (e : TermTree) → parens 1 e ≤ parens 2 e
product-opens (Number n) = omega arith
product-opens (Reg r) = omega arith
product-opens (Size d) = omega arith
product-opens (Flat d p c) = omega arith
product-opens (Next d x) = omega arith
product-opens (Up d x) = omega arith
product-opens (Add a b) = omega arith
product-opens (Sub a b) = omega arith
product-opens (Mul a b) = omega arith
product-opens (Div a k) = omega arith
product-opens (Rem a k) = omega arith

pub position-fits : {k : ℕ} (e : TermTree) → k ≤ 60 → IsPosition k e → FitsTerm e
position-fits e few p = (p.numbers, omega (arith, p.long, few), omega (arith, p.open_in_atom, sum-opens e, few))

pub position-looser : {j k : ℕ} (e : TermTree) → j ≤ k → IsPosition j e → IsPosition k e
position-looser e le p = record { numbers = p.numbers; long = omega (arith, le, p.long); open_in_atom = omega (arith, le, p.open_in_atom) }

pub register-is : {k r : ℕ} → IsPosition k (Reg r)
register-is = record { numbers = tt; long = omega arith; open_in_atom = omega arith }

pub top-is : IsPosition 0 (Number 0)
top-is = record { numbers = lit< tt; long = lit≤ tt; open_in_atom = lit≤ tt }

-- one more than a position
pub behind-fits : {k : ℕ} (e : TermTree) → k ≤ 60 → IsPosition k e → FitsTerm (Add e (Number 1))
behind-fits e few p = ((p.numbers, lit< tt), omega (arith, p.long, few), omega (arith, p.open_in_atom, sum-opens e, few))

-- the position of a coordinate
pub under-is : {k : ℕ} (q size c : TermTree) → IsPosition k q → SmallTerm 1 size → SmallTerm 1 c → IsPosition (suc k) (under q size c)
under-is {k} q size c p s t = either (is_origin q)
  where
    either : (origin : Bool) → IsPosition (suc k) (cond origin c (Add (Mul q size) c))
    either true = record { numbers = t.numbers; long = omega (arith, t.long); open_in_atom = omega (arith, t.long, parens-few 2 c) }
    either false = record {
      numbers = ((p.numbers, s.numbers), t.numbers);
      long = omega (arith, p.long, s.long, t.long);
      open_in_atom = omega (arith, p.open_in_atom, product-opens q, s.long, t.long, parens-few 2 size, parens-few 1 c);
    }
