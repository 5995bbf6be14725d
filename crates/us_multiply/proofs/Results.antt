-- What a run gives, and answers of calls.
use Rattle.std.proofs.Common.{◌≡◌, ℕ, ◌+◌, ◌*◌, ◌<◌, ◌≤◌, ◌^◌, List, [], ◌∷◌, ◌++◌, length, ℤ, refl, ap, ap₂, take, sym, subst, ◌∙◌, arith, mul-le-mul_left}
use Rattle.std.proofs.lemmas.List.{take_more}
use Rattle.us_format.specs.Lists.{nth}
use Rattle.us_format.specs.Program.{shape_in, entries_in}
use Rattle.us_judge.specs.Views.{declaration_of}
use Rattle.us_matrix.specs.Grid.{Grid}
use Rattle.us_check.specs.Kept.{Kept}
use Rattle.us_code.specs.Plain.{ProgramTree}
use Rattle.us_code.specs.Runs.{Outcome, Gave, TooBig, OutOfSteps, GotStuck, run}
use Rattle.us_gen_product.specs.Dense.{IsDense}
use Rattle.us_kernel.specs.Right.{IsRightKernel}
use Rattle.us_multiply.specs.Running.{AreFactors, IsRunOf}
use Rattle.us_multiply.proofs.Factors.{gives}

-- a product of two numbers of 32 bits
pub product-fits : (a b : ℕ) → a < 2 ^ 32 → b < 2 ^ 32 → a * b < 2 ^ 64
product-fits a b la lb = omega (arith, la, mul-le-mul_left {m = b} {n = 4294967295} a (omega (arith, lb)))

-- the lists of an outcome
abbrev lists_of : Outcome → List (List ℤ)
lists_of (Gave lists n) = lists
lists_of (TooBig n) = []
lists_of OutOfSteps = []
lists_of GotStuck = []

-- a run on the factors gives the product and nothing else
pub record IsProduct (k : Kept) (x : Grid) (lists : List (List ℤ)) : Type 0 where
  pub one : lists ≡ nth lists 0 ∷ []
  pub dense : IsDense (shape_in k.matrix) (entries_in k.matrix) x.cols x.cells (nth lists 0)

pub is-product : (p : ProgramTree) (k : Kept) (x : Grid) (lists : List (List ℤ)) (steps : ℕ) → IsRightKernel p (declaration_of k.declared) (shape_in k.matrix) x.cols → AreFactors k x → length x.cells ≤ 33554432
    → k.matrix.rows * x.cols ≤ 33554432 → IsRunOf p (k.buffers ++ x.cells ∷ []) lists steps → IsProduct k x lists
is-product p k x lists steps right f few_factors few r =
    let g = gives p k x right f few_factors few in
    let both : Gave lists steps ≡ Gave (g.cells ∷ []) g.steps = sym r ∙ (ap (λ (bs : List (List ℤ)). run p (bs ++ x.cells ∷ [])) f.built ∙ g.gives) in
    let same : lists ≡ g.cells ∷ [] = ap lists_of both in
    subst (λ (ls : List (List ℤ)). IsProduct k x ls) (sym same) record { one = refl; dense = g.dense }

-- one list more is copied
pub copied-more : (lists copies now : List (List ℤ)) (cells : List ℤ) (b : ℕ) → b < length lists → copies ≡ take b lists → now ≡ copies ++ cells ∷ [] → cells ≡ nth lists b → now ≡ take (b + 1) lists
copied-more lists copies now cells b l h made same =
    made ∙ (ap₂ (λ (xs : List (List ℤ)) (ys : List ℤ). xs ++ ys ∷ []) h same ∙ sym (take_more lists b [] l))
