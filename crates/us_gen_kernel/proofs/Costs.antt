-- The steps of the products.
use Rattle.std.proofs.Common.{ℕ, ◌+◌, ◌*◌, ◌≤◌, Bool, true, false, cond, List, [], ◌∷◌, length, arith, mul-le-mul_right}
use Rattle.us_code.specs.Run.{Env}
use Rattle.us_format.specs.Matrix.{Shape}
use Rattle.us_gen_recover.specs.Recovery.{names_in}
use Rattle.us_gen_unpack.specs.Runs.{Listed, total, list_cost}
use Rattle.us_gen_product.specs.declared.product.Product.{Product}
use Rattle.us_gen_product.specs.Product.{is_vector}
use Rattle.us_gen_product.specs.Runs.{entry_steps, product_cost}

-- an entry's products take at most five steps and six for each column
entry_few : (p : Product) → entry_steps p ≤ 5 + 6 * p.columns
entry_few p = by (is_vector p)
  where
    by : (b : Bool) → cond b 5 (1 + 6 * p.columns) ≤ 5 + 6 * p.columns
    by true = omega arith
    by false = omega arith

more_steps : (c steps columns n : ℕ) → steps ≤ 5 + 6 * columns → (c + steps) * n ≤ (c + 5) * n + 6 * (columns * n)
more_steps c steps columns n h = omega (arith, mul-le-mul_right {m = c + steps} {n = c + 5 + 6 * columns} n (omega (arith, h)))

pub product-few : (env : Env) (s : Shape) (p : Product) (xs : List Listed) → product_cost env s p xs ≤ list_cost env s xs + 6 * (p.columns * total xs)
product-few env s p [] = omega arith
product-few env s p (x ∷ xs) =
    omega (
      arith,
      product-few env s p xs,
      more_steps (2 * length x.loops.places.slots.items + names_in x.loops.steps.items) (entry_steps p) p.columns (length x.entries) (entry_few p),
    )

-- all steps
pub bound : (dims steps weight more T E : ℕ) → dims ≤ 1 + 9 * (weight * T) → steps ≤ 51 * (weight * T) + 6 * E → weight ≤ more → 1 ≤ T → dims + (1 + steps) ≤ 64 * ((1 + more) * (T + E))
bound dims steps weight more T E a b c t =
    let most : weight * T ≤ more * T = mul-le-mul_right T c in
    omega (arith, a, b, most, t)
