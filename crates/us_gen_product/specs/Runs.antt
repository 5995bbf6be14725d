-- The result is the sum over the entries of all parts.
use Rattle.std.specs.Prelude.{◌≡◌, ℕ, ◌+◌, ◌*◌, ◌^◌, ◌<◌, ◌≤◌, cond, List, [], ◌∷◌, map, length, ℤ, pos, ◌+ℤ◌}
use Rattle.std.specs.Int.{int_wrap}
use mir.Syntax.{w64}
use Rattle.us_code.specs.Run.{Env}
use Rattle.us_code.specs.Runs.{World, phases}
use Rattle.us_format.specs.Lists.{cell}
use Rattle.us_format.specs.Matrix.{Shape, Entry}
use Rattle.us_format_loops.specs.Laws.{values_on}
use Rattle.us_gen.specs.Goes.{Leads}
use Rattle.us_gen_walk.specs.Runs.{walk_cost}
use Rattle.us_gen_unpack.specs.Runs.{Listed, AreListable}
use Rattle.us_gen_product.specs.declared.product.Product.{Product}
use Rattle.us_gen_product.specs.Dense.{sum_over, column, adds}
use Rattle.us_gen_product.specs.Product.{is_vector, product_phase}

-- the sum over the entries of all parts
abbrev pub sum_of_parts : (Entry → ℤ) → List Listed → ℤ
sum_of_parts f [] = pos 0
sum_of_parts f (x ∷ xs) = sum_over f x.entries +ℤ sum_of_parts f xs

-- the sizes are those of matrices of this shape, and the source has the operand's cells; both lists of cells are of a list's length
pub record IsProductOn (env : Env) (s : Shape) (p : Product) : Type 0 where
  pub rows : p.rows ≡ s.rows
  pub inner : p.inner ≡ s.cols
  pub long : length (env.sources p.operand) ≡ s.cols * p.columns
  pub short : s.cols * p.columns < 2 ^ 63
  pub few : s.rows * p.columns ≤ 67108865

-- the cells of the product, column after column, of entries that stand in parts
pub record HoldsProduct (s : Shape) (xs : List Listed) (columns : ℕ) (operand ys : List ℤ) : Type 0 where
  pub long : length ys ≡ s.rows * columns
  pub each : (k i : ℕ) → k < columns → i < s.rows → cell ys (k * s.rows + i) ≡ int_wrap w64 (sum_of_parts (adds (column operand s.cols k) i) xs)

-- the steps of an entry's products, and of all loops
abbrev pub entry_steps : Product → ℕ
entry_steps p = cond (is_vector p) 5 (1 + 6 * p.columns)

abbrev pub product_cost : Env → Shape → Product → List Listed → ℕ
product_cost env s p [] = 0
product_cost env s p (x ∷ xs) =
    walk_cost env x.loops.places x.loops.steps.items (entry_steps p) (length (values_on s x.part x.entries)) (length x.entries) + product_cost env s p xs

-- the phase comes to its end, fills the result and keeps what has a number below low
abbrev pub ProductsAdd : Type 0
ProductsAdd =
    (w : World) (s : Shape) (xs : List Listed) (p : Product) (n low : ℕ) → AreListable w.env s xs → IsProductOn w.env s p → low ≤ p.result
    → Leads low (1 + product_cost w.env s p xs) w (phases (product_phase p (map (λ x. x.loops) xs) n ∷ []) w)
    (λ u. HoldsProduct s xs p.columns (w.env.sources p.operand) (u.bufs p.result))
