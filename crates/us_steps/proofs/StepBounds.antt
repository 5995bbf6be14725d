-- The steps of a right program, and those of a right kernel, are fewer than 2 ^ 64.
use Rattle.std.specs.Prelude.{None}
use Rattle.std.proofs.Common.{◌≡◌, ℕ, ◌+◌, ◌*◌, ◌^◌, ◌<◌, ◌≤◌, ◌⊎◌, List, length, inl, inr, arith}
use Rattle.std.proofs.lemmas.Bool.{cases_lt}
use Rattle.std.proofs.lemmas.Nat.{mul-le}
use Rattle.std.proofs.Math.Nat.{mul_assoc}
use Rattle.us_format.specs.Buffers.{size}
use Rattle.us_format.specs.Matrix.{Shape, Entry, IsMatrixOf}
use Rattle.us_format.specs.Reading.{limit}
use Rattle.us_decl.specs.Declares.{Declared, IsValid}
use Rattle.us_judge.specs.Acceptance.{first_refusal}
use Rattle.us_judge.specs.Views.{declaration_of}
use Rattle.us_judge.proofs.LawfulDeclarations.{accepted-declaration}
use Rattle.us_gen_listing.specs.Unpack.{level_count, query_count}
use Rattle.us_levels.proofs.Sizes.{all-within}
use Rattle.us_right.specs.Right.{turns}
use Rattle.us_right.specs.Right as right
use Rattle.us_kernel.specs.Right as kernel
use Rattle.us_steps.proofs.Counts.{few-levels, few-queries, few-turns}
use Rattle.us_steps.proofs.Places.{few-entries}

-- no more entries than the size, which is within the limit
within : (d : Declared) (s : Shape) (m : List Entry) → IsValid d → first_refusal (declaration_of d) ≡ None → IsMatrixOf s m → size s (declaration_of d) m ≤ limit → length m ≤ 67108864
within d s m v e im h = omega (arith, all-within s (declaration_of d) m (accepted-declaration d v e) im, h)

-- a right program takes fewer than 2 ^ 64 steps
pub few_steps : (f g : Declared) (s : Shape) (m : List Entry) → IsValid f → first_refusal (declaration_of f) ≡ None → IsValid g → first_refusal (declaration_of g) ≡ None
    → IsMatrixOf s m → s.rows < 2 ^ 31 → s.cols < 2 ^ 31 → size s (declaration_of f) m ≤ limit → size s (declaration_of g) m ≤ limit
    → right.most_steps (declaration_of f) (declaration_of g) s m < 2 ^ 64
few_steps f g s m vf ef vg eg im r c hf hg =
    let a : ℕ = 2 + (level_count (declaration_of f) + level_count (declaration_of g)) + (query_count (declaration_of f) + query_count (declaration_of g)) in
    let b : ℕ = size s (declaration_of f) m + size s (declaration_of g) m + length m + 1 + (turns s (declaration_of f) + turns s (declaration_of g)) in
    let small : a ≤ 290 = omega (arith, few-levels f vf, few-levels g vg, few-queries f vf, few-queries g vg) in
    let few : b ≤ 50000000000000 = omega (arith, hf, hg, within f s m vf ef im hf, few-turns s r c f vf ef, few-turns s r c g vg eg) in
    omega (arith, mul-le a b 290 50000000000000 small few)

-- ---- kernels

-- there are few rows, or few columns of the operand
few_products : (rows cols columns n : ℕ) → n ≤ rows * cols → n ≤ 67108864 → rows * columns ≤ 33554432 → cols * columns ≤ 33554432 → n * columns ≤ 274877906944
few_products rows cols columns n places size out operand = by_case (cases_lt rows 8192)
  where
    by_case : (rows < 8192) ⊎ (8192 ≤ rows) → n * columns ≤ 274877906944
    by_case (inl few) = omega (arith, mul-le n columns (rows * cols) columns places (omega arith), mul_assoc rows cols columns, mul-le rows (cols * columns) 8192 33554432 (omega (arith, few)) operand)
    by_case (inr many) =
        let few : columns ≤ 4096 = omega (arith, mul-le 8192 columns rows columns many (omega arith), out) in
        omega (arith, mul-le n columns 67108864 4096 size few)

-- a right kernel takes fewer than 2 ^ 64 steps
pub few_kernel_steps : (f : Declared) (s : Shape) (columns : ℕ) (m : List Entry) → IsValid f → first_refusal (declaration_of f) ≡ None → IsMatrixOf s m
    → size s (declaration_of f) m ≤ limit → s.cols * columns ≤ 33554432 → s.rows * columns ≤ 33554432 → kernel.most_steps (declaration_of f) s m columns < 2 ^ 64
few_kernel_steps f s columns m v e im h operand out =
    let a : ℕ = 2 + level_count (declaration_of f) + query_count (declaration_of f) in
    let b : ℕ = size s (declaration_of f) m + length m * columns + 1 in
    let small : a ≤ 146 = omega (arith, few-levels f v, few-queries f v) in
    let few : b ≤ 274945015809 = omega (arith, h, few_products s.rows s.cols columns (length m) (few-entries s m im) (within f s m v e im h) out operand) in
    omega (arith, mul-le a b 146 274945015809 small few)
