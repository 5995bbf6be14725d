-- The steps of all phases of a part.
use Rattle.std.proofs.Common.{◌≡◌, ℕ, ◌+◌, ◌*◌, ◌≤◌, refl, arith, mul-le-mul_left}
use Rattle.std.proofs.Math.Nat.{add-mul, mul-add, mul_comm, mul_left_comm}
use Rattle.us_gen_building.specs.Runs.{counting_cost, building_cost}
use Rattle.us_gen_pack_building.specs.Runs.{cell_counting_cost, packing_cost}

-- what a product of two sums has at least
spread : (l q n s : ℕ) → n + 1 + s + l * n + l + q ≤ (1 + l + q) * (n + 1 + s)
spread l q n s =
    let parts : (1 + l + q) * (n + 1 + s) ≡ (1 + l) * (n + 1 + s) + q * (n + 1 + s) = add-mul (1 + l) q (n + 1 + s) in
    let first : (1 + l) * (n + 1 + s) ≡ 1 * (n + 1 + s) + l * (n + 1 + s) = add-mul 1 l (n + 1 + s) in
    let levels : l * (n + 1 + s) ≡ l * (n + 1) + l * s = mul-add l (n + 1) s in
    let entries : l * (n + 1) ≡ l * n + l * 1 = mul-add l n 1 in
    let queries : q * 1 ≤ q * (n + 1 + s) = mul-le-mul_left q (omega arith) in
    omega (arith, parts, first, levels, entries, queries)

counting : (l n : ℕ) → counting_cost l n ≡ 3 + 4 * l + 2 * n + 9 * (l * n)
counting l n =
    let a : n * (2 + l) ≡ n * 2 + n * l = mul-add n 2 l in
    let b : l * (7 * n) ≡ 7 * (l * n) = mul_left_comm l 7 n in
    omega (arith, a, b, mul_comm n l)

building : (l n c : ℕ) → building_cost l n c ≡ 5 + 6 * l + 10 * n + 8 * (l * n) + 4 * c
building l n c =
    let a : n * (2 + (l + 1)) ≡ n * 2 + n * (l + 1) = mul-add n 2 (l + 1) in
    let b : n * (l + 1) ≡ n * l + n * 1 = mul-add n l 1 in
    let d : (l + 1) * (7 * n) ≡ l * (7 * n) + 1 * (7 * n) = add-mul l 1 (7 * n) in
    let e : l * (7 * n) ≡ 7 * (l * n) = mul_left_comm l 7 n in
    omega (arith, a, b, d, e, mul_comm n l)

packs : (l p n : ℕ) → p ≤ l + 1 → n * (p + (l + 1)) ≤ 2 * (l * n) + 2 * n
packs l p n few =
    let a : n * (p + (l + 1)) ≡ n * p + n * (l + 1) = mul-add n p (l + 1) in
    let b : n * p ≤ n * (l + 1) = mul-le-mul_left n few in
    let d : n * (l + 1) ≡ n * l + n * 1 = mul-add n l 1 in
    omega (arith, a, b, d, mul_comm n l)

-- of l levels, q queries, e of which have an extent, p packs, n entries, and c cells of the share s
pub all_costs : (l q e p n c s : ℕ) → e ≤ q → p ≤ l + 1 → c ≤ s
    → (2 * e + (l + l * (2 + 21 * n))) + (cell_counting_cost l p n + packing_cost l p n c) ≤ 64 * ((1 + l + q) * (n + 1 + s))
all_costs l q e p n c s few some cells =
    let a : l * (2 + 21 * n) ≡ l * 2 + l * (21 * n) = mul-add l 2 (21 * n) in
    let b : l * (21 * n) ≡ 21 * (l * n) = mul_left_comm l 21 n in
    let both : cell_counting_cost l p n + packing_cost l p n c ≡ (counting_cost l n + p) + (building_cost l n c + p + n * (p + (l + 1))) = both_are l p n c in
    omega (arith, few, some, cells, a, b, both, counting l n, building l n c, packs l p n some, spread l q n s)
  where
    both_are : (l p n c : ℕ) → cell_counting_cost l p n + packing_cost l p n c ≡ (counting_cost l n + p) + (building_cost l n c + p + n * (p + (l + 1)))
    both_are l p n c = refl
