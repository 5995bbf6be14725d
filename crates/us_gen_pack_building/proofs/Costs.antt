-- What the packs cost: as many steps for each entry as there are packs and columns in them.
use Rattle.std.proofs.Common.{◌≡◌, ℕ, zero, suc, ◌+◌, ◌-◌, ◌*◌, ◌<◌, ◌≤◌, ◌⊎◌, inl, inr, List, [], ◌∷◌, length, Bool, true, false, ◌||◌, nat_lt, nat_le, ◌&&◌, refl, ap, arith}
use Rattle.std.proofs.lemmas.Bool.{cases_lt}
use Rattle.std.proofs.lemmas.Bool.Decides.{nat_tests}
use Rattle.us_gen_packs.specs.Turns.{packs_cost}
use Rattle.us_gen_building.specs.declared.part.Descent.{Descent}
use Rattle.us_gen_pack_building.specs.declared.part.PackRun.{PackRun}
use Rattle.us_gen_pack_building.specs.Levels.{has, is_packed, FitRuns, writers}
use Rattle.us_gen_pack_building.specs.Runs.{AreApart, cell_counting_cost, packing_cost}
use Rattle.us_gen_pack_building.proofs.Lines.{terms_long}

-- how many columns the packs have together
abbrev pub widths : List PackRun → ℕ
widths [] = 0
widths (r ∷ rs) = (r.end - r.first) + widths rs

pub cost_is : (rs : List PackRun) (name register : ℕ) (x : Descent) → packs_cost (writers rs name register x) ≡ length rs + widths rs
cost_is [] name register x = refl
cost_is (r ∷ rs) name register x = omega (arith, terms_long (register + r.first) (r.end - r.first), cost_is rs (name + 1) register x)

pub few_packs : (n : ℕ) (rs : List PackRun) → FitRuns n rs → length rs ≤ widths rs
few_packs n [] f = omega arith
few_packs n (r ∷ rs) f = omega (arith, f.0, few_packs n rs f.2)

-- ---- columns counted one by one

abbrev bit : Bool → ℕ
bit true = 1
bit false = 0

abbrev hits : List PackRun → ℕ → ℕ
hits [] k = 0
hits (r ∷ rs) k = bit (has r k) + hits rs k

abbrev sum_to : (ℕ → ℕ) → ℕ → ℕ
sum_to g zero = 0
sum_to g (suc n) = g n + sum_to g n

sum_small : (g : ℕ → ℕ) (n : ℕ) → ((k : ℕ) → g k ≤ 1) → sum_to g n ≤ n
sum_small g zero h = omega arith
sum_small g (suc n) h = omega (arith, h n, sum_small g n h)

sum_none : (n : ℕ) → sum_to (λ k. 0) n ≡ 0
sum_none zero = refl
sum_none (suc n) = omega (arith, sum_none n)

sums_add : (f g : ℕ → ℕ) (n : ℕ) → sum_to (λ k. f k + g k) n ≡ sum_to f n + sum_to g n
sums_add f g zero = refl
sums_add f g (suc n) = omega (arith, sums_add f g n)

-- a run of columns is hit by each of its columns
run_reached : (r : PackRun) (n m : ℕ) → m ≤ n → m ≤ r.end → m ≤ r.first + sum_to (λ k. bit (has r k)) n
run_reached r zero m le up = omega (arith, le)
run_reached r (suc n) m le up = go (cases_lt n m) (cases_lt n r.first) (λ (h : m ≤ n). run_reached r n m h up) (λ (h : n ≤ r.end). run_reached r n n (omega arith) h)
  where
    S : ℕ
    S = sum_to (λ k. bit (has r k)) n

    here : r.first ≤ n → n < r.end → bit (has r n) ≡ 1
    here a b = ap bit (inside r.first n r.end a b)
      where
        inside : (a b c : ℕ) → a ≤ b → b < c → (nat_le a b && nat_lt b c) ≡ true
        inside a b c h g = grind (arith, nat_tests)

    go : (n < m) ⊎ (m ≤ n) → (n < r.first) ⊎ (r.first ≤ n) → (m ≤ n → m ≤ r.first + S) → (n ≤ r.end → n ≤ r.first + S) → m ≤ r.first + (bit (has r n) + S)
    go (inr low) q less same = omega (arith, less low)
    go (inl high) (inl before) less same = omega (arith, le, before)
    go (inl high) (inr there) less same = omega (arith, le, high, here there (omega (arith, high, up)), same (omega (arith, high, up)))

widths_low : (n : ℕ) (rs : List PackRun) → FitRuns n rs → widths rs ≤ sum_to (hits rs) n
widths_low n [] f = omega arith
widths_low n (r ∷ rs) f = omega (arith, f.0, run_reached r n r.end f.1 (omega arith), widths_low n rs f.2, sums_add (λ k. bit (has r k)) (hits rs) n)

bit_le : (b : Bool) → bit b ≤ 1
bit_le true = omega arith
bit_le false = omega arith

hits_few : (rs : List PackRun) → AreApart rs → (k : ℕ) → hits rs k ≤ bit (is_packed rs k)
hits_few [] a k = omega arith
hits_few (r ∷ rs) a k = go (has r k) (is_packed rs k) (a.0 k) (hits_few rs a.1 k)
  where
    apart : true ≡ false → ⊥
    apart e = cc

    go : (b c : Bool) → (b ≡ true → c ≡ false) → hits rs k ≤ bit c → bit b + hits rs k ≤ bit (b || c)
    go true true h le = absurd (apart (h refl))
    go true false h le = omega (arith, le)
    go false c h le = omega (arith, le)

pub few_columns : (n : ℕ) (rs : List PackRun) → FitRuns n rs → AreApart rs → widths rs ≤ n
few_columns n rs f a = omega (arith, widths_low n rs f, sum_small (hits rs) n (λ k. omega (arith, hits_few rs a k, bit_le (is_packed rs k))))

-- ---- both phases

pub both_costs : (l p n cells : ℕ) → p ≤ l + 1 → cell_counting_cost l p n + packing_cost l p n cells ≤ 64 * (1 + l) * (n + 1 + cells)
both_costs l p n cells few = omega (arith, few, few_times p (l + 1) n few)
  where
    few_times : (a b m : ℕ) → a ≤ b → m * a ≤ m * b
    few_times a b zero h = omega arith
    few_times a b (suc m) h = omega (arith, h, few_times a b m h)
