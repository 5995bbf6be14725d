-- The columns in packs, as the loop numbers them and as the part names them.
use Rattle.std.proofs.Common.{◌≡◌, ℕ, zero, suc, ◌+◌, ◌-◌, ◌<◌, ◌≤◌, ◌⊎◌, inl, inr, List, [], ◌∷◌, map, length, Bool, true, false, cond, ◌&&◌, ◌||◌, nat_lt, nat_le, nat_eq, refl, sym, ap, ap₂, ◌∙◌, arith}
use Rattle.std.specs.Prelude.{All, slice_index_or}
use Rattle.std.specs.List.{list_any}
use Rattle.std.proofs.lemmas.Bool.{cases_lt}
use Rattle.std.proofs.lemmas.Bool.Decides.{nat_tests}
use Rattle.std.proofs.lemmas.List.Elements.{All-nil, All-cons}
use Rattle.us_format.specs.Declaration.{Column, LevelColumn, ValueColumn, same_column}
use Rattle.us_format.specs.Packs.{in_pack}
use Rattle.us_gen_pack_building.specs.declared.part.PackRun.{PackRun}
use Rattle.us_gen_pack_building.specs.Levels.{has, is_packed, FitRuns}
use Rattle.us_gen_pack_building.specs.Runs.{column_at, columns_from, columns_of}

pub col_level : (n k : ℕ) → k < n → column_at n k ≡ LevelColumn k
col_level n k h = ap (λ (b : Bool). cond b (LevelColumn k) ValueColumn) (is_lt k n h)
  where
    is_lt : (a b : ℕ) → a < b → nat_lt a b ≡ true
    is_lt a b h = grind (arith, nat_tests)

pub col_value : (n k : ℕ) → n ≤ k → column_at n k ≡ ValueColumn
col_value n k h = ap (λ (b : Bool). cond b (LevelColumn k) ValueColumn) (not_lt k n h)
  where
    not_lt : (a b : ℕ) → b ≤ a → nat_lt a b ≡ false
    not_lt a b h = grind (arith, nat_tests)

other : (a b : ℕ) → a < b → nat_eq a b ≡ false
other a b h = grind (arith, nat_tests)

other_way : (a b : ℕ) → b < a → nat_eq a b ≡ false
other_way a b h = grind (arith, nat_tests)

itself : (a b : ℕ) → a ≡ b → nat_eq a b ≡ true
itself a b h = grind (arith, nat_tests)

same_at : (n k j : ℕ) → k ≤ n → j ≤ n → same_column (column_at n k) (column_at n j) ≡ nat_eq k j
same_at n k j hk hj = go (cases_lt k n) (cases_lt j n)
  where
    go : (k < n) ⊎ (n ≤ k) → (j < n) ⊎ (n ≤ j) → same_column (column_at n k) (column_at n j) ≡ nat_eq k j
    go (inl a) (inl b) = ap₂ same_column (col_level n k a) (col_level n j b)
    go (inl a) (inr b) = ap₂ same_column (col_level n k a) (col_value n j b) ∙ sym (other k j (omega (arith, a, b)))
    go (inr a) (inl b) = ap₂ same_column (col_value n k a) (col_level n j b) ∙ sym (other_way k j (omega (arith, a, b)))
    go (inr a) (inr b) = ap₂ same_column (col_value n k a) (col_value n j b) ∙ sym (itself k j (omega (arith, a, b, hk, hj)))

no_more : (a k : ℕ) → false ≡ (nat_le a k && nat_lt k (a + 0))
no_more a k = grind (arith, nat_tests)

one_more : (a k m : ℕ) → (nat_eq k a || (nat_le (a + 1) k && nat_lt k (a + 1 + m))) ≡ (nat_le a k && nat_lt k (a + suc m))
one_more a k m = grind (arith, nat_tests)

from_has : (n k a m : ℕ) → k ≤ n → a + m ≤ n + 1 → in_pack (column_at n k) (columns_from n a m) ≡ (nat_le a k && nat_lt k (a + m))
from_has n k a zero hk h = no_more a k
from_has n k a (suc m) hk h = ap₂ (λ (x y : Bool). x || y) (same_at n k a hk (omega (arith, h))) (from_has n k (a + 1) m hk (omega (arith, h))) ∙ one_more a k m

run_has : (n k : ℕ) (r : PackRun) → k ≤ n → r.first < r.end → r.end ≤ n + 1 → in_pack (column_at n k) (columns_of n r) ≡ has r k
run_has n k r hk some within =
    from_has n k r.first (r.end - r.first) hk (omega (arith, some, within)) ∙ ap (λ (e : ℕ). nat_le r.first k && nat_lt k e) (omega (arith, some))

-- both say the same of a column
pub packed_same : (n k : ℕ) (rs : List PackRun) → k ≤ n → FitRuns (n + 1) rs → list_any (in_pack (column_at n k)) (map (columns_of n) rs) ≡ is_packed rs k
packed_same n k [] hk f = refl
packed_same n k (r ∷ rs) hk f = ap₂ (λ (x y : Bool). x || y) (run_has n k r hk f.0 f.1) (packed_same n k rs hk f.2)

-- ---- columns one by one

pub columns_long : (n k m : ℕ) → length (columns_from n k m) ≡ m
columns_long n k zero = refl
columns_long n k (suc m) = ap suc (columns_long n (k + 1) m)

pub columns_all : (P : Column → Type 0) (n k m : ℕ) → ((j : ℕ) → k ≤ j → j < k + m → P (column_at n j)) → All P (columns_from n k m)
columns_all P n k zero h = All-nil P
columns_all P n k (suc m) h = All-cons P (column_at n k) (columns_from n (k + 1) m) (h k (omega arith) (omega arith)) (columns_all P n (k + 1) m (λ j le lt. h j (omega (arith, le)) (omega (arith, lt))))

pub columns_there : (n k m y : ℕ) → y < m → slice_index_or (columns_from n k m) y ValueColumn ≡ column_at n (k + y)
columns_there n k zero y h = absurd (omega (arith, h))
columns_there n k (suc m) zero h = ap (column_at n) (omega arith)
columns_there n k (suc m) (suc y) h = columns_there n (k + 1) m y (omega (arith, h)) ∙ ap (column_at n) (omega arith)
