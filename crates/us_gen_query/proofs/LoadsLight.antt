-- The loads of the lanes are small, and the weights of the indices are counts of the entries in any order.
use Rattle.std.proofs.Common.{◌≡◌, ◌≢◌, ℕ, zero, suc, ◌+◌, ◌*◌, ◌^◌, ◌<◌, ◌≤◌, ◌⊎◌, inl, inr, Bool, true, false, nat_eq, refl, sym, ap, ◌∙◌, arith, List, [], ◌∷◌, length, replicate, take, if◌then◌else◌}
use Rattle.std.specs.Prelude.{slice_index_or}
use Rattle.std.specs.List.{sum_by}
use Rattle.std.specs.List.Sorted.{IsPermutation}
use Rattle.std.proofs.lemmas.Bool.{cases_eq}
use Rattle.std.proofs.lemmas.List.{length-set, length-replicate, get_or-set_same, get_or-set_other}
use Rattle.std.proofs.lemmas.List.Sums.{sum_by-cons}
use Rattle.us_expr.specs.declared.queries.Axis.{Axis}
use Rattle.us_format.proofs.Collect.{Distinct}
use Rattle.us_format.proofs.Order.{Mem}
use Rattle.us_format.specs.Matrix.{Entry, Shape, index_at, indices}
use Rattle.us_format.specs.Queries.{weight, schedule_extent}
use Rattle.us_format.specs.Reading.{limit}
use Rattle.us_query_loops.specs.Laws.{LoadsSchedule}
use Rattle.us_query_loops.specs.Loads.{loads_after, used_after, low_at, lane_for, slot_for}
use Rattle.us_query_loops.specs.Sorted.{entry_at}
use Rattle.us_query_loops.proofs.RankLaws.{counts-are-ranked}
use Rattle.us_query_loops.proofs.Scheduling.{loads-are-scheduled}
use Rattle.us_query_loops.proofs.WeightSums.{weights-total}
use Rattle.us_gen_query.specs.Counting.{no_value}
use Rattle.us_gen_query.specs.Reordering.{passed}
use Rattle.us_gen_query.specs.Scheduling.{PassedAreWeights}

-- ---- counts

module _ (m es : List Entry) (axis : Axis) (moved : IsPermutation m es) where
  abbrev index : ℕ → ℕ
  index x = index_at axis (entry_at es x)

  passed_so_far : Shape → (x a : ℕ) → x ≤ length es → passed index x a ≡ weight (take x es) axis a
  passed_so_far shape zero a h = sym ((counts-are-ranked shape m es axis moved).none a)
  passed_so_far shape (suc x) a h =
      let e : weight (take (suc x) es) axis a ≡ weight (take x es) axis a + (if nat_eq (index x) a then 1 else 0) = (counts-are-ranked shape m es axis moved).more x a (omega (arith, h)) in
      step (nat_eq (index x) a) (passed index x a) (weight (take x es) axis a) (passed_so_far shape x a (omega (arith, h))) ∙ sym e
    where
      step : (b : Bool) (p w : ℕ) → p ≡ w → (if b then suc p else p) ≡ w + (if b then 1 else 0)
      step true p w q = omega (arith, q)
      step false p w q = omega (arith, q)

pub passed_are_weights : PassedAreWeights
passed_are_weights m es axis moved a =
    let shape : Shape = record { rows = 0; cols = 0 } in
    passed_so_far m es axis moved shape (length es) a (omega arith) ∙ (counts-are-ranked shape m es axis moved).all a

-- ---- loads

-- the first k numbers, downwards
abbrev downto : ℕ → List ℕ
downto zero = []
downto (suc k) = k ∷ downto k

downto_below : (k x : ℕ) → Mem x (downto k) → x < k
downto_below zero x h = absurd h
downto_below (suc k) x (inl e) = omega (arith, e)
downto_below (suc k) x (inr h) = omega (arith, downto_below k x h)

downto_distinct : (k : ℕ) → Distinct (downto k)
downto_distinct zero = tt
downto_distinct (suc k) = ((λ h. omega (arith, downto_below k k h)), downto_distinct k)

no_cell : (n l : ℕ) → ◌≡◌ {A = ℕ} (slice_index_or (replicate n 0) l 0) 0
no_cell zero l = refl
no_cell (suc n) zero = refl
no_cell (suc n) (suc l) = no_cell n l

module _ (shape : Shape) (m : List Entry) (axis : Axis) (n high : ℕ) (x : LoadsSchedule shape m axis n high) where
  abbrev A : ℕ
  A = indices axis shape

  abbrev lane : ℕ → ℕ
  lane k = lane_for high m axis n k

  pub loads_long : (k : ℕ) → k ≤ A → length (loads_after m axis n k) ≡ n
  loads_long zero h = ap (λ (xs : List ℕ). length xs) x.no_loads ∙ length-replicate n 0
  loads_long (suc k) h = ap (λ (xs : List ℕ). length xs) (x.loads k (omega (arith, h))) ∙ (length-set (loads_after m axis n k) (lane k) _ ∙ loads_long k (omega (arith, h)))

  pub used_long : (k : ℕ) → k ≤ A → length (used_after m axis n k) ≡ n
  used_long zero h = ap (λ (xs : List ℕ). length xs) x.no_slots ∙ length-replicate n 0
  used_long (suc k) h = ap (λ (xs : List ℕ). length xs) (x.slots k (omega (arith, h))) ∙ (length-set (used_after m axis n k) (lane k) _ ∙ used_long k (omega (arith, h)))

  -- how many entries the first k indices have
  abbrev total : ℕ → ℕ
  total k = sum_by (weight m axis) (downto k)

  total_more : (k : ℕ) → total (suc k) ≡ weight m axis k + total k
  total_more k = sum_by-cons (weight m axis) k (downto k)

  total_few : (k : ℕ) → total k ≤ length m
  total_few k = weights-total m axis (downto k) (downto_distinct k)

  -- no lane has more
  loads_few : (k l : ℕ) → k ≤ A → slice_index_or (loads_after m axis n k) l 0 ≤ total k
  loads_few zero l h = omega (arith, ap (λ (xs : List ℕ). slice_index_or xs l 0) x.no_loads ∙ no_cell n l)
  loads_few (suc k) l h = step (loads_few k) (cases_eq l (lane k))
    where
      lt : k < A
      lt = omega (arith, h)

      step : ((l : ℕ) → k ≤ A → slice_index_or (loads_after m axis n k) l 0 ≤ total k) → (l ≡ lane k) ⊎ (l ≢ lane k) → slice_index_or (loads_after m axis n (suc k)) l 0 ≤ total (suc k)
      step ih (inl e) =
          let room : lane k < length (loads_after m axis n k) = omega (arith, x.lane_below k lt, loads_long k (omega (arith, h))) in
          let is : slice_index_or (loads_after m axis n (suc k)) l 0 ≡ low_at high (loads_after m axis n k) n + weight m axis k =
          ap (λ (y : ℕ). slice_index_or (loads_after m axis n (suc k)) y 0) e
          ∙ (ap (λ (xs : List ℕ). slice_index_or xs (lane k) 0) (x.loads k lt) ∙ get_or-set_same (loads_after m axis n k) (lane k) _ 0 room) in
          omega (arith, is, x.low k lt, ih (lane k) (omega (arith, h)), total_more k)
      step ih (inr ne) =
          let is : slice_index_or (loads_after m axis n (suc k)) l 0 ≡ slice_index_or (loads_after m axis n k) l 0 =
          ap (λ (xs : List ℕ). slice_index_or xs l 0) (x.loads k lt) ∙ get_or-set_other (loads_after m axis n k) (lane k) l _ 0 ne in
          omega (arith, is, ih l (omega (arith, h)), total_more k)

  -- nor does the next lane with the next index
  pub load_fits : (k : ℕ) → k < A → low_at high (loads_after m axis n k) n + weight m axis k ≤ length m
  load_fits k lt = omega (arith, x.low k lt, loads_few k (lane k) (omega (arith, lt)), total_more k, total_few (suc k))

  pub slot_fits : n * schedule_extent m shape axis n ≤ limit → (k : ℕ) → k < A → slot_for high m axis n k < 2 ^ 62
  slot_fits few k lt = omega (arith, few, x.inside k lt)

  pub place_fits : n * schedule_extent m shape axis n ≤ limit → (k : ℕ) → k < A → lane k * schedule_extent m shape axis n + slot_for high m axis n k < 2 ^ 62
  place_fits few k lt = omega (arith, few, x.inside k lt)

-- the loads, the slots and the lanes of a matrix with fewer entries than the number that stands for none
pub scheduled_with : (shape : Shape) (m : List Entry) (axis : Axis) (n : ℕ) → 0 < n → length m < 2 ^ 62 → n * schedule_extent m shape axis n ≤ limit → LoadsSchedule shape m axis n no_value
scheduled_with shape m axis n some small few = loads-are-scheduled shape m axis n no_value some (omega (arith, small)) few
