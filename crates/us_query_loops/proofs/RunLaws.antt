-- Runs are the values of the queries that count entries of one value.
use Rattle.std.specs.List.{range_with_len}
use Rattle.std.specs.List.Sorted.{IsPermutation}
use Rattle.std.proofs.Common.{◌≡◌, ℕ, suc, ◌-◌, ◌<◌, ◌≤◌, List, map, length, get_or, Bool, true, cond, ◌&&◌, ℤ, pos, sym, refl, ap, ap₂, ◌∙◌, subst, arith, count_by, int_eq}
use Rattle.std.proofs.lemmas.List.{get_or_default, get_or-map, length-map}
use Rattle.std.proofs.lemmas.List.FromFn.{fill_by_all}
use Rattle.std.proofs.lemmas.List.Sorted.{IsPermutation-sym, sum_by-IsPermutation}
use lib.Signed.{lt_z}
use Rattle.us_expr.specs.Tree.{Tree}
use Rattle.us_format.proofs.Collect.{earlier-not}
use Rattle.us_format.proofs.Lanes.{Mem-greatest}
use Rattle.us_format.proofs.Lawful.{earlier-self}
use Rattle.us_format.proofs.Members.{Mem-contains}
use Rattle.us_format.proofs.Order.{Mem, Mem-map, Mem-of_map}
use Rattle.us_format.proofs.Shuffled.{Mem-shuffled}
use Rattle.us_format.specs.Matrix.{Entry, earlier}
use Rattle.us_format.specs.Queries.{enumerate_at, enumerate_extent, plain_value, sum_at}
use Rattle.us_query.proofs.EntryCounts.{count-map}
use Rattle.us_query_loops.proofs.Counted.{get-Mem, greatest-low}
use Rattle.us_query_loops.proofs.Filling.{filled-all}
use Rattle.us_query_loops.proofs.Running.{before-is, in-run, most-high, most-low, run-length}
use Rattle.us_query_loops.specs.Laws.{IsUnused, RunsAreEnumerated, RunsAreSummed, RunsEnumerate, RunsSum}
use Rattle.us_query_loops.specs.Runs.{length_at, most_at, start_at}
use Rattle.us_query_loops.specs.Sorted.{AreTiesRowMajor, AreValues, IsOrder, NeverFalls, entry_at, place_at, value_at_rank}

module _ (m es : List Entry) (e : Tree) (places : List ℕ) (value : ℕ → ℤ) (none : ℤ) (moved : IsPermutation m es) (once : IsOrder (length es) places) (sorted : NeverFalls (value_at_rank es places e) (length es)) (are : AreValues es places e value) (unused : IsUnused none e es) where
  abbrev n : ℕ
  n = length es

  abbrev nothing : Entry
  nothing = record { i = 0; j = 0; v = pos 0 }

  -- the entries by their ranks
  abbrev rs : List Entry
  rs = map (entry_at es) places

  long : length rs ≡ n
  long = length-map places (entry_at es) ∙ once.long

  at-rank : (x : ℕ) → x < n → get_or rs x nothing ≡ entry_at es (place_at places x)
  at-rank x l = get_or-map (entry_at es) places x 0 nothing (omega (arith, l, once.long))

  has : (x : ℕ) → x < n → plain_value e (get_or rs x nothing) ≡ value x
  has x l = ap (plain_value e) (at-rank x l) ∙ sym (are x l)

  rises : NeverFalls value n
  rises x y l k = ap₂ lt_z (are y k) (are x (omega (arith, l, k))) ∙ sorted x y l k

  fresh : (x : ℕ) → x < n → value x ≡ none → ⊥
  fresh x l q = unused (place_at places x) (once.below x l) (sym (are x l) ∙ q)

  count-rs : (p : Entry → Bool) → count_by p rs ≡ count_by p m
  count-rs p =
      count-map (entry_at es) p places
      ∙ once.counts (λ y. p (entry_at es y))
      ∙ sym (count-map (entry_at es) p (range_with_len 0 n))
      ∙ ap (λ (l : List Entry). count_by p l) (sym (fill_by_all (entry_at es) es n nothing refl (λ k l. refl)))
      ∙ sum_by-IsPermutation (λ y. cond (p y) 1 0) m es moved

  same-count : (x : ℕ) → x < n → count_by (λ z. int_eq (plain_value e z) (value x)) rs ≡ sum_at m e (entry_at es (place_at places x))
  same-count x l = count-rs (λ z. int_eq (plain_value e z) (value x)) ∙ ap (λ (v : ℤ). count_by (λ z. int_eq (plain_value e z) v) m) (are x l)

  start-within : (x : ℕ) → x < n → start_at none value (suc x) ≤ x
  start-within x l = (in-run none value n rises fresh x l).within

  sum-is : (x : ℕ) → x < n → length_at none value n (start_at none value (suc x)) ≡ sum_at m e (entry_at es (place_at places x))
  sum-is x l = run-length none value n rises fresh (plain_value e) rs nothing long has x l ∙ same-count x l

  -- each entry of the matrix has a rank
  rank-of : (z : Entry) → Mem z m → (x : ℕ) × (x < n) × (entry_at es (place_at places x) ≡ z)
  rank-of z mz =
      let c = Mem-contains es z (Mem-shuffled m es z moved mz) in
      let r = once.each c.0 c.1 in
      (r.0, r.1, ap (entry_at es) r.2 ∙ get-same c.0 c.1 ∙ c.2)
    where
      get-same : (k : ℕ) → k < length es → get_or es k nothing ≡ get_or es k z
      get-same k l = get_or_default es k nothing z l

  extent-is : most_at none value n ≡ enumerate_extent m e
  extent-is = omega (arith, high, low)
    where
      high : most_at none value n ≤ enumerate_extent m e
      high =
          most-high none value n rises fresh (plain_value e) rs nothing long has n (enumerate_extent m e) (omega arith)
          (λ x l. let z : Entry = entry_at es (place_at places x) in
          omega (arith, same-count x l, Mem-greatest 0 (sum_at m e z) (map (sum_at m e) m) (Mem-map (sum_at m e) z m (Mem-shuffled es m z (IsPermutation-sym m es moved) (get-Mem es (place_at places x) nothing (once.below x l))))))

      low : enumerate_extent m e ≤ most_at none value n
      low = greatest-low (map (sum_at m e) m) 0 (most_at none value n) (omega arith) each
        where
          each : (c : ℕ) → Mem c (map (sum_at m e) m) → c ≤ most_at none value n
          each c mc =
              let w = Mem-of_map (sum_at m e) c m mc in
              let r = rank-of w.0 w.1 in
              omega (arith, most-low none value n rises fresh (plain_value e) rs nothing long has r.0 r.1, same-count r.0 r.1, ap (sum_at m e) r.2, w.2)

  pub are-summed : RunsSum m es e places value none
  are-summed = record {
    start = start-within;
    sum = sum-is;
    starts = filled-all n places once (λ x. start_at none value (suc x)) (λ y v. v < n) (λ x l. omega (arith, l, start-within x l));
    column = filled-all n places once (λ x. start_at none value (suc x)) (λ y v. length_at none value n v ≡ sum_at m e (entry_at es y)) sum-is;
  }

  module _ (ties : AreTiesRowMajor es places e) where
    place-is : (x : ℕ) → x < n → x - start_at none value (suc x) ≡ enumerate_at m e (entry_at es (place_at places x))
    place-is x l =
        let c = before-is none value n rises fresh (plain_value e) rs nothing long has earlier in-order earlier-self earlier-not x l in
        let q : count_by (λ z. earlier z (get_or rs x nothing) && int_eq (plain_value e z) (value x)) rs ≡ enumerate_at m e (entry_at es (place_at places x)) =
        count-rs (λ z. earlier z (get_or rs x nothing) && int_eq (plain_value e z) (value x))
        ∙ ap₂ (λ (y : Entry) (v : ℤ). count_by (λ z. earlier z y && int_eq (plain_value e z) v) m) (at-rank x l) (are x l) in
        omega (arith, c, q)
      where
        in-order : (x y : ℕ) → x < y → y < n → value x ≡ value y → earlier (get_or rs x nothing) (get_or rs y nothing) ≡ true
        in-order x y l k q =
            subst (λ (a : Entry). earlier a (get_or rs y nothing) ≡ true) (sym (at-rank x (omega (arith, l, k))))
            (subst (λ (b : Entry). earlier (entry_at es (place_at places x)) b ≡ true) (sym (at-rank y k)) (ties x y l k (sym (are x (omega (arith, l, k))) ∙ q ∙ are y k)))

    pub are-enumerated : RunsEnumerate m es e places value none
    are-enumerated = record {
      start = start-within;
      place = place-is;
      column = filled-all n places once (λ x. x - start_at none value (suc x)) (λ y v. v ≡ enumerate_at m e (entry_at es y)) place-is;
      extent = extent-is;
    }

pub runs-are-summed : RunsAreSummed
runs-are-summed = λ m es e places value none moved once sorted are unused. are-summed m es e places value none moved once sorted are unused

pub runs-are-enumerated : RunsAreEnumerated
runs-are-enumerated = λ m es e places value none moved once sorted ties are unused. are-enumerated m es e places value none moved once sorted are unused ties
