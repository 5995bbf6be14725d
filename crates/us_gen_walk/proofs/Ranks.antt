-- How many entries have a position below a number.
use Rattle.std.specs.Prelude.{Contains, IsFalse}
use Rattle.std.proofs.Common.{◌≡◌, ◌≢◌, ℕ, suc, ◌+◌, ◌<◌, List, map, length, true, false, eqb, ltb, sym, ap, ◌∙◌, arith, count_by, lt-ltb, le-ltb, ltb-true, pos, ◌⊎◌, inl, inr}
use Rattle.std.proofs.lemmas.Bool.{ne_eqb, cases_order}
use Rattle.std.proofs.lemmas.List.Sums.{count_by-le-length}
use Rattle.us_format.proofs.Counting.{count-le}
use Rattle.us_format.specs.Declaration.{Part}
use Rattle.us_format.specs.Matrix.{Entry, Shape, IsMatrixOf, is_zero}
use Rattle.us_format.specs.Rules.{IsLawful}
use Rattle.us_format.specs.Laws.{position_of}
use Rattle.us_format.proofs.Order.{Mem-map, Mem-of_map}
use Rattle.us_format.proofs.Members.{contains-Mem, Mem-contains, all-Mem}
use Rattle.us_format.proofs.Collect.{Distinct}
use Rattle.us_format.proofs.Lawful.{row-major}
use Rattle.us_format_loops.proofs.Counts.{count-all, count-none, count-split, count-once, count-map, distinct-map, distinct-entries}
use Rattle.us_format_loops.proofs.Filled.{positions-tell}
use Rattle.us_gen_walk.specs.Runs.{entries_below, rank_of, HaveRanks, EntriesHaveRanks}

module _ (s : Shape) (p : Part) (m : List Entry) (la : IsLawful p) (im : IsMatrixOf s m) where
  abbrev positions : List ℕ
  positions = map (position_of s p m) m

  positions_distinct : Distinct positions
  positions_distinct = distinct-map (position_of s p m) m (positions-tell s p m la im) (distinct-entries m (row-major m im.sorted))

  below_as : (q : ℕ) → entries_below s p m q ≡ count_by (λ y. ltb y q) positions
  below_as q = sym (count-map (λ y. ltb y q) (position_of s p m) m)

  next : (q : ℕ) → entries_below s p m (q + 1) ≡ entries_below s p m q + count_by (λ y. eqb y q) positions
  next q =
      let e : q + 1 ≡ suc q = omega arith in
      ap (λ (x : ℕ). entries_below s p m x) e ∙ (below_as (suc q) ∙ (count-split q positions ∙ ap (λ (x : ℕ). x + count_by (λ y. eqb y q) positions) (sym (below_as q))))

  pub one_more : (x : Entry) → Contains m x → entries_below s p m (position_of s p m x + 1) ≡ rank_of s p m x + 1
  one_more x cx =
      next (position_of s p m x)
      ∙ ap (λ (y : ℕ). rank_of s p m x + y) (count-once (position_of s p m x) positions positions_distinct (Mem-map (position_of s p m) x m (contains-Mem m x cx)))

  pub no_more : (q : ℕ) → ((x : Entry) → Contains m x → position_of s p m x ≢ q) → entries_below s p m (q + 1) ≡ entries_below s p m q
  no_more q absent =
      next q
      ∙ (ap (λ (y : ℕ). entries_below s p m q + y) (count-none (λ y. eqb y q) positions (λ y my. let r = Mem-of_map (position_of s p m) y m my in ne_eqb y q (λ e. absent r.0 (Mem-contains m r.0 r.1) (r.2 ∙ e))))
      ∙ omega arith)

  pub all_below : (N : ℕ) → ((x : Entry) → Contains m x → position_of s p m x < N) → entries_below s p m N ≡ length m
  all_below N h = count-all (λ y. ltb (position_of s p m y) N) m (λ x mx. lt-ltb (position_of s p m x) N (h x (Mem-contains m x mx)))

  pub none_below : entries_below s p m 0 ≡ 0
  none_below = count-none (λ y. ltb (position_of s p m y) 0) m (λ y my. le-ltb (position_of s p m y) 0 (omega arith))

  pub not_zero : (x : Entry) → Contains m x → x.v ≢ pos 0
  not_zero x cx = λ e. let t : true ≡ false = sym (ap is_zero e) ∙ all-Mem (λ (y : Entry). IsFalse (is_zero y.v)) m x im.nonzero (contains-Mem m x cx) in absurd cc

  -- a lower position means a lower rank
  rises : (x : Entry) (q : ℕ) → Contains m x → position_of s p m x < q → rank_of s p m x < entries_below s p m q
  rises x q cx lt =
      omega (
        arith,
        one_more x cx,
        count-le (λ y. ltb (position_of s p m y) (position_of s p m x + 1)) (λ y. ltb (position_of s p m y) q) m
            (λ y my h. lt-ltb (position_of s p m y) q (omega (arith, ltb-true (position_of s p m y) (position_of s p m x + 1) h, lt))),
      )

  pub have_ranks : HaveRanks s p m
  have_ranks = record {
    below = λ x cx. omega (arith, one_more x cx, count_by-le-length (λ y. ltb (position_of s p m y) (position_of s p m x + 1)) m);
    apart = λ x y cx cy e. go x y cx cy e (cases_order (position_of s p m x) (position_of s p m y));
  }
    where
      go : (x y : Entry) → Contains m x → Contains m y → rank_of s p m x ≡ rank_of s p m y
          → ((position_of s p m x ≡ position_of s p m y) ⊎ ((position_of s p m x < position_of s p m y) ⊎ (position_of s p m y < position_of s p m x))) → x ≡ y
      go x y cx cy e (inl h) = positions-tell s p m la im x y (contains-Mem m x cx) (contains-Mem m y cy) h
      go x y cx cy e (inr (inl h)) = absurd (omega (arith, rises x (position_of s p m y) cx h, e))
      go x y cx cy e (inr (inr h)) = absurd (omega (arith, rises y (position_of s p m x) cy h, e))

pub entries_have_ranks : EntriesHaveRanks
entries_have_ranks s p m la im = have_ranks s p m la im
