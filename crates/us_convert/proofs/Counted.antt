-- The queries of a part are counted, and its buffers are built.
use Rattle.std.proofs.Common.{◌≡◌, ℕ, suc, ◌+◌, ◌*◌, ◌<◌, ◌≤◌, true, refl, sym, ap, ◌∙◌, subst, arith, List, [], ◌∷◌, ◌++◌, map, length, sum_by, filter, mul-le-mul_left, inl, inr, ◌⊎◌}
use Rattle.std.proofs.lemmas.List.Sorted.{length_permutation}
use Rattle.std.proofs.lemmas.List.Sums.{sum_by-cons, sum_by-append}
use Rattle.us_format.specs.Matrix.{Shape, Entry, indices}
use Rattle.us_format.specs.Declaration.{Query, SumOf, Enumerate, Reorder, Schedule, Part, axis_of, has_extent, has_table}
use Rattle.us_format.specs.Packs.{Buffer, written, packed}
use Rattle.us_format.specs.Buffers.{extent_buffer, table_buffer, piece_buffers, part_buffers}
use Rattle.us_format.specs.Reading.{limit}
use Rattle.us_expr.specs.declared.queries.Axis.{Axis}
use Rattle.us_expr.specs.declared.queries.Axis.TheVariants.{Rows, Cols}
use Rattle.us_code.specs.declared.pieces.Columns.{Columns}
use Rattle.us_code.specs.Plain.{PhaseTree}
use Rattle.us_code.specs.Runs.{World}
use Rattle.us_code.specs.Typing.{Context, after_phases, sees_all, is_listed}
use Rattle.us_gen.proofs.Going.{leads_both}
use Rattle.us_gen_counting.specs.Rooms.{Fit, SeesAnswer}
use Rattle.us_gen_counting.specs.Runs.{IsGiven, tables_share, lanes_share, HoldsCounts}
use Rattle.us_gen_counting.proofs.PhaseFits.{after_both, fit_both}
use Rattle.us_gen_counting.proofs.PhaseRuns.{leads_looser}
use Rattle.us_gen_queries.specs.Plain.{bare}
use Rattle.us_gen_queries.specs.Meaning.{CountsPart}
use Rattle.us_gen_parts_build.specs.Meaning.{share, HoldsQueries, SeesQueries, BuildsPart}
use Rattle.us_gen_parts_build.proofs.Counted.{counted-is-given}
use Rattle.us_limits.proofs.Phases.{append-keep, text-looser}
use Rattle.us_right.specs.Right.{lane_turns}
use Rattle.us_right.specs.Costs.{own_size, own_cost}
use Rattle.us_right.proofs.Buffers.{listed-cases}
use Rattle.us_convert.specs.Own.{BuildsOwn}

-- ---- shares

tables_sum : (m : List Entry) (s : Shape) (qs : List Query) → tables_share m s qs ≡ sum_by (λ (b : Buffer). b.len) (map (table_buffer m s) (filter has_table qs))
tables_sum m s [] = refl
tables_sum m s (SumOf v e ∷ qs) = omega (arith, tables_sum m s qs)
tables_sum m s (Enumerate v e ∷ qs) = omega (arith, tables_sum m s qs)
tables_sum m s (Reorder v e ∷ qs) = omega (arith, tables_sum m s qs, sum_by-cons (λ (b : Buffer). b.len) (table_buffer m s (Reorder v e)) (map (table_buffer m s) (filter has_table qs)))
tables_sum m s (Schedule l u e n ∷ qs) = omega (arith, tables_sum m s qs, sum_by-cons (λ (b : Buffer). b.len) (table_buffer m s (Schedule l u e n)) (map (table_buffer m s) (filter has_table qs)))

tables_few : (s : Shape) (p : Part) (m : List Entry) → tables_share m s p.queries ≤ own_size s (p, m)
tables_few s p m =
    omega (
      arith,
      tables_sum m s p.queries,
      sum_by-append (λ (b : Buffer). b.len) (map (extent_buffer m s) (filter has_extent p.queries)) (map (table_buffer m s) (filter has_table p.queries) ++ packed p (piece_buffers s p m)),
      sum_by-append (λ (b : Buffer). b.len) (map (table_buffer m s) (filter has_table p.queries)) (packed p (piece_buffers s p m)),
    )

indices_few : (a : Axis) (s : Shape) → indices a s ≤ s.rows + s.cols
indices_few Rows s = omega arith
indices_few Cols s = omega arith

lanes_few : (s : Shape) (qs : List Query) → lanes_share s qs ≤ lane_turns s qs
lanes_few s [] = omega arith
lanes_few s (SumOf v e ∷ qs) = omega (arith, lanes_few s qs)
lanes_few s (Enumerate v e ∷ qs) = omega (arith, lanes_few s qs)
lanes_few s (Reorder v e ∷ qs) = omega (arith, lanes_few s qs)
lanes_few s (Schedule l u e n ∷ qs) =
    let each : suc n * indices (axis_of e) s ≤ suc n * (s.rows + s.cols) = mul-le-mul_left (suc n) (indices_few (axis_of e) s) in
    omega (arith, each, lanes_few s qs)

-- ---- the piece

module _ (s : Shape) (p : Part) (cs out : Columns) (bs fin : List ℕ) (n high : ℕ) (ps qs : List PhaseTree)
    (counts : CountsPart s p.queries cs n ps out bs) (builds : BuildsPart true s p out bs (n + 64 * length p.queries) qs fin) (end : high ≡ n + 64 * length p.queries + 1024) where
  held : (u : World) (m es : List Entry) (w : World) → IsGiven w (bare cs) s m es n → own_size s (p, m) ≤ limit → HoldsCounts u s out m es p.queries n → HoldsQueries u s p out bs m es
  held u m es w given small h =
      subst (λ (xs : List ℕ). HoldsQueries u s p out xs m es) (sym counts.are)
      (counted-is-given.held u s p out m es n h given.matrix given.rows given.cols given.few small)

  sees : (g : Context) → SeesAnswer g out p.queries n → SeesQueries g p out bs
  sees g seen = subst (λ (xs : List ℕ). SeesQueries g p out xs) (sym counts.are) (counted-is-given.seen g p out n seen)

  cost : (m es : List Entry) → length es ≡ length m
      → 32 * ((1 + length p.queries) * (length es + 1 + (tables_share m s p.queries + lanes_share s p.queries))) + 64 * ((1 + length p.levels + length p.queries) * (length es + 1 + share s p m))
      ≤ own_cost s (p, m)
  cost m es same =
      let first : (1 + length p.queries) * (length es + 1 + (tables_share m s p.queries + lanes_share s p.queries)) ≤ (1 + length p.queries) * (length m + (own_size s (p, m) + lane_turns s p.queries) + 1) =
      mul-le-mul_left (1 + length p.queries) (omega (arith, same, tables_few s p m, lanes_few s p.queries)) in
      let second : (1 + length p.levels + length p.queries) * (length es + 1 + share s p m) ≤ (1 + length p.levels + length p.queries) * (length m + own_size s (p, m) + 1) =
      mul-le-mul_left (1 + length p.levels + length p.queries) (omega (arith, same)) in
      both _ _ _ _ first second
    where
      both : (a b c d : ℕ) → a ≤ b → c ≤ d → 32 * a + 64 * c ≤ 32 * b + 64 * d
      both a b c d x y = omega (arith, x, y)

  new_in : (b : ℕ) → is_listed b fin ≡ true → (n ≤ b) × (b < high)
  new_in b l = go (listed-cases b bs builds.new.made (ap (is_listed b) (sym builds.new.is) ∙ l))
    where
      go : (is_listed b bs ≡ true) ⊎ (is_listed b builds.new.made ≡ true) → (n ≤ b) × (b < high)
      go (inl x) = let q = counts.new.own b (ap (is_listed b) (sym counts.are) ∙ x) in (q.0, omega (arith, q.1, end))
      go (inr y) = let q = builds.new.own b y in (omega (arith, q.0), omega (arith, q.1, end))

  pub own : BuildsOwn s p cs n high (ps ++ qs) fin
  own = record {
    leads = λ w m es given small.
        let c1 = 32 * ((1 + length p.queries) * (length es + 1 + (tables_share m s p.queries + lanes_share s p.queries))) in
        let c2 = 64 * ((1 + length p.levels + length p.queries) * (length es + 1 + share s p m)) in
        let Q : World → Type 0 = λ u. map u.bufs fin ≡ map written (part_buffers s p m) in
        leads_looser n (32 * ((1 + length p.queries) * (length es + 1 + (tables_share m s p.queries + lanes_share s p.queries))) + 64 * ((1 + length p.levels + length p.queries) * (length es + 1 + share s p m)))
        (own_cost s (p, m)) (ps ++ qs) w (λ u. map u.bufs fin ≡ map written (part_buffers s p m)) (cost m es (length_permutation m es given.held.shuffled))
        (leads_both n (n + 64 * length p.queries) (32 * ((1 + length p.queries) * (length es + 1 + (tables_share m s p.queries + lanes_share s p.queries)))) (64 * ((1 + length p.levels + length p.queries) * (length es + 1 + share s p m))) ps qs w
        (λ u. HoldsCounts u s out m es p.queries n) (λ u. map u.bufs fin ≡ map written (part_buffers s p m)) (omega arith)
        (counts.leads w m es given (omega (arith, small, tables_few s p m)))
        (λ u h keeps. builds.leads u m es (held u m es w given small h) tt));
    typed = λ g room seen.
        let a = counts.typed g room seen in
        let h = after_phases g ps in
        let b = builds.typed (after_phases g ps) a.0.more.room (sees (after_phases g ps) a.1) in
        let both : Fit g (ps ++ qs) n (n + 64 * length p.queries + 1024) = fit_both g ps qs n (n + 64 * length p.queries) (n + 64 * length p.queries + 1024) (omega arith) a.0 b.0 in (
          subst (λ (y : ℕ). Fit g (ps ++ qs) n y) (sym end) both,
          subst (λ (x : Context). sees_all x fin ≡ true) (sym (after_both g ps qs)) b.1,
        );
    new = record { once = builds.new.once; own = new_in };
    few = builds.few;
    text = text-looser (omega arith) (append-keep counts.text builds.text);
  }
