-- The phases of a query leave its values.
use Rattle.std.proofs.Common.{◌≡◌, ◌≢◌, ℕ, ◌+◌, ◌*◌, ◌≤◌, Bool, true, false, cond, nat_eq, ◌||◌, refl, sym, ap, ◌∙◌, arith, List, [], ◌∷◌, map, length, pos, ℤ, IsTrue}
use Rattle.std.proofs.Math.Path.{fun_ext}
use Rattle.std.proofs.lemmas.Bool.Decides.{nat_tests}
use Rattle.us_code.specs.declared.pieces.Columns.{Columns}
use Rattle.us_code.specs.Runs.{World, phases}
use Rattle.us_expr.specs.Tree.{Tree}
use Rattle.us_expr.specs.Value.{IsWithin}
use Rattle.us_format.specs.Lists.{among}
use Rattle.us_format.specs.Matrix.{Entry, Shape, index_at, indices}
use Rattle.us_format.specs.Declaration.{Query, SumOf, Enumerate, Reorder, Schedule, axis_of}
use Rattle.us_format.specs.Queries.{sum_at, enumerate_at, rank_of, lane_at, slot_at, variable_at}
use Rattle.us_format.specs.Rules.{has_variable}
use Rattle.us_gen.specs.Goes.{Leads}
use Rattle.us_gen.proofs.Going.{leads_weaker}
use Rattle.us_query_loops.proofs.Defining.{queries-define}
use Rattle.us_gen_counting.specs.Phases.{query_phases}
use Rattle.us_gen_counting.specs.Runs.{HoldsQuery, table_share, lane_share, QueryCounts}
use Rattle.us_gen_counting.proofs.Keys.{within_none}
use Rattle.us_gen_counting.proofs.PhaseRuns.{IsCounted, IsRanked, leads_looser, sum_leads, enumerate_leads, reorder_leads}
use Rattle.us_gen_counting.proofs.ScheduleRuns.{IsScheduled, schedule_leads, cheap}
use Rattle.us_gen_counting.proofs.QueryFits.{is_false}

-- ---- what a query's variable is

same_nat : (k : ℕ) → nat_eq k k ≡ true
same_nat k = grind (arith, nat_tests)

among_one : (v w : ℕ) → IsTrue (among v (w ∷ [])) → v ≡ w
among_one v w h = case (nat_eq v w) refl h
  where
    case : (b : Bool) → nat_eq v w ≡ b → IsTrue (b || false) → v ≡ w
    case true p h = grind (arith, nat_tests)
    case false p h = absurd cc

-- a column of a query that has one variable
column_of_one : (s : Shape) (m es : List Entry) (xs : List ℤ) (q : Query) (v w : ℕ) (f : Entry → ℤ) → v ≡ w → ((x : Entry) → variable_at m s (q ∷ []) w x ≡ f x) → xs ≡ map f es → xs ≡ map (variable_at m s (q ∷ []) v) es
column_of_one s m es xs q v w f e h is = is ∙ ap (λ (g : Entry → ℤ). map g es) (sym (fun_ext (λ x. ap (λ (z : ℕ). variable_at m s (q ∷ []) z x) e ∙ h x)))

module _ (s : Shape) (m es : List Entry) (bufs : ℕ → List ℤ) (v n : ℕ) where
  sum_holds : (e : Tree) → bufs (n + 2) ≡ map (λ x. pos (sum_at m e x)) es → HoldsQuery s m es bufs (SumOf v e) n
  sum_holds e h = record {
    variables = λ z hz. column_of_one s m es (bufs (n + 2)) (SumOf v e) z v (λ x. pos (sum_at m e x)) (among_one z v hz) (λ x. (queries-define m s x).sum v e []) h;
    extent = λ t. absurd cc;
    table = λ t. absurd cc;
  }

  enumerate_holds : (e : Tree) → IsCounted m es e n bufs → HoldsQuery s m es bufs (Enumerate v e) n
  enumerate_holds e h = record {
    variables = λ z hz. column_of_one s m es (bufs (n + 2)) (Enumerate v e) z v (λ x. pos (enumerate_at m e x)) (among_one z v hz) (λ x. (queries-define m s x).enumerate v e []) h.column;
    extent = λ t. h.extent;
    table = λ t. absurd cc;
  }

  reorder_holds : (e : Tree) → IsRanked s m es (axis_of e) n bufs → HoldsQuery s m es bufs (Reorder v e) n
  reorder_holds e h = record {
    variables = λ z hz. column_of_one s m es (bufs (n + 2)) (Reorder v e) z v (λ x. pos (rank_of m s (axis_of e) (index_at (axis_of e) x))) (among_one z v hz) (λ x. (queries-define m s x).reorder v e []) h.column;
    extent = λ t. absurd cc;
    table = λ t. h.table;
  }

  -- the columns of a schedule's variables
  schedule_holds : (u : ℕ) (e : Tree) (lanes : ℕ) → IsScheduled s m es (axis_of e) lanes n bufs → HoldsQuery s m es bufs (Schedule v u e lanes) n
  schedule_holds u e lanes h = record {
    variables = λ z hz. case z (nat_eq z v) refl hz;
    extent = λ t. h.extent;
    table = λ t. h.table;
  }
    where
      lane : Entry → ℤ
      lane x = pos (lane_at m s (axis_of e) lanes (index_at (axis_of e) x))

      slot : Entry → ℤ
      slot x = pos (slot_at m s (axis_of e) lanes (index_at (axis_of e) x))

      is_lane : (z : ℕ) → z ≡ v → bufs (n + 2) ≡ map (variable_at m s (Schedule v u e lanes ∷ []) z) es
      is_lane z q = column_of_one s m es (bufs (n + 2)) (Schedule v u e lanes) z v lane q (λ x. (queries-define m s x).lane v u e lanes []) h.lane

      is_slot : (z : ℕ) → z ≢ v → z ≡ u → bufs (n + 5) ≡ map (variable_at m s (Schedule v u e lanes ∷ []) z) es
      is_slot z p q = column_of_one s m es (bufs (n + 5)) (Schedule v u e lanes) z u slot q (λ x. (queries-define m s x).slot v u e lanes [] (λ r. p (q ∙ sym r))) h.slot

      differ : (x y : ℕ) → nat_eq x y ≡ false → x ≢ y
      differ x y p q = let same : nat_eq x y ≡ true = grind (arith, nat_tests) in let z : ◌≡◌ {A = Bool} true false = sym same ∙ p in absurd cc

      pick : (x y : Bool) → x ≡ false → IsTrue (x || (y || false)) → y ≡ true
      pick true y p h = absurd cc
      pick false true p h = refl
      pick false false p h = absurd cc

      equal : (x y : ℕ) → nat_eq x y ≡ true → x ≡ y
      equal x y p = grind (arith, nat_tests)

      case : (z : ℕ) (b : Bool) → nat_eq z v ≡ b → IsTrue (nat_eq z v || (nat_eq z u || false)) → bufs (cond (nat_eq z v) (n + 2) (n + 5)) ≡ map (variable_at m s (Schedule v u e lanes ∷ []) z) es
      case z true p hz = ap (λ (b : Bool). bufs (cond b (n + 2) (n + 5))) p ∙ is_lane z (equal z v p)
      case z false p hz = ap (λ (b : Bool). bufs (cond b (n + 2) (n + 5))) p ∙ is_slot z (differ z v p) (equal z u (pick (nat_eq z v) (nat_eq z u) p hz))

module _ (w : World) (s : Shape) (cs : Columns) (m es : List Entry) (n : ℕ) where
  -- in the query's own words, and its share of the cost
  pub in_words : (q : Query) (cost : ℕ) (P : World → Type 0) → ((u : World) → P u → HoldsQuery s m es u.bufs q n) → cost ≤ 32 * (length es + 1 + (table_share m s q + lane_share s q))
      → Leads n cost w (phases (query_phases s cs q n) w) P → Leads n (32 * (length es + 1 + (table_share m s q + lane_share s q))) w (phases (query_phases s cs q n) w) (λ u. HoldsQuery s m es u.bufs q n)
  in_words q cost P f le x =
      leads_looser n cost (32 * (length es + 1 + (table_share m s q + lane_share s q))) (query_phases s cs q n) w (λ u. HoldsQuery s m es u.bufs q n) le
      (leads_weaker n cost w (phases (query_phases s cs q n) w) P (λ u. HoldsQuery s m es u.bufs q n) (λ u p k. f u p) x)

pub query_counts : QueryCounts
query_counts w s cs (SumOf v e) m es n given ok small =
    let within : IsWithin 0 e = within_none 32 e (is_false (has_variable e) ok.lawful) ok.within in
    in_words w s cs m es n (SumOf v e) (4 + (length es * 19 + 6)) (λ u. u.bufs (n + 2) ≡ map (λ x. pos (sum_at m e x)) es) (λ u h. sum_holds s m es u.bufs v n e h) (omega arith)
    (sum_leads w s cs m es n given e within ok.small)
query_counts w s cs (Enumerate v e) m es n given ok small =
    let within : IsWithin 0 e = within_none 32 e (is_false (has_variable e) ok.lawful) ok.within in
    in_words w s cs m es n (Enumerate v e) (4 + (length es * 16 + 7)) (λ u. IsCounted m es e n u.bufs) (λ u h. enumerate_holds s m es u.bufs v n e h) (omega arith)
    (enumerate_leads w s cs m es n given e within ok.small)
query_counts w s cs (Reorder v e) m es n given ok small =
    in_words w s cs m es n (Reorder v e) (4 + (length es * 10 + indices (axis_of e) s * 4 + 4)) (λ u. IsRanked s m es (axis_of e) n u.bufs) (λ u h. reorder_holds s m es u.bufs v n e h) (omega arith)
    (reorder_leads w s cs m es n given (axis_of e) small)
query_counts w s cs (Schedule l u e lanes) m es n given ok small =
    in_words w s cs m es n (Schedule l u e lanes) _ (λ x. IsScheduled s m es (axis_of e) lanes n x.bufs) (λ x h. schedule_holds s m es x.bufs l n u e lanes h)
    (cheap w s cs m es n given (axis_of e) lanes ok.lanes ok.narrow small) (schedule_leads w s cs m es n given (axis_of e) lanes ok.lanes ok.narrow small)
