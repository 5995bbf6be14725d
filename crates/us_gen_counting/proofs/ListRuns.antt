-- The phases of queries, one after the other, leave their values.
use Rattle.std.specs.Prelude.{All}
use Rattle.std.specs.List.{filter}
use Rattle.std.proofs.Common.{◌≡◌, ℕ, suc, ◌+◌, ◌*◌, ◌<◌, ◌≤◌, Bool, true, false, cond, nat_eq, ◌||◌, refl, sym, ap, ap₂, ◌∙◌, arith, List, [], ◌∷◌, map, length, get_or, pos, ℤ, IsTrue}
use Rattle.std.proofs.Math.Nat.{mul-le-mul_left}
use Rattle.std.proofs.Math.Path.{fun_ext}
use Rattle.std.proofs.lemmas.Bool.Decides.{nat_tests}
use Rattle.std.proofs.lemmas.List.Elements.{All-head, All-tail}
use Rattle.std.proofs.lemmas.List.FromFn.{length-map-range_with_len, get_or-map-range_with_len}
use Rattle.us_code.specs.declared.pieces.Columns.{Columns}
use Rattle.us_code.specs.Runs.{World, phases}
use Rattle.us_format.specs.Lists.{among}
use Rattle.us_format.specs.Matrix.{Entry, Shape, index_at}
use Rattle.us_format.specs.Declaration.{Query, SumOf, Enumerate, Reorder, Schedule, axis_of, defines, defined, has_extent, has_table}
use Rattle.us_format.specs.Queries.{sum_at, enumerate_at, rank_of, lane_at, slot_at, variable_at}
use Rattle.us_format.specs.Packs.{written}
use Rattle.us_format.specs.Buffers.{extent_buffer, table_buffer}
use Rattle.us_format.specs.Reading.{limit}
use Rattle.us_gen.specs.Goes.{Keeps, Leads}
use Rattle.us_gen.proofs.Going.{leads_none, leads_weaker, leads_both}
use Rattle.us_query_loops.proofs.Defining.{queries-define}
use Rattle.us_gen_counting.specs.Entries.{HoldEntries}
use Rattle.us_gen_counting.specs.Phases.{query_phases, count_phases, variable_column, column_of, extents, tables}
use Rattle.us_gen_counting.specs.Rooms.{IsCountable}
use Rattle.us_gen_counting.specs.Runs.{IsGiven, HoldsQuery, table_share, lane_share, tables_share, lanes_share, HoldsCounts, Counts}
use Rattle.us_gen_counting.proofs.PhaseRuns.{leads_looser, held_later}
use Rattle.us_gen_counting.proofs.QueryRuns.{query_counts}

-- ---- the phases

-- the columns, the extents and the tables of all queries
abbrev pub HoldsQueries : Shape → List Entry → List Entry → (ℕ → List ℤ) → List Query → ℕ → Type 0
HoldsQueries s m es bufs [] n = Unit {0}
HoldsQueries s m es bufs (q ∷ qs) n = HoldsQuery s m es bufs q n × HoldsQueries s m es bufs qs (n + 64)

abbrev pub list_cost : List Entry → Shape → List Entry → List Query → ℕ
list_cost m s es [] = 0
list_cost m s es (q ∷ qs) = 32 * (length es + 1 + (table_share m s q + lane_share s q)) + list_cost m s es qs

pub own_below : (q : Query) (v n : ℕ) → variable_column q v n < n + 64
own_below (SumOf w e) v n = omega arith
own_below (Enumerate w e) v n = omega arith
own_below (Reorder w e) v n = omega arith
own_below (Schedule l u e lanes) v n = case (nat_eq v l)
  where
    case : (b : Bool) → cond b (n + 2) (n + 5) < n + 64
    case true = omega arith
    case false = omega arith

-- what has a number below stays
query_stays : (s : Shape) (m es : List Entry) (q : Query) (n : ℕ) (u v : World) → Keeps (n + 64) u v → HoldsQuery s m es u.bufs q n → HoldsQuery s m es v.bufs q n
query_stays s m es q n u v k h = record {
  variables = λ z hz. k.bufs (variable_column q z n) (own_below q z n) ∙ h.variables z hz;
  extent = λ t. k.bufs (n + 3) (omega arith) ∙ h.extent t;
  table = λ t. k.bufs (n + 11) (omega arith) ∙ h.table t;
}

given_later : (w u : World) (cs : Columns) (s : Shape) (m es : List Entry) (n : ℕ) → IsGiven w cs s m es n → Keeps n w u → IsGiven u cs s m es (n + 64)
given_later w u cs s m es n g k = record {
  matrix = g.matrix;
  rows = g.rows;
  cols = g.cols;
  few = g.few;
  held = held_later w s cs m es n g u k;
  plain = g.plain;
  count = omega (arith, g.count);
  i = omega (arith, g.i);
  j = omega (arith, g.j);
  v = omega (arith, g.v);
}

pub list_counts : (w : World) (s : Shape) (cs : Columns) (qs : List Query) (m es : List Entry) (n : ℕ) → IsGiven w cs s m es n → All IsCountable qs → tables_share m s qs ≤ limit
    → Leads n (list_cost m s es qs) w (phases (count_phases s cs qs n) w) (λ u. HoldsQueries s m es u.bufs qs n)
list_counts w s cs [] m es n given ok small = leads_none n w (λ u. Unit {0}) tt
list_counts w s cs (q ∷ qs) m es n given ok small =
    leads_both n (n + 64) (32 * (length es + 1 + (table_share m s q + lane_share s q))) (list_cost m s es qs) (query_phases s cs q n) (count_phases s cs qs (n + 64)) w
    (λ u. HoldsQuery s m es u.bufs q n) (λ u. HoldsQueries s m es u.bufs (q ∷ qs) n) (omega arith)
    (query_counts w s cs q m es n given (All-head IsCountable q qs ok) (omega (arith, small)))
    (λ u h keeps.
    leads_weaker (n + 64) (list_cost m s es qs) u (phases (count_phases s cs qs (n + 64)) u) (λ v. HoldsQueries s m es v.bufs qs (n + 64)) (λ v. HoldsQueries s m es v.bufs (q ∷ qs) n)
    (λ v x k. (query_stays s m es q n u v k h, x))
    (list_counts u s cs qs m es (n + 64) (given_later w u cs s m es n given keeps) (All-tail IsCountable q qs ok) (omega (arith, small))))

-- ---- the cost

pub cost_is : (m : List Entry) (s : Shape) (es : List Entry) (qs : List Query) → list_cost m s es qs ≡ 32 * (length qs * (length es + 1) + (tables_share m s qs + lanes_share s qs))
cost_is m s es [] = omega arith
cost_is m s es (q ∷ qs) =
    let k = length es + 1 in
    let more : suc (length qs) * k ≡ k + length qs * k = grind arith in
    omega (arith, cost_is m s es qs, more)

cost_low : (m : List Entry) (s : Shape) (es : List Entry) (qs : List Query) → list_cost m s es qs ≤ 32 * ((1 + length qs) * (length es + 1 + (tables_share m s qs + lanes_share s qs)))
cost_low m s es qs =
    let k = length es + 1 in
    let r = tables_share m s qs + lanes_share s qs in
    let split : (1 + length qs) * (k + r) ≡ k + r + length qs * (k + r) = grind arith in
    let wide : length qs * k ≤ length qs * (k + r) = mul-le-mul_left (length qs) (omega arith) in
    bound (list_cost m s es qs) (length qs * k) (length qs * (k + r)) ((1 + length qs) * (k + r)) k r (cost_is m s es qs) split wide
  where
    bound : (c x y p k r : ℕ) → c ≡ 32 * (x + r) → p ≡ k + r + y → x ≤ y → c ≤ 32 * p
    bound c x y p k r a b d = omega (arith, a, b, d)

-- ---- in the words of the answer

-- the query defines the variable, so those behind it don't matter
first_decides : (m : List Entry) (s : Shape) (q : Query) (qs : List Query) (v : ℕ) (x : Entry) → among v (defines q) ≡ true → variable_at m s (q ∷ qs) v x ≡ variable_at m s (q ∷ []) v x
first_decides m s (SumOf w e) qs v x h = ap (λ (b : Bool). cond b (pos (sum_at m e x)) (variable_at m s qs v x)) yes ∙ sym (ap (λ (b : Bool). cond b (pos (sum_at m e x)) (pos 0)) yes)
  where
    yes : nat_eq w v ≡ true
    yes = grind (arith, nat_tests)
first_decides m s (Enumerate w e) qs v x h = ap (λ (b : Bool). cond b (pos (enumerate_at m e x)) (variable_at m s qs v x)) yes ∙ sym (ap (λ (b : Bool). cond b (pos (enumerate_at m e x)) (pos 0)) yes)
  where
    yes : nat_eq w v ≡ true
    yes = grind (arith, nat_tests)
first_decides m s (Reorder w e) qs v x h =
    ap (λ (b : Bool). cond b (pos (rank_of m s (axis_of e) (index_at (axis_of e) x))) (variable_at m s qs v x)) yes ∙ sym (ap (λ (b : Bool). cond b (pos (rank_of m s (axis_of e) (index_at (axis_of e) x))) (pos 0)) yes)
  where
    yes : nat_eq w v ≡ true
    yes = grind (arith, nat_tests)
first_decides m s (Schedule l u e lanes) qs v x h = case (nat_eq l v) (nat_eq u v) refl refl
  where
    a : ℤ
    a = pos (lane_at m s (axis_of e) lanes (index_at (axis_of e) x))

    b : ℤ
    b = pos (slot_at m s (axis_of e) lanes (index_at (axis_of e) x))

    case : (p r : Bool) → nat_eq l v ≡ p → nat_eq u v ≡ r → cond p a (cond r b (variable_at m s qs v x)) ≡ cond p a (cond r b (pos 0))
    case true r hp hr = refl
    case false true hp hr = refl
    case false false hp hr = absurd (grind (arith, nat_tests))

-- the query doesn't define it
later_decide : (m : List Entry) (s : Shape) (q : Query) (qs : List Query) (v : ℕ) (x : Entry) → among v (defines q) ≡ false → variable_at m s (q ∷ qs) v x ≡ variable_at m s qs v x
later_decide m s (SumOf w e) qs v x h = (queries-define m s x).later (SumOf w e ∷ []) qs v h
later_decide m s (Enumerate w e) qs v x h = (queries-define m s x).later (Enumerate w e ∷ []) qs v h
later_decide m s (Reorder w e) qs v x h = (queries-define m s x).later (Reorder w e ∷ []) qs v h
later_decide m s (Schedule l u e lanes) qs v x h = (queries-define m s x).later (Schedule l u e lanes ∷ []) qs v h

-- a variable that the first query doesn't define is defined by the others
rest_defines : (q : Query) (qs : List Query) (v : ℕ) → among v (defines q) ≡ false → IsTrue (among v (defined (q ∷ qs))) → IsTrue (among v (defined qs))
rest_defines (SumOf w e) qs v h t = drop_one (nat_eq v w) (among v (defined qs)) h t
  where
    drop_one : (a b : Bool) → a || false ≡ false → IsTrue (a || b) → IsTrue b
    drop_one true b h t = absurd cc
    drop_one false b h t = t
rest_defines (Enumerate w e) qs v h t = drop_one (nat_eq v w) (among v (defined qs)) h t
  where
    drop_one : (a b : Bool) → a || false ≡ false → IsTrue (a || b) → IsTrue b
    drop_one true b h t = absurd cc
    drop_one false b h t = t
rest_defines (Reorder w e) qs v h t = drop_one (nat_eq v w) (among v (defined qs)) h t
  where
    drop_one : (a b : Bool) → a || false ≡ false → IsTrue (a || b) → IsTrue b
    drop_one true b h t = absurd cc
    drop_one false b h t = t
rest_defines (Schedule l u e lanes) qs v h t = drop_two (nat_eq v l) (nat_eq v u) (among v (defined qs)) h t
  where
    drop_two : (a b c : Bool) → a || (b || false) ≡ false → IsTrue (a || (b || c)) → IsTrue c
    drop_two true b c h t = absurd cc
    drop_two false true c h t = absurd cc
    drop_two false false c h t = t

module _ (m : List Entry) (s : Shape) (es : List Entry) (bufs : ℕ → List ℤ) where
  pub variable_held : (qs : List Query) (v n d : ℕ) → HoldsQueries s m es bufs qs n → IsTrue (among v (defined qs)) → bufs (column_of qs v n d) ≡ map (variable_at m s qs v) es
  variable_held [] v n d h t = absurd cc
  variable_held (q ∷ qs) v n d h t = case (among v (defines q)) refl (λ p. variable_held qs v (n + 64) d h.1 (rest_defines q qs v p t))
    where
      case : (b : Bool) → among v (defines q) ≡ b → (among v (defines q) ≡ false → bufs (column_of qs v (n + 64) d) ≡ map (variable_at m s qs v) es)
          → bufs (cond b (variable_column q v n) (column_of qs v (n + 64) d)) ≡ map (variable_at m s (q ∷ qs) v) es
      case true p more = h.0.variables v p ∙ ap (λ (f : Entry → ℤ). map f es) (sym (fun_ext (λ x. first_decides m s q qs v x p)))
      case false p more = more p ∙ ap (λ (f : Entry → ℤ). map f es) (sym (fun_ext (λ x. later_decide m s q qs v x p)))

  extents_are : (qs : List Query) (n : ℕ) → HoldsQueries s m es bufs qs n → map bufs (extents qs n) ≡ map written (map (extent_buffer m s) (filter has_extent qs))
  extents_are [] n h = refl
  extents_are (SumOf v e ∷ qs) n h = extents_are qs (n + 64) h.1
  extents_are (Enumerate v e ∷ qs) n h = ap₂ (λ (x : List ℤ) (xs : List (List ℤ)). x ∷ xs) (h.0.extent refl) (extents_are qs (n + 64) h.1)
  extents_are (Reorder v e ∷ qs) n h = extents_are qs (n + 64) h.1
  extents_are (Schedule l u e lanes ∷ qs) n h = ap₂ (λ (x : List ℤ) (xs : List (List ℤ)). x ∷ xs) (h.0.extent refl) (extents_are qs (n + 64) h.1)

  tables_are : (qs : List Query) (n : ℕ) → HoldsQueries s m es bufs qs n → map bufs (tables qs n) ≡ map written (map (table_buffer m s) (filter has_table qs))
  tables_are [] n h = refl
  tables_are (SumOf v e ∷ qs) n h = tables_are qs (n + 64) h.1
  tables_are (Enumerate v e ∷ qs) n h = tables_are qs (n + 64) h.1
  tables_are (Reorder v e ∷ qs) n h = ap₂ (λ (x : List ℤ) (xs : List (List ℤ)). x ∷ xs) (h.0.table refl) (tables_are qs (n + 64) h.1)
  tables_are (Schedule l u e lanes ∷ qs) n h = ap₂ (λ (x : List ℤ) (xs : List (List ℤ)). x ∷ xs) (h.0.table refl) (tables_are qs (n + 64) h.1)

pub counts : Counts
counts w s cs out qs names m es n given ok small a =
    let k = 32 * ((1 + length qs) * (length es + 1 + (tables_share m s qs + lanes_share s qs))) in
    let f : ℕ → ℕ = λ v. column_of qs v n cs.i in
    leads_looser n (list_cost m s es qs) k (count_phases s cs qs n) w (λ u. HoldsCounts u s out m es qs n) (cost_low m s es qs)
    (leads_weaker n (list_cost m s es qs) w (phases (count_phases s cs qs n) w) (λ u. HoldsQueries s m es u.bufs qs n) (λ u. HoldsCounts u s out m es qs n)
    (λ u h keeps.
    let e : HoldEntries u.env u.bufs cs m es = held_later w s cs m es n given u keeps in
    record {
      entries = record {
        shuffled = e.shuffled;
        count = ap u.env.dims a.count ∙ e.count;
        rows = ap u.bufs a.i ∙ e.rows;
        cols = ap u.bufs a.j ∙ e.cols;
        values = ap u.bufs a.v ∙ e.values;
      };
      variables = λ v lv t.
          let long : length out.vars.items ≡ names = ap (λ (xs : List ℕ). length xs) a.vars ∙ length-map-range_with_len f 0 names in
          let at : get_or out.vars.items v 0 ≡ f v = ap (λ (xs : List ℕ). get_or xs v 0) a.vars ∙ get_or-map-range_with_len f 0 names v v 0 (omega (arith, lv, long)) (omega arith) in
          ap u.bufs at ∙ variable_held m s es u.bufs qs v n cs.i h t;
      extents_held = extents_are m s es u.bufs qs n h;
      tables_held = tables_are m s es u.bufs qs n h;
    })
    (list_counts w s cs qs m es n given ok small))
