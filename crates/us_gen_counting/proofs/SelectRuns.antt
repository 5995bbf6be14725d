-- The phases that select leave the entries of the part.
use Rattle.std.specs.Prelude.{All, slice_index_or}
use Rattle.std.specs.List.{filter}
use Rattle.std.proofs.Common.{◌≡◌, ℕ, zero, suc, ◌+◌, ◌*◌, ◌^◌, ◌<◌, ◌≤◌, Bool, true, false, not, ◌&&◌, cond, nat_lt, refl, sym, ap, ap₂, ◌∙◌, subst, arith, List, [], ◌∷◌, ◌++◌, map, length, length-append, replicate, take, pos, negsuc, ℤ, IsTrue}
use Rattle.std.proofs.Math.Nat.{mul-le-mul_left}
use Rattle.std.proofs.lemmas.List.{get_or-map, length-map, length-replicate, map-append, take_all}
use Rattle.std.proofs.lemmas.List.Elements.{All-head, All-tail, All-weaker}
use Rattle.us_code.specs.declared.pieces.Columns.{Columns}
use Rattle.us_code.specs.Plain.{Reg}
use Rattle.us_code.specs.Run.{Env, exec}
use Rattle.us_code.specs.Runs.{World, begin, phases}
use Rattle.us_code_laws.specs.Does.{Does}
use Rattle.us_code_laws.proofs.Sequence.{put_same, put_other}
use Rattle.us_expr.specs.declared.queries.Cond.{Cond}
use Rattle.us_format.specs.Lists.{among}
use Rattle.us_format.specs.Matrix.{Entry, Shape}
use Rattle.us_format.specs.Declaration.{Query, SumOf, Enumerate, Reorder, Schedule, Declaration, defines, defined}
use Rattle.us_format.specs.Queries.{variable_at}
use Rattle.us_format.specs.Buffers.{meets}
use Rattle.us_gen.specs.Goes.{Keeps, Leads, after, lined}
use Rattle.us_gen.proofs.Going.{leads_none, leads_weaker, leads_both, Body, phase_leads, line_leads}
use Rattle.us_query_loops.specs.Chosen.{is_first, goes_to}
use Rattle.us_query_loops.specs.Laws.{ConditionsChoose}
use Rattle.us_query_loops.specs.Sorted.{entry_at}
use Rattle.us_query_loops.proofs.Choosing.{entries-are-chosen}
use Rattle.us_gen_query.specs.declared.selecting.Test.{Test}
use Rattle.us_gen_query.specs.Selecting.{passes, passes_all, AreLong, Lacks, chosen, kept, Counted, Copied, IsSource, count_chosen, copy_chosen}
use Rattle.us_gen_query.proofs.SelectsRun.{counts_chosen, copies_chosen}
use Rattle.us_gen_counting.specs.Phases.{column_of, variable_column, count_phases}
use Rattle.us_gen_counting.specs.Phases as counted
use Rattle.us_gen_counting.specs.Runs.{IsGiven, tables_share, lanes_share}
use Rattle.us_gen_counting.specs.Selected.{test_of, part_tests, tests, count_phase, copy_phase, both, base, select_phases, IsSelected}
use Rattle.us_gen_counting.specs.Selects.{IsCount, HoldsPart, Selects}
use Rattle.us_gen_counting.proofs.Keys.{nothing}
use Rattle.us_gen_counting.proofs.PhaseRuns.{leads_looser, phase_leaves, held_later}
use Rattle.us_gen_counting.proofs.ListRuns.{HoldsQueries, list_cost, list_counts, cost_is, variable_held, own_below}

-- ---- tests of conditions

-- a number passes the test of a condition where it meets it, and that of the contrary where it doesn't
passes_meets : (column : ℕ → ℕ) (c : Cond) (z : ℤ) → passes (test_of column c c.less) z ≡ meets c z
passes_meets column c (pos n) = refl
passes_meets column c (negsuc n) = case c.less
  where
    case : (b : Bool) → cond b true false ≡ b
    case true = refl
    case false = refl

passes_turned : (column : ℕ → ℕ) (c : Cond) (z : ℤ) → passes (test_of column c (not c.less)) z ≡ not (meets c z)
passes_turned column c (pos n) = case c.less (nat_lt n c.bound)
  where
    case : (b x : Bool) → cond (not b) x (not x) ≡ not (cond b x (not x))
    case true x = refl
    case false true = refl
    case false false = refl
passes_turned column c (negsuc n) = case c.less
  where
    case : (b : Bool) → cond (not b) true false ≡ not b
    case true = refl
    case false = refl

and_true : (b : Bool) → b && true ≡ b
and_true true = refl
and_true false = refl

module _ (bufs : ℕ → List ℤ) (column : ℕ → ℕ) (value : ℕ → Entry → ℤ) (es : List Entry) where
  -- the column of the condition's variable holds its values
  abbrev IsHeld : Cond → Type 0
  IsHeld c = bufs (column c.var) ≡ map (value c.var) es

  number_is : (c : Cond) (y : ℕ) → y < length es → IsHeld c → slice_index_or (bufs (column c.var)) y (pos 0) ≡ value c.var (entry_at es y)
  number_is c y ly h = ap (λ (xs : List ℤ). slice_index_or xs y (pos 0)) h ∙ get_or-map (value c.var) es y nothing (pos 0) ly

  passes_part : (conds : List Cond) (k y : ℕ) → y < length es → All IsHeld conds → passes_all (part_tests column conds k) bufs y ≡ is_first (λ c x. meets c (value c.var x)) conds k (entry_at es y)
  passes_part [] k y ly h = refl
  passes_part (c ∷ conds) zero y ly h =
      and_true (passes (test_of column c c.less) (slice_index_or (bufs (column c.var)) y (pos 0)))
      ∙ (passes_meets column c (slice_index_or (bufs (column c.var)) y (pos 0)) ∙ ap (meets c) (number_is c y ly (All-head IsHeld c conds h)))
  passes_part (c ∷ conds) (suc k) y ly h =
      ap₂ (λ (a b : Bool). a && b) (passes_turned column c (slice_index_or (bufs (column c.var)) y (pos 0)) ∙ ap (λ (z : ℤ). not (meets c z)) (number_is c y ly (All-head IsHeld c conds h)))
      (passes_part conds k y ly (All-tail IsHeld c conds h))

  tests_long : (conds : List Cond) (k : ℕ) → All IsHeld conds → AreLong (part_tests column conds k) bufs (length es)
  tests_long [] k h = tt
  tests_long (c ∷ conds) zero h = (ap (λ (xs : List ℤ). length xs) (All-head IsHeld c conds h) ∙ length-map es (value c.var), tt)
  tests_long (c ∷ conds) (suc k) h = (ap (λ (xs : List ℤ). length xs) (All-head IsHeld c conds h) ∙ length-map es (value c.var), tests_long conds k (All-tail IsHeld c conds h))

tests_lack : (column : ℕ → ℕ) (conds : List Cond) (k b : ℕ) → ((v : ℕ) → column v < b) → Lacks (part_tests column conds k) b
tests_lack column [] k b h = tt
tests_lack column (c ∷ conds) zero b h = ((λ q. let l = h c.var in omega (arith, q, l)), tt)
tests_lack column (c ∷ conds) (suc k) b h = ((λ q. let l = h c.var in omega (arith, q, l)), tests_lack column conds k b h)

pub tests_few : (column : ℕ → ℕ) (conds : List Cond) (k : ℕ) → length (part_tests column conds k) ≤ length conds
tests_few column [] k = omega arith
tests_few column (c ∷ conds) zero = omega arith
tests_few column (c ∷ conds) (suc k) = omega (arith, tests_few column conds k)

column_low : (qs : List Query) (v n d : ℕ) → d < n → column_of qs v n d < n + 64 * length qs
column_low [] v n d lt = omega (arith, lt)
column_low (q ∷ qs) v n d lt = case (among v (defines q)) (own_below q v n) (column_low qs v (n + 64) d (omega (arith, lt)))
  where
    case : (b : Bool) → variable_column q v n < n + 64 → column_of qs v (n + 64) d < n + 64 + 64 * length qs → cond b (variable_column q v n) (column_of qs v (n + 64) d) < n + 64 * suc (length qs)
    case true p r = omega (arith, p)
    case false p r = omega (arith, r)

append_nil : {A : Type 0} (xs : List A) → xs ++ [] ≡ xs
append_nil [] = refl
append_nil (x ∷ xs) = ap (λ ys. x ∷ ys) (append_nil xs)

-- ---- entries that pass

module _ (s : Shape) (d : Declaration) (m es : List Entry) (k : ℕ) (p : ℕ → Bool) (choose : ConditionsChoose s d m es k) (are : (y : ℕ) → y < length es → p y ≡ goes_to m s d k (entry_at es y)) where
  abbrev goes : Entry → Bool
  goes = goes_to m s d k

  kept_is : (f : ℕ → ℤ) (h : Entry → ℤ) → ((y : ℕ) → y < length es → f y ≡ h (entry_at es y)) → (x : ℕ) → x ≤ length es → kept p f x ≡ map h (filter goes (take x es))
  kept_is f h same zero le = refl
  kept_is f h same (suc x) le = case (goes (entry_at es x)) refl (kept_is f h same x (omega (arith, le)))
    where
      lx : x < length es
      lx = omega (arith, le)

      case : (b : Bool) → goes (entry_at es x) ≡ b → kept p f x ≡ map h (filter goes (take x es)) → cond (p x) (kept p f x ++ f x ∷ []) (kept p f x) ≡ map h (filter goes (take (suc x) es))
      case true e before =
          let more : filter goes (take (suc x) es) ≡ filter goes (take x es) ++ entry_at es x ∷ [] = choose.more x lx ∙ ap (λ (b : Bool). filter goes (take x es) ++ cond b (entry_at es x ∷ []) []) e in
          ap (λ (b : Bool). cond b (kept p f x ++ f x ∷ []) (kept p f x)) (are x lx ∙ e)
          ∙ (ap₂ (λ (xs : List ℤ) (z : ℤ). xs ++ z ∷ []) before (same x lx) ∙ (sym (map-append h (filter goes (take x es)) (entry_at es x ∷ [])) ∙ ap (map h) (sym more)))
      case false e before =
          let more : filter goes (take (suc x) es) ≡ filter goes (take x es) ++ [] = choose.more x lx ∙ ap (λ (b : Bool). filter goes (take x es) ++ cond b (entry_at es x ∷ []) []) e in
          ap (λ (b : Bool). cond b (kept p f x ++ f x ∷ []) (kept p f x)) (are x lx ∙ e) ∙ (before ∙ ap (map h) (sym (more ∙ append_nil (filter goes (take x es)))))

  chosen_is : (x : ℕ) → x ≤ length es → chosen p x ≡ length (filter goes (take x es))
  chosen_is zero le = refl
  chosen_is (suc x) le = case (goes (entry_at es x)) refl (chosen_is x (omega (arith, le)))
    where
      lx : x < length es
      lx = omega (arith, le)

      case : (b : Bool) → goes (entry_at es x) ≡ b → chosen p x ≡ length (filter goes (take x es)) → cond (p x) (suc (chosen p x)) (chosen p x) ≡ length (filter goes (take (suc x) es))
      case true e before =
          let more : filter goes (take (suc x) es) ≡ filter goes (take x es) ++ entry_at es x ∷ [] = choose.more x lx ∙ ap (λ (b : Bool). filter goes (take x es) ++ cond b (entry_at es x ∷ []) []) e in
          let long : length (filter goes (take (suc x) es)) ≡ length (filter goes (take x es)) + 1 = ap (λ (xs : List Entry). length xs) more ∙ length-append (filter goes (take x es)) (entry_at es x ∷ []) in
          ap (λ (b : Bool). cond b (suc (chosen p x)) (chosen p x)) (are x lx ∙ e) ∙ omega (arith, before, long)
      case false e before =
          let more : filter goes (take (suc x) es) ≡ filter goes (take x es) ++ [] = choose.more x lx ∙ ap (λ (b : Bool). filter goes (take x es) ++ cond b (entry_at es x ∷ []) []) e in
          ap (λ (b : Bool). cond b (suc (chosen p x)) (chosen p x)) (are x lx ∙ e) ∙ (before ∙ ap (λ (xs : List Entry). length xs) (sym (more ∙ append_nil (filter goes (take x es)))))

  whole : take (length es) es ≡ es
  whole = take_all (length es) es (omega arith)

  pub all_kept : (f : ℕ → ℤ) (h : Entry → ℤ) → ((y : ℕ) → y < length es → f y ≡ h (entry_at es y)) → kept p f (length es) ≡ map h (filter goes es)
  all_kept f h same = kept_is f h same (length es) (omega arith) ∙ ap (λ (xs : List Entry). map h (filter goes xs)) whole

  pub all_chosen : chosen p (length es) ≡ length (filter goes es)
  all_chosen = chosen_is (length es) (omega arith) ∙ ap (λ (xs : List Entry). length (filter goes xs)) whole

-- how many pass is no more than there are
chosen_few : (p : ℕ → Bool) (x : ℕ) → chosen p x ≤ x
chosen_few p zero = omega arith
chosen_few p (suc x) = case (p x) (chosen_few p x)
  where
    case : (b : Bool) → chosen p x ≤ x → cond b (suc (chosen p x)) (chosen p x) ≤ suc x
    case true le = omega (arith, le)
    case false le = omega (arith, le)

-- ---- both phases

module _ (s : Shape) (d : Declaration) (cs to : Columns) (m es : List Entry) (k n : ℕ) (head_few : length d.conds ≤ 3) (new : IsSelected to (base d.head n)) where
  abbrev b : ℕ
  b = base d.head n

  abbrev column : ℕ → ℕ
  column v = column_of d.head v n cs.i

  abbrev ts : List Test
  ts = tests cs d.head d.conds k n

  abbrev N : ℕ
  N = length es

  few_tests : length ts ≤ 3
  few_tests = omega (arith, tests_few column d.conds k, head_few)

  -- the columns of the entries and of the head's variables
  record Ready (w : World) : Type 0 where
    pub given : IsGiven w cs s m es b
    pub held : All (IsHeld w.bufs column (variable_at m s d.head) es) d.conds
    pub row_low : cs.i < n

  record CountedIn (w u : World) : Type 0 where
    pub bufs : u.bufs ≡ w.bufs
    pub dims : (x : ℕ) → x < b → u.env.dims x ≡ w.env.dims x
    pub count : u.env.dims b ≡ chosen (passes_all ts w.bufs) N

  count_leads : (w : World) → Ready w → Leads b (N * 8 + 3) w (phases (count_phase cs ts b ∷ []) w) (CountedIn w)
  count_leads w r =
      let p = passes_all ts w.bufs in
      let given = r.given in
      let few : N < 2 ^ 62 = omega (arith, given.few) in
      let code = count_chosen cs ts (b + 8) in
      let P : World → Type 0 = λ u. u ≡ w in
      let cheap : N * (2 * length ts + 2) ≤ N * 8 = mul-le-mul_left N (omega (arith, few_tests)) in
      leads_looser b (0 + (N * 8 + 2) + 1) (N * 8 + 3) (count_phase cs ts b ∷ []) w (CountedIn w) (omega arith)
      (phase_leads b 0 (N * 8 + 2) 1 (count_phase cs ts b) w P (CountedIn w) (leads_none b w P refl)
      (λ u e keeps.
      subst (λ (u : World). Does u.env code (begin u) (Body b (N * 8 + 2) 1 (count_phase cs ts b).lines (CountedIn w) u)) (sym e)
      (let c : Counted (b + 8) N (length ts) p (begin w) (exec w.env code (begin w)) = counts_chosen w.env cs ts (b + 8) N (begin w) given.held.count few (tests_long w.bufs column (variable_at m s d.head) es d.conds k r.held) in
      let v = exec w.env code (begin w) in
      record {
        post = record {
          steps = omega (arith, c.steps, cheap);
          bufs = λ x lx. ap (λ (f : ℕ → List ℤ). f x) c.bufs;
          then = line_leads b 0 v.regs b (chosen p N) (Reg (b + 8)) [] (after w v) (CountedIn w) (omega arith) c.count (omega (arith, chosen_few p N, given.few))
              (leads_none b (lined b (chosen p N) 0 (after w v)) (CountedIn w) record {
                bufs = c.bufs;
                dims = λ x lx. put_other w.env.dims b (chosen p N) x (λ q. omega (arith, q, lx));
                count = put_same w.env.dims b (chosen p N);
              });
        };
        calm = c.stuck;
      })))

  -- the columns of the part's entries
  record Copies (bufs : ℕ → List ℤ) : Type 0 where
    pub rows : bufs to.i ≡ map (λ x. pos x.i) (filter (goes_to m s d k) es)
    pub cols : bufs to.j ≡ map (λ x. pos x.j) (filter (goes_to m s d k) es)
    pub values : bufs to.v ≡ map (λ x. x.v) (filter (goes_to m s d k) es)

  module _ (w u : World) (r : Ready w) (c : CountedIn w u) (parts : length d.parts ≡ suc (length d.conds)) where
    choose : ConditionsChoose s d m es k
    choose = entries-are-chosen s d m es r.given.held.shuffled parts k

    are_at : (bufs : ℕ → List ℤ) → All (IsHeld bufs column (variable_at m s d.head) es) d.conds → (y : ℕ) → y < N → passes_all ts bufs y ≡ goes_to m s d k (entry_at es y)
    are_at bufs held y ly = passes_part bufs column (variable_at m s d.head) es d.conds k y ly held

    count_is : u.env.dims to.count ≡ length (filter (goes_to m s d k) es)
    count_is = ap u.env.dims new.count ∙ (c.count ∙ all_chosen s d m es k (passes_all ts w.bufs) choose (are_at w.bufs r.held))

    column_below : (v : ℕ) → column v < b
    column_below v = column_low d.head v n cs.i r.row_low

    copy_leads : Leads (b + 1) (3 + (N * 15 + 2)) u (phases (copy_phase cs ts to b ∷ []) u) (λ v. Copies v.bufs)
    copy_leads =
        let ms = counted.words to.i to ∷ counted.words to.j to ∷ counted.words to.v to ∷ [] in
        let code = copy_chosen cs ts to (b + 8) in
        let fits : u.env.dims to.count ≤ 67108865 = let few : chosen (passes_all ts w.bufs) N ≤ N = chosen_few (passes_all ts w.bufs) N in let at : u.env.dims to.count ≡ u.env.dims b = ap u.env.dims new.count in omega (arith, few, at, c.count, r.given.few) in
        let few : N < 2 ^ 62 = omega (arith, r.given.few) in
        let cheap : N * (2 * length ts + 9) ≤ N * 15 = mul-le-mul_left N (omega (arith, few_tests)) in
        phase_leaves (b + 1) 3 (N * 15 + 2) ms code u Copies (omega arith) (omega (arith, new.i), (omega (arith, new.i, new.j), (omega (arith, new.j, new.v), tt))) (fits, (fits, (fits, tt)))
        (λ v z keeps.
        let old : (x : ℕ) → x < b → v.bufs x ≡ w.bufs x = λ x lx. z.below x (omega (arith, lx)) ∙ ap (λ (f : ℕ → List ℤ). f x) c.bufs in
        let rows : v.bufs cs.i ≡ map (λ x. pos x.i) es = old cs.i r.given.i ∙ r.given.held.rows in
        let cols : v.bufs cs.j ≡ map (λ x. pos x.j) es = old cs.j r.given.j ∙ r.given.held.cols in
        let values : v.bufs cs.v ≡ map (λ x. x.v) es = old cs.v r.given.v ∙ r.given.held.values in
        let held : All (IsHeld v.bufs column (variable_at m s d.head) es) d.conds
        = All-weaker (IsHeld w.bufs column (variable_at m s d.head) es) (IsHeld v.bufs column (variable_at m s d.head) es) (λ x h. old (column x.var) (column_below x.var) ∙ h) d.conds r.held in
        let p = passes_all ts v.bufs in
        let are = are_at v.bufs held in
        let all : chosen p N ≡ length (filter (goes_to m s d k) es) = all_chosen s d m es k p choose are in
        let dims : v.env.dims to.count ≡ chosen p N = ap (λ (e : Env). e.dims to.count) z.env ∙ (count_is ∙ sym all) in
        let count : v.env.dims cs.count ≡ N = ap (λ (e : Env). e.dims cs.count) z.env ∙ (c.dims cs.count r.given.count ∙ r.given.held.count) in
        let long : (xs : List ℤ) → xs ≡ replicate (u.env.dims to.count) (pos 0) → length xs ≡ chosen p N =
        λ xs e. ap (λ (ys : List ℤ). length ys) e ∙ (length-replicate (u.env.dims to.count) (pos 0) ∙ (count_is ∙ sym all)) in
        let source : (x : ℕ) → x < b → length (v.bufs x) ≡ N → IsSource to v.bufs N x =
        λ x lx lo. record { long = lo; not_row = λ q. omega (arith, q, lx, new.i); not_col = λ q. omega (arith, q, lx, new.j); not_value = λ q. omega (arith, q, lx, new.v) } in
        let x : Copied (b + 8) N (length ts) p cs to (begin v) (exec v.env code (begin v))
        = copies_chosen v.env cs ts to (b + 8) N (begin v) count few (tests_long v.bufs column (variable_at m s d.head) es d.conds k held)
        (tests_lack column d.conds k to.i (λ y. let l = column_below y in omega (arith, l, new.i))) (tests_lack column d.conds k to.j (λ y. let l = column_below y in omega (arith, l, new.j))) (tests_lack column d.conds k to.v (λ y. let l = column_below y in omega (arith, l, new.v)))
        (source cs.i r.given.i (ap (λ (ys : List ℤ). length ys) rows ∙ length-map es (λ x. pos x.i))) (source cs.j r.given.j (ap (λ (ys : List ℤ). length ys) cols ∙ length-map es (λ x. pos x.j))) (source cs.v r.given.v (ap (λ (ys : List ℤ). length ys) values ∙ length-map es (λ x. x.v)))
        (λ q. omega (arith, q, new.i, new.j)) (λ q. omega (arith, q, new.i, new.v)) (λ q. omega (arith, q, new.j, new.v)) dims (long (v.bufs to.i) z.zeros.0) (long (v.bufs to.j) z.zeros.1.0) (long (v.bufs to.v) z.zeros.1.1.0) in
        let read : (h : Entry → ℤ) (xs : List ℤ) → xs ≡ map h es → (y : ℕ) → y < N → slice_index_or xs y (pos 0) ≡ h (entry_at es y) =
        λ h xs e y ly. ap (λ (ys : List ℤ). slice_index_or ys y (pos 0)) e ∙ get_or-map h es y nothing (pos 0) ly in
        record {
          post = record {
            holds = record {
              rows = x.rows ∙ all_kept s d m es k p choose are (λ y. slice_index_or (v.bufs cs.i) y (pos 0)) (λ x. pos x.i) (read (λ x. pos x.i) (v.bufs cs.i) rows);
              cols = x.cols ∙ all_kept s d m es k p choose are (λ y. slice_index_or (v.bufs cs.j) y (pos 0)) (λ x. pos x.j) (read (λ x. pos x.j) (v.bufs cs.j) cols);
              values = x.values ∙ all_kept s d m es k p choose are (λ y. slice_index_or (v.bufs cs.v) y (pos 0)) (λ x. x.v) (read (λ x. x.v) (v.bufs cs.v) values);
            };
            below = λ y ly. x.others y (λ q. omega (arith, q, ly, new.i)) (λ q. omega (arith, q, ly, new.j)) (λ q. omega (arith, q, ly, new.v));
            steps = omega (arith, x.steps, cheap);
          };
          calm = x.stuck;
        })

given_at : (w u : World) (cs : Columns) (s : Shape) (m es : List Entry) (n high : ℕ) → n ≤ high → IsGiven w cs s m es n → Keeps n w u → IsGiven u cs s m es high
given_at w u cs s m es n high le g k = record {
  matrix = g.matrix;
  rows = g.rows;
  cols = g.cols;
  few = g.few;
  held = held_later w s cs m es n g u k;
  plain = g.plain;
  count = omega (arith, g.count, le);
  i = omega (arith, g.i, le);
  j = omega (arith, g.j, le);
  v = omega (arith, g.v, le);
}

-- the queries of a head have no tables and no lanes
no_tables : (m : List Entry) (s : Shape) (qs : List Query) → All IsCount qs → tables_share m s qs ≡ 0
no_tables m s [] h = refl
no_tables m s (SumOf v e ∷ qs) h = omega (arith, no_tables m s qs (All-tail IsCount (SumOf v e) qs h))
no_tables m s (Enumerate v e ∷ qs) h = omega (arith, no_tables m s qs (All-tail IsCount (Enumerate v e) qs h))
no_tables m s (Reorder v e ∷ qs) h = absurd (All-head IsCount (Reorder v e) qs h)
no_tables m s (Schedule l u e lanes ∷ qs) h = absurd (All-head IsCount (Schedule l u e lanes) qs h)

no_lanes : (s : Shape) (qs : List Query) → All IsCount qs → lanes_share s qs ≡ 0
no_lanes s [] h = refl
no_lanes s (SumOf v e ∷ qs) h = omega (arith, no_lanes s qs (All-tail IsCount (SumOf v e) qs h))
no_lanes s (Enumerate v e ∷ qs) h = omega (arith, no_lanes s qs (All-tail IsCount (Enumerate v e) qs h))
no_lanes s (Reorder v e ∷ qs) h = absurd (All-head IsCount (Reorder v e) qs h)
no_lanes s (Schedule l u e lanes ∷ qs) h = absurd (All-head IsCount (Schedule l u e lanes) qs h)

pub selects : Selects
selects w s d cs to m es k n given ok count named few parts new =
    let b = base d.head n in
    let N = length es in
    let ts = tests cs d.head d.conds k n in
    let none : tables_share m s d.head ≡ 0 = no_tables m s d.head count in
    let c1 = list_cost m s es d.head in
    let c2 = N * 8 + 3 in
    let c3 = 3 + (N * 15 + 2) in
    let Q : World → Type 0 = λ u. HoldsPart u s d to m es k in
    let split : (1 + length d.head) * (N + 1) ≡ N + 1 + length d.head * (N + 1) = grind arith in
    let cheap : c1 + (c2 + c3) ≤ 32 * ((1 + length d.head) * (N + 1)) = bound c1 (length d.head * (N + 1)) ((1 + length d.head) * (N + 1)) (tables_share m s d.head) (lanes_share s d.head) N (cost_is m s es d.head) none (no_lanes s d.head count) split in
    leads_looser n (c1 + (c2 + c3)) (32 * ((1 + length d.head) * (N + 1))) (select_phases s cs d.head d.conds k to n) w Q cheap
    (leads_both n b c1 (c2 + c3) (count_phases s cs d.head n) (both cs ts to b) w (λ u. HoldsQueries s m es u.bufs d.head n) Q (omega arith)
    (list_counts w s cs d.head m es n given ok (omega (arith, none)))
    (λ u h keeps.
    let r : Ready s d cs to m es k n few new u = record {
      given = given_at w u cs s m es n b (omega arith) given keeps;
      held = All-weaker (λ (c : Cond). IsTrue (among c.var (defined d.head))) (IsHeld u.bufs (λ v. column_of d.head v n cs.i) (variable_at m s d.head) es) (λ c t. variable_held m s es u.bufs d.head c.var n cs.i h t) d.conds named;
      row_low = given.i;
    } in
    leads_both b (b + 1) c2 c3 (count_phase cs ts b ∷ []) (copy_phase cs ts to b ∷ []) u (CountedIn s d cs to m es k n few new u) Q (omega arith) (count_leads s d cs to m es k n few new u r)
    (λ v c keep.
    let choose : ConditionsChoose s d m es k = entries-are-chosen s d m es r.given.held.shuffled parts k in
    leads_weaker (b + 1) c3 v (phases (copy_phase cs ts to b ∷ []) v) (λ x. Copies s d cs to m es k n few new x.bufs) Q
    (λ x y z. record {
      share = choose.part;
      entries = record {
        shuffled = choose.shuffled;
        count = z.dims to.count (omega (arith, new.count)) ∙ count_is s d cs to m es k n few new u v r c parts;
        rows = y.rows;
        cols = y.cols;
        values = y.values;
      };
    })
    (copy_leads s d cs to m es k n few new u v r c parts))))
  where
    bound : (c x p t l n : ℕ) → c ≡ 32 * (x + (t + l)) → t ≡ 0 → l ≡ 0 → p ≡ n + 1 + x → c + (n * 8 + 3 + (3 + (n * 15 + 2))) ≤ 32 * p
    bound c x p t l n a b d e = omega (arith, a, b, d, e)
