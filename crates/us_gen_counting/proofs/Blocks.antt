-- What the blocks leave are the values of queries.
use Rattle.std.specs.Prelude.{slice_index_or}
use Rattle.std.specs.List.{range_with_len}
use Rattle.std.specs.List.Sorted.{IsPermutation}
use Rattle.std.proofs.Common.{◌≡◌, ◌≢◌, ℕ, zero, suc, ◌+◌, ◌*◌, ◌^◌, ◌<◌, ◌≤◌, Bool, true, false, cond, eqb, ◌&&◌, nat_eq, refl, sym, ap, ap₂, ◌∙◌, subst, arith, List, [], ◌∷◌, map, length, take, pos, ℤ}
use Rattle.std.proofs.Math.Nat.{mul-le-mul_left}
use Rattle.std.proofs.Math.Path.{fun_ext}
use Rattle.std.proofs.lemmas.Bool.Decides.{nat_tests}
use Rattle.std.proofs.lemmas.List.{get_or-map, length-map, same_lists}
use Rattle.std.proofs.lemmas.List.FromFn.{length-map-range_with_len, get_or-map-range_with_len}
use Rattle.us_code.specs.declared.program.Dim.TheVariants as dim
use Rattle.us_code.specs.declared.program.Buf.TheVariants as buf
use Rattle.us_code.specs.declared.pieces.Columns.{Columns}
use Rattle.us_code.specs.Run.{Env, State, exec, cells, all_long}
use Rattle.us_code.specs.Sort.{ordered}
use Rattle.us_code_laws.specs.Does.{Does}
use Rattle.us_code_laws.proofs.Sound.{both_true}
use Rattle.us_expr.specs.declared.queries.Axis.{Axis}
use Rattle.us_expr.specs.declared.queries.Axis.TheVariants as axis
use Rattle.us_expr.specs.Tree.{Tree, RowIndex, ColIndex, Number, Variable, Sum, Difference, Quotient, Remainder}
use Rattle.us_format.specs.Matrix.{Entry, Shape, IsMatrixOf, index_at, indices}
use Rattle.us_format.specs.Declaration.{index_of}
use Rattle.us_format.specs.Queries.{plain_value, sum_at, enumerate_at, enumerate_extent, weight, rank_of, order_cell}
use Rattle.us_query_loops.specs.Sorted.{IsOrder, entry_at, value_column, place_at, value_at_rank, AreTiesRowMajor}
use Rattle.us_query_loops.specs.Laws.{AreOrdered, IsUnused, RunsEnumerate, RunsSum, CountsRank}
use Rattle.us_query_loops.specs.Ranks.{downwards, weight_column, by_weight}
use Rattle.us_query_loops.specs.Runs.{filled_at}
use Rattle.us_query_loops.proofs.Sorting.{orders-sort}
use Rattle.us_query_loops.proofs.RunLaws.{runs-are-enumerated, runs-are-summed}
use Rattle.us_query_loops.proofs.RankLaws.{counts-are-ranked}
use Rattle.us_gen_query.specs.Counting.{no_value, row_major, order_by, value_by, IsZeros, Enumerated, Summed, enumerate, sum}
use Rattle.us_gen_query.specs.Reordering.{passed, by_count, Reordered, reorder}
use Rattle.us_gen_query.proofs.CountsRun.{enumerates}
use Rattle.us_gen_query.proofs.SumsRun.{sums}
use Rattle.us_gen_query.proofs.ReordersRun.{reorders}
use Rattle.us_gen_counting.specs.Phases.{index_column, key}
use Rattle.us_gen_counting.proofs.Keys.{nothing, column_is, HeldIn, index_held, index_below}

-- ---- the order by an argument

-- a column of values has a cell for each entry
pub values_long : (e : Tree) (es : List Entry) → length (value_column e es) ≡ length es
values_long e es = length-map es (plain_value e)

is_long : (xs : List ℤ) (n : ℕ) → length xs ≡ n → nat_eq (length xs) n ≡ true
is_long xs n h = grind (arith, nat_tests)

all_long_two : (n : ℕ) (xs ys : List ℤ) → length xs ≡ n → length ys ≡ n → all_long n (xs ∷ ys ∷ []) ≡ true
all_long_two n xs ys a b = both_true (nat_eq (length xs) n) (nat_eq (length ys) n && true) (is_long xs n a) (both_true (nat_eq (length ys) n) true (is_long ys n b) refl)

all_long_three : (n : ℕ) (xs ys zs : List ℤ) → length xs ≡ n → length ys ≡ n → length zs ≡ n → all_long n (xs ∷ ys ∷ zs ∷ []) ≡ true
all_long_three n xs ys zs a b c = both_true (nat_eq (length xs) n) (all_long n (ys ∷ zs ∷ [])) (is_long xs n a) (all_long_two n ys zs b c)

-- what the order goes by: the values, and what else makes it row-major
record Keys (env : Env) (cs : Columns) (k : ℕ) (s : State) (es : List Entry) (e : Tree) : Type 0 where
  pub more : List (List ℤ)
  pub keys : map (cells env s) (row_major cs k) ≡ value_column e es ∷ more
  pub full : all_long (length es) (value_column e es ∷ more) ≡ true
  pub ties : AreTiesRowMajor es (ordered (value_column e es ∷ more) (length es)) e
  pub few : length (row_major cs k) ≤ 3

module _ (env : Env) (cs : Columns) (n : ℕ) (s : State) (es : List Entry) (o : AreOrdered es) (held : HeldIn s.bufs cs es) (li : cs.i < n) (lj : cs.j < n) where
  few_by : (k : ℕ) (x y : Bool) → length (cond x (buf.New k ∷ buf.New cs.j ∷ []) (cond y (buf.New k ∷ buf.New cs.i ∷ []) (buf.New k ∷ buf.New cs.i ∷ buf.New cs.j ∷ []))) ≤ 3
  few_by k true y = omega arith
  few_by k false true = omega arith
  few_by k false false = omega arith

  same : (k : ℕ) → eqb k k ≡ true
  same k = grind (arith, nat_tests)

  rows : Keys env cs cs.i s es RowIndex
  rows = record {
    more = value_column ColIndex es ∷ [];
    keys = ap (λ (x : Bool). map (cells env s) (cond x (buf.New cs.i ∷ buf.New cs.j ∷ []) (cond (eqb cs.i cs.j) (buf.New cs.i ∷ buf.New cs.i ∷ []) (buf.New cs.i ∷ buf.New cs.i ∷ buf.New cs.j ∷ [])))) (same cs.i)
        ∙ ap₂ (λ (xs ys : List ℤ). xs ∷ ys ∷ []) held.rows held.cols;
    full = all_long_two (length es) (value_column RowIndex es) (value_column ColIndex es) (values_long RowIndex es) (values_long ColIndex es);
    ties = o.by_row_column;
    few = few_by cs.i (eqb cs.i cs.i) (eqb cs.i cs.j);
  }

  cols : Keys env cs cs.j s es ColIndex
  cols = record {
    more = value_column RowIndex es ∷ [];
    keys = case (eqb cs.j cs.i) refl;
    full = all_long_two (length es) (value_column ColIndex es) (value_column RowIndex es) (values_long ColIndex es) (values_long RowIndex es);
    ties = o.by_column_row;
    few = few_by cs.j (eqb cs.j cs.i) (eqb cs.j cs.j);
  }
    where
      case : (b : Bool) → eqb cs.j cs.i ≡ b
          → map (cells env s) (cond b (buf.New cs.j ∷ buf.New cs.j ∷ []) (cond (eqb cs.j cs.j) (buf.New cs.j ∷ buf.New cs.i ∷ []) (buf.New cs.j ∷ buf.New cs.i ∷ buf.New cs.j ∷ []))) ≡ value_column ColIndex es ∷ value_column RowIndex es ∷ []
      case true p =
          let at : cs.j ≡ cs.i = grind (arith, nat_tests) in
          ap₂ (λ (xs ys : List ℤ). xs ∷ ys ∷ []) held.cols (ap s.bufs at ∙ held.rows)
      case false p =
          ap (λ (x : Bool). map (cells env s) (cond x (buf.New cs.j ∷ buf.New cs.i ∷ []) (buf.New cs.j ∷ buf.New cs.i ∷ buf.New cs.j ∷ []))) (same cs.j)
          ∙ ap₂ (λ (xs ys : List ℤ). xs ∷ ys ∷ []) held.cols held.rows

  other : (e : Tree) → s.bufs n ≡ value_column e es → Keys env cs n s es e
  other e v =
      let p : eqb n cs.i ≡ false = grind (arith, nat_tests) in
      let q : eqb n cs.j ≡ false = grind (arith, nat_tests) in
      record {
        more = value_column RowIndex es ∷ value_column ColIndex es ∷ [];
        keys = ap₂ (λ (x y : Bool). map (cells env s) (cond x (buf.New n ∷ buf.New cs.j ∷ []) (cond y (buf.New n ∷ buf.New cs.i ∷ []) (buf.New n ∷ buf.New cs.i ∷ buf.New cs.j ∷ [])))) p q
            ∙ (ap₂ (λ (xs ys : List ℤ). xs ∷ ys ∷ s.bufs cs.j ∷ []) v held.rows ∙ ap (λ (zs : List ℤ). value_column e es ∷ value_column RowIndex es ∷ zs ∷ []) held.cols);
        full = all_long_three (length es) (value_column e es) (value_column RowIndex es) (value_column ColIndex es) (values_long e es) (values_long RowIndex es) (values_long ColIndex es);
        ties = o.by_value_row_column e;
        few = few_by n (eqb n cs.i) (eqb n cs.j);
      }

  keys_of : (e : Tree) → s.bufs (key cs e n) ≡ value_column e es → Keys env cs (key cs e n) s es e
  keys_of RowIndex v = rows
  keys_of ColIndex v = cols
  keys_of (Number c) v = other (Number c) v
  keys_of (Variable c) v = other (Variable c) v
  keys_of (Sum a b) v = other (Sum a b) v
  keys_of (Difference a b) v = other (Difference a b) v
  keys_of (Quotient a c) v = other (Quotient a c) v
  keys_of (Remainder a c) v = other (Remainder a c) v

-- the value of an index
pub index_value : (a : Axis) (x : Entry) → plain_value (index_of a) x ≡ pos (index_at a x)
index_value axis.Rows x = refl
index_value axis.Cols x = refl

-- ---- enumerate and sum

pub one_cell : (xs : List ℤ) (v : ℤ) → length xs ≡ 1 → slice_index_or xs 0 (pos 0) ≡ v → xs ≡ v ∷ []
one_cell [] v h e = absurd (omega (arith, h))
one_cell (x ∷ []) v h e = ap (λ (y : ℤ). y ∷ []) e
one_cell (x ∷ y ∷ ys) v h e = absurd (omega (arith, h))

-- in buffer z how many entries with its value come before each, in w the most entries of one value
pub record IsEnumerated (m es : List Entry) (e : Tree) (p z w : ℕ) (s u : State) : Type 0 where
  pub column : u.bufs z ≡ map (λ x. pos (enumerate_at m e x)) es
  pub extent : u.bufs w ≡ pos (enumerate_extent m e) ∷ []
  pub others : (b : ℕ) → b ≢ p → b ≢ z → b ≢ w → u.bufs b ≡ s.bufs b
  pub steps : u.steps ≤ s.steps + length es * 12 + 6

-- in buffer z how many entries have its value
pub record IsSummed (m es : List Entry) (e : Tree) (p z t : ℕ) (s u : State) : Type 0 where
  pub column : u.bufs z ≡ map (λ x. pos (sum_at m e x)) es
  pub others : (b : ℕ) → b ≢ p → b ≢ z → b ≢ t → u.bufs b ≡ s.bufs b
  pub steps : u.steps ≤ s.steps + length es * 15 + 5

-- in buffer z the rank of each entry's index, in o the indices by their ranks
pub record IsReordered (shape : Shape) (m es : List Entry) (a : Axis) (b o q z : ℕ) (s u : State) : Type 0 where
  pub column : u.bufs z ≡ map (λ x. pos (rank_of m shape a (index_at a x))) es
  pub table : u.bufs o ≡ map (λ x. pos (order_cell m shape a x)) (range_with_len 0 (indices a shape))
  pub others : (c : ℕ) → c ≢ b → c ≢ o → c ≢ q → c ≢ z → u.bufs c ≡ s.bufs c
  pub steps : u.steps ≤ s.steps + length es * 10 + indices a shape * 4 + 4

module _ (env : Env) (cs : Columns) (shape : Shape) (m es : List Entry) (mat : IsMatrixOf shape m) (moved : IsPermutation m es) (count : env.dims cs.count ≡ length es) (few : length es < 2 ^ 62) where
  ordered_entries : AreOrdered es
  ordered_entries = orders-sort shape m es mat moved

  module _ (e : Tree) (n : ℕ) (s : State) (held : HeldIn s.bufs cs es) (values : s.bufs (key cs e n) ≡ value_column e es) (none : IsUnused (pos no_value) e es) where
    abbrev k : ℕ
    k = key cs e n

    key_long : length (s.bufs k) ≡ length es
    key_long = ap (λ (xs : List ℤ). length xs) values ∙ values_long e es

    pub enumerate_is : (p z w r : ℕ) → cs.i < n → cs.j < n → length (s.bufs p) ≡ length es → IsZeros (s.bufs z) (length es) → length (s.bufs w) ≡ 1 → k ≢ p → k ≢ z → p ≢ z → w ≢ z → w ≢ p
        → Does env (enumerate cs k p z w r) s (IsEnumerated m es e p z w s)
    enumerate_is p z w r li lj hp hz hw kp kz pz wz wp =
        let x : Keys env cs k s es e = keys_of env cs n s es ordered_entries held li lj e values in
        let places : List ℕ = ordered (value_column e es ∷ x.more) (length es) in
        let full : all_long (length es) (map (cells env s) (row_major cs k)) ≡ true = subst (λ (ks : List (List ℤ)). all_long (length es) ks ≡ true) (sym x.keys) x.full in
        let u = exec env (enumerate cs k p z w r) s in
        let order : List ℕ = order_by env s (row_major cs k) (length es) in
        let is : order ≡ places = ap (λ (ks : List (List ℤ)). ordered ks (length es)) x.keys in
        let d0 : Enumerated r (length es) k p z w order (value_by s k order) (length (row_major cs k)) s u = enumerates env cs k p z w r (length es) s count few hp full key_long hz hw kp kz pz wz wp in
        let d : Enumerated r (length es) k p z w places (value_by s k places) (length (row_major cs k)) s u = subst (λ (ps : List ℕ). Enumerated r (length es) k p z w ps (value_by s k ps) (length (row_major cs k)) s u) is d0 in
        let once : IsOrder (length es) places = ordered_entries.once (value_column e es ∷ x.more) (length es) in
        let read : (y : ℕ) → y < length es → value_by s k places y ≡ value_at_rank es places e y = λ y ly. ap (λ (xs : List ℤ). slice_index_or xs (place_at places y) (pos 0)) values ∙ ordered_entries.read e places once y ly in
        let run : RunsEnumerate m es e places (value_by s k places) (pos no_value) = runs-are-enumerated m es e places (value_by s k places) (pos no_value) moved once (ordered_entries.by_value e x.more) x.ties read none in
        let cheap : length es * length (row_major cs k) ≤ length es * 3 = mul-le-mul_left (length es) x.few in
        record {
          post = record {
            column = column_is (λ (y : Entry). pos (enumerate_at m e y)) nothing (u.bufs z) es d.long (λ y ly. d.ranks y ly ∙ ap pos (run.column y ly));
            extent = one_cell (u.bufs w) (pos (enumerate_extent m e)) d.wide (d.extent ∙ ap pos run.extent);
            others = d.others;
            steps = omega (arith, d.steps, cheap);
          };
          calm = d.stuck;
        }

    pub sum_is : (p z t r : ℕ) → length (s.bufs p) ≡ length es → IsZeros (s.bufs z) (length es) → IsZeros (s.bufs t) (length es) → k ≢ p → k ≢ z → k ≢ t → p ≢ z → p ≢ t → t ≢ z
        → Does env (sum cs k p z t r) s (IsSummed m es e p z t s)
    sum_is p z t r hp hz ht kp kz kt pz pt tz =
        let places : List ℕ = ordered (value_column e es ∷ []) (length es) in
        let u = exec env (sum cs k p z t r) s in
        let order : List ℕ = order_by env s (buf.New k ∷ []) (length es) in
        let is : order ≡ places = ap (λ (xs : List ℤ). ordered (xs ∷ []) (length es)) values in
        let d0 : Summed r (length es) k p z t order (value_by s k order) s u = sums env cs k p z t r (length es) s count few hp key_long hz ht kp kz kt pz pt tz in
        let d : Summed r (length es) k p z t places (value_by s k places) s u = subst (λ (ps : List ℕ). Summed r (length es) k p z t ps (value_by s k ps) s u) is d0 in
        let once : IsOrder (length es) places = ordered_entries.once (value_column e es ∷ []) (length es) in
        let read : (y : ℕ) → y < length es → value_by s k places y ≡ value_at_rank es places e y = λ y ly. ap (λ (xs : List ℤ). slice_index_or xs (place_at places y) (pos 0)) values ∙ ordered_entries.read e places once y ly in
        let run : RunsSum m es e places (value_by s k places) (pos no_value) = runs-are-summed m es e places (value_by s k places) (pos no_value) moved once (ordered_entries.by_value e []) read none in
        record {
          post = record {
            column = column_is (λ (y : Entry). pos (sum_at m e y)) nothing (u.bufs z) es d.long (λ y ly. d.lengths y ly ∙ ap pos (run.column y ly));
            others = d.others;
            steps = d.steps;
          };
          calm = d.stuck;
        }

  -- ---- reorder

  module _ (a : Axis) where
    abbrev index : ℕ → ℕ
    index y = index_at a (entry_at es y)

    ranked : CountsRank shape m es a
    ranked = counts-are-ranked shape m es a moved

    passed_is : (x c : ℕ) → x ≤ length es → passed index x c ≡ weight (take x es) a c
    passed_is zero c le = sym (ranked.none c)
    passed_is (suc x) c le = case (nat_eq (index x) c) refl (passed_is x c (omega (arith, le)))
      where
        case : (b : Bool) → nat_eq (index x) c ≡ b → passed index x c ≡ weight (take x es) a c → cond b (suc (passed index x c)) (passed index x c) ≡ weight (take (suc x) es) a c
        case true p before =
            let more : weight (take (suc x) es) a c ≡ weight (take x es) a c + 1 = ranked.more x c (omega (arith, le)) ∙ ap (λ (b : Bool). weight (take x es) a c + cond b 1 0) p in
            omega (arith, more, before)
        case false p before =
            let more : weight (take (suc x) es) a c ≡ weight (take x es) a c + 0 = ranked.more x c (omega (arith, le)) ∙ ap (λ (b : Bool). weight (take x es) a c + cond b 1 0) p in
            omega (arith, more, before)

    order_is : by_count index (length es) (indices a shape) ≡ by_weight m shape a
    order_is =
        let all : (c : ℕ) → passed index (length es) c ≡ weight m a c = λ c. passed_is (length es) c (omega arith) ∙ ranked.all c in
        ap (λ (f : ℕ → ℕ). ordered (map (λ c. downwards (f c)) (range_with_len 0 (indices a shape)) ∷ []) (indices a shape)) (fun_ext all)

    table_is : map pos (by_weight m shape a) ≡ map (λ x. pos (order_cell m shape a x)) (range_with_len 0 (indices a shape))
    table_is =
        let once : IsOrder (indices a shape) (by_weight m shape a) = ordered_entries.once (weight_column m shape a ∷ []) (indices a shape) in
        let f : ℕ → ℤ = λ x. pos (order_cell m shape a x) in
        let long : length (map pos (by_weight m shape a)) ≡ indices a shape = length-map (by_weight m shape a) pos ∙ once.long in
        same_lists (map pos (by_weight m shape a)) (map f (range_with_len 0 (indices a shape))) (long ∙ sym (length-map-range_with_len f 0 (indices a shape)))
        (λ k d lt. let lk : k < indices a shape = omega (arith, lt, long) in
        get_or-map pos (by_weight m shape a) k 0 d (omega (arith, lk, once.long)) ∙ (ap pos (ranked.order k lk) ∙ sym (get_or-map-range_with_len f 0 (indices a shape) k k d lk (omega arith))))

    pub reorder_is : (b o q z r : ℕ) (s : State) → HeldIn s.bufs cs es → IsZeros (s.bufs b) (indices a shape) → length (s.bufs o) ≡ indices a shape → IsZeros (s.bufs q) (indices a shape) → length (s.bufs z) ≡ length es
        → index_column cs a ≢ b → index_column cs a ≢ o → index_column cs a ≢ q → index_column cs a ≢ z → b ≢ o → b ≢ q → b ≢ z → o ≢ q → o ≢ z → q ≢ z
        → Does env (reorder cs (index_column cs a) (dim.Number (indices a shape)) b o q z r) s (IsReordered shape m es a b o q z s)
    reorder_is b o q z r s held zb lo zq lz ib io iq iz bo bq bz oq oz qz =
        let column : s.bufs (index_column cs a) ≡ value_column (index_of a) es = index_held s.bufs cs es held a in
        let u = exec env (reorder cs (index_column cs a) (dim.Number (indices a shape)) b o q z r) s in
        let order : List ℕ = by_count index (length es) (indices a shape) in
        let d : Reordered r (length es) (indices a shape) b o q z index order s u
        = reorders env cs (index_column cs a) (dim.Number (indices a shape)) b o q z r (length es) index s count few
        (record {
          long = ap (λ (xs : List ℤ). length xs) column ∙ values_long (index_of a) es;
          cells = λ x lx. ap (λ (xs : List ℤ). slice_index_or xs x (pos 0)) column ∙ (get_or-map (plain_value (index_of a)) es x nothing (pos 0) lx ∙ index_value a (entry_at es x));
          below = λ x lx. index_below shape m es mat moved a x lx;
        })
        zb lo zq lz ib io iq iz bo bq bz oq oz qz in
        let rank : (y : ℕ) → y < length es → filled_at order (λ x. x) (indices a shape) (index y) ≡ rank_of m shape a (index y) =
        λ y ly. ap (λ (ps : List ℕ). filled_at ps (λ x. x) (indices a shape) (index y)) order_is ∙ ranked.rank (index y) (index_below shape m es mat moved a y ly) in
        record {
          post = record {
            column = column_is (λ (y : Entry). pos (rank_of m shape a (index_at a y))) nothing (u.bufs z) es d.long (λ y ly. d.ranks y ly ∙ ap pos (rank y ly));
            table = d.table ∙ (ap (map pos) order_is ∙ table_is);
            others = d.others;
            steps = d.steps;
          };
          calm = d.stuck;
        }
