-- The column of the values of an argument.
use Rattle.std.specs.Prelude.{slice_index_or}
use Rattle.std.specs.List.Sorted.{IsPermutation}
use Rattle.std.proofs.Common.{◌≡◌, ◌≢◌, ℕ, zero, suc, ◌+◌, ◌*◌, ◌^◌, ◌<◌, ◌≤◌, Bool, true, false, cond, refl, sym, ap, ◌∙◌, subst, arith, List, [], map, length, replicate, pos, ℤ, ◌≤ℤ◌}
use Rattle.std.proofs.Math.Nat.{mul-le-mul_left}
use Rattle.std.proofs.lemmas.Bool.{or_parts}
use Rattle.std.proofs.lemmas.Int.{ints}
use Rattle.std.proofs.lemmas.List.{get_or_default, get_or-map, get_or-replicate, length-map, length-replicate, same_lists}
use Rattle.std.proofs.lemmas.List.Elements.{All-get_or}
use Rattle.std.proofs.lemmas.List.Sorted.{All-permutation}
use Rattle.us_code.specs.declared.pieces.Columns.{Columns}
use Rattle.us_code.specs.Plain.{Code, ◌+++◌}
use Rattle.us_code.specs.Run.{Env, State, exec}
use Rattle.us_code_laws.specs.Does.{Does}
use Rattle.us_code_laws.proofs.Does.{do_append}
use Rattle.us_expr.specs.declared.queries.Axis.{Axis}
use Rattle.us_expr.specs.declared.queries.Axis.TheVariants as axis
use Rattle.us_expr.specs.Tree.{Tree, node_count, RowIndex, ColIndex, Number, Variable, Sum, Difference, Quotient, Remainder}
use Rattle.us_expr.specs.Value.{IsIndex, IsPoint, IsWithin, value}
use Rattle.us_expr.proofs.Bounds.{value_near}
use Rattle.us_expr.proofs.Floor.{pos_le}
use Rattle.us_format.specs.Matrix.{Entry, Shape, IsMatrixOf, index_at, indices}
use Rattle.us_format.specs.Declaration.{axis_of, index_of}
use Rattle.us_format.specs.Queries.{plain_value}
use Rattle.us_format.specs.Rules.{has_variable, is_index}
use Rattle.us_query_loops.specs.Laws.{IsUnused}
use Rattle.us_query_loops.specs.Sorted.{entry_at, value_column}
use Rattle.us_gen_query.specs.Terms.{reads, reading, point}
use Rattle.us_gen_query.specs.Filling.{column, width, fill, Entries, FillsIn}
use Rattle.us_gen_query.specs.Counting.{no_value, IsZeros}
use Rattle.us_gen_query.proofs.FillsRun.{fills}
use Rattle.us_gen_counting.specs.Phases.{index_column, key, key_fill}

abbrev pub nothing : Entry
nothing = record { i = 0; j = 0; v = pos 0 }

-- a list with these cells
pub column_is : {A : Type 0} (f : A → ℤ) (d : A) (xs : List ℤ) (es : List A) → length xs ≡ length es → ((y : ℕ) → y < length es → slice_index_or xs y (pos 0) ≡ f (slice_index_or es y d)) → xs ≡ map f es
column_is f d xs es long each = same_lists xs (map f es) (long ∙ sym (length-map es f)) (λ k z lt. let lk : k < length es = omega (arith, lt, long) in get_or_default xs k z (pos 0) lt ∙ (each k lk ∙ sym (get_or-map f es k d z lk)))

pub are_zeros : (xs : List ℤ) (n m : ℕ) → xs ≡ replicate n (pos 0) → n ≡ m → IsZeros xs m
are_zeros xs n m e h = record {
  long = ap (λ (ys : List ℤ). length ys) e ∙ (length-replicate n (pos 0) ∙ h);
  cells = λ y ly. ap (λ (ys : List ℤ). slice_index_or ys y (pos 0)) e ∙ get_or-replicate n y (pos 0) (pos 0) (omega (arith, ly, h));
}

-- ---- expressions without variables

pub within_none : (n : ℕ) (e : Tree) → has_variable e ≡ false → IsWithin n e → IsWithin 0 e
within_none n RowIndex h w = tt
within_none n ColIndex h w = tt
within_none n (Number c) h w = w
within_none n (Variable v) h w = absurd cc
within_none n (Sum a b) h w = let p = or_parts (has_variable a) (has_variable b) h in (within_none n a p.0 w.0, within_none n b p.1 w.1)
within_none n (Difference a b) h w = let p = or_parts (has_variable a) (has_variable b) h in (within_none n a p.0 w.0, within_none n b p.1 w.1)
within_none n (Quotient a k) h w = (w.0, w.1, within_none n a h w.2)
within_none n (Remainder a k) h w = (w.0, w.1, within_none n a h w.2)

pub index_is : (e : Tree) → is_index e ≡ true → e ≡ index_of (axis_of e)
index_is RowIndex h = refl
index_is ColIndex h = refl
index_is (Number c) h = absurd cc
index_is (Variable v) h = absurd cc
index_is (Sum a b) h = absurd cc
index_is (Difference a b) h = absurd cc
index_is (Quotient a k) h = absurd cc
index_is (Remainder a k) h = absurd cc

-- an expression over rows and columns reads two columns at most
reading_few : (e : Tree) (w : ℕ) → reading e w ≤ w
reading_few e zero = omega arith
reading_few e (suc c) = case (reads e c) (reading_few e c)
  where
    case : (b : Bool) → reading e c ≤ c → cond b (reading e c + 1) (reading e c) ≤ suc c
    case true le = omega (arith, le)
    case false le = omega (arith, le)

-- ---- entries of a matrix

module _ (s : Shape) (m es : List Entry) (mat : IsMatrixOf s m) (moved : IsPermutation m es) where
  pub row_below : (y : ℕ) → y < length es → (entry_at es y).i < s.rows
  row_below y lt = All-get_or (λ (x : Entry). x.i < s.rows) es y nothing lt (All-permutation (λ (x : Entry). x.i < s.rows) m es moved mat.rows)

  pub col_below : (y : ℕ) → y < length es → (entry_at es y).j < s.cols
  col_below y lt = All-get_or (λ (x : Entry). x.j < s.cols) es y nothing lt (All-permutation (λ (x : Entry). x.j < s.cols) m es moved mat.cols)

  pub index_below : (a : Axis) (y : ℕ) → y < length es → index_at a (entry_at es y) < indices a s
  index_below axis.Rows y lt = row_below y lt
  index_below axis.Cols y lt = col_below y lt

  module _ (few_rows : s.rows < 2 ^ 31) (few_cols : s.cols < 2 ^ 31) where
    small : (n k : ℕ) → n < k → k < 2 ^ 31 → IsIndex (pos n)
    small n k lt le = (omega (arith, ints), omega (arith, ints, lt, le))

    pub points : (y : ℕ) → y < length es → IsPoint (pos (entry_at es y).i) (pos (entry_at es y).j) []
    points y lt = record {
      row = small (entry_at es y).i s.rows (row_below y lt) few_rows;
      col = small (entry_at es y).j s.cols (col_below y lt) few_cols;
      each = λ v lv. absurd (omega (arith, lv));
    }

    pub unused : (e : Tree) → IsWithin 0 e → node_count e ≤ 32 → IsUnused (pos no_value) e es
    unused e within few y lt q =
        let near = value_near (pos (entry_at es y).i) (pos (entry_at es y).j) [] e (points y lt) within in
        let high : no_value ≤ node_count e * 2 ^ 31 = pos_le no_value (node_count e * 2 ^ 31) (subst (λ (z : ℤ). z ≤ℤ pos (node_count e * 2 ^ 31)) q near.high) in
        omega (arith, high, few)

-- ---- the column

-- the columns of rows and of columns
pub record HeldIn (bufs : ℕ → List ℤ) (cs : Columns) (es : List Entry) : Type 0 where
  pub rows : bufs cs.i ≡ value_column RowIndex es
  pub cols : bufs cs.j ≡ value_column ColIndex es

pub index_held : (bufs : ℕ → List ℤ) (cs : Columns) (es : List Entry) → HeldIn bufs cs es → (a : Axis) → bufs (index_column cs a) ≡ value_column (index_of a) es
index_held bufs cs es h axis.Rows = h.rows
index_held bufs cs es h axis.Cols = h.cols

-- behind the loop that fills it: the values of the argument
pub record KeyHeld (cs : Columns) (e : Tree) (n : ℕ) (es : List Entry) (s u : State) : Type 0 where
  pub values : u.bufs (key cs e n) ≡ value_column e es
  pub others : (b : ℕ) → b ≢ n → u.bufs b ≡ s.bufs b
  pub steps : u.steps ≤ s.steps + length es * 4 + 1

module _ (env : Env) (cs : Columns) (es : List Entry) (e : Tree) (n : ℕ) (s : State) (plain : cs.vars.items ≡ []) (count : env.dims cs.count ≡ length es) (held : HeldIn s.bufs cs es) (li : cs.i < n) (lj : cs.j < n)
    (at_points : (y : ℕ) → y < length es → IsPoint (pos (entry_at es y).i) (pos (entry_at es y).j) []) (within : IsWithin 0 e) (few : node_count e ≤ 32) where
  narrow : length cs.vars.items ≡ 0
  narrow = ap (λ (xs : List ℕ). length xs) plain

  two : (c : ℕ) → c < width cs → c < 2
  two c lt = omega (arith, lt, narrow)

  long : (c : ℕ) → c < 2 → length (s.bufs (column cs c)) ≡ length es
  long zero lt = ap (λ (xs : List ℤ). length xs) held.rows ∙ length-map es (plain_value RowIndex)
  long (suc zero) lt = ap (λ (xs : List ℤ). length xs) held.cols ∙ length-map es (plain_value ColIndex)
  long (suc (suc c)) lt = absurd (omega (arith, lt))

  cells : (c x : ℕ) → c < 2 → x < length es → slice_index_or (s.bufs (column cs c)) x (pos 0) ≡ point (pos (entry_at es x).i) (pos (entry_at es x).j) [] c
  cells zero x lt lx = ap (λ (xs : List ℤ). slice_index_or xs x (pos 0)) held.rows ∙ get_or-map (plain_value RowIndex) es x nothing (pos 0) lx
  cells (suc zero) x lt lx = ap (λ (xs : List ℤ). slice_index_or xs x (pos 0)) held.cols ∙ get_or-map (plain_value ColIndex) es x nothing (pos 0) lx
  cells (suc (suc c)) x lt lx = absurd (omega (arith, lt))

  apart : (c : ℕ) → c < 2 → column cs c ≢ n
  apart zero lt q = omega (arith, q, li)
  apart (suc zero) lt q = omega (arith, q, lj)
  apart (suc (suc c)) lt q = omega (arith, lt)

  entries : Entries env cs s.bufs (length es) (λ x. pos (entry_at es x).i) (λ x. pos (entry_at es x).j) (λ x. [])
  entries = record {
    count = count;
    long = λ c lc. long c (two c lc);
    cells = λ c x lc lx. cells c x (two c lc) lx;
    points = at_points;
    variables = λ x lx. sym narrow;
  }

  pub key_does : (rest : Code) (Q : State → Type 0) → (is_index e ≡ false → length (s.bufs n) ≡ length es) → ((u : State) → KeyHeld cs e n es s u → Does env rest u Q) → Does env (key_fill cs e n rest) s Q
  key_does rest Q room go = case (is_index e) refl
    where
      case : (b : Bool) → is_index e ≡ b → Does env (cond b rest (fill cs e n (n + 8) +++ rest)) s Q
      case true p = go s record {
        values = ap (λ (b : Bool). s.bufs (cond b (index_column cs (axis_of e)) n)) p ∙ (index_held s.bufs cs es held (axis_of e) ∙ ap (λ (t : Tree). value_column t es) (sym (index_is e p)));
        others = λ b nb. refl;
        steps = omega arith;
      }
      case false p =
          let f : FillsIn env cs e n (n + 8) (length es) (plain_value_at) s = fills env cs e n (n + 8) (length es) (λ x. pos (entry_at es x).i) (λ x. pos (entry_at es x).j) (λ x. []) s entries (λ c lc. apart c (two c lc)) (room p)
          (subst (λ (k : ℕ). IsWithin k e) (sym narrow) within) few in
          let d = f.filled in
          let u = exec env (fill cs e n (n + 8)) s in
          let cheap : length es * (2 + reading e (width cs)) ≤ length es * 4 = mul-le-mul_left (length es) (omega (arith, reading_few e (width cs), narrow)) in
          let is : KeyHeld cs e n es s u = record {
            values = ap (λ (b : Bool). u.bufs (cond b (index_column cs (axis_of e)) n)) p ∙ column_is (plain_value e) nothing (u.bufs n) es d.long d.cells;
            others = d.others;
            steps = omega (arith, d.steps, cheap);
          } in
          do_append env (fill cs e n (n + 8)) rest s Q (record { post = go u is; calm = f.stuck })
        where
          plain_value_at : ℕ → ℤ
          plain_value_at x = value (pos (entry_at es x).i) (pos (entry_at es x).j) [] e
