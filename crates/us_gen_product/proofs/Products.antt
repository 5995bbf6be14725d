-- What the products of one entry add.
use Rattle.std.specs.Prelude.{slice_set}
use Rattle.std.specs.Int.{int_wrap}
use mir.Syntax.{w64}
use Rattle.std.proofs.Common.{◌≡◌, ◌≢◌, ℕ, suc, ◌+◌, ◌*◌, ◌^◌, ◌<◌, ◌≤◌, Bool, true, false, cond, nat_lt, nat_eq, List, length, ℤ, pos, ◌+ℤ◌, ◌*ℤ◌, Option, Some, None, ◌⊎◌, inl, inr, refl, sym, ap, ap₂, ◌∙◌, subst, arith, mul-le-mul_right}
use Rattle.std.proofs.Math.IntN.{+ℤ_idr}
use Rattle.std.proofs.lemmas.Bool.{cases_eq, cases_order}
use Rattle.std.proofs.lemmas.Bool.Decides.{nat_tests}
use Rattle.std.proofs.lemmas.Grind.{get_or-set_at}
use Rattle.std.proofs.lemmas.Int.{int_wrap-add_left, int_wrap-add_right}
use Rattle.std.proofs.lemmas.List.{length-set, get_or-set_other}
use Rattle.us_code.specs.declared.program.Buf.TheVariants as buf
use Rattle.us_code.specs.declared.program.Dim.TheVariants as dim
use Rattle.us_code.specs.Plain.{TermTree, Reg, Add, Mul, End, For}
use Rattle.us_code.specs.Run.{Env, State, value, tick, set_reg, set_buf}
use Rattle.us_code_laws.specs.Does.{Does}
use Rattle.us_code_laws.proofs.Does.{do_end, do_weaker, do_load, do_set, do_when, do_for}
use Rattle.us_code_laws.proofs.Sequence.{put_same, put_other}
use Rattle.us_format.specs.Lists.{cell}
use Rattle.us_format.specs.Matrix.{Entry}
use Rattle.us_gen.proofs.LevelRuns.{wrap_small}
use Rattle.us_gen_product.specs.declared.product.Product.{Product}
use Rattle.us_gen_product.specs.Dense.{column, adds}
use Rattle.us_gen_product.specs.Product.{is_vector, result_length, in_column, add_to_cell, add_product, add_products}
use Rattle.us_gen_product.specs.Runs.{entry_steps}

-- ---- places

-- a cell of a column is below the cells of all columns
pub in_columns : (n m k i : ℕ) → k < m → i < n → k * n + i < n * m
in_columns n m k i lk li = omega (arith, mul-le-mul_right n lk, li)

-- cells of different columns are different
pub same_column : (n a b i j : ℕ) → i < n → j < n → a * n + i ≡ b * n + j → a ≡ b
same_column n a b i j li lj e = by (cases_order a b)
  where
    by : (a ≡ b) ⊎ ((a < b) ⊎ (b < a)) → a ≡ b
    by (inl q) = q
    by (inr (inl lt)) = absurd (omega (arith, mul-le-mul_right n lt, e, li, lj))
    by (inr (inr lt)) = absurd (omega (arith, mul-le-mul_right n lt, e, li, lj))

same_nat : (k : ℕ) → nat_eq k k ≡ true
same_nat k = grind (arith, nat_tests)

other_nat : (a b : ℕ) → a ≢ b → nat_eq a b ≡ false
other_nat a b n = grind (arith, nat_tests)

is_one : (n : ℕ) → nat_eq n 1 ≡ true → n ≡ 1
is_one n h = grind (arith, nat_tests)

-- ---- what an entry adds

pub adds_own : (x : ℕ → ℤ) (y : Entry) → adds x y.i y ≡ y.v *ℤ x y.j
adds_own x y = ap (λ (b : Bool). cond b (y.v *ℤ x y.j) (pos 0)) (same_nat y.i)

pub adds_none : (x : ℕ → ℤ) (i : ℕ) (y : Entry) → i ≢ y.i → adds x i y ≡ pos 0
adds_none x i y n = ap (λ (b : Bool). cond b (y.v *ℤ x y.j) (pos 0)) (other_nat y.i i (λ e. n (sym e)))

-- the cells of the result are these sums, modulo 2^64
pub record Sums (p : Product) (f : ℕ → ℕ → ℤ) (ys : List ℤ) : Type 0 where
  pub long : length ys ≡ p.rows * p.columns
  pub each : (k i : ℕ) → k < p.columns → i < p.rows → cell ys (k * p.rows + i) ≡ int_wrap w64 (f k i)

pub sums_as : (p : Product) (f g : ℕ → ℕ → ℤ) (ys : List ℤ) → ((k i : ℕ) → k < p.columns → i < p.rows → f k i ≡ g k i) → Sums p f ys → Sums p g ys
sums_as p f g ys h s = record { long = s.long; each = λ k i lk li. s.each k i lk li ∙ ap (int_wrap w64) (h k i lk li) }

-- one cell changes
set_cell : (p : Product) (f g : ℕ → ℕ → ℤ) (k i : ℕ) (v : ℤ) (ys : List ℤ) → k < p.columns → i < p.rows → Sums p f ys → v ≡ int_wrap w64 (g k i)
    → ((a b : ℕ) → a < p.columns → b < p.rows → (a ≢ k) ⊎ (b ≢ i) → f a b ≡ g a b) → Sums p g (slice_set ys (k * p.rows + i) v)
set_cell p f g k i v ys lk li s e other = record {
  long = length-set ys (k * p.rows + i) v ∙ s.long;
  each = λ a b la lb. by a b la lb (cases_eq a k) (cases_eq b i);
}
  where
    by : (a b : ℕ) → a < p.columns → b < p.rows → (a ≡ k) ⊎ (a ≢ k) → (b ≡ i) ⊎ (b ≢ i) → cell (slice_set ys (k * p.rows + i) v) (a * p.rows + b) ≡ int_wrap w64 (g a b)
    by a b la lb (inl ea) (inl eb) =
        get_or-set_at ys (k * p.rows + i) (a * p.rows + b) v (pos 0) (ap₂ (λ (x y : ℕ). x * p.rows + y) ea eb) (omega (arith, s.long, in_columns p.rows p.columns k i lk li))
        ∙ (e ∙ ap₂ (λ (x y : ℕ). int_wrap w64 (g x y)) (sym ea) (sym eb))
    by a b la lb (inl ea) (inr nb) =
        get_or-set_other ys (k * p.rows + i) (a * p.rows + b) v (pos 0) (λ h. nb (omega (arith, h, ap (λ (x : ℕ). x * p.rows) ea)))
        ∙ (s.each a b la lb ∙ ap (int_wrap w64) (other a b la lb (inr nb)))
    by a b la lb (inr na) eb =
        get_or-set_other ys (k * p.rows + i) (a * p.rows + b) v (pos 0) (λ h. na (same_column p.rows a k b i lb li (omega (arith, h))))
        ∙ (s.each a b la lb ∙ ap (int_wrap w64) (other a b la lb (inl na)))

-- ---- the block

-- the number of the column
abbrev ColumnIs : Option ℕ → ℕ → ℕ → (ℕ → ℤ) → Type 0
ColumnIs None c n regs = c ≡ 0
ColumnIs (Some r) c n regs = (r < n) × (regs r ≡ pos c)

-- registers below n are the same
abbrev pub Agree : ℕ → (ℕ → ℤ) → (ℕ → ℤ) → Type 0
Agree n f g = (r : ℕ) → r < n → g r ≡ f r

column_value : (env : Env) (k : Option ℕ) (c n size at : ℕ) (e : TermTree) (regs h : ℕ → ℤ) → ColumnIs k c n regs → Agree n regs h → value env h e ≡ pos at → c * size + at < 2 ^ 63 → value env h (in_column k size e) ≡ pos (c * size + at)
column_value env None c n size at e regs h is same v small = v ∙ ap pos (omega (arith, ap (λ (x : ℕ). x * size) is))
column_value env (Some r) c n size at e regs h is same v small =
    ap₂ (λ (x y : ℤ). int_wrap w64 (int_wrap w64 (x *ℤ pos size) +ℤ y)) (same r is.0 ∙ is.1) v
    ∙ (ap (λ (x : ℤ). int_wrap w64 (x +ℤ pos at)) (wrap_small (c * size) (omega (arith, small))) ∙ wrap_small (c * size + at) small)

-- from u to v the sums became those of g
pub record Added (p : Product) (g : ℕ → ℕ → ℤ) (n cost : ℕ) (u v : State) : Type 0 where
  pub sums : Sums p g (v.bufs p.result)
  pub others : (b : ℕ) → p.result ≢ b → v.bufs b ≡ u.bufs b
  pub steps : v.steps ≤ u.steps + cost
  pub regs : Agree n u.regs v.regs

module _ (env : Env) (p : Product) (long : length (env.sources p.operand) ≡ p.inner * p.columns) (small : p.inner * p.columns < 2 ^ 63) (few : p.rows * p.columns < 2 ^ 63) where
  product_does : (k : Option ℕ) (c i j : ℕ) (row col : TermTree) (val n : ℕ) (f g : ℕ → ℕ → ℤ) (u : State) → ColumnIs k c n u.regs → c < p.columns → i < p.rows → j < p.inner → val < n
      → ((h : ℕ → ℤ) → Agree n u.regs h → value env h row ≡ pos i) → ((h : ℕ → ℤ) → Agree n u.regs h → value env h col ≡ pos j) → Sums p f (u.bufs p.result)
      → g c i ≡ f c i +ℤ u.regs val *ℤ cell (env.sources p.operand) (c * p.inner + j) → ((a b : ℕ) → a < p.columns → b < p.rows → (a ≢ c) ⊎ (b ≢ i) → f a b ≡ g a b)
      → Does env (add_product p k row col val n) u (Added p g n 5 u)
  product_does k c i j row col val n f g u is lc li lj lv rows cols sums own other =
      let a : ℕ = c * p.inner + j in
      let b : ℕ = c * p.rows + i in
      let x : ℤ = cell (env.sources p.operand) a in
      let s1 : State = set_reg n (pos a) (tick 1 u) in
      let s2 : State = set_reg (n + 1) x (tick 1 s1) in
      let s3 : State = set_reg (n + 2) (pos b) (tick 1 s2) in
      let s4 : State = set_reg (n + 3) (cell (u.bufs p.result) b) (tick 1 s3) in
      let sum : TermTree = Add (Reg (n + 3)) (Mul (Reg val) (Reg (n + 1))) in
      let s5 : State = set_buf p.result (slice_set (u.bufs p.result) b (value env s4.regs sum)) (tick 1 s4) in
      let a1 : Agree n u.regs s1.regs = λ r l. put_other u.regs n _ r (omega (arith, l)) in
      let a2 : Agree n u.regs s2.regs = λ r l. put_other s1.regs (n + 1) _ r (omega (arith, l)) ∙ a1 r l in
      let a3 : Agree n u.regs s3.regs = λ r l. put_other s2.regs (n + 2) _ r (omega (arith, l)) ∙ a2 r l in
      let a4 : Agree n u.regs s4.regs = λ r l. put_other s3.regs (n + 3) _ r (omega (arith, l)) ∙ a3 r l in
      let la : a < p.inner * p.columns = in_columns p.inner p.columns c j lc lj in
      let lb : b < p.rows * p.columns = in_columns p.rows p.columns c i lc li in
      let at : value env u.regs (in_column k p.inner col) ≡ pos a = column_value env k c n p.inner j col u.regs u.regs is (λ r l. refl) (cols u.regs (λ r l. refl)) (omega (arith, la, small)) in
      let place : value env s2.regs (in_column k p.rows row) ≡ pos b = column_value env k c n p.rows i row u.regs s2.regs is a2 (rows s2.regs a2) (omega (arith, lb, few)) in
      let factor : s4.regs (n + 1) ≡ x = put_other s3.regs (n + 3) _ (n + 1) (omega arith) ∙ (put_other s2.regs (n + 2) _ (n + 1) (omega arith) ∙ put_same s1.regs (n + 1) _) in
      let old : s4.regs (n + 3) ≡ int_wrap w64 (f c i) = put_same s3.regs (n + 3) _ ∙ sums.each c i lc li in
      let new : value env s4.regs sum ≡ int_wrap w64 (g c i) =
      ap₂ (λ (y z : ℤ). int_wrap w64 (y +ℤ int_wrap w64 z)) old (ap₂ (λ (y z : ℤ). y *ℤ z) (a4 val lv) factor)
      ∙ (int_wrap-add_left w64 (f c i) (int_wrap w64 (u.regs val *ℤ x)) ∙ (int_wrap-add_right w64 (f c i) (u.regs val *ℤ x) ∙ ap (int_wrap w64) (sym own))) in
      let done : Added p g n 5 u s5 = record {
        sums = subst (Sums p g) (sym (put_same u.bufs p.result _)) (set_cell p f g c i (value env s4.regs sum) (u.bufs p.result) lc li sums new other);
        others = λ y q. put_other u.bufs p.result _ y q;
        steps = omega arith;
        regs = a4;
      } in
      let cell_at : value env s4.regs (Reg (n + 2)) ≡ pos b = put_other s3.regs (n + 3) _ (n + 2) (omega arith) ∙ put_same s2.regs (n + 2) _ in
      do_when env (in_column k p.inner col) (dim.Len p.operand) n _ false End End u (Added p g n 5 u) a at (omega (arith, la, long))
      (do_load env (n + 1) (buf.Source p.operand) (Reg n) _ s1 _ a (put_same u.regs n _) (omega (arith, la, long))
      (do_when env (in_column k p.rows row) (result_length p) (n + 2) (add_to_cell p val n) false End End s2 _ b place lb
      (do_load env (n + 3) (buf.New p.result) (Reg (n + 2)) _ s3 _ b (put_same s2.regs (n + 2) _) (omega (arith, lb, sums.long))
      (do_set env p.result (Reg (n + 2)) sum End s4 _ b cell_at (omega (arith, lb, sums.long)) (do_end env s5 _ (do_end env s5 _ (do_end env s5 _ done)))))))

  -- the sums with those of one more entry
  abbrev pub more : (ℕ → ℕ → ℤ) → Entry → ℕ → ℕ → ℤ
  more f y k i = f k i +ℤ adds (column (env.sources p.operand) p.inner k) i y

  -- with those of the first t columns
  abbrev so_far : (ℕ → ℕ → ℤ) → Entry → ℕ → ℕ → ℕ → ℤ
  so_far f y t k i = f k i +ℤ cond (nat_lt k t) (adds (column (env.sources p.operand) p.inner k) i y) (pos 0)

  so_far_later : (f : ℕ → ℕ → ℤ) (y : Entry) (t k i : ℕ) → k < t → so_far f y t k i ≡ more f y k i
  so_far_later f y t k i lt =
      let h : nat_lt k t ≡ true = grind (arith, nat_tests) in
      ap (λ (b : Bool). f k i +ℤ cond b (adds (column (env.sources p.operand) p.inner k) i y) (pos 0)) h

  so_far_before : (f : ℕ → ℕ → ℤ) (y : Entry) (t k i : ℕ) → t ≤ k → so_far f y t k i ≡ f k i
  so_far_before f y t k i le =
      let h : nat_lt k t ≡ false = grind (arith, nat_tests) in
      ap (λ (b : Bool). f k i +ℤ cond b (adds (column (env.sources p.operand) p.inner k) i y) (pos 0)) h ∙ +ℤ_idr (f k i)

  so_far_none : (f : ℕ → ℕ → ℤ) (y : Entry) (t k i : ℕ) → i ≢ y.i → so_far f y t k i ≡ f k i
  so_far_none f y t k i n = ap (λ (z : ℤ). f k i +ℤ z) (by (nat_lt k t)) ∙ +ℤ_idr (f k i)
    where
      by : (b : Bool) → cond b (adds (column (env.sources p.operand) p.inner k) i y) (pos 0) ≡ pos 0
      by true = adds_none (column (env.sources p.operand) p.inner k) i y n
      by false = refl

  so_far_apart : (f : ℕ → ℕ → ℤ) (y : Entry) (t k i : ℕ) → (k ≢ t) ⊎ (i ≢ y.i) → so_far f y t k i ≡ so_far f y (suc t) k i
  so_far_apart f y t k i (inl n) = by (cases_order k t)
    where
      by : (k ≡ t) ⊎ ((k < t) ⊎ (t < k)) → so_far f y t k i ≡ so_far f y (suc t) k i
      by (inl e) = absurd (n e)
      by (inr (inl lt)) = so_far_later f y t k i lt ∙ sym (so_far_later f y (suc t) k i (omega (arith, lt)))
      by (inr (inr lt)) = so_far_before f y t k i (omega (arith, lt)) ∙ sym (so_far_before f y (suc t) k i (omega (arith, lt)))
  so_far_apart f y t k i (inr n) = so_far_none f y t k i n ∙ sym (so_far_none f y (suc t) k i n)

  module _ (y : Entry) (row col : TermTree) (val n : ℕ) (f : ℕ → ℕ → ℤ) (u : State) (li : y.i < p.rows) (lj : y.j < p.inner) (lv : val < n)
      (rows : (h : ℕ → ℤ) → Agree n u.regs h → value env h row ≡ pos y.i) (cols : (h : ℕ → ℤ) → Agree n u.regs h → value env h col ≡ pos y.j) (held : u.regs val ≡ y.v) (sums : Sums p f (u.bufs p.result)) where
    -- one column alone
    vector_does : p.columns ≡ 1 → Does env (add_product p None row col val (n + 1)) u (Added p (more f y) n 5 u)
    vector_does one =
        do_weaker env (add_product p None row col val (n + 1)) u _ _
        (λ v d. record { sums = d.sums; others = d.others; steps = d.steps; regs = λ r l. d.regs r (omega (arith, l)) })
        (product_does None 0 y.i y.j row col val (n + 1) f (more f y) u refl (omega (arith, one)) li lj (omega (arith, lv)) (λ h same. rows h (λ r l. same r (omega (arith, l)))) (λ h same. cols h (λ r l. same r (omega (arith, l)))) sums
        (ap (λ (z : ℤ). f 0 y.i +ℤ z) (adds_own (column (env.sources p.operand) p.inner 0) y ∙ ap (λ (z : ℤ). z *ℤ cell (env.sources p.operand) (0 * p.inner + y.j)) (sym held)))
        (λ a b la lb apart. stays a b la apart))
      where
        stays : (a b : ℕ) → a < p.columns → (a ≢ 0) ⊎ (b ≢ y.i) → f a b ≡ more f y a b
        stays a b la (inl q) = absurd (q (omega (arith, la, one)))
        stays a b la (inr q) = sym (ap (λ (z : ℤ). f a b +ℤ z) (adds_none (column (env.sources p.operand) p.inner a) b y q) ∙ +ℤ_idr (f a b))

    -- a turn of the loop over columns
    turn_does : (t : ℕ) (w : State) → t < p.columns → Added p (so_far f y t) n (1 + 6 * t) u w → Does env (add_product p (Some n) row col val (n + 1)) (set_reg n (pos t) (tick 1 w)) (Added p (so_far f y (suc t)) n (1 + 6 * suc t) u)
    turn_does t w lt d =
        let z : State = set_reg n (pos t) (tick 1 w) in
        let kept : Agree n u.regs z.regs = λ r l. put_other w.regs n _ r (omega (arith, l)) ∙ d.regs r l in
        do_weaker env (add_product p (Some n) row col val (n + 1)) z _ _
        (λ v x. record { sums = x.sums; others = λ b q. x.others b q ∙ d.others b q; steps = omega (arith, x.steps, d.steps); regs = λ r l. x.regs r (omega (arith, l)) ∙ kept r l })
        (product_does (Some n) t y.i y.j row col val (n + 1) (so_far f y t) (so_far f y (suc t)) z (omega arith, put_same w.regs n _) lt li lj (omega (arith, lv))
        (λ h same. rows h (λ r l. same r (omega (arith, l)) ∙ kept r l)) (λ h same. cols h (λ r l. same r (omega (arith, l)) ∙ kept r l)) d.sums
        (so_far_later f y (suc t) t y.i (omega arith)
        ∙ ap₂ (λ (x z : ℤ). x +ℤ z) (sym (so_far_before f y t t y.i (omega arith))) (adds_own (column (env.sources p.operand) p.inner t) y ∙ ap (λ (z : ℤ). z *ℤ cell (env.sources p.operand) (t * p.inner + y.j)) (sym (kept val lv ∙ held))))
        (λ a b la lb apart. so_far_apart f y t a b apart))

    pub entry_does : Does env (add_products p row col val n) u (Added p (more f y) n (entry_steps p) u)
    entry_does = by (is_vector p) refl
      where
        by : (b : Bool) → is_vector p ≡ b
            → Does env (cond b (add_product p None row col val (n + 1)) (For n (dim.Number p.columns) (add_product p (Some n) row col val (n + 1)) End)) u (Added p (more f y) n (cond b 5 (1 + 6 * p.columns)) u)
        by true e = vector_does (is_one p.columns e)
        by false e =
            do_for env n (dim.Number p.columns) (add_product p (Some n) row col val (n + 1)) End u _ (λ t w. Added p (so_far f y t) n (1 + 6 * t) u w)
            (record { sums = sums_as p f (so_far f y 0) (u.bufs p.result) (λ k i lk l. sym (so_far_before f y 0 k i (omega arith))) sums; others = λ b q. refl; steps = omega arith; regs = λ r l. refl })
            (λ t w lt d. turn_does t w lt d)
            (λ w d. do_end env w _ record { sums = sums_as p (so_far f y p.columns) (more f y) (w.bufs p.result) (λ k i lk l. so_far_later f y p.columns k i lk) d.sums; others = d.others; steps = d.steps; regs = d.regs })
