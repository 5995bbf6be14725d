-- A loop over the cells of a column counts the entries of a part.
use Rattle.std.specs.Prelude.{slice_index_or}
use Rattle.std.specs.Int.{int_wrap}
use Rattle.std.proofs.Common.{◌≡◌, ◌≢◌, ℕ, suc, ◌+◌, ◌*◌, ◌/◌, ◌%◌, ◌<◌, ◌≤◌, Bool, true, false, nat_eq, refl, sym, ap, ◌∙◌, subst, arith, List, length, pos, negsuc, ℤ, ◌+ℤ◌, ltb}
use Rattle.std.proofs.Math.Nat.{lt_of_mul-lt-mul_right, mul-div_cancel, mod-add-div'}
use Rattle.std.proofs.lemmas.Nat.{mod-mul-add}
use Rattle.std.proofs.lemmas.Bool.Decides.{nat_tests}
use Rattle.std.proofs.lemmas.List.Sums.{count_by-le-length}
use mir.Syntax.{w64}
use Rattle.us_code.specs.declared.program.Dim.TheVariants as dim
use Rattle.us_code.specs.declared.program.Buf.TheVariants as buf
use Rattle.us_code.specs.Plain.{Number, Reg, Add, Rem, Code, End, Put, ◌+++◌}
use Rattle.us_code.specs.Run.{Env, State, value, tick, set_reg, test}
use Rattle.us_code_laws.specs.Does.{Does}
use Rattle.us_code_laws.proofs.Sequence.{put_same, put_other}
use Rattle.us_code_laws.proofs.Does.{do_end, do_weaker, do_load, do_put, do_var, do_for, do_if_yes, do_if_no}
use Rattle.us_format.specs.Lists.{cell}
use Rattle.us_format.specs.Matrix.{Shape, Entry, IsMatrixOf}
use Rattle.us_format.specs.Declaration.{Part}
use Rattle.us_format.specs.Reading.{limit}
use Rattle.us_format.specs.Rules.{IsLawful}
use Rattle.us_format.specs.Laws.{position_of}
use Rattle.us_format_loops.specs.Laws.{values_on}
use Rattle.us_format_loops.proofs.Lawful.{entries-have-one-way}
use Rattle.us_format_loops.proofs.Filled.{last-below}
use Rattle.us_gen.proofs.LevelRuns.{wrap_small}
use Rattle.us_gen_walk.specs.declared.places.Column.{Column}
use Rattle.us_gen_walk.specs.declared.places.Column.TheVariants as column
use Rattle.us_gen_walk.specs.Walk.{unless_zero}
use Rattle.us_gen_walk.specs.Runs.{IsInPack, HasColumn, entries_below}
use Rattle.us_gen_walk.proofs.Ranks.{one_more, no_more, all_below, none_below, not_zero}
use Rattle.us_gen_opening.specs.Opening.{cells_term, count_cell, count_turn, count_cells}
use Rattle.us_gen_opening.specs.Runs.{count_cost}

-- ---- numbers of rows

same_row : (q r w : ℕ) → q * w < r * w + w → r * w < q * w + w → q ≡ r
same_row q r w a b =
    let x : q < r + 1 = lt_of_mul-lt-mul_right w (omega (arith, a)) in
    let y : r < q + 1 = lt_of_mul-lt-mul_right w (omega (arith, b)) in
    omega (arith, x, y)

-- the number whose remainder is the digit
at_digit : (x w d q : ℕ) → x % w ≡ d → x ≤ q * w + d → q * w + d < x + w → x ≡ q * w + d
at_digit x w d q e low high =
    let split : d + x / w * w ≡ x = ap (λ (y : ℕ). y + x / w * w) (sym e) ∙ mod-add-div' x w in
    let row : q ≡ x / w = same_row q (x / w) w (omega (arith, split, high)) (omega (arith, split, low, high)) in
    omega (arith, split, ap (λ (y : ℕ). y * w) row)

other_digit : (x w d q : ℕ) → d < w → x % w ≢ d → x ≤ q * w + d → x + 1 ≤ q * w + d
other_digit x w d q lt ne le = omega (arith, le, differs)
  where
    differs : x ≢ q * w + d
    differs e = ne (ap (λ (y : ℕ). y % w) e ∙ mod-mul-add q w d lt)

nat_same : (a b : ℕ) → nat_eq a b ≡ true → a ≡ b
nat_same a b h = grind (arith, nat_tests)

nat_other : (a b : ℕ) → nat_eq a b ≡ false → a ≢ b
nat_other a b h = grind (arith, nat_tests)

test_zero : (z : ℤ) → test true z (pos 0) ≡ true → z ≡ pos 0
test_zero (pos n) h = ap pos (nat_same n 0 h)
test_zero (negsuc n) h = absurd cc

test_other : (z : ℤ) → test true z (pos 0) ≡ false → z ≢ pos 0
test_other z h = λ e. let t : true ≡ false = ap (λ (y : ℤ). test true y (pos 0)) (sym e) ∙ h in absurd cc

-- ---- as many cells as a term says

pub cells_value : (env : Env) (regs : ℕ → ℤ) (c : Column) (cells : List ℤ) → HasColumn env c cells → value env regs (cells_term c) ≡ pos (length cells)
cells_value env regs (column.Own k) cells h = ap (λ (xs : List ℤ). pos (length xs)) h
cells_value env regs (column.Packed k w digit) cells h =
    let some : 0 < w = omega (arith, h.digit_is) in
    ap (λ (n : ℕ). pos (n / w)) h.long ∙ ap pos (mul-div_cancel (length cells) some)

-- ---- the loops

module _ (env : Env) (s : Shape) (p : Part) (m : List Entry) (la : IsLawful p) (im : IsMatrixOf s m) (few : length m ≤ limit) where
  few_below : (q : ℕ) → entries_below s p m q ≤ limit
  few_below q = omega (arith, few, count_by-le-length (λ y. ltb (position_of s p m y) q) m)

  module _ (n : ℕ) (u : State) where
    -- from u on the entries of the positions below q are counted
    pub record Counted (q cost : ℕ) (v : State) : Type 0 where
      pub counter : v.regs n ≡ pos (entries_below s p m q)
      pub regs : (r : ℕ) → r < n → v.regs r ≡ u.regs r
      pub bufs : v.bufs ≡ u.bufs
      pub steps : v.steps ≤ u.steps + cost + entries_below s p m q

    -- the position q, whose value is read
    value_does : (q cost : ℕ) (v : State) → q < length (values_on s p m) → v.regs (n + 2) ≡ cell (values_on s p m) q → Counted q cost v
        → (t : Bool) → test true (cell (values_on s p m) q) (pos 0) ≡ t → Does env (unless_zero false (n + 2) (Put n (Add (Reg n) (Number 1)) End)) v (Counted (q + 1) (cost + 1))
    value_does q cost v lq made c true e =
        let one = entries-have-one-way s p m la im in
        let none : entries_below s p m (q + 1) ≡ entries_below s p m q =
        no_more s p m la im q (λ x cx eq. not_zero s p m la im x cx (sym (one.value x cx) ∙ (ap (λ (y : ℕ). cell (values_on s p m) y) eq ∙ test_zero (cell (values_on s p m) q) e))) in
        let tested : test true (v.regs (n + 2)) (pos 0) ≡ true = ap (λ (z : ℤ). test true z (pos 0)) made ∙ e in
        do_if_yes env (Reg (n + 2)) true (Number 0) End true (Put n (Add (Reg n) (Number 1)) End) End v (Counted (q + 1) (cost + 1)) tested
        (do_end env (tick 1 v) _ (do_end env (tick 1 v) _ record {
          counter = c.counter ∙ ap pos (sym none);
          regs = c.regs;
          bufs = c.bufs;
          steps = omega (arith, c.steps, none);
        }))
    value_does q cost v lq made c false e =
        let one = entries-have-one-way s p m la im in
        let x = one.entry q lq (test_other (cell (values_on s p m) q) e) in
        let more : entries_below s p m (q + 1) ≡ entries_below s p m q + 1 =
        ap (λ (y : ℕ). entries_below s p m (y + 1)) (sym x.2) ∙ (one_more s p m la im x.0 x.1 ∙ ap (λ (y : ℕ). entries_below s p m y + 1) x.2) in
        let tested : test true (v.regs (n + 2)) (pos 0) ≡ false = ap (λ (z : ℤ). test true z (pos 0)) made ∙ e in
        let v1 = tick 1 v in
        let v2 = set_reg n (int_wrap w64 (v.regs n +ℤ pos 1)) (tick 1 v1) in
        let sum : int_wrap w64 (v.regs n +ℤ pos 1) ≡ pos (entries_below s p m (q + 1)) =
        ap (λ (z : ℤ). int_wrap w64 (z +ℤ pos 1)) c.counter ∙ (wrap_small (entries_below s p m q + 1) (omega (arith, few_below q)) ∙ ap pos (sym more)) in
        let done : Counted (q + 1) (cost + 1) v2 = record {
          counter = put_same v.regs n _ ∙ sum;
          regs = λ r lt. put_other v.regs n _ r (λ h. omega (arith, h, lt)) ∙ c.regs r lt;
          bufs = c.bufs;
          steps = omega (arith, c.steps, more);
        } in
        do_if_no env (Reg (n + 2)) true (Number 0) End true (Put n (Add (Reg n) (Number 1)) End) End v (Counted (q + 1) (cost + 1)) tested
        (do_put env n (Add (Reg n) (Number 1)) End v1 _ (do_end env v2 _ (do_end env v2 _ done)))

    -- the cell of position q, at place x of source k
    cell_does : (k x q cost : ℕ) (v : State) → v.regs (n + 1) ≡ pos x → x < length (env.sources k) → slice_index_or (env.sources k) x (pos 0) ≡ cell (values_on s p m) q → q < length (values_on s p m)
        → Counted q cost v → Does env (count_cell k n) v (Counted (q + 1) (cost + 2))
    cell_does k x q cost v at lt is lq c =
        let v1 = set_reg (n + 2) (slice_index_or (env.sources k) x (pos 0)) (tick 1 v) in
        let c1 : Counted q (cost + 1) v1 = record {
          counter = put_other v.regs (n + 2) _ n (omega arith) ∙ c.counter;
          regs = λ r l. put_other v.regs (n + 2) _ r (λ h. omega (arith, h, l)) ∙ c.regs r l;
          bufs = c.bufs;
          steps = omega (arith, c.steps);
        } in
        let e : cost + 1 + 1 ≡ cost + 2 = omega arith in
        do_load env (n + 2) (buf.Source k) (Reg (n + 1)) _ v _ x at lt
        (subst (λ (y : ℕ). Does env (unless_zero false (n + 2) (Put n (Add (Reg n) (Number 1)) End)) v1 (Counted (q + 1) y)) e
        (value_does q (cost + 1) v1 lq (put_same v.regs (n + 2) _ ∙ is) c1 (test true (cell (values_on s p m) q) (pos 0)) refl))

    -- one turn of the loop, with the place in its register
    placed : (q cost t : ℕ) (v : State) → Counted q cost v → Counted q (cost + 1) (set_reg (n + 1) (pos t) (tick 1 v))
    placed q cost t v c = record {
      counter = put_other v.regs (n + 1) _ n (omega arith) ∙ c.counter;
      regs = λ r l. put_other v.regs (n + 1) _ r (λ h. omega (arith, h, l)) ∙ c.regs r l;
      bufs = c.bufs;
      steps = omega (arith, c.steps);
    }

    counted_as : (q r a b : ℕ) (v : State) → q ≡ r → a ≤ b → Counted q a v → Counted r b v
    counted_as q r a b v e le c = record {
      counter = c.counter ∙ ap (λ (y : ℕ). pos (entries_below s p m y)) e;
      regs = c.regs;
      bufs = c.bufs;
      steps = omega (arith, c.steps, le, ap (λ (y : ℕ). entries_below s p m y) e);
    }

    own_turn : (k : ℕ) → env.sources k ≡ values_on s p m → (t : ℕ) (v : State) → t < length (env.sources k) → Counted t (2 + 3 * t) v
        → Does env (count_turn (column.Own k) n) (set_reg (n + 1) (pos t) (tick 1 v)) (Counted (suc t) (2 + 3 * suc t))
    own_turn k has t v lt c =
        let v1 = set_reg (n + 1) (pos t) (tick 1 v) in
        do_weaker env (count_cell k n) v1 (Counted (t + 1) (2 + 3 * t + 1 + 2)) (Counted (suc t) (2 + 3 * suc t)) (λ z d. counted_as (t + 1) (suc t) (2 + 3 * t + 1 + 2) (2 + 3 * suc t) z (omega arith) (omega arith) d)
        (cell_does k t t (2 + 3 * t + 1) v1 (put_same v.regs (n + 1) _) lt (ap (λ (xs : List ℤ). cell xs t) has) (omega (arith, lt, ap (λ (xs : List ℤ). length xs) has)) (placed t (2 + 3 * t) t v c))

    -- in a pack: q is the first position whose place isn't below t
    record InPack (w digit t : ℕ) (v : State) : Type 0 where
      q : ℕ
      low : t ≤ q * w + digit
      high : q * w + digit < t + w
      counted : Counted q (2 + 2 * t + 2 * q) v

    pack_turn : (k w digit : ℕ) → IsInPack (env.sources k) w digit (values_on s p m) → (t : ℕ) (v : State) → t < length (env.sources k) → InPack w digit t v
        → Does env (count_turn (column.Packed k w digit) n) (set_reg (n + 1) (pos t) (tick 1 v)) (InPack w digit (suc t))
    pack_turn k w digit has t v lt i = by (nat_eq (t % w) digit) refl
      where
        by : (b : Bool) → nat_eq (t % w) digit ≡ b → Does env (count_turn (column.Packed k w digit) n) (set_reg (n + 1) (pos t) (tick 1 v)) (InPack w digit (suc t))
        by true e =
            let tested : test true (value env (set_reg (n + 1) (pos t) (tick 1 v)).regs (Rem (Reg (n + 1)) w)) (pos digit) ≡ true =
            ap (λ (z : ℤ). test true (value env (λ (r : ℕ). z) (Rem (Reg (n + 1)) w)) (pos digit)) (put_same v.regs (n + 1) (pos t)) ∙ e in
            let at : t ≡ i.q * w + digit = at_digit t w digit i.q (nat_same (t % w) digit e) i.low i.high in
            let lq : i.q < length (values_on s p m) = lt_of_mul-lt-mul_right w (omega (arith, at, lt, has.long)) in
            let c1 : Counted i.q (2 + 2 * t + 2 * i.q + 1) (set_reg (n + 1) (pos t) (tick 1 v)) = placed i.q (2 + 2 * t + 2 * i.q) t v i.counted in
            let c2 : Counted i.q (2 + 2 * t + 2 * i.q + 2) (tick 1 (set_reg (n + 1) (pos t) (tick 1 v))) = record { counter = c1.counter; regs = c1.regs; bufs = c1.bufs; steps = omega (arith, c1.steps) } in
            do_if_yes env (Rem (Reg (n + 1)) w) true (Number digit) (count_cell k n) false End End (set_reg (n + 1) (pos t) (tick 1 v)) (InPack w digit (suc t)) tested
            (do_weaker env (count_cell k n) (tick 1 (set_reg (n + 1) (pos t) (tick 1 v))) (Counted (i.q + 1) (2 + 2 * t + 2 * i.q + 2 + 2)) _
            (λ z d. do_end env z _ (record {
              q = i.q + 1;
              low = omega (arith, at, has.digit_is);
              high = omega (arith, at);
              counted = counted_as (i.q + 1) (i.q + 1) (2 + 2 * t + 2 * i.q + 2 + 2) (2 + 2 * suc t + 2 * (i.q + 1)) z refl (omega arith) d;
            }))
            (cell_does k t i.q (2 + 2 * t + 2 * i.q + 2) (tick 1 (set_reg (n + 1) (pos t) (tick 1 v))) (put_same v.regs (n + 1) _) lt
            (ap (λ (y : ℕ). cell (env.sources k) y) at ∙ has.each i.q lq) lq c2))
        by false e =
            let tested : test true (value env (set_reg (n + 1) (pos t) (tick 1 v)).regs (Rem (Reg (n + 1)) w)) (pos digit) ≡ false =
            ap (λ (z : ℤ). test true (value env (λ (r : ℕ). z) (Rem (Reg (n + 1)) w)) (pos digit)) (put_same v.regs (n + 1) (pos t)) ∙ e in
            let c1 : Counted i.q (2 + 2 * t + 2 * i.q + 1) (set_reg (n + 1) (pos t) (tick 1 v)) = placed i.q (2 + 2 * t + 2 * i.q) t v i.counted in
            let up : t + 1 ≤ i.q * w + digit = other_digit t w digit i.q has.digit_is (nat_other (t % w) digit e) i.low in
            let z = tick 1 (set_reg (n + 1) (pos t) (tick 1 v)) in
            do_if_no env (Rem (Reg (n + 1)) w) true (Number digit) (count_cell k n) false End End (set_reg (n + 1) (pos t) (tick 1 v)) (InPack w digit (suc t)) tested
            (do_end env z _ (do_end env z _ (record {
              q = i.q;
              low = omega (arith, up);
              high = omega (arith, i.high);
              counted = record { counter = c1.counter; regs = c1.regs; bufs = c1.bufs; steps = omega (arith, c1.steps) };
            })))

    -- where all entries are counted
    all_counted : (q cost : ℕ) (v : State) → q ≡ length (values_on s p m) → Counted q cost v → (v.regs n ≡ pos (length m)) × (v.steps ≤ u.steps + cost + length m)
    all_counted q cost v e c =
        let all : entries_below s p m q ≡ length m = all_below s p m la im q (λ x cx. omega (arith, e, last-below s p m la im x cx)) in
        (c.counter ∙ ap pos all, omega (arith, c.steps, all))

    pub cells_do : (c : Column) (rest : Code) (Q : State → Type 0) → HasColumn env c (values_on s p m)
        → ((v : State) → v.regs n ≡ pos (length m) → ((r : ℕ) → r < n → v.regs r ≡ u.regs r) → v.bufs ≡ u.bufs → v.steps ≤ u.steps + count_cost env c (length (values_on s p m)) (length m) → Does env rest v Q)
        → Does env (count_cells c n +++ rest) u Q
    cells_do (column.Own k) rest Q has then =
        let u1 = set_reg n (pos 0) (tick 1 u) in
        let none : entries_below s p m 0 ≡ 0 = none_below s p m la im in
        let long : length (env.sources k) ≡ length (values_on s p m) = ap (λ (xs : List ℤ). length xs) has in
        do_var env n (Number 0) _ u Q
        (do_for env (n + 1) (dim.Len k) (count_turn (column.Own k) n) rest u1 Q (λ t v. Counted t (2 + 3 * t) v)
        (record {
          counter = put_same u.regs n (pos 0) ∙ ap pos (sym none);
          regs = λ r l. put_other u.regs n _ r (λ h. omega (arith, h, l));
          bufs = refl;
          steps = omega (arith, none);
        })
        (λ t v lt c. own_turn k has t v lt c)
        (λ v c. let a = all_counted (length (env.sources k)) (2 + 3 * length (env.sources k)) v long c in then v a.0 c.regs c.bufs (omega (arith, a.1, long))))
    cells_do (column.Packed k w digit) rest Q has then =
        let u1 = set_reg n (pos 0) (tick 1 u) in
        let none : entries_below s p m 0 ≡ 0 = none_below s p m la im in
        do_var env n (Number 0) _ u Q
        (do_for env (n + 1) (dim.Len k) (count_turn (column.Packed k w digit) n) rest u1 Q (λ t v. InPack w digit t v)
        (record {
          q = 0;
          low = omega arith;
          high = omega (arith, has.digit_is);
          counted = record {
            counter = put_same u.regs n (pos 0) ∙ ap pos (sym none);
            regs = λ r l. put_other u.regs n _ r (λ h. omega (arith, h, l));
            bufs = refl;
            steps = omega (arith, none);
          };
        })
        (λ t v lt i. pack_turn k w digit has t v lt i)
        (λ v i.
        let end : i.q ≡ length (values_on s p m) = same_row i.q (length (values_on s p m)) w (omega (arith, i.high, has.long)) (omega (arith, i.low, has.long, has.digit_is)) in
        let a = all_counted i.q (2 + 2 * length (env.sources k) + 2 * i.q) v end i.counted in
        then v a.0 i.counted.regs i.counted.bufs (omega (arith, a.1, end))))
