-- The result is the sum over the entries of all parts.
use Rattle.std.specs.Prelude.{Contains}
use Rattle.std.specs.Int.{int_wrap}
use mir.Syntax.{w64}
use Rattle.std.proofs.Common.{◌≡◌, ◌≢◌, ℕ, ◌+◌, ◌*◌, ◌^◌, ◌<◌, ◌≤◌, Bool, true, false, cond, nat_lt, List, [], ◌∷◌, map, length, replicate, ℤ, pos, ◌+ℤ◌, ◌⊎◌, inl, inr, refl, sym, ap, ◌∙◌, subst, arith}
use Rattle.std.proofs.Math.IntN.{+ℤ_assoc, +ℤ_idl, +ℤ_idr}
use Rattle.std.proofs.lemmas.Bool.{cases_order}
use Rattle.std.proofs.lemmas.Bool.Decides.{nat_tests}
use Rattle.std.proofs.lemmas.List.{length-replicate, get_or-replicate}
use Rattle.us_code.specs.Plain.{Code}
use Rattle.us_code.specs.Run.{Env, State}
use Rattle.us_code.specs.Runs.{World, phases, make_all, begin}
use Rattle.us_code_laws.specs.Does.{Does}
use Rattle.us_code_laws.proofs.Does.{do_end, do_weaker, do_append}
use Rattle.us_code_laws.proofs.Sequence.{put_same}
use Rattle.us_format.specs.Lists.{cell}
use Rattle.us_format.specs.Matrix.{Shape, Entry}
use Rattle.us_format.proofs.Members.{contains-Mem, Mem-contains, all-Mem}
use Rattle.us_format.proofs.Collect.{Distinct}
use Rattle.us_format.proofs.Lawful.{row-major}
use Rattle.us_format_loops.specs.Laws.{values_on}
use Rattle.us_format_loops.proofs.Counts.{distinct-entries}
use Rattle.us_gen.specs.Nest.{Same}
use Rattle.us_gen.specs.Goes.{Leads, after, made}
use Rattle.us_gen.proofs.Going.{leads_none, Body, phase_leads, new_leads}
use Rattle.us_gen.proofs.LevelRuns.{wrap_small}
use Rattle.us_gen_walk.specs.Walk.{value_register, index_term, end}
use Rattle.us_gen_walk.specs.Runs.{rank_of, Shows, walk_cost, HaveRanks}
use Rattle.us_gen_walk.proofs.Ranks.{entries_have_ranks}
use Rattle.us_gen_walk.proofs.WalkRuns.{walk_does}
use Rattle.us_gen_unpack.specs.Runs.{Listed, IsListable, AreListable}
use Rattle.us_gen_product.specs.declared.product.Product.{Product}
use Rattle.us_gen_product.specs.Dense.{sum_over, column, adds}
use Rattle.us_gen_product.specs.Product.{cells, add_products, add_part, end_of_part, add_parts, made_result, product_phase}
use Rattle.us_gen_product.specs.Runs.{sum_of_parts, IsProductOn, HoldsProduct, entry_steps, product_cost, ProductsAdd}
use Rattle.us_gen_product.proofs.Products.{Sums, sums_as, in_columns, more, entry_does}
use Rattle.us_gen_product.proofs.Sums.{sum-same, sum-zero, sum-one}

-- what counts of an entry whose rank is below t
abbrev if_below : ℕ → ℕ → ℤ → ℤ
if_below rank t z = cond (nat_lt rank t) z (pos 0)

below_yes : (r t : ℕ) (z : ℤ) → r < t → if_below r t z ≡ z
below_yes r t z lt = let h : nat_lt r t ≡ true = grind (arith, nat_tests) in ap (λ (b : Bool). cond b z (pos 0)) h

below_no : (r t : ℕ) (z : ℤ) → t ≤ r → if_below r t z ≡ pos 0
below_no r t z le = let h : nat_lt r t ≡ false = grind (arith, nat_tests) in ap (λ (b : Bool). cond b z (pos 0)) h

below_other : (r t : ℕ) (z : ℤ) → r ≢ t → if_below r (t + 1) z ≡ if_below r t z
below_other r t z n = by (cases_order r t)
  where
    by : (r ≡ t) ⊎ ((r < t) ⊎ (t < r)) → if_below r (t + 1) z ≡ if_below r t z
    by (inl e) = absurd (n e)
    by (inr (inl lt)) = below_yes r (t + 1) z (omega (arith, lt)) ∙ sym (below_yes r t z lt)
    by (inr (inr lt)) = below_no r (t + 1) z (omega (arith, lt)) ∙ sym (below_no r t z (omega (arith, lt)))

module _ (env : Env) (s : Shape) (p : Product) (on : IsProductOn env s p) where
  long : length (env.sources p.operand) ≡ p.inner * p.columns
  long = on.long ∙ ap (λ (x : ℕ). x * p.columns) (sym on.inner)

  small : p.inner * p.columns < 2 ^ 63
  small = omega (arith, on.short, ap (λ (x : ℕ). x * p.columns) on.inner)

  few : p.rows * p.columns ≤ 67108865
  few = omega (arith, on.few, ap (λ (x : ℕ). x * p.columns) on.rows)

  short : p.rows * p.columns < 2 ^ 63
  short = omega (arith, few)

  -- what an entry adds to row i of column k
  abbrev adds_at : ℕ → ℕ → Entry → ℤ
  adds_at k i y = adds (column (env.sources p.operand) p.inner k) i y

  abbrev with_all : (ℕ → ℕ → ℤ) → List Entry → ℕ → ℕ → ℤ
  with_all f m k i = f k i +ℤ sum_over (adds_at k i) m

  -- ---- a part

  module _ (x : Listed) (ok : IsListable env s x) (n : ℕ) (f : ℕ → ℕ → ℤ) (z : State) where
    abbrev rank : Entry → ℕ
    rank y = rank_of s x.part x.entries y

    ranks : HaveRanks s x.part x.entries
    ranks = entries_have_ranks s x.part x.entries ok.lawful ok.matrix

    distinct : Distinct x.entries
    distinct = distinct-entries x.entries (row-major x.entries ok.matrix.sorted)

    -- with the first t entries
    abbrev with_first : ℕ → ℕ → ℕ → ℤ
    with_first t k i = f k i +ℤ sum_over (λ y. if_below (rank y) t (adds_at k i y)) x.entries

    first_none : (k i : ℕ) → f k i ≡ with_first 0 k i
    first_none k i = sym (ap (λ (a : ℤ). f k i +ℤ a) (sum-zero (λ y. if_below (rank y) 0 (adds_at k i y)) x.entries (λ y my. below_no (rank y) 0 (adds_at k i y) (omega arith))) ∙ +ℤ_idr (f k i))

    first_all : (k i : ℕ) → with_first (length x.entries) k i ≡ with_all f x.entries k i
    first_all k i =
        ap (λ (a : ℤ). f k i +ℤ a)
        (sum-same (λ y. if_below (rank y) (length x.entries) (adds_at k i y)) (adds_at k i) x.entries
        (λ y my. below_yes (rank y) (length x.entries) (adds_at k i y) (ranks.below y (Mem-contains x.entries y my))))

    first_more : (y : Entry) → Contains x.entries y → (k i : ℕ) → with_first (rank y) k i +ℤ adds_at k i y ≡ with_first (rank y + 1) k i
    first_more y cy k i =
        +ℤ_assoc (f k i) (sum_over (λ a. if_below (rank a) (rank y) (adds_at k i a)) x.entries) (adds_at k i y)
        ∙ sym (ap (λ (a : ℤ). f k i +ℤ a)
        (sum-one (λ a. if_below (rank a) (rank y + 1) (adds_at k i a)) (λ a. if_below (rank a) (rank y) (adds_at k i a)) y (adds_at k i y) x.entries distinct (contains-Mem x.entries y cy)
        (λ a ma ne. below_other (rank a) (rank y) (adds_at k i a) (λ e. ne (ranks.apart a y (Mem-contains x.entries a ma) cy e)))
        (below_yes (rank y) (rank y + 1) (adds_at k i y) (omega arith) ∙ sym (ap (λ (a : ℤ). a +ℤ adds_at k i y) (below_no (rank y) (rank y) (adds_at k i y) (omega arith)) ∙ +ℤ_idl (adds_at k i y)))))

    record Partly (t : ℕ) (u : State) : Type 0 where
      sums : Sums p (with_first t) (u.bufs p.result)
      others : (b : ℕ) → p.result ≢ b → u.bufs b ≡ z.bufs b

    abbrev e : ℕ
    e = end x.loops.places x.loops.steps.items n

    abbrev block : Code
    block =
        add_products p (index_term x.loops.places x.loops.steps.items n x.loops.row) (index_term x.loops.places x.loops.steps.items n x.loops.col) (value_register x.loops.places n) (end x.loops.places x.loops.steps.items n)

    takes : (y : Entry) (u : State) → Contains x.entries y → Shows env x.loops.places x.loops.steps.items x.loops.row x.loops.col n y u.regs → Partly (rank y) u
        → Does env block u (λ v. Partly (rank y + 1) v × (v.steps ≤ u.steps + entry_steps p) × Same (λ r. Unit {0}) e u.regs v.regs)
    takes y u cy shows part =
        let li : y.i < p.rows = omega (arith, all-Mem (λ (a : Entry). a.i < s.rows) x.entries y ok.matrix.rows (contains-Mem x.entries y cy), on.rows) in
        let lj : y.j < p.inner = omega (arith, all-Mem (λ (a : Entry). a.j < s.cols) x.entries y ok.matrix.cols (contains-Mem x.entries y cy), on.inner) in
        do_weaker env block u _ _
        (λ v d. (
          record {
            sums = sums_as p (more env p long small short (with_first (rank y)) y) (with_first (rank y + 1)) (v.bufs p.result) (λ k i lk l. first_more y cy k i) d.sums;
            others = λ b q. d.others b q ∙ part.others b q;
          },
          d.steps,
          λ r kr lr. d.regs r lr,
        ))
        (entry_does env p long small short y (index_term x.loops.places x.loops.steps.items n x.loops.row) (index_term x.loops.places x.loops.steps.items n x.loops.col) (value_register x.loops.places n) e (with_first (rank y)) u li lj (omega arith)
        (λ h same. shows.row_is h same) (λ h same. shows.col_is h same) shows.value_is part.sums)

    part_does : Sums p f (z.bufs p.result)
        → Does env (add_part p x.loops n) z
        (λ v. Sums p (with_all f x.entries) (v.bufs p.result) × ((b : ℕ) → p.result ≢ b → v.bufs b ≡ z.bufs b)
        × (v.steps ≤ z.steps + walk_cost env x.loops.places x.loops.steps.items (entry_steps p) (length (values_on s x.part x.entries)) (length x.entries)))
    part_does sums =
        do_weaker env (add_part p x.loops n) z _ _
        (λ v d. (sums_as p (with_first (length x.entries)) (with_all f x.entries) (v.bufs p.result) (λ k i lk l. first_all k i) d.0.sums, d.0.others, d.1))
        (walk_does env (λ r. Unit {0}) x.loops.places s x.part x.entries x.exprs x.loops.steps.items x.loops.row x.loops.col n block Partly (entry_steps p)
        ok.lawful ok.matrix ok.places (ok.recovers n) (λ r le. tt)
        (λ t u v eb er part. record { sums = subst (λ (bs : ℕ → List ℤ). Sums p (with_first t) (bs p.result)) (sym eb) part.sums; others = λ b q. ap (λ (bs : ℕ → List ℤ). bs b) eb ∙ part.others b q })
        takes z record { sums = sums_as p f (with_first 0) (z.bufs p.result) (λ k i lk l. first_none k i) sums; others = λ b q. refl })

  -- ---- all parts

  record Done (xs : List Listed) (f : ℕ → ℕ → ℤ) (z v : State) : Type 0 where
    sums : Sums p (λ k i. f k i +ℤ sum_of_parts (adds_at k i) xs) (v.bufs p.result)
    others : (b : ℕ) → p.result ≢ b → v.bufs b ≡ z.bufs b

  parts_do : (xs : List Listed) (f : ℕ → ℕ → ℤ) (n : ℕ) (z : State) → AreListable env s xs → Sums p f (z.bufs p.result)
      → Does env (add_parts p (map (λ x. x.loops) xs) n) z (λ v. Done xs f z v × (v.steps ≤ z.steps + product_cost env s p xs))
  parts_do [] f n z ok sums =
      do_end env z _ (record { sums = sums_as p f (λ k i. f k i +ℤ pos 0) (z.bufs p.result) (λ k i lk l. sym (+ℤ_idr (f k i))) sums; others = λ b q. refl }, omega arith)
  parts_do (x ∷ xs) f n z ok sums =
      do_append env (add_part p x.loops n) (add_parts p (map (λ x. x.loops) xs) (end_of_part x.loops n)) z _
      (do_weaker env (add_part p x.loops n) z _ _
      (λ u d.
      do_weaker env (add_parts p (map (λ x. x.loops) xs) (end_of_part x.loops n)) u _ _
      (λ v g. (
        record {
          sums = sums_as p (λ k i. with_all f x.entries k i +ℤ sum_of_parts (adds_at k i) xs) (λ k i. f k i +ℤ sum_of_parts (adds_at k i) (x ∷ xs)) (v.bufs p.result)
              (λ k i lk l. +ℤ_assoc (f k i) (sum_over (adds_at k i) x.entries) (sum_of_parts (adds_at k i) xs)) g.0.sums;
          others = λ b q. g.0.others b q ∙ d.1 b q;
        },
        omega (arith, g.1, d.2),
      ))
      (parts_do xs (with_all f x.entries) (end_of_part x.loops n) u ok.1 d.0))
      (part_does x ok.0 n f z sums))

  -- zeros
  zeros : Sums p (λ k i. pos 0) (replicate (cells p) (pos 0))
  zeros = record {
    long = length-replicate (cells p) (pos 0);
    each = λ k i lk li. get_or-replicate (cells p) (k * p.rows + i) (pos 0) (pos 0) (in_columns p.rows p.columns k i lk li) ∙ sym (wrap_small 0 (omega arith));
  }

  -- the sums that the law speaks of
  holds : (xs : List Listed) (ys : List ℤ) → Sums p (λ k i. pos 0 +ℤ sum_of_parts (adds_at k i) xs) ys → HoldsProduct s xs p.columns (env.sources p.operand) ys
  holds xs ys h = record {
    long = h.long ∙ ap (λ (x : ℕ). x * p.columns) on.rows;
    each = λ k i lk li.
        ap (λ (x : ℕ). cell ys (k * x + i)) (sym on.rows)
        ∙ (h.each k i lk (omega (arith, li, on.rows))
        ∙ (ap (int_wrap w64) (+ℤ_idl (sum_of_parts (adds_at k i) xs)) ∙ ap (λ (x : ℕ). int_wrap w64 (sum_of_parts (adds (column (env.sources p.operand) x k) i) xs)) on.inner));
  }

-- ---- the phase

-- the new buffer
record Made (p : Product) (w u : World) : Type 0 where
  env_is : u.env ≡ w.env
  zero : u.bufs p.result ≡ replicate (cells p) (pos 0)

pub products_add : ProductsAdd
products_add w s xs p n low ok on le =
    let Q : World → Type 0 = λ u. HoldsProduct s xs p.columns (w.env.sources p.operand) (u.bufs p.result) in
    let makes : Leads low 1 w (make_all (made_result p ∷ []) w) (Made p w)
    = new_leads low 0 (made_result p) [] w (Made p w) le (few w.env s p on) (leads_none low (made (made_result p) w) (Made p w) record { env_is = refl; zero = put_same w.bufs p.result _ }) in
    let costs : 1 + product_cost w.env s p xs + 0 ≡ 1 + product_cost w.env s p xs = omega arith in
    subst (λ (c : ℕ). Leads low c w (phases (product_phase p (map (λ x. x.loops) xs) n ∷ []) w) Q) costs
    (phase_leads low 1 (product_cost w.env s p xs) 0 (product_phase p (map (λ x. x.loops) xs) n) w (Made p w) Q makes
    (λ u h keeps.
    subst (λ (env : Env). Does env (add_parts p (map (λ x. x.loops) xs) n) (begin u) (Body low (product_cost w.env s p xs) 0 [] Q u)) (sym h.env_is)
    (do_weaker w.env (add_parts p (map (λ x. x.loops) xs) n) (begin u) _ _
    (λ v d. record {
      steps = d.1;
      bufs = λ b lt. d.0.others b (λ q. omega (arith, q, lt, le));
      then = leads_none low (after u v) Q (holds w.env s p on xs (v.bufs p.result) d.0.sums);
    })
    (parts_do w.env s p on xs (λ k i. pos 0) n (begin u) ok (subst (Sums p (λ k i. pos 0)) (sym h.zero) (zeros w.env s p on))))))
