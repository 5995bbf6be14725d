-- What the code of a plan's steps does.
use Rattle.std.proofs.Common.{◌≡◌, ℕ, zero, suc, ◌+◌, ◌*◌, ◌^◌, ◌<◌, ◌≤◌, Bool, true, false, cond, eqb, refl, sym, ap, ap₂, ◌∙◌, subst, arith, List, [], ◌∷◌, ◌++◌, length, length-append, append-nil, append_assoc, Option, Some, None, ◌⊎◌, inl, inr, ℤ, pos, negsuc, ◌+ℤ◌, ◌-ℤ◌, ◌*ℤ◌}
use Rattle.std.specs.Prelude.{slice_index_or, FitsSigned}
use Rattle.std.specs.Int.{int_wrap, int_div_euclid, int_rem_euclid}
use Rattle.std.proofs.lemmas.Bool.Decides.{nat_tests}
use Rattle.std.proofs.lemmas.Bool.{cases_lt}
use Rattle.std.proofs.lemmas.Int.{ints, int_wrap_fits, int_wrap-add_left}
use Rattle.std.proofs.lemmas.List.{get_or_append_left, get_or_push}
use mir.Syntax.{w64}
use Rattle.us_code.specs.declared.program.Dim.{Dim}
use Rattle.us_code.specs.declared.program.Dim.TheVariants as dim
use Rattle.us_code.specs.declared.program.Buf.TheVariants as buf
use Rattle.us_code.specs.Plain.{TermTree, Number, Reg, Add, Sub, Mul, Div, Rem, Code, End, Let, Load}
use Rattle.us_code.specs.Run.{Env, State, exec, size_of, value, tick, set_reg, put}
use Rattle.us_code_laws.specs.Does.{Does}
use Rattle.us_code_laws.proofs.Rules.{statement_rules}
use Rattle.us_code_laws.proofs.Sequence.{put_same, put_other}
use Rattle.us_gen.specs.Nest.{cell_level}
use Rattle.us_gen.specs.Levels.{size_term}
use Rattle.us_gen.proofs.LevelRuns.{wrap_small}
use Rattle.us_expr.specs.declared.ranges.Range.{Range}
use Rattle.us_expr.specs.Tree.{Tree}
use Rattle.us_format.specs.Lists.{then_do, nth, cell, nat_of}
use Rattle.us_format.specs.Matrix.{Shape}
use Rattle.us_format.specs.Declaration.{Part}
use Rattle.us_format.specs.Coordinates.{level_range}
use Rattle.us_format.specs.Recover.{Found, lies_in}
use Rattle.us_known.specs.Table.{tree_at}
use Rattle.us_invert.specs.declared.steps.PlanStep.{PlanStep}
use Rattle.us_invert.specs.declared.steps.PlanStep.TheVariants as plan
use Rattle.us_invert.specs.Plan.{step_at, IsEarlier}
use Rattle.us_invert.specs.Recovery.{step_value, tested, walked}
use Rattle.us_gen_recover.specs.declared.places.Coordinate.{Coordinate}
use Rattle.us_gen_recover.specs.declared.places.Table.{Table}
use Rattle.us_gen_recover.specs.Recovery.{coordinate, table, shifted, names, names_in, step_term, terms, operand, joined, place_in, work, in_front, recovery}
use Rattle.us_gen_recover.specs.Rooms.{NamesWithin}
use Rattle.us_gen_recover.specs.Values.{CoordinatesAre, TablesAre, HasLow, IsReady, ReadsACell, Recovered, RecoveryGives}

-- ---- the walk gives each step its value, by the values of the whole

module _ (sh : Shape) (p : Part) (f : Found) (zs : List ℤ) where
  pub tested_is : (r : Range) (x : PlanStep) (v z : ℤ) → tested r x v ≡ Some z → v ≡ z
  tested_is r x v z h = go x h
    where
      some_is : (a b : ℤ) → ◌≡◌ {A = Option ℤ} (Some a) (Some b) → a ≡ b
      some_is a b e = cc

      if_is : (b : Bool) → ◌≡◌ {A = Option ℤ} (cond b (Some v) None) (Some z) → v ≡ z
      if_is true e = some_is v z e
      if_is false e = absurd cc

      go : (x : PlanStep) → tested r x v ≡ Some z → v ≡ z
      go (plan.Const c) e = some_is v z e
      go (plan.Level k) e = some_is v z e
      go (plan.Add a b) e = if_is (lies_in r v) e
      go (plan.Sub a b) e = if_is (lies_in r v) e
      go (plan.Join a b k) e = if_is (lies_in r v) e
      go (plan.Div a k) e = if_is (lies_in r v) e
      go (plan.Rem a k) e = if_is (lies_in r v) e
      go (plan.Order q w) e = if_is (lies_in r v) e
      go (plan.Rows q a b) e = if_is (lies_in r v) e

  -- what goes on behind the first step
  pub one_on : (t : Tree) (ts : List Tree) (x : PlanStep) (steps : List PlanStep) (kept : List ℤ) → walked sh p f (t ∷ ts) (x ∷ steps) kept ≡ Some zs
      → walked sh p f ts steps (kept ++ step_value kept (level_range sh f.extents p t).lo f x ∷ []) ≡ Some zs
  one_on t ts x steps kept h = go (tested r x v) refl h
    where
      r : Range
      r = level_range sh f.extents p t

      v : ℤ
      v = step_value kept r.lo f x

      go : (o : Option ℤ) → tested r x v ≡ o → then_do o (λ z. walked sh p f ts steps (kept ++ z ∷ [])) ≡ Some zs → walked sh p f ts steps (kept ++ v ∷ []) ≡ Some zs
      go None e h = absurd cc
      go (Some z) e h = subst (λ (y : ℤ). walked sh p f ts steps (kept ++ y ∷ []) ≡ Some zs) (sym (tested_is r x v z e)) h

  same_list : (xs ys : List ℤ) → ◌≡◌ {A = Option (List ℤ)} (Some xs) (Some ys) → xs ≡ ys
  same_list xs ys e = cc

  -- the values that are there stay
  pub walk_keeps : (ts : List Tree) (steps : List PlanStep) (kept : List ℤ) → walked sh p f ts steps kept ≡ Some zs → (k : ℕ) → k < length kept → cell zs k ≡ cell kept k
  walk_keeps [] steps kept h k lt = ap (λ (xs : List ℤ). cell xs k) (sym (same_list kept zs h))
  walk_keeps (t ∷ ts) [] kept h k lt = ap (λ (xs : List ℤ). cell xs k) (sym (same_list kept zs h))
  walk_keeps (t ∷ ts) (x ∷ steps) kept h k lt =
      let v = step_value kept (level_range sh f.extents p t).lo f x in
      walk_keeps ts steps (kept ++ v ∷ []) (one_on t ts x steps kept h) k (omega (arith, lt, length-append kept (v ∷ []))) ∙ get_or_append_left kept (v ∷ []) (pos 0) k lt

  -- the value of a step is the same by any values that agree in its operands
  value_same : (kept : List ℤ) (lo : ℤ) (n : ℕ) (x : PlanStep) → ((k : ℕ) → k < n → cell zs k ≡ cell kept k) → IsEarlier n x → step_value kept lo f x ≡ step_value zs lo f x
  value_same kept lo n (plan.Const c) e h = refl
  value_same kept lo n (plan.Level k) e h = refl
  value_same kept lo n (plan.Add a b) e h = ap₂ (λ (x y : ℤ). x +ℤ y) (sym (e a h.0)) (sym (e b h.1))
  value_same kept lo n (plan.Sub a b) e h = ap₂ (λ (x y : ℤ). x -ℤ y) (sym (e a h.0)) (sym (e b h.1))
  value_same kept lo n (plan.Join a b k) e h = ap₂ (λ (x y : ℤ). x *ℤ pos k +ℤ y) (sym (e a h.0)) (sym (e b h.1))
  value_same kept lo n (plan.Div a k) e h = ap (λ (x : ℤ). int_div_euclid x (pos k)) (sym (e a h))
  value_same kept lo n (plan.Rem a k) e h = ap (λ (x : ℤ). int_rem_euclid x (pos k)) (sym (e a h))
  value_same kept lo n (plan.Order q v) e h = ap (λ (x : ℤ). cell (nth f.tables q) (nat_of x)) (sym (e v h))
  value_same kept lo n (plan.Rows q a b) e h = ap₂ (λ (x y : ℤ). cell (nth f.tables q) (nat_of x * slice_index_or f.extents q 0 + nat_of y) -ℤ pos 1) (sym (e a h.0)) (sym (e b h.1))

  pub first_cell : (t : Tree) (ts : List Tree) (x : PlanStep) (steps : List PlanStep) (kept : List ℤ) (n : ℕ) → length kept ≡ n → walked sh p f (t ∷ ts) (x ∷ steps) kept ≡ Some zs → cell zs (n + 0) ≡ step_value kept (level_range sh f.extents p t).lo f x
  first_cell t ts x steps kept n el h =
      let v = step_value kept (level_range sh f.extents p t).lo f x in
      let z : n + 0 ≡ n = omega arith in
      ap (cell zs) z ∙ (walk_keeps ts steps (kept ++ v ∷ []) (one_on t ts x steps kept h) n (omega (arith, el, length-append kept (v ∷ []))) ∙ get_or_push kept v (pos 0) n el)

  pub walk_gives : (ts : List Tree) (steps : List PlanStep) (kept : List ℤ) (n : ℕ) → length kept ≡ n → length steps ≡ length ts → walked sh p f ts steps kept ≡ Some zs
      → (k : ℕ) → k < length steps → IsEarlier (n + k) (step_at steps k) → cell zs (n + k) ≡ step_value zs (level_range sh f.extents p (tree_at ts k)).lo f (step_at steps k)
  walk_gives ts [] kept n el e h k lt i = absurd (omega (arith, lt))
  walk_gives [] (x ∷ steps) kept n el e h k lt i = absurd (omega (arith, e))
  walk_gives (t ∷ ts) (x ∷ steps) kept n el e h zero lt i =
      let lo = (level_range sh f.extents p t).lo in
      let z : n + 0 ≡ n = omega arith in
      let i0 : IsEarlier n x = subst (λ (m : ℕ). IsEarlier m x) z i in
      first_cell t ts x steps kept n el h ∙ value_same kept lo n x (λ j l. walk_keeps (t ∷ ts) (x ∷ steps) kept h j (omega (arith, l, el))) i0
  walk_gives (t ∷ ts) (x ∷ steps) kept n el e h (suc k) lt i =
      let v = step_value kept (level_range sh f.extents p t).lo f x in
      let m : n + suc k ≡ n + 1 + k = omega arith in
      ap (cell zs) m
      ∙ walk_gives ts steps (kept ++ v ∷ []) (n + 1) (length-append kept (v ∷ []) ∙ omega (arith, el)) (omega (arith, e)) (one_on t ts x steps kept h) k (omega (arith, lt)) (subst (λ (y : ℕ). IsEarlier y (step_at steps k)) m i)

-- ---- a step

-- the low end of a level
abbrev own_low : List Coordinate → PlanStep → ℤ
own_low levels (plan.Const c) = pos 0
own_low levels (plan.Level k) = (coordinate levels k).low
own_low levels (plan.Add a b) = pos 0
own_low levels (plan.Sub a b) = pos 0
own_low levels (plan.Join q r k) = pos 0
own_low levels (plan.Div a k) = pos 0
own_low levels (plan.Rem a k) = pos 0
own_low levels (plan.Order q v) = pos 0
own_low levels (plan.Rows q l t) = pos 0

low_same : (levels : List Coordinate) (f : Found) (zs : List ℤ) (lo : ℤ) (x : PlanStep) → HasLow levels lo x → step_value zs lo f x ≡ step_value zs (own_low levels x) f x
low_same levels f zs lo (plan.Const c) h = refl
low_same levels f zs lo (plan.Level k) h = ap (λ (z : ℤ). pos (slice_index_or f.coords k 0) +ℤ z) (sym h)
low_same levels f zs lo (plan.Add a b) h = refl
low_same levels f zs lo (plan.Sub a b) h = refl
low_same levels f zs lo (plan.Join q r k) h = refl
low_same levels f zs lo (plan.Div a k) h = refl
low_same levels f zs lo (plan.Rem a k) h = refl
low_same levels f zs lo (plan.Order q v) h = refl
low_same levels f zs lo (plan.Rows q l t) h = refl

-- a value that fits is what wraps to it
wrapped : (a z : ℤ) → z ≡ a → FitsSigned w64 z → int_wrap w64 a ≡ z
wrapped a z e h = ap (int_wrap w64) (sym e) ∙ int_wrap_fits w64 z h

module _ (env : Env) (levels : List Coordinate) (tables : List Table) (f : Found) (zs : List ℤ) where
  -- step number j and its value
  record Gives (j : ℕ) (x : PlanStep) : Type 0 where
    pub earlier : IsEarlier j x
    pub fits : FitsSigned w64 (cell zs j)
    pub within : NamesWithin (length levels) (length tables) x
    pub is : cell zs j ≡ step_value zs (own_low levels x) f x
    pub reads : ReadsACell f zs x

  -- the terms of the first j steps have their values, whatever the registers from n on hold
  abbrev Known : ℕ → ℕ → List TermTree → (ℕ → ℤ) → Type 0
  Known n j known regs = (k : ℕ) → k < j → (g : ℕ → ℤ) → ((r : ℕ) → r < n → g r ≡ regs r) → value env g (operand known k) ≡ cell zs k

  -- from s to u a step got its value
  record Did (n j : ℕ) (x : PlanStep) (s u : State) : Type 0 where
    pub regs : (r : ℕ) → r < n → u.regs r ≡ s.regs r
    pub bufs : u.bufs ≡ s.bufs
    pub steps_are : u.steps ≡ s.steps + names x
    pub stuck : u.stuck ≡ s.stuck
    pub value_is : (g : ℕ → ℤ) → ((r : ℕ) → r < n + names x → g r ≡ u.regs r) → value env g (step_term levels x n) ≡ cell zs j

  shifted_value : (g : ℕ → ℤ) (r c : ℕ) (low z : ℤ) → g r ≡ pos c → z ≡ pos c +ℤ low → FitsSigned w64 z → value env g (shifted r low) ≡ z
  shifted_value g r c (pos zero) z h e t = h ∙ (omega (arith, ints) ∙ sym e)
  shifted_value g r c (pos (suc k)) z h e t =
      let no : eqb (suc k) 0 ≡ false = grind (arith, nat_tests) in
      ap (λ (b : Bool). value env g (cond b (Reg r) (Add (Reg r) (Number (suc k))))) no ∙ (ap (λ (y : ℤ). int_wrap w64 (y +ℤ pos (suc k))) h ∙ wrapped (pos c +ℤ pos (suc k)) z e t)
  shifted_value g r c (negsuc k) z h e t = ap (λ (y : ℤ). int_wrap w64 (y -ℤ pos (suc k))) h ∙ wrapped (pos c -ℤ pos (suc k)) z (e ∙ omega (arith, ints)) t

  -- nothing is done
  did_nothing : (n j : ℕ) (x : PlanStep) (s : State) → names x ≡ 0 → ((g : ℕ → ℤ) → ((r : ℕ) → r < n → g r ≡ s.regs r) → value env g (step_term levels x n) ≡ cell zs j) → Did n j x s s
  did_nothing n j x s e v = record { regs = λ r h. refl; bufs = refl; steps_are = omega (arith, e); stuck = refl; value_is = λ g h. v g (λ r l. h r (omega (arith, l))) }

  -- a register of a value
  did_let : (n j : ℕ) (x : PlanStep) (v : ℤ) (s : State) → names x ≡ 1 → step_term levels x n ≡ Reg n → v ≡ cell zs j → Did n j x s (set_reg n v (tick 1 s))
  did_let n j x v s e t h = record {
    regs = λ r l. put_other s.regs n v r (omega (arith, l));
    bufs = refl;
    steps_are = omega (arith, e);
    stuck = refl;
    value_is = λ g a. ap (value env g) t ∙ (a n (omega (arith, e)) ∙ (put_same s.regs n v ∙ h));
  }

  -- a cell, in two steps
  did_read : (n j : ℕ) (x : PlanStep) (m : ℕ) (v : ℤ) (s : State) → names x ≡ 2 → ((g : ℕ → ℤ) → g (n + 1) ≡ v → value env g (step_term levels x n) ≡ cell zs j) → Did n j x s (set_reg (n + 1) v (tick 1 (set_reg n (pos m) (tick 1 s))))
  did_read n j x m v s e t = record {
    regs = λ r l. put_other (put s.regs n (pos m)) (n + 1) v r (omega (arith, l)) ∙ put_other s.regs n (pos m) r (omega (arith, l));
    bufs = refl;
    steps_are = omega (arith, e);
    stuck = refl;
    value_is = λ g a. t g (a (n + 1) (omega (arith, e)) ∙ put_same (put s.regs n (pos m)) (n + 1) v);
  }

  -- what a read of a source does
  read_runs : (k : ℕ) (at : TermTree) (n m : ℕ) (rest : Code) (s : State) → value env s.regs at ≡ pos m → m < length (env.sources k) → exec env (cell_level at k n rest) s ≡ exec env rest (set_reg (n + 1) (cell (env.sources k) m) (tick 1 (set_reg n (pos m) (tick 1 s))))
  read_runs k at n m rest s e lt =
      let s1 = set_reg n (pos m) (tick 1 s) in
      statement_rules.after_when env at (dim.Len k) n (Load (n + 1) (buf.Source k) (Reg n) rest) false End End s m e lt
      ∙ statement_rules.after_load env (n + 1) (buf.Source k) (Reg n) rest s1 m (put_same s.regs n (pos m)) lt

  size_value : (g : ℕ → ℤ) (d : Dim) → value env g (size_term d) ≡ pos (size_of env d)
  size_value g (dim.Number n) = refl
  size_value g (dim.Name d) = refl
  size_value g (dim.Len k) = refl

  place_value : (g : ℕ → ℤ) (known : List TermTree) (e : Dim) (l t x y extent : ℕ) → value env g (operand known l) ≡ pos x → value env g (operand known t) ≡ pos y → size_of env e ≡ extent → x * extent + y < 2 ^ 63 → value env g (place_in known e l t) ≡ pos (x * extent + y)
  place_value g known e l t x y extent hl ht he small =
      let whole : value env g (Mul (operand known l) (size_term e)) ≡ pos (x * extent) =
      ap₂ (λ (a b : ℤ). int_wrap w64 (a *ℤ b)) hl (size_value g e ∙ ap pos he) ∙ wrap_small (x * extent) (omega (arith, small)) in
      ap₂ (λ (a b : ℤ). int_wrap w64 (a +ℤ b)) whole ht ∙ wrap_small (x * extent + y) small

  -- how a step goes on to those behind it
  abbrev Goes : ℕ → ℕ → PlanStep → List TermTree → Code → State → Type 0
  Goes n j x known rest s = (u : State) × (exec env (in_front (work tables x known) n rest) s ≡ exec env rest u) × Did n j x s u

  order_goes : (n j q v : ℕ) (known : List TermTree) (rest : Code) (s : State) → TablesAre env tables f → Gives j (plan.Order q v) → Known n j known s.regs → Goes n j (plan.Order q v) known rest s
  order_goes n j q v known rest s ta h kn =
      let m = h.reads.0 in
      let k = (table tables q).source in
      let xs : env.sources k ≡ nth f.tables q = (ta q h.within).0 in
      let at : value env s.regs (operand known v) ≡ pos m = kn v h.earlier s.regs (λ r l. refl) ∙ h.reads.1 in
      let lt : m < length (env.sources k) = omega (arith, h.reads.2, ap length xs) in
      let is : cell (env.sources k) m ≡ cell zs j = ap (λ (ys : List ℤ). cell ys m) xs ∙ (ap (λ (z : ℤ). cell (nth f.tables q) (nat_of z)) (sym h.reads.1) ∙ sym h.is) in
      (set_reg (n + 1) (cell (env.sources k) m) (tick 1 (set_reg n (pos m) (tick 1 s))), read_runs k (operand known v) n m rest s at lt, did_read n j (plan.Order q v) m (cell (env.sources k) m) s refl (λ g e. e ∙ is))

  rows_goes : (n j q l t : ℕ) (known : List TermTree) (rest : Code) (s : State) → TablesAre env tables f → Gives j (plan.Rows q l t) → Known n j known s.regs → Goes n j (plan.Rows q l t) known rest s
  rows_goes n j q l t known rest s ta h kn =
      let x = h.reads.0 in
      let y = h.reads.1 in
      let extent = slice_index_or f.extents q 0 in
      let m = x * extent + y in
      let k = (table tables q).source in
      let xs : env.sources k ≡ nth f.tables q = (ta q h.within).0 in
      let hl : value env s.regs (operand known l) ≡ pos x = kn l h.earlier.0 s.regs (λ r l. refl) ∙ h.reads.2 in
      let ht : value env s.regs (operand known t) ≡ pos y = kn t h.earlier.1 s.regs (λ r l. refl) ∙ h.reads.3 in
      let small : m < 2 ^ 63 = omega (arith, h.reads.4, h.reads.5) in
      let at = place_value s.regs known (table tables q).extent l t x y extent hl ht (ta q h.within).1 small in
      let lt : m < length (env.sources k) = omega (arith, h.reads.4, ap length xs) in
      let is : cell zs j ≡ cell (env.sources k) m -ℤ pos 1 =
      h.is ∙ (ap₂ (λ (a b : ℤ). cell (nth f.tables q) (nat_of a * extent + nat_of b) -ℤ pos 1) h.reads.2 h.reads.3 ∙ ap (λ (ys : List ℤ). cell ys m -ℤ pos 1) (sym xs)) in (
        set_reg (n + 1) (cell (env.sources k) m) (tick 1 (set_reg n (pos m) (tick 1 s))),
        read_runs k (place_in known (table tables q).extent l t) n m rest s at lt,
        did_read n j (plan.Rows q l t) m (cell (env.sources k) m) s refl (λ g e. ap (λ (z : ℤ). int_wrap w64 (z -ℤ pos 1)) e ∙ wrapped (cell (env.sources k) m -ℤ pos 1) (cell zs j) is h.fits),
      )

  let_goes : (n j : ℕ) (x : PlanStep) (e : TermTree) (known : List TermTree) (rest : Code) (s : State) → in_front (work tables x known) n rest ≡ Let n e rest → names x ≡ 1 → step_term levels x n ≡ Reg n → value env s.regs e ≡ cell zs j → Goes n j x known rest s
  let_goes n j x e known rest s w o t h = (set_reg n (value env s.regs e) (tick 1 s), ap (λ (c : Code). exec env c s) w, did_let n j x (value env s.regs e) s o t h)

  step_goes : (n j : ℕ) (x : PlanStep) (known : List TermTree) (rest : Code) (s : State) → CoordinatesAre levels f n s.regs → TablesAre env tables f → Gives j x → Known n j known s.regs → Goes n j x known rest s
  step_goes n j (plan.Const c) known rest s ca ta h kn = (s, refl, did_nothing n j (plan.Const c) s refl (λ g a. sym h.is))
  step_goes n j (plan.Level k) known rest s ca ta h kn =
      let place = ca k h.within in
      (s, refl, did_nothing n j (plan.Level k) s refl (λ g a. shifted_value g (coordinate levels k).reg (slice_index_or f.coords k 0) (coordinate levels k).low (cell zs j) (a (coordinate levels k).reg place.0 ∙ place.1) h.is h.fits))
  step_goes n j (plan.Add a b) known rest s ca ta h kn =
      let va = kn a h.earlier.0 s.regs (λ r l. refl) in
      let vb = kn b h.earlier.1 s.regs (λ r l. refl) in
      let_goes n j (plan.Add a b) (Add (operand known a) (operand known b)) known rest s refl refl refl (ap₂ (λ (x y : ℤ). int_wrap w64 (x +ℤ y)) va vb ∙ wrapped (cell zs a +ℤ cell zs b) (cell zs j) h.is h.fits)
  step_goes n j (plan.Sub a b) known rest s ca ta h kn =
      let va = kn a h.earlier.0 s.regs (λ r l. refl) in
      let vb = kn b h.earlier.1 s.regs (λ r l. refl) in
      let_goes n j (plan.Sub a b) (Sub (operand known a) (operand known b)) known rest s refl refl refl (ap₂ (λ (x y : ℤ). int_wrap w64 (x -ℤ y)) va vb ∙ wrapped (cell zs a -ℤ cell zs b) (cell zs j) h.is h.fits)
  step_goes n j (plan.Join a b k) known rest s ca ta h kn =
      let va = kn a h.earlier.0 s.regs (λ r l. refl) in
      let vb = kn b h.earlier.1 s.regs (λ r l. refl) in
      let_goes n j (plan.Join a b k) (joined known a b k) known rest s refl refl refl
      (ap₂ (λ (x y : ℤ). int_wrap w64 (int_wrap w64 (x *ℤ pos k) +ℤ y)) va vb ∙ (int_wrap-add_left w64 (cell zs a *ℤ pos k) (cell zs b) ∙ wrapped (cell zs a *ℤ pos k +ℤ cell zs b) (cell zs j) h.is h.fits))
  step_goes n j (plan.Div a k) known rest s ca ta h kn =
      let va = kn a h.earlier s.regs (λ r l. refl) in
      let_goes n j (plan.Div a k) (Div (operand known a) k) known rest s refl refl refl (ap (λ (x : ℤ). int_div_euclid x (pos k)) va ∙ sym h.is)
  step_goes n j (plan.Rem a k) known rest s ca ta h kn =
      let va = kn a h.earlier s.regs (λ r l. refl) in
      let_goes n j (plan.Rem a k) (Rem (operand known a) k) known rest s refl refl refl (ap (λ (x : ℤ). int_rem_euclid x (pos k)) va ∙ sym h.is)
  step_goes n j (plan.Order q v) known rest s ca ta h kn = order_goes n j q v known rest s ta h kn
  step_goes n j (plan.Rows q l t) known rest s ca ta h kn = rows_goes n j q l t known rest s ta h kn

  -- ---- all steps

  coordinates_stay : (n m : ℕ) (a b : ℕ → ℤ) → n ≤ m → ((r : ℕ) → r < n → b r ≡ a r) → CoordinatesAre levels f n a → CoordinatesAre levels f m b
  coordinates_stay n m a b le same c = λ k h. (omega (arith, le, (c k h).0), same (coordinate levels k).reg (c k h).0 ∙ (c k h).1)

  -- the terms so far, and that of the step
  known_more : (n j : ℕ) (x : PlanStep) (known : List TermTree) (s u : State) → length known ≡ j → Known n j known s.regs → Did n j x s u → Known (n + names x) (j + 1) (known ++ step_term levels x n ∷ []) u.regs
  known_more n j x known s u len kn d k lt g a = case (cases_lt k j)
    where
      t : TermTree
      t = step_term levels x n

      case : (k < j) ⊎ (j ≤ k) → value env g (operand (known ++ t ∷ []) k) ≡ cell zs k
      case (inl l) = ap (value env g) (get_or_append_left known (t ∷ []) (Number 0) k (omega (arith, l, len))) ∙ kn k l g (λ r h. a r (omega (arith, h)) ∙ d.regs r h)
      case (inr l) =
          let e : k ≡ j = omega (arith, l, lt) in
          ap (value env g) (get_or_push known t (Number 0) k (len ∙ sym e)) ∙ (d.value_is g a ∙ ap (cell zs) (sym e))

  -- the steps left, from s to u
  record Left (n j : ℕ) (known : List TermTree) (steps : List PlanStep) (s u : State) : Type 0 where
    pub regs : (r : ℕ) → r < n → u.regs r ≡ s.regs r
    pub bufs : u.bufs ≡ s.bufs
    pub steps_are : u.steps ≡ s.steps + names_in steps
    pub stuck : u.stuck ≡ s.stuck
    pub gives_all : Known (n + names_in steps) (j + length steps) (known ++ terms levels steps n) u.regs

  abbrev AllGive : ℕ → List PlanStep → Type 0
  AllGive j steps = (k : ℕ) → k < length steps → Gives (j + k) (step_at steps k)

  first_gives : (j : ℕ) (x : PlanStep) (steps : List PlanStep) → AllGive j (x ∷ steps) → Gives j x
  first_gives j x steps h = let e : j + 0 ≡ j = omega arith in subst (λ (k : ℕ). Gives k x) e (h 0 (omega arith))

  others_give : (j : ℕ) (x : PlanStep) (steps : List PlanStep) → AllGive j (x ∷ steps) → AllGive (j + 1) steps
  others_give j x steps h = λ k l. let e : j + suc k ≡ j + 1 + k = omega arith in subst (λ (y : ℕ). Gives y (step_at steps k)) e (h (suc k) (omega (arith, l)))

  all_go : (n j : ℕ) (steps : List PlanStep) (known : List TermTree) (inner : Code) (s : State) → length known ≡ j → CoordinatesAre levels f n s.regs → TablesAre env tables f → AllGive j steps → Known n j known s.regs
      → (u : State) × (exec env (recovery levels tables steps known n inner) s ≡ exec env inner u) × Left n j known steps s u
  all_go n j [] known inner s len ca ta h kn =
      let e : n + 0 ≡ n = omega arith in
      let ej : j + 0 ≡ j = omega arith in (
        s,
        refl,
        record {
          regs = λ r l. refl;
          bufs = refl;
          steps_are = omega arith;
          stuck = refl;
          gives_all = λ k lt g a. ap (λ (ts : List TermTree). value env g (operand ts k)) (append-nil known) ∙ kn k (omega (arith, lt)) g (λ r l. a r (omega (arith, l)));
        },
      )
  all_go n j (x ∷ steps) known inner s len ca ta h kn =
      let t = step_term levels x n in
      let more = known ++ t ∷ [] in
      let one = step_goes n j x known (recovery levels tables steps more (n + names x) inner) s ca ta (first_gives j x steps h) kn in
      let s1 = one.0 in
      let d = one.2 in
      let len1 : length more ≡ j + 1 = length-append known (t ∷ []) ∙ omega (arith, len) in
      let go = all_go (n + names x) (j + 1) steps more inner s1 len1 (coordinates_stay n (n + names x) s.regs s1.regs (omega arith) d.regs ca) ta (others_give j x steps h) (known_more n j x known s s1 len kn d) in
      let u = go.0 in
      let w = go.2 in (
        u,
        one.1 ∙ go.1,
        record {
          regs = λ r l. w.regs r (omega (arith, l)) ∙ d.regs r l;
          bufs = w.bufs ∙ d.bufs;
          steps_are = omega (arith, w.steps_are, d.steps_are);
          stuck = w.stuck ∙ d.stuck;
          gives_all = λ k lt g a. ap (λ (ts : List TermTree). value env g (operand ts k)) (sym (append_assoc known (t ∷ []) (terms levels steps (n + names x)))) ∙ w.gives_all k (omega (arith, lt)) g (λ r l. a r (omega (arith, l)));
        },
      )

pub recovery_gives : RecoveryGives
recovery_gives env levels tables sh p f ts steps zs n inner s walk len ca ta ready =
    let gives : (k : ℕ) → k < length steps → Gives env levels tables f zs (0 + k) (step_at steps k) = λ k lt.
    let r = ready k lt in
    let z : k ≡ 0 + k = omega arith in
    subst (λ (y : ℕ). Gives env levels tables f zs y (step_at steps k)) z record {
      earlier = r.earlier;
      fits = r.fits;
      within = r.within;
      is = ap (cell zs) z ∙ (walk_gives sh p f zs ts steps [] 0 refl len walk k lt (subst (λ (y : ℕ). IsEarlier y (step_at steps k)) z r.earlier) ∙ low_same levels f zs (level_range sh f.extents p (tree_at ts k)).lo (step_at steps k) r.low);
      reads = r.reads;
    } in
    let go = all_go env levels tables f zs n 0 steps [] inner s refl ca ta gives (λ k lt. absurd (omega (arith, lt))) in
    let w = go.2 in (
      go.0,
      go.1,
      record {
        regs = w.regs;
        bufs = w.bufs;
        steps_are = w.steps_are;
        stuck = w.stuck;
        values = λ k lt g a. w.gives_all k (omega (arith, lt)) g a;
      },
    )

-- the same around an inner block that does Q
pub do_recovery : (env : Env) (levels : List Coordinate) (tables : List Table) (sh : Shape) (p : Part) (f : Found) (ts : List Tree) (steps : List PlanStep) (zs : List ℤ) (n : ℕ) (inner : Code) (s : State) (Q : State → Type 0)
    → walked sh p f ts steps [] ≡ Some zs → length steps ≡ length ts → CoordinatesAre levels f n s.regs → TablesAre env tables f
    → ((k : ℕ) → k < length steps → IsReady levels tables f zs k (level_range sh f.extents p (tree_at ts k)).lo (step_at steps k))
    → ((u : State) → Recovered env levels steps n zs s u → Does env inner u Q) → Does env (recovery levels tables steps [] n inner) s Q
do_recovery env levels tables sh p f ts steps zs n inner s Q walk len ca ta ready then =
    let r = recovery_gives env levels tables sh p f ts steps zs n inner s walk len ca ta ready in
    let d = then r.0 r.2 in
    record { post = subst Q (sym r.1) d.post; calm = ap (λ (u : State). u.stuck) r.1 ∙ (d.calm ∙ r.2.stuck) }
