-- From the coordinates of an entry its row and column are recovered.
use Rattle.std.specs.Prelude.{slice_get}
use Rattle.std.proofs.Common.{◌≡◌, ℕ, zero, suc, ◌+◌, ◌-◌, ◌*◌, ◌/◌, ◌%◌, ◌<◌, ◌⊎◌, List, [], ◌∷◌, ◌++◌, map, length, get_or, T, Bool, true, false, cond, ℤ, pos, negsuc, ◌+ℤ◌, ◌-ℤ◌, ◌*ℤ◌, ◌≤ℤ◌, int_le, sym, refl, ap, ap₂, ◌∙◌, subst, inl, inr, arith, Some, None, append-nil, append_assoc, div-add-mod', mod-lt, suc-mul, neg_ℤ}
use Rattle.std.proofs.lemmas.Int.{ints}
use Rattle.std.proofs.lemmas.Bool.{and_from, or_cases, or_left, or_right, false≢true}
use Rattle.std.proofs.lemmas.List.{take_all}
use Rattle.std.specs.Int.{int_div_euclid, int_rem_euclid}
use Rattle.us_format.proofs.Order.{Mem}
use Rattle.us_format.proofs.Trees.{same_tree-true, has-Mem, Mem-has}
use Rattle.us_format.proofs.Rules.{Justified}
use Rattle.us_format.proofs.Chain.{Starts, StepOk, Chain, chain-given}
use Rattle.us_format.proofs.Agree.{Sound, lies, level-lies}
use Rattle.us_expr.specs.Range.{LiesIn}
use Rattle.us_expr.specs.Tree.{ColIndex, Quotient, RowIndex, Tree, Variable}
use Rattle.us_expr.specs.Value.{IsWithin}
use Rattle.us_expr.specs.declared.queries.Axis.{Axis}
use Rattle.us_expr.specs.declared.queries.Axis.TheVariants.{Cols, Rows}
use Rattle.us_format.specs.Coordinates.{coordinate, level_range, value_at}
use Rattle.us_format.specs.Declaration.{Part, Reorder, Schedule, index_of, axis_of}
use Rattle.us_format.specs.Known.{expressions, Give, Itself, Joined, Minus, OfLevel, OrderAt, Over, Plus, Rest, RowsAt, Steps, given_steps, has, known_of, same_tree}
use Rattle.us_format.specs.Lists.{nat_of, or_else, then_do, cell, nth}
use Rattle.us_format.specs.Matrix.{Entry, Shape, index_at}
use Rattle.us_format.specs.Queries.{extents_of}
use Rattle.us_format.specs.Recover.{Found, Values, both, checked, give_value, lies_in, recover, recovered, value_of}

pub le-true : (a b : ℤ) → a ≤ℤ b → int_le a b ≡ true
le-true a b h = go (int_le a b) h.le
  where
    go : (t : Bool) → T t → t ≡ true
    go true u = refl
    go false u = absurd u

pub neg-plus : (n r a : ℕ) → n ≡ r + suc a → neg_ℤ (pos n) +ℤ pos r ≡ negsuc a
neg-plus zero r a h = absurd (omega arith)
neg-plus (suc n) r a h = omega (arith, ints)

pub joined-is : (z : ℤ) (k : ℕ) → 0 < k → int_div_euclid z (pos k) *ℤ pos k +ℤ int_rem_euclid z (pos k) ≡ z
joined-is (pos a) k h = ap pos (div-add-mod' a k)
joined-is (negsuc a) k h =
    let l : a % k < k = mod-lt a h in
    neg-plus (suc (a / k) * k) (k - 1 - a % k) a (omega (arith, div-add-mod' a k, suc-mul (a / k) k))

module _ (m : List Entry) (s : Shape) (p : Part) (so : Sound m s p) (x : Entry) (mx : Mem x m) (f : Found) where
  pub record IsFound : Type 0 where
    pub coords : f.coords ≡ map (coordinate m s p x) p.levels
    pub extents : f.extents ≡ extents_of m s p
    pub order : (q w : ℕ) (t : Tree) → slice_get p.queries q ≡ Some (Reorder w t) → cell (nth f.tables q) (nat_of (value_at m s p x (Variable w))) ≡ pos (index_at (axis_of t) x)
    pub rows : (q v w : ℕ) (t : Tree) (n : ℕ) → slice_get p.queries q ≡ Some (Schedule v w t n)
        → cell (nth f.tables q) (nat_of (value_at m s p x (Variable v)) * get_or f.extents q 0 + nat_of (value_at m s p x (Variable w))) ≡ pos (index_at (axis_of t) x) +ℤ pos 1

  -- one of the part's expressions
  abbrev pub Member : Tree → Type 0
  Member e = Mem e (expressions p.levels p.queries)

  abbrev pub val : Tree → ℤ
  val e = value_at m s p x e

  abbrev pub env_of : List Tree → Values
  env_of es = map (λ e. (e, val e)) es

  pub seen-has : (es : List Tree) (e : Tree) → has es e ≡ true → value_of (env_of es) e ≡ Some (val e)
  seen-has [] e h = absurd (false≢true h)
  seen-has (a ∷ es) e h = go (same_tree a e) refl (or_cases _ _ h) (seen-has es e)
    where
      go : (b : Bool) → same_tree a e ≡ b → ((same_tree a e ≡ true) ⊎ (has es e ≡ true)) → (has es e ≡ true → value_of (env_of es) e ≡ Some (val e)) → cond b (Some (val a)) (value_of (env_of es) e) ≡ Some (val e)
      go true q h ih = ap (λ t. Some (val t)) (same_tree-true a e q)
      go false q (inl h) ih = absurd (false≢true (sym q ∙ h))
      go false q (inr h) ih = ih h

  pub seen-either : (es : List Tree) (e : Tree) → (value_of (env_of es) e ≡ Some (val e)) ⊎ (value_of (env_of es) e ≡ None)
  seen-either [] e = inr refl
  seen-either (a ∷ es) e = go (same_tree a e) refl (seen-either es e)
    where
      go : (b : Bool) → same_tree a e ≡ b → ((value_of (env_of es) e ≡ Some (val e)) ⊎ (value_of (env_of es) e ≡ None)) → (cond b (Some (val a)) (value_of (env_of es) e) ≡ Some (val e)) ⊎ (cond b (Some (val a)) (value_of (env_of es) e) ≡ None)
      go true q h = inl (ap (λ t. Some (val t)) (same_tree-true a e q))
      go false q h = h

  pub both-either : (es : List Tree) → (both (env_of es) ≡ Some (pos x.i, pos x.j)) ⊎ (both (env_of es) ≡ None)
  both-either es = go (seen-either es RowIndex) (seen-either es ColIndex)
    where
      go : ((value_of (env_of es) RowIndex ≡ Some (pos x.i)) ⊎ (value_of (env_of es) RowIndex ≡ None)) → ((value_of (env_of es) ColIndex ≡ Some (pos x.j)) ⊎ (value_of (env_of es) ColIndex ≡ None))
          → (both (env_of es) ≡ Some (pos x.i, pos x.j)) ⊎ (both (env_of es) ≡ None)
      go (inl a) (inl b) = inl (rw (a, b) refl)
      go (inl a) (inr b) = inr (rw (a, b) refl)
      go (inr a) b = inr (rw a refl)

  -- ---- a step gives the value of its expression

  pub level-value : IsFound → (k : ℕ) (e : Tree) → slice_get p.levels k ≡ Some e → pos (get_or f.coords k 0) +ℤ (level_range s f.extents p (get_or p.levels k RowIndex)).lo ≡ val e
  level-value fo k e at = rw (fo.coords, fo.extents, get-tree p.levels k e at, get-coordinate p.levels k e at) (back (val e) (level_range s (extents_of m s p) p e).lo (level-lies m s p so x mx e (tree-Mem p.levels k e at)).low)
    where
      get-tree : (ls : List Tree) (k : ℕ) (e : Tree) → slice_get ls k ≡ Some e → get_or ls k RowIndex ≡ e
      get-tree [] k e h = absurd (cc)
      get-tree (l ∷ ls) zero e h = cc
      get-tree (l ∷ ls) (suc k) e h = get-tree ls k e h

      get-coordinate : (ls : List Tree) (k : ℕ) (e : Tree) → slice_get ls k ≡ Some e → get_or (map (coordinate m s p x) ls) k 0 ≡ coordinate m s p x e
      get-coordinate [] k e h = absurd (cc)
      get-coordinate (l ∷ ls) zero e h = let q : l ≡ e = cc in ap (coordinate m s p x) q
      get-coordinate (l ∷ ls) (suc k) e h = get-coordinate ls k e h

      tree-Mem : (ls : List Tree) (k : ℕ) (e : Tree) → slice_get ls k ≡ Some e → Mem e ls
      tree-Mem [] k e h = absurd (cc)
      tree-Mem (l ∷ ls) zero e h = inl (cc)
      tree-Mem (l ∷ ls) (suc k) e h = inr (tree-Mem ls k e h)

      nat-back : (a : ℤ) → pos 0 ≤ℤ a → pos (nat_of a) ≡ a
      nat-back (pos n) h = refl
      nat-back (negsuc n) h = absurd (omega (arith, ints))

      back : (z lo : ℤ) → lo ≤ℤ z → pos (nat_of (z -ℤ lo)) +ℤ lo ≡ z
      back z lo h = let d : pos (nat_of (z -ℤ lo)) ≡ z -ℤ lo = nat-back (z -ℤ lo) (omega (arith, ints)) in rw d (omega (arith, ints))

  pub index-value : (a : Axis) → val (index_of a) ≡ pos (index_at a x)
  index-value Rows = refl
  index-value Cols = refl

  pub justified-value : IsFound → (es known : List Tree) (e : Tree) (g : Give) → ((t : Tree) → has known t ≡ true → has es t ≡ true) → ((t : Tree) → Mem t es → Member t) → Justified p.queries known e g
      → give_value s p f (env_of es) g ≡ Some (val e)
  justified-value fo es known e (Itself c) sub v j = ap Some (ap val (sym j))
  justified-value fo es known e (OfLevel k) sub v j = absurd j
  justified-value fo es known e (Plus a b) sub v (ha, hb, inl q) = rw (seen-has es a (sub a ha), seen-has es b (sub b hb)) (ap Some (sym (ap val q)))
  justified-value fo es known e (Plus a b) sub v (ha, hb, inr q) =
      rw (seen-has es a (sub a ha), seen-has es b (sub b hb)) (ap Some (plus_back (val a) (val e) (val b) (ap val q)))
    where
      plus_back : (a e b : ℤ) → a ≡ e -ℤ b → a +ℤ b ≡ e
      plus_back a e b h = omega (arith, ints)
  justified-value fo es known e (Minus a b) sub v (ha, hb, inl q) = rw (seen-has es a (sub a ha), seen-has es b (sub b hb)) (ap Some (sym (ap val q)))
  justified-value fo es known e (Minus a b) sub v (ha, hb, inr (inl q)) =
      rw (seen-has es a (sub a ha), seen-has es b (sub b hb)) (ap Some (minus_back (val a) (val e) (val b) (ap val q)))
    where
      minus_back : (a e b : ℤ) → a ≡ e +ℤ b → a -ℤ b ≡ e
      minus_back a e b h = omega (arith, ints)
  justified-value fo es known e (Minus a b) sub v (ha, hb, inr (inr (inl q))) =
      rw (seen-has es a (sub a ha), seen-has es b (sub b hb)) (ap Some (minus_back (val a) (val e) (val b) (ap val q)))
    where
      minus_back : (a e b : ℤ) → a ≡ b +ℤ e → a -ℤ b ≡ e
      minus_back a e b h = omega (arith, ints)
  justified-value fo es known e (Minus a b) sub v (ha, hb, inr (inr (inr q))) =
      rw (seen-has es a (sub a ha), seen-has es b (sub b hb)) (ap Some (minus_back (val a) (val e) (val b) (ap val q)))
    where
      minus_back : (a e b : ℤ) → b ≡ a -ℤ e → a -ℤ b ≡ e
      minus_back a e b h = omega (arith, ints)
  justified-value fo es known e (Joined q r k) sub v (hq, hr, u, w) =
      let iv : IsWithin p.names (Quotient e k) = subst (IsWithin p.names) u (so.within q (v q (Mem-has es q (sub q hq)))) in
      rw (seen-has es q (sub q hq), seen-has es r (sub r hr)) (ap Some (ap₂ (λ (a b : ℤ). a *ℤ pos k +ℤ b) (ap val u) (ap val w) ∙ joined-is (val e) k iv.0))
  justified-value fo es known e (Over a k) sub v (ha, q) = rw (seen-has es a (sub a ha)) (ap Some (sym (ap val q)))
  justified-value fo es known e (Rest a k) sub v (ha, q) = rw (seen-has es a (sub a ha)) (ap Some (sym (ap val q)))
  justified-value fo es known e (OrderAt q u) sub v (hu, (w, a, at, r, t)) =
      rw (seen-has es u (sub u hu)) (ap Some (ap (λ z. cell (nth f.tables q) (nat_of (val z))) r ∙ fo.order q w a at ∙ sym (index-value (axis_of a)) ∙ sym (ap val t)))
  justified-value fo es known e (RowsAt q l t) sub v (hl, ht, (a, b, c, n, at, u, w, r)) =
      rw (seen-has es l (sub l hl), seen-has es t (sub t ht)) (ap Some (less_one _ (pos (index_at (axis_of c) x))
      (ap₂ (λ (y z : Tree). cell (nth f.tables q) (nat_of (val y) * get_or f.extents q 0 + nat_of (val z))) u w ∙ fo.rows q a b c n at) ∙ sym (index-value (axis_of c)) ∙ sym (ap val r)))
    where
      less_one : (a b : ℤ) → a ≡ b +ℤ pos 1 → a -ℤ pos 1 ≡ b
      less_one a b h = omega (arith, ints)

  pub start-value : IsFound → (es : List Tree) (e : Tree) (g : Give) → Starts p.levels e g → give_value s p f (env_of es) g ≡ Some (val e)
  start-value fo es e (Itself c) h = ap Some (ap val (sym h))
  start-value fo es e (OfLevel k) h = ap Some (level-value fo k e h)
  start-value fo es e (Plus a b) h = absurd h
  start-value fo es e (Minus a b) h = absurd h
  start-value fo es e (Joined q r k) h = absurd h
  start-value fo es e (Over a k) h = absurd h
  start-value fo es e (Rest a k) h = absurd h
  start-value fo es e (OrderAt q v) h = absurd h
  start-value fo es e (RowsAt q l t) h = absurd h

  pub step-value : IsFound → (es known : List Tree) (e : Tree) (g : Give) → ((t : Tree) → has known t ≡ true → has es t ≡ true) → ((t : Tree) → Mem t es → Member t) → StepOk p.queries p.levels known e g
      → give_value s p f (env_of es) g ≡ Some (val e)
  step-value fo es known e g sub v (inl h) = start-value fo es e g h
  step-value fo es known e g sub v (inr j) = justified-value fo es known e g sub v j

  pub checked-value : IsFound → (e : Tree) (g : Give) → Member e → checked (level_range s f.extents p e) g (val e) ≡ Some (val e)
  checked-value fo e g w = go g
    where
      li : LiesIn (val e) (level_range s (extents_of m s p) p e)
      li = lies m s p so x mx e w

      inside : lies_in (level_range s f.extents p e) (val e) ≡ true
      inside = rw fo.extents (and_from _ _ (le-true _ _ li.low) (le-true _ _ li.high))

      go : (g : Give) → checked (level_range s f.extents p e) g (val e) ≡ Some (val e)
      go (Itself c) = refl
      go (OfLevel k) = refl
      go (Plus a b) = rw inside refl
      go (Minus a b) = rw inside refl
      go (Joined q r k) = rw inside refl
      go (Over a k) = rw inside refl
      go (Rest a k) = rw inside refl
      go (OrderAt q v) = rw inside refl
      go (RowsAt q l t) = rw inside refl

  pub has-snoc : (known : List Tree) (e t : Tree) → has (known ++ e ∷ []) t ≡ true → (has known t ≡ true) ⊎ (e ≡ t)
  has-snoc [] e t h = go (or_cases _ _ h)
    where
      go : ((same_tree e t ≡ true) ⊎ (false ≡ true)) → (has [] t ≡ true) ⊎ (e ≡ t)
      go (inl q) = inr (same_tree-true e t q)
      go (inr q) = absurd (false≢true q)
  has-snoc (a ∷ known) e t h = go (or_cases _ _ h) (has-snoc known e t)
    where
      go : ((same_tree a t ≡ true) ⊎ (has (known ++ e ∷ []) t ≡ true)) → (has (known ++ e ∷ []) t ≡ true → (has known t ≡ true) ⊎ (e ≡ t)) → (has (a ∷ known) t ≡ true) ⊎ (e ≡ t)
      go (inl q) ih = inl (or_left _ _ q)
      go (inr q) ih = up (ih q)
        where
          up : ((has known t ≡ true) ⊎ (e ≡ t)) → (has (a ∷ known) t ≡ true) ⊎ (e ≡ t)
          up (inl k) = inl (or_right _ _ k)
          up (inr k) = inr k

  pub recover-is : IsFound → (steps : Steps) (known es : List Tree) → Chain Member p.queries p.levels known steps → ((t : Tree) → has known t ≡ true → has es t ≡ true) → ((t : Tree) → Mem t es → Member t)
      → has (known ++ known_of steps) RowIndex ≡ true → has (known ++ known_of steps) ColIndex ≡ true → recover s p f steps (env_of es) ≡ Some (pos x.i, pos x.j)
  recover-is fo [] known es c sub v hi hj =
      rw (seen-has es RowIndex (sub RowIndex (subst (λ (l : List Tree). has l RowIndex ≡ true) (append-nil known) hi)), seen-has es ColIndex (sub ColIndex (subst (λ (l : List Tree). has l ColIndex ≡ true) (append-nil known) hj))) refl
  recover-is fo (a ∷ steps) known es c sub v hi hj =
      go (both-either es) (rest (recover-is fo steps (known ++ a.0 ∷ []) (a.0 ∷ es) c.2 more within
      (subst (λ (l : List Tree). has l RowIndex ≡ true) (sym (append_assoc known (a.0 ∷ []) (known_of steps))) hi)
      (subst (λ (l : List Tree). has l ColIndex ≡ true) (sym (append_assoc known (a.0 ∷ []) (known_of steps))) hj)))
    where
      more : (t : Tree) → has (known ++ a.0 ∷ []) t ≡ true → has (a.0 ∷ es) t ≡ true
      more t h = pick (has-snoc known a.0 t h)
        where
          pick : ((has known t ≡ true) ⊎ (a.0 ≡ t)) → has (a.0 ∷ es) t ≡ true
          pick (inl k) = or_right _ _ (sub t k)
          pick (inr q) = has-Mem (a.0 ∷ es) t (inl q)

      within : (t : Tree) → Mem t (a.0 ∷ es) → Member t
      within t (inl q) = subst (λ (z : Tree). Member z) q c.0
      within t (inr h) = v t h

      rest : recover s p f steps (env_of (a.0 ∷ es)) ≡ Some (pos x.i, pos x.j) → or_else None (then_do (give_value s p f (env_of es) a.1) (λ z. then_do (checked (level_range s f.extents p a.0) a.1 z) (λ w. recover s p f steps ((a.0, w) ∷ env_of es)))) ≡ Some (pos x.i, pos x.j)
      rest ih = rw (step-value fo es known a.0 a.1 sub v c.1, checked-value fo a.0 a.1 c.0) ih

      go : ((both (env_of es) ≡ Some (pos x.i, pos x.j)) ⊎ (both (env_of es) ≡ None)) → or_else None (then_do (give_value s p f (env_of es) a.1) (λ z. then_do (checked (level_range s f.extents p a.0) a.1 z) (λ w. recover s p f steps ((a.0, w) ∷ env_of es)))) ≡ Some (pos x.i, pos x.j)
          → recover s p f (a ∷ steps) (env_of es) ≡ Some (pos x.i, pos x.j)
      go (inl h) r = rw h refl
      go (inr h) r = rw h r

  -- the pair is recovered
  pub recovered-is : IsFound → recovered s p f ≡ Some (pos x.i, pos x.j)
  recovered-is fo =
      recover-is fo (given_steps p.levels p.queries (length p.levels)) [] []
      (subst (λ (l : List Tree). Chain Member p.queries l [] (given_steps p.levels p.queries (length p.levels))) (take_all (length p.levels) p.levels (omega arith))
      (chain-given Member p.levels p.queries (length p.levels) (λ e m. m)))
      (λ t h. h) (λ t h. absurd h) so.row_known so.col_known
