-- Cells that are read and written where the state says so.
use Rattle.std.proofs.Common.{◌≡◌, ◌≢◌, ℕ, zero, suc, ◌+◌, ◌<◌, Bool, true, false, cond, eqb, nat_lt, List, [], ◌∷◌, length, get_or, pos, ℤ, w64, refl, sym, ap, ◌∙◌, subst, arith}
use Rattle.std.specs.Prelude.{slice_set}
use Rattle.std.specs.Int.{cast_unsigned}
use Rattle.std.proofs.Math.Path.{fun_ext}
use Rattle.std.proofs.lemmas.Bool.Decides.{nat_tests}
use Rattle.std.proofs.lemmas.List.{get_or-set_same, get_or-set_other, length-set}
use Rattle.us_raw.specs.declared.width.Width.{Width}
use Rattle.us_raw.specs.declared.width.Width.TheVariants.{W8}
use Rattle.us_raw.specs.Plan.{widths_of}
use Rattle.us_raw.specs.Region.{Lists}
use Rattle.us_raw.specs.Widths.{Holds, HoldsAll}
use Rattle.us_code.specs.declared.program.Buf.{Buf}
use Rattle.us_code.specs.declared.program.Buf.TheVariants as buf
use Rattle.us_code.specs.Plain.{TermTree, End, Load, Set}
use Rattle.us_code.specs.Run.{State, put, exec, cells, value}
use Rattle.us_code.specs.Typing.{Context, buf_cell, kind_of, sees_buf, len_of, fine, fits}
use Rattle.us_code_laws.specs.Fits.{Fits}
use Rattle.us_code_laws.proofs.Sound.{fits_below, fits_in_cell, source_or, value_ok}
use Rattle.us_code_laws.proofs.Rules.{statement_rules}
use Rattle.us_machine.specs.declared.tables.Tables.{Tables}
use Rattle.us_machine.specs.Tables.{held, env_of, seg_of}
use Rattle.us_machine.specs.Walks.{Stands, Sized, Ready, state_of, bufs_of}

-- a list with a cell is one of the lists
pub listed : (xs : List (List ℤ)) (i x : ℕ) → x < length (get_or xs i []) → i < length xs
listed [] i x h = absurd (omega (arith, h))
listed (y ∷ ys) zero x h = omega arith
listed (y ∷ ys) (suc i) x h = omega (arith, listed ys i x h)

lt_of : (a b : ℕ) → nat_lt a b ≡ true → a < b
lt_of a b h = grind (arith, nat_tests)

-- a place of a buffer
pub record Indexed (t : Tables) (sources : List (List ℤ)) (r : Lists) (regs : ℕ → ℤ) (b : Buf) (at : TermTree) : Type 0 where
  pub index : ℕ
  pub is : value (env_of t sources) regs at ≡ pos index
  pub list : (n : ℕ) → get_or r.lists (seg_of t b) [] ≡ cells (env_of t sources) (state_of t r regs n) b
  pub within : (n : ℕ) → index < length (cells (env_of t sources) (state_of t r regs n) b)

module _ (t : Tables) (sources : List (List ℤ)) (r : Lists) (regs : ℕ → ℤ) (g : Context) where
  pub indexed : (b : Buf) (at : TermTree) → Fits g (env_of t sources) (state_of t r regs 0) → Sized t sources g → Stands t sources r → sees_buf g b ≡ true → fine g at ≡ true → fits (kind_of g at) (len_of g b) ≡ true → Indexed t sources r regs b at
  indexed (buf.New b) at f z st see fin fit =
      let a = fits_below (env_of t sources) (kind_of g at) (len_of g (buf.New b)) (value (env_of t sources) regs at) fit (value_ok g (env_of t sources) (state_of t r regs 0) at f fin) in
      let e = source_or g (env_of t sources) (state_of t r regs 0) (buf.New b) f see in
      record { index = a.0; is = a.1; list = λ n. refl; within = λ n. omega (arith, a.2, e) }
  indexed (buf.Source k) at f z st see fin fit =
      let a = fits_below (env_of t sources) (kind_of g at) (len_of g (buf.Source k)) (value (env_of t sources) regs at) fit (value_ok g (env_of t sources) (state_of t r regs 0) at f fin) in
      let e = source_or g (env_of t sources) (state_of t r regs 0) (buf.Source k) f see in
      let lt : k < length sources = omega (arith, lt_of k g.sources see, z.count) in
      record { index = a.0; is = a.1; list = λ n. st.given k lt; within = λ n. omega (arith, a.2, e) }

module _ (t : Tables) (sources : List (List ℤ)) (r : Lists) (regs : ℕ → ℤ) where
  -- the number that the code has in hand
  pub at_index : (b : Buf) (at : TermTree) (i : Indexed t sources r regs b at) (v : ℤ) (x : ℕ) → v ≡ value (env_of t sources) regs at → x ≡ cast_unsigned w64 v → x ≡ i.index
  at_index b at i v x e f = f ∙ ap (cast_unsigned w64) (e ∙ i.is)

  pub can_get : (b : Buf) (at : TermTree) (i : Indexed t sources r regs b at) (seg x : ℕ) → seg ≡ seg_of t b → x ≡ i.index → (seg < length r.lists) × (x < length (get_or r.lists seg []))
  can_get b at i seg x e f =
      let lt : x < length (get_or r.lists seg []) = omega (arith, f, i.within 0, ap (λ (s : ℕ). length (get_or r.lists s [])) e, ap (λ (xs : List ℤ). length xs) (i.list 0)) in
      (listed r.lists seg x lt, lt)

  pub loads : (b : Buf) (at : TermTree) (i : Indexed t sources r regs b at) (reg seg x : ℕ) (v : ℤ) (us : ℕ → ℤ) → seg ≡ seg_of t b → x ≡ i.index → v ≡ get_or (get_or r.lists seg []) x (pos 0) → us ≡ put regs reg v
      → (n : ℕ) → exec (env_of t sources) (Load reg b at End) (state_of t r regs n) ≡ state_of t r us (n + 1)
  loads b at i reg seg x v us e f c h n =
      let cell : v ≡ get_or (cells (env_of t sources) (state_of t r regs n) b) i.index (pos 0) =
      c ∙ (ap (λ (s : ℕ). get_or (get_or r.lists s []) x (pos 0)) e ∙ (ap (λ (k : ℕ). get_or (get_or r.lists (seg_of t b) []) k (pos 0)) f ∙ ap (λ (xs : List ℤ). get_or xs i.index (pos 0)) (i.list n))) in
      statement_rules.after_load (env_of t sources) reg b at End (state_of t r regs n) i.index i.is (i.within n)
      ∙ ap (λ (p : ℕ → ℤ). state_of t r p (n + 1)) (sym (h ∙ ap (put regs reg) cell))

-- a list with a cell isn't the one without
not_none : (xs : List (List ℤ)) (i x : ℕ) → get_or xs 0 [] ≡ [] → x < length (get_or xs i []) → 0 < i
not_none xs zero x e h = absurd (omega (arith, h, ap (λ (ys : List ℤ). length ys) e))
not_none xs (suc i) x e h = omega arith

eq_of : (a b : ℕ) → eqb a b ≡ true → a ≡ b
eq_of a b h = grind (arith, nat_tests)

ne_of : (a b : ℕ) → eqb a b ≡ false → a ≢ b
ne_of a b h = grind (arith, nat_tests)

module _ (t : Tables) (sources : List (List ℤ)) (r s : Lists) (b x : ℕ) (ys : List ℤ) (st : Stands t sources r) (lt : x < length (get_or r.lists (held t.segs b) [])) (long : length ys ≡ length (get_or r.lists (held t.segs b) [])) (lists : s.lists ≡ slice_set r.lists (held t.segs b) ys) (widths : s.widths ≡ r.widths) (hold : HoldsAll (get_or r.widths (held t.segs b) W8) ys) where
  positive : 0 < held t.segs b
  positive = not_none r.lists (held t.segs b) x st.none lt

  there : held t.segs b < length r.lists
  there = listed r.lists (held t.segs b) x lt

  list_at : (i : ℕ) → get_or s.lists i [] ≡ get_or (slice_set r.lists (held t.segs b) ys) i []
  list_at i = ap (λ (xs : List (List ℤ)). get_or xs i []) lists

  same_at : get_or s.lists (held t.segs b) [] ≡ ys
  same_at = list_at (held t.segs b) ∙ get_or-set_same r.lists (held t.segs b) ys [] there

  other_at : (i : ℕ) → i ≢ held t.segs b → get_or s.lists i [] ≡ get_or r.lists i []
  other_at i ne = list_at i ∙ get_or-set_other r.lists (held t.segs b) i ys [] ne

  -- one buffer has other cells
  pub buffer_set : bufs_of t s ≡ put (bufs_of t r) b ys
  unfolding put
  buffer_set = fun_ext (λ y. at y (eqb b y) (eq_of b y) (ne_of b y))
    where
      at : (y : ℕ) (q : Bool) → (q ≡ true → b ≡ y) → (q ≡ false → b ≢ y) → get_or s.lists (held t.segs y) [] ≡ cond q ys (get_or r.lists (held t.segs y) [])
      at y true e n = ap (λ (z : ℕ). get_or s.lists (held t.segs z) []) (sym (e refl)) ∙ same_at
      at y false e n = other_at (held t.segs y) (λ h. n refl (st.apart b y positive (sym h)))

  length_at : (i : ℕ) (q : Bool) → (q ≡ true → i ≡ held t.segs b) → (q ≡ false → i ≢ held t.segs b) → length (get_or s.lists i []) ≡ length (get_or r.lists i [])
  length_at i true e n = ap (λ (z : ℕ). length (get_or s.lists z [])) (e refl) ∙ (ap (λ (zs : List ℤ). length zs) same_at ∙ (long ∙ ap (λ (z : ℕ). length (get_or r.lists z [])) (sym (e refl))))
  length_at i false e n = ap (λ (zs : List ℤ). length zs) (other_at i (n refl))

  fits_at : (i : ℕ) (q : Bool) → (q ≡ true → i ≡ held t.segs b) → (q ≡ false → i ≢ held t.segs b) → HoldsAll (get_or s.widths i W8) (get_or s.lists i [])
  fits_at i true e n =
      subst (λ (ws : List Width). HoldsAll (get_or ws i W8) (get_or s.lists i [])) (sym widths)
      (subst (λ (k : ℕ). HoldsAll (get_or r.widths k W8) (get_or s.lists k [])) (sym (e refl))
      (subst (λ (zs : List ℤ). HoldsAll (get_or r.widths (held t.segs b) W8) zs) (sym same_at) hold))
  fits_at i false e n =
      subst (λ (ws : List Width). HoldsAll (get_or ws i W8) (get_or s.lists i [])) (sym widths)
      (subst (λ (zs : List ℤ). HoldsAll (get_or r.widths i W8) zs) (sym (other_at i (n refl))) (st.fit i))

  pub still_stands : Stands t sources s
  still_stands = record {
    none = other_at 0 (λ h. omega (arith, h, positive)) ∙ st.none;
    given = λ k h. other_at (k + 1) (λ e. omega (arith, e, h, st.behind b positive)) ∙ st.given k h;
    apart = st.apart;
    behind = st.behind;
    planned = λ i. length_at i (eqb i (held t.segs b)) (eq_of i (held t.segs b)) (ne_of i (held t.segs b)) ∙ st.planned i;
    widths = widths ∙ st.widths;
    few = st.few;
    long = ap (λ (xs : List (List ℤ)). length xs) lists ∙ (length-set r.lists (held t.segs b) ys ∙ st.long);
    listed = st.listed;
    after = st.after;
    fit = λ i. fits_at i (eqb i (held t.segs b)) (eq_of i (held t.segs b)) (ne_of i (held t.segs b));
  }

set_holds : (w : Width) (xs : List ℤ) (k : ℕ) (v : ℤ) → k < length xs → HoldsAll w xs → Holds w v → HoldsAll w (slice_set xs k v)
set_holds w xs k v lt all h i le = at (eqb i k) (eq_of i k) (ne_of i k)
  where
    at : (q : Bool) → (q ≡ true → i ≡ k) → (q ≡ false → i ≢ k) → Holds w (get_or (slice_set xs k v) i (pos 0))
    at true e n = subst (λ (z : ℤ). Holds w z) (sym (ap (λ (j : ℕ). get_or (slice_set xs k v) j (pos 0)) (e refl) ∙ get_or-set_same xs k v (pos 0) lt)) h
    at false e n = subst (λ (z : ℤ). Holds w z) (sym (get_or-set_other xs k i v (pos 0) (n refl))) (all i (omega (arith, le, length-set xs k v)))

-- what `set` needs and does
module _ (t : Tables) (sources : List (List ℤ)) (r : Lists) (regs : ℕ → ℤ) (g : Context) where
  pub holds : (b : ℕ) (at e : TermTree) → Ready t sources r regs g (Set (buf.New b) at e End) → (v : ℤ) (seg : ℕ) → v ≡ value (env_of t sources) regs e → seg ≡ held t.segs b → Holds (get_or r.widths seg W8) v
  holds b at e y v seg same here =
      let i = fits_in_cell (env_of t sources) (kind_of g e) (buf_cell (g.bufs b)) (value (env_of t sources) regs e) y.typed.5 (value_ok g (env_of t sources) (state_of t r regs 0) e y.fits y.typed.3) in
      let h = y.sized.wide b (value (env_of t sources) regs e) y.typed.1 i in
      subst (λ (ws : List _). Holds (get_or ws seg W8) v) (sym y.stands.widths)
      (subst (λ (k : ℕ). Holds (get_or (widths_of t.plan.items) k W8) v) (sym here)
      (subst (λ (z : ℤ). Holds (get_or (widths_of t.plan.items) (held t.segs b) W8) z) (sym same) h))

  pub sets : (b : ℕ) (at e : TermTree) (i : Indexed t sources r regs (buf.New b) at) (s : Lists) (seg x : ℕ) (v : ℤ) → Stands t sources r → Holds (get_or r.widths (held t.segs b) W8) (value (env_of t sources) regs e) → seg ≡ held t.segs b → x ≡ i.index → v ≡ value (env_of t sources) regs e → s.lists ≡ slice_set r.lists seg (slice_set (get_or r.lists seg []) x v) → s.widths ≡ r.widths
      → ((n : ℕ) → exec (env_of t sources) (Set (buf.New b) at e End) (state_of t r regs n) ≡ state_of t s regs (n + 1)) × Stands t sources s
  sets b at e i s seg x v st hv here f same lists widths =
      let old = get_or r.lists (held t.segs b) [] in
      let new = slice_set old i.index (value (env_of t sources) regs e) in
      let ls : s.lists ≡ slice_set r.lists (held t.segs b) new =
      lists ∙ (ap (λ (k : ℕ). slice_set r.lists k (slice_set (get_or r.lists k []) x v)) here
      ∙ (ap (λ (k : ℕ). slice_set r.lists (held t.segs b) (slice_set old k v)) f
      ∙ ap (λ (z : ℤ). slice_set r.lists (held t.segs b) (slice_set old i.index z)) same)) in
      let hold = set_holds (get_or r.widths (held t.segs b) W8) old i.index (value (env_of t sources) regs e) (i.within 0) (st.fit (held t.segs b)) hv in
      let long : length new ≡ length old = length-set old i.index (value (env_of t sources) regs e) in (
        λ n. statement_rules.after_set (env_of t sources) b at e End (state_of t r regs n) i.index i.is (i.within n)
            ∙ ap (λ (p : ℕ → List ℤ). let u : State = record { regs = regs; bufs = p; steps = n + 1; stuck = false } in u) (sym (buffer_set t sources r s b i.index new st (i.within 0) long ls widths hold)),
        still_stands t sources r s b i.index new st (i.within 0) long ls widths hold,
      )

module _ (t : Tables) (sources : List (List ℤ)) (r : Lists) (regs : ℕ → ℤ) (g : Context) where
  pub load_index : (reg : ℕ) (b : Buf) (at : TermTree) → Ready t sources r regs g (Load reg b at End) → Indexed t sources r regs b at
  load_index reg b at y = indexed t sources r regs g b at y.fits y.sized y.stands y.typed.1 y.typed.2 y.typed.3

  pub set_index : (b : Buf) (at e : TermTree) → Ready t sources r regs g (Set b at e End) → Indexed t sources r regs b at
  set_index b at e y = indexed t sources r regs g b at y.fits y.sized y.stands y.typed.1 y.typed.2 y.typed.4

  pub any_holds : (b : Buf) (at e : TermTree) → Ready t sources r regs g (Set b at e End) → (v : ℤ) (seg : ℕ) → v ≡ value (env_of t sources) regs e → seg ≡ seg_of t b → Holds (get_or r.widths seg W8) v
  any_holds (buf.New b) at e y v seg same here = holds t sources r regs g b at e y v seg same here
  any_holds (buf.Source b) at e y v seg same here = absurd (let h : false ≡ true = y.typed.0 in cc)

  pub any_sets : (b : Buf) (at e : TermTree) → Ready t sources r regs g (Set b at e End) → (i : Indexed t sources r regs b at) (s : Lists) (seg x : ℕ) (v : ℤ) → seg ≡ seg_of t b → x ≡ i.index → v ≡ value (env_of t sources) regs e → s.lists ≡ slice_set r.lists seg (slice_set (get_or r.lists seg []) x v) → s.widths ≡ r.widths
      → ((n : ℕ) → exec (env_of t sources) (Set b at e End) (state_of t r regs n) ≡ state_of t s regs (n + 1)) × Stands t sources s
  any_sets (buf.New b) at e y i s seg x v here f same lists widths = sets t sources r regs g b at e i s seg x v y.stands (holds t sources r regs g b at e y (value (env_of t sources) regs e) (held t.segs b) refl refl) here f same lists widths
  any_sets (buf.Source b) at e y i s seg x v here f same lists widths = absurd (let h : false ≡ true = y.typed.0 in cc)
