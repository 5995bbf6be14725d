-- What a level of the block leaves.
use Rattle.std.proofs.Common.{◌≡◌, ℕ, zero, suc, ◌+◌, ◌-◌, ◌*◌, ◌<◌, List, length, Bool, true, false, cond, nat_eq, sym, refl, ap, ◌∙◌, subst, arith, ℤ, pos}
use Rattle.std.proofs.Math.Path.{fun_ext}
use Rattle.us_code.specs.Run.{State, size_of, value}
use Rattle.us_format.specs.declared.Kind.{Kind}
use Rattle.us_format.specs.declared.Kind.TheVariants.{Full, Compressed, Listed, Slot}
use Rattle.us_format.specs.Kinds.{Level}
use Rattle.us_format.specs.Positions.{Row, count_below}
use Rattle.us_running.specs.Running.{is_new, counted, seen, below, written, less_one, Table}
use Rattle.us_running.proofs.Running.{all-numbered}
use Rattle.us_running.proofs.Marks.{below_all, below_none}
use Rattle.us_gen_build.specs.declared.levels.Role.{Role}
use Rattle.us_gen_build.specs.declared.levels.Role.TheVariants as role
use Rattle.us_gen_build.specs.Levels.{LevelTree}
use Rattle.us_gen_build.specs.Turns.{Turns, keys, inside, writes_crd, is_at_rank}
use Rattle.us_gen_build.specs.Turns as turns
use Rattle.us_gen_build.specs.Blocks.{LevelBuilt, pos_cell}
use Rattle.us_gen_build_laws.specs.Rows.{row}
use Rattle.us_gen_build_laws.specs.Ready.{IsReady}
use Rattle.us_gen_build_laws.specs.Numbering.{Suits, AreAt, opens, under, keys_of}
use Rattle.us_gen_build_laws.specs.Built.{AreWritten, AreStarts, IsBuilt}
use Rattle.us_build_loops.specs.Standing.{numbering_of, taken_of, has_starts, has_number, Spreads, StandsFor, StoresValues}
use Rattle.us_build_loops.specs.Finished.{Fills, lists_in}
use Rattle.us_build_loops.proofs.Needs.{writes-number, inside-is, here}

pub table_resized : (cells : List ℤ) (m k : ℕ) (f : ℕ → ℤ) → m ≡ k → Table cells m f → Table cells k f
table_resized cells m k f e t = subst (λ (z : ℕ). Table cells z f) e t

-- ---- coordinates

-- cells that each entry writes
each-writes : (count : ℕ) (place to : ℕ → ℕ) (what value : ℕ → ℤ) (m : ℕ) (cells : List ℤ) → ((x : ℕ) → x < count → to x ≡ place x) → ((x : ℕ) → x < count → what x ≡ value x) → Table cells m (written (λ y. true) to what count) → AreWritten count place value m cells
each-writes count place to what value m cells places values t = record {
  writes = λ y. true;
  to = to;
  what = what;
  places = places;
  values = values;
  first = λ h. refl;
  skips = λ x h e. absurd cc;
  table = t;
}

module _ (T : Turns) (l : LevelTree) where
  -- what a level of each role leaves in `crd`
  pub crd-written : (r : Role) (at : ℕ → ℕ) (m : ℕ) (u : State) → writes_crd r ≡ true → ((x : ℕ) → x < T.count → is_at_rank r ≡ true → at x ≡ x) → (what : ℕ → ℤ) → ((x : ℕ) → x < T.count → value T.env (T.held x) l.coord ≡ what x)
      → size_of T.env l.crd_length ≡ m → LevelBuilt T r l at u → AreWritten T.count (turns.position_of r (T.wide l) at (T.coord l)) what m (u.bufs (l.first + 1))
  crd-written role.Shared at m u e rank what is size i = record {
    writes = is_new (keys T l at);
    to = turns.position_of role.Shared (T.wide l) at (T.coord l);
    what = λ y. value T.env (T.held y) l.coord;
    places = λ x h. refl;
    values = is;
    first = λ h. refl;
    skips = λ x h z. sym (ap (λ (b : Bool). cond b (seen (keys T l at) (suc x) + 1) (seen (keys T l at) (suc x)) - 1) z);
    table = table_resized (u.bufs (l.first + 1)) (size_of T.env l.crd_length) m (turns.shared_cells T l at T.count) size i.1;
  }
  crd-written role.Single at m u e rank what is size i =
      each-writes T.count (λ y. y) (λ y. y) (λ y. value T.env (T.held y) l.coord) what m (u.bufs (l.first + 1)) (λ x h. refl) is
      (table_resized (u.bufs (l.first + 1)) (size_of T.env l.crd_length) m (turns.cells_at T l (λ y. y) T.count) size i.1)
  crd-written role.AtPosition at m u e rank what is size i =
      each-writes T.count at at (λ y. value T.env (T.held y) l.coord) what m (u.bufs (l.first + 1)) (λ x h. refl) is
      (table_resized (u.bufs (l.first + 1)) (size_of T.env l.crd_length) m (turns.cells_at T l at T.count) size i)
  crd-written role.AtRank at m u e rank what is size i =
      each-writes T.count at (λ y. y) (λ y. value T.env (T.held y) l.coord) what m (u.bufs (l.first + 1)) (λ x h. sym (rank x h refl)) is
      (table_resized (u.bufs (l.first + 1)) (size_of T.env l.crd_length) m (turns.cells_at T l (λ y. y) T.count) size i)
  crd-written role.Full at m u e rank what is size i = absurd cc
  crd-written role.Counted at m u e rank what is size i = absurd cc
  crd-written role.Marked at m u e rank what is size i = absurd cc
  crd-written role.Kept at m u e rank what is size i = absurd cc

  -- ---- counts

  pub node-left : (r : Role) (at : ℕ → ℕ) (u : State) → r ≡ role.Counted → LevelBuilt T r l at u → u.regs (l.first + 1) ≡ less_one (seen (keys T l at) T.count)
  node-left role.Counted at u e i = i.node
  node-left role.Shared at u e i = absurd cc
  node-left role.Full at u e i = absurd cc
  node-left role.Single at u e i = absurd cc
  node-left role.AtPosition at u e i = absurd cc
  node-left role.AtRank at u e i = absurd cc
  node-left role.Marked at u e i = absurd cc
  node-left role.Kept at u e i = absurd cc

-- ---- a level that stands for one of the format

module _ (T : Turns) (l : LevelTree) (k : Level) (behind : List Level) (n : ℕ) (rows : List Row) (at : ℕ → ℕ) (entries : length rows ≡ T.count) (ready : IsReady k behind n rows) (ats : AreAt rows at) (st : StandsFor T l k behind n rows at) (u : State) (built : LevelBuilt T l.role l at u) where
  pub keys-are : keys T l at ≡ keys_of (taken_of T l) k.size at
  keys-are = fun_ext (λ x. ap (λ (w : ℕ). at x * w + T.coord l x) st.width)

  -- the running number ends with the number of positions
  pub seen-is : (r : Role) → l.role ≡ r → seen (keys_of (taken_of T l) k.size at) (length rows) ≡ count_below k.kind k.size n rows → seen (keys T l at) T.count ≡ count_below k.kind k.size n rows
  seen-is r e h = ap (λ (f : ℕ → ℕ). seen f T.count) keys-are ∙ (ap (seen (keys_of (taken_of T l) k.size at)) (sym entries) ∙ h)

  pub count-is : l.role ≡ role.Counted → u.regs (l.first + 1) ≡ less_one (count_below k.kind k.size n rows)
  count-is e = node-left T l l.role at u e built ∙ ap less_one (seen-is role.Counted e ((here T l k behind n rows at entries ready ats st).counted (ap numbering_of e)))

  -- how many entries open a node
  opened : (r : Role) → l.role ≡ r → has_starts r ≡ true → counted (opens (numbering_of r) (keys T l at)) T.count ≡ count_below k.kind k.size n rows
  opened role.Shared e h = seen-is role.Shared e ((here T l k behind n rows at entries ready ats st).counted (ap numbering_of e))
  opened role.Single e h =
      all-numbered (λ x. true) T.count (λ x g. refl) T.count (omega arith) ∙ (sym entries ∙ (here T l k behind n rows at entries ready ats st).ranked (ap numbering_of e))
  opened role.Marked e h =
      all-numbered (λ x. true) T.count (λ x g. refl) T.count (omega arith) ∙ (sym entries ∙ (here T l k behind n rows at entries ready ats st).ranked (ap numbering_of e))
  opened role.Kept e h = absurd cc
  opened role.Full e h = absurd cc
  opened role.AtPosition e h = absurd cc
  opened role.AtRank e h = absurd cc
  opened role.Counted e h = absurd cc

  -- both forms of `pos` are starts
  starts-either : (b : Bool) (new : ℕ → Bool) → l.is_top ≡ b → counted new T.count ≡ count_below k.kind k.size n rows → size_of T.env l.crd_length ≡ count_below k.kind k.size n rows → size_of T.env l.pos_length ≡ n + 1
      → Table (u.bufs l.first) (size_of T.env l.pos_length) (pos_cell T b l new at) → AreStarts T.count new at n (u.bufs l.first)
  starts-either false new e c d s t = table_resized (u.bufs l.first) (size_of T.env l.pos_length) (n + 1) (λ p. pos (below new at T.count p)) s t
  starts-either true new e c d s t = record { long = t.long ∙ s; each = λ y h. t.each y (omega (arith, h, s)) ∙ cell y (omega (arith, h, st.top e)) }
    where
      all : below new at T.count 1 ≡ size_of T.env l.crd_length
      all =
          below_all new at T.count 1 (λ x h. omega (arith, (here T l k behind n rows at entries ready ats st).above x (omega (arith, h, entries)), st.top e))
          ∙ (c ∙ sym d)

      cell : (y : ℕ) → y < 2 → cond (nat_eq 1 y) (pos (size_of T.env l.crd_length)) (pos 0) ≡ pos (below new at T.count y)
      cell zero h = ap pos (sym (below_none new at T.count))
      cell (suc zero) h = ap pos (sym all)
      cell (suc (suc y)) h = absurd (omega (arith, h))

  pub starts-left : (r : Role) → l.role ≡ r → has_starts r ≡ true → LevelBuilt T r l at u → AreStarts T.count (opens (numbering_of r) (keys T l at)) at n (u.bufs l.first)
  starts-left role.Shared e h i =
      starts-either l.is_top (is_new (keys T l at)) refl (opened role.Shared e h) (st.crd_length (subst (λ (r : Role). has_number r ≡ true) (sym e) refl)) (st.pos_length (subst (λ (r : Role). has_starts r ≡ true) (sym e) refl)) i.0
  starts-left role.Single e h i =
      starts-either l.is_top (λ x. true) refl (opened role.Single e h) (st.crd_length (subst (λ (r : Role). has_number r ≡ true) (sym e) refl)) (st.pos_length (subst (λ (r : Role). has_starts r ≡ true) (sym e) refl)) i.0
  starts-left role.Marked e h i =
      starts-either l.is_top (λ x. true) refl (opened role.Marked e h) (st.crd_length (subst (λ (r : Role). has_number r ≡ true) (sym e) refl)) (st.pos_length (subst (λ (r : Role). has_starts r ≡ true) (sym e) refl)) i
  starts-left role.Kept e h i = absurd cc
  starts-left role.Full e h i = absurd cc
  starts-left role.AtPosition e h i = absurd cc
  starts-left role.AtRank e h i = absurd cc
  starts-left role.Counted e h i = absurd cc

  -- ---- the lists of the level

  pub starts-here : has_starts l.role ≡ true → AreStarts (length rows) (opens (numbering_of l.role) (keys_of (taken_of T l) k.size at)) at n (u.bufs l.first)
  starts-here e =
      subst (λ (f : ℕ → ℕ). AreStarts (length rows) (opens (numbering_of l.role) f) at n (u.bufs l.first)) keys-are
      (subst (λ (v : ℕ). AreStarts v (opens (numbering_of l.role) (keys T l at)) at n (u.bufs l.first)) (sym entries) (starts-left l.role refl e built))

  pub cells-here : writes_crd l.role ≡ true → AreWritten (length rows) (under (taken_of T l) k.size at) (λ x. pos (T.coord l x)) (count_below k.kind k.size n rows) (u.bufs (l.first + 1))
  cells-here e =
      subst (λ (f : ℕ → ℕ). AreWritten (length rows) f (λ x. pos (T.coord l x)) (count_below k.kind k.size n rows) (u.bufs (l.first + 1))) (inside-is T l k behind n rows at entries ready ats st)
      (subst (λ (v : ℕ). AreWritten v (inside T l at) (λ x. pos (T.coord l x)) (count_below k.kind k.size n rows) (u.bufs (l.first + 1))) (sym entries)
      (crd-written T l l.role at (count_below k.kind k.size n rows) u e st.rank (λ x. pos (T.coord l x)) st.is_coord (st.crd_length (writes-number l.role e)) built))

  crd-of : (r : Role) (z : Kind) → Suits (numbering_of r) z → Fills r → (z ≡ Full → ⊥) → writes_crd r ≡ true
  crd-of role.Full Full s c f = absurd (f refl)
  crd-of role.Shared z s c f = refl
  crd-of role.Single z s c f = refl
  crd-of role.AtPosition z s c f = refl
  crd-of role.AtRank z s c f = refl
  crd-of role.Counted z s c f = absurd c
  crd-of role.Marked z s c f = absurd c
  crd-of role.Kept z s c f = absurd c
  crd-of role.Full _ s c f = absurd s

  pub starts-of : (r : Role) (z : Kind) → Suits (numbering_of r) z → (r ≡ role.Counted → ⊥) → (z ≡ Full → ⊥) → (z ≡ Slot → ⊥) → has_starts r ≡ true
  starts-of role.Full Full s c f g = absurd (f refl)
  starts-of role.Shared z s c f g = refl
  starts-of role.Single z s c f g = refl
  starts-of role.AtPosition Slot s c f g = absurd (g refl)
  starts-of role.AtRank Slot s c f g = absurd (g refl)
  starts-of role.Counted z s c f g = absurd (c refl)
  starts-of role.Marked z s c f g = refl
  starts-of role.Kept Slot s c f g = absurd (g refl)
  starts-of _ _ s c f g = absurd s

  not-counted : (r : Role) → Fills r → r ≡ role.Counted → ⊥
  not-counted r f e = subst Fills e f

  pub built-here : (z : Kind) → k.kind ≡ z → Fills l.role → IsBuilt z (taken_of T l) k.size n rows at (lists_in u l)
  built-here Full e c = tt
  built-here Compressed e c = (
    starts-here (starts-of l.role Compressed (subst (Suits (numbering_of l.role)) e st.suits) (not-counted l.role c) (λ q. cc) (λ q. cc)),
    subst (λ (z : Kind). AreWritten (length rows) (under (taken_of T l) k.size at) (λ x. pos (T.coord l x)) (count_below z k.size n rows) (u.bufs (l.first + 1))) e
        (cells-here (crd-of l.role Compressed (subst (Suits (numbering_of l.role)) e st.suits) c (λ q. cc))),
  )
  built-here Listed e c = (
    starts-here (starts-of l.role Listed (subst (Suits (numbering_of l.role)) e st.suits) (not-counted l.role c) (λ q. cc) (λ q. cc)),
    subst (λ (z : Kind). AreWritten (length rows) (under (taken_of T l) k.size at) (λ x. pos (T.coord l x)) (count_below z k.size n rows) (u.bufs (l.first + 1))) e
        (cells-here (crd-of l.role Listed (subst (Suits (numbering_of l.role)) e st.suits) c (λ q. cc))),
  )
  built-here Slot e c =
      subst (λ (z : Kind). AreWritten (length rows) (under (taken_of T l) k.size at) (λ x. pos (T.coord l x)) (count_below z k.size n rows) (u.bufs (l.first + 1))) e
      (cells-here (crd-of l.role Slot (subst (Suits (numbering_of l.role)) e st.suits) c (λ q. cc)))

-- ---- the values

pub values-here : (T : Turns) (l : LevelTree) (n : ℕ) (rows : List Row) (at : ℕ → ℕ) (u : State) → length rows ≡ T.count → StoresValues T l n rows at → LevelBuilt T l.role l at u → AreWritten (length rows) at (λ x. (row rows x).value) n (u.bufs (l.first + 1))
values-here T l n rows at u entries st built =
    subst (λ (v : ℕ). AreWritten v at (λ x. (row rows x).value) n (u.bufs (l.first + 1))) (sym entries) (go l.role st.spreads st.rank built)
  where
    go : (r : Role) → Spreads r → ((x : ℕ) → x < T.count → is_at_rank r ≡ true → at x ≡ x) → LevelBuilt T r l at u → AreWritten T.count at (λ x. (row rows x).value) n (u.bufs (l.first + 1))
    go role.AtPosition s rank i = crd-written T l role.AtPosition at n u refl rank (λ x. (row rows x).value) st.values st.crd_length i
    go role.AtRank s rank i = crd-written T l role.AtRank at n u refl rank (λ x. (row rows x).value) st.values st.crd_length i
    go _ s rank i = absurd s
