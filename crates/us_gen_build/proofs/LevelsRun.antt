-- What the loop's body does to each level, and to all levels.
use Rattle.std.proofs.Common.{◌≡◌, ◌≢◌, ℕ, zero, suc, ◌+◌, ◌-◌, ◌*◌, ◌^◌, ◌<◌, ◌≤◌, Bool, true, false, cond, not, nat_eq, refl, sym, ap, ap₂, ◌∙◌, subst, arith, List, [], ◌∷◌, length, pos, ℤ, ◌+ℤ◌}
use Rattle.std.specs.Prelude.{slice_set}
use Rattle.std.specs.Int.{int_wrap}
use mir.Syntax.{w64}
use Rattle.us_code.specs.Plain.{TermTree, Number, Reg, Add, Code}
use Rattle.us_code.specs.Run.{Env, State, size_of, value, tick, set_reg, set_buf, test}
use Rattle.us_code_laws.specs.Does.{Does}
use Rattle.us_code_laws.proofs.Sequence.{put_same, put_other}
use Rattle.us_code_laws.proofs.Does.{do_end, do_weaker, do_put, do_set, do_when, do_if_yes, do_if_no}
use Rattle.us_running.specs.Running.{is_new, seen, less_one, written, Table}
use Rattle.us_running.proofs.Running.{table_set, table_same, table_moved, seen_up, ever}
use Rattle.us_gen_build.specs.declared.levels.Role.{Role}
use Rattle.us_gen_build.specs.declared.levels.Role.TheVariants.{Full, Shared, Single, AtPosition, AtRank, Counted, Marked, Kept}
use Rattle.us_gen_build.specs.Levels.{LevelTree, under, mark, block_of, below_of, levels}
use Rattle.us_gen_build.specs.Turns.{Turns, position_of, has_key, Reads, IsSameOutside, names_end, LevelsTakeEntries}
use Rattle.us_gen_build.specs.Turns as turns
use Rattle.us_gen_build.proofs.Terms.{reads_more, value_stays, add_one, step_up, under_value, under_reads, test_key, not_new}

plus_one : (a : ℕ) → a + 1 ≡ suc a
plus_one a = omega arith

some_seen : (K : ℕ → ℕ) (x : ℕ) → is_new K x ≡ false → 1 ≤ seen K x
some_seen K zero h = absurd cc
some_seen K (suc x) h = ever K x

pub less_pos : (a b : ℕ) → b ≡ a → 1 ≤ a → less_one a ≡ pos (b - 1)
less_pos zero b e h = absurd (omega (arith, h))
less_pos (suc a) b e h = let q : a ≡ b - 1 = omega (arith, e) in ap pos q

-- a mark, whatever stands after it
pub mark_does : (env : Env) (top : Bool) (l : LevelTree) (q t : TermTree) (rest : Code) (s : State) (Q : State → Type 0) (a m : ℕ) (v : ℤ) (f : ℕ → ℤ) → value env s.regs q ≡ pos a → a + 1 < 2 ^ 63 → (top ≡ false → (size_of env l.pos_length ≡ m) × (a + 1 < m)) → Reads (l.first + 2) t → value env s.regs t ≡ v → Table (s.bufs l.first) m f → ((u : State) → ((r : ℕ) → l.first + 2 ≢ r → u.regs r ≡ s.regs r) → ((b : ℕ) → l.first ≢ b → u.bufs b ≡ s.bufs b) → Table (u.bufs l.first) m (λ p. cond (not top) (cond (nat_eq (a + 1) p) v (f p)) (f p)) → u.steps ≤ s.steps + 2 → Does env rest u Q) → Does env (mark top l q t rest) s Q
mark_does env true l q t rest s Q a m v f eq small more rt et table end = end s (λ r h. refl) (λ b h. refl) table (omega arith)
mark_does env false l q t rest s Q a m v f eq small more rt et table end =
    let n = l.first in
    let s1 = set_reg (n + 2) (pos (a + 1)) (tick 1 s) in
    let v1 = value env s1.regs t in
    let s2 = set_buf n (slice_set (s1.bufs n) (a + 1) v1) (tick 1 s1) in
    let here : s1.regs (n + 2) ≡ pos (a + 1) = put_same s.regs (n + 2) _ in
    let ev : v1 ≡ v = value_stays env (n + 2) t s.regs s1.regs rt (λ r h. put_other s.regs (n + 2) _ r (omega arith)) ∙ et in
    let m1 = more refl in
    let t2 : Table (s2.bufs n) m (λ p. cond (nat_eq (a + 1) p) v (f p)) = subst (λ (ys : List ℤ). Table ys m (λ p. cond (nat_eq (a + 1) p) v (f p))) (sym (put_same s1.bufs n _ ∙ ap (slice_set (s.bufs n) (a + 1)) ev)) (table_set (s.bufs n) m (a + 1) v f m1.1 table) in
    do_when env _ _ (n + 2) _ _ _ _ s _ (a + 1) (add_one _ a eq small) (omega (arith, m1.0, m1.1))
    (do_set env n _ _ _ s1 _ (a + 1) here (omega (arith, m1.1, table.long))
    (do_end env _ _ (end s2 (λ r h. put_other s.regs (n + 2) _ r h) (λ b h. put_other s1.bufs n _ b h) t2 (omega arith))))

module _ (T : Turns) where
  -- what is said of a level reads its own names alone
  pub level_reads : (r : Role) (l : LevelTree) (at : ℕ → ℕ) (x : ℕ) (s u : State) → ((y : ℕ) → l.first ≤ y → y < l.first + 4 → u.regs y ≡ s.regs y) → ((y : ℕ) → l.first ≤ y → y < l.first + 4 → u.bufs y ≡ s.bufs y) → turns.LevelAfter T r l at x s → turns.LevelAfter T r l at x u
  level_reads Full l at x s u f g i = tt
  level_reads Shared l at x s u f g i = record {
    last = f l.first (omega arith) (omega arith) ∙ i.last;
    node = f (l.first + 1) (omega arith) (omega arith) ∙ i.node;
    marks = table_moved _ _ _ _ (g l.first (omega arith) (omega arith)) i.marks;
    cells = table_moved _ _ _ _ (g (l.first + 1) (omega arith) (omega arith)) i.cells;
  }
  level_reads Single l at x s u f g i = record { marks = table_moved _ _ _ _ (g l.first (omega arith) (omega arith)) i.marks; cells = table_moved _ _ _ _ (g (l.first + 1) (omega arith) (omega arith)) i.cells }
  level_reads Counted l at x s u f g i = record { last = f l.first (omega arith) (omega arith) ∙ i.last; node = f (l.first + 1) (omega arith) (omega arith) ∙ i.node }
  level_reads Marked l at x s u f g i = record { marks = table_moved _ _ _ _ (g l.first (omega arith) (omega arith)) i.marks }
  level_reads Kept l at x s u f g i = tt
  level_reads AtPosition l at x s u f g i = record { cells = table_moved _ _ _ _ (g (l.first + 1) (omega arith) (omega arith)) i.cells }
  level_reads AtRank l at x s u f g i = record { cells = table_moved _ _ _ _ (g (l.first + 1) (omega arith) (omega arith)) i.cells }

  pub level_stays : (r : Role) (l : LevelTree) (at : ℕ → ℕ) (x : ℕ) (s u : State) (lo hi : ℕ) → IsSameOutside lo hi s u → ((y : ℕ) → l.first ≤ y → y < l.first + 4 → lo ≤ y → hi ≤ y) → turns.LevelAfter T r l at x s → turns.LevelAfter T r l at x u
  level_stays r l at x s u lo hi a h i = level_reads r l at x s u (λ y p q. a.regs y (h y p q)) (λ y p q. a.bufs y (h y p q)) i

  -- one entry at one level, whatever stands behind it
  abbrev pub LevelDoes : Role → Type 1
  LevelDoes r = (l : LevelTree) (at : ℕ → ℕ) (q : TermTree) (x : ℕ) (rest : Code) (s : State) (Q : State → Type 0) → x < T.count → T.count < 2 ^ 62 → turns.Needs T r l at → turns.Holds T x s → Reads l.first q → value T.env s.regs q ≡ pos (at x) → turns.LevelAfter T r l at x s → ((u : State) → IsSameOutside l.first (l.first + 4) s u → turns.LevelAfter T r l at (suc x) u → Reads (l.first + 4) (below_of r l q T.turn) → value T.env u.regs (below_of r l q T.turn) ≡ pos (position_of r (T.wide l) at (T.coord l) x) → u.steps + turns.cost T r l at x ≤ s.steps + turns.cost T r l at (suc x) → Does T.env rest u Q) → Does T.env (block_of r l q T.turn rest) s Q

  held_value : (r : Role) (l : LevelTree) (at : ℕ → ℕ) (x : ℕ) (s : State) → turns.Needs T r l at → turns.Holds T x s → value T.env s.regs l.coord ≡ value T.env (T.held x) l.coord
  held_value r l at x s v h = value_stays T.env T.base l.coord (T.held x) s.regs v.reads_coord h.regs

  pub held_coord : (r : Role) (l : LevelTree) (at : ℕ → ℕ) (x : ℕ) (s : State) → has_key r ≡ true → x < T.count → turns.Needs T r l at → turns.Holds T x s → value T.env s.regs l.coord ≡ pos (T.coord l x)
  held_coord r l at x s k lt v h = held_value r l at x s v h ∙ v.is_coord x lt k

  pub held_size : (r : Role) (l : LevelTree) (at : ℕ → ℕ) (x : ℕ) (s : State) → has_key r ≡ true → x < T.count → turns.Needs T r l at → turns.Holds T x s → value T.env s.regs l.size ≡ pos (T.wide l)
  held_size r l at x s k lt v h = value_stays T.env T.base l.size (T.held x) s.regs v.reads_size h.regs ∙ v.is_size x lt k

  full_does : LevelDoes Full
  full_does l at q x rest s Q lt few v h rq eq i end =
      end s record { regs = λ r g. refl; bufs = λ b g. refl } tt
      (under_reads (l.first + 4) q l.size l.coord (reads_more l.first (l.first + 4) (omega arith) q rq) (reads_more T.base (l.first + 4) (omega (arith, v.room)) l.size v.reads_size) (reads_more T.base (l.first + 4) (omega (arith, v.room)) l.coord v.reads_coord))
      (under_value T.env s.regs q l.size l.coord (at x) (T.wide l) (T.coord l x) eq (held_size Full l at x s refl lt v h) (held_coord Full l at x s refl lt v h) (v.small x lt refl))
      (omega arith)

  position_does : LevelDoes AtPosition
  position_does l at q x rest s Q lt few v h rq eq i end =
      let k = l.first in
      let s1 = set_reg (k + 3) (pos (at x)) (tick 1 s) in
      let s2 = set_buf (k + 1) (slice_set (s1.bufs (k + 1)) (at x) (value T.env s1.regs l.coord)) (tick 1 s1) in
      let h1 : turns.Holds T x s1 = record { regs = λ r g. put_other s.regs (k + 3) _ r (omega (arith, v.room)) ∙ h.regs r g; turn = put_other s.regs (k + 3) _ T.turn (omega (arith, v.room, h.within)) ∙ h.turn; within = h.within } in
      let room : at x < size_of T.env l.crd_length = v.in_crd x lt refl in
      let t2 : Table (s2.bufs (k + 1)) (size_of T.env l.crd_length) (written (λ y. true) at (λ y. value T.env (T.held y) l.coord) (suc x)) = table_moved _ _ _ _ (put_same s1.bufs (k + 1) _ ∙ ap (slice_set (s.bufs (k + 1)) (at x)) (held_value AtPosition l at x s1 v h1)) (table_set (s.bufs (k + 1)) (size_of T.env l.crd_length) (at x) (value T.env (T.held x) l.coord) (written (λ y. true) at (λ y. value T.env (T.held y) l.coord) x) room i.cells) in
      do_when T.env _ _ (k + 3) _ _ _ _ s _ (at x) eq room
      (do_set T.env (k + 1) _ _ _ s1 _ (at x) (put_same s.regs (k + 3) _) (omega (arith, room, i.cells.long))
      (do_end T.env _ _ (end s2 record { regs = λ r g. put_other s.regs (k + 3) _ r (λ e. let b = g (omega (arith, e)) in absurd (omega (arith, e, b))); bufs = λ c g. put_other s1.bufs (k + 1) _ c (λ e. let b = g (omega (arith, e)) in absurd (omega (arith, e, b))) } record { cells = t2 }
      (reads_more k (k + 4) (omega arith) q rq)
      (value_stays T.env k q s.regs s1.regs rq (λ r g. put_other s.regs (k + 3) _ r (omega arith)) ∙ eq)
      (omega arith))))

  single_does : LevelDoes Single
  single_does l at q x rest s Q lt few v h rq eq i end =
      let k = l.first in
      let room : x < size_of T.env l.crd_length = v.in_crd x lt refl in
      mark_does T.env l.is_top l q (Add (Reg T.turn) (Number 1)) _ s Q (at x) (size_of T.env l.pos_length) (pos (x + 1)) _ eq (v.small_at x lt) (λ e. (refl, v.in_pos x lt (ap not e))) (omega (arith, h.within, v.room), tt) (add_one _ x h.turn (omega (arith, lt, few))) i.marks
      (λ u regs bufs marks steps.
      let hu : turns.Holds T x u = record { regs = λ r g. regs r (omega (arith, v.room)) ∙ h.regs r g; turn = regs T.turn (omega (arith, v.room, h.within)) ∙ h.turn; within = h.within } in
      let w = set_buf (k + 1) (slice_set (u.bufs (k + 1)) x (value T.env u.regs l.coord)) (tick 1 u) in
      let cu : Table (u.bufs (k + 1)) (size_of T.env l.crd_length) (written (λ y. true) (λ y. y) (λ y. value T.env (T.held y) l.coord) x) = table_moved _ _ _ _ (bufs (k + 1) (omega arith)) i.cells in
      do_set T.env (k + 1) _ _ _ u _ x hu.turn (omega (arith, room, cu.long))
      (end w record { regs = λ r g. regs r (λ e. let b = g (omega (arith, e)) in absurd (omega (arith, e, b))); bufs = λ c g. put_other u.bufs (k + 1) _ c (λ e. let b = g (omega (arith, e)) in absurd (omega (arith, e, b))) ∙ bufs c (λ e. let b = g (omega (arith, e)) in absurd (omega (arith, e, b))) }
      record {
        marks = table_moved _ _ _ _ (put_other u.bufs (k + 1) _ k (omega arith)) marks;
        cells = table_moved _ _ _ _ (put_same u.bufs (k + 1) _ ∙ ap (slice_set (u.bufs (k + 1)) x) (held_value Single l at x u v hu)) (table_set (u.bufs (k + 1)) (size_of T.env l.crd_length) x (value T.env (T.held x) l.coord) (written (λ y. true) (λ y. y) (λ y. value T.env (T.held y) l.coord) x) room cu);
      }
      (omega (arith, h.within, v.room)) hu.turn (omega (arith, steps))))

  shared_old : (l : LevelTree) (at : ℕ → ℕ) (q : TermTree) (x : ℕ) (rest : Code) (s : State) (Q : State → Type 0) → x < T.count → T.count < 2 ^ 62 → turns.Needs T Shared l at → turns.Holds T x s → Reads l.first q → value T.env s.regs q ≡ pos (at x) → turns.Shares T l at x s → ((u : State) → IsSameOutside l.first (l.first + 4) s u → turns.Shares T l at (suc x) u → Reads (l.first + 4) (Reg (l.first + 1)) → u.regs (l.first + 1) ≡ pos (position_of Shared (T.wide l) at (T.coord l) x) → u.steps + turns.cost T Shared l at x ≤ s.steps + turns.cost T Shared l at (suc x) → Does T.env rest u Q) → is_new (turns.keys T l at) x ≡ false → Does T.env (block_of Shared l q T.turn rest) s Q
  shared_old l at q x rest s Q lt few v h rq eq i end old =
      let k = l.first in
      let K = turns.keys T l at in
      let ek : value T.env s.regs (under q l.size l.coord) ≡ pos (K x) = under_value T.env s.regs q l.size l.coord (at x) (T.wide l) (T.coord l x) eq (held_size Shared l at x s refl lt v h) (held_coord Shared l at x s refl lt v h) (v.small x lt refl) in
      let same : seen K (suc x) ≡ seen K x = ap (λ b. cond b (seen K x + 1) (seen K x)) old in
      let old2 : cond (not l.is_top) (is_new K x) false ≡ false = both (not l.is_top) (is_new K x) old in
      do_if_yes T.env _ _ _ _ _ _ _ s _ (ap₂ (test true) ek i.last ∙ (test_key K x ∙ ap not old))
      (do_end T.env _ _ (end (tick 1 s) record { regs = λ r g. refl; bufs = λ b g. refl }
      record {
        last = i.last ∙ not_new K x old;
        node = i.node ∙ ap less_one (sym same);
        marks = table_same _ _ _ _ (λ y. ap (λ b. cond b (cond (nat_eq (at x + 1) y) (pos (seen K (suc x))) (written (λ y. cond (not l.is_top) (is_new K y) false) (λ y. at y + 1) (λ y. pos (seen K (suc y))) x y)) (written (λ y. cond (not l.is_top) (is_new K y) false) (λ y. at y + 1) (λ y. pos (seen K (suc y))) x y)) old2) i.marks;
        cells = table_same _ _ _ _ (λ y. ap (λ b. cond b (cond (nat_eq (position_of Shared (T.wide l) at (T.coord l) x) y) (value T.env (T.held x) l.coord) (written (is_new K) (position_of Shared (T.wide l) at (T.coord l)) (λ y. value T.env (T.held y) l.coord) x y)) (written (is_new K) (position_of Shared (T.wide l) at (T.coord l)) (λ y. value T.env (T.held y) l.coord) x y)) old) i.cells;
      }
      (omega arith)
      (i.node ∙ less_pos (seen K x) (seen K (suc x)) same (some_seen K x old))
      (omega (arith, same))))
    where
      both : (a b : Bool) → b ≡ false → cond a b false ≡ false
      both true b h = h
      both false b h = refl

  shared_new : (l : LevelTree) (at : ℕ → ℕ) (q : TermTree) (x : ℕ) (rest : Code) (s : State) (Q : State → Type 0) → x < T.count → T.count < 2 ^ 62 → turns.Needs T Shared l at → turns.Holds T x s → Reads l.first q → value T.env s.regs q ≡ pos (at x) → turns.Shares T l at x s → ((u : State) → IsSameOutside l.first (l.first + 4) s u → turns.Shares T l at (suc x) u → Reads (l.first + 4) (Reg (l.first + 1)) → u.regs (l.first + 1) ≡ pos (position_of Shared (T.wide l) at (T.coord l) x) → u.steps + turns.cost T Shared l at x ≤ s.steps + turns.cost T Shared l at (suc x) → Does T.env rest u Q) → is_new (turns.keys T l at) x ≡ true → Does T.env (block_of Shared l q T.turn rest) s Q
  shared_new l at q x rest s Q lt few v h rq eq i end new =
      let k = l.first in
      let K = turns.keys T l at in
      let N = seen K x in
      let ek : value T.env s.regs (under q l.size l.coord) ≡ pos (K x) = under_value T.env s.regs q l.size l.coord (at x) (T.wide l) (T.coord l x) eq (held_size Shared l at x s refl lt v h) (held_coord Shared l at x s refl lt v h) (v.small x lt refl) in
      let one : seen K (suc x) ≡ N + 1 = ap (λ b. cond b (N + 1) N) new in
      let up : N ≤ x = seen_up K x in
      let here : position_of Shared (T.wide l) at (T.coord l) x ≡ N = omega (arith, one) in
      let room : N < size_of T.env l.crd_length = omega (arith, here, v.in_crd x lt refl) in
      let s1 = set_reg k (value T.env s.regs (under q l.size l.coord)) (tick 1 (tick 1 s)) in
      let s2 = set_reg (k + 1) (int_wrap w64 (s1.regs (k + 1) +ℤ pos 1)) (tick 1 s1) in
      let e2 : s2.regs (k + 1) ≡ pos N = put_same s1.regs (k + 1) _ ∙ step_up (s1.regs (k + 1)) N (put_other s.regs k _ (k + 1) (omega arith) ∙ i.node) (omega (arith, up, lt, few)) in
      let l2 : s2.regs k ≡ pos (K x) = put_other s1.regs (k + 1) _ k (omega arith) ∙ (put_same s.regs k _ ∙ ek) in
      let low2 : (r : ℕ) → r < k → s2.regs r ≡ s.regs r = λ r g. put_other s1.regs (k + 1) _ r (omega arith) ∙ put_other s.regs k _ r (omega arith) in
      let t2 : int_wrap w64 (s2.regs (k + 1) +ℤ pos 1) ≡ pos (seen K (suc x)) = add_one _ N e2 (omega (arith, up, lt, few)) ∙ ap pos (sym one) in
      do_if_no T.env _ _ _ _ _ _ _ s _ (ap₂ (test true) ek i.last ∙ (test_key K x ∙ ap not new))
      (do_put T.env k _ _ (tick 1 s) _
      (do_put T.env (k + 1) _ _ s1 _
      (mark_does T.env l.is_top l q (Add (Reg (k + 1)) (Number 1)) _ s2 _ (at x) (size_of T.env l.pos_length) (pos (seen K (suc x))) _ (value_stays T.env k q s.regs s2.regs rq low2 ∙ eq) (v.small_at x lt) (λ e. (refl, v.in_pos x lt (ap not e))) (omega arith, tt) t2 i.marks
      (λ u regs bufs marks steps.
      let s6 = set_reg (k + 3) (pos N) (tick 1 u) in
      let s7 = set_buf (k + 1) (slice_set (s6.bufs (k + 1)) N (value T.env s6.regs l.coord)) (tick 1 s6) in
      let low6 : (r : ℕ) → r < k → s6.regs r ≡ s.regs r = λ r g. put_other u.regs (k + 3) _ r (omega arith) ∙ (regs r (omega arith) ∙ low2 r g) in
      let h6 : turns.Holds T x s6 = record { regs = λ r g. low6 r (omega (arith, v.room)) ∙ h.regs r g; turn = low6 T.turn (omega (arith, v.room, h.within)) ∙ h.turn; within = h.within } in
      let eu : u.regs (k + 1) ≡ pos N = regs (k + 1) (omega arith) ∙ e2 in
      let e7 : s7.regs (k + 1) ≡ pos N = put_other u.regs (k + 3) _ (k + 1) (omega arith) ∙ eu in
      let cu : Table (u.bufs (k + 1)) (size_of T.env l.crd_length) (written (is_new K) (position_of Shared (T.wide l) at (T.coord l)) (λ y. value T.env (T.held y) l.coord) x) = table_moved _ _ _ _ (bufs (k + 1) (omega arith)) i.cells in
      do_when T.env _ _ (k + 3) _ _ _ _ u _ N eu room
      (do_set T.env (k + 1) _ _ _ s6 _ N (put_same u.regs (k + 3) _) (omega (arith, room, cu.long))
      (do_end T.env _ _ (do_end T.env _ _ (end s7
      record {
        regs = λ r g. put_other u.regs (k + 3) _ r (λ e. let b = g (omega (arith, e)) in absurd (omega (arith, e, b))) ∙ (regs r (λ e. let b = g (omega (arith, e)) in absurd (omega (arith, e, b))) ∙ (put_other s1.regs (k + 1) _ r (λ e. let b = g (omega (arith, e)) in absurd (omega (arith, e, b))) ∙ put_other s.regs k _ r (λ e. let b = g (omega (arith, e)) in absurd (omega (arith, e, b)))));
        bufs = λ c g. put_other u.bufs (k + 1) _ c (λ e. let b = g (omega (arith, e)) in absurd (omega (arith, e, b))) ∙ bufs c (λ e. let b = g (omega (arith, e)) in absurd (omega (arith, e, b)));
      }
      record {
        last = put_other u.regs (k + 3) _ k (omega arith) ∙ (regs k (omega arith) ∙ l2);
        node = e7 ∙ ap less_one (sym (one ∙ plus_one N));
        marks = table_moved _ _ _ _ (put_other u.bufs (k + 1) _ k (omega arith)) (table_same _ _ _ _ (λ y. ap (λ b. cond (cond (not l.is_top) b false) (cond (nat_eq (at x + 1) y) (pos (seen K (suc x))) (W l at x y)) (W l at x y)) new ∙ drop (not l.is_top) _ _) marks);
        cells = table_moved _ _ _ _ (put_same u.bufs (k + 1) _ ∙ ap (slice_set (u.bufs (k + 1)) N) (held_value Shared l at x s6 v h6)) (table_same _ _ _ _ (λ y. ap (λ b. cond b (cond (nat_eq (position_of Shared (T.wide l) at (T.coord l) x) y) (value T.env (T.held x) l.coord) (C l at x y)) (C l at x y)) new ∙ ap (λ (z : ℕ). cond (nat_eq z y) (value T.env (T.held x) l.coord) (C l at x y)) here) (table_set (u.bufs (k + 1)) (size_of T.env l.crd_length) N (value T.env (T.held x) l.coord) (C l at x) room cu));
      }
      (omega arith)
      (e7 ∙ ap pos (sym here))
      (omega (arith, steps, one))))))))))
    where
      W : LevelTree → (ℕ → ℕ) → ℕ → ℕ → ℤ
      W l at x y = written (λ y. cond (not l.is_top) (is_new (turns.keys T l at) y) false) (λ y. at y + 1) (λ y. pos (seen (turns.keys T l at) (suc y))) x y

      C : LevelTree → (ℕ → ℕ) → ℕ → ℕ → ℤ
      C l at x y = written (is_new (turns.keys T l at)) (position_of Shared (T.wide l) at (T.coord l)) (λ y. value T.env (T.held y) l.coord) x y

      drop : (b : Bool) (p q : ℤ) → cond (cond b true false) p q ≡ cond b p q
      drop true p q = refl
      drop false p q = refl

  shared_does : LevelDoes Shared
  shared_does l at q x rest s Q lt few v h rq eq i end = case (is_new (turns.keys T l at) x) refl
    where
      case : (b : Bool) → is_new (turns.keys T l at) x ≡ b → Does T.env (block_of Shared l q T.turn rest) s Q
      case true e = shared_new l at q x rest s Q lt few v h rq eq i end e
      case false e = shared_old l at q x rest s Q lt few v h rq eq i end e

  at_rank_does : LevelDoes AtRank
  at_rank_does l at q x rest s Q lt few v h rq eq i end =
      let k = l.first in
      let s2 = set_buf (k + 1) (slice_set (s.bufs (k + 1)) x (value T.env s.regs l.coord)) (tick 1 s) in
      let room : at x < size_of T.env l.crd_length = v.in_crd x lt refl in
      let here : at x ≡ x = v.is_rank x lt refl in
      let t2 : Table (s2.bufs (k + 1)) (size_of T.env l.crd_length) (written (λ y. true) (λ y. y) (λ y. value T.env (T.held y) l.coord) (suc x)) = table_moved _ _ _ _ (put_same s.bufs (k + 1) _ ∙ ap (slice_set (s.bufs (k + 1)) x) (held_value AtRank l at x s v h)) (table_set (s.bufs (k + 1)) (size_of T.env l.crd_length) x (value T.env (T.held x) l.coord) (written (λ y. true) (λ y. y) (λ y. value T.env (T.held y) l.coord) x) (omega (arith, room, here)) i.cells) in
      do_set T.env (k + 1) _ _ _ s _ x h.turn (omega (arith, room, here, i.cells.long))
      (end s2 record { regs = λ r g. refl; bufs = λ c g. put_other s.bufs (k + 1) _ c (λ e. let b = g (omega (arith, e)) in absurd (omega (arith, e, b))) } record { cells = t2 }
      (reads_more k (k + 4) (omega arith) q rq)
      eq
      (omega arith))

  counted_old : (l : LevelTree) (at : ℕ → ℕ) (q : TermTree) (x : ℕ) (rest : Code) (s : State) (Q : State → Type 0) → x < T.count → T.count < 2 ^ 62 → turns.Needs T Counted l at → turns.Holds T x s → Reads l.first q → value T.env s.regs q ≡ pos (at x) → turns.Counts T l at x s → ((u : State) → IsSameOutside l.first (l.first + 4) s u → turns.Counts T l at (suc x) u → Reads (l.first + 4) (Reg (l.first + 1)) → u.regs (l.first + 1) ≡ pos (position_of Counted (T.wide l) at (T.coord l) x) → u.steps + turns.cost T Counted l at x ≤ s.steps + turns.cost T Counted l at (suc x) → Does T.env rest u Q) → is_new (turns.keys T l at) x ≡ false → Does T.env (block_of Counted l q T.turn rest) s Q
  counted_old l at q x rest s Q lt few v h rq eq i end old =
      let K = turns.keys T l at in
      let ek : value T.env s.regs (under q l.size l.coord) ≡ pos (K x) = under_value T.env s.regs q l.size l.coord (at x) (T.wide l) (T.coord l x) eq (held_size Counted l at x s refl lt v h) (held_coord Counted l at x s refl lt v h) (v.small x lt refl) in
      let same : seen K (suc x) ≡ seen K x = ap (λ b. cond b (seen K x + 1) (seen K x)) old in
      do_if_yes T.env _ _ _ _ _ _ _ s _ (ap₂ (test true) ek i.last ∙ (test_key K x ∙ ap not old))
      (do_end T.env _ _ (end (tick 1 s) record { regs = λ r g. refl; bufs = λ b g. refl }
      record { last = i.last ∙ not_new K x old; node = i.node ∙ ap less_one (sym same) }
      (omega arith)
      (i.node ∙ less_pos (seen K x) (seen K (suc x)) same (some_seen K x old))
      (omega (arith, same))))

  counted_new : (l : LevelTree) (at : ℕ → ℕ) (q : TermTree) (x : ℕ) (rest : Code) (s : State) (Q : State → Type 0) → x < T.count → T.count < 2 ^ 62 → turns.Needs T Counted l at → turns.Holds T x s → Reads l.first q → value T.env s.regs q ≡ pos (at x) → turns.Counts T l at x s → ((u : State) → IsSameOutside l.first (l.first + 4) s u → turns.Counts T l at (suc x) u → Reads (l.first + 4) (Reg (l.first + 1)) → u.regs (l.first + 1) ≡ pos (position_of Counted (T.wide l) at (T.coord l) x) → u.steps + turns.cost T Counted l at x ≤ s.steps + turns.cost T Counted l at (suc x) → Does T.env rest u Q) → is_new (turns.keys T l at) x ≡ true → Does T.env (block_of Counted l q T.turn rest) s Q
  counted_new l at q x rest s Q lt few v h rq eq i end new =
      let k = l.first in
      let K = turns.keys T l at in
      let N = seen K x in
      let ek : value T.env s.regs (under q l.size l.coord) ≡ pos (K x) = under_value T.env s.regs q l.size l.coord (at x) (T.wide l) (T.coord l x) eq (held_size Counted l at x s refl lt v h) (held_coord Counted l at x s refl lt v h) (v.small x lt refl) in
      let one : seen K (suc x) ≡ N + 1 = ap (λ b. cond b (N + 1) N) new in
      let up : N ≤ x = seen_up K x in
      let here : position_of Counted (T.wide l) at (T.coord l) x ≡ N = omega (arith, one) in
      let s1 = set_reg k (value T.env s.regs (under q l.size l.coord)) (tick 1 (tick 1 s)) in
      let s2 = set_reg (k + 1) (int_wrap w64 (s1.regs (k + 1) +ℤ pos 1)) (tick 1 s1) in
      let e2 : s2.regs (k + 1) ≡ pos N = put_same s1.regs (k + 1) _ ∙ step_up (s1.regs (k + 1)) N (put_other s.regs k _ (k + 1) (omega arith) ∙ i.node) (omega (arith, up, lt, few)) in
      do_if_no T.env _ _ _ _ _ _ _ s _ (ap₂ (test true) ek i.last ∙ (test_key K x ∙ ap not new))
      (do_put T.env k _ _ (tick 1 s) _
      (do_put T.env (k + 1) _ _ s1 _
      (do_end T.env _ _ (end s2
      record { regs = λ r g. put_other s1.regs (k + 1) _ r (λ e. let b = g (omega (arith, e)) in absurd (omega (arith, e, b))) ∙ put_other s.regs k _ r (λ e. let b = g (omega (arith, e)) in absurd (omega (arith, e, b))); bufs = λ c g. refl }
      record { last = put_other s1.regs (k + 1) _ k (omega arith) ∙ (put_same s.regs k _ ∙ ek); node = e2 ∙ ap less_one (sym (one ∙ plus_one N)) }
      (omega arith)
      (e2 ∙ ap pos (sym here))
      (omega (arith, one))))))

  counted_does : LevelDoes Counted
  counted_does l at q x rest s Q lt few v h rq eq i end = case (is_new (turns.keys T l at) x) refl
    where
      case : (b : Bool) → is_new (turns.keys T l at) x ≡ b → Does T.env (block_of Counted l q T.turn rest) s Q
      case true e = counted_new l at q x rest s Q lt few v h rq eq i end e
      case false e = counted_old l at q x rest s Q lt few v h rq eq i end e

  marked_does : LevelDoes Marked
  marked_does l at q x rest s Q lt few v h rq eq i end =
      let k = l.first in
      mark_does T.env l.is_top l q (Add (Reg T.turn) (Number 1)) rest s Q (at x) (size_of T.env l.pos_length) (pos (x + 1)) _ eq (v.small_at x lt) (λ e. (refl, v.in_pos x lt (ap not e))) (omega (arith, h.within, v.room), tt) (add_one _ x h.turn (omega (arith, lt, few))) i.marks
      (λ u regs bufs marks steps.
      end u record { regs = λ r g. regs r (λ e. let b = g (omega (arith, e)) in absurd (omega (arith, e, b))); bufs = λ c g. bufs c (λ e. let b = g (omega (arith, e)) in absurd (omega (arith, e, b))) }
      record { marks = marks }
      (omega (arith, h.within, v.room))
      (regs T.turn (omega (arith, v.room, h.within)) ∙ h.turn)
      (omega (arith, steps)))

  kept_does : LevelDoes Kept
  kept_does l at q x rest s Q lt few v h rq eq i end = end s record { regs = λ r g. refl; bufs = λ b g. refl } tt (reads_more l.first (l.first + 4) (omega arith) q rq) eq (omega arith)

  pub level_does : (r : Role) → LevelDoes r
  level_does Full = full_does
  level_does Shared = shared_does
  level_does Single = single_does
  level_does AtPosition = position_does
  level_does AtRank = at_rank_does
  level_does Counted = counted_does
  level_does Marked = marked_does
  level_does Kept = kept_does

  pub names_up : (ls : List LevelTree) (lo : ℕ) (at : ℕ → ℕ) → turns.AllNeed T lo ls at → lo ≤ names_end lo ls
  names_up [] lo at h = omega arith
  names_up (l ∷ ls) lo at h = omega (arith, h.0, names_up ls (l.first + 4) (turns.inside T l at) h.2)

  pub levels_stay : (ls : List LevelTree) (lo a b : ℕ) (at : ℕ → ℕ) (x : ℕ) (s u : State) → turns.AllNeed T lo ls at → b ≤ lo → IsSameOutside a b s u → turns.LevelsAfter T ls at x s → turns.LevelsAfter T ls at x u
  levels_stay [] lo a b at x s u h le m i = tt
  levels_stay (l ∷ ls) lo a b at x s u h le m i = (level_stays l.role l at x s u a b m (λ y p q o. omega (arith, p, h.0, le)) i.0, levels_stay ls (l.first + 4) a b (turns.inside T l at) x s u h.2 (omega (arith, h.0, le)) m i.1)

  pub levels_read : (ls : List LevelTree) (lo : ℕ) (at : ℕ → ℕ) (x : ℕ) (s u : State) → turns.AllNeed T lo ls at → ((y : ℕ) → lo ≤ y → y < names_end lo ls → u.regs y ≡ s.regs y) → ((y : ℕ) → lo ≤ y → y < names_end lo ls → u.bufs y ≡ s.bufs y) → turns.LevelsAfter T ls at x s → turns.LevelsAfter T ls at x u
  levels_read [] lo at x s u w f g i = tt
  levels_read (l ∷ ls) lo at x s u w f g i =
      let up = names_up ls (l.first + 4) (turns.inside T l at) w.2 in (
        level_reads l.role l at x s u (λ y p q. f y (omega (arith, p, w.0)) (omega (arith, q, up))) (λ y p q. g y (omega (arith, p, w.0)) (omega (arith, q, up))) i.0,
        levels_read ls (l.first + 4) (turns.inside T l at) x s u w.2 (λ y p q. f y (omega (arith, p, w.0)) q) (λ y p q. g y (omega (arith, p, w.0)) q) i.1,
      )

  -- one entry at all levels
  pub levels_do : (ls : List LevelTree) (lo : ℕ) (at : ℕ → ℕ) (q : TermTree) (x : ℕ) (s : State) → x < T.count → T.count < 2 ^ 62 → T.base ≤ lo → turns.AllNeed T lo ls at → turns.Holds T x s → Reads lo q → value T.env s.regs q ≡ pos (at x) → turns.LevelsAfter T ls at x s → Does T.env (levels ls q T.turn) s (turns.TookEntry T lo ls at x s)
  levels_do [] lo at q x s lt few le w h rq eq i = do_end T.env s _ record { after = tt; same = record { regs = λ r g. refl; bufs = λ b g. refl }; steps = omega arith }
  levels_do (l ∷ ls) lo at q x s lt few le w h rq eq i =
      level_does l.role l at q x (levels ls (below_of l.role l q T.turn) T.turn) s _ lt few w.1 h (reads_more lo l.first w.0 q rq) eq i.0
      (λ u same inv reads val steps.
      let hu : turns.Holds T x u = record { regs = λ r g. same.regs r (λ e. absurd (omega (arith, e, w.0))) ∙ h.regs r g; turn = same.regs T.turn (λ e. absurd (omega (arith, e, w.0, h.within))) ∙ h.turn; within = h.within } in
      let up = names_up ls (l.first + 4) (turns.inside T l at) w.2 in
      do_weaker T.env _ u _ _
      (λ t p. record {
        after = (level_stays l.role l at (suc x) u t (l.first + 4) (names_end (l.first + 4) ls) p.same (λ y a b c. absurd (omega (arith, b, c))) inv, p.after);
        same = record {
          regs = λ r g. p.same.regs r (λ e. g (omega (arith, e, w.0))) ∙ same.regs r (λ e. let z = g (omega (arith, e, w.0)) in omega (arith, z, up));
          bufs = λ r g. p.same.bufs r (λ e. g (omega (arith, e, w.0))) ∙ same.bufs r (λ e. let z = g (omega (arith, e, w.0)) in omega (arith, z, up));
        };
        steps = omega (arith, steps, p.steps);
      })
      (levels_do ls (l.first + 4) (turns.inside T l at) (below_of l.role l q T.turn) x u lt few (omega (arith, le, w.0)) w.2 hu reads val
      (levels_stay ls (l.first + 4) l.first (l.first + 4) (turns.inside T l at) x s u w.2 (omega arith) same i.1)))

pub levels_take_entries : LevelsTakeEntries
levels_take_entries T lo ls at q x s = levels_do T ls lo at q x s
