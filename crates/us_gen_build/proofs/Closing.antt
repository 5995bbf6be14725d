-- What stands behind the loop, and the whole block.
use Rattle.std.proofs.Common.{◌≡◌, ◌≢◌, ℕ, zero, suc, ◌+◌, ◌*◌, ◌<◌, ◌≤◌, ◌⊎◌, inl, inr, Bool, true, false, cond, not, nat_eq, refl, sym, ap, ◌∙◌, subst, arith, List, [], ◌∷◌, length, pos, ℤ, Option, Some, None}
use Rattle.std.specs.Prelude.{slice_set}
use Rattle.std.proofs.lemmas.Bool.{cases_lt}
use Rattle.us_code.specs.declared.program.Dim.{Dim}
use Rattle.us_code.specs.declared.program.Dim.TheVariants as dim
use Rattle.us_code.specs.Plain.{Number, Code, End, ◌+++◌}
use Rattle.us_code.specs.Run.{Env, State, exec, size_of, value, tick, set_buf}
use Rattle.us_code_laws.specs.Does.{Does}
use Rattle.us_code_laws.proofs.Sequence.{put_same, put_other}
use Rattle.us_code_laws.proofs.Does.{do_end, do_weaker, do_append, do_set}
use Rattle.us_gen.specs.Levels.{size_term}
use Rattle.us_running.specs.Running.{is_new, counted, seen, below, marked, top, written, Table}
use Rattle.us_running.specs.Laws.{DoNotFall}
use Rattle.us_running.proofs.Running.{table_set, table_same, table_moved, written_cong, marks-written, all-numbered}
use Rattle.us_running.proofs.Marks.{top_is}
use Rattle.us_gen_build.specs.declared.levels.Role.{Role}
use Rattle.us_gen_build.specs.declared.levels.Role.TheVariants.{Full, Shared, Single, AtPosition, AtRank, Counted, Marked, Kept}
use Rattle.us_gen_build.specs.Levels.{LevelTree, opens}
use Rattle.us_gen_build.specs.Turns.{Turns, IsSameOutside, names_end, keys, shared_marks, single_marks, LevelAfter, LevelsAfter, AllNeed, inside}
use Rattle.us_gen_build.specs.Loops.{entry_of, entry_loop, fill_up, turned, held_at, at_top, LoopNeeds, FilledUp, AllZero}
use Rattle.us_gen_build.specs.Blocks.{close_pos, close_of, closes, build_block, BlocksBuild}
use Rattle.us_gen_build.specs.Blocks as blocks
use Rattle.us_gen_build.proofs.FillingUp.{buffers_fill_up}
use Rattle.us_gen_build.proofs.LevelsRun.{names_up, levels_read}
use Rattle.us_gen_build.proofs.LoopRun.{put_alike, loads_agree, columns_stay, picks_stay, loops_take_entries}
use Rattle.us_gen_build.proofs.Opening.{levels_open}

size_value : (env : Env) (f : ℕ → ℤ) (d : Dim) → value env f (size_term d) ≡ pos (size_of env d)
size_value env f (dim.Number n) = refl
size_value env f (dim.Name d) = refl
size_value env f (dim.Len k) = refl

-- what nobody writes is 0
unwritten : (place : ℕ → ℕ) (f : ℕ → ℤ) (x y : ℕ) → written (λ z. false) place f x y ≡ pos 0
unwritten place f zero y = refl
unwritten place f (suc x) y = unwritten place f x y

module _ (T : Turns) where
  -- the marks behind the loop
  abbrev marks_at : Bool → (ℕ → Bool) → (ℕ → ℕ) → ℕ → ℤ
  marks_at true new at p = pos 0
  marks_at false new at p = pos (marked new at T.count p)

  shared_are : (t : Bool) (l : LevelTree) (at : ℕ → ℕ) → l.is_top ≡ t → (p : ℕ) → marks_at t (is_new (keys T l at)) at p ≡ shared_marks T l at T.count p
  shared_are true l at e p =
      sym (written_cong (λ y. cond (not l.is_top) (is_new (keys T l at) y) false) (λ y. false) (λ y. at y + 1) (λ y. at y + 1) (λ y. pos (seen (keys T l at) (suc y))) (λ y. pos (seen (keys T l at) (suc y))) T.count p
      (λ y h. ap (λ b. cond (not b) (is_new (keys T l at) y) false) e) (λ y h. refl) (λ y h. refl)
      ∙ unwritten (λ y. at y + 1) (λ y. pos (seen (keys T l at) (suc y))) T.count p)
  shared_are false l at e p = sym (marks-written (λ y. cond (not l.is_top) (is_new (keys T l at) y) false) (is_new (keys T l at)) at T.count p (λ y h. ap (λ b. cond (not b) (is_new (keys T l at) y) false) e))

  single_are : (t : Bool) (l : LevelTree) (at : ℕ → ℕ) → l.is_top ≡ t → (p : ℕ) → marks_at t (λ y. true) at p ≡ single_marks T l at T.count p
  single_are true l at e p =
      sym (written_cong (λ y. not l.is_top) (λ y. false) (λ y. at y + 1) (λ y. at y + 1) (λ y. pos (y + 1)) (λ y. pos (y + 1)) T.count p (λ y h. ap not e) (λ y h. refl) (λ y h. refl) ∙ unwritten (λ y. at y + 1) (λ y. pos (y + 1)) T.count p)
  single_are false l at e p =
      sym (written_cong (λ y. not l.is_top) (λ y. true) (λ y. at y + 1) (λ y. at y + 1) (λ y. pos (y + 1)) (λ y. pos (counted (λ z. true) (suc y))) T.count p
      (λ y h. ap not e) (λ y h. refl) (λ y h. ap (λ (z : ℕ). pos (z + 1)) (sym (all-numbered (λ z. true) T.count (λ z g. refl) y (omega (arith, h)))))
      ∙ marks-written (λ y. true) (λ y. true) at T.count p (λ y h. refl))

  -- the end of a `pos`
  record PosClosed (t : Bool) (l : LevelTree) (n : ℕ) (new : ℕ → Bool) (at : ℕ → ℕ) (s u : State) : Type 0 where
    pub cells : Table (u.bufs l.first) (size_of T.env l.pos_length) (blocks.pos_cell T t l new at)
    pub bufs : (c : ℕ) → l.first ≢ c → u.bufs c ≡ s.bufs c
    pub regs : (r : ℕ) → r < n → u.regs r ≡ s.regs r
    pub steps : u.steps ≤ s.steps + blocks.pos_cost T t l

  pos_closes : (t : Bool) (l : LevelTree) (n : ℕ) (new : ℕ → Bool) (at : ℕ → ℕ) (rest : Code) (s : State) (Q : State → Type 0) → (t ≡ true → size_of T.env l.pos_length ≡ 2) → (t ≡ false → DoNotFall at T.count) → Table (s.bufs l.first) (size_of T.env l.pos_length) (marks_at t new at) → ((u : State) → PosClosed t l n new at s u → Does T.env rest u Q) → Does T.env (close_pos t l n rest) s Q
  pos_closes true l n new at rest s Q two rises table end =
      let m = size_of T.env l.pos_length in
      let v = value T.env s.regs (size_term l.crd_length) in
      let w = pos (size_of T.env l.crd_length) in
      let in_pos : 1 < m = omega (arith, two refl) in
      do_set T.env l.first (Number 1) (size_term l.crd_length) rest s Q 1 refl (omega (arith, in_pos, table.long))
      (end (set_buf l.first (slice_set (s.bufs l.first) 1 v) (tick 1 s)) record {
        cells = table_moved _ _ _ _ (put_same s.bufs l.first _ ∙ ap (slice_set (s.bufs l.first) 1) (size_value T.env s.regs l.crd_length)) (table_set (s.bufs l.first) m 1 w (λ p. pos 0) in_pos table);
        bufs = λ c h. put_other s.bufs l.first _ c h;
        regs = λ r h. refl;
        steps = omega arith;
      })
  pos_closes false l n new at rest s Q two rises table end =
      let m = size_of T.env l.pos_length in
      do_append T.env (fill_up l.first l.pos_length n) rest s Q
      (do_weaker T.env (fill_up l.first l.pos_length n) s (FilledUp l.first m n (marked new at T.count) s) (λ u. Does T.env rest u Q)
      (λ u f. end u record {
        cells = table_same _ _ _ _ (λ p. ap pos (sym (top_is new at T.count (rises refl) p))) f.cells;
        bufs = f.bufs;
        regs = λ r h. f.regs r (λ z. absurd (omega (arith, z, h)));
        steps = omega (arith, f.steps);
      })
      (buffers_fill_up T.env l.first m n l.pos_length (marked new at T.count) s refl table))

  -- the end of a level
  record Closed (r : Role) (l : LevelTree) (at : ℕ → ℕ) (n : ℕ) (s u : State) : Type 0 where
    pub built : blocks.LevelBuilt T r l at u
    pub bufs : (c : ℕ) → l.first ≢ c → u.bufs c ≡ s.bufs c
    pub regs : (x : ℕ) → x < n → u.regs x ≡ s.regs x
    pub steps : u.steps ≤ s.steps + blocks.close_cost T r l

  level_closes : (r : Role) (l : LevelTree) (at : ℕ → ℕ) (n : ℕ) (rest : Code) (s : State) (Q : State → Type 0) → blocks.CloseNeeds T r l at → LevelAfter T r l at T.count s → ((u : State) → Closed r l at n s u → Does T.env rest u Q) → Does T.env (close_of r l n rest) s Q
  level_closes Full l at n rest s Q c i end = end s record { built = tt; bufs = λ b h. refl; regs = λ x h. refl; steps = omega arith }
  level_closes Shared l at n rest s Q c i end =
      pos_closes l.is_top l n (is_new (keys T l at)) at rest s Q c.two c.rises (table_same _ _ _ _ (shared_are l.is_top l at refl) i.marks)
      (λ u p. end u record { built = (p.cells, table_moved _ _ _ _ (p.bufs (l.first + 1) (omega arith)) i.cells); bufs = p.bufs; regs = p.regs; steps = p.steps })
  level_closes Single l at n rest s Q c i end =
      pos_closes l.is_top l n (λ y. true) at rest s Q c.two c.rises (table_same _ _ _ _ (single_are l.is_top l at refl) i.marks)
      (λ u p. end u record { built = (p.cells, table_moved _ _ _ _ (p.bufs (l.first + 1) (omega arith)) i.cells); bufs = p.bufs; regs = p.regs; steps = p.steps })
  level_closes AtPosition l at n rest s Q c i end = end s record { built = i.cells; bufs = λ b h. refl; regs = λ x h. refl; steps = omega arith }
  level_closes AtRank l at n rest s Q c i end = end s record { built = i.cells; bufs = λ b h. refl; regs = λ x h. refl; steps = omega arith }
  level_closes Marked l at n rest s Q c i end =
      pos_closes l.is_top l n (λ y. true) at rest s Q c.two c.rises (table_same _ _ _ _ (single_are l.is_top l at refl) i.marks)
      (λ u p. end u record { built = p.cells; bufs = p.bufs; regs = p.regs; steps = p.steps })
  level_closes Kept l at n rest s Q c i end = end s record { built = tt; bufs = λ b h. refl; regs = λ x h. refl; steps = omega arith }
  level_closes Counted l at n rest s Q c i end = end s record { built = i; bufs = λ b h. refl; regs = λ x h. refl; steps = omega arith }

  built_reads : (r : Role) (l : LevelTree) (at : ℕ → ℕ) (s u : State) → ((y : ℕ) → l.first ≤ y → y < l.first + 4 → u.regs y ≡ s.regs y) → ((y : ℕ) → l.first ≤ y → y < l.first + 4 → u.bufs y ≡ s.bufs y) → blocks.LevelBuilt T r l at s → blocks.LevelBuilt T r l at u
  built_reads Full l at s u f g i = tt
  built_reads Shared l at s u f g i = (table_moved _ _ _ _ (g l.first (omega arith) (omega arith)) i.0, table_moved _ _ _ _ (g (l.first + 1) (omega arith) (omega arith)) i.1)
  built_reads Single l at s u f g i = (table_moved _ _ _ _ (g l.first (omega arith) (omega arith)) i.0, table_moved _ _ _ _ (g (l.first + 1) (omega arith) (omega arith)) i.1)
  built_reads AtPosition l at s u f g i = table_moved _ _ _ _ (g (l.first + 1) (omega arith) (omega arith)) i
  built_reads AtRank l at s u f g i = table_moved _ _ _ _ (g (l.first + 1) (omega arith) (omega arith)) i
  built_reads Marked l at s u f g i = table_moved _ _ _ _ (g l.first (omega arith) (omega arith)) i
  built_reads Kept l at s u f g i = tt
  built_reads Counted l at s u f g i = record { last = f l.first (omega arith) (omega arith) ∙ i.last; node = f (l.first + 1) (omega arith) (omega arith) ∙ i.node }

  -- the ends of all levels
  pub record AllClosed (lo : ℕ) (ls : List LevelTree) (at : ℕ → ℕ) (n : ℕ) (s u : State) : Type 0 where
    pub built : blocks.AllBuilt T ls at u
    pub bufs : (b : ℕ) → (lo ≤ b → names_end lo ls ≤ b) → u.bufs b ≡ s.bufs b
    pub regs : (r : ℕ) → r < n → u.regs r ≡ s.regs r
    pub steps : u.steps ≤ s.steps + blocks.close_costs T ls

  pub closes_do : (ls : List LevelTree) (lo : ℕ) (at : ℕ → ℕ) (n : ℕ) (s : State) → AllNeed T lo ls at → blocks.AllClose T ls at → names_end lo ls ≤ n → LevelsAfter T ls at T.count s → Does T.env (closes ls n) s (AllClosed lo ls at n s)
  closes_do [] lo at n s w c le i = do_end T.env s _ record { built = tt; bufs = λ b h. refl; regs = λ r h. refl; steps = omega arith }
  closes_do (l ∷ ls) lo at n s w c le i =
      let up = names_up T ls (l.first + 4) (inside T l at) w.2 in
      level_closes l.role l at n (closes ls (n + 3)) s _ c.0 i.0
      (λ u o. do_weaker T.env _ u _ _
      (λ v p. record {
        built = (built_reads l.role l at u v (λ y a b. p.regs y (omega (arith, b, up, le))) (λ y a b. p.bufs y (λ k. absurd (omega (arith, k, b)))) o.built, p.built);
        bufs = λ b h. p.bufs b (λ k. h (omega (arith, k, w.0))) ∙ o.bufs b (λ e. let z = h (omega (arith, e, w.0)) in absurd (omega (arith, z, e, up)));
        regs = λ r h. p.regs r (omega (arith, h)) ∙ o.regs r h;
        steps = omega (arith, o.steps, p.steps);
      })
      (closes_do ls (l.first + 4) (inside T l at) (n + 3) u w.2 c.1 (omega (arith, le)) (levels_read T ls (l.first + 4) (inside T l at) T.count s u w.2 (λ y a b. o.regs y (omega (arith, b, le))) (λ y a b. o.bufs y (omega (arith, a))) i.1)))

  -- what the loop needs is there behind the opening
  turned_same : (order : Option ℕ) (f g : ℕ → ℤ) (a x e : ℕ) → ((r : ℕ) → r < entry_of order a + 1 → g r ≡ f r) → (r : ℕ) → r < entry_of order a + 1 → turned order g a x e r ≡ turned order f a x e r
  turned_same None f g a x e h r lt = put_alike g f a (pos x) (pos x) r refl (λ ne. h r lt)
  turned_same (Some p) f g a x e h r lt = put_alike _ _ (a + 1) (pos e) (pos e) r refl (λ ne. put_alike g f a (pos x) (pos x) r refl (λ no. h r lt))

  pub needs_stay : (d : Dim) (order : Option ℕ) (cols : List ℕ) (ls : List LevelTree) (place : ℕ → ℕ) (s u : State) → u.bufs ≡ s.bufs → ((r : ℕ) → r < T.base → u.regs r ≡ s.regs r) → LoopNeeds T d order cols ls place s → LoopNeeds T d order cols ls place u
  needs_stay d order cols ls place s u eb er w =
      let same : (b : ℕ) → b < T.base → u.bufs b ≡ s.bufs b = λ b h. ap (λ (f : ℕ → List ℤ). f b) eb in
      let e = entry_of order T.turn in
      record {
        count = w.count;
        base = w.base;
        held = λ x r lt h. w.held x r lt h ∙ sym (loads_agree s.bufs u.bufs cols (e + 1) (place x) T.count T.base (turned order s.regs T.turn x (place x)) (turned order u.regs T.turn x (place x)) w.columns same (λ y g. turned_same order s.regs u.regs T.turn x (place x) (λ z k. er z (omega (arith, k, w.base))) y g) r (omega (arith, h, w.base)));
        few = w.few;
        picks = picks_stay order T.base T.count s.bufs u.bufs place same w.picks;
        within = w.within;
        columns = columns_stay T.base T.count s.bufs u.bufs cols same w.columns;
        need = w.need;
      }

pub blocks_build : BlocksBuild
blocks_build T d order cols ls place n s w zeros close le =
    let rest = entry_loop d order cols ls T.turn +++ closes ls n in
    let opened = levels_open T T.base ls at_top rest s w.need zeros in
    let u = opened.0 in
    let o = opened.2 in
    let w2 = needs_stay T d order cols ls place s u o.bufs (λ r h. o.same.regs r (λ z. absurd (omega (arith, z, h)))) w in
    let go : Does T.env rest u (blocks.BlockBuilt T cols ls s) =
    do_append T.env (entry_loop d order cols ls T.turn) (closes ls n) u (blocks.BlockBuilt T cols ls s)
    (do_weaker T.env (entry_loop d order cols ls T.turn) u _ (λ v. Does T.env (closes ls n) v (blocks.BlockBuilt T cols ls s))
    (λ v t. do_weaker T.env (closes ls n) v _ (blocks.BlockBuilt T cols ls s)
    (λ z p. record {
      built = p.built;
      bufs = λ b h. p.bufs b h ∙ (kept b h v t.low t.same (cases_lt b T.base) ∙ ap (λ (f : ℕ → List ℤ). f b) o.bufs);
      steps = omega (arith, p.steps, t.steps, o.steps);
    })
    (closes_do T ls T.base at_top n v w.need close le t.after))
    (loops_take_entries T d order cols ls place u w2 o.after)) in
    record { post = subst (blocks.BlockBuilt T cols ls s) (sym opened.1) go.post; calm = ap (λ (x : State). x.stuck) opened.1 ∙ (go.calm ∙ o.stuck) }
  where
    kept : {u : State} (b : ℕ) → (T.base ≤ b → names_end T.base ls ≤ b) → (v : State) → ((c : ℕ) → c < T.base → v.bufs c ≡ u.bufs c) → IsSameOutside T.turn (names_end T.base ls) u v → (b < T.base) ⊎ (T.base ≤ b) → v.bufs b ≡ u.bufs b
    kept b h v low same (inl lt) = low b lt
    kept b h v low same (inr ge) = same.bufs b (λ k. h ge)
