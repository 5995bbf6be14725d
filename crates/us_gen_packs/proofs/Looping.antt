-- The loop over the entries, packs included.
use Rattle.std.proofs.Common.{◌≡◌, ℕ, suc, ◌+◌, ◌*◌, ◌^◌, ◌<◌, ◌≤◌, refl, sym, ap, ◌∙◌, subst, arith, List, [], ◌∷◌, length, pos, ℤ, Option, suc-mul}
use Rattle.std.specs.Prelude.{slice_index_or}
use Rattle.us_code.specs.declared.program.Dim.{Dim}
use Rattle.us_code.specs.Plain.{Number, End, ◌+++◌}
use Rattle.us_code.specs.Run.{State, put, tick, set_reg}
use Rattle.us_code_laws.specs.Does.{Does}
use Rattle.us_code_laws.proofs.Sequence.{put_other}
use Rattle.us_code_laws.proofs.Does.{do_end, do_weaker, do_append, do_for}
use Rattle.us_gen_build.specs.Levels.{LevelTree, levels}
use Rattle.us_gen_build.specs.Turns.{Turns, Holds, IsSameOutside, names_end, LevelsAfter, AllNeed, costs, TookEntry}
use Rattle.us_gen_build.specs.Loops.{loads, entry_of, loaded, turned, at_top, LoopNeeds}
use Rattle.us_gen_build.proofs.LevelsRun.{names_up, levels_stay, levels_read, levels_do}
use Rattle.us_gen_build.proofs.LoopRun.{loads_do, loads_agree, columns_stay, entry_low, turned_turn, picked_does, picks_stay}
use Rattle.us_gen_packs.specs.Packs.{PackTree, packs, last_of, packed_turn, packed_loop}
use Rattle.us_gen_packs.specs.Turns.{last_at, PacksAfter, packs_cost, PackedEntry}
use Rattle.us_gen_packs.specs.Blocks.{all_end, AllPack}
use Rattle.us_gen_packs.proofs.Last.{last_value, last_reads}
use Rattle.us_gen_packs.proofs.Filling.{packs_up, packs_stay, packs_take_entries}

-- the registers outside the loads stay
loads_low : (bufs : ℕ → List ℤ) (cols : List ℕ) (k at : ℕ) (f : ℕ → ℤ) (r : ℕ) → (k ≤ r → k + length cols ≤ r) → loaded bufs cols k at f r ≡ f r
loads_low bufs [] k at f r lt = refl
loads_low bufs (b ∷ bs) k at f r lt =
    loads_low bufs bs (k + 1) at (put f k (slice_index_or (bufs b) at (pos 0))) r (λ h. let z = lt (omega (arith, h)) in omega (arith, z))
    ∙ put_other f k _ r (λ h. let z = lt (omega (arith, h)) in absurd (omega (arith, z, h)))

-- from s to u the levels and the packs took entry x
pub record TookBoth (T : Turns) (ls : List LevelTree) (ws : List PackTree) (x : ℕ) (s u : State) : Type 0 where
  pub after : LevelsAfter T ls at_top (suc x) u
  pub packs : PacksAfter T ws (last_at T ls at_top) (suc x) u
  pub same : IsSameOutside T.base (all_end T.base ls ws) s u
  pub steps : u.steps + costs T ls at_top x ≤ s.steps + costs T ls at_top (suc x) + packs_cost ws

pub both_do : (T : Turns) (ls : List LevelTree) (ws : List PackTree) (x : ℕ) (s : State) → x < T.count → T.count < 2 ^ 62 → AllNeed T T.base ls at_top → AllPack T ls ws → Holds T x s → LevelsAfter T ls at_top x s → PacksAfter T ws (last_at T ls at_top) x s
    → Does T.env (levels ls (Number 0) T.turn +++ packs ws (last_of ls (Number 0) T.turn) T.turn) s (TookBoth T ls ws x s)
both_do T ls ws x s lt few need pack h i j =
    let lo = names_end T.base ls in
    let q = last_of ls (Number 0) T.turn in
    let up = names_up T ls T.base at_top need in
    let more = packs_up T ws lo (last_at T ls at_top) pack in
    do_append T.env (levels ls (Number 0) T.turn) (packs ws q T.turn) s _
    (do_weaker T.env (levels ls (Number 0) T.turn) s (TookEntry T T.base ls at_top x s) _
    (λ u p.
    let hu : Holds T x u = record { regs = λ r g. p.same.regs r (λ e. absurd (omega (arith, e, g))) ∙ h.regs r g; turn = p.same.regs T.turn (λ e. absurd (omega (arith, e, h.within))) ∙ h.turn; within = h.within } in
    do_weaker T.env (packs ws q T.turn) u (PackedEntry T lo ws (last_at T ls at_top) x u) _
    (λ v o. record {
      after = levels_keep u v o.same p.after;
      packs = o.after;
      same = record {
        regs = λ r g. o.same.regs r (λ e. g (omega (arith, e, up))) ∙ p.same.regs r (λ e. let z = g e in omega (arith, z, more));
        bufs = λ r g. o.same.bufs r (λ e. g (omega (arith, e, up))) ∙ p.same.bufs r (λ e. let z = g e in omega (arith, z, more));
      };
      steps = omega (arith, p.steps, o.steps);
    })
    (packs_take_entries T lo ws (last_at T ls at_top) q x u lt up pack hu (last_reads T ls T.base at_top (Number 0) h.within need tt)
    (last_value T ls T.base at_top (Number 0) x u lt need hu refl p.after)
    (packs_stay T ws lo T.base lo (last_at T ls at_top) x s u pack (omega arith) p.same.bufs j)))
    (levels_do T ls T.base at_top (Number 0) x s lt few (omega arith) need h tt refl i))
  where
    levels_keep : (u v : State) → IsSameOutside (names_end T.base ls) (all_end T.base ls ws) u v → LevelsAfter T ls at_top (suc x) u → LevelsAfter T ls at_top (suc x) v
    levels_keep u v same a = levels_read T ls T.base at_top (suc x) u v need (λ y p g. same.regs y (λ k. absurd (omega (arith, k, g)))) (λ y p g. same.bufs y (λ k. absurd (omega (arith, k, g)))) a

-- from s to u the levels and the packs took all entries
pub record TookPacked (T : Turns) (cols : List ℕ) (ls : List LevelTree) (ws : List PackTree) (s u : State) : Type 0 where
  pub after : LevelsAfter T ls at_top T.count u
  pub packs : PacksAfter T ws (last_at T ls at_top) T.count u
  pub same : IsSameOutside T.turn (all_end T.base ls ws) s u
  pub low : (b : ℕ) → b < T.base → u.bufs b ≡ s.bufs b
  pub steps : u.steps ≤ s.steps + 1 + T.count * (2 + length cols) + costs T ls at_top T.count + T.count * packs_cost ws

module _ (T : Turns) (d : Dim) (order : Option ℕ) (cols : List ℕ) (ls : List LevelTree) (ws : List PackTree) (place : ℕ → ℕ) (s : State) where
  record Before (x : ℕ) (u : State) : Type 0 where
    after : LevelsAfter T ls at_top x u
    packs : PacksAfter T ws (last_at T ls at_top) x u
    same : IsSameOutside T.turn (all_end T.base ls ws) s u
    low : (b : ℕ) → b < T.base → u.bufs b ≡ s.bufs b
    steps : u.steps ≤ s.steps + 1 + x * (2 + length cols) + costs T ls at_top x + x * packs_cost ws

  turn : LoopNeeds T d order cols ls place s → AllPack T ls ws → (t : ℕ) (u : State) → t < T.count → Before t u → Does T.env (packed_turn order cols ls ws T.turn) (set_reg T.turn (pos t) (tick 1 u)) (Before (suc t))
  turn w pack t u lt i =
      let a = T.turn in
      let e = entry_of order a in
      let lo = entry_low order a in
      let lv = names_up T ls T.base at_top w.need in
      let more = packs_up T ws (names_end T.base ls) (last_at T ls at_top) pack in
      let in_base : a < T.base = omega (arith, lo, w.base) in
      let body = levels ls (Number 0) a +++ packs ws (last_of ls (Number 0) a) a in
      picked_does T.env order a T.count T.base t place s.regs (loads cols (e + 1) e body) u (Before (suc t)) lt (picks_stay order T.base T.count s.bufs u.bufs place i.low w.picks) (λ r h. i.same.regs r (λ z. absurd (omega (arith, z, h))))
      (λ v p.
      let low : (b : ℕ) → b < T.base → v.bufs b ≡ s.bufs b = λ b h. ap (λ (f : ℕ → List ℤ). f b) p.bufs ∙ i.low b h in
      loads_do T.env cols (e + 1) e (place t) T.count T.base v body (Before (suc t)) p.entry (omega arith) (w.within t lt) (columns_stay T.base T.count s.bufs v.bufs cols low w.columns)
      (λ u3 r' bu st.
      let at_r : (r : ℕ) → u3.regs r ≡ loaded v.bufs cols (e + 1) (place t) v.regs r = λ r. ap (λ (f : ℕ → ℤ). f r) r' in
      let agree : (r : ℕ) → r < T.base → u3.regs r ≡ T.held t r = λ r h. at_r r ∙ (loads_agree s.bufs v.bufs cols (e + 1) (place t) T.count T.base (turned order s.regs a t (place t)) v.regs w.columns low p.regs r (omega (arith, h, w.base)) ∙ sym (w.held t r lt h)) in
      let out : (r : ℕ) → (a ≤ r → T.base ≤ r) → u3.regs r ≡ u.regs r = λ r h. at_r r ∙ (loads_low v.bufs cols (e + 1) (place t) v.regs r (λ q. let z = h (omega (arith, q, lo)) in omega (arith, z, w.base)) ∙ p.out r (λ q. let z = h q in omega (arith, z, w.base))) in
      let same3 : (b : ℕ) → u3.bufs b ≡ u.bufs b = λ b. ap (λ (f : ℕ → List ℤ). f b) bu ∙ ap (λ (f : ℕ → List ℤ). f b) p.bufs in
      let m3 : IsSameOutside a T.base u u3 = record { regs = out; bufs = λ b h. same3 b } in
      let held_turn : T.held t a ≡ pos t = w.held t a lt in_base ∙ (loads_low s.bufs cols (e + 1) (place t) (turned order s.regs a t (place t)) a (λ q. absurd (omega (arith, q, lo))) ∙ turned_turn order s.regs a t (place t)) in
      let held : Holds T t u3 = record { regs = agree; turn = agree a in_base ∙ held_turn; within = in_base } in
      do_weaker T.env body u3 (TookBoth T ls ws t u3) (Before (suc t))
      (λ x q. record {
        after = q.after;
        packs = q.packs;
        same = record { regs = λ r h. q.same.regs r (λ k. h (omega (arith, k, in_base))) ∙ (out r (λ k. let z = h k in omega (arith, z, lv, more)) ∙ i.same.regs r h); bufs = λ b h. q.same.bufs b (λ k. h (omega (arith, k, in_base))) ∙ (same3 b ∙ i.same.bufs b h) };
        low = λ b h. q.same.bufs b (λ k. absurd (omega (arith, k, h))) ∙ (same3 b ∙ i.low b h);
        steps = omega (arith, q.steps, st, p.steps, i.steps, suc-mul t (packs_cost ws), suc-mul t (2 + length cols));
      })
      (both_do T ls ws t u3 lt w.few w.need pack held (levels_stay T ls T.base a T.base at_top t u u3 w.need (omega arith) m3 i.after)
      (packs_stay T ws (names_end T.base ls) a T.base (last_at T ls at_top) t u u3 pack lv m3.bufs i.packs))))

  loop_does : LoopNeeds T d order cols ls place s → AllPack T ls ws → LevelsAfter T ls at_top 0 s → PacksAfter T ws (last_at T ls at_top) 0 s → Does T.env (packed_loop d order cols ls ws T.turn) s (TookPacked T cols ls ws s)
  loop_does w pack o z =
      do_for T.env T.turn d (packed_turn order cols ls ws T.turn) End s (TookPacked T cols ls ws s) Before
      record {
        after = levels_stay T ls T.base T.turn T.turn at_top 0 s (tick 1 s) w.need (omega (arith, w.base, entry_low order T.turn)) record { regs = λ r g. refl; bufs = λ b g. refl } o;
        packs = packs_stay T ws (names_end T.base ls) 0 0 (last_at T ls at_top) 0 s (tick 1 s) pack (omega arith) (λ c g. refl) z;
        same = record { regs = λ r g. refl; bufs = λ b g. refl };
        low = λ b h. refl;
        steps = omega arith;
      }
      (λ t u lt i. turn w pack t u (omega (arith, lt, w.count)) i)
      (λ u i. let j = subst (λ (x : ℕ). Before x u) (sym w.count) i in do_end T.env u _ record { after = j.after; packs = j.packs; same = j.same; low = j.low; steps = j.steps })

pub loops_do : (T : Turns) (d : Dim) (order : Option ℕ) (cols : List ℕ) (ls : List LevelTree) (ws : List PackTree) (place : ℕ → ℕ) (s : State) → LoopNeeds T d order cols ls place s → AllPack T ls ws → LevelsAfter T ls at_top 0 s
    → PacksAfter T ws (last_at T ls at_top) 0 s → Does T.env (packed_loop d order cols ls ws T.turn) s (TookPacked T cols ls ws s)
loops_do T d order cols ls ws place s = loop_does T d order cols ls ws place s
