-- What the loop over the entries does.
use Rattle.std.proofs.Common.{◌≡◌, ◌≢◌, ℕ, zero, suc, ◌+◌, ◌-◌, ◌*◌, ◌^◌, ◌<◌, ◌≤◌, ◌⊎◌, inl, inr, Bool, true, false, refl, sym, ap, ◌∙◌, subst, arith, List, [], ◌∷◌, length, pos, ℤ, Option, Some, None}
use Rattle.std.specs.Prelude.{slice_index_or}
use Rattle.std.proofs.lemmas.Bool.{cases_eq}
use Rattle.us_code.specs.declared.program.Dim.{Dim}
use Rattle.us_code.specs.declared.program.Buf.TheVariants as buf
use Rattle.us_code.specs.Plain.{Number, Reg, Code, End}
use Rattle.us_code.specs.Run.{Env, State, put, size_of, tick, set_reg}
use Rattle.us_code_laws.specs.Does.{Does}
use Rattle.us_code_laws.proofs.Sequence.{put_same, put_other}
use Rattle.us_code_laws.proofs.Does.{do_end, do_weaker, do_load, do_for}
use Rattle.us_gen_build.specs.Levels.{LevelTree, levels}
use Rattle.us_gen_build.specs.Turns.{Turns, Holds, IsSameOutside, names_end, LevelsAfter, costs}
use Rattle.us_gen_build.specs.Loops.{loads, entry_of, picked, levels_from, turn_body, entry_loop, loaded, turned, Picks, Columns, at_top, LoopNeeds, TookAll, LoopsTakeEntries}
use Rattle.us_gen_build.proofs.LevelsRun.{names_up, levels_stay, levels_do}

pub loads_do : (env : Env) (cols : List ℕ) (k e at n lo : ℕ) (s : State) (rest : Code) (Q : State → Type 0) → s.regs e ≡ pos at → e < k → at < n → Columns lo n s.bufs cols → ((u : State) → u.regs ≡ loaded s.bufs cols k at s.regs → u.bufs ≡ s.bufs → u.steps ≡ s.steps + length cols → Does env rest u Q) → Does env (loads cols k e rest) s Q
loads_do env [] k e at n lo s rest Q h lt la c end = end s refl refl (omega arith)
loads_do env (b ∷ bs) k e at n lo s rest Q h lt la c end =
    let s1 = set_reg k (slice_index_or (s.bufs b) at (pos 0)) (tick 1 s) in
    do_load env k (buf.New b) (Reg e) (loads bs (k + 1) e rest) s Q at h (omega (arith, la, c.1))
    (loads_do env bs (k + 1) e at n lo s1 rest Q (put_other s.regs k _ e (omega arith) ∙ h) (omega arith) la c.2
    (λ u r bu st. end u r bu (omega (arith, st))))

pub loads_agree : (bufs other : ℕ → List ℤ) (cols : List ℕ) (k at n lo : ℕ) (f g : ℕ → ℤ) → Columns lo n bufs cols → ((b : ℕ) → b < lo → other b ≡ bufs b) → ((r : ℕ) → r < k → g r ≡ f r) → (r : ℕ) → r < k + length cols → loaded other cols k at g r ≡ loaded bufs cols k at f r
loads_agree bufs other [] k at n lo f g c same a r lt = a r (omega (arith, lt))
loads_agree bufs other (b ∷ bs) k at n lo f g c same a r lt =
    loads_agree bufs other bs (k + 1) at n lo (put f k (slice_index_or (bufs b) at (pos 0))) (put g k (slice_index_or (other b) at (pos 0))) c.2 same
    (λ y h. case y h (cases_eq k y)) r (omega (arith, lt))
  where
    case : (y : ℕ) → y < k + 1 → (k ≡ y) ⊎ (k ≢ y) → put g k (slice_index_or (other b) at (pos 0)) y ≡ put f k (slice_index_or (bufs b) at (pos 0)) y
    case y h (inl e) = subst (λ (z : ℕ). put g k (slice_index_or (other b) at (pos 0)) z ≡ put f k (slice_index_or (bufs b) at (pos 0)) z) e (put_same g k _ ∙ (ap (λ (xs : List ℤ). slice_index_or xs at (pos 0)) (same b c.0) ∙ sym (put_same f k _)))
    case y h (inr e) = put_other g k _ y e ∙ (a y (omega (arith, h, e)) ∙ sym (put_other f k _ y e))

pub columns_stay : (lo n : ℕ) (bufs other : ℕ → List ℤ) (cols : List ℕ) → ((b : ℕ) → b < lo → other b ≡ bufs b) → Columns lo n bufs cols → Columns lo n other cols
columns_stay lo n bufs other [] same c = tt
columns_stay lo n bufs other (b ∷ bs) same c = (c.0, ap length (same b c.0) ∙ c.1, columns_stay lo n bufs other bs same c.2)

loads_low : (bufs : ℕ → List ℤ) (cols : List ℕ) (k at : ℕ) (f : ℕ → ℤ) (r : ℕ) → (k ≤ r → k + length cols ≤ r) → loaded bufs cols k at f r ≡ f r
loads_low bufs [] k at f r lt = refl
loads_low bufs (b ∷ bs) k at f r lt = loads_low bufs bs (k + 1) at (put f k (slice_index_or (bufs b) at (pos 0))) r (λ h. let z = lt (omega (arith, h)) in omega (arith, z)) ∙ put_other f k _ r (λ h. let z = lt (omega (arith, h)) in absurd (omega (arith, z, h)))

pub entry_low : (order : Option ℕ) (a : ℕ) → a ≤ entry_of order a
entry_low None a = omega arith
entry_low (Some p) a = omega arith

pub entry_high : (order : Option ℕ) (a : ℕ) → entry_of order a ≤ a + 1
entry_high None a = omega arith
entry_high (Some p) a = omega arith

-- the register of the turn
pub turned_turn : (order : Option ℕ) (f : ℕ → ℤ) (a x e : ℕ) → turned order f a x e a ≡ pos x
turned_turn None f a x e = put_same f a _
turned_turn (Some p) f a x e = put_other (put f a (pos x)) (a + 1) _ a (omega arith) ∙ put_same f a _

pub put_alike : {A : Type 0} (f g : ℕ → A) (a : ℕ) (v w : A) (r : ℕ) → v ≡ w → (a ≢ r → f r ≡ g r) → put f a v r ≡ put g a w r
put_alike f g a v w r e h = case (cases_eq a r)
  where
    case : (a ≡ r) ⊎ (a ≢ r) → put f a v r ≡ put g a w r
    case (inl q) = subst (λ (z : ℕ). put f a v z ≡ put g a w z) q (put_same f a v ∙ (e ∙ sym (put_same g a w)))
    case (inr q) = put_other f a v r q ∙ (h q ∙ sym (put_other g a w r q))

-- what stands in the registers behind the entry of a turn
pub record Picked (order : Option ℕ) (a n x e : ℕ) (f : ℕ → ℤ) (u v : State) : Type 0 where
  pub regs : (r : ℕ) → r < entry_of order a + 1 → v.regs r ≡ turned order f a x e r
  pub out : (r : ℕ) → (a ≤ r → entry_of order a + 1 ≤ r) → v.regs r ≡ u.regs r
  pub entry : v.regs (entry_of order a) ≡ pos e
  pub bufs : v.bufs ≡ u.bufs
  pub steps : v.steps ≤ u.steps + 2

pub picked_does : (env : Env) (order : Option ℕ) (a n low x : ℕ) (place : ℕ → ℕ) (f : ℕ → ℤ) (rest : Code) (u : State) (Q : State → Type 0) → x < n → Picks order low n u.bufs place → ((r : ℕ) → r < a → u.regs r ≡ f r)
    → ((v : State) → Picked order a n x (place x) f u v → Does env rest v Q) → Does env (picked order a rest) (set_reg a (pos x) (tick 1 u)) Q
picked_does env None a n low x place f rest u Q lt p same end = end (set_reg a (pos x) (tick 1 u)) record {
  regs = λ r h. put_alike u.regs f a (pos x) (pos x) r refl (λ ne. same r (omega (arith, h, ne)));
  out = λ r h. put_other u.regs a _ r (λ e. let z = h (omega (arith, e)) in absurd (omega (arith, z, e)));
  entry = put_same u.regs a _ ∙ ap pos (sym (p x lt));
  bufs = refl;
  steps = omega arith;
}
picked_does env (Some b) a n low x place f rest u Q lt p same end =
    let u1 = set_reg a (pos x) (tick 1 u) in
    let v = slice_index_or (u.bufs b) x (pos 0) in
    let ev : v ≡ pos (place x) = p.2 x lt in
    do_load env (a + 1) (buf.New b) (Reg a) rest u1 Q x (put_same u.regs a _) (omega (arith, lt, p.1)) (end (set_reg (a + 1) v (tick 1 u1)) record {
      regs = λ r h. put_alike u1.regs (put f a (pos x)) (a + 1) v (pos (place x)) r ev (λ ne. put_alike u.regs f a (pos x) (pos x) r refl (λ no. same r (omega (arith, h, ne, no))));
      out = λ r h. put_other u1.regs (a + 1) _ r (λ e. let z = h (omega (arith, e)) in absurd (omega (arith, z, e))) ∙ put_other u.regs a _ r (λ e. let z = h (omega (arith, e)) in absurd (omega (arith, z, e)));
      entry = put_same u1.regs (a + 1) _ ∙ ev;
      bufs = refl;
      steps = omega arith;
    })

pub picks_stay : (order : Option ℕ) (low n : ℕ) (bufs other : ℕ → List ℤ) (place : ℕ → ℕ) → ((b : ℕ) → b < low → other b ≡ bufs b) → Picks order low n bufs place → Picks order low n other place
picks_stay None low n bufs other place same p = p
picks_stay (Some b) low n bufs other place same p = (p.0, ap length (same b p.0) ∙ p.1, λ x h. ap (λ (xs : List ℤ). slice_index_or xs x (pos 0)) (same b p.0) ∙ p.2 x h)

module _ (T : Turns) (d : Dim) (order : Option ℕ) (cols : List ℕ) (ls : List LevelTree) (place : ℕ → ℕ) (s : State) where
  record Before (x : ℕ) (u : State) : Type 0 where
    after : LevelsAfter T ls at_top x u
    same : IsSameOutside T.turn (names_end T.base ls) s u
    low : (b : ℕ) → b < T.base → u.bufs b ≡ s.bufs b
    steps : u.steps ≤ s.steps + 1 + x * (2 + length cols) + costs T ls at_top x

  turn : LoopNeeds T d order cols ls place s → (t : ℕ) (u : State) → t < T.count → Before t u → Does T.env (turn_body order cols ls T.turn) (set_reg T.turn (pos t) (tick 1 u)) (Before (suc t))
  turn w t u lt i =
      let a = T.turn in
      let e = entry_of order a in
      let lo = entry_low order a in
      let up = names_up T ls T.base at_top w.need in
      let in_base : a < T.base = omega (arith, lo, w.base) in
      picked_does T.env order a T.count T.base t place s.regs (loads cols (e + 1) e (levels ls (Number 0) a)) u (Before (suc t)) lt (picks_stay order T.base T.count s.bufs u.bufs place i.low w.picks) (λ r h. i.same.regs r (λ z. absurd (omega (arith, z, h))))
      (λ v p.
      let low : (b : ℕ) → b < T.base → v.bufs b ≡ s.bufs b = λ b h. ap (λ (f : ℕ → List ℤ). f b) p.bufs ∙ i.low b h in
      loads_do T.env cols (e + 1) e (place t) T.count T.base v (levels ls (Number 0) a) (Before (suc t)) p.entry (omega arith) (w.within t lt) (columns_stay T.base T.count s.bufs v.bufs cols low w.columns)
      (λ u3 r' bu st.
      let at_r : (r : ℕ) → u3.regs r ≡ loaded v.bufs cols (e + 1) (place t) v.regs r = λ r. ap (λ (f : ℕ → ℤ). f r) r' in
      let agree : (r : ℕ) → r < T.base → u3.regs r ≡ T.held t r = λ r h. at_r r ∙ (loads_agree s.bufs v.bufs cols (e + 1) (place t) T.count T.base (turned order s.regs a t (place t)) v.regs w.columns low p.regs r (omega (arith, h, w.base)) ∙ sym (w.held t r lt h)) in
      let out : (r : ℕ) → (a ≤ r → T.base ≤ r) → u3.regs r ≡ u.regs r = λ r h. at_r r ∙ (loads_low v.bufs cols (e + 1) (place t) v.regs r (λ q. let z = h (omega (arith, q, lo)) in omega (arith, z, w.base)) ∙ p.out r (λ q. let z = h q in omega (arith, z, w.base))) in
      let same3 : (b : ℕ) → u3.bufs b ≡ u.bufs b = λ b. ap (λ (f : ℕ → List ℤ). f b) bu ∙ ap (λ (f : ℕ → List ℤ). f b) p.bufs in
      let m3 : IsSameOutside a T.base u u3 = record { regs = out; bufs = λ b h. same3 b } in
      let held_turn : T.held t a ≡ pos t = w.held t a lt in_base ∙ (loads_low s.bufs cols (e + 1) (place t) (turned order s.regs a t (place t)) a (λ q. absurd (omega (arith, q, lo))) ∙ turned_turn order s.regs a t (place t)) in
      let held : Holds T t u3 = record { regs = agree; turn = agree a in_base ∙ held_turn; within = in_base } in
      do_weaker T.env _ u3 _ _
      (λ x q. record {
        after = q.after;
        same = record { regs = λ r h. q.same.regs r (λ k. h (omega (arith, k, in_base))) ∙ (out r (λ k. let z = h k in omega (arith, z, up)) ∙ i.same.regs r h); bufs = λ b h. q.same.bufs b (λ k. h (omega (arith, k, in_base))) ∙ (same3 b ∙ i.same.bufs b h) };
        low = λ b h. q.same.bufs b (λ k. absurd (omega (arith, k, h))) ∙ (same3 b ∙ i.low b h);
        steps = omega (arith, q.steps, st, p.steps, i.steps);
      })
      (levels_do T ls T.base at_top (Number 0) t u3 lt w.few (omega arith) w.need held tt refl (levels_stay T ls T.base a T.base at_top t u u3 w.need (omega arith) m3 i.after))))

  loop_does : LoopNeeds T d order cols ls place s → LevelsAfter T ls at_top 0 s → Does T.env (entry_loop d order cols ls T.turn) s (TookAll T cols ls s)
  loop_does w o =
      do_for T.env T.turn d (turn_body order cols ls T.turn) End s (TookAll T cols ls s) Before
      record { after = levels_stay T ls T.base T.turn T.turn at_top 0 s (tick 1 s) w.need (omega (arith, w.base, entry_low order T.turn)) record { regs = λ r g. refl; bufs = λ b g. refl } o; same = record { regs = λ r g. refl; bufs = λ b g. refl }; low = λ b h. refl; steps = omega arith }
      (λ t u lt i. turn w t u (omega (arith, lt, w.count)) i)
      (λ u i. let j = subst (λ (x : ℕ). Before x u) (sym w.count) i in do_end T.env u _ record { after = j.after; same = j.same; low = j.low; steps = j.steps })

pub loops_take_entries : LoopsTakeEntries
loops_take_entries T d order cols ls place s = loop_does T d order cols ls place s
