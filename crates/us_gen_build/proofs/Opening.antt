-- What stands in front of the first entry.
use Rattle.std.proofs.Common.{◌≡◌, ℕ, ◌+◌, ◌*◌, ◌≤◌, Bool, refl, sym, ap, ◌∙◌, arith, subst, List, [], ◌∷◌, length, pos, negsuc, ℤ, ◌-ℤ◌}
use Rattle.std.specs.Int.{int_wrap}
use Rattle.std.proofs.lemmas.Int.{int_wrap_fits}
use mir.Syntax.{w64}
use Rattle.us_code.specs.Plain.{Code}
use Rattle.us_code.specs.Run.{State, exec, tick, set_reg}
use Rattle.us_code_laws.proofs.Sequence.{put_same, put_other}
use Rattle.us_gen_build.specs.declared.levels.Role.{Role}
use Rattle.us_gen_build.specs.declared.levels.Role.TheVariants.{Full, Shared, Single, AtPosition, AtRank, Counted, Marked, Kept}
use Rattle.us_gen_build.specs.Levels.{LevelTree, open_of, opens}
use Rattle.us_gen_build.specs.Turns.{Turns, IsSameOutside, names_end, LevelAfter, AllNeed, inside}
use Rattle.us_gen_build.specs.Loops.{Zero, AllZero, Opened, LevelsOpen}
use Rattle.us_gen_build.proofs.LevelsRun.{level_stays, names_up}

wrap_minus : int_wrap w64 (pos 0 -ℤ pos 1) ≡ negsuc 0
wrap_minus = int_wrap_fits w64 (negsuc 0) record { sfits = omega arith }

module _ (T : Turns) where
  -- one level
  record Opens (r : Role) (l : LevelTree) (at : ℕ → ℕ) (s u : State) : Type 0 where
    pub after : LevelAfter T r l at 0 u
    pub same : IsSameOutside l.first (l.first + 4) s u
    pub bufs : u.bufs ≡ s.bufs
    pub steps : u.steps ≤ s.steps + 2
    pub stuck : u.stuck ≡ s.stuck

  abbrev vars : LevelTree → State → State
  vars l s = set_reg (l.first + 1) (int_wrap w64 (pos 0 -ℤ pos 1)) (tick 1 (set_reg l.first (int_wrap w64 (pos 0 -ℤ pos 1)) (tick 1 s)))

  last_is : (l : LevelTree) (s : State) → (vars l s).regs l.first ≡ negsuc 0
  last_is l s = put_other (set_reg l.first (int_wrap w64 (pos 0 -ℤ pos 1)) (tick 1 s)).regs (l.first + 1) _ l.first (omega arith) ∙ (put_same s.regs l.first _ ∙ wrap_minus)

  node_is : (l : LevelTree) (s : State) → (vars l s).regs (l.first + 1) ≡ negsuc 0
  node_is l s = put_same (set_reg l.first (int_wrap w64 (pos 0 -ℤ pos 1)) (tick 1 s)).regs (l.first + 1) _ ∙ wrap_minus

  vars_same : (l : LevelTree) (s : State) → IsSameOutside l.first (l.first + 4) s (vars l s)
  vars_same l s = record {
    regs = λ r h. put_other (set_reg l.first (int_wrap w64 (pos 0 -ℤ pos 1)) (tick 1 s)).regs (l.first + 1) _ r (λ e. let z = h (omega (arith, e)) in absurd (omega (arith, z, e))) ∙ put_other s.regs l.first _ r (λ e. let z = h (omega (arith, e)) in absurd (omega (arith, z, e)));
    bufs = λ b h. refl;
  }

  level_opens : (r : Role) (l : LevelTree) (at : ℕ → ℕ) (rest : Code) (s : State) → Zero T.env r l s → (u : State) × (exec T.env (open_of r l rest) s ≡ exec T.env rest u) × Opens r l at s u
  level_opens Full l at rest s z = (s, refl, record { after = tt; same = record { regs = λ r h. refl; bufs = λ b h. refl }; bufs = refl; steps = omega arith; stuck = refl })
  level_opens Single l at rest s z = (s, refl, record { after = record { marks = z.0; cells = z.1 }; same = record { regs = λ r h. refl; bufs = λ b h. refl }; bufs = refl; steps = omega arith; stuck = refl })
  level_opens Marked l at rest s z = (s, refl, record { after = record { marks = z }; same = record { regs = λ r h. refl; bufs = λ b h. refl }; bufs = refl; steps = omega arith; stuck = refl })
  level_opens Kept l at rest s z = (s, refl, record { after = tt; same = record { regs = λ r h. refl; bufs = λ b h. refl }; bufs = refl; steps = omega arith; stuck = refl })
  level_opens AtPosition l at rest s z = (s, refl, record { after = record { cells = z }; same = record { regs = λ r h. refl; bufs = λ b h. refl }; bufs = refl; steps = omega arith; stuck = refl })
  level_opens AtRank l at rest s z = (s, refl, record { after = record { cells = z }; same = record { regs = λ r h. refl; bufs = λ b h. refl }; bufs = refl; steps = omega arith; stuck = refl })
  level_opens Shared l at rest s z = (vars l s, refl, record { after = record { last = last_is l s; node = node_is l s; marks = z.0; cells = z.1 }; same = vars_same l s; bufs = refl; steps = omega arith; stuck = refl })
  level_opens Counted l at rest s z = (vars l s, refl, record { after = record { last = last_is l s; node = node_is l s }; same = vars_same l s; bufs = refl; steps = omega arith; stuck = refl })

  zero_stays : (r : Role) (l : LevelTree) (s u : State) → u.bufs ≡ s.bufs → Zero T.env r l s → Zero T.env r l u
  zero_stays r l s u e z = subst (λ (f : ℕ → List ℤ). Zero T.env r l record { regs = u.regs; bufs = f; steps = u.steps; stuck = u.stuck }) (sym e) (moved r z)
    where
      moved : (r : Role) → Zero T.env r l s → Zero T.env r l record { regs = u.regs; bufs = s.bufs; steps = u.steps; stuck = u.stuck }
      moved Full z = z
      moved Counted z = z
      moved Shared z = z
      moved Single z = z
      moved AtPosition z = z
      moved AtRank z = z
      moved Marked z = z
      moved Kept z = z

  zeros_stay : (ls : List LevelTree) (s u : State) → u.bufs ≡ s.bufs → AllZero T.env ls s → AllZero T.env ls u
  zeros_stay [] s u e z = tt
  zeros_stay (l ∷ ls) s u e z = (zero_stays l.role l s u e z.0, zeros_stay ls s u e z.1)

  all_open : (ls : List LevelTree) (lo : ℕ) (at : ℕ → ℕ) (rest : Code) (s : State) → AllNeed T lo ls at → AllZero T.env ls s → (u : State) × (exec T.env (opens ls rest) s ≡ exec T.env rest u) × Opened T lo ls at s u
  all_open [] lo at rest s w z = (s, refl, record { after = tt; same = record { regs = λ r h. refl; bufs = λ b h. refl }; bufs = refl; steps = omega arith; stuck = refl })
  all_open (l ∷ ls) lo at rest s w z =
      let next = inside T l at in
      let up = names_up T ls (l.first + 4) next w.2 in
      let one = level_opens l.role l at (opens ls rest) s z.0 in
      let u = one.0 in
      let o = one.2 in
      let more = all_open ls (l.first + 4) next rest u w.2 (zeros_stay ls s u o.bufs z.1) in
      let t = more.0 in
      let m = more.2 in (
        t,
        one.1 ∙ more.1,
        record {
          after = (level_stays T l.role l at 0 u t (l.first + 4) (names_end (l.first + 4) ls) m.same (λ y p q k. absurd (omega (arith, q, k))) o.after, m.after);
          same = record { regs = λ r h. m.same.regs r (λ e. h (omega (arith, e, w.0))) ∙ o.same.regs r (λ e. let y = h (omega (arith, e, w.0)) in omega (arith, y, up)); bufs = λ b h. ap (λ (f : ℕ → List ℤ). f b) (m.bufs ∙ o.bufs) };
          bufs = m.bufs ∙ o.bufs;
          steps = omega (arith, o.steps, m.steps);
          stuck = m.stuck ∙ o.stuck;
        },
      )

pub levels_open : LevelsOpen
levels_open T lo ls at rest s = all_open T ls lo at rest s
