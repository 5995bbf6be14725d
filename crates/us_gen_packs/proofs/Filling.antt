-- The packs take an entry.
use Rattle.std.proofs.Common.{◌≡◌, ℕ, suc, ◌+◌, ◌<◌, ◌≤◌, Bool, true, false, refl, sym, ap, ◌∙◌, arith, List, [], ◌∷◌, length, pos, ℤ}
use Rattle.us_code.specs.Plain.{TermTree, Reg, Code, End}
use Rattle.us_code.specs.Run.{State, value, tick, set_reg}
use Rattle.us_code_laws.specs.Does.{Does}
use Rattle.us_code_laws.proofs.Sequence.{put_same, put_other}
use Rattle.us_code_laws.proofs.Does.{do_end, do_weaker, do_when}
use Rattle.us_gen_build.specs.Turns.{Turns, Holds, Reads, IsSameOutside}
use Rattle.us_gen_build.proofs.Terms.{reads_more, value_stays}
use Rattle.us_gen_packs.specs.Packs.{PackTree, width, cells_from, write, packs}
use Rattle.us_gen_packs.specs.Turns.{packs_end, column, PackNeeds, PackAfter, PacksNeed, PacksAfter, PackedEntry, PacksTakeEntries}
use Rattle.us_gen_packs.proofs.Cells.{interleaves_moved, none_done, cells_do}

from_zero : (j : ℕ) → j ≡ 0 + j
from_zero j = omega arith

module _ (T : Turns) where
  pub packs_up : (ws : List PackTree) (lo : ℕ) (at : ℕ → ℕ) → PacksNeed T lo ws at → lo ≤ packs_end lo ws
  packs_up [] lo at h = omega arith
  packs_up (w ∷ ws) lo at h = omega (arith, h.0, packs_up ws (w.first + 1) at h.2)

  pub packs_stay : (ws : List PackTree) (lo a b : ℕ) (at : ℕ → ℕ) (x : ℕ) (s u : State) → PacksNeed T lo ws at → b ≤ lo → ((c : ℕ) → (a ≤ c → b ≤ c) → u.bufs c ≡ s.bufs c) → PacksAfter T ws at x s → PacksAfter T ws at x u
  packs_stay [] lo a b at x s u h le m i = tt
  packs_stay (w ∷ ws) lo a b at x s u h le m i =
      (interleaves_moved (s.bufs w.first) (u.bufs w.first) _ _ _ (m w.first (λ k. omega (arith, le, h.0))) i.0, packs_stay ws (w.first + 1) a b at x s u h.2 (omega (arith, le, h.0)) m i.1)

  -- one pack, whatever stands behind it
  write_does : (r : Bool) (w : PackTree) (at : ℕ → ℕ) (q : TermTree) (x : ℕ) (rest : Code) (s : State) (Q : State → Type 0) → w.at_rank ≡ r → x < T.count → PackNeeds T w at → Holds T x s → value T.env s.regs q ≡ pos (at x) → PackAfter T w at x s
      → ((u : State) → IsSameOutside w.first (w.first + 1) s u → PackAfter T w at (suc x) u → u.steps ≤ s.steps + (1 + width w) → Does T.env rest u Q) → Does T.env (write r w q T.turn rest) s Q
  write_does true w at q x rest s Q er lt v h eq i end =
      cells_do T w at x w.columns 0 (Reg T.turn) rest s Q (omega arith) (λ j g. ap (column w.columns) (from_zero j)) v.reads h (h.turn ∙ ap pos (sym (v.is_rank x lt er))) (v.within x lt) v.factor (none_done T w at x (s.bufs w.first) i)
      (λ u r b t st. end u record { regs = λ y g. ap (λ (f : ℕ → ℤ). f y) r; bufs = λ y g. b y (λ e. let z = g (omega (arith, e)) in absurd (omega (arith, z, e))) } t (omega (arith, st)))
  write_does false w at q x rest s Q er lt v h eq i end =
      let s1 = set_reg w.first (pos (at x)) (tick 1 s) in
      let low : (r : ℕ) → r < T.base → s1.regs r ≡ s.regs r = λ r g. put_other s.regs w.first _ r (λ e. omega (arith, e, g, v.room)) in
      do_when T.env q w.length w.first (cells_from w.first w.cells (Reg w.first) 0 w.columns End) false End rest s Q (at x) eq (v.within x lt)
      (cells_do T w at x w.columns 0 (Reg w.first) End s1 _ (omega arith) (λ j g. ap (column w.columns) (from_zero j)) v.reads
      record { regs = λ r g. low r g ∙ h.regs r g; turn = low T.turn h.within ∙ h.turn; within = h.within }
      (put_same s.regs w.first _) (v.within x lt) v.factor (none_done T w at x (s1.bufs w.first) i)
      (λ u r b t st. do_end T.env u _
      (end u
      record {
        regs = λ y g. ap (λ (f : ℕ → ℤ). f y) r ∙ put_other s.regs w.first _ y (λ e. let z = g (omega (arith, e)) in absurd (omega (arith, z, e)));
        bufs = λ y g. b y (λ e. let z = g (omega (arith, e)) in absurd (omega (arith, z, e)));
      } t (omega (arith, st)))))

  packs_do : (ws : List PackTree) (lo : ℕ) (at : ℕ → ℕ) (q : TermTree) (x : ℕ) (s : State) → x < T.count → T.base ≤ lo → PacksNeed T lo ws at → Holds T x s → Reads lo q → value T.env s.regs q ≡ pos (at x) → PacksAfter T ws at x s
      → Does T.env (packs ws q T.turn) s (PackedEntry T lo ws at x s)
  packs_do [] lo at q x s lt le w h rq eq i = do_end T.env s _ record { after = tt; same = record { regs = λ r g. refl; bufs = λ b g. refl }; steps = omega arith }
  packs_do (p ∷ ws) lo at q x s lt le w h rq eq i =
      write_does p.at_rank p at q x (packs ws q T.turn) s _ refl lt w.1 h eq i.0
      (λ u same inv steps.
      let hu : Holds T x u = record { regs = λ r g. same.regs r (λ e. absurd (omega (arith, e, g, le, w.0))) ∙ h.regs r g; turn = same.regs T.turn (λ e. absurd (omega (arith, e, le, w.0, h.within))) ∙ h.turn; within = h.within } in
      let up = packs_up ws (p.first + 1) at w.2 in
      do_weaker T.env _ u _ _
      (λ t o. record {
        after = (interleaves_moved (u.bufs p.first) (t.bufs p.first) _ _ _ (o.same.bufs p.first (λ k. absurd (omega (arith, k)))) inv, o.after);
        same = record {
          regs = λ r g. o.same.regs r (λ e. g (omega (arith, e, w.0))) ∙ same.regs r (λ e. let z = g (omega (arith, e, w.0)) in omega (arith, z, up));
          bufs = λ r g. o.same.bufs r (λ e. g (omega (arith, e, w.0))) ∙ same.bufs r (λ e. let z = g (omega (arith, e, w.0)) in omega (arith, z, up));
        };
        steps = omega (arith, steps, o.steps);
      })
      (packs_do ws (p.first + 1) at q x u lt (omega (arith, le, w.0)) w.2 hu (reads_more lo (p.first + 1) (omega (arith, w.0)) q rq)
      (value_stays T.env lo q s.regs u.regs rq (λ r g. same.regs r (λ e. absurd (omega (arith, e, g, w.0)))) ∙ eq)
      (packs_stay ws (p.first + 1) p.first (p.first + 1) at x s u w.2 (omega arith) same.bufs i.1)))

pub packs_take_entries : PacksTakeEntries
packs_take_entries T lo ws at q x s = packs_do T ws lo at q x s
