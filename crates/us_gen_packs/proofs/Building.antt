-- The whole block, packs included.
use Rattle.std.proofs.Common.{◌≡◌, ℕ, ◌+◌, ◌*◌, ◌<◌, ◌≤◌, ◌⊎◌, inl, inr, sym, ap, ◌∙◌, subst, arith, List, [], ◌∷◌, length, pos, ℤ}
use Rattle.std.specs.Prelude.{slice_index_or}
use Rattle.std.proofs.lemmas.Bool.{cases_lt}
use Rattle.us_code.specs.Plain.{◌+++◌}
use Rattle.us_code.specs.Run.{State, size_of}
use Rattle.us_code_laws.specs.Does.{Does}
use Rattle.us_code_laws.proofs.Does.{do_weaker, do_append}
use Rattle.us_gen_build.specs.Turns.{Turns, IsSameOutside, names_end}
use Rattle.us_gen_build.specs.Loops.{at_top}
use Rattle.us_gen_build.specs.Blocks.{closes}
use Rattle.us_gen_build.proofs.Opening.{levels_open}
use Rattle.us_gen_build.proofs.Closing.{closes_do, needs_stay}
use Rattle.us_gen_packs.specs.Packs.{PackTree, width, packed_loop}
use Rattle.us_gen_packs.specs.Turns.{last_at, PacksAfter}
use Rattle.us_gen_packs.specs.Blocks.{PacksZero, all_end, PackedBuilt, PackedBlocksBuild}
use Rattle.us_gen_packs.proofs.Cells.{in_cells}
use Rattle.us_gen_packs.proofs.Filling.{packs_up, packs_stay}
use Rattle.us_gen_packs.proofs.Looping.{loops_do}

-- a pack of zeros has taken no entry
zeros_interleave : (T : Turns) (ws : List PackTree) (at : ℕ → ℕ) (s u : State) → u.bufs ≡ s.bufs → PacksZero T.env ws s → PacksAfter T ws at 0 u
zeros_interleave T [] at s u e z = tt
zeros_interleave T (w ∷ ws) at s u e z = (
  record {
    long = ap (λ (f : ℕ → List ℤ). length (f w.first)) e ∙ z.0.long;
    each = λ c y hc hy. ap (λ (f : ℕ → List ℤ). slice_index_or (f w.first) (c * width w + y) (pos 0)) e ∙ z.0.each (c * width w + y) (in_cells (size_of T.env w.length) (width w) c y hc hy);
  },
  zeros_interleave T ws at s u e z.1,
)

pub packed_blocks_build : PackedBlocksBuild
packed_blocks_build T d order cols ls ws place n s w zeros close pack none le =
    let loop = packed_loop d order cols ls ws T.turn in
    let rest = loop +++ closes ls n in
    let opened = levels_open T T.base ls at_top rest s w.need zeros in
    let u = opened.0 in
    let o = opened.2 in
    let up = packs_up T ws (names_end T.base ls) (last_at T ls at_top) pack in
    let w2 = needs_stay T d order cols ls place s u o.bufs (λ r h. o.same.regs r (λ z. absurd (omega (arith, z, h)))) w in
    let go : Does T.env rest u (PackedBuilt T cols ls ws s) =
    do_append T.env loop (closes ls n) u (PackedBuilt T cols ls ws s)
    (do_weaker T.env loop u _ (λ v. Does T.env (closes ls n) v (PackedBuilt T cols ls ws s))
    (λ v t. do_weaker T.env (closes ls n) v _ (PackedBuilt T cols ls ws s)
    (λ z p. record {
      built = p.built;
      packs = packs_stay T ws (names_end T.base ls) T.base (names_end T.base ls) (last_at T ls at_top) T.count v z pack (omega arith) p.bufs t.packs;
      bufs = λ b h. p.bufs b (λ k. let y = h k in omega (arith, y, up)) ∙ (kept b h v t.low t.same (cases_lt b T.base) ∙ ap (λ (f : ℕ → List ℤ). f b) o.bufs);
      steps = omega (arith, p.steps, t.steps, o.steps);
    })
    (closes_do T ls T.base at_top n v w.need close (omega (arith, le, up)) t.after))
    (loops_do T d order cols ls ws place u w2 pack o.after (zeros_interleave T ws (last_at T ls at_top) s u o.bufs none))) in
    record { post = subst (PackedBuilt T cols ls ws s) (sym opened.1) go.post; calm = ap (λ (x : State). x.stuck) opened.1 ∙ (go.calm ∙ o.stuck) }
  where
    kept : {u : State} (b : ℕ) → (T.base ≤ b → all_end T.base ls ws ≤ b) → (v : State) → ((c : ℕ) → c < T.base → v.bufs c ≡ u.bufs c) → IsSameOutside T.turn (all_end T.base ls ws) u v → (b < T.base) ⊎ (T.base ≤ b) → v.bufs b ≡ u.bufs b
    kept b h v low same (inl lt) = low b lt
    kept b h v low same (inr ge) = same.bufs b (λ k. h ge)
