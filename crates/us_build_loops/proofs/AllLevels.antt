-- All levels of the block.
use Rattle.std.proofs.Common.{◌≡◌, ℕ, ◌+◌, ◌*◌, ◌≤◌, List, [], ◌∷◌, map, length, Bool, true, false, sym, refl, ap, ◌∙◌, subst, arith, suc-mul}
use Rattle.std.specs.List.{sum_by}
use Rattle.std.proofs.lemmas.List.{length-map}
use Rattle.std.proofs.lemmas.List.Sums.{sum_by-append}
use Rattle.us_code.specs.Run.{State, size_of}
use Rattle.us_code_laws.proofs.Does.{do_weaker}
use Rattle.us_format.specs.declared.Kind.{Kind}
use Rattle.us_format.specs.declared.Kind.TheVariants.{Compressed, Listed}
use Rattle.us_format.specs.Kinds.{Level}
use Rattle.us_format.specs.Packs as packs
use Rattle.us_format.specs.Packs.{Buffer}
use Rattle.us_format.specs.Positions.{Row, count_below, down, moved, rows_of}
use Rattle.us_format.specs.Buffers.{buffers_at, level_buffers}
use Rattle.us_format.proofs.Shuffled.{shuffled-level_buffers}
use Rattle.us_format_loops.specs.Laws.{levels_on}
use Rattle.us_running.proofs.Running.{seen_up}
use Rattle.us_gen_build.specs.declared.levels.Role.{Role}
use Rattle.us_gen_build.specs.declared.levels.Role.TheVariants as role
use Rattle.us_gen_build.specs.Levels.{LevelTree}
use Rattle.us_gen_build.specs.Turns.{Turns, AllNeed, inside, keys, cost, costs}
use Rattle.us_gen_build.specs.Loops.{at_top}
use Rattle.us_gen_build.specs.Blocks.{AllBuilt, AllClose, build_block, pos_cost, close_cost, close_costs}
use Rattle.us_gen_build.proofs.Closing.{blocks_build}
use Rattle.us_gen_build_laws.specs.Numbering.{Suits, Taken, AreTaken}
use Rattle.us_gen_build_laws.specs.Built.{AreBuilt}
use Rattle.us_gen_build_laws.proofs.Levels.{buffers-built}
use Rattle.us_gen_build_laws.proofs.Part.{sorted-ready, at-top, placed-top, slots-top}
use Rattle.us_build_loops.specs.Standing.{numbering_of, taken_of, has_starts, Spreads, StandsFor}
use Rattle.us_build_loops.specs.Finished.{FillBuffers, all_lists_in, values_in}
use Rattle.us_build_loops.specs.Laws.{TakeRows, NeedsAreMet, PositionsAreCounted, BuffersAreRight, CostsAreLinear, PiecesBuilt, BlocksBuildPieces}
use Rattle.us_build_loops.proofs.Needs.{taken-is, inside-is, inside-at, needs, close-needs, value-needs, value-closes}
use Rattle.us_build_loops.proofs.Written.{count-is, built-here, values-here}

-- the rows one level down
pub take-down : (T : Turns) (lo : ℕ) (l : LevelTree) (ls : List LevelTree) (k : Level) (ks : List Level) (n : ℕ) (rows : List Row) (at : ℕ → ℕ) → TakeRows T lo (l ∷ ls) (k ∷ ks) n rows at
    → TakeRows T (l.first + 4) ls ks (count_below k.kind k.size n rows) (down k.kind k.size rows) (inside T l at)
take-down T lo l ls k ks n rows at h = record {
  entries = length-map rows (moved k.kind k.size rows) ∙ h.entries;
  ready = h.ready.1;
  positions = inside-at T l k ks n rows at h.entries h.ready.0 h.positions h.stand.1;
  stand = h.stand.2;
}

pub all-need : (T : Turns) (lo : ℕ) (ls : List LevelTree) (ks : List Level) (n : ℕ) (rows : List Row) (at : ℕ → ℕ) → TakeRows T lo ls ks n rows at → AllNeed T lo ls at
all-need T lo [] ks n rows at h = tt
all-need T lo (l ∷ ls) (k ∷ ks) n rows at h = (
  h.stand.0,
  needs T l k ks n rows at h.entries h.ready.0 h.positions h.stand.1,
  all-need T (l.first + 4) ls ks (count_below k.kind k.size n rows) (down k.kind k.size rows) (inside T l at) (take-down T lo l ls k ks n rows at h),
)
all-need T lo (l ∷ []) [] n rows at h = (h.stand.0, value-needs T l n rows at h.entries h.ready h.positions h.stand.1, tt)
all-need T lo (l ∷ j ∷ ls) [] n rows at h = absurd h.stand

pub all-close : (T : Turns) (lo : ℕ) (ls : List LevelTree) (ks : List Level) (n : ℕ) (rows : List Row) (at : ℕ → ℕ) → TakeRows T lo ls ks n rows at → AllClose T ls at
all-close T lo [] ks n rows at h = tt
all-close T lo (l ∷ ls) (k ∷ ks) n rows at h = (
  close-needs T l k ks n rows at h.entries h.ready.0 h.positions h.stand.1 l.role refl,
  all-close T (l.first + 4) ls ks (count_below k.kind k.size n rows) (down k.kind k.size rows) (inside T l at) (take-down T lo l ls k ks n rows at h),
)
all-close T lo (l ∷ []) [] n rows at h = (value-closes T l n rows at h.entries h.ready h.positions h.stand.1 l.role h.stand.1.spreads, tt)
all-close T lo (l ∷ j ∷ ls) [] n rows at h = absurd h.stand

pub needs-met : NeedsAreMet
needs-met T lo ls ks n rows at h = (all-need T lo ls ks n rows at h, all-close T lo ls ks n rows at h)

pub positions-counted : PositionsAreCounted
positions-counted T lo (l ∷ ls) (k ∷ ks) n rows at u h i = (
  (λ e. count-is T l k ks n rows at h.entries h.ready.0 h.positions h.stand.1 u i.0 e),
  positions-counted T (l.first + 4) ls ks (count_below k.kind k.size n rows) (down k.kind k.size rows) (inside T l at) u (take-down T lo l ls k ks n rows at h) i.1,
)
positions-counted T lo [] ks n rows at u h i = tt
positions-counted T lo (l ∷ ls) [] n rows at u h i = tt

-- ---- buffers

-- the levels of the format as they are taken
abbrev pub all_taken : Turns → List LevelTree → List Level → List Taken
all_taken T (l ∷ ls) (k ∷ ks) = taken_of T l ∷ all_taken T ls ks
all_taken T _ _ = []

pub are-taken : (T : Turns) (lo : ℕ) (ls : List LevelTree) (ks : List Level) (n : ℕ) (rows : List Row) (at : ℕ → ℕ) → TakeRows T lo ls ks n rows at → FillBuffers ls ks → AreTaken (all_taken T ls ks) ks rows
are-taken T lo (l ∷ ls) (k ∷ ks) n rows at h f = (
  taken-is T l k ks n rows at h.entries h.ready.0 h.positions h.stand.1,
  are-taken T (l.first + 4) ls ks (count_below k.kind k.size n rows) (down k.kind k.size rows) (inside T l at) (take-down T lo l ls k ks n rows at h) f.1,
)
are-taken T lo (l ∷ []) [] n rows at h f = tt
are-taken T lo (l ∷ j ∷ ls) [] n rows at h f = absurd f
are-taken T lo [] ks n rows at h f = absurd f

pub are-built : (T : Turns) (lo : ℕ) (ls : List LevelTree) (ks : List Level) (n : ℕ) (rows : List Row) (at : ℕ → ℕ) (u : State) → TakeRows T lo ls ks n rows at → FillBuffers ls ks → AllBuilt T ls at u
    → AreBuilt (all_taken T ls ks) ks (all_lists_in u ls ks) (values_in u ls ks) n rows at
are-built T lo (l ∷ ls) (k ∷ ks) n rows at u h f i = (
  built-here T l k ks n rows at h.entries h.ready.0 h.positions h.stand.1 u i.0 k.kind refl f.0,
  subst (AreBuilt (all_taken T ls ks) ks (all_lists_in u ls ks) (values_in u ls ks) (count_below k.kind k.size n rows) (down k.kind k.size rows)) (inside-is T l k ks n rows at h.entries h.ready.0 h.positions h.stand.1)
      (are-built T (l.first + 4) ls ks (count_below k.kind k.size n rows) (down k.kind k.size rows) (inside T l at) u (take-down T lo l ls k ks n rows at h) f.1 i.1),
)
are-built T lo (l ∷ []) [] n rows at u h f i = values-here T l n rows at u h.entries h.stand.1 i.0
are-built T lo (l ∷ j ∷ ls) [] n rows at u h f i = absurd f
are-built T lo [] ks n rows at u h f i = absurd f

pub buffers-right : BuffersAreRight
buffers-right T lo ls ks n rows at u h f i =
    buffers-built (all_taken T ls ks) ks (all_lists_in u ls ks) (values_in u ls ks) n rows at h.ready (are-taken T lo ls ks n rows at h f) h.positions (are-built T lo ls ks n rows at u h f i)

-- ---- costs

level-cost : (T : Turns) (r : Role) (l : LevelTree) (at : ℕ → ℕ) (x : ℕ) → cost T r l at x ≤ 7 * x
level-cost T role.Full l at x = omega arith
level-cost T role.Shared l at x = omega (arith, seen_up (keys T l at) x)
level-cost T role.Single l at x = omega arith
level-cost T role.AtPosition l at x = omega arith
level-cost T role.AtRank l at x = omega arith
level-cost T role.Counted l at x = omega (arith, seen_up (keys T l at) x)
level-cost T role.Marked l at x = omega arith
level-cost T role.Kept l at x = omega arith

pub loop-cost : (T : Turns) (ls : List LevelTree) (at : ℕ → ℕ) (x : ℕ) → costs T ls at x ≤ length ls * (7 * x)
loop-cost T [] at x = omega arith
loop-cost T (l ∷ ls) at x = omega (arith, level-cost T l.role l at x, loop-cost T ls (inside T l at) x, suc-mul (length ls) (7 * x))

abbrev pub length_of : Buffer → ℕ
length_of b = b.len

end-cost : (T : Turns) (l : LevelTree) (n : ℕ) (b : Bool) → size_of T.env l.pos_length ≡ n + 1 → pos_cost T b l ≤ 2 + 4 * (n + 1)
end-cost T l n true e = omega arith
end-cost T l n false e = omega (arith, e)

level-end : (T : Turns) (l : LevelTree) (k : Level) (behind : List Level) (n : ℕ) (rows : List Row) (at : ℕ → ℕ) → StandsFor T l k behind n rows at → (r : Role) → l.role ≡ r → (z : Kind) → Suits (numbering_of r) z
    → close_cost T r l ≤ 2 + 4 * sum_by length_of (buffers_at z k.size n rows)
level-end T l k behind n rows at st role.Shared e Compressed s = omega (arith, end-cost T l n l.is_top (st.pos_length (subst (λ (r : Role). has_starts r ≡ true) (sym e) refl)))
level-end T l k behind n rows at st role.Single e Compressed s = omega (arith, end-cost T l n l.is_top (st.pos_length (subst (λ (r : Role). has_starts r ≡ true) (sym e) refl)))
level-end T l k behind n rows at st role.Single e Listed s = omega (arith, end-cost T l n l.is_top (st.pos_length (subst (λ (r : Role). has_starts r ≡ true) (sym e) refl)))
level-end T l k behind n rows at st role.Full e z s = omega arith
level-end T l k behind n rows at st role.AtPosition e z s = omega arith
level-end T l k behind n rows at st role.AtRank e z s = omega arith
level-end T l k behind n rows at st role.Counted e z s = omega arith
level-end T l k behind n rows at st role.Marked e Compressed s = omega (arith, end-cost T l n l.is_top (st.pos_length (subst (λ (r : Role). has_starts r ≡ true) (sym e) refl)))
level-end T l k behind n rows at st role.Marked e Listed s = omega (arith, end-cost T l n l.is_top (st.pos_length (subst (λ (r : Role). has_starts r ≡ true) (sym e) refl)))
level-end T l k behind n rows at st role.Kept e z s = omega arith
level-end T l k behind n rows at st _ e _ s = absurd s

value-end : (T : Turns) (l : LevelTree) (r : Role) → Spreads r → close_cost T r l ≡ 0
value-end T l role.AtPosition p = refl
value-end T l role.AtRank p = refl
value-end T l _ p = absurd p

pub end-costs : (T : Turns) (lo : ℕ) (ls : List LevelTree) (ks : List Level) (n : ℕ) (rows : List Row) (at : ℕ → ℕ) → TakeRows T lo ls ks n rows at → close_costs T ls ≤ 2 * length ks + 4 * sum_by length_of (level_buffers ks n rows)
end-costs T lo [] ks n rows at h = omega arith
end-costs T lo (l ∷ ls) (k ∷ ks) n rows at h =
    omega (
      arith,
      level-end T l k ks n rows at h.stand.1 l.role refl k.kind h.stand.1.suits,
      end-costs T (l.first + 4) ls ks (count_below k.kind k.size n rows) (down k.kind k.size rows) (inside T l at) (take-down T lo l ls k ks n rows at h),
      sum_by-append length_of (buffers_at k.kind k.size n rows) (level_buffers ks (count_below k.kind k.size n rows) (down k.kind k.size rows)),
    )
end-costs T lo (l ∷ []) [] n rows at h = omega (arith, value-end T l l.role h.stand.1.spreads)
end-costs T lo (l ∷ j ∷ ls) [] n rows at h = absurd h.stand

pub costs-linear : CostsAreLinear
costs-linear = record { loop = loop-cost; ends = end-costs }

-- ---- a part

pub blocks-build-pieces : BlocksBuildPieces
blocks-build-pieces s p m rows la im perm o T d order cols ls place n v entries stand f w zeros le =
    do_weaker T.env (build_block d order cols ls T.turn n) v _ (PiecesBuilt s p m T cols ls v)
    (λ u b. record {
      lists = buffers-right T T.base ls (levels_on s p m) 1 rows at_top u taken f b.built ∙ ap (map packs.written) moved_buffers;
      bufs = b.bufs;
      steps = omega (
        arith,
        b.steps,
        loop-cost T ls at_top T.count,
        end-costs T T.base ls (levels_on s p m) 1 rows at_top taken,
        ap (sum_by length_of) moved_buffers,
      );
    })
    (blocks_build T d order cols ls place n v w zeros (all-close T T.base ls (levels_on s p m) 1 rows at_top taken) le)
  where
    taken : TakeRows T T.base ls (levels_on s p m) 1 rows at_top
    taken = record { entries = entries; ready = sorted-ready s p m rows la im perm o; positions = at-top s p m la im rows perm; stand = stand }

    moved_buffers : level_buffers (levels_on s p m) 1 rows ≡ level_buffers (levels_on s p m) 1 (rows_of m s p)
    moved_buffers = shuffled-level_buffers (levels_on s p m) 1 (rows_of m s p) rows perm (placed-top s p m la im) (slots-top s p m la im)
