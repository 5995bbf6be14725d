-- The lists of all levels: those in buffers of their own, and what the entries write in packs.
use Rattle.std.proofs.Common.{◌≡◌, ℕ, ◌+◌, List, [], ◌∷◌, length, Bool, true, false, cond, sym, refl, subst, ℤ, pos}
use Rattle.us_code.specs.Run.{State}
use Rattle.us_format.specs.declared.Kind.{Kind}
use Rattle.us_format.specs.declared.Kind.TheVariants.{Full, Compressed, Listed, Slot}
use Rattle.us_format.specs.Kinds.{Level}
use Rattle.us_format.specs.Positions.{Row, count_below, down}
use Rattle.us_gen_build.specs.declared.levels.Role.TheVariants as role
use Rattle.us_gen_build.specs.Levels.{LevelTree}
use Rattle.us_gen_build.specs.Turns.{Turns, inside, writes_crd}
use Rattle.us_gen_build.specs.Blocks.{LevelBuilt, AllBuilt}
use Rattle.us_gen_build_laws.specs.Rows.{row}
use Rattle.us_gen_build_laws.specs.Ready.{IsReady}
use Rattle.us_gen_build_laws.specs.Numbering.{Suits, AreAt, AreTaken, under}
use Rattle.us_gen_build_laws.specs.Built.{Lists, AreWritten, IsBuilt, AreBuilt}
use Rattle.us_build_loops.specs.Standing.{numbering_of, taken_of, StandsFor}
use Rattle.us_build_loops.specs.Laws.{TakeRows}
use Rattle.us_build_loops.proofs.Needs.{taken-is, inside-is}
use Rattle.us_build_loops.proofs.Written.{cells-here, starts-here, starts-of, values-here}
use Rattle.us_build_loops.proofs.AllLevels.{take-down, all_taken}
use Rattle.us_pack_loops.specs.Names.{CoverLevels}
use Rattle.us_pack_loops.proofs.Entries.{entries_in, entries-written}

module _ (T : Turns) (u : State) where
  abbrev pub coordinates_in : LevelTree → ℕ → (ℕ → ℕ) → List ℤ
  coordinates_in l m at = cond (writes_crd l.role) (u.bufs (l.first + 1)) (entries_in T.count (inside T l at) (λ x. pos (T.coord l x)) m)

  abbrev pub all_lists_of : List LevelTree → List Level → ℕ → List Row → (ℕ → ℕ) → List Lists
  all_lists_of (l ∷ ls) (k ∷ ks) n rows at =
      record { starts = u.bufs l.first; coordinates = coordinates_in l (count_below k.kind k.size n rows) at }
      ∷ all_lists_of ls ks (count_below k.kind k.size n rows) (down k.kind k.size rows) (inside T l at)
  all_lists_of _ _ n rows at = []

  abbrev pub values_of : List LevelTree → List Level → ℕ → List Row → (ℕ → ℕ) → List ℤ
  values_of (l ∷ ls) (k ∷ ks) n rows at = values_of ls ks (count_below k.kind k.size n rows) (down k.kind k.size rows) (inside T l at)
  values_of [] (k ∷ ks) n rows at = []
  values_of (l ∷ ls) [] n rows at = u.bufs (l.first + 1)
  values_of [] [] n rows at = entries_in T.count at (λ x. (row rows x).value) n

  module _ (l : LevelTree) (k : Level) (behind : List Level) (n : ℕ) (rows : List Row) (at : ℕ → ℕ) (entries : length rows ≡ T.count) (ready : IsReady k behind n rows) (ats : AreAt rows at) (st : StandsFor T l k behind n rows at) (built : LevelBuilt T l.role l at u) where
    coordinates-here : (b : Bool) → writes_crd l.role ≡ b
        → AreWritten (length rows) (under (taken_of T l) k.size at) (λ x. pos (T.coord l x)) (count_below k.kind k.size n rows) (cond b (u.bufs (l.first + 1)) (entries_in T.count (inside T l at) (λ x. pos (T.coord l x)) (count_below k.kind k.size n rows)))
    coordinates-here true e = cells-here T l k behind n rows at entries ready ats st u built e
    coordinates-here false e =
        let cells = entries_in T.count (inside T l at) (λ x. pos (T.coord l x)) (count_below k.kind k.size n rows) in
        subst (λ (f : ℕ → ℕ). AreWritten (length rows) f (λ x. pos (T.coord l x)) (count_below k.kind k.size n rows) cells) (inside-is T l k behind n rows at entries ready ats st)
        (subst (λ (v : ℕ). AreWritten v (inside T l at) (λ x. pos (T.coord l x)) (count_below k.kind k.size n rows) cells) (sym entries)
        (entries-written T.count (inside T l at) (λ x. pos (T.coord l x)) (count_below k.kind k.size n rows)))

    abbrev mine : Lists
    mine = record { starts = u.bufs l.first; coordinates = coordinates_in l (count_below k.kind k.size n rows) at }

    coordinates-are : (z : Kind) → k.kind ≡ z → AreWritten (length rows) (under (taken_of T l) k.size at) (λ x. pos (T.coord l x)) (count_below z k.size n rows) mine.coordinates
    coordinates-are z e = subst (λ (y : Kind). AreWritten (length rows) (under (taken_of T l) k.size at) (λ x. pos (T.coord l x)) (count_below y k.size n rows) mine.coordinates) e (coordinates-here (writes_crd l.role) refl)

    suits-as : (z : Kind) → k.kind ≡ z → Suits (numbering_of l.role) z
    suits-as z e = subst (Suits (numbering_of l.role)) e st.suits

    level-built : (z : Kind) → k.kind ≡ z → (l.role ≡ role.Counted → ⊥) → IsBuilt z (taken_of T l) k.size n rows at mine
    level-built Full e c = tt
    level-built Compressed e c = (
      starts-here T l k behind n rows at entries ready ats st u built (starts-of T l k behind n rows at entries ready ats st u built l.role Compressed (suits-as Compressed e) c (λ q. cc) (λ q. cc)),
      coordinates-are Compressed e,
    )
    level-built Listed e c = (
      starts-here T l k behind n rows at entries ready ats st u built (starts-of T l k behind n rows at entries ready ats st u built l.role Listed (suits-as Listed e) c (λ q. cc) (λ q. cc)),
      coordinates-are Listed e,
    )
    level-built Slot e c = coordinates-are Slot e

pub all-taken : (T : Turns) (lo : ℕ) (ls : List LevelTree) (ks : List Level) (n : ℕ) (rows : List Row) (at : ℕ → ℕ) → TakeRows T lo ls ks n rows at → CoverLevels ls ks → AreTaken (all_taken T ls ks) ks rows
all-taken T lo (l ∷ ls) (k ∷ ks) n rows at h f = (
  taken-is T l k ks n rows at h.entries h.ready.0 h.positions h.stand.1,
  all-taken T (l.first + 4) ls ks (count_below k.kind k.size n rows) (down k.kind k.size rows) (inside T l at) (take-down T lo l ls k ks n rows at h) f.1,
)
all-taken T lo (l ∷ []) [] n rows at h f = tt
all-taken T lo (l ∷ j ∷ ls) [] n rows at h f = absurd f
all-taken T lo [] (k ∷ ks) n rows at h f = absurd f
all-taken T lo [] [] n rows at h f = tt

pub all-built : (T : Turns) (lo : ℕ) (ls : List LevelTree) (ks : List Level) (n : ℕ) (rows : List Row) (at : ℕ → ℕ) (u : State) → TakeRows T lo ls ks n rows at → CoverLevels ls ks → AllBuilt T ls at u
    → AreBuilt (all_taken T ls ks) ks (all_lists_of T u ls ks n rows at) (values_of T u ls ks n rows at) n rows at
all-built T lo (l ∷ ls) (k ∷ ks) n rows at u h f i =
    let m = count_below k.kind k.size n rows in
    let below = down k.kind k.size rows in (
      level-built T u l k ks n rows at h.entries h.ready.0 h.positions h.stand.1 i.0 k.kind refl f.0,
      subst (AreBuilt (all_taken T ls ks) ks (all_lists_of T u ls ks m below (inside T l at)) (values_of T u ls ks m below (inside T l at)) m below) (inside-is T l k ks n rows at h.entries h.ready.0 h.positions h.stand.1)
          (all-built T (l.first + 4) ls ks m below (inside T l at) u (take-down T lo l ls k ks n rows at h) f.1 i.1),
    )
all-built T lo (l ∷ []) [] n rows at u h f i = values-here T l n rows at u h.entries h.stand.1 i.0
all-built T lo (l ∷ j ∷ ls) [] n rows at u h f i = absurd f
all-built T lo [] (k ∷ ks) n rows at u h f i = absurd f
all-built T lo [] [] n rows at u h f i = subst (λ (v : ℕ). AreWritten v at (λ x. (row rows x).value) n (entries_in T.count at (λ x. (row rows x).value) n)) (sym h.entries) (entries-written T.count at (λ x. (row rows x).value) n)
