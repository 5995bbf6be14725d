-- The places in the making: the first k levels of a part have theirs.
use Rattle.std.proofs.Common.{◌≡◌, ℕ, suc, ◌+◌, ◌*◌, ◌<◌, ◌≤◌, List, [], ◌∷◌, ◌++◌, length, drop, sym, ap, ◌∙◌, arith, filter, add-one, append_assoc}
use Rattle.std.proofs.Math.Seq.{drop-cons}
use Rattle.std.proofs.Math.ListN.{drop_of_length-le}
use Rattle.std.proofs.lemmas.List.{append-nil}
use Rattle.us_expr.specs.Tree.{Tree, RowIndex}
use Rattle.us_format.specs.declared.Kind.{Kind}
use Rattle.us_format.specs.Matrix.{Shape}
use Rattle.us_format.specs.Declaration.{Part}
use Rattle.us_format.specs.Kinds.{kind}
use Rattle.us_format.specs.Packs.{level_pieces}
use Rattle.us_format.specs.Reading.{extent_count, table_count}
use Rattle.us_judge.specs.Buffers.{is_own}
use Rattle.us_gen_walk.specs.declared.places.Loop.{Loop}
use Rattle.us_gen_walk.specs.declared.places.Slot.{Slot}
use Rattle.us_gen_places.specs.declared.start.PartStart.{PartStart}
use Rattle.us_gen_places.specs.declared.levels.LevelPlace.{LevelPlace}
use Rattle.us_gen_places.specs.declared.levels.LevelPlace.TheVariants.{InFront, Behind}
use Rattle.us_gen_places.specs.Places.{with_loop, with_slot, loops_from, slots_from, place_at}
use Rattle.us_gen_parts.specs.Own.{own_from}

-- the first k levels have these places, and the own buffers of the others begin with n
pub record ArePlaced (a : PartStart) (s : Shape) (p : Part) (k : ℕ) (loops : List Loop) (slots : List Slot) (n : ℕ) : Type 0 where
  pub loops_are : loops ++ loops_from a s p k (drop k p.levels) ≡ loops_from a s p 0 p.levels
  pub slots_are : slots ++ slots_from a s p k (drop k p.levels) ≡ slots_from a s p 0 p.levels
  pub own : n ≡ own_from p k
  pub few : n ≤ 32 + 2 * k

pub placed-none : (a : PartStart) (s : Shape) (p : Part) (loops : List Loop) (slots : List Slot) (n : ℕ) → loops ≡ [] → slots ≡ [] → n ≡ extent_count p + table_count p → n ≤ 32 → ArePlaced a s p 0 loops slots n
placed-none a s p loops slots n l x is few =
    record {
      loops_are = ap (λ (ls : List Loop). ls ++ loops_from a s p 0 p.levels) l;
      slots_are = ap (λ (xs : List Slot). xs ++ slots_from a s p 0 p.levels) x;
      own = omega (arith, is);
      few = omega (arith, few);
    }

join_loops : (x : LevelPlace) (ls more : List Loop) → (ls ++ with_loop x []) ++ more ≡ ls ++ with_loop x more
join_loops (InFront l) ls more = append_assoc ls (l ∷ []) more
join_loops (Behind y) ls more = ap (λ (zs : List Loop). zs ++ more) (append-nil ls)

join_slots : (x : LevelPlace) (ys more : List Slot) → (ys ++ with_slot x []) ++ more ≡ ys ++ with_slot x more
join_slots (InFront l) ys more = ap (λ (zs : List Slot). zs ++ more) (append-nil ys)
join_slots (Behind y) ys more = append_assoc ys (y ∷ []) more

-- one more, by what is known of its kind in the part q
pub placed-more : (a : PartStart) (s : Shape) (p q : Part) (k : ℕ) (loops : List Loop) (slots : List Slot) (n : ℕ) (x : LevelPlace) (later : List Loop) (behind : List Slot) (count : ℕ) (kd : Kind)
    → ArePlaced a s p k loops slots n → k < length p.levels → x ≡ place_at a s p k → later ≡ loops ++ with_loop x [] → behind ≡ slots ++ with_slot x []
    → p ≡ q → kd ≡ kind q k → count ≡ length (filter (is_own p) (level_pieces k kd)) → count ≤ 2 → ArePlaced a s p (k + 1) later behind (n + count)
placed-more a s p q k loops slots n x later behind count kd h l is later_is behind_is same kd_is count_is few =
    let own_more : own_from p (k + 1) ≡ own_from p k + length (filter (is_own p) (level_pieces k (kind p k))) = ap (own_from p) (add-one k) ∙ omega arith in
    let here : count ≡ length (filter (is_own p) (level_pieces k (kind p k))) =
    count_is ∙ ap (λ (z : Kind). length (filter (is_own p) (level_pieces k z))) (kd_is ∙ ap (λ (z : Part). kind z k) (sym same)) in
    record {
      loops_are =
          ap (λ (ls : List Loop). ls ++ loops_from a s p (k + 1) (drop (k + 1) p.levels)) later_is
          ∙ join_loops x loops (loops_from a s p (k + 1) (drop (k + 1) p.levels))
          ∙ ap (λ j. loops ++ with_loop x (loops_from a s p j (drop j p.levels))) (add-one k)
          ∙ ap (λ (z : LevelPlace). loops ++ with_loop z (loops_from a s p (suc k) (drop (suc k) p.levels))) is
          ∙ ap (λ (es : List Tree). loops ++ loops_from a s p k es) (sym (drop-cons p.levels k RowIndex l)) ∙ h.loops_are;
      slots_are =
          ap (λ (xs : List Slot). xs ++ slots_from a s p (k + 1) (drop (k + 1) p.levels)) behind_is
          ∙ join_slots x slots (slots_from a s p (k + 1) (drop (k + 1) p.levels))
          ∙ ap (λ j. slots ++ with_slot x (slots_from a s p j (drop j p.levels))) (add-one k)
          ∙ ap (λ (z : LevelPlace). slots ++ with_slot z (slots_from a s p (suc k) (drop (suc k) p.levels))) is
          ∙ ap (λ (es : List Tree). slots ++ slots_from a s p k es) (sym (drop-cons p.levels k RowIndex l)) ∙ h.slots_are;
      own = omega (arith, h.own, own_more, here);
      few = omega (arith, h.few, few);
    }

pub all-loops : (a : PartStart) (s : Shape) (p : Part) (k : ℕ) (loops : List Loop) (slots : List Slot) (n : ℕ) → ArePlaced a s p k loops slots n → length p.levels ≤ k → loops ≡ loops_from a s p 0 p.levels
all-loops a s p k loops slots n h past = sym (append-nil loops) ∙ ap (λ (es : List Tree). loops ++ loops_from a s p k es) (sym (drop_of_length-le p.levels past)) ∙ h.loops_are

pub all-slots : (a : PartStart) (s : Shape) (p : Part) (k : ℕ) (loops : List Loop) (slots : List Slot) (n : ℕ) → ArePlaced a s p k loops slots n → length p.levels ≤ k → slots ≡ slots_from a s p 0 p.levels
all-slots a s p k loops slots n h past = sym (append-nil slots) ∙ ap (λ (xs : List Tree). slots ++ slots_from a s p k xs) (sym (drop_of_length-le p.levels past)) ∙ h.slots_are
