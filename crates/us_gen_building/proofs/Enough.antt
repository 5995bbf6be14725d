-- The keys of a part are enough.
use Rattle.std.proofs.Common.{◌≡◌, ℕ, zero, suc, ◌≤◌, inl, inr, List, [], ◌∷◌, length, Bool, true, false, cond, ◌||◌, refl, sym, ap, ◌∙◌, subst, arith, Some}
use Rattle.us_code.specs.declared.program.Dim.{Dim}
use Rattle.us_code.specs.Run.{Env}
use Rattle.us_code_laws.proofs.Sound.{and_left, and_right}
use Rattle.us_format.specs.declared.Kind.{Kind}
use Rattle.us_format.specs.declared.Kind.TheVariants.{Full, Compressed, Listed, Slot}
use Rattle.us_format.specs.Lists.{lower}
use Rattle.us_format.proofs.Order.{lower-irrefl}
use Rattle.us_format_loops.specs.Nodes.{is_slot}
use Rattle.us_gen_build_laws.specs.Rows.{row, nodes_within}
use Rattle.us_gen_building.specs.declared.part.PartLevel.{PartLevel}
use Rattle.us_gen_building.specs.Levels.{are_last, raised}
use Rattle.us_gen_building.specs.Keys.{is_listed, has_listed, node_at, node_count, some_keys, KeysAreEnough}
use Rattle.us_gen_building.specs.Runs.{levels_of, FollowsWell, AreOrderly, IsOrder}
use Rattle.us_gen_building.proofs.Standing.{length_levels}

-- behind slot levels alone there are no nodes
slots_free : (ls : List PartLevel) → are_last ls ≡ true → node_count ls ≡ 0
slots_free [] e = refl
slots_free (l ∷ ls) e = one l.kind (and_left (is_slot l.kind) (are_last ls) e) (node_count ls) (slots_free ls (and_right (is_slot l.kind) (are_last ls) e))
  where
    one : (k : Kind) → is_slot k ≡ true → (n : ℕ) → n ≡ 0 → node_at k n ≡ 0
    one Full h n z = absurd cc
    one Compressed h n z = absurd cc
    one Listed h n z = absurd cc
    one Slot h n z = ap raised z

level_within : (env : Env) (k : Kind) (size : Dim) (col : ℕ) (ls : List PartLevel) (n : ℕ) → is_listed k || has_listed ls ≡ false → FollowsWell k (are_last ls) → node_count ls ≡ n → nodes_within n (levels_of env ls) ≡ true
    → nodes_within (node_at k n) (levels_of env (record { kind = k; size = size; column = col } ∷ ls)) ≡ true
level_within env Full size col ls zero f o e h = h
level_within env Full size col ls (suc n) f o e h = h
level_within env Compressed size col ls n f o e h = h
level_within env Listed size col ls n f o e h = absurd cc
level_within env Slot size col ls zero f o e h = h
level_within env Slot size col ls (suc n) f o e h = absurd (omega (arith, e, slots_free ls o))

tail_unlisted : (a b : Bool) → a || b ≡ false → b ≡ false
tail_unlisted true b e = absurd cc
tail_unlisted false b e = e

all_within : (env : Env) (ls : List PartLevel) → has_listed ls ≡ false → AreOrderly ls → nodes_within (node_count ls) (levels_of env ls) ≡ true
all_within env [] f o = refl
all_within env (l ∷ ls) f o = level_within env l.kind l.size l.column ls (node_count ls) f o.0 refl (all_within env ls (tail_unlisted (is_listed l.kind) (has_listed ls) f) o.1)

count_few : (ls : List PartLevel) → node_count ls ≤ length ls
count_few [] = omega arith
count_few (l ∷ ls) = one l.kind (node_count ls) (count_few ls)
  where
    up : (n m : ℕ) → n ≤ m → raised n ≤ suc m
    up zero m h = omega arith
    up (suc n) m h = omega (arith, h)

    one : (k : Kind) (n : ℕ) → n ≤ length ls → node_at k n ≤ suc (length ls)
    one Full n h = up n (length ls) h
    one Compressed n h = omega (arith, h)
    one Listed n h = omega (arith, h)
    one Slot n h = up n (length ls) h

pub keys_enough : KeysAreEnough
keys_enough env ls rows orderly top = case (has_listed ls) refl (node_count ls) refl
  where
    case : (b : Bool) → has_listed ls ≡ b → (n : ℕ) → node_count ls ≡ n → IsOrder (cond b (Some (length ls)) (some_keys n)) (levels_of env ls) rows
    case true e n f = (omega (arith, length_levels env ls), inl (sym (length_levels env ls)))
    case false e zero f = inr (
      0,
      subst (λ (k : ℕ). nodes_within k (levels_of env ls) ≡ true) f (all_within env ls e orderly),
      (λ i j le lt. ap (λ (a : ℕ). lower (a ∷ []) ((row rows i).at ∷ [])) (top j lt) ∙ (ap (λ (a : ℕ). lower (0 ∷ []) (a ∷ [])) (top i (omega (arith, le, lt))) ∙ lower-irrefl (0 ∷ []))),
    )
    case false e (suc n) f = (omega (arith, f, count_few ls, length_levels env ls), inr (subst (λ (k : ℕ). nodes_within k (levels_of env ls) ≡ true) f (all_within env ls e orderly)))
