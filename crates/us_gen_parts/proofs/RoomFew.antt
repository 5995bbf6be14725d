-- The loops over the parts of a format name few registers.
use Rattle.std.proofs.Common.{◌≡◌, ℕ, suc, ◌+◌, ◌*◌, ◌≤◌, List, [], ◌∷◌, length, refl, ap, inl, inr, arith, length-append}
use Rattle.us_format.specs.Matrix.{Shape}
use Rattle.us_format.specs.Declaration.{Part}
use Rattle.us_format.proofs.Members.{all-Mem}
use Rattle.us_format.proofs.Order.{Mem}
use Rattle.us_judge.specs.Plans.{IsPlannable}
use Rattle.us_judge.specs.Views.{declaration_of}
use Rattle.us_judge.proofs.PartPlans.{accepted-plannable}
use Rattle.us_judge.proofs.Valid.{short-valid}
use Rattle.us_gen.specs.Levels.{end_of}
use Rattle.us_gen_walk.specs.declared.places.Loop.{Loop}
use Rattle.us_gen_walk.specs.declared.places.Slot.{Slot}
use Rattle.us_gen_walk.specs.Walk.{levels_of, loop_coordinates, slot_coordinates, leaf_at}
use Rattle.us_gen_places.specs.declared.start.PartStart.{PartStart}
use Rattle.us_gen_places.specs.Holds.{IsOrderly}
use Rattle.us_gen_places.specs.Dims.{next_start}
use Rattle.us_gen_places.proofs.Covering.{places-cover}
use Rattle.us_gen_unpack.specs.declared.listing.PartWalk.{PartWalk}
use Rattle.us_gen_unpack.specs.Listing.{room, rooms}
use Rattle.us_gen_parts.specs.Walks.{IsWalkOf, AreWalksOf, WalksAreFew}
use Rattle.us_gen_parts.proofs.Orderly.{all-orderly}
use Rattle.us_gen_parts.proofs.PlanFew.{plan-few}

pub loops-long : (ls : List Loop) (n : ℕ) → length (loop_coordinates ls n) ≡ length ls
loops-long [] n = refl
loops-long (l ∷ ls) n = ap suc (loops-long ls (end_of (levels_of l) n))

pub slots-long : (xs : List Slot) (n : ℕ) → length (slot_coordinates xs n) ≡ length xs
slots-long [] n = refl
slots-long (x ∷ xs) n = ap suc (slots-long xs (n + 2))

room_few : (a : PartStart) (s : Shape) (p : Part) (x : PartWalk) → IsOrderly p → IsPlannable p → IsWalkOf a s p x → room x ≤ 2048
room_few a s p x orderly plannable walk =
    let covers = places-cover a s p [] x.places 0 orderly walk.places in
    omega (
      arith,
      covers.levels,
      length-append (loop_coordinates x.places.loops.items 0) (slot_coordinates x.places.slots.items (leaf_at x.places 0 + 2)),
      loops-long x.places.loops.items 0,
      slots-long x.places.slots.items (leaf_at x.places 0 + 2),
      walk.steps.same_length,
      plan-few p.levels p.queries plannable.small,
      plannable.few,
      plannable.asked,
    )

rooms_few : (a : PartStart) (s : Shape) (ps : List Part) (xs : List PartWalk) → ((p : Part) → Mem p ps → IsOrderly p) → ((p : Part) → Mem p ps → IsPlannable p) → AreWalksOf a s ps xs → rooms xs ≤ 2048 * length ps
rooms_few a s [] [] orderly plannable w = omega arith
rooms_few a s [] (x ∷ xs) orderly plannable w = absurd w
rooms_few a s (p ∷ ps) [] orderly plannable w = absurd w
rooms_few a s (p ∷ ps) (x ∷ xs) orderly plannable w =
    omega (
      arith,
      room_few a s p x (orderly p (inl refl)) (plannable p (inl refl)) w.0,
      rooms_few (next_start a p) s ps xs (λ q i. orderly q (inr i)) (λ q i. plannable q (inr i)) w.1,
    )

pub walks-few : WalksAreFew
walks-few a s d xs valid kept walks =
    omega (
      arith,
      rooms_few a s (declaration_of d).parts xs (λ p i. all-Mem IsOrderly (declaration_of d).parts p (all-orderly d valid kept) i) (λ p i. all-Mem IsPlannable (declaration_of d).parts p (accepted-plannable d valid kept) i) walks,
      (short-valid d valid).few,
    )
