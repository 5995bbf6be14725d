-- Small facts of lists of levels.
use Rattle.std.proofs.Common.{◌≡◌, ℕ, ◌+◌, ◌*◌, ◌≤◌, refl, ◌∙◌, arith, List, [], ◌∷◌, length}
use Rattle.us_gen.specs.declared.nests.Level.{Level}
use Rattle.us_gen.specs.Levels.{names, end_of}
use Rattle.us_gen_walk.specs.declared.places.Column.{Column}
use Rattle.us_gen_walk.specs.declared.places.Column.TheVariants as column
use Rattle.us_gen_walk.specs.declared.places.Slot.{Slot}
use Rattle.us_gen_walk.specs.Walk.{tested, slot_levels}

pub names_tested : (c : Column) → names (tested c) ≡ 2
names_tested (column.Own k) = refl
names_tested (column.Packed k w digit) = refl

pub end_after : (ls : List Level) (n : ℕ) → n ≤ end_of ls n
end_after [] n = omega arith
end_after (l ∷ ls) n = omega (arith, end_after ls (n + names l))

pub end_of_slots : (xs : List Slot) (n : ℕ) → end_of (slot_levels xs) n ≡ n + 2 * length xs
end_of_slots [] n = omega arith
end_of_slots (x ∷ xs) n = end_of_slots xs (n + names (tested x.crd)) ∙ omega (arith, names_tested x.crd)
