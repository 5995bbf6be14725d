-- What the answers of a judgement say.
use Rattle.std.specs.Prelude.{◌≡◌, ℕ, List, [], ◌∷◌, Option, Some}
use Rattle.us_format.specs.Lists.{then_do}
use Rattle.us_format.specs.Declaration.{Part}
use Rattle.us_judge.specs.declared.refusal.Refusal.{Refusal}
use Rattle.us_judge.specs.declared.refusal.JudgeFault.{JudgeFault}
use Rattle.us_judge.specs.declared.refusal.JudgeFault.TheVariants.{Refused, Memory}
use Rattle.us_judge.specs.Acceptance.{Rule, bad_count, bad_name, bad_argument, bad_lanes, bad_sum, bad_whole, bad_number, bad_merge, bad_order, unknown_row, unknown_column, bad_pack}

-- a refusal is the first; want of memory may come anywhere
abbrev pub Explains : JudgeFault → Option Refusal → Type 0
Explains (Refused r) first = first ≡ Some r
Explains Memory first = Unit {0}

-- the refusal by a rule that is broken at this place, if it is
abbrev pub by_rule : ℕ → ℕ → Option ℕ → Option Refusal
by_rule rule part place = then_do place (λ place. Some (record { rule = rule; part = part; place = place }))

-- the rules of a part, by what they need: nothing, what all levels make known, the kinds of the levels
abbrev pub early_rules : List (Rule Part)
early_rules =
    (1, bad_count) ∷ (2, bad_name) ∷ (3, λ p. bad_argument p.queries) ∷ (4, λ p. bad_lanes p.queries) ∷ (5, bad_sum) ∷ (6, bad_whole) ∷ (7, bad_number)
    ∷ (8, bad_merge) ∷ (9, bad_order) ∷ []

abbrev pub known_rules : List (Rule Part)
known_rules = (10, unknown_row) ∷ (11, unknown_column) ∷ []

abbrev pub late_rules : List (Rule Part)
late_rules = (12, bad_pack) ∷ []
