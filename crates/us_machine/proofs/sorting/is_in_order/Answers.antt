use Rattle.std.proofs.Common.{◌≡◌, ◌+◌, ◌-◌, ◌∙◌, inl, inr, ap₂, sym, arith}
use Rattle.std.proofs.lemmas.Bool.{cases_lt}
use Rattle.us_code.specs.Sort.{before}
use Rattle.us_machine.specs.Sorting.{lists_at}
use Rattle.us_machine.proofs.sorting.is_in_order.Goals as goal

pub loop-x-preserved : goal.loop-x-preserved
loop-x-preserved c = λ k lt. elim (cases_lt (k + 1) c.loop-x.x) [
  | inl l ↦ c.loop-x.invariant k l
  | inr le ↦
      let e : k + 1 ≡ c.loop-x.x = omega (arith, lt, le) in
      let f : k ≡ c.loop-x.x - 1 = omega (arith, e) in
      ap₂ (before (lists_at c.args.region.now.lists c.args.segs.now)) e f ∙ (sym c.compare.ensures ∙ (sym c.is_lt.ensures ∙ c.if-is_lt.false))
]
