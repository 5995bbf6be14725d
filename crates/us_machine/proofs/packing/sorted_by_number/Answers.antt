use Rattle.std.proofs.Common.{◌≡◌, ◌%◌, ◌^◌, ◌∙◌, ℕ, List, map, ap, subst, arith, IfOk}
use Rattle.us_code.specs.Sort.{ordered}
use Rattle.us_machine.specs.Packing.{list_of}
use Rattle.us_machine.proofs.Digits.{numbers_ordered}
use Rattle.us_machine.proofs.packing.sorted_by_number.Goals as goal

pub returns : goal.returns
returns c =
    let lists = c.args.region.now.lists in
    let ds = c.args.digits.now in
    let new = c.sort_unstable.new.self.items in
    let e : map (λ (m : ℕ). m % 2 ^ 32) c.as_slice.result.now ≡ ordered (map (list_of lists) ds) c.args.len =
    ap (map (λ (m : ℕ). m % 2 ^ 32)) c.as_slice.ensures.value
    ∙ numbers_ordered lists c.args.len (2 ^ 32) (omega (arith, c.requires.small)) ds c.requires.digits c.in_ok-numbers.numbers.items new c.in_ok-numbers.ensures c.sort_unstable.ensures.permutation c.sort_unstable.ensures.sorted in
    subst (λ (xs : List ℕ). IfOk c.places_of.result (λ v. v.items ≡ xs)) e c.places_of.ensures
