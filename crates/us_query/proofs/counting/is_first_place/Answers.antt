use Rattle.std.proofs.Common.{pos, ℤ, ◌<◌, ◌-◌, FitsSigned, w64, get_or, int_lt, sym, ap₂, ◌∙◌, arith, rules}
use Rattle.std.specs.Int.Signed.{le_z}
use Rattle.std.proofs.lemmas.Int.{to_z-of_z}
use Rattle.us_query.proofs.Searching.{at-most, first-place, first-place-behind}
use Rattle.us_query.proofs.counting.is_first_place.Goals as goal

pub returns-then-place-eq0 : goal.returns-then-place-eq0
returns-then-place-eq0 c =
    let q : ℤ = c.args.number.now in
    let x : ℤ = get_or c.args.sorted.now c.args.place (pos 0) in
    let f : FitsSigned w64 q = search rules in
    let g : FitsSigned w64 x = search rules in
    λ h. first-place c.args.sorted.now c.requires.order q c.args.place (pos 0) c.requires.inside (λ i m. absurd (omega (arith, m, c.if-place-eq0.true)))
    (sym (at-most q x) ∙ ap₂ (λ (a b : ℤ). le_z a b) (sym (to_z-of_z w64 q f)) (sym (to_z-of_z w64 x g)) ∙ h)

pub returns-then-sorted-place : goal.returns-then-sorted-place
returns-then-sorted-place c =
    let q : ℤ = c.args.number.now in
    let x : ℤ = get_or c.args.sorted.now c.args.place (pos 0) in
    let y : ℤ = get_or c.args.sorted.now (c.args.place - 1) (pos 0) in
    let some : 0 < c.args.place = omega (arith, c.if-place-eq0.false) in
    let f : FitsSigned w64 q = search rules in
    let g : FitsSigned w64 x = search rules in
    let k : FitsSigned w64 y = search rules in
    λ h. first-place-behind c.args.sorted.now c.requires.order q c.args.place (pos 0) some c.requires.inside
    (ap₂ (λ (a b : ℤ). int_lt a b) (sym (to_z-of_z w64 y k)) (sym (to_z-of_z w64 q f)) ∙ c.if-sorted-place.true)
    (sym (at-most q x) ∙ ap₂ (λ (a b : ℤ). le_z a b) (sym (to_z-of_z w64 q f)) (sym (to_z-of_z w64 x g)) ∙ h)
