use Rattle.std.proofs.Common.{rules, arith, ◌≡◌, ◌∙◌, ◌<◌, sym, ap, subst, map, length, get_or, List, ℤ, pos, [], w64, FitsSigned}
use Rattle.std.proofs.lemmas.Int.{to_z-of_z}
use Rattle.std.proofs.lemmas.List.{length-set, get_or-set_same}
use Rattle.us_raw.specs.declared.width.Width.{Width}
use Rattle.us_raw.specs.declared.width.Width.TheVariants.{W8}
use Rattle.us_raw.specs.Widths.{Holds}
use Rattle.us_machine.proofs.Sortings.{place_cell, map_long}
use Rattle.us_machine.proofs.Splices.{splice, splice_long, written}
use Rattle.us_machine.proofs.sorting.write_places.Goals as goal

pub set-requires : goal.set-requires
set-requires c =
    let x = c.loop-x.x in
    let src = map pos c.args.places.now in
    let old = get_or c.args.region.now.lists c.args.seg [] in
    let m = map_long c.args.places.now in
    let lt : x < length c.args.places.now = omega arith in
    let f : FitsSigned w64 c.from.result = search rules in
    let there = c.requires.there in
    let here : get_or c.loop-x.region.lists c.args.seg [] ≡ splice x src old = ap (λ (xs : List (List ℤ)). get_or xs c.args.seg []) c.loop-x.invariant.lists ∙ get_or-set_same c.args.region.now.lists c.args.seg (splice x src old) [] there in
    let long : length (splice x src old) ≡ length old = splice_long x src old (omega (arith, lt, m)) (omega (arith, m, c.requires.long)) in
    let h = c.requires.fit x (omega (arith, lt, m)) in
    let v : get_or src x (pos 0) ≡ c.from.result = place_cell c.args.places.now x ∙ sym c.from.ensures in (
      omega (arith, there, ap (λ (xs : List (List ℤ)). length xs) c.loop-x.invariant.lists, length-set c.args.region.now.lists c.args.seg (splice x src old)),
      omega (arith, lt, c.requires.long, long, ap (λ (xs : List ℤ). length xs) here),
      subst (λ (z : ℤ). Holds (get_or c.loop-x.region.widths c.args.seg W8) z) (v ∙ sym (to_z-of_z w64 c.from.result f)) (subst (λ (ws : List Width). Holds (get_or ws c.args.seg W8) (get_or src x (pos 0))) (sym c.loop-x.invariant.widths) h),
    )

pub loop-x-preserved : goal.loop-x-preserved
loop-x-preserved c =
    let f : FitsSigned w64 c.from.result = search rules in
    let m = map_long c.args.places.now in
    let lt : c.loop-x.x < length c.args.places.now = omega arith in
    record {
      lists = written c.args.region.now.lists c.loop-x.region.lists c.set.new.self.lists c.args.seg c.loop-x.x (map pos c.args.places.now) _ c.requires.there (omega (arith, lt, m)) (omega (arith, m, c.requires.long)) (to_z-of_z w64 c.from.result f ∙ (c.from.ensures ∙ sym (place_cell c.args.places.now c.loop-x.x))) c.loop-x.invariant.lists c.set.ensures.lists;
      widths = c.set.ensures.widths ∙ c.loop-x.invariant.widths;
    }
