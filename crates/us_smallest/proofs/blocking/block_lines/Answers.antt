use Rattle.std.proofs.Common.{◌≡◌, ◌<◌, ◌++◌, length, refl, sym, subst, ◌∙◌, arith}
use Rattle.std.specs.Prelude.{codes}
use Rattle.std.specs.List.{flat_map}
use Rattle.std.proofs.lemmas.Option.{same_Some}
use Rattle.us_smallest.specs.declared.sides.Sides.{Sides}
use Rattle.us_smallest.specs.Blocking.{all_sides, sides_text}
use Rattle.us_smallest.specs.Tables.{line}
use Rattle.us_smallest.proofs.SideLemmas.{count_sides, sides_read}
use Rattle.us_smallest.proofs.TableLemmas.{best_behind, lines_done, next_told}
use Rattle.us_smallest.proofs.blocking.block_lines.Goals as goal

pub loop-place-init : goal.loop-place-init
loop-place-init c = λ size e. rw c.new-out.ensures.items refl

pub loop-place-preserved : goal.loop-place-preserved
loop-place-preserved c = λ size e.
    let below : c.loop-place.place < length all_sides = omega (arith, c.loop-place-test.true, c.requires.count, count_sides) in
    next_told sides_text size all_sides c.args.sizes.now c.loop-place.place _ c.sides_at.result c.loop-place.out.items c.push_block.new.out.items _ e below refl
    (sides_read c.loop-place.place c.sides_at.result c.sides_at.ensures.is) c.in_ok-push_block.ensures (c.loop-place.invariant size e)

pub returns : goal.returns
returns c = λ size s e there.
    let same : c.sides_at-2.result ≡ s = same_Some c.sides_at-2.result s (sym c.sides_at-2.ensures.is ∙ there) in
    let below : c.args.best < length all_sides = omega (arith, c.requires.best, count_sides) in
    let lines = lines_done (line sides_text size) all_sides c.loop-place.place c.loop-place.out.items _ (omega (arith, c.loop-place-test.false, c.requires.count, count_sides)) (c.loop-place.invariant size e) in
    subst (λ (s : Sides). c.push_block-2.new.out.items ≡ flat_map (line sides_text size) all_sides ++ (codes "best " ++ line sides_text size s)) same
    (best_behind sides_text size all_sides c.args.sizes.now c.loop-place.out.items c.extend_from_slice.new.self.items lines c.in_ok-extend_from_slice.ensures.items c.args.best _ c.sides_at-2.result
    c.push_block-2.new.out.items e below refl (sides_read c.args.best c.sides_at-2.result c.sides_at-2.ensures.is) c.in_ok-push_block-2.ensures)
