use Rattle.std.proofs.Common.{◌≡◌, ◌<◌, ◌≤◌, ◌-◌, ℕ, List, ◌++◌, length, map, ap, ap₂, ◌∙◌, arith}
use Rattle.std.specs.List.{count_by}
use Rattle.std.proofs.lemmas.List.{length-map}
use Rattle.us_expr.specs.Tree.{tree}
use Rattle.us_format.specs.Declaration.{Query, query_of, has_extent}
use Rattle.us_format.specs.Program.{plain_shape}
use Rattle.us_judge.specs.Format.{part_at}
use Rattle.us_judge.specs.Views.{plain_part, declaration_of}
use Rattle.us_gen_recover.specs.declared.places.Table.{Table}
use Rattle.us_gen_places.specs.Places.{tables_from}
use Rattle.us_gen_parts.proofs.OwnPieces.{values-here}
use Rattle.us_gen_parts.proofs.PartThere.{level-there}
use Rattle.us_gen_parts.proofs.Placed.{placed-none, placed-more, all-loops, all-slots}
use Rattle.us_gen_parts.proofs.places.places_with.Goals as goal

pub loop-level-init : goal.loop-level-init
loop-level-init c =
    placed-none c.args.start (plain_shape c.args.shape) (plain_part c.args.part.now) _ _ c.first_own-own.result c.new-loops.ensures.items c.new-slots.ensures.items c.first_own-own.ensures.is c.first_own-own.ensures.few

pub loop-level-preserved : goal.loop-level-preserved
loop-level-preserved c =
    let p = plain_part c.args.part.now in
    let below : c.loop-level.level < length (map tree c.args.part.now.levels) = omega (arith, length-map c.args.part.now.levels tree, c.loop-level-test.true, c.len-level-end.ensures) in
    placed-more c.args.start (plain_shape c.args.shape) (plain_part c.args.part.now) (part_at (declaration_of c.args.format.now) (c.args.number - 1)) c.loop-level.level c.loop-level.loops.items c.loop-level.slots.items c.loop-level.own
    c.level_place-place.result _ _ c.own_of_level-own.result c.kind-kind.result c.loop-level.invariant below c.level_place-place.ensures c.in_ok-keep.ensures.loops c.in_ok-keep.ensures.slots
    c.requires.part.is c.kind-kind.ensures c.own_of_level-own.ensures.count c.own_of_level-own.ensures.few

pub returns : goal.returns
returns c =
    let past : length (map tree c.args.part.now.levels) ≤ c.loop-level.level = omega (arith, length-map c.args.part.now.levels tree, c.loop-level-test.false, c.len-level-end.ensures) in
    let qs : map query_of c.as_slice-queries.result.now ≡ (plain_part c.args.part.now).queries = ap (map query_of) c.as_slice-queries.ensures in
    record {
      loops = all-loops c.args.start (plain_shape c.args.shape) (plain_part c.args.part.now) c.loop-level.level c.loop-level.loops.items c.loop-level.slots.items c.loop-level.own c.loop-level.invariant past;
      values = c.place_of-values.ensures;
      slots = all-slots c.args.start (plain_shape c.args.shape) (plain_part c.args.part.now) c.loop-level.level c.loop-level.loops.items c.loop-level.slots.items c.loop-level.own c.loop-level.invariant past;
      tables =
          c.in_ok-push_tables.ensures
          ∙ ap (λ (ts : List Table). ts ++ tables_from c.args.start c.extent_count-extents.result 0 (map query_of c.as_slice-queries.result.now)) c.new-tables.ensures.items
          ∙ ap₂ (λ (n : ℕ) (xs : List Query). tables_from c.args.start n 0 xs) (c.extent_count-extents.ensures.count ∙ ap (λ (xs : List Query). count_by has_extent xs) qs) qs;
    }

pub level_place-place-requires-clause-own : goal.level_place-place-requires-clause-own
level_place-place-requires-clause-own c = c.loop-level.invariant.own

pub level_place-place-requires-clause-level : goal.level_place-place-requires-clause-level
level_place-place-requires-clause-level c = omega (arith, length-map c.args.part.now.levels tree, c.loop-level-test.true, c.len-level-end.ensures)

pub level_place-place-requires-clause-few : goal.level_place-place-requires-clause-few
level_place-place-requires-clause-few c = omega (arith, length-map c.args.part.now.levels tree, c.loop-level-test.true, c.len-level-end.ensures, c.requires.part.short.levels)

pub level_place-place-requires-clause-own_few : goal.level_place-place-requires-clause-own_few
level_place-place-requires-clause-own_few c = omega (arith, length-map c.args.part.now.levels tree, c.loop-level-test.true, c.len-level-end.ensures, c.requires.part.short.levels, c.loop-level.invariant.few)

pub kind-kind-requires-clause-level : goal.kind-kind-requires-clause-level
kind-kind-requires-clause-level c =
    level-there c.args.format.now c.args.number (plain_part c.args.part.now) c.loop-level.level c.requires.part (omega (arith, length-map c.args.part.now.levels tree, c.loop-level-test.true, c.len-level-end.ensures))

pub own_of_level-own-requires : goal.own_of_level-own-requires
own_of_level-own-requires c = omega (arith, length-map c.args.part.now.levels tree, c.loop-level-test.true, c.len-level-end.ensures, c.requires.part.short.levels)

pub overflow_add-own : goal.overflow_add-own
overflow_add-own c =
    omega (arith, length-map c.args.part.now.levels tree, c.loop-level-test.true, c.len-level-end.ensures, c.requires.part.short.levels, c.loop-level.invariant.few, c.own_of_level-own.ensures.few)

pub place_of-values-requires-clause-own : goal.place_of-values-requires-clause-own
place_of-values-requires-clause-own c packed =
    let end : c.loop-level.level ≡ length (map tree c.args.part.now.levels) = omega (arith, length-map c.args.part.now.levels tree, c.loop-level-test.false, c.len-level-end.ensures, c.loop-level.auto.level-end) in
    c.loop-level.invariant.own ∙ values-here (plain_part c.args.part.now) c.loop-level.level end packed

pub place_of-values-requires-clause-own_few : goal.place_of-values-requires-clause-own_few
place_of-values-requires-clause-own_few c =
    omega (arith, length-map c.args.part.now.levels tree, c.len-level-end.ensures, c.loop-level.auto.level-end, c.requires.part.short.levels, c.loop-level.invariant.few)
