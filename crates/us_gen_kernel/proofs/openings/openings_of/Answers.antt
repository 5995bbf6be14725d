use Rattle.std.proofs.Common.{◌≡◌, ◌<◌, ◌≤◌, ◌+◌, ◌-◌, length, sym, ap, subst, ◌∙◌, arith}
use Rattle.std.proofs.lemmas.List.{get_or_default}
use Rattle.us_format.specs.Reading.{buffer_count}
use Rattle.us_judge.specs.Format.{part_at}
use Rattle.us_judge.specs.Views.{declaration_of}
use Rattle.us_gen_unpack.specs.declared.listing.PartWalk.{PartWalk}
use Rattle.us_gen_listing.proofs.PartsOpened.{passed-none, passed-more, passed-all, no_part}
use Rattle.us_gen_kernel.proofs.openings.openings_of.Goals as goal

pub loop-k-init : goal.loop-k-init
loop-k-init c = passed-none (declaration_of c.args.format.now).parts c.args.walks.now _ c.new-openings.ensures.items

pub loop-k-preserved : goal.loop-k-preserved
loop-k-preserved c =
    let below : c.loop-k.k < length (declaration_of c.args.format.now).parts = omega (arith, c.loop-k-test.true, c.requires.parts) in
    let same : c.loop-k.k + 1 - 1 ≡ c.loop-k.k = omega arith in
    passed-more (declaration_of c.args.format.now).parts c.args.walks.now c.loop-k.k c.loop-k.source c.part_buffers-count.result c.loop-k.openings.items _ (part_at (declaration_of c.args.format.now) c.loop-k.k) c.index-walks-k.result
    c.loop-k.invariant below c.loop-k-test.true (get_or_default (declaration_of c.args.format.now).parts c.loop-k.k no_part (part_at (declaration_of c.args.format.now) c.loop-k.k) below) c.index-walks-k.is c.in_ok-push_opening.ensures
    (c.part_buffers-count.ensures.count ∙ ap (λ j. buffer_count (part_at (declaration_of c.args.format.now) j)) same) c.part_buffers-count.ensures.few

pub push_opening-requires-clause-source : goal.push_opening-requires-clause-source
push_opening-requires-clause-source c =
    omega (arith, c.requires.few, c.loop-k.invariant.few, c.loop-k-test.true)

pub push_opening-requires-clause-tables : goal.push_opening-requires-clause-tables
push_opening-requires-clause-tables c =
    subst (λ (x : PartWalk). length x.places.tables.items ≤ 16) (sym c.index-walks-k.is) (c.requires.tables c.loop-k.k c.index-walks-k.result c.loop-k-test.true)

pub part_buffers-count-requires-clause-part : goal.part_buffers-count-requires-clause-part
part_buffers-count-requires-clause-part c = omega (arith, c.loop-k-test.true, c.requires.parts)

pub overflow_add-source : goal.overflow_add-source
overflow_add-source c =
    omega (arith, c.requires.few, c.loop-k.invariant.few, c.loop-k-test.true, c.part_buffers-count.ensures.few)

pub returns : goal.returns
returns c =
    passed-all (declaration_of c.args.format.now).parts c.args.walks.now c.loop-k.k c.loop-k.source c.loop-k.openings.items c.loop-k.invariant (omega (arith, c.loop-k-test.false, c.requires.parts)) (omega (arith, c.loop-k-test.false))
