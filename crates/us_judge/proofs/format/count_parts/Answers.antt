use Rattle.std.proofs.Common.{◌∙◌, arith}
use Rattle.us_format.specs.Reading.{buffer_count}
use Rattle.us_judge.specs.Kinds.{kinds_of}
use Rattle.us_judge.proofs.EachPart.{short-at, made-at, summed-next, summed-all}
use Rattle.us_judge.proofs.format.count_parts.Goals as goal

pub buffer_count-count-requires-clause-short : goal.buffer_count-count-requires-clause-short
buffer_count-count-requires-clause-short c = short-at c.args.parts.now c.loop-k.k c.index-parts-k.result c.requires.short c.loop-k-test.true c.index-parts-k.is

pub buffer_count-count-requires-clause-kinds : goal.buffer_count-count-requires-clause-kinds
buffer_count-count-requires-clause-kinds c =
    c.as_slice.ensures ∙ made-at kinds_of c.args.parts.now c.args.kinds.now c.loop-k.k c.index-parts-k.result c.index-kinds-k.result c.requires.kinds c.loop-k-test.true c.index-parts-k.is c.index-kinds-k.is

pub loop-k-preserved : goal.loop-k-preserved
loop-k-preserved c =
    (omega (arith, c.loop-k.invariant.0, c.buffer_count-count.ensures.count, summed-next buffer_count c.args.parts.now c.loop-k.k c.index-parts-k.result c.loop-k-test.true c.index-parts-k.is), omega (arith, c.loop-k.invariant.1, c.buffer_count-count.ensures.few))

pub returns : goal.returns
returns c = c.loop-k.invariant.0 ∙ summed-all buffer_count c.args.parts.now c.loop-k.k c.loop-k-test.false
