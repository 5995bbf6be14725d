use Rattle.std.proofs.Common.{get_or, refl, sym, ap, ◌∙◌}
use Rattle.us_expr.specs.declared.queries.Query.{Query}
use Rattle.us_format.specs.Declaration.{query_of}
use Rattle.us_format.specs.Program.{plain_shape}
use Rattle.us_build.specs.Ranges.{range_by}
use Rattle.us_build.proofs.Named.{named-here, named-later, named-nowhere}
use Rattle.us_build.proofs.ranges.variable_range.Goals as goal

pub loop-k-init : goal.loop-k-init
loop-k-init c = refl

pub returns-in-Some : goal.returns-in-Some
returns-in-Some c =
    named-here (plain_shape c.args.shape) c.args.extents.now c.args.queries.now c.args.name c.loop-k.k 0 c.index-queries-k.result c.loop-k-test.true c.requires.extents c.loop-k.invariant c.in-Some.range
    (ap (λ (q : Query). range_by (plain_shape c.args.shape) (get_or c.args.extents.now c.loop-k.k 0) (query_of q) c.args.name) (sym c.index-queries-k.is) ∙ sym c.range_by.ensures ∙ c.in-Some.is)

pub loop-k-preserved : goal.loop-k-preserved
loop-k-preserved c =
    named-later (plain_shape c.args.shape) c.args.extents.now c.args.queries.now c.args.name c.loop-k.k 0 c.index-queries-k.result c.loop-k-test.true c.requires.extents c.loop-k.invariant
    (ap (λ (q : Query). range_by (plain_shape c.args.shape) (get_or c.args.extents.now c.loop-k.k 0) (query_of q) c.args.name) (sym c.index-queries-k.is) ∙ sym c.range_by.ensures ∙ c.in_default.is)

pub returns : goal.returns
returns c = c.index_range.ensures ∙ named-nowhere (plain_shape c.args.shape) c.args.extents.now c.args.queries.now c.args.name c.loop-k.k c.loop-k-test.false c.loop-k.invariant
