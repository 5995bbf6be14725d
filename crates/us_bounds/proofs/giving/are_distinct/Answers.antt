use Rattle.std.specs.BTreeSet.{contains}
use Rattle.std.specs.Ordering.{nat_cmp}
use Rattle.std.proofs.Common.{◌&&◌, not, Bool, ap, sym, ◌∙◌, get_or}
use Rattle.us_bounds.proofs.Lists.{distinct_next, listed_more}
use Rattle.us_bounds.proofs.giving.are_distinct.Goals as goal
use Rattle.us_bounds.proofs.giving.are_distinct.Goals.{then-distinct, else-distinct}

pub loop-number-preserved : goal.loop-number-preserved
loop-number-preserved c =
    let xs = c.args.numbers.now in
    let k = c.loop-number.number-index in
    let first = c.in_ok-first.ensures.added ∙ ap not (c.loop-number.invariant.listed (get_or xs k 0)) in
    let next = distinct_next xs k 0 c.loop-number.distinct c.if-distinct.distinct c.in_ok-first.first c.loop-number-test.true c.loop-number.invariant.distinct first in
    record {
      listed = listed_more xs k 0 (contains nat_cmp c.loop-number.before) (contains nat_cmp c.insert.new.self) c.loop-number-test.true c.in_ok-first.ensures.updates.0 c.loop-number.invariant.listed;
      distinct = elim c.if-distinct.branch [
        | then-distinct w ↦ next (w.distinct-is ∙ ap (λ (b : Bool). b && c.in_ok-first.first) (sym w.if-distinct.true))
        | else-distinct w ↦ next (w.distinct-is ∙ (w.if-distinct.false ∙ ap (λ (b : Bool). b && c.in_ok-first.first) (sym w.if-distinct.false)))
      ];
    }
