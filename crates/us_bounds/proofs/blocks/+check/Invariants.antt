use Rattle.std.proofs.Common.{◌+◌, ◌*◌, drop}
use Rattle.us_code.specs.Plain.{plain_list, tree_of, alone, other_tree}
use Rattle.us_code.specs.Names.{count}
use Rattle.us_code.specs.Typing.{outer}
use Rattle.us_code.specs.Unbound.{broken_in}
use Rattle.us_bounds.specs.Seen.{context_of}
use Rattle.us_bounds.specs.Steps.{Ahead}
use Rattle.us_bounds.proofs.blocks.+check.Given as goal

abbrev pub invariant-check_block-loop-stmt : goal.invariant-check_block-loop-stmt
invariant-check_block-loop-stmt l =
    let rest = plain_list (drop l.stmt-index l.stmt-items) in
    Ahead (broken_in (context_of l.fn.table) l.fn.item (tree_of l.block)) (broken_in (context_of l.table) l.next rest)
    (l.fn.item + count (tree_of l.block)) (l.next + count rest) (outer (context_of l.fn.table) (tree_of l.block)) (outer (context_of l.table) rest)

abbrev pub decreases-check_block : goal.decreases-check_block
decreases-check_block l = 5 * count (tree_of l.block.now) + 1

abbrev pub decreases-check_body : goal.decreases-check_body
decreases-check_body l = 5 * count (tree_of l.body.now) + 2

abbrev pub decreases-check_scope : goal.decreases-check_scope
decreases-check_scope l = 5 * count (tree_of l.body.now) + 3

abbrev pub decreases-check_for : goal.decreases-check_for
decreases-check_for l = 5 * count (tree_of l.body.now) + 4

abbrev pub decreases-check_span : goal.decreases-check_span
decreases-check_span l = 5 * count (tree_of l.body.now) + 4

abbrev pub decreases-check_other : goal.decreases-check_other
decreases-check_other l = 5 * count (other_tree l.other.now) + 3

abbrev pub decreases-check_if : goal.decreases-check_if
decreases-check_if l = 5 * (count (tree_of l.body.now) + count (other_tree l.other.now)) + 4

abbrev pub decreases-check_when : goal.decreases-check_when
decreases-check_when l = 5 * (count (tree_of l.body.now) + count (other_tree l.other.now)) + 4

abbrev pub decreases-check_stmt : goal.decreases-check_stmt
decreases-check_stmt l = 5 * count (alone l.stmt.now)
