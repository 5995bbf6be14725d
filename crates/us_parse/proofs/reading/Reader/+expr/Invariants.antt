use Rattle.std.proofs.Common.{◌≡◌, false, ◌+◌, ◌-◌, ◌*◌}
use Rattle.us_parse.specs.Reads.{text_of, size, lead, GoesExpr, GoesTerm, is_product}
use Rattle.us_parse.proofs.reading.Reader.+expr.Given as goal

abbrev pub decreases-expr : goal.decreases-expr
decreases-expr l = 4 * (32 - l.depth) + 3

abbrev pub decreases-term : goal.decreases-term
decreases-term l = 4 * (32 - l.depth) + 2

abbrev pub decreases-factor : goal.decreases-factor
decreases-factor l = 4 * (32 - l.depth) + 1

abbrev pub decreases-group : goal.decreases-group
decreases-group l = 4 * (32 - l.depth)

abbrev pub invariant-expr-loop-plus : goal.invariant-expr-loop-plus
invariant-expr-loop-plus l = GoesExpr (text_of l.fn.self.cursor) (text_of l.self.cursor) l.depth l.nodes l.count l.fn.self.names l.self.names l.sum × (is_product (lead (text_of l.self.cursor)) ≡ false)

abbrev pub decreases-expr-loop-plus : goal.decreases-expr-loop-plus
decreases-expr-loop-plus l = size (text_of l.self.cursor)

abbrev pub invariant-term-loop-over : goal.invariant-term-loop-over
invariant-term-loop-over l = GoesTerm (text_of l.fn.self.cursor) (text_of l.self.cursor) l.depth l.nodes l.count l.fn.self.names l.self.names l.product

abbrev pub decreases-term-loop-over : goal.decreases-term-loop-over
decreases-term-loop-over l = size (text_of l.self.cursor)
