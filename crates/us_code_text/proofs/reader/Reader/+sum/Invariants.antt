use Rattle.std.proofs.Common.{◌<◌, ◌+◌, ◌*◌}
use Rattle.us_code_table.specs.Table.{Sum, Product, SumTail, ProductTail}
use Rattle.us_code_text.specs.Reads.{text_of, size, GoesInto}
use Rattle.us_code.specs.Plain.{term_tree}
use Rattle.us_code_text.proofs.reader.Reader.+sum.Given as goal

abbrev pub decreases-sum : goal.decreases-sum
decreases-sum l = 3 * size (text_of l.self.now) + 2

abbrev pub decreases-product : goal.decreases-product
decreases-product l = 3 * size (text_of l.self.now) + 1

abbrev pub decreases-atom : goal.decreases-atom
decreases-atom l = 3 * size (text_of l.self.now)

abbrev pub invariant-product-more : goal.invariant-product-more
invariant-product-more l = GoesInto Product ProductTail l.fn.self l.self (λ f. f (term_tree l.product)) × (size (text_of l.self) < size (text_of l.fn.self))

abbrev pub decreases-product-more : goal.decreases-product-more
decreases-product-more l = size (text_of l.self)

abbrev pub invariant-sum-more : goal.invariant-sum-more
invariant-sum-more l = GoesInto Sum SumTail l.fn.self l.self (λ f. f (term_tree l.sum)) × (size (text_of l.self) < size (text_of l.fn.self))

abbrev pub decreases-sum-more : goal.decreases-sum-more
decreases-sum-more l = size (text_of l.self)
