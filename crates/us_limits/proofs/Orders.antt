-- Blocks and phases without an `order`, one after the other.
use Rattle.std.proofs.Common.{◌≡◌, Bool, true, false, ◌||◌, List, [], ◌∷◌, ◌++◌, refl}
use Rattle.us_code.specs.Plain.{Code, End, Let, Load, Var, Put, Set, For, Span, If, When, Order, ◌+++◌, PhaseTree}
use Rattle.us_limits.specs.Orders.{has_order, HaveNoOrder}
use Rattle.us_limits.specs.Laws.{WithoutOrder}

pub left-false : (a b : Bool) → a || b ≡ false → a ≡ false
left-false false b h = refl
left-false true b h = absurd cc

pub right-false : (a b : Bool) → a || b ≡ false → b ≡ false
right-false false b h = h
right-false true b h = absurd cc

pub both-false : (a b : Bool) → a ≡ false → b ≡ false → a || b ≡ false
both-false false b h k = k
both-false true b h k = absurd cc

pub blocks-without : (a b : Code) → has_order a ≡ false → has_order b ≡ false → has_order (a +++ b) ≡ false
blocks-without End b h k = k
blocks-without (Let r e rest) b h k = blocks-without rest b h k
blocks-without (Load r x at rest) b h k = blocks-without rest b h k
blocks-without (Var r e rest) b h k = blocks-without rest b h k
blocks-without (Put r e rest) b h k = blocks-without rest b h k
blocks-without (Set x at e rest) b h k = blocks-without rest b h k
blocks-without (For r d body rest) b h k =
    both-false (has_order body) _ (left-false (has_order body) (has_order rest) h) (blocks-without rest b (right-false (has_order body) (has_order rest) h) k)
blocks-without (Span r x y d body rest) b h k =
    both-false (has_order body) _ (left-false (has_order body) (has_order rest) h) (blocks-without rest b (right-false (has_order body) (has_order rest) h) k)
blocks-without (If l eq r body given other rest) b h k =
    let more : has_order other || has_order rest ≡ false = right-false (has_order body) (has_order other || has_order rest) h in
    both-false (has_order body) _ (left-false (has_order body) (has_order other || has_order rest) h)
    (both-false (has_order other) _ (left-false (has_order other) (has_order rest) more) (blocks-without rest b (right-false (has_order other) (has_order rest) more) k))
blocks-without (When e d r body given other rest) b h k =
    let more : has_order other || has_order rest ≡ false = right-false (has_order body) (has_order other || has_order rest) h in
    both-false (has_order body) _ (left-false (has_order body) (has_order other || has_order rest) h)
    (both-false (has_order other) _ (left-false (has_order other) (has_order rest) more) (blocks-without rest b (right-false (has_order other) (has_order rest) more) k))
blocks-without (Order x keys rest) b h k = absurd cc

pub phases-without : (a b : List PhaseTree) → HaveNoOrder a → HaveNoOrder b → HaveNoOrder (a ++ b)
phases-without [] b h k = k
phases-without (p ∷ ps) b h k = (h.0, phases-without ps b h.1 k)

pub without-order : WithoutOrder
without-order = record { blocks = blocks-without; phases = phases-without }
