-- Blocks and phases that sort no buffer.
use Rattle.std.specs.Prelude.{◌≡◌, Bool, true, false, ◌||◌, List, [], ◌∷◌}
use Rattle.us_code.specs.Plain.{Code, End, Let, Load, Var, Put, Set, For, Span, If, When, Order, PhaseTree}

-- there is an `order`
abbrev pub has_order : Code → Bool
has_order End = false
has_order (Let r e rest) = has_order rest
has_order (Load r b at rest) = has_order rest
has_order (Var r e rest) = has_order rest
has_order (Put r e rest) = has_order rest
has_order (Set b at e rest) = has_order rest
has_order (For r d body rest) = has_order body || has_order rest
has_order (Span r a b d body rest) = has_order body || has_order rest
has_order (If l eq r body given other rest) = has_order body || (has_order other || has_order rest)
has_order (When e d r body given other rest) = has_order body || (has_order other || has_order rest)
has_order (Order b keys rest) = true

-- no phase has one
abbrev pub HaveNoOrder : List PhaseTree → Type 0
HaveNoOrder [] = Unit {0}
HaveNoOrder (p ∷ ps) = (has_order p.body ≡ false) × HaveNoOrder ps
