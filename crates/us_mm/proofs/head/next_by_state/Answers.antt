use Rattle.std.specs.Str.Lines.{strip_carriage_return}
use Rattle.us_mm.proofs.head.next_by_state.Goals as goal

pub returns-in-CoordinateHeader : goal.returns-in-CoordinateHeader
returns-in-CoordinateHeader c = λ rest ls s k is.
    let none = rw c.in-CoordinateHeader.is at k in
    rw (c.in-CoordinateHeader.is, none) (c.behind_header.ensures (strip_carriage_return rest) (c.header_state.ensures rest s))

pub returns-in-CoordinateSize : goal.returns-in-CoordinateSize
returns-in-CoordinateSize c = λ rest ls s k is.
    let has = rw c.in-CoordinateSize.is at k in
    rw c.in-CoordinateSize.is (c.behind_size.ensures c.args.number ls (strip_carriage_return rest) has is (c.is_skipped.ensures rest s) (c.size_state.ensures.value rest s))

pub returns-in-ArrayHeader : goal.returns-in-ArrayHeader
returns-in-ArrayHeader c = λ rest ls s k is.
    let none = rw c.in-ArrayHeader.is at k in
    rw (c.in-ArrayHeader.is, none) (c.behind_array.ensures (strip_carriage_return rest) (c.check_array_state.ensures rest s))

pub returns-in-ArraySize : goal.returns-in-ArraySize
returns-in-ArraySize c = λ rest ls s k is.
    let has = rw c.in-ArraySize.is at k in
    rw c.in-ArraySize.is (c.behind_sides.ensures c.args.number ls (strip_carriage_return rest) has is (c.is_skipped-in-ArraySize.ensures rest s) (c.sides_state.ensures.value rest s))
