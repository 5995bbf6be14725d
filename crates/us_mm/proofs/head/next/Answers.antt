use Rattle.us_mm.proofs.head.next.Goals as goal

pub returns-in-CoordinateHeader : goal.returns-in-CoordinateHeader
returns-in-CoordinateHeader c = λ ls k is.
    let none = rw c.in-CoordinateHeader.is at k in
    rw (c.in-CoordinateHeader.is, none) (c.behind_header.ensures c.args.line.now c.read_header.ensures)

pub returns-in-CoordinateSize : goal.returns-in-CoordinateSize
returns-in-CoordinateSize c = λ ls k is.
    let has = rw c.in-CoordinateSize.is at k in
    rw c.in-CoordinateSize.is (c.behind_size.ensures c.args.number ls c.args.line.now has is c.is_skipped.ensures c.size_line.ensures.value)

pub returns-in-ArrayHeader : goal.returns-in-ArrayHeader
returns-in-ArrayHeader c = λ ls k is.
    let none = rw c.in-ArrayHeader.is at k in
    rw (c.in-ArrayHeader.is, none) (c.behind_array.ensures c.args.line.now c.check_array_header.ensures)

pub returns-in-ArraySize : goal.returns-in-ArraySize
returns-in-ArraySize c = λ ls k is.
    let has = rw c.in-ArraySize.is at k in
    rw c.in-ArraySize.is (c.behind_sides.ensures c.args.number ls c.args.line.now has is c.is_skipped-in-ArraySize.ensures c.sides_line.ensures.value)
