use Rattle.us_mm.proofs.PiecesLemmas.{ends_header, ends_array_header, ends_size, ends_sides}
use Rattle.us_mm.proofs.pieces.missing.Goals as goal

pub returns-in-CoordinateHeader : goal.returns-in-CoordinateHeader
returns-in-CoordinateHeader c = λ ls k e lt. rw c.in-CoordinateHeader.is (ends_header ls (rw c.in-CoordinateHeader.is at k))

pub returns-in-CoordinateSize : goal.returns-in-CoordinateSize
returns-in-CoordinateSize c = λ ls k e lt.
    let has = rw c.in-CoordinateSize.is at k in
    rw c.in-CoordinateSize.is (ends_size c.in-CoordinateSize.field-0 ls c.args.lines c.saturating_add.result has e lt c.saturating_add.ensures)

pub returns-in-ArrayHeader : goal.returns-in-ArrayHeader
returns-in-ArrayHeader c = λ ls k e lt. rw c.in-ArrayHeader.is (ends_array_header ls (rw c.in-ArrayHeader.is at k))

pub returns-in-ArraySize : goal.returns-in-ArraySize
returns-in-ArraySize c = λ ls k e lt.
    let has = rw c.in-ArraySize.is at k in
    rw c.in-ArraySize.is (ends_sides ls c.args.lines c.saturating_add-in-ArraySize.result has e lt c.saturating_add-in-ArraySize.ensures)
