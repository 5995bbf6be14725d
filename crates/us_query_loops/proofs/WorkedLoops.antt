-- The worked rows compute.
use Rattle.std.proofs.Common.{refl}
use Rattle.us_query_loops.specs.Worked.{WorkedColumns, WorkedParts, WorkedRows}

pub worked-rows : WorkedRows
worked-rows = record { places = refl; starts = refl; most = refl; lengths = refl; column = refl }

pub worked-columns : WorkedColumns
worked-columns = record { counts = refl; order = refl; ranks = refl; lanes = refl; slots = refl; loads = refl; used = refl; extents = refl; table = refl }

pub worked-parts : WorkedParts
worked-parts = record { first = refl; second = refl; rest = refl }
