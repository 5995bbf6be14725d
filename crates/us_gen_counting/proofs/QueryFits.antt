-- The phases of a query are typed in every context with room.
use Rattle.std.proofs.Common.{◌≡◌, ◌+◌, Bool, true, false, not, refl, ap, IsTrue}
use Rattle.us_code.specs.Typing.{is_some}
use Rattle.us_format.specs.Declaration.{SumOf, Enumerate, Reorder, Schedule, axis_of}
use Rattle.us_format.specs.Rules.{has_variable, is_index}
use Rattle.us_gen_counting.specs.Phases.{words, one_word, count_makes}
use Rattle.us_gen_counting.specs.Rooms.{QueryTyped}
use Rattle.us_gen_counting.proofs.Makes.{kinds_if}
use Rattle.us_gen_counting.proofs.Keys.{within_none}
use Rattle.us_gen_counting.proofs.PhaseFits.{sum_fits, enumerate_fits, reorder_fits}
use Rattle.us_gen_counting.proofs.ScheduleFits.{schedule_fits}

pub is_false : (b : Bool) → IsTrue (not b) → b ≡ false
is_false true h = absurd cc
is_false false h = refl

pub query_fits : QueryTyped
query_fits g s cs (SumOf v e) n room seen plain ok =
    let x = sum_fits g cs n room seen plain e (within_none 32 e (is_false (has_variable e) ok.lawful) ok.within) in
    let k = kinds_if (words n cs) (count_makes cs n (words (n + 3) cs)) (is_index e) _ x.kinds in
    (x.fit, k.1.0)
query_fits g s cs (Enumerate v e) n room seen plain ok =
    let x = enumerate_fits g cs n room seen plain e (within_none 32 e (is_false (has_variable e) ok.lawful) ok.within) in
    let k = kinds_if (words n cs) (count_makes cs n (one_word (n + 3))) (is_index e) _ x.kinds in
    (x.fit, (k.1.0, k.1.1.0))
query_fits g s cs (Reorder v e) n room seen plain ok =
    let x = reorder_fits g cs n room seen plain s (axis_of e) in
    (x.fit, (x.kinds.1.1.0, ap is_some x.kinds.1.1.1.0))
query_fits g s cs (Schedule l u e lanes) n room seen plain ok =
    let x = schedule_fits g cs n room seen plain s (axis_of e) lanes ok.lanes in
    (x.fit, (x.lanes_seen, x.slots_in, x.extent_seen, x.table_seen))
