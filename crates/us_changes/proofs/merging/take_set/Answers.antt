use Rattle.std.proofs.Common.{arith, sym, subst}
use Rattle.std.proofs.lemmas.List.{take_rest}
use Rattle.us_matrix.specs.Map.{IsRisingFrom, AreEntries, place}
use Rattle.us_changes.specs.Merging.{IsMerged}
use Rattle.us_changes.proofs.MergeLemmas.{merged_behind, drop_entries, rest_rising}
use Rattle.us_changes.proofs.merging.take_set.Goals as goal

pub put_set-requires-clause-rising : goal.put_set-requires-clause-rising
put_set-requires-clause-rising c =
    let rest = c.args.rest.now in
    let count = c.count_below-count.result in
    subst (IsRisingFrom (place c.args.set)) (sym (take_rest rest count))
    (rest_rising 0 (place c.args.set) count rest c.requires.rising (λ d lt. omega (arith, c.count_below-count.ensures.behind d lt, c.place_of.ensures)))

pub put_set-requires-clause-entries : goal.put_set-requires-clause-entries
put_set-requires-clause-entries c =
    let rest = c.args.rest.now in
    let count = c.count_below-count.result in
    subst (AreEntries c.args.shape.rows c.args.shape.cols) (sym (take_rest rest count)) (drop_entries c.args.shape.rows c.args.shape.cols count rest c.requires.entries)

pub returns : goal.returns
returns c =
    let rest = c.args.rest.now in
    let count = c.count_below-count.result in
    let oe = c.args.merged.now.entries.items in
    let me = c.extend_from_slice.new.self.items in
    let ne = c.put_set.new.merged.entries.items in
    let ob = c.args.merged.now.back.items in
    let nb = c.put_set.new.merged.back.items in
    merged_behind rest c.args.set oe me ne ob nb count c.in_ok-here.here c.count_below-count.ensures.within
    (λ i d lt. omega (arith, c.count_below-count.ensures.before i d lt, c.place_of.ensures)) c.in_ok-extend_from_slice.ensures.items
    (subst (λ l. IsMerged l c.args.set me ne ob nb c.in_ok-here.here) (take_rest rest count) c.in_ok-here.ensures)
