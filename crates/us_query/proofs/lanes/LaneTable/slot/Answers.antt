use Rattle.std.proofs.Common.{◌<◌, List, length, ap, ◌∙◌, arith}
use Rattle.std.proofs.lemmas.List.{get_or_default}
use Rattle.us_query.specs.declared.lanes.Place.{Place}
use Rattle.us_query.specs.Lanes.{Lanes, slot_in, numbers_in}
use Rattle.us_query.proofs.Placing.{slot-is}
use Rattle.us_query.proofs.lanes.LaneTable.slot.Goals as goal

pub returns : goal.returns
returns c =
    let ps : List Place = c.self.inside.places.items in
    let inside : c.args.at < length ps = omega (arith, c.requires, ap (λ (v : Lanes). v.count) c.self.view_is) in
    ap (λ (p : Place). p.slot) (c.index.ensures ∙ get_or_default ps c.args.at c.index.result.now (record { lane = 0; slot = 0 }) inside)
    ∙ slot-is (numbers_in c.self.inside.lanes.items) ps c.self.invariant.0 c.args.at inside
    ∙ ap (λ (v : Lanes). slot_in v.lanes c.args.at) c.self.view_is
