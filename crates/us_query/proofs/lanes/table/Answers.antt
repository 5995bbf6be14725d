use Rattle.std.proofs.Common.{◌≡◌, ◌<◌, ℕ, List, Vec, Global, All, drop, length, replicate, ap, sym, ◌∙◌, arith, subst}
use Rattle.std.proofs.lemmas.List.{take_at}
use Rattle.us_format.specs.Queries.{empty_lanes}
use Rattle.us_query.specs.Lanes.{lanes_after, numbers_in}
use Rattle.us_query.proofs.Placing.{lists-long, short-lanes}
use Rattle.us_query.proofs.lanes.table.Goals as goal

pub fill-requires-clause-narrow : goal.fill-requires-clause-narrow
fill-requires-clause-narrow c =
    omega (arith, c.requires.some, lists-long c.deref_mut.result.now c.args.lanes (ap numbers_in c.deref_mut.ensures.value ∙ c.in_ok-lists.ensures))

pub fill-requires-clause-empty : goal.fill-requires-clause-empty
fill-requires-clause-empty c =
    let e : numbers_in c.deref_mut.result.now ≡ empty_lanes c.args.lanes = ap numbers_in c.deref_mut.ensures.value ∙ c.in_ok-lists.ensures in
    e ∙ ap empty_lanes (sym (lists-long c.deref_mut.result.now c.args.lanes e))

pub fill-requires-clause-loads : goal.fill-requires-clause-loads
fill-requires-clause-loads c =
    let e : numbers_in c.deref_mut.result.now ≡ empty_lanes c.args.lanes = ap numbers_in c.deref_mut.ensures.value ∙ c.in_ok-lists.ensures in
    c.deref_mut-2.ensures.value ∙ c.in_ok-loads.ensures ∙ ap (λ (n : ℕ). replicate n 0) (sym (lists-long c.deref_mut.result.now c.args.lanes e))

pub longest-extent-requires : goal.longest-extent-requires
longest-extent-requires c =
    let full : length c.fill.new.lanes ≡ c.in_ok-lists.lists.len = omega (arith, c.fill.auto.lanes, c.deref_mut.ensures.len) in
    subst (λ (xs : List (Vec ℕ Global)). All (λ lane. length lane < 4294967296) (numbers_in xs)) (sym (c.deref.ensures.value ∙ take_at c.fill.new.lanes _ _ full))
    (short-lanes (numbers_in c.fill.new.lanes) c.in_ok-places.places.items c.in_ok-places.ensures.placed)

pub returns : goal.returns
returns c =
    let full : length c.fill.new.lanes ≡ c.in_ok-lists.lists.len = omega (arith, c.fill.auto.lanes, c.deref_mut.ensures.len) in
    let e : numbers_in c.deref_mut.result.now ≡ empty_lanes c.args.lanes = ap numbers_in c.deref_mut.ensures.value ∙ c.in_ok-lists.ensures in
    λ m axis a i. record {
      lanes =
          (ap numbers_in (take_at c.fill.new.lanes (drop (length c.fill.new.lanes) c.in_ok-lists.lists.items) c.in_ok-lists.lists.len full) ∙ c.in_ok-places.ensures.lanes m axis a
          ∙ ap (λ (n : ℕ). lanes_after m axis n (length c.args.weights.now)) (lists-long c.deref_mut.result.now c.args.lanes e)) i;
      count = c.in_ok-places.ensures.count i;
    }
