use Rattle.std.proofs.Common.{◌++◌, [], ◌∷◌, ℕ, List, Vec, Global, set, ap, sym, ◌∙◌}
use Rattle.std.proofs.lemmas.List.{get_or-map, map-set}
use Rattle.us_query.specs.Lanes.{numbers_in}
use Rattle.us_query.proofs.lanes.add.Goals as goal

pub returns : goal.returns
returns c =
    map-set (λ (v : Vec ℕ Global). v.items) c.args.lanes.now c.args.lane c.push.new.self
    ∙ ap (λ (xs : List ℕ). set (numbers_in c.args.lanes.now) c.args.lane xs)
    (c.in_ok-push.ensures.items
    ∙ ap (λ (xs : List ℕ). xs ++ c.args.index ∷ []) (sym (get_or-map (λ (v : Vec ℕ Global). v.items) c.args.lanes.now c.args.lane c.index-lanes-lane.result [] c.requires)))
