use Rattle.std.proofs.Common.{◌≤◌, length, ◌∙◌, rules}
use Rattle.us_climb.specs.Parents.{none}
use Rattle.us_climb.proofs.Tables.{parent-told}
use Rattle.us_climb.proofs.climbing.parent_of.Goals as goal

pub returns-in-Some : goal.returns-in-Some
returns-in-Some c =
    let few : length c.args.starts.now ≤ none = search rules in
    parent-told c.args.starts.now c.args.x c.in-Some.parent few c.in-Some.ensures.small (c.in-Some.ensures.inside ∙ c.requires c.args.x c.in-Some.ensures.within)
