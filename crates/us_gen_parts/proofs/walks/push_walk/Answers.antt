use Rattle.us_gen_parts.proofs.walks.push_walk.Goals as goal

pub returns : goal.returns
returns c = record { walk = c.in_ok-walk.walk; is = c.in_ok-walk.ensures; behind = c.in_ok-push.ensures.items }
