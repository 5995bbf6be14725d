use Rattle.us_gen_kernel.proofs.openings.push_opening.Goals as goal

pub returns : goal.returns
returns c = record { opening = c.in_ok-opening.opening; extents = c.in_ok-opening.ensures.extents; loops = c.in_ok-opening.ensures.loops; values = c.in_ok-opening.ensures.values; behind = c.in_ok-push.ensures.items }
