use Rattle.std.proofs.Common.{ℕ, List, ap, ◌∙◌}
use Rattle.us_raw.specs.Lends.{overwritten}
use Rattle.us_raw.specs.Plan.{put}
use Rattle.us_raw.proofs.region.store.Goals as goal

pub returns : goal.returns
unfolding put
returns c = ap (λ (ws : List ℕ). overwritten c.args.block.now c.args.at 8 ws) (c.copy_from_slice.ensures.after ∙ c.to_le_bytes.ensures)
