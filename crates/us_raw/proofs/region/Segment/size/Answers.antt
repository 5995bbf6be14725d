use Rattle.std.proofs.Common.{◌≡◌, ◌*◌, ap, subst, sym, ◌≤◌, ℕ}
use Rattle.us_raw.specs.Plan.{cells_size}
use Rattle.us_raw.proofs.Table.{cells_small}
use Rattle.us_raw.proofs.region.Segment.size.Goals as goal

pub returns : goal.returns
unfolding cells_size
returns c =
    let same : c.args.self.len * c.bytes.result ≡ cells_size c.args.self = ap (λ (k : ℕ). c.args.self.len * k) c.bytes.ensures in
    (same, subst (λ (k : ℕ). k ≤ 536870920) (sym same) (cells_small c.args.self c.requires))
