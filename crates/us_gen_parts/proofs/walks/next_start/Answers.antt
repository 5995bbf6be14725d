use Rattle.std.proofs.Common.{ℕ, ◌+◌, ◌*◌, ap₂}
use Rattle.us_gen_places.specs.declared.start.PartStart.{PartStart}
use Rattle.us_gen_parts.proofs.walks.next_start.Goals as goal

pub returns-clause-is : goal.returns-clause-is
returns-clause-is c =
    ap₂ (λ (b n : ℕ). let at : PartStart = record { source = c.args.start.source + b; dim = c.args.start.dim + 16 + 2 * n } in at) c.part_buffers.ensures.count c.level_count-levels.ensures.is
