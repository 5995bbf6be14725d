use Rattle.std.proofs.Common.{◌≤◌, subst, sym}
use Rattle.us_judge.specs.Views.{plain_part}
use Rattle.us_judge.proofs.PartKinds.{length-kinds}
use Rattle.us_judge.proofs.buffers.buffer_count.Goals as goal

pub own_buffers-requires-clause-short : goal.own_buffers-requires-clause-short
own_buffers-requires-clause-short c = subst (λ n. n ≤ 16) (sym (length-kinds (plain_part c.args.part.now) c.args.kinds.now c.requires.kinds)) c.requires.short.levels
