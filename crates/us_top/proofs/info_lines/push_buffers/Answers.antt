use Rattle.std.proofs.Common.{◌<◌, ◌++◌, ◌+◌, length, drop, ap, ◌∙◌, arith}
use Rattle.us_top.specs.Info.{buffer_lines}
use Rattle.us_top.proofs.InfoLemmas.{next_buffer}
use Rattle.us_top.proofs.info_lines.push_buffers.Goals as goal

pub loop-k-preserved : goal.loop-k-preserved
loop-k-preserved c =
    let below : c.loop-k.k < length c.args.buffers.now = omega (arith, c.loop-k-test.true, c.count-k-end.ensures) in
    ap (λ o. o ++ buffer_lines (c.loop-k.k + 1) (drop (c.loop-k.k + 1) c.args.buffers.now)) c.in_ok-push_buffer.ensures
    ∙ next_buffer c.loop-k.out.items c.args.buffers.now c.loop-k.k _ below (ap length c.list.ensures) ∙ c.loop-k.invariant
