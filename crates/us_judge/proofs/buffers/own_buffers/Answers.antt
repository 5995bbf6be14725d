use Rattle.std.proofs.Common.{◌≡◌, ◌<◌, ◌≤◌, ◌+◌, length, ap, sym, ◌∙◌, arith}
use Rattle.std.specs.Prelude.{filter}
use Rattle.us_format.specs.Kinds.{kind}
use Rattle.us_format.specs.Packs.{level_pieces}
use Rattle.us_judge.specs.Buffers.{is_own}
use Rattle.us_judge.specs.Views.{plain_part}
use Rattle.us_judge.proofs.Counting.{rest-next, rest-end}
use Rattle.us_judge.proofs.PartKinds.{length-kinds, kind_there}
use Rattle.us_judge.proofs.buffers.own_buffers.Goals as goal

pub loop-level-preserved : goal.loop-level-preserved
loop-level-preserved c =
    let p = plain_part c.args.part.now in
    let below : c.loop-level.level < length (plain_part c.args.part.now).levels = omega (arith, length-kinds p c.args.kinds.now c.requires.kinds) in
    let own : c.own_of_level-count.result ≡ length (filter (is_own (plain_part c.args.part.now)) (level_pieces c.loop-level.level (kind (plain_part c.args.part.now) c.loop-level.level))) =
    c.own_of_level-count.ensures.count ∙ ap (λ k. length (filter (is_own p) (level_pieces c.loop-level.level k))) (kind_there p c.args.kinds.now c.loop-level.level c.requires.kinds below) in
    (omega (arith, own, rest-next p c.loop-level.level below, c.loop-level.invariant.0), omega (arith, c.own_of_level-count.ensures.few, c.loop-level.invariant.1))

pub returns-clause-count : goal.returns-clause-count
returns-clause-count c =
    let p = plain_part c.args.part.now in
    let past : length (plain_part c.args.part.now).levels ≤ c.loop-level.level = omega (arith, length-kinds p c.args.kinds.now c.requires.kinds) in
    ap (λ n. c.loop-level.count + n) (c.own_cells.ensures.count ∙ sym (rest-end p c.loop-level.level past)) ∙ c.loop-level.invariant.0
