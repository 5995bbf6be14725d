use Rattle.std.proofs.Common.{◌+◌, ◌*◌, ℕ, List, length, ap, ◌∙◌, arith}
use Rattle.us_raw.specs.Plan.{put, entered}
use Rattle.us_raw.specs.Widths.{size_of}
use Rattle.us_raw.proofs.Table.{put-length}
use Rattle.us_raw.proofs.region.enter.Goals as goal

pub store-requires-2 : goal.store-requires-2
store-requires-2 c =
    let bs = c.args.block.now in let at = c.args.seg * 24 in
    let long = ap (λ (l : List ℕ). length l) c.store.ensures ∙ put-length bs at c.args.entry.start (omega arith) in
    omega (arith, long)

pub store-requires-3 : goal.store-requires-3
store-requires-3 c =
    let bs = c.args.block.now in let at = c.args.seg * 24 in
    let long = ap (λ (l : List ℕ). length l) c.store.ensures ∙ put-length bs at c.args.entry.start (omega arith) in
    let long2 = ap (λ (l : List ℕ). length l) c.store-2.ensures ∙ put-length c.store.new.block (at + 8) c.args.entry.len (omega (arith, long)) in
    omega (arith, long, long2)

pub returns : goal.returns
unfolding entered
returns c =
    let at = c.args.seg * 24 in
    c.store-3.ensures ∙ (λ i. put (c.store-2.ensures i) (at + 16) (c.bytes.ensures i)) ∙ ap (λ (l : List ℕ). put (put l (at + 8) c.args.entry.len) (at + 16) (size_of c.args.entry.width)) c.store.ensures
