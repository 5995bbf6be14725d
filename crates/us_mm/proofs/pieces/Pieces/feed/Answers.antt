use Rattle.std.proofs.Common.{refl, arith, ◌≡◌, ◌==◌, ◌+◌, ◌-◌, ◌++◌, ◌∷◌, [], take, drop, length, false}
use Rattle.std.proofs.lemmas.List.{get_or_default}
use Rattle.us_mm_lines.proofs.LineLemmas.{no_pass, all_before}
use Rattle.us_mm.proofs.PiecesLemmas.{fed_none, fed_more, fed_all, goes_faulted, goes_rest, no_fault, cut_at}
use Rattle.us_mm.proofs.pieces.Pieces.feed.Goals as goal

pub loop-left-init : goal.loop-left-init
loop-left-init c = fed_none c.args.self.now c.args.piece.now

pub loop-left-preserved : goal.loop-left-preserved
loop-left-preserved c =
    let left = c.loop-left.left.now in
    let n = c.in-Some.end in
    let found = c.in-Some.ensures in
    fed_more c.args.self.now c.loop-left.self c.end_line.new.self c.args.piece.now left (take n left ++ 10 ∷ []) (take (length left - (n + 1)) (drop (n + 1) left)) c.loop-left.invariant (cut_at left n found.0.high found.1) c.end_line.ensures

pub end_line-requires : goal.end_line-requires
end_line-requires c =
    let left = c.loop-left.left.now in
    let n = c.in-Some.end in
    let found = c.in-Some.ensures in record {
      unfaulted = no_fault c.loop-left.self.fault c.loop-left-test.ensures;
      feeds = all_before (λ b. (b == 10) ≡ false) left n (omega (arith, found.0.high)) (λ k lt. no_pass _ (found.0.before k (omega arith) lt));
    }

pub returns : goal.returns
returns c = fed_all c.args.self.now c.loop-left.self c.loop-left.self c.args.piece.now c.loop-left.left.now c.loop-left.invariant (goes_faulted c.loop-left.self c.loop-left.left.now c.loop-left-test.ensures)

pub returns-in-None : goal.returns-in-None
returns-in-None c =
    let left = c.loop-left.left.now in
    let none = c.in-None.ensures in
    let unfaulted = no_fault c.loop-left.self.fault c.loop-left-test.ensures in
    fed_all c.args.self.now c.loop-left.self _ c.args.piece.now left c.loop-left.invariant
    (goes_rest c.loop-left.self _ left unfaulted unfaulted refl refl (λ k d lt. rw (get_or_default left k d 0 lt) (no_pass _ (none k (omega arith) lt))) c.push_all.ensures)
