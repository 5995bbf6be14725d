use Rattle.std.proofs.Common.{sym, ◌++◌, take, get_or, ◌∷◌, [], append-nil, append_assoc}
use Rattle.std.proofs.lemmas.List.{take_more, take_all}
use Rattle.us_mm_lines.proofs.line_state.LineState.push_all.Goals as goal

pub loop-b-init : goal.loop-b-init
loop-b-init c = λ rest h. rw (append-nil rest) h

pub loop-b-preserved : goal.loop-b-preserved
loop-b-preserved c = λ rest h.
    let bytes = c.args.bytes.now in
    let k = c.loop-b.b-index in
    rw (take_more bytes k 0 c.loop-b-test.true, sym (append_assoc rest (take k bytes) (get_or bytes k 0 ∷ []))) (c.push.ensures (rest ++ take k bytes) (c.loop-b.invariant rest h))

pub returns : goal.returns
returns c = λ rest h. rw (sym (take_all c.loop-b.b-index c.args.bytes.now c.loop-b-test.false)) (c.loop-b.invariant rest h)
