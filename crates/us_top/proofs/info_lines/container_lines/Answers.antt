use Rattle.std.proofs.Common.{◌≡◌, ◌+◌, min, ap, ◌∙◌}
use Rattle.us_format.specs.Reading.{limit}
use Rattle.us_decl.specs.Declares.{Declared}
use Rattle.us_inputs.specs.Steps.{size_on}
use Rattle.us_top.specs.Info.{spaced}
use Rattle.us_top.proofs.InfoLemmas.{joined, held_size, info_container}
use Rattle.us_top.proofs.info_lines.container_lines.Goals as goal

pub returns : goal.returns
returns c =
    let h = c.args.held.now in
    let size : c.in_ok-size.size ≡ size_on h.matrix h.declared =
    held_size h c.in_ok-size.size c.buffers.ensures.held
    (c.in_ok-size.ensures ∙ ap (λ m. min (size_on m c.format.result.now) (limit + 1)) c.matrix.ensures ∙ ap (λ d. min (size_on h.matrix d) (limit + 1)) c.format.ensures) in
    info_container h _ _ _
    (joined _ _ _ _ _ _ _ _ _ _ _ c.in_ok-out.ensures.items c.in_ok-extend_from_slice.ensures.items (rw c.matrix-2.ensures at c.in_ok-push_sides.ensures) c.in_ok-push_spaced.ensures
    c.in_ok-push.ensures.items
    (rw c.buffers.ensures.value at c.in_ok-push_buffers.ensures))
    (c.as_bytes.ensures.value ∙ c.as_str.ensures ∙ ap (λ (d : Declared). d.name) (c.decl.ensures.is ∙ c.format-2.ensures)) (ap spaced size)
