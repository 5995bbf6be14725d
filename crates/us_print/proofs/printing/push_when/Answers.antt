use Rattle.std.proofs.Common.{◌++◌, ◌∷◌, [], ◌∙◌, ap, sym, append_assoc, codes}
use Rattle.us_print.specs.Canon.{condition_text}
use Rattle.us_print.proofs.Printed.{three, on_ok, on_extend}
use Rattle.us_print.proofs.printing.push_when.Goals as goal

pub returns : goal.returns
returns c =
    let out = c.args.out.now.items in
    let text = condition_text c.args.names.now c.args.cond in
    on_ok c.extend_from_slice-2.result (λ e.
    three out c.extend_from_slice.new.self.items c.push_condition.new.out.items c.extend_from_slice-2.new.self.items
    (codes "  part when ") text (codes " {" ++ (10 ∷ [])) c.in_ok-extend_from_slice.ensures.items c.in_ok-push_condition.ensures e
    ∙ ap (λ w. out ++ (codes "  part when " ++ w)) (sym (append_assoc text (codes " {") (10 ∷ [])))) (on_extend c.extend_from_slice-2.result _ _ _ c.extend_from_slice-2.ensures.items)
