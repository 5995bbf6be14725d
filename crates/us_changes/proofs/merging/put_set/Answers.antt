use Rattle.std.proofs.Common.{pos, ◌∙◌, sym}
use Rattle.us_matrix.specs.declared.matrix.Triple.{Triple}
use Rattle.us_changes.proofs.MergeLemmas.{merged_at, merged_before}
use Rattle.us_changes.proofs.merging.put_set.Goals as goal

pub returns-then-is_at_front : goal.returns-then-is_at_front
returns-then-is_at_front c =
    let zero_entry : Triple = record { i = 0; j = 0; v = pos 0 } in
    merged_at c.args.rest.now c.args.set zero_entry c.args.merged.now.entries.items c.push_value.new.entries.items c.args.merged.now.back.items c.push_changed.new.back.items c.args.shape.rows c.args.shape.cols c.requires.rising c.requires.entries
    (sym c.if-is_at_front.true ∙ c.is_at_front.ensures.at zero_entry) c.in_ok-push_value.ensures c.in_ok-push_changed.ensures

pub returns : goal.returns
returns c =
    let zero_entry : Triple = record { i = 0; j = 0; v = pos 0 } in
    merged_before c.args.rest.now c.args.set zero_entry c.args.merged.now.entries.items c.push_value.new.entries.items c.args.merged.now.back.items c.push_new.new.back.items c.requires.rising
    (sym c.if-is_at_front.false ∙ c.is_at_front.ensures.at zero_entry) c.in_ok-push_value.ensures c.in_ok-push_new.ensures
