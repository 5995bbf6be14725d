use Rattle.std.proofs.Common.{◌∙◌, ℕ, List, [], ◌∷◌, ◌++◌, ap, ap₂, sym, arith}
use Rattle.std.proofs.lemmas.List.FromFn.{map-range_with_len_more}
use Rattle.us_machine.specs.Packing.{number_from}
use Rattle.us_machine.proofs.packing.words_below.Goals as goal

pub loop-x-preserved : goal.loop-x-preserved
loop-x-preserved c =
    let x = c.loop-x.x in
    ◌∙◌ {A = List ℕ} c.in_ok-push.ensures.items
    (ap₂ (λ (ns : List ℕ) (n : ℕ). ns ++ n ∷ []) c.loop-x.invariant (c.number_at.ensures.value ∙ ap (λ (b : ℕ). number_from c.args.region.now.lists b 0 c.args.digits.now x) c.from.ensures)
    ∙ sym (map-range_with_len_more (number_from c.args.region.now.lists c.args.len 0 c.args.digits.now) 0 x x (omega arith)))
